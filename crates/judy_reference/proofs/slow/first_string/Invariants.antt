-- the rest of the list decides
use Rattle.std.proofs.Common.{◌≡◌, drop}
use Rattle.std.specs.Prelude.{find}
use Rattle.std.specs.Ordering.{is_ge}
use Rattle.judy_model.specs.Contents.{string_order}
use Rattle.judy_reference.proofs.slow.first_string.Given as goal

abbrev pub invariant-loop-e : goal.invariant-loop-e
invariant-loop-e l = find (λ e. is_ge (string_order e.0 l.x)) (drop l.e-index l.entries) ≡ find (λ e. is_ge (string_order e.0 l.x)) l.entries
