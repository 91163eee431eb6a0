-- the last one so far
use Rattle.std.proofs.Common.{◌≡◌, take}
use Rattle.std.specs.Prelude.{filter}
use Rattle.std.specs.Option.{option_copied}
use Rattle.std.specs.Ordering.{is_lt}
use Rattle.judy_model.specs.Contents.{string_order, last_of}
use Rattle.judy_reference.proofs.slow.prev_string.Given as goal

abbrev pub invariant-loop-e : goal.invariant-loop-e
invariant-loop-e l = option_copied l.best ≡ last_of (filter (λ e. is_lt (string_order e.0 l.x)) (take l.e-index l.entries))
