use Rattle.std.proofs.Common.{◌≡◌, ◌<◌, ℕ, false, get_or}
use Rattle.judy_model.specs.Grammar.{is_space}
use Rattle.judy_server.proofs.records.parts.Given as goal

abbrev pub invariant-loop-at : goal.invariant-loop-at
invariant-loop-at l = (k : ℕ) → k < l.at → is_space (get_or l.bytes k 0) ≡ false
