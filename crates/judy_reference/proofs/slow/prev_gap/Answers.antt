use Rattle.std.proofs.Common.{sym, ◌∙◌, arith}
use Rattle.judy_reference.proofs.SlowLemmas.{prev_empty-below}
use Rattle.judy_reference.proofs.slow.prev_gap.Goals as goal

pub returns : goal.returns
returns c = c.last_gap.ensures ∙ sym (prev_empty-below c.args.entries.now c.args.x (omega arith))
