use Rattle.std.proofs.Common.{◌+◌, ◌-◌, ◌∙◌, take, drop, set, ap}
use lib.Seq.{paste}
use Rattle.judy_leaf.proofs.TwoGaps.{opened-two}
use Rattle.judy_leaf.proofs.shift.open_two.Goals as goal

pub returns : goal.returns
returns c =
    let low = c.args.low in let high = c.args.high in
    ap (λ l. take (c.args.used + 2) (set (set l low c.args.one) (high + 1) c.args.other))
    (c.copy_within-2.ensures.after ∙ ap (λ l. paste l (low + 1) (drop low l) (high - low)) c.copy_within.ensures.after)
    ∙ opened-two c.args.words.now c.args.used low high c.args.one c.args.other c.requires.order c.requires.place c.requires.room
