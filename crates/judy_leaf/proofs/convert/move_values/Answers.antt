use Rattle.std.proofs.Common.{cond, drop, take, replicate, ap, ◌∙◌}
use Rattle.judy_leaf.proofs.ConvertLaws.{pasted}
use Rattle.judy_leaf.proofs.convert.move_values.Goals as goal

pub returns-then-values-clause-values : goal.returns-then-values-clause-values
returns-then-values-clause-values c = ap (λ l. cond c.args.values l (replicate c.args.count 0))
    (ap (λ l. take c.args.count (drop c.args.to l)) c.copy_within.ensures.after
    ∙ pasted c.args.words.now c.args.from c.args.to c.args.count (c.requires.source c.if-values.true) (c.requires.room c.if-values.true))
