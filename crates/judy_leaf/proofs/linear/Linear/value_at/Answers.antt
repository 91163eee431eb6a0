use Rattle.std.proofs.Common.{sym}
use Rattle.judy_leaf.proofs.LinearLaws.{value-there, value-true, value-false}
use Rattle.judy_leaf.proofs.linear.Linear.value_at.Goals as goal

pub returns-then-self : goal.returns-then-self
returns-then-self c = value-there c.args.self.values c.args.self.words.now c.args.self.sound c.args.place _ c.requires
    (sym (value-true c.args.self.values c.args.self.words.now c.args.place c.if-self.true c.requires))

pub returns-else-self : goal.returns-else-self
returns-else-self c = value-there c.args.self.values c.args.self.words.now c.args.self.sound c.args.place 0 c.requires
    (sym (value-false c.args.self.values c.args.self.words.now c.args.place c.if-self.false))
