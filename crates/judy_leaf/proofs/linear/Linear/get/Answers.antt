use Rattle.std.proofs.Common.{sym}
use Rattle.judy_leaf.proofs.LinearLaws.{look-other, value-found}
use Rattle.judy_leaf.proofs.linear.Linear.get.Goals as goal

pub returns-in_default : goal.returns-in_default
returns-in_default c = sym (look-other c.args.self.values c.args.self.words.now c.args.self.sound c.in_default.field-0 c.args.key c.in_default.ensures)

pub returns : goal.returns
returns c = sym (value-found c.args.self.values c.args.self.words.now c.args.self.sound c.in-Ok.place c.args.key c.value_at.result
    c.in-Ok.ensures c.value_at.ensures)
