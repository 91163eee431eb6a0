use Rattle.judy_leaf.proofs.LinearLaws.{rank-there, rank-other}
use Rattle.judy_leaf.proofs.linear.Linear.find.Goals as goal

pub returns-in-Ok : goal.returns-in-Ok
returns-in-Ok c = rank-there c.args.self.values c.args.self.words.now c.args.self.sound c.in-Ok.place c.args.key c.in-Ok.ensures

pub returns-in-Err : goal.returns-in-Err
returns-in-Err c = rank-other c.args.self.values c.args.self.words.now c.args.self.sound c.in-Err.field-0 c.args.key c.in-Err.ensures
