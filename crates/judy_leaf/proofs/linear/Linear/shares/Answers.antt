use Rattle.judy_leaf.proofs.ConvertLaws.{shares-then, shares-else}
use Rattle.judy_leaf.proofs.linear.Linear.shares.Goals as goal

pub returns-then-self-key : goal.returns-then-self-key
returns-then-self-key c = shares-then c.args.self.values c.args.self.words.now c.args.self.sound c.args.key c.if-self-key.true

pub returns-else-self-key : goal.returns-else-self-key
returns-else-self-key c = shares-else c.args.self.values c.args.self.words.now c.args.self.sound c.args.key c.if-self-key.false
