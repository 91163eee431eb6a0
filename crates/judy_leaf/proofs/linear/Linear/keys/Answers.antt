use Rattle.std.proofs.Common.{length, ap, sym, ◌∙◌, subst}
use Rattle.std.specs.List.Sorted.{IsStrictlyIncreasing}
use Rattle.judy_leaf.proofs.LinearLaws.{keys-of, keys-count}
use Rattle.judy_leaf.proofs.LinearQueries.{keys-increase}
use Rattle.judy_leaf.proofs.linear.Linear.keys.Goals as goal

pub returns-clause-all : goal.returns-clause-all
returns-clause-all c = keys-of c.args.self.values c.args.self.words.now c.args.self.sound ∙ sym c.keys.ensures

pub returns-clause-rising : goal.returns-clause-rising
returns-clause-rising c = subst IsStrictlyIncreasing (sym c.keys.ensures) (keys-increase c.args.self.values c.args.self.words.now c.args.self.sound)

pub returns-clause-count : goal.returns-clause-count
returns-clause-count c = ap length c.keys.ensures ∙ keys-count c.args.self.values c.args.self.words.now c.args.self.sound.room
