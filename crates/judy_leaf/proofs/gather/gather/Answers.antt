use Rattle.std.proofs.Common.{length, ℕ, ◌∙◌, arith}
use Rattle.judy_leaf.specs.Views.{of_leaf}
use Rattle.judy_leaf.proofs.Gathered.{stretch, few-at-hand}
use Rattle.judy_leaf.proofs.gather.gather.Goals as goal

pub overflow_add-place : goal.overflow_add-place
overflow_add-place c =
    omega (arith, few-at-hand c.args.leaf, c.requires.within, c.loop-i-test.true, c.loop-i.auto.i-end, c.loop-i.invariant.0)

pub returns-clause-keys : goal.returns-clause-keys
returns-clause-keys c =
    stretch (λ (e : ℕ × ℕ). e.0) (of_leaf c.args.leaf) c.args.from
    (length c.args.keys.now) c.loop-i.keys c.loop-i.invariant.0 c.requires.within
    (λ j h. c.loop-i.invariant.2 j (omega (arith, h, c.loop-i-test.false, c.loop-i.auto.i-end)))

pub returns-clause-values : goal.returns-clause-values
returns-clause-values c =
    stretch (λ (e : ℕ × ℕ). e.1) (of_leaf c.args.leaf) c.args.from
    (length c.args.keys.now) c.loop-i.vals (c.loop-i.invariant.1 ∙ c.requires.same) c.requires.within
    (λ j h. c.loop-i.invariant.3 j (omega (arith, h, c.loop-i-test.false, c.loop-i.auto.i-end)))
