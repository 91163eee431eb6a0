use Rattle.std.proofs.Common.{length, arith}
use Rattle.judy_leaf.proofs.Strides.{parted-below}
use Rattle.judy_leaf.proofs.keys.rank.Goals as goal

pub returns-then-count-start-gt3-clause-below : goal.returns-then-count-start-gt3-clause-below
returns-then-count-start-gt3-clause-below c =
    (parted-below c.args.keys.now c.args.x c.place_in.result c.requires c.place_in.ensures.within c.place_in.ensures.under c.place_in.ensures.over).0

pub returns-then-count-start-gt3-clause-above : goal.returns-then-count-start-gt3-clause-above
returns-then-count-start-gt3-clause-above c =
    (parted-below c.args.keys.now c.args.x c.place_in.result c.requires c.place_in.ensures.within c.place_in.ensures.under c.place_in.ensures.over).1

pub returns-then-count-gt3-clause-below : goal.returns-then-count-gt3-clause-below
returns-then-count-gt3-clause-below c =
    let at = c.place_in-then-count-gt3 in
    (parted-below c.args.keys.now c.args.x at.result c.requires at.ensures.within at.ensures.under at.ensures.over).0

pub returns-then-count-gt3-clause-above : goal.returns-then-count-gt3-clause-above
returns-then-count-gt3-clause-above c =
    let at = c.place_in-then-count-gt3 in
    (parted-below c.args.keys.now c.args.x at.result c.requires at.ensures.within at.ensures.under at.ensures.over).1

pub returns-then-keys-place-clause-below : goal.returns-then-keys-place-clause-below
returns-then-keys-place-clause-below c =
    (parted-below c.args.keys.now c.args.x c.loop-place.place c.requires (omega (arith, c.loop-place-test.true))
    c.loop-place.invariant (λ _. omega (arith, c.if-keys-place.true))).0

pub returns-then-keys-place-clause-above : goal.returns-then-keys-place-clause-above
returns-then-keys-place-clause-above c =
    (parted-below c.args.keys.now c.args.x c.loop-place.place c.requires (omega (arith, c.loop-place-test.true))
    c.loop-place.invariant (λ _. omega (arith, c.if-keys-place.true))).1

pub returns-clause-below : goal.returns-clause-below
returns-clause-below c =
    (parted-below c.args.keys.now c.args.x (length c.args.keys.now) c.requires (omega arith)
    (λ i h. c.loop-place.invariant i (omega (arith, h, c.loop-place-test.false))) (λ h. absurd (omega (arith, h)))).0

pub returns-clause-above : goal.returns-clause-above
returns-clause-above c =
    (parted-below c.args.keys.now c.args.x (length c.args.keys.now) c.requires (omega arith)
    (λ i h. c.loop-place.invariant i (omega (arith, h, c.loop-place-test.false))) (λ h. absurd (omega (arith, h)))).1
