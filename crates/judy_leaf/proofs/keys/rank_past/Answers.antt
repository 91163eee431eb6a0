use Rattle.std.proofs.Common.{length, arith}
use Rattle.judy_leaf.proofs.Strides.{parted-upto}
use Rattle.judy_leaf.proofs.keys.rank_past.Goals as goal

pub returns-clause-upto : goal.returns-clause-upto
returns-clause-upto c = (parted-upto c.args.keys.now c.args.x c.rank.result c.requires c.rank.ensures.within c.rank.ensures.under c.rank.ensures.over).0

pub returns-clause-past : goal.returns-clause-past
returns-clause-past c = (parted-upto c.args.keys.now c.args.x c.rank.result c.requires c.rank.ensures.within c.rank.ensures.under c.rank.ensures.over).1

pub returns-then-x-eq18446744073709551615-clause-upto : goal.returns-then-x-eq18446744073709551615-clause-upto
returns-then-x-eq18446744073709551615-clause-upto c =
    (parted-upto c.args.keys.now c.args.x (length c.args.keys.now) c.requires (omega arith)
    (λ i h. let w = (c.type_inv.keys i).fits in omega (arith, w, c.if-x-eq18446744073709551615.true))
    (λ h. absurd (omega (arith, h)))).0

pub returns-then-x-eq18446744073709551615-clause-past : goal.returns-then-x-eq18446744073709551615-clause-past
returns-then-x-eq18446744073709551615-clause-past c =
    (parted-upto c.args.keys.now c.args.x (length c.args.keys.now) c.requires (omega arith)
    (λ i h. let w = (c.type_inv.keys i).fits in omega (arith, w, c.if-x-eq18446744073709551615.true))
    (λ h. absurd (omega (arith, h)))).1
