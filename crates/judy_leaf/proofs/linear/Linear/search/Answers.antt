use Rattle.std.proofs.Common.{arith}
use Rattle.judy_leaf.proofs.Strides.{placed-in, missed-in}
use Rattle.judy_leaf.proofs.linear.Linear.search.Goals as goal

pub returns-then-place-stored : goal.returns-then-place-stored
returns-then-place-stored c =
    missed-in c.args.self.values c.args.self.words.now c.keys-stored.result.now c.args.self.sound c.keys-stored.ensures.stored c.rank-place.result
    c.args.key c.rank-place.ensures.within c.rank-place.ensures.under c.rank-place.ensures.over
    (λ h. absurd (omega (arith, h, c.if-place-stored.true)))

pub returns-then-stored-place : goal.returns-then-stored-place
returns-then-stored-place c =
    placed-in c.args.self.values c.args.self.words.now c.keys-stored.result.now c.args.self.sound c.keys-stored.ensures.stored c.rank-place.result
    c.args.key (let w = c.rank-place.ensures.within in omega (arith, w, c.if-place-stored.false)) c.if-stored-place.true

pub returns : goal.returns
returns c =
    missed-in c.args.self.values c.args.self.words.now c.keys-stored.result.now c.args.self.sound c.keys-stored.ensures.stored c.rank-place.result
    c.args.key c.rank-place.ensures.within c.rank-place.ensures.under c.rank-place.ensures.over
    (λ h. c.if-stored-place.false)
