use Rattle.std.proofs.Common.{◌≡◌, ap, sym, subst, ◌∙◌, arith, length, get_or, ◌<◌}
use Rattle.std.proofs.lemmas.Bool.Decides.{nat_tests}
use Rattle.judy_arena.proofs.Grows.{past}
use Rattle.judy_arena.proofs.Chains.{by_lt}
use Rattle.judy_arena.proofs.pool.Pool.first.Goals as goal

pub returns-clause-none : goal.returns-clause-none
returns-clause-none c j l =
    let t = c.loop-j-test.false in let e = ap (λ p. length p.heads) c.self.view_is in let n = c.self.invariant.0.1 in
    by_lt j 8 (λ o. c.loop-j.invariant j l (omega (arith, o, t))) (λ o. past c.args.self.now.heads j (omega (arith, o, e, n)))

pub returns-clause-classes : goal.returns-clause-classes
returns-clause-classes c = sym (ap (λ p. length p.heads) c.self.view_is) ∙ c.self.invariant.0.1

pub returns-then-self-j-ne0-clause-classes : goal.returns-then-self-j-ne0-clause-classes
returns-then-self-j-ne0-clause-classes c = sym (ap (λ p. length p.heads) c.self.view_is) ∙ c.self.invariant.0.1

pub returns-then-self-j-ne0-clause-some : goal.returns-then-self-j-ne0-clause-some
returns-then-self-j-ne0-clause-some c =
    let t = c.if-self-j-ne0.true in let l = c.loop-j-test.true in let a = c.loop-j.auto.j in
    let h : 0 < get_or c.self.inside.heads c.loop-j.j 0 = grind (arith, nat_tests, t) in
    (a, l, subst (λ p. 0 < get_or p.heads c.loop-j.j 0) c.self.view_is h)

pub loop-j-preserved : goal.loop-j-preserved
loop-j-preserved c k a b =
    let t = c.if-self-j-ne0.false in
    let z : get_or c.self.inside.heads c.loop-j.j 0 ≡ 0 = grind (arith, nat_tests, t) in
    by_lt k c.loop-j.j (λ o. c.loop-j.invariant k a o)
    (λ o. let i : c.loop-j.j ≡ k = omega (arith, o, b) in
    subst (λ q. get_or c.args.self.now.heads q 0 ≡ 0) i (subst (λ p. get_or p.heads c.loop-j.j 0 ≡ 0) c.self.view_is z))
