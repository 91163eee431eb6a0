use Rattle.std.proofs.Common.{◌≡◌, ap, sym, ◌∙◌, arith, length, get_or, ◌<◌, ◌≤◌, ◌-◌, ◌+◌, ◌*◌, ℕ, true, false}
use Rattle.std.proofs.lemmas.Bool.Decides.{nat_tests}
use Rattle.std.proofs.lemmas.Grind.{get_or_default_zero}
use Rattle.judy_arena.specs.Blocks.{words_of}
use Rattle.judy_arena.specs.Layout.{span, marks_live}
use Rattle.judy_arena.proofs.Grows.{past}
use Rattle.judy_arena.proofs.Seen.{size-live, size-dead}
use Rattle.judy_arena.proofs.pool.Pool.size.Goals as goal

-- a mark is live from 1 to 8
none : (m : ℕ) → m ≡ 0 → marks_live m ≡ false
none m e = grind (arith, nat_tests, e)

beyond : (m : ℕ) → 8 < m → marks_live m ≡ false
beyond m l = grind (arith, nat_tests, l)

live : (m : ℕ) → 0 < m → m ≤ 8 → marks_live m ≡ true
live m a b = grind (arith, nat_tests, a, b)

pub returns-then-n-len : goal.returns-then-n-len
returns-then-n-len c =
    let t = c.if-n-len.true in let e = c.len.ensures in let k = c.self.inside.marks.ok.0 in
    let z = past c.self.inside.marks.items c.args.n (omega (arith, t, e, k)) in
    sym (sym (ap (λ p. length (words_of p.blocks c.args.n)) c.self.view_is) ∙ size-dead _ _ _ c.self.invariant.0.0 c.args.n (none _ z))

pub returns-then-mark-eq0 : goal.returns-then-mark-eq0
returns-then-mark-eq0 c =
    let t = c.if-n-len.false in let e = c.len.ensures in let k = c.self.inside.marks.ok.0 in let q = c.if-mark-eq0.true in
    let z : c.index-mark.result.now ≡ get_or c.self.inside.marks.items c.args.n 0 = c.index-mark.ensures ∙ get_or_default_zero
    c.self.inside.marks.items c.args.n c.index-mark.result.now (omega (arith, t, e, k)) in
    sym (sym (ap (λ p. length (words_of p.blocks c.args.n)) c.self.view_is) ∙ size-dead _ _ _ c.self.invariant.0.0 c.args.n
    (none (get_or c.self.inside.marks.items c.args.n 0) (grind (arith, nat_tests, z, q))))

pub returns-then-mark-gt8 : goal.returns-then-mark-gt8
returns-then-mark-gt8 c =
    let t = c.if-n-len.false in let e = c.len.ensures in let k = c.self.inside.marks.ok.0 in let q = c.if-mark-gt8.true in
    let z : c.index-mark.result.now ≡ get_or c.self.inside.marks.items c.args.n 0 = c.index-mark.ensures ∙ get_or_default_zero
    c.self.inside.marks.items c.args.n c.index-mark.result.now (omega (arith, t, e, k)) in
    sym (sym (ap (λ p. length (words_of p.blocks c.args.n)) c.self.view_is) ∙ size-dead _ _ _ c.self.invariant.0.0 c.args.n
    (beyond (get_or c.self.inside.marks.items c.args.n 0) (omega (arith, z, q))))

pub returns : goal.returns
returns c =
    let t = c.if-n-len.false in let e = c.len.ensures in let k = c.self.inside.marks.ok.0 in let q = c.if-mark-gt8.false in let p = c.if-mark-eq0.false in
    let z : c.index-mark.result.now ≡ get_or c.self.inside.marks.items c.args.n 0 = c.index-mark.ensures ∙ get_or_default_zero
    c.self.inside.marks.items c.args.n c.index-mark.result.now (omega (arith, t, e, k)) in
    let some : 0 < c.index-mark.result.now = grind (arith, nat_tests, p) in
    let s = size-live _ _ _ c.self.invariant.0.0 c.args.n (live (get_or c.self.inside.marks.items c.args.n 0) (omega (arith, z, some)) (omega (arith, z, q))) in
    let m : c.index-mark.result.now - 1 + 1 ≡ get_or c.self.inside.marks.items c.args.n 0 = omega (arith, z, some) in
    c.size_of_class.ensures ∙ ap (λ j. span j * 4) m ∙ sym (sym (ap (λ x. length (words_of x.blocks c.args.n)) c.self.view_is) ∙ s)
