use Rattle.std.proofs.Common.{rules, ◌≡◌, ap, sym, subst, ◌∙◌, arith, length, length-set, set, take, ◌<◌, ◌/◌, ◌-◌, ◌+◌, ◌*◌}
use Rattle.std.proofs.lemmas.List.{length-take}
use Rattle.judy_arena.specs.Blocks.{words_of, put, total_words}
use Rattle.judy_arena.specs.Ready.{greatest}
use Rattle.judy_arena.specs.Layout.{span, blocks_of}
use Rattle.judy_arena.proofs.SizeLaws.{total-put, total-without}
use Rattle.judy_arena.proofs.Whole.{whole}
use Rattle.judy_arena.proofs.Pools.{at, size, head-fits}
use Rattle.judy_arena.proofs.Halves.{halves, laid-halve, halve-seen}
use Rattle.judy_arena.proofs.Cuts.{span-half}
use Rattle.judy_arena.proofs.ReadyLaws.{ready-more, ready-put}
use Rattle.judy_arena.proofs.pool.Pool.halve.Goals as goal

pub index-requires : goal.index-requires
index-requires c = let r = c.requires in
    let m = (at _ _ _ c.self.invariant.0 _ (ap (λ p. p.blocks) c.self.view_is) c.args.n (omega (arith, r))).marked in search rules

pub overflow_sub-half : goal.overflow_sub-half
overflow_sub-half c = let f = halves _ _ _ c.self.invariant.0.0 c.args.n c.index.result.now c.index.ensures
    (subst (λ p. 4 < length (words_of p.blocks c.args.n)) (sym c.self.view_is) c.requires) in f.two

pub size_of_class-requires : goal.size_of_class-requires
size_of_class-requires c = let f = halves _ _ _ c.self.invariant.0.0 c.args.n c.index.result.now c.index.ensures
    (subst (λ p. 4 < length (words_of p.blocks c.args.n)) (sym c.self.view_is) c.requires) in let l = f.class in omega (arith, l)

pub index_mut-requires : goal.index_mut-requires
index_mut-requires c = let f = halves _ _ _ c.self.invariant.0.0 c.args.n c.index.result.now c.index.ensures
    (subst (λ p. 4 < length (words_of p.blocks c.args.n)) (sym c.self.view_is) c.requires) in let m = f.marked in
    let o = c.self.inside.marks.ok.0 in omega (arith, m, o)

pub free-requires-clause-class : goal.free-requires-clause-class
free-requires-clause-class c = let f = halves _ _ _ c.self.invariant.0.0 c.args.n c.index.result.now c.index.ensures
    (subst (λ p. 4 < length (words_of p.blocks c.args.n)) (sym c.self.view_is) c.requires) in let l = f.class in omega (arith, l)

pub free-requires-clause-number : goal.free-requires-clause-number
free-requires-clause-number c = let f = halves _ _ _ c.self.invariant.0.0 c.args.n c.index.result.now c.index.ensures
    (subst (λ p. 4 < length (words_of p.blocks c.args.n)) (sym c.self.view_is) c.requires) in
    let q : c.size_of_class.result / 4 ≡ span (c.index.result.now - 2 + 1) = let e = c.size_of_class.ensures in omega (arith, e)
    in let u = f.upper in let most = c.self.invariant.0.2 in omega (arith, u, most, q)

pub free-requires-clause-marked : goal.free-requires-clause-marked
free-requires-clause-marked c = let f = halves _ _ _ c.self.invariant.0.0 c.args.n c.index.result.now c.index.ensures
    (subst (λ p. 4 < length (words_of p.blocks c.args.n)) (sym c.self.view_is) c.requires) in
    let q : c.size_of_class.result / 4 ≡ span (c.index.result.now - 2 + 1) = let e = c.size_of_class.ensures in omega (arith, e)
    in let u = f.upper in
    let e = length-set c.self.inside.marks.items c.args.n (c.index.result.now - 2 + 1) in omega (arith, u, q, e)

pub free-requires-clause-there : goal.free-requires-clause-there
free-requires-clause-there c = let f = halves _ _ _ c.self.invariant.0.0 c.args.n c.index.result.now c.index.ensures
    (subst (λ p. 4 < length (words_of p.blocks c.args.n)) (sym c.self.view_is) c.requires) in
    let q : c.size_of_class.result / 4 ≡ span (c.index.result.now - 2 + 1) = let e = c.size_of_class.ensures in omega (arith, e)
    in rw q f.there

pub free-requires-clause-few : goal.free-requires-clause-few
free-requires-clause-few c = let f = halves _ _ _ c.self.invariant.0.0 c.args.n c.index.result.now c.index.ensures
    (subst (λ p. 4 < length (words_of p.blocks c.args.n)) (sym c.self.view_is) c.requires) in let l = f.class in
    (head-fits _ _ _ c.self.invariant.0 (c.index.result.now - 2) (omega (arith, l))).0

pub free-requires-clause-next : goal.free-requires-clause-next
free-requires-clause-next c = let f = halves _ _ _ c.self.invariant.0.0 c.args.n c.index.result.now c.index.ensures
    (subst (λ p. 4 < length (words_of p.blocks c.args.n)) (sym c.self.view_is) c.requires) in let l = f.class in
    (head-fits _ _ _ c.self.invariant.0 (c.index.result.now - 2) (omega (arith, l))).1

pub invariant_of-self : goal.invariant_of-self
invariant_of-self c = let f = halves _ _ _ c.self.invariant.0.0 c.args.n c.index.result.now c.index.ensures
    (subst (λ p. 4 < length (words_of p.blocks c.args.n)) (sym c.self.view_is) c.requires) in
    let q : c.size_of_class.result / 4 ≡ span (c.index.result.now - 2 + 1) = let e = c.size_of_class.ensures in
    omega (arith, e) in
    rw (c.free.ensures.region, c.free.ensures.marks, c.free.ensures.heads, c.free.ensures.capacity, q) (
      (
        laid-halve _ _ _ c.self.invariant.0.0 c.self.invariant.0.1 c.args.n (c.index.result.now - 2) f.is f.class,
        length-set c.self.inside.heads (c.index.result.now - 2) (c.args.n + span (c.index.result.now - 2 + 1) + 1) ∙ c.self.invariant.0.1,
        rw (
          length-set (set c.self.inside.marks.items c.args.n (c.index.result.now - 2 + 1))
              (c.args.n + span (c.index.result.now - 2 + 1)) (c.index.result.now - 2 + 9),
          length-set c.self.inside.marks.items
              c.args.n (c.index.result.now - 2 + 1),
        ) c.self.invariant.0.2,
        rw (
          length-set (set c.self.inside.marks.items c.args.n (c.index.result.now - 2 + 1))
              (c.args.n + span (c.index.result.now - 2 + 1)) (c.index.result.now - 2 + 9),
          length-set c.self.inside.marks.items
              c.args.n (c.index.result.now - 2 + 1),
        ) c.self.invariant.0.3,
      ),
      rw (
        length-set (set c.self.inside.marks.items c.args.n (c.index.result.now - 2 + 1))
            (c.args.n + span (c.index.result.now - 2 + 1)) (c.index.result.now - 2 + 9),
        length-set c.self.inside.marks.items c.args.n
            (c.index.result.now - 2 + 1),
      ) c.self.invariant.1,
    )

pub returns-clause-blocks : goal.returns-clause-blocks
returns-clause-blocks c = let f = halves _ _ _ c.self.invariant.0.0 c.args.n c.index.result.now c.index.ensures
    (subst (λ p. 4 < length (words_of p.blocks c.args.n)) (sym c.self.view_is) c.requires) in
    let q : c.size_of_class.result / 4 ≡ span (c.index.result.now - 2 + 1) = let e = c.size_of_class.ensures in
    omega (arith, e) in
    rw (c.free.ensures.region, c.free.ensures.marks, q) (halve-seen _ _ _ c.self.invariant.0.0 c.self.invariant.0.1 c.args.n
    (c.index.result.now - 2) f.is f.class f.some
    ∙ ap (λ k. put (blocks_of c.self.inside.marks.items c.self.inside.region) c.args.n
    (take k (words_of (blocks_of c.self.inside.marks.items c.self.inside.region) c.args.n))) (sym f.half)
    ∙ ap (λ p. put p.blocks c.args.n (take (length (words_of p.blocks c.args.n) / 2) (words_of p.blocks c.args.n))) c.self.view_is)

pub returns-clause-ready : goal.returns-clause-ready
returns-clause-ready c =
    let q : c.size_of_class.result / 4 ≡ span (c.index.result.now - 2 + 1) = let e = c.size_of_class.ensures in omega (arith, e) in
    let r = ready-more c.self.inside.heads (c.index.result.now - 2) (c.args.n + c.size_of_class.result / 4 + 1) (omega arith) in
    let v = ap (λ p. greatest p.heads) c.self.view_is in let u = ap greatest c.free.ensures.heads in omega (arith, r, v, u)

pub returns-clause-freed : goal.returns-clause-freed
returns-clause-freed c =
    let f = halves _ _ _ c.self.invariant.0.0 c.args.n c.index.result.now c.index.ensures
    (subst (λ p. 4 < length (words_of p.blocks c.args.n)) (sym c.self.view_is) c.requires) in
    let z = size _ _ _ c.self.invariant.0 _ (ap (λ p. p.blocks) c.self.view_is) c.args.n (let r = c.requires in omega (arith, r)) in
    let e = ap (λ m. span m * 4) f.is in let h = span-half (c.index.result.now - 2) f.class in let l = f.class in
    let r = ready-put c.self.inside.heads (c.index.result.now - 2) (c.args.n + c.size_of_class.result / 4 + 1) (omega (arith, l))
    c.self.invariant.0.1 (omega arith) in
    let u = ap greatest c.free.ensures.heads in omega (arith, z, e, h, r, u)

pub returns-clause-region : goal.returns-clause-region
returns-clause-region c =
    rw (
      c.free.ensures.marks,
      length-set (set c.self.inside.marks.items c.args.n (c.index.result.now - 2 + 1))
          (c.args.n + c.size_of_class.result / 4) (c.index.result.now - 2 + 9),
      length-set c.self.inside.marks.items c.args.n
          (c.index.result.now - 2 + 1),
    ) (ap (λ p. p.region) c.self.view_is)

pub returns-clause-free : goal.returns-clause-free
returns-clause-free c =
    let old = whole _ _ _ c.self.invariant.0 in let new = whole _ _ _ (invariant_of-self c).0 in
    let b = c.args.self.now.blocks in let half = take (length (words_of b c.args.n) / 2) (words_of b c.args.n) in
    let t = ap total_words (returns-clause-blocks c) in let p = total-put b c.args.n half in let w = total-without b c.args.n in
    let l = length-take (length (words_of b c.args.n) / 2) (words_of b c.args.n) in
    let s = ap (λ p. total_words p.blocks) c.self.view_is in let f = ap (λ p. p.free) c.self.view_is in
    let r = ap (λ p. p.region) c.self.view_is in let g = returns-clause-region c in omega (arith, old, new, t, p, w, l, s, f, r, g)
