use Rattle.std.proofs.Common.{◌≡◌, ap, ◌∙◌, arith, length, get_or, set, ◌<◌, ◌+◌, ◌++◌}
use Rattle.std.proofs.lemmas.List.{length-append, length-set, get_or-set_same}
use Rattle.judy_region.proofs.lemmas.Flat.{length-zeros}
use Rattle.judy_region.specs.Flat as region
use Rattle.judy_arena.specs.Blocks.{total_words}
use Rattle.judy_arena.specs.Layout.{linked}
use Rattle.judy_arena.proofs.Grows.{sound-grow, blocks-grow, ok_of}
use Rattle.judy_arena.proofs.Pools.{head-fits}
use Rattle.judy_arena.proofs.Whole.{whole}
use Rattle.judy_arena.proofs.pool.Pool.grow.Goals as goal

pub free-requires-clause-there : goal.free-requires-clause-there
free-requires-clause-there c =
    let l = c.len-n.ensures in let k = c.self.inside.marks.ok.0 in let s = c.self.invariant.0.0.sized in
    let z = length-zeros 512 in let e = ap length (ok_of c.grow.result c.grow.ensures.ok c.if-is_err.ensures.negation) in
    let a = length-append c.self.inside.region (region.zeros 512) in
    omega (arith, l, k, s, z, e, a)

pub free-requires-clause-few : goal.free-requires-clause-few
free-requires-clause-few c = (head-fits _ _ _ c.self.invariant.0 7 (omega arith)).0

pub free-requires-clause-next : goal.free-requires-clause-next
free-requires-clause-next c =
    let h = (head-fits _ _ _ c.self.invariant.0 7 (omega arith)).1 in
    let e = ap length (ok_of c.grow.result c.grow.ensures.ok c.if-is_err.ensures.negation) in
    let a = length-append c.self.inside.region (region.zeros 512) in omega (arith, h, e, a)

-- where the new marks begin
first : (c : goal.After-free) → c.len-n.result ≡ length c.self.inside.marks.items
first c = let l = c.len-n.ensures in let k = c.self.inside.marks.ok.0 in omega (arith, l, k)

-- the fields as they are left
marks_are : (c : goal.After-free) → c.free.new.marks.items ≡ set (c.self.inside.marks.items ++ region.zeros 128) (length c.self.inside.marks.items) 16
marks_are c =
    c.free.ensures.marks ∙ ap (λ v. set v c.len-n.result 16) (c.add_marks.ensures.items ∙ ap (λ v. v ++ region.zeros 128) c.make_room.ensures.items)
    ∙ ap (λ j. set (c.self.inside.marks.items ++ region.zeros 128) j 16) (first c)

words_are : (c : goal.After-free) → c.free.new.region ≡ linked (c.self.inside.region ++ region.zeros 512)
    (length c.self.inside.marks.items) (get_or c.self.inside.heads 7 0)
words_are c = c.free.ensures.region ∙ ap (λ v. linked v c.len-n.result (get_or c.self.inside.heads 7 0))
    (ok_of c.grow.result c.grow.ensures.ok c.if-is_err.ensures.negation)
    ∙ ap (λ j. linked (c.self.inside.region ++ region.zeros 512) j (get_or c.self.inside.heads 7 0)) (first c)

heads_are : (c : goal.After-free) → c.free.new.heads ≡ set c.self.inside.heads 7 (length c.self.inside.marks.items + 1)
heads_are c = c.free.ensures.heads ∙ ap (λ j. set c.self.inside.heads 7 (j + 1)) (first c)

pub invariant_of-self-2 : goal.invariant_of-self-2
invariant_of-self-2 c =
    let few : length c.self.inside.marks.items < 4294967296 = let l = first c in let f = c.if-n-eq-NUMBERS.false in
    let m = c.self.invariant.0.2 in grind (arith, l, f, m) in
    let room = c.make_room.ensures.room c.if-not-make_room.false in
    let long : length c.free.new.marks.items ≡ length c.self.inside.marks.items + 128 =
    ap length (marks_are c) ∙ length-set (c.self.inside.marks.items ++ region.zeros 128) (length c.self.inside.marks.items) 16
    ∙ (let a = length-append c.self.inside.marks.items (region.zeros 128) in let z = length-zeros 128 in omega (arith, a, z)) in
    let same = c.free.ensures.capacity in let more = c.add_marks.ensures.capacity in (
      rw (marks_are c, words_are c, heads_are c) (sound-grow _ _ _ c.self.invariant.0.0 c.self.invariant.0.1 c.self.invariant.0.3 few),
      rw long (let low = room.0 in let high = room.1 in (omega (arith, same, more, low), omega (arith, same, more, high))),
    )

pub returns-clause-blocks : goal.returns-clause-blocks
returns-clause-blocks c = rw (marks_are c, words_are c) (blocks-grow _ _ _ c.self.invariant.0.0 c.self.invariant.0.1
    c.self.invariant.0.3) ∙ (ap (λ p. p.blocks) c.self.view_is)

pub returns-clause-some : goal.returns-clause-some
returns-clause-some c _ =
    let e = ap (λ hs. get_or hs 7 0) (heads_are c) in let n = c.self.invariant.0.1 in
    let s = get_or-set_same c.self.inside.heads 7 (length c.self.inside.marks.items + 1) 0 (omega (arith, n)) in omega (arith, e, s)

pub free-requires-clause-marked : goal.free-requires-clause-marked
free-requires-clause-marked c =
    let l = c.len-n.ensures in let k = c.self.inside.marks.ok.0 in let e = ap length c.add_marks.ensures.items in let i = ap length c.make_room.ensures.items in
    let a = length-append c.make_room.new.marks.items (region.zeros 128) in let z = length-zeros 128 in omega (arith, l, k, e, i, a, z)

pub returns-clause-region : goal.returns-clause-region
returns-clause-region c _ =
    let long : length c.free.new.marks.items ≡ length c.self.inside.marks.items + 128 =
    ap length (marks_are c) ∙ length-set (c.self.inside.marks.items ++ region.zeros 128) (length c.self.inside.marks.items) 16
    ∙ (let a = length-append c.self.inside.marks.items (region.zeros 128) in let z = length-zeros 128 in omega (arith, a, z)) in
    let v = ap (λ p. p.region) c.self.view_is in omega (arith, long, v)

pub returns-clause-free : goal.returns-clause-free
returns-clause-free c taken =
    let old = whole _ _ _ c.self.invariant.0 in let new = whole _ _ _ (invariant_of-self-2 c).0 in
    let b = ap total_words (returns-clause-blocks c) in let s = ap (λ p. total_words p.blocks) c.self.view_is in
    let f = ap (λ p. p.free) c.self.view_is in let r = ap (λ p. p.region) c.self.view_is in let g = returns-clause-region c taken in
    omega (arith, old, new, b, s, f, r, g)
