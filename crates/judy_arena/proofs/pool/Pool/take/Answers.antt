use Rattle.std.proofs.Common.{◌≡◌, ap, subst, ◌∙◌, arith, length, length-set, get_or, set, take, drop}
use Rattle.std.proofs.Common.{◌<◌, ◌-◌, ◌+◌, ◌*◌, ℕ, List, false}
use Rattle.judy_arena.specs.Blocks.{put, is_live, total_words}
use Rattle.judy_arena.specs.Layout.{size_of, blocks_of, IsSound, Pooled}
use Rattle.judy_arena.proofs.Pools.{seen}
use Rattle.judy_arena.proofs.Seen.{Takes, takes-first}
use Rattle.judy_arena.proofs.lemmas.BlockLaws.{only-put, words-at, none_live}
use Rattle.judy_arena.proofs.SizeLaws.{total-fresh}
use Rattle.judy_arena.proofs.Whole.{whole}
use Rattle.judy_arena.proofs.pool.Pool.take.Goals as goal

-- the first block of the list of class k
first : (marks words heads : List ℕ) (sound : IsSound marks words heads) (old : Pooled) → seen marks words heads ≡ old → (k : ℕ) → k < 8 → 0 < get_or old.heads k 0
    → Takes marks words heads sound.0 sound.1 k (get_or heads k 0 - 1) words (set heads k (get_or words ((get_or heads k 0 - 1) * 4) 0))
first marks words heads sound old view k l some =
    let e = ap (λ p. get_or p.heads k 0) view in
    takes-first marks words heads sound.0 sound.1 k (get_or heads k 0 - 1) l (omega (arith, some, e))

pub overflow_mul-n : goal.overflow_mul-n
overflow_mul-n c = let f = first _ _ _ c.self.invariant.0 c.args.self.now c.self.view_is c.args.class c.requires.class c.requires.some in
    let m = f.marked in let most = c.self.invariant.0.2 in omega (arith, m, most)

pub get-requires : goal.get-requires
get-requires c = let f = first _ _ _ c.self.invariant.0 c.args.self.now c.self.view_is c.args.class c.requires.class c.requires.some in
    let m = f.marked in let s = c.self.invariant.0.0.sized in omega (arith, m, s)

pub index_mut-requires : goal.index_mut-requires
index_mut-requires c = let f = first _ _ _ c.self.invariant.0 c.args.self.now c.self.view_is c.args.class c.requires.class c.requires.some in
    let m = f.marked in let o = c.self.inside.marks.ok.0 in omega (arith, m, o)

pub overflow_cast-result : goal.overflow_cast-result
overflow_cast-result c = let f = first _ _ _ c.self.invariant.0 c.args.self.now c.self.view_is c.args.class c.requires.class c.requires.some in
    let m = f.marked in let most = c.self.invariant.0.2 in omega (arith, m, most)

pub invariant_of-self : goal.invariant_of-self
invariant_of-self c = let f = first _ _ _ c.self.invariant.0 c.args.self.now c.self.view_is c.args.class c.requires.class c.requires.some in
    let p = get_or c.self.inside.heads c.args.class 0 - 1 in (
      (
        rw c.get.ensures f.after,
        length-set c.self.inside.heads c.args.class c.get.result ∙ c.self.invariant.0.1,
        rw (length-set c.self.inside.marks.items p (c.args.class + 1)) c.self.invariant.0.2,
        rw (length-set c.self.inside.marks.items p (c.args.class + 1)) c.self.invariant.0.3,
      ),
      rw (length-set c.self.inside.marks.items p (c.args.class + 1)) c.self.invariant.1,
    )

pub returns-clause-fresh : goal.returns-clause-fresh
returns-clause-fresh c = let f = first _ _ _ c.self.invariant.0 c.args.self.now c.self.view_is c.args.class c.requires.class c.requires.some in
    subst (λ p. is_live p.blocks (get_or c.self.inside.heads c.args.class 0 - 1) ≡ false) c.self.view_is f.fresh

-- the blocks, with what the block had
after : (c : goal.After-self-1) → blocks_of (set c.self.inside.marks.items (get_or c.self.inside.heads c.args.class 0 - 1)
    (c.args.class + 1)) c.self.inside.region
    ≡ put c.args.self.now.blocks (get_or c.self.inside.heads c.args.class 0 - 1)
    (take (size_of c.args.class) (drop ((get_or c.self.inside.heads c.args.class 0 - 1) * 4) c.self.inside.region))
after c = let f = first _ _ _ c.self.invariant.0 c.args.self.now c.self.view_is c.args.class c.requires.class c.requires.some in f.view
    ∙ ap (λ p. put p.blocks (get_or c.self.inside.heads c.args.class 0 - 1)
    (take (size_of c.args.class) (drop ((get_or c.self.inside.heads c.args.class 0 - 1) * 4) c.self.inside.region)))
    c.self.view_is

pub returns-clause-blocks : goal.returns-clause-blocks
returns-clause-blocks c = only-put _ _ _ _ (after c)

pub returns-clause-size : goal.returns-clause-size
returns-clause-size c = let f = first _ _ _ c.self.invariant.0 c.args.self.now c.self.view_is c.args.class c.requires.class c.requires.some in
    ap length (words-at _ _ _ _ (after c)) ∙ f.size

pub returns-clause-free : goal.returns-clause-free
returns-clause-free c =
    let f = first _ _ _ c.self.invariant.0 c.args.self.now c.self.view_is c.args.class c.requires.class c.requires.some in
    let p = get_or c.self.inside.heads c.args.class 0 - 1 in
    let ws = take (size_of c.args.class) (drop (p * 4) c.self.inside.region) in
    let old = whole _ _ _ c.self.invariant.0 in let new = whole _ _ _ (invariant_of-self c).0 in
    let t = ap total_words (after c) in let n = total-fresh c.args.self.now.blocks p ws (none_live _ (returns-clause-fresh c)) in
    let l = f.size in let m = length-set c.self.inside.marks.items p (c.args.class + 1) in
    let s = ap (λ p. total_words p.blocks) c.self.view_is in let g = ap (λ p. p.free) c.self.view_is in
    omega (arith, old, new, t, n, l, m, s, g)
