use Rattle.std.proofs.Common.{◌≡◌, ℕ, List, ◌+◌, ◌%◌, ◌<◌, ◌≤◌, Bool, true, cond, Some, length, drop, sym, ap, ◌∙◌, subst, arith}
use Rattle.std.specs.Prelude.{slice_index}
use Rattle.std.proofs.lemmas.List.{get_or-drop}
use Rattle.judy_bitmap.specs.ByteSets.{below}
use Rattle.judy_model.specs.Contents.{word_order, value_of, has_key}
use Rattle.judy_leaf.specs.Bytes.{bitmap_bytes, bitmap_entries, IsBits}
use Rattle.judy_leaf.specs.Linear.{leaf_count}
use Rattle.judy_leaf.proofs.BitmapLaws.{value-present, value-read, rank-within, room-for}
use Rattle.judy_leaf.proofs.bitmap.Bits.get.Goals as goal

-- the value of a present key, as it is read
module _ (v : Bool) (ws : List ℕ) (leaf : IsBits v ws) (key : ℕ) (there : has_key word_order (bitmap_entries v ws) key ≡ true) where
  abbrev rank : ℕ
  rank = length (below (bitmap_bytes ws) (key % 256))

  inside : rank < leaf_count ws
  inside = let r = rank-within v ws leaf key there in let n = leaf.count in omega (arith, r, n)

  here : cond v (6 + (rank + 1)) 6 ≤ length ws
  here = room-for v (leaf_count ws) rank (length ws) inside leaf.room

  read : value_of word_order (bitmap_entries v ws) key ≡ Some (cond v (slice_index (drop 6 ws) rank) 0)
  read = value-present v ws leaf key there ∙ ap Some (value-read v (leaf_count ws) rank ws inside leaf.room)

pub returns-then-not-self : goal.returns-then-not-self
returns-then-not-self c =
    sym (read c.args.self.values c.args.self.words.now c.args.self.sound c.args.key (sym c.has.ensures ∙ c.if-not-has.false)
    ∙ ap (λ t. Some
    (cond t (slice_index (drop 6 c.args.self.words.now) (rank c.args.self.values c.args.self.words.now c.args.self.sound c.args.key
    (sym c.has.ensures ∙ c.if-not-has.false))) 0)) c.if-not-self.true)

pub bounds-self-rank : goal.bounds-self-rank
bounds-self-rank c =
    let r = c.rank-rank.ensures.rank in
    let h = subst
    (λ t. cond t (6 + (rank c.args.self.values c.args.self.words.now c.args.self.sound c.args.key (sym c.has.ensures ∙ c.if-not-has.false) + 1))
    6 ≤ length c.args.self.words.now) c.if-not-self.false
    (here c.args.self.values c.args.self.words.now c.args.self.sound c.args.key (sym c.has.ensures ∙ c.if-not-has.false)) in
    omega (arith, r, h)

pub returns : goal.returns
returns c =
    let f : List ℕ = c.args.self.words.now in
    let r = c.rank-rank.ensures.rank in
    sym (read c.args.self.values f c.args.self.sound c.args.key (sym c.has.ensures ∙ c.if-not-has.false)
    ∙ ap (λ t. Some (cond t (slice_index (drop 6 f) (length (below (bitmap_bytes f) (c.args.key % 256)))) 0)) c.if-not-self.false
    ∙ ap (λ k. Some (slice_index (drop 6 f) k)) (sym r) ∙ ap Some (get_or-drop 6 f c.rank-rank.result 0))
