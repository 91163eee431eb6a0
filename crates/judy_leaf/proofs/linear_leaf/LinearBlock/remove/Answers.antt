use Rattle.std.proofs.Common.{◌≡◌, Bool, ◌+◌, ◌-◌, ◌≤◌, length, take, List, ℕ, Some, [], ◌∷◌, is_some, ap, sym, ◌∙◌, refl, subst, arith}
use Rattle.std.specs.Prelude.{slice_get, map}
use Rattle.judy_arena.specs.Blocks.{words_of}
use Rattle.judy_arena.specs.Room.{room}
use Rattle.judy_leaf.proofs.RoomFacts.{covers, cut-sized}
use Rattle.judy_refs.specs.declared.Kind.TheVariants.{LinearLeaf}
use Rattle.judy_arena.proofs.lemmas.RoomLaws.{room-mono}
use Rattle.judy_model.specs.Contents.{word_order, without_key, value_of}
use Rattle.judy_leaf.specs.Leaf.{IsLinearLeaf}
use Rattle.judy_leaf.specs.Linear.{leaf_count, linear_size, linear_entries, IsLinear, GoesTo, StandsAt}
use Rattle.judy_leaf.proofs.EntryLaws.{one-gone}
use Rattle.judy_leaf.proofs.LinearLaws.{look-other, value-found, linear-live, linear-length, size-less, cut}
use Rattle.judy_leaf.proofs.lemmas.LeafLaws.{becomes, emptied, named, here-frame, write-frame, lent, lent-words}
use Rattle.judy_leaf.proofs.linear_leaf.LinearBlock.remove.Goals as goal

-- a leaf with one key less, in a block that is cut to the words that it uses
fewer : (v : Bool) (f w x : List ℕ) (s : ℕ) → IsLinear v w → x ≡ f → leaf_count w + 1 ≡ leaf_count f → s ≡ linear_size v
    (leaf_count x - 1) → s ≡ linear_size v (leaf_count w)
fewer v f w x s leaf is one size = size ∙ ap (linear_size v) (let e = ap leaf_count is in omega arith)

-- the value of the key that was found
found : (v : Bool) (f x : List ℕ) (leaf : IsLinear v f) (p key y : ℕ) → x ≡ f → StandsAt x key p
    → slice_get (map (λ (e : ℕ × ℕ). e.1) (linear_entries v x)) p ≡ Some y → value_of word_order (linear_entries v f) key ≡ Some y
found v f x leaf p key y is at e = value-found v f leaf p key y (subst (λ l. StandsAt l key p) is at)
    (subst (λ l. slice_get (map (λ (e : ℕ × ℕ). e.1) (linear_entries v l)) p ≡ Some y) is e)

pub returns-in_default-clause-removal : goal.returns-in_default-clause-removal
returns-in_default-clause-removal c =
    let f : List ℕ = words_of c.args.arena.now.blocks c.args.self.block in
    let at : GoesTo c.words.result.now c.args.key c.in_default.field-0 = c.in_default.ensures in (
      ap is_some (look-other c.args.self.values f c.requires.0 c.in_default.field-0 c.args.key
          (subst (λ x. GoesTo x c.args.key c.in_default.field-0) c.words.ensures at)),
      (refl, refl),
    )

pub returns-then-count-eq1-clause-removal : goal.returns-then-count-eq1-clause-removal
returns-then-count-eq1-clause-removal c =
    let f : List ℕ = words_of c.args.arena.now.blocks c.args.self.block in
    let value = found c.args.self.values f c.words.result.now c.requires.0 c.in-Ok.place c.args.key c.value_at-value.result
    c.words.ensures c.in-Ok.ensures c.value_at-value.ensures in
    let one : length (linear_entries c.args.self.values f) ≡ 1 = linear-length c.args.self.values f c.requires.0 ∙ ap leaf_count
    (sym c.words.ensures) ∙ c.if-count-eq1.true in (
      value,
      one-gone (linear_entries c.args.self.values f) c.args.key one (ap is_some value),
      emptied c.args.self.values c.args.arena.now
          c.release.new.self c.args.self.block [] refl c.release.ensures.blocks c.release.ensures.refusals,
    )

pub shrink-requires-clause-within : goal.shrink-requires-clause-within
shrink-requires-clause-within c =
    let w : List ℕ = c.remove.new.words in
    let size : length w ≡ length (words_of c.args.arena.now.blocks c.args.self.block) = c.remove.auto.words ∙ ap length c.words_mut.ensures.value in
    let e = lent-words c.args.arena.now c.args.self.block w size in
    let s = fewer c.args.self.values c.words_mut.result.now w c.words.result.now c.size.result c.remove.ensures.leaf
    (c.words.ensures ∙ sym c.words_mut.ensures.value) c.remove.ensures.count c.size.ensures in
    subst (λ l. c.size.result ≤ length l) (sym e) (subst (λ m. m ≤ length w) (sym s) c.remove.ensures.leaf.room)

pub returns-clause-removal : goal.returns-clause-removal
returns-clause-removal c =
    let f : List ℕ = words_of c.args.arena.now.blocks c.args.self.block in
    let w : List ℕ = c.remove.new.words in
    let size : length w ≡ length f = c.remove.auto.words ∙ ap length c.words_mut.ensures.value in
    let e = lent-words c.args.arena.now c.args.self.block w size in
    let s = fewer c.args.self.values c.words_mut.result.now w c.words.result.now c.size.result c.remove.ensures.leaf
    (c.words.ensures ∙ sym c.words_mut.ensures.value) c.remove.ensures.count c.size.ensures in
    let same = cut c.args.self.values w (room c.size.result) c.remove.ensures.leaf (subst (λ m. m ≤ room c.size.result) s (covers c.size.result)) in
    let is : words_of c.shrink.new.self.blocks c.args.self.block ≡ take (room c.size.result) w = c.shrink.ensures.words ∙ ap (take (room c.size.result)) e in
    let here = here-frame c.args.arena.now.blocks c.args.self.block (linear-live c.args.self.values f c.requires.0) in
    let frame = write-frame c.args.arena.now.blocks (lent c.args.arena.now c.args.self.block w).blocks c.shrink.new.self.blocks
    (c.args.self.block ∷ []) c.args.self.block _
    (write-frame c.args.arena.now.blocks c.args.arena.now.blocks (lent c.args.arena.now c.args.self.block w).blocks (c.args.self.block ∷ [])
    c.args.self.block _ here refl) c.shrink.ensures.blocks in (
      found c.args.self.values f c.words.result.now c.requires.0 c.in-Ok.place c.args.key c.value_at-value.result
          c.words.ensures c.in-Ok.ensures c.value_at-value.ensures,
      becomes c.args.self.values c.args.arena.now c.shrink.new.self (c.args.self.block ∷ []) _ c.refer.result c.args.self.block LinearLeaf
          c.refer.ensures.kind c.refer.ensures.block frame c.shrink.ensures.refusals
          (subst (IsLinearLeaf c.args.self.values) (sym is) (
            same.leaf,
            cut-sized (linear_size c.args.self.values) c.size.result (linear_size c.args.self.values (leaf_count f)) w (size ∙ c.requires.1)
                (room-mono c.size.result (linear_size c.args.self.values (leaf_count f))
                (subst (λ m. m ≤ linear_size c.args.self.values (leaf_count f)) (sym s)
                (size-less c.args.self.values (leaf_count w) (leaf_count f)
                (let e = c.remove.ensures.count ∙ ap leaf_count c.words_mut.ensures.value in omega (arith, e))))) s same.count,
          ))
          (ap (linear_entries c.args.self.values) is ∙ same.entries ∙ c.remove.ensures.entries
          ∙ ap (λ l. without_key word_order (linear_entries c.args.self.values l) c.args.key) c.words_mut.ensures.value),
      (named c.refer.result c.args.self.block c.refer.ensures.block).0,
    )
