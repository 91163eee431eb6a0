use Rattle.std.proofs.Common.{◌≡◌, ◌+◌, ◌-◌, ◌<◌, ◌≤◌, cond, length, List, ℕ, Some, [], ◌∷◌, ap, sym, ◌∙◌, refl, subst, arith}
use Rattle.judy_arena.specs.Blocks.{words_of}
use Rattle.judy_arena.specs.Room.{room}
use Rattle.judy_leaf.proofs.RoomFacts.{covers, seven, backed, bitmap-less, cut-sized}
use Rattle.judy_refs.specs.declared.Kind.TheVariants.{LinearLeaf, BitmapLeaf}
use Rattle.judy_arena.proofs.lemmas.RoomLaws.{room-mono}
use Rattle.judy_model.specs.Contents.{word_order, without_key, value_of}
use Rattle.judy_leaf.specs.Linear.{leaf_count, linear_size}
use Rattle.judy_leaf.specs.Bytes.{bitmap_size, bitmap_entries, IsBits}
use Rattle.judy_leaf.proofs.LinearLaws.{cut}
use Rattle.judy_leaf.proofs.BitmapLaws.{bits-live, bits-few, cut-bits}
use Rattle.judy_leaf.proofs.lemmas.LeafLaws.{named, here-frame, write-frame, lent, lent-words, cut-becomes}
use Rattle.judy_leaf.proofs.bitmap_leaf.BitsBlock.remove.Goals as goal

-- one key less
one-less : (x w : List ℕ) (f : List ℕ) → x ≡ f → leaf_count w + 1 ≡ leaf_count f → leaf_count w + 1 ≡ leaf_count x
one-less x w f is one = one ∙ ap leaf_count (sym is)

pub words_mut-requires-then-count-eq8 : goal.words_mut-requires-then-count-eq8
words_mut-requires-then-count-eq8 c =
    let f : List ℕ = words_of c.args.arena.now.blocks c.args.self.block in
    let w : List ℕ = c.remove-value.new.words in
    let size : length w ≡ length f = c.remove-value.auto.words ∙ ap length c.words_mut.ensures.value in
    subst (λ l. 0 < length l) (sym (lent-words c.args.arena.now c.args.self.block w size))
    (subst (λ m. 0 < m) (sym size) (bits-live c.args.self.values f c.requires.leaf.0))

pub narrow-requires-clause-leaf : goal.narrow-requires-clause-leaf
narrow-requires-clause-leaf c =
    let w : List ℕ = c.remove-value.new.words in
    let size : length w ≡ length (words_of c.args.arena.now.blocks c.args.self.block) = c.remove-value.auto.words ∙ ap length c.words_mut.ensures.value in
    subst (IsBits c.args.self.values) (sym (c.words_mut-then-count-eq8.ensures.value ∙ lent-words c.args.arena.now c.args.self.block w size))
    c.remove-value.ensures.leaf

pub narrow-requires-clause-seven : goal.narrow-requires-clause-seven
narrow-requires-clause-seven c =
    let w : List ℕ = c.remove-value.new.words in
    let size : length w ≡ length (words_of c.args.arena.now.blocks c.args.self.block) = c.remove-value.auto.words ∙ ap length c.words_mut.ensures.value in
    let one : leaf_count w + 1 ≡ leaf_count c.words.result.now = one-less c.words.result.now w c.words_mut.result.now
    (c.words.ensures ∙ sym c.words_mut.ensures.value) c.remove-value.ensures.count in
    let seven : leaf_count w ≡ 7 = omega (arith, one, c.if-count-eq8.true) in
    ap leaf_count (c.words_mut-then-count-eq8.ensures.value ∙ lent-words c.args.arena.now c.args.self.block w size) ∙ seven

pub shrink-requires-clause-within : goal.shrink-requires-clause-within
shrink-requires-clause-within c =
    let w : List ℕ = c.remove-value.new.words in
    let size : length w ≡ length (words_of c.args.arena.now.blocks c.args.self.block) = c.remove-value.auto.words ∙ ap length c.words_mut.ensures.value in
    let mid = lent c.args.arena.now c.args.self.block w in
    let again : length c.narrow.new.words ≡ length (words_of mid.blocks c.args.self.block) = c.narrow.auto.words
    ∙ ap length c.words_mut-then-count-eq8.ensures.value in
    subst (λ l. c.size.result ≤ length l) (sym (lent-words mid c.args.self.block c.narrow.new.words again))
    (subst (λ m. m ≤ length c.narrow.new.words) (sym c.size.ensures)
    (subst (λ m. linear_size c.args.self.values m ≤ length c.narrow.new.words) c.narrow.ensures.count c.narrow.ensures.leaf.room))

pub returns-then-count-eq8-clause-removal : goal.returns-then-count-eq8-clause-removal
returns-then-count-eq8-clause-removal c =
    let f : List ℕ = words_of c.args.arena.now.blocks c.args.self.block in
    let w : List ℕ = c.remove-value.new.words in
    let x : List ℕ = c.narrow.new.words in
    let size : length w ≡ length f = c.remove-value.auto.words ∙ ap length c.words_mut.ensures.value in
    let mid = lent c.args.arena.now c.args.self.block w in
    let again : length x ≡ length (words_of mid.blocks c.args.self.block) = c.narrow.auto.words ∙ ap length c.words_mut-then-count-eq8.ensures.value in
    let late = lent mid c.args.self.block x in
    let is : linear_size c.args.self.values (leaf_count x) ≡ c.size.result = ap (linear_size c.args.self.values) c.narrow.ensures.count ∙ sym c.size.ensures in
    let eight : leaf_count f ≡ 8 = ap leaf_count (sym c.words.ensures) ∙ c.if-count-eq8.true in
    let same = cut c.args.self.values x (room c.size.result) c.narrow.ensures.leaf (subst (λ m. m ≤ room c.size.result) (sym is) (covers c.size.result)) in
    let here = here-frame c.args.arena.now.blocks c.args.self.block (bits-live c.args.self.values f c.requires.leaf.0) in
    let frame = write-frame c.args.arena.now.blocks mid.blocks late.blocks (c.args.self.block ∷ []) c.args.self.block _
    (write-frame c.args.arena.now.blocks c.args.arena.now.blocks mid.blocks (c.args.self.block ∷ []) c.args.self.block _ here refl) refl in (
      subst (λ l. value_of word_order (bitmap_entries c.args.self.values l) c.args.key ≡ Some c.remove-value.result)
          c.words_mut.ensures.value c.remove-value.ensures.value,
      cut-becomes c.args.self.values c.args.arena.now late c.shrink.new.self (c.args.self.block ∷ []) _ c.refer.result c.args.self.block
          (room c.size.result) x LinearLeaf c.refer.ensures.kind c.refer.ensures.block
          frame refl (lent-words mid c.args.self.block x again) c.shrink.ensures.blocks c.shrink.ensures.refusals (
            same.leaf,
            cut-sized (linear_size c.args.self.values) c.size.result (bitmap_size c.args.self.values 8) x
                (again ∙ ap length (lent-words c.args.arena.now c.args.self.block w size) ∙ size ∙ c.requires.leaf.2
                ∙ ap (λ m. room (bitmap_size c.args.self.values m)) eight) (subst (λ m. room m ≤ room (bitmap_size c.args.self.values 8))
                (sym c.size.ensures) (seven c.args.self.values)) (sym is) same.count,
          )
          (same.entries ∙ c.narrow.ensures.entries ∙ ap (bitmap_entries c.args.self.values)
          (c.words_mut-then-count-eq8.ensures.value ∙ lent-words c.args.arena.now c.args.self.block w size)
          ∙ c.remove-value.ensures.entries ∙ ap (λ l. without_key word_order (bitmap_entries c.args.self.values l) c.args.key) c.words_mut.ensures.value),
      (named c.refer.result c.args.self.block c.refer.ensures.block).0,
    )

pub size-requires-2 : goal.size-requires-2
size-requires-2 c = let few = bits-few c.args.self.values (words_of c.args.arena.now.blocks c.args.self.block) c.requires.leaf.0 in
    omega (arith, few, ap leaf_count c.words.ensures)

pub shrink-requires-2-clause-within : goal.shrink-requires-2-clause-within
shrink-requires-2-clause-within c =
    let w : List ℕ = c.remove-value.new.words in
    let size : length w ≡ length (words_of c.args.arena.now.blocks c.args.self.block) = c.remove-value.auto.words ∙ ap length c.words_mut.ensures.value in
    let one : leaf_count w + 1 ≡ leaf_count c.words.result.now = one-less c.words.result.now w c.words_mut.result.now
    (c.words.ensures ∙ sym c.words_mut.ensures.value) c.remove-value.ensures.count in
    let count : leaf_count w ≡ leaf_count c.words.result.now - 1 = omega (arith, one) in
    subst (λ l. c.size-2.result ≤ length l) (sym (lent-words c.args.arena.now c.args.self.block w size))
    (subst (λ m. m ≤ length w) (sym c.size-2.ensures) (subst (λ m. bitmap_size c.args.self.values m ≤ length w) count c.remove-value.ensures.leaf.room))

pub returns-clause-removal : goal.returns-clause-removal
returns-clause-removal c =
    let f : List ℕ = words_of c.args.arena.now.blocks c.args.self.block in
    let w : List ℕ = c.remove-value.new.words in
    let size : length w ≡ length f = c.remove-value.auto.words ∙ ap length c.words_mut.ensures.value in
    let one : leaf_count w + 1 ≡ leaf_count c.words.result.now = one-less c.words.result.now w c.words_mut.result.now
    (c.words.ensures ∙ sym c.words_mut.ensures.value) c.remove-value.ensures.count in
    let count : leaf_count w ≡ leaf_count c.words.result.now - 1 = omega (arith, one) in
    let mid = lent c.args.arena.now c.args.self.block w in
    let is_size : c.size-2.result ≡ bitmap_size c.args.self.values (leaf_count w) = c.size-2.ensures ∙ ap (bitmap_size c.args.self.values) (sym count) in
    let at = ap leaf_count c.words.ensures in
    let most = bits-few c.args.self.values f c.requires.leaf.0 in
    let left : 8 ≤ leaf_count w = omega (arith, one, at, c.requires.leaf.1, c.if-count-eq8.false) in
    let back : cond c.args.self.values 15 8 ≤ room c.size-2.result = subst (λ m. cond c.args.self.values 15 8 ≤ room m) (sym is_size)
    (backed c.args.self.values (leaf_count w) left (omega (arith, one, at, most))) in
    let same = cut-bits c.args.self.values w (room c.size-2.result) c.remove-value.ensures.leaf
    (subst (λ m. m ≤ room c.size-2.result) is_size (covers c.size-2.result)) back in
    let less : room c.size-2.result ≤ room (bitmap_size c.args.self.values (leaf_count f)) =
    room-mono c.size-2.result (bitmap_size c.args.self.values (leaf_count f))
    (subst (λ m. m ≤ bitmap_size c.args.self.values (leaf_count f)) (sym is_size)
    (bitmap-less c.args.self.values (leaf_count w) (leaf_count f) (omega (arith, one, at)))) in
    let is = ap leaf_count c.words.ensures in
    let few = bits-few c.args.self.values f c.requires.leaf.0 in
    let here = here-frame c.args.arena.now.blocks c.args.self.block (bits-live c.args.self.values f c.requires.leaf.0) in (
      subst (λ l. value_of word_order (bitmap_entries c.args.self.values l) c.args.key ≡ Some c.remove-value.result)
          c.words_mut.ensures.value c.remove-value.ensures.value,
      cut-becomes c.args.self.values c.args.arena.now mid c.shrink-2.new.self (c.args.self.block ∷ []) _ c.refer-2.result c.args.self.block
          (room c.size-2.result) w BitmapLeaf c.refer-2.ensures.kind c.refer-2.ensures.block
          (write-frame c.args.arena.now.blocks c.args.arena.now.blocks mid.blocks (c.args.self.block ∷ []) c.args.self.block _ here refl)
          refl (lent-words c.args.arena.now c.args.self.block w size) c.shrink-2.ensures.blocks c.shrink-2.ensures.refusals (
            record { bits = same.leaf; many = omega (arith, same.count, left); few = omega (arith, same.count, one, is, few) },
            cut-sized (bitmap_size c.args.self.values) c.size-2.result (bitmap_size c.args.self.values (leaf_count f)) w
                (size ∙ c.requires.leaf.2) less is_size same.count,
          )
          (same.entries ∙ c.remove-value.ensures.entries ∙ ap (λ l. without_key word_order (bitmap_entries c.args.self.values l)
          c.args.key) c.words_mut.ensures.value),
      (named c.refer-2.result c.args.self.block c.refer-2.ensures.block).0,
    )
