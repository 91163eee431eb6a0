use Rattle.std.proofs.Common.{◌≡◌, ◌+◌, ◌≤◌, length, List, ℕ, Some, [], ◌∷◌, ap, sym, ◌∙◌, refl, subst, arith}
use Rattle.judy_arena.specs.Blocks.{words_of}
use Rattle.judy_model.specs.Contents.{word_order, with_entry, has_key}
use Rattle.judy_leaf.specs.Linear.{leaf_count}
use Rattle.judy_refs.specs.declared.Kind.TheVariants.{BitmapLeaf}
use Rattle.judy_leaf.specs.Bytes.{bitmap_entries, bitmap_size, IsBits}
use Rattle.judy_leaf.proofs.RoomFacts.{covers, still-sized, newly-sized, bitmap-more, bitmap-most, holds_len}
use Rattle.judy_leaf.proofs.BitmapLaws.{bits-live, bits-few, bits-share, moved-bits}
use Rattle.judy_leaf.proofs.lemmas.LeafLaws.{here-frame, lent-words, lent-becomes, bits-kind, takes-shared}
use Rattle.judy_leaf.proofs.Draws.{size-at, drew-none, drew}
use Rattle.judy_arena.specs.Room.{room}
use Rattle.judy_leaf.proofs.bitmap_leaf.BitsBlock.add.Goals as goal

pub size-len-requires : goal.size-len-requires
size-len-requires c = let few = bits-few c.args.self.values (words_of c.args.arena.now.blocks c.args.self.block) c.requires.leaf.0 in
    omega (arith, few, ap leaf_count c.words-words.ensures)

pub returns-then-len-words-clause-insertion : goal.returns-then-len-words-clause-insertion
returns-then-len-words-clause-insertion c =
    let f : List ℕ = words_of c.args.arena.now.blocks c.args.self.block in
    let k = bits-kind c.args.self.values c.refer_bits.result (leaf_count c.words-words.result.now + 1) c.refer_bits.ensures.full c.refer_bits.ensures.bitmap in
    let is = ap leaf_count c.words-words.ensures in
    let count : leaf_count c.insert.new.words ≡ leaf_count c.words-words.result.now + 1 = c.insert.ensures.count
    ∙ ap (λ l. leaf_count l + 1) (c.words_mut.ensures.value ∙ sym c.words-words.ensures) in (
      c.requires.absent,
      takes-shared (Some BitmapLeaf) (bitmap_entries c.args.self.values f) c.args.key
          (bits-share c.args.self.values f c.requires.leaf.0 c.args.key c.requires.shared),
      lent-becomes c.args.self.values c.args.arena.now c.args.arena.now (c.args.self.block ∷ []) _ c.refer_bits.result c.args.self.block
          c.insert.new.words k.kind k.is c.refer_bits.ensures.block
          (here-frame c.args.arena.now.blocks c.args.self.block (bits-live c.args.self.values f c.requires.leaf.0)) refl
          (c.insert.auto.words ∙ ap length c.words_mut.ensures.value)
          (k.sound c.insert.new.words c.insert.ensures.leaf count (omega (arith, is, c.requires.leaf.1))
          (still-sized (bitmap_size c.args.self.values) f c.words-words.result.now c.insert.new.words c.size-len.result
          (bitmap-more c.args.self.values (leaf_count f)) c.requires.leaf.2 c.words-words.ensures
          (c.insert.auto.words ∙ ap length c.words_mut.ensures.value) (c.insert.ensures.count ∙ ap (λ l. leaf_count l + 1)
          c.words_mut.ensures.value) c.size-len.ensures c.if-len-words.true))
          (k.entries c.insert.new.words ∙ c.insert.ensures.entries
          ∙ ap (λ l. with_entry word_order (bitmap_entries c.args.self.values l) c.args.key c.args.value) c.words_mut.ensures.value),
    )

pub insert-requires-2-clause-leaf : goal.insert-requires-2-clause-leaf
insert-requires-2-clause-leaf c =
    let s = moved-bits c.args.self.values (words_of c.args.arena.now.blocks c.args.self.block) (words_of c.grow.new.self.blocks c.in-Ok.to)
    c.words-words.result.now c.size.result c.size-len.result
    c.requires.leaf.0 c.requires.leaf.1 c.words-words.ensures c.size.ensures c.size-len.ensures c.if-len-words.false
    c.in-Ok.ensures.front (holds_len _ _ c.in-Ok.ensures.size) in
    subst (IsBits c.args.self.values) (sym c.words_mut-2.ensures.value) s.leaf

pub insert-requires-2-clause-absent : goal.insert-requires-2-clause-absent
insert-requires-2-clause-absent c =
    let s = moved-bits c.args.self.values (words_of c.args.arena.now.blocks c.args.self.block) (words_of c.grow.new.self.blocks c.in-Ok.to)
    c.words-words.result.now c.size.result c.size-len.result
    c.requires.leaf.0 c.requires.leaf.1 c.words-words.ensures c.size.ensures c.size-len.ensures c.if-len-words.false
    c.in-Ok.ensures.front (holds_len _ _ c.in-Ok.ensures.size) in
    ap (λ l. has_key word_order (bitmap_entries c.args.self.values l) c.args.key) c.words_mut-2.ensures.value
    ∙ ap (λ l. has_key word_order l c.args.key) s.entries ∙ c.requires.absent

pub grow-requires-clause-most : goal.grow-requires-clause-most
grow-requires-clause-most c =
    let few = bits-few c.args.self.values (words_of c.args.arena.now.blocks c.args.self.block) c.requires.leaf.0 in
    subst (λ m. m ≤ 512) (sym c.size-len.ensures) (bitmap-most c.args.self.values (leaf_count c.words-words.result.now + 1)
    (omega (arith, few, ap leaf_count c.words-words.ensures)))

pub insert-requires-2-clause-room : goal.insert-requires-2-clause-room
insert-requires-2-clause-room c =
    let f : List ℕ = words_of c.args.arena.now.blocks c.args.self.block in
    let g : List ℕ = words_of c.grow.new.self.blocks c.in-Ok.to in
    let long = holds_len c.size-len.result g c.in-Ok.ensures.size in
    let s = moved-bits c.args.self.values f g c.words-words.result.now c.size.result c.size-len.result
    c.requires.leaf.0 c.requires.leaf.1 c.words-words.ensures c.size.ensures c.size-len.ensures c.if-len-words.false c.in-Ok.ensures.front long in
    subst (λ l. bitmap_size c.args.self.values (leaf_count l + 1) ≤ length l) (sym c.words_mut-2.ensures.value)
    (subst (λ m. m ≤ length g) (c.size-len.ensures ∙ ap (λ m. bitmap_size c.args.self.values (m + 1)) (ap leaf_count c.words-words.ensures ∙ sym s.count)) long)

pub returns-clause-insertion : goal.returns-clause-insertion
returns-clause-insertion c =
    let f : List ℕ = words_of c.args.arena.now.blocks c.args.self.block in
    let s = moved-bits c.args.self.values f (words_of c.grow.new.self.blocks c.in-Ok.to) c.words-words.result.now c.size.result c.size-len.result
    c.requires.leaf.0 c.requires.leaf.1 c.words-words.ensures c.size.ensures c.size-len.ensures c.if-len-words.false
    c.in-Ok.ensures.front (holds_len _ _ c.in-Ok.ensures.size) in
    let k = bits-kind c.args.self.values c.refer_bits-2.result (leaf_count c.words-words.result.now + 1) c.refer_bits-2.ensures.full c.refer_bits-2.ensures.bitmap in
    let is = ap leaf_count c.words-words.ensures in
    let count : leaf_count c.insert-2.new.words ≡ leaf_count c.words-words.result.now + 1 = c.insert-2.ensures.count
    ∙ ap (λ l. leaf_count l + 1) c.words_mut-2.ensures.value ∙ ap (λ m. m + 1) (s.count ∙ sym is) in (
      c.requires.absent,
      takes-shared (Some BitmapLeaf) (bitmap_entries c.args.self.values f) c.args.key
          (bits-share c.args.self.values f c.requires.leaf.0 c.args.key c.requires.shared),
      lent-becomes c.args.self.values c.args.arena.now c.grow.new.self (c.args.self.block ∷ []) _ c.refer_bits-2.result c.in-Ok.to
          c.insert-2.new.words k.kind k.is c.refer_bits-2.ensures.block
          c.in-Ok.ensures.frame c.in-Ok.ensures.refusals
          (c.insert-2.auto.words ∙ ap length c.words_mut-2.ensures.value)
          (k.sound c.insert-2.new.words c.insert-2.ensures.leaf count (omega (arith, is, c.requires.leaf.1))
          (newly-sized (bitmap_size c.args.self.values) f c.words-words.result.now c.insert-2.new.words
          (words_of c.grow.new.self.blocks c.in-Ok.to) c.size-len.result c.words-words.ensures
          (c.insert-2.auto.words ∙ ap length c.words_mut-2.ensures.value) c.in-Ok.ensures.size
          (c.insert-2.ensures.count ∙ ap (λ l. leaf_count l + 1) c.words_mut-2.ensures.value ∙ ap (λ m. m + 1) s.count)
          c.size-len.ensures))
          (k.entries c.insert-2.new.words ∙ c.insert-2.ensures.entries
          ∙ ap (λ l. with_entry word_order (bitmap_entries c.args.self.values l) c.args.key c.args.value) c.words_mut-2.ensures.value
          ∙ ap (λ l. with_entry word_order l c.args.key c.args.value) s.entries),
    )

pub overflow_add-count : goal.overflow_add-count
overflow_add-count c = let few = bits-few c.args.self.values (words_of c.args.arena.now.blocks c.args.self.block) c.requires.leaf.0 in
    omega (arith, few, ap leaf_count c.words-words.ensures)

pub overflow_add-count-then-len-words : goal.overflow_add-count-then-len-words
overflow_add-count-then-len-words c = let few = bits-few c.args.self.values (words_of c.args.arena.now.blocks c.args.self.block)
    c.requires.leaf.0 in omega (arith, few, ap leaf_count c.words-words.ensures)

pub size-requires : goal.size-requires
size-requires c = let few = bits-few c.args.self.values (words_of c.args.arena.now.blocks c.args.self.block) c.requires.leaf.0 in
    omega (arith, few, ap leaf_count c.words-words.ensures)

pub returns-in_default-clause-insertion : goal.returns-in_default-clause-insertion
returns-in_default-clause-insertion c =
    let f : List ℕ = words_of c.args.arena.now.blocks c.args.self.block in (
      c.requires.absent,
      takes-shared (Some BitmapLeaf) (bitmap_entries c.args.self.values f) c.args.key
          (bits-share c.args.self.values f c.requires.leaf.0 c.args.key c.requires.shared),
      (c.in_default.ensures.unchanged, c.in_default.ensures.refusals),
    )

pub returns-then-len-words-clause-region : goal.returns-then-len-words-clause-region
returns-then-len-words-clause-region c =
    let size = c.insert.auto.words ∙ ap length c.words_mut.ensures.value in
    let same = size-at _ c.refer_bits.result c.args.self.block c.refer_bits.ensures.block
    ∙ ap length (lent-words c.args.arena.now c.args.self.block c.insert.new.words size) ∙ size in
    drew-none c.args.arena.now _ _ _ refl (omega (arith, same))

pub returns-clause-region : goal.returns-clause-region
returns-clause-region c =
    let size = c.insert-2.auto.words ∙ ap length c.words_mut-2.ensures.value in
    let old = ap length c.words-words.ensures in
    let more = c.if-len-words.false in
    let h = covers c.size-len.result in
    drew c.args.arena.now _ (length (words_of c.args.arena.now.blocks c.args.self.block)) _ (room c.size-len.result)
    (size-at _ c.refer_bits-2.result c.in-Ok.to c.refer_bits-2.ensures.block
    ∙ ap length (lent-words c.grow.new.self c.in-Ok.to c.insert-2.new.words size) ∙ size ∙ c.in-Ok.ensures.size)
    (omega (arith, old, more, h)) c.grow.ensures.reuse c.in-Ok.ensures.growth
