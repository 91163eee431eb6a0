use Rattle.std.proofs.Common.{◌+◌, ◌≤◌, arith, length, List, ℕ, [], ◌∷◌, is_some, ap, sym, ◌∙◌, refl, subst}
use Rattle.judy_arena.specs.Blocks.{words_of}
use Rattle.judy_refs.specs.declared.Kind.TheVariants.{LinearLeaf}
use Rattle.judy_model.specs.Contents.{word_order, with_entry}
use Rattle.judy_leaf.specs.Linear.{leaf_count, linear_size, linear_entries, IsLinear, GoesTo}
use Rattle.judy_leaf.proofs.RoomFacts.{covers, still-sized, newly-sized, holds_len}
use Rattle.judy_leaf.proofs.LinearLaws.{look-other, linear-live, linear-length, size-less, moved, same-place}
use Rattle.judy_leaf.proofs.lemmas.LeafLaws.{lent-becomes, lent-words, here-frame, takes-few}
use Rattle.judy_leaf.proofs.Draws.{size-at, drew-none, drew}
use Rattle.judy_arena.specs.Room.{room}
use Rattle.judy_leaf.proofs.linear_leaf.LinearBlock.add.Goals as goal

pub returns-then-len-words-clause-insertion : goal.returns-then-len-words-clause-insertion
returns-then-len-words-clause-insertion c =
    let f : List ℕ = words_of c.args.arena.now.blocks c.args.self.block in (
      ap is_some (look-other c.args.self.values f c.requires.leaf.0 c.args.place c.args.key c.requires.place),
      takes-few (linear_entries c.args.self.values f) c.args.key (leaf_count f) (linear-length c.args.self.values f c.requires.leaf.0) c.requires.few,
      lent-becomes c.args.self.values c.args.arena.now c.args.arena.now (c.args.self.block ∷ []) _ c.refer.result c.args.self.block
          c.insert.new.words LinearLeaf c.refer.ensures.kind c.refer.ensures.block
          (here-frame c.args.arena.now.blocks c.args.self.block (linear-live c.args.self.values f c.requires.leaf.0)) refl
          (c.insert.auto.words ∙ ap length c.words_mut.ensures.value) (
            c.insert.ensures.leaf,
            still-sized (linear_size c.args.self.values) f c.words-words.result.now c.insert.new.words c.size-len.result
                (size-less c.args.self.values (leaf_count f) (leaf_count f + 1) (omega arith)) c.requires.leaf.1 c.words-words.ensures
                (c.insert.auto.words ∙ ap length c.words_mut.ensures.value) (c.insert.ensures.count ∙ ap (λ l. leaf_count l + 1)
                c.words_mut.ensures.value) c.size-len.ensures c.if-len-words.true,
          )
          (c.insert.ensures.entries ∙ ap (λ l. with_entry word_order (linear_entries c.args.self.values l) c.args.key c.args.value) c.words_mut.ensures.value),
    )

pub returns-in_default-clause-insertion : goal.returns-in_default-clause-insertion
returns-in_default-clause-insertion c = (
  ap is_some (look-other c.args.self.values (words_of c.args.arena.now.blocks c.args.self.block) c.requires.leaf.0 c.args.place c.args.key c.requires.place),
  takes-few _ c.args.key (leaf_count (words_of c.args.arena.now.blocks c.args.self.block))
      (linear-length c.args.self.values (words_of c.args.arena.now.blocks c.args.self.block) c.requires.leaf.0) c.requires.few,
  (c.in_default.ensures.unchanged, c.in_default.ensures.refusals),
)

pub insert-requires-2-clause-leaf : goal.insert-requires-2-clause-leaf
insert-requires-2-clause-leaf c =
    let s = moved c.args.self.values (words_of c.args.arena.now.blocks c.args.self.block) (words_of c.grow.new.self.blocks c.in-Ok.to)
    c.words-words.result.now c.size.result c.size-len.result
    c.requires.leaf.0 c.words-words.ensures c.size.ensures c.size-len.ensures c.in-Ok.ensures.front (holds_len _ _ c.in-Ok.ensures.size) in
    subst (IsLinear c.args.self.values) (sym c.words_mut-2.ensures.value) s.leaf

pub insert-requires-2-clause-place : goal.insert-requires-2-clause-place
insert-requires-2-clause-place c =
    let f : List ℕ = words_of c.args.arena.now.blocks c.args.self.block in
    let g : List ℕ = words_of c.grow.new.self.blocks c.in-Ok.to in
    let s = moved c.args.self.values f g c.words-words.result.now c.size.result c.size-len.result
    c.requires.leaf.0 c.words-words.ensures c.size.ensures c.size-len.ensures c.in-Ok.ensures.front (holds_len _ _ c.in-Ok.ensures.size) in
    subst (λ x. GoesTo x c.args.key c.args.place) (sym c.words_mut-2.ensures.value)
    (same-place c.args.self.values f g c.args.key c.args.place c.requires.leaf.0 s c.requires.place)

pub insert-requires-2-clause-room : goal.insert-requires-2-clause-room
insert-requires-2-clause-room c =
    let f : List ℕ = words_of c.args.arena.now.blocks c.args.self.block in
    let g : List ℕ = words_of c.grow.new.self.blocks c.in-Ok.to in
    let long = holds_len c.size-len.result g c.in-Ok.ensures.size in
    let s = moved c.args.self.values f g c.words-words.result.now c.size.result c.size-len.result
    c.requires.leaf.0 c.words-words.ensures c.size.ensures c.size-len.ensures c.in-Ok.ensures.front long in
    subst (λ l. linear_size c.args.self.values (leaf_count l + 1) ≤ length l) (sym c.words_mut-2.ensures.value)
    (subst (λ m. m ≤ length g) (c.size-len.ensures ∙ ap (λ m. linear_size c.args.self.values (m + 1)) (ap leaf_count c.words-words.ensures ∙ sym s.count)) long)

pub returns-clause-insertion : goal.returns-clause-insertion
returns-clause-insertion c =
    let f : List ℕ = words_of c.args.arena.now.blocks c.args.self.block in
    let g : List ℕ = words_of c.grow.new.self.blocks c.in-Ok.to in
    let s = moved c.args.self.values f g c.words-words.result.now c.size.result c.size-len.result
    c.requires.leaf.0 c.words-words.ensures c.size.ensures c.size-len.ensures c.in-Ok.ensures.front (holds_len _ _ c.in-Ok.ensures.size) in (
      ap is_some (look-other c.args.self.values f c.requires.leaf.0 c.args.place c.args.key c.requires.place),
      takes-few (linear_entries c.args.self.values f) c.args.key (leaf_count f) (linear-length c.args.self.values f c.requires.leaf.0) c.requires.few,
      lent-becomes c.args.self.values c.args.arena.now c.grow.new.self (c.args.self.block ∷ []) _ c.refer-2.result c.in-Ok.to
          c.insert-2.new.words LinearLeaf c.refer-2.ensures.kind c.refer-2.ensures.block
          c.in-Ok.ensures.frame c.in-Ok.ensures.refusals
          (c.insert-2.auto.words ∙ ap length c.words_mut-2.ensures.value) (
            c.insert-2.ensures.leaf,
            newly-sized (linear_size c.args.self.values) f c.words-words.result.now c.insert-2.new.words g c.size-len.result c.words-words.ensures
                (c.insert-2.auto.words ∙ ap length c.words_mut-2.ensures.value) c.in-Ok.ensures.size
                (c.insert-2.ensures.count ∙ ap (λ l. leaf_count l + 1) c.words_mut-2.ensures.value ∙ ap (λ m. m + 1) s.count)
                c.size-len.ensures,
          )
          (c.insert-2.ensures.entries ∙ ap (λ l. with_entry word_order (linear_entries c.args.self.values l) c.args.key c.args.value)
          c.words_mut-2.ensures.value ∙ ap (λ l. with_entry word_order l c.args.key c.args.value) s.entries),
    )

pub returns-then-len-words-clause-region : goal.returns-then-len-words-clause-region
returns-then-len-words-clause-region c =
    let size = c.insert.auto.words ∙ ap length c.words_mut.ensures.value in
    let same = size-at _ c.refer.result c.args.self.block c.refer.ensures.block
    ∙ ap length (lent-words c.args.arena.now c.args.self.block c.insert.new.words size) ∙ size in
    drew-none c.args.arena.now _ _ _ refl (omega (arith, same))

pub returns-clause-region : goal.returns-clause-region
returns-clause-region c =
    let size = c.insert-2.auto.words ∙ ap length c.words_mut-2.ensures.value in
    let old = ap length c.words-words.ensures in
    let more = c.if-len-words.false in
    let h = covers c.size-len.result in
    drew c.args.arena.now _ (length (words_of c.args.arena.now.blocks c.args.self.block)) _ (room c.size-len.result)
    (size-at _ c.refer-2.result c.in-Ok.to c.refer-2.ensures.block
    ∙ ap length (lent-words c.grow.new.self c.in-Ok.to c.insert-2.new.words size) ∙ size ∙ c.in-Ok.ensures.size)
    (omega (arith, old, more, h)) c.grow.ensures.reuse c.in-Ok.ensures.growth
