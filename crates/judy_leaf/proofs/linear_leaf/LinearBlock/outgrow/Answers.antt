use Rattle.std.proofs.Common.{◌≡◌, ◌+◌, ◌≤◌, cond, length, List, ℕ, Some, [], ◌∷◌, ap, sym, ◌∙◌, refl, subst, arith}
use Rattle.judy_arena.specs.Blocks.{words_of}
use Rattle.judy_arena.specs.Room.{room}
use Rattle.judy_leaf.proofs.RoomFacts.{covers, backed, fewer_words, cut-sized}
use Rattle.judy_refs.specs.declared.Kind.TheVariants.{LinearLeaf, BitmapLeaf}
use Rattle.judy_arena.proofs.lemmas.RoomLaws.{room-mono}
use Rattle.judy_model.specs.Contents.{word_order, with_entry}
use Rattle.judy_leaf.specs.Entries.{share_bytes}
use Rattle.judy_leaf.specs.Linear.{leaf_count, linear_size, linear_entries}
use Rattle.judy_leaf.specs.Bytes.{bitmap_size}
use Rattle.judy_leaf.proofs.LinearLaws.{linear-live, linear-length}
use Rattle.judy_leaf.proofs.BitmapLaws.{cut-bits}
use Rattle.judy_leaf.proofs.lemmas.LeafLaws.{here-frame, write-frame, lent, lent-words, cut-becomes, takes-shared}
use Rattle.std.proofs.lemmas.List.{length-take}
use Rattle.judy_leaf.proofs.Draws.{size-at, drew-none}
use Rattle.judy_leaf.proofs.linear_leaf.LinearBlock.outgrow.Goals as goal

pub returns-then-not-shares-clause-insertion : goal.returns-then-not-shares-clause-insertion
returns-then-not-shares-clause-insertion c = (
  c.requires.absent,
  (
    ap (λ l. share_bytes (linear_entries c.args.self.values l) c.args.key) (sym c.words.ensures) ∙ sym c.shares.ensures
        ∙ c.if-not-shares.true,
    λ _. linear-length c.args.self.values (words_of c.args.arena.now.blocks c.args.self.block) c.requires.leaf.0
        ∙ c.requires.many,
  ),
  (refl, refl),
)

pub shrink-requires-clause-within : goal.shrink-requires-clause-within
shrink-requires-clause-within c =
    let f : List ℕ = words_of c.args.arena.now.blocks c.args.self.block in
    let w : List ℕ = c.insert.new.words in
    let size : length w ≡ length f = c.insert.auto.words ∙ c.widen.auto.words ∙ ap length c.words_mut-words.ensures.value in
    let count : leaf_count w ≡ 32 = c.insert.ensures.count ∙ ap (λ m. m + 1)
    (c.widen.ensures.count ∙ ap leaf_count c.words_mut-words.ensures.value ∙ c.requires.many) in
    subst (λ l. c.size.result ≤ length l) (sym (lent-words c.args.arena.now c.args.self.block w size))
    (subst (λ m. m ≤ length w) (sym c.size.ensures) (subst (λ m. bitmap_size c.args.self.values m ≤ length w) count c.insert.ensures.leaf.room))

pub returns-clause-insertion : goal.returns-clause-insertion
returns-clause-insertion c =
    let f : List ℕ = words_of c.args.arena.now.blocks c.args.self.block in
    let w : List ℕ = c.insert.new.words in
    let size : length w ≡ length f = c.insert.auto.words ∙ c.widen.auto.words ∙ ap length c.words_mut-words.ensures.value in
    let count : leaf_count w ≡ 32 = c.insert.ensures.count ∙ ap (λ m. m + 1)
    (c.widen.ensures.count ∙ ap leaf_count c.words_mut-words.ensures.value ∙ c.requires.many) in
    let is_size : c.size.result ≡ bitmap_size c.args.self.values (leaf_count w) = c.size.ensures ∙ ap (bitmap_size c.args.self.values) (sym count) in
    let back : cond c.args.self.values 15 8 ≤ room c.size.result = subst (λ m. cond c.args.self.values 15 8 ≤ room m) (sym c.size.ensures)
    (backed c.args.self.values 32 (omega arith) (omega arith)) in
    let same = cut-bits c.args.self.values w (room c.size.result) c.insert.ensures.leaf (subst (λ m. m ≤ room c.size.result) is_size (covers c.size.result)) back in
    let was : length w ≡ room (linear_size c.args.self.values 31) = size ∙ c.requires.leaf.1 ∙ ap (λ m. room (linear_size c.args.self.values m)) c.requires.many in
    let less : room c.size.result ≤ room (linear_size c.args.self.values 31) = room-mono c.size.result (linear_size c.args.self.values 31)
    (subst (λ m. m ≤ linear_size c.args.self.values 31) (sym c.size.ensures) (fewer_words c.args.self.values)) in
    let is = same.count ∙ count in
    let here = here-frame c.args.arena.now.blocks c.args.self.block (linear-live c.args.self.values f c.requires.leaf.0) in (
      c.requires.absent,
      takes-shared (Some LinearLeaf) (linear_entries c.args.self.values f) c.args.key
          (ap (λ l. share_bytes (linear_entries c.args.self.values l) c.args.key) (sym c.words.ensures) ∙ sym c.shares.ensures
          ∙ c.if-not-shares.false),
      cut-becomes c.args.self.values c.args.arena.now (lent c.args.arena.now c.args.self.block w) c.shrink.new.self (c.args.self.block ∷ []) _
          c.refer.result c.args.self.block (room c.size.result) w BitmapLeaf c.refer.ensures.kind c.refer.ensures.block
          (write-frame c.args.arena.now.blocks c.args.arena.now.blocks (lent c.args.arena.now c.args.self.block w).blocks
          (c.args.self.block ∷ []) c.args.self.block _ here refl) refl
          (lent-words c.args.arena.now c.args.self.block w size) c.shrink.ensures.blocks c.shrink.ensures.refusals (
            record { bits = same.leaf; many = omega (arith, is); few = omega (arith, is) },
            cut-sized (bitmap_size c.args.self.values)
                c.size.result (linear_size c.args.self.values 31) w was less is_size same.count,
          )
          (same.entries ∙ c.insert.ensures.entries ∙ ap (λ l. with_entry word_order l c.args.key c.args.value)
          (c.widen.ensures.entries ∙ ap (linear_entries c.args.self.values) c.words_mut-words.ensures.value)),
    )

pub returns-clause-region : goal.returns-clause-region
returns-clause-region c =
    let f : List ℕ = words_of c.args.arena.now.blocks c.args.self.block in
    let w : List ℕ = c.insert.new.words in
    let size : length w ≡ length f = c.insert.auto.words ∙ c.widen.auto.words ∙ ap length c.words_mut-words.ensures.value in
    let cut = size-at _ c.refer.result c.args.self.block c.refer.ensures.block ∙ ap length c.shrink.ensures.words
    ∙ length-take (room c.size.result) (words_of (lent c.args.arena.now c.args.self.block w).blocks c.args.self.block) in
    let was = ap length (lent-words c.args.arena.now c.args.self.block w size) in
    drew-none c.args.arena.now c.shrink.new.self (length f) _ c.shrink.ensures.region (omega (arith, cut, was, size))
