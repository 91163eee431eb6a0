use Rattle.std.proofs.Common.{◌≡◌, Bool, List, ℕ, true, ap, sym, ◌∙◌, refl, subst, length}
use Rattle.judy_arena.specs.Blocks.{words_of}
use Rattle.judy_refs.specs.declared.Kind.TheVariants.{LinearLeaf}
use Rattle.judy_model.specs.Contents.{word_order, has_key, with_entry}
use Rattle.judy_leaf.specs.Linear.{linear_entries, linear_size, IsLinear, leaf_count}
use Rattle.judy_leaf.specs.Leaf.{IsSized}
use Rattle.judy_arena.specs.Room.{room}
use Rattle.judy_leaf.specs.Bytes.{bitmap_entries, IsBits}
use Rattle.judy_leaf.proofs.lemmas.LeafLaws.{empty-lacks, leaf-linear, leaf-sound, entries-made, leaf-bits, leaf-live, rewritten, rewritten-bits}
use Rattle.judy_leaf.proofs.leaf.write.Goals as goal

written_size : (v : Bool) (f w : List ℕ) → length w ≡ length f → leaf_count w ≡ leaf_count f
    → IsSized (linear_size v (leaf_count f)) f → IsSized (linear_size v (leaf_count w)) w
written_size v f w size count h = size ∙ h ∙ ap (λ m. room (linear_size v m)) (sym count)

pub unreachable-requires : goal.unreachable-requires
unreachable-requires c = empty-lacks true c.args.arena.now.blocks c.args.leaf c.args.key c.requires.there (sym c.block.ensures ∙ c.in_default.is)

pub words_mut-words-requires : goal.words_mut-words-requires
words_mut-words-requires c = leaf-live true c.args.arena.now.blocks c.args.leaf c.in-Some.block c.requires.leaf (sym c.block.ensures ∙ c.in-Some.is)

pub write-requires-clause-leaf : goal.write-requires-clause-leaf
write-requires-clause-leaf c = subst (IsLinear true) (sym c.words_mut-words.ensures.value)
    (leaf-linear true c.args.arena.now.blocks c.args.leaf c.in-Some.block (c.if-linear.ensures.yes refl)
    (sym c.block.ensures ∙ c.in-Some.is) c.requires.leaf)

pub write-requires-clause-there : goal.write-requires-clause-there
write-requires-clause-there c = ap (λ l. has_key word_order (linear_entries true l) c.args.key) c.words_mut-words.ensures.value
    ∙ ap (λ l. has_key word_order l c.args.key)
    (sym (entries-made true c.args.arena.now.blocks c.args.leaf c.in-Some.block LinearLeaf (c.if-linear.ensures.yes refl)
    (sym c.block.ensures ∙ c.in-Some.is))) ∙ c.requires.there

pub returns-then-linear-clause-leaf : goal.returns-then-linear-clause-leaf
returns-then-linear-clause-leaf c = rewritten true c.args.arena.now c.args.leaf c.in-Some.block c.write.new.words _ LinearLeaf
    (c.if-linear.ensures.yes refl) c.requires.leaf (sym c.block.ensures ∙ c.in-Some.is)
    (c.write.auto.words ∙ ap length c.words_mut-words.ensures.value) (
      c.write.ensures.leaf,
      written_size true (words_of c.args.arena.now.blocks c.in-Some.block) c.write.new.words
          (c.write.auto.words ∙ ap length c.words_mut-words.ensures.value)
          (c.write.ensures.count ∙ ap leaf_count c.words_mut-words.ensures.value)
          (leaf-sound true c.args.arena.now.blocks c.args.leaf c.in-Some.block LinearLeaf (c.if-linear.ensures.yes refl)
          (sym c.block.ensures ∙ c.in-Some.is) c.requires.leaf).1,
    )
    (c.write.ensures.entries ∙ ap (λ l. with_entry word_order (linear_entries true l) c.args.key c.args.value) c.words_mut-words.ensures.value
    ∙ ap (λ l. with_entry word_order l c.args.key c.args.value)
    (sym (entries-made true c.args.arena.now.blocks c.args.leaf c.in-Some.block LinearLeaf (c.if-linear.ensures.yes refl)
    (sym c.block.ensures ∙ c.in-Some.is))))

pub write-requires-2-clause-leaf : goal.write-requires-2-clause-leaf
write-requires-2-clause-leaf c = subst (IsBits true) (sym c.words_mut-words.ensures.value)
    (leaf-bits true c.args.arena.now.blocks c.args.leaf c.in-Some.block c.requires.leaf (sym c.block.ensures ∙ c.in-Some.is)
    (c.if-linear.ensures.no refl)).0

pub write-requires-2-clause-there : goal.write-requires-2-clause-there
write-requires-2-clause-there c = ap (λ l. has_key word_order (bitmap_entries true l) c.args.key) c.words_mut-words.ensures.value
    ∙ ap (λ l. has_key word_order l c.args.key)
    (sym (leaf-bits true c.args.arena.now.blocks c.args.leaf c.in-Some.block c.requires.leaf
    (sym c.block.ensures ∙ c.in-Some.is) (c.if-linear.ensures.no refl)).2) ∙ c.requires.there

pub returns-clause-leaf : goal.returns-clause-leaf
returns-clause-leaf c = rewritten-bits true c.args.arena.now c.args.leaf c.in-Some.block c.write-2.new.words _ c.requires.leaf
    (sym c.block.ensures ∙ c.in-Some.is) (c.if-linear.ensures.no refl)
    (c.write-2.auto.words ∙ ap length c.words_mut-words.ensures.value) c.write-2.ensures.leaf
    (c.write-2.ensures.count ∙ ap leaf_count c.words_mut-words.ensures.value)
    (c.write-2.ensures.entries ∙ ap (λ l. with_entry word_order (bitmap_entries true l) c.args.key c.args.value) c.words_mut-words.ensures.value
    ∙ ap (λ l. with_entry word_order l c.args.key c.args.value)
    (sym (leaf-bits true c.args.arena.now.blocks c.args.leaf c.in-Some.block c.requires.leaf
    (sym c.block.ensures ∙ c.in-Some.is) (c.if-linear.ensures.no refl)).2))
