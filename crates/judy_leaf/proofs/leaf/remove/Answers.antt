use Rattle.std.proofs.Common.{ap, sym, ◌∙◌, refl, [], ◌∷◌}
use Rattle.judy_arena.specs.Blocks.{words_of}
use Rattle.judy_refs.specs.declared.Kind.TheVariants.{LinearLeaf}
use Rattle.judy_model.specs.Contents.{word_order, has_key}
use Rattle.judy_leaf.specs.Linear.{linear_entries}
use Rattle.judy_leaf.specs.Bytes.{bitmap_entries}
use Rattle.judy_leaf.proofs.lemmas.LeafLaws.{no-block, nothing, leaf-sound, entries-made, leaf-bits, numbers-of, removes-at}
use Rattle.judy_leaf.proofs.leaf.remove.Goals as goal

pub returns-in_default-clause-removal : goal.returns-in_default-clause-removal
returns-in_default-clause-removal c = (
  ap (λ l. has_key word_order l c.args.key) (nothing c.args.values c.args.arena.now.blocks c.args.leaf
      (no-block c.args.leaf (sym c.block.ensures ∙ c.in_default.is))).1,
  (refl, refl),
)

pub remove-requires : goal.remove-requires
remove-requires c = leaf-sound c.args.values c.args.arena.now.blocks c.args.leaf c.in-Some.block LinearLeaf
    (c.if-is_linear.ensures.yes refl) (sym c.block.ensures ∙ c.in-Some.is) c.requires

pub remove-requires-else-is_linear : goal.remove-requires-else-is_linear
remove-requires-else-is_linear c =
    let l = leaf-bits c.args.values c.args.arena.now.blocks c.args.leaf c.in-Some.block c.requires
    (sym c.block.ensures ∙ c.in-Some.is) (c.if-is_linear.ensures.no refl) in
    record { leaf = (l.0, l.1, l.3) }

pub returns-then-is_linear-clause-removal : goal.returns-then-is_linear-clause-removal
returns-then-is_linear-clause-removal c = removes-at c.args.values c.args.arena.now c.remove.new.arena
    (linear_entries c.args.values (words_of c.args.arena.now.blocks c.in-Some.block)) _ (c.in-Some.block ∷ []) _ c.args.key
    c.remove.result
    (sym (entries-made c.args.values c.args.arena.now.blocks c.args.leaf c.in-Some.block LinearLeaf
    (c.if-is_linear.ensures.yes refl) (sym c.block.ensures ∙ c.in-Some.is)))
    (sym (numbers-of c.args.arena.now.blocks c.args.leaf c.in-Some.block (sym c.block.ensures ∙ c.in-Some.is))) c.remove.ensures.removal

pub returns-else-is_linear-clause-removal : goal.returns-else-is_linear-clause-removal
returns-else-is_linear-clause-removal c = removes-at c.args.values c.args.arena.now c.remove-else-is_linear.new.arena
    (bitmap_entries c.args.values (words_of c.args.arena.now.blocks c.in-Some.block)) _ (c.in-Some.block ∷ []) _ c.args.key
    c.remove-else-is_linear.result
    (sym (leaf-bits c.args.values c.args.arena.now.blocks c.args.leaf c.in-Some.block c.requires
    (sym c.block.ensures ∙ c.in-Some.is) (c.if-is_linear.ensures.no refl)).2)
    (sym (numbers-of c.args.arena.now.blocks c.args.leaf c.in-Some.block (sym c.block.ensures ∙ c.in-Some.is)))
    c.remove-else-is_linear.ensures.removal
