use Rattle.std.proofs.Common.{ap, sym, ◌∙◌, refl, subst}
use Rattle.judy_refs.specs.declared.Kind.TheVariants.{LinearLeaf}
use Rattle.judy_leaf.specs.Linear.{linear_entries, IsLinear}
use Rattle.judy_leaf.specs.Bytes.{bitmap_entries, IsBits}
use Rattle.judy_leaf.proofs.lemmas.LeafLaws.{no-block, nothing, leaf-linear, entries-made, leaf-bits, leaf-live}
use Rattle.judy_leaf.proofs.opened.open.Goals as goal

pub returns-in_default : goal.returns-in_default
returns-in_default c = sym (nothing c.args.values c.args.arena.now.blocks c.args.leaf (no-block c.args.leaf (sym c.block.ensures ∙ c.in_default.is))).1

pub words-words-requires : goal.words-words-requires
words-words-requires c = leaf-live c.args.values c.args.arena.now.blocks c.args.leaf c.in-Some.block c.requires (sym c.block.ensures ∙ c.in-Some.is)

pub invariant_of-result : goal.invariant_of-result
invariant_of-result c = record {
  sound = subst (IsLinear c.args.values) (sym c.words-words.ensures) (leaf-linear c.args.values c.args.arena.now.blocks
      c.args.leaf c.in-Some.block (c.if-is_linear.ensures.yes refl) (sym c.block.ensures ∙ c.in-Some.is) c.requires);
}

pub invariant_of-result-else-is_linear : goal.invariant_of-result-else-is_linear
invariant_of-result-else-is_linear c = record {
  sound = subst (IsBits c.args.values) (sym c.words-words.ensures)
      (leaf-bits c.args.values c.args.arena.now.blocks c.args.leaf c.in-Some.block c.requires (sym c.block.ensures ∙ c.in-Some.is)
      (c.if-is_linear.ensures.no refl)).0;
}

pub returns-then-is_linear : goal.returns-then-is_linear
returns-then-is_linear c = ap (linear_entries c.args.values) c.words-words.ensures
    ∙ sym (entries-made c.args.values c.args.arena.now.blocks c.args.leaf c.in-Some.block LinearLeaf
    (c.if-is_linear.ensures.yes refl) (sym c.block.ensures ∙ c.in-Some.is))

pub returns-else-is_linear : goal.returns-else-is_linear
returns-else-is_linear c = ap (bitmap_entries c.args.values) c.words-words.ensures
    ∙ sym (leaf-bits c.args.values c.args.arena.now.blocks c.args.leaf c.in-Some.block c.requires
    (sym c.block.ensures ∙ c.in-Some.is) (c.if-is_linear.ensures.no refl)).2
