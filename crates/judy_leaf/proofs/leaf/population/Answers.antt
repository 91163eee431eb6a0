use Rattle.std.proofs.Common.{ap, sym, ◌∙◌, refl, length}
use Rattle.judy_leaf.proofs.lemmas.LeafLaws.{no-block, nothing, leaf-live, leaf-length, full-length}
use Rattle.judy_leaf.proofs.leaf.population.Goals as goal

pub returns-in_default : goal.returns-in_default
returns-in_default c =
    sym (ap length (nothing c.args.values c.args.arena.now.blocks c.args.leaf
    (no-block c.args.leaf (sym c.block.ensures ∙ c.in_default.is))).1)

pub returns-then-is_full : goal.returns-then-is_full
returns-then-is_full c = sym (full-length c.args.values c.args.arena.now.blocks c.args.leaf (c.if-is_full.ensures refl) c.requires)

pub get-requires : goal.get-requires
get-requires c = leaf-live c.args.values c.args.arena.now.blocks c.args.leaf c.in-Some.block c.requires (sym c.block.ensures ∙ c.in-Some.is)

pub returns : goal.returns
returns c = c.get.ensures ∙ sym (leaf-length c.args.values c.args.arena.now.blocks c.args.leaf c.in-Some.block c.requires (sym c.block.ensures ∙ c.in-Some.is))
