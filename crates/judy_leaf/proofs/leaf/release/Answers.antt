use Rattle.std.proofs.Common.{[], ◌∷◌, sym, ◌∙◌, subst}
use Rattle.judy_arena.specs.Frame.{Frame}
use Rattle.judy_arena.proofs.lemmas.FrameLaws.{frame-none, frame-release}
use Rattle.judy_leaf.proofs.lemmas.LeafLaws.{no-block, nothing, numbers-of, leaf-live}
use Rattle.judy_leaf.proofs.leaf.release.Goals as goal

pub release-requires : goal.release-requires
release-requires c = leaf-live c.args.values c.args.arena.now.blocks c.args.leaf c.in-Some.block c.requires (sym c.block.ensures ∙ c.in-Some.is)

pub returns-in-Some-clause-frame : goal.returns-in-Some-clause-frame
returns-in-Some-clause-frame c =
    subst (λ ns. Frame c.args.arena.now.blocks c.release.new.self.blocks ns [])
    (sym (numbers-of c.args.arena.now.blocks c.args.leaf c.in-Some.block (sym c.block.ensures ∙ c.in-Some.is)))
    (subst (λ b. Frame c.args.arena.now.blocks b (c.in-Some.block ∷ []) []) (sym c.release.ensures.blocks)
    (frame-release c.args.arena.now.blocks c.in-Some.block))

pub returns-in_default-clause-frame : goal.returns-in_default-clause-frame
returns-in_default-clause-frame c =
    subst (λ ns. Frame c.args.arena.now.blocks c.args.arena.now.blocks ns [])
    (sym (nothing c.args.values c.args.arena.now.blocks c.args.leaf
    (no-block c.args.leaf (sym c.block.ensures ∙ c.in_default.is))).2) (frame-none c.args.arena.now.blocks)
