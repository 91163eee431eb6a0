use Rattle.std.proofs.Common.{◌∷◌, [], ◌∙◌, ℕ, length, ap, sym, subst}
use Rattle.judy_arena.specs.Blocks.{Blocks, words_of}
use Rattle.judy_arena.specs.Frame.{Frame}
use Rattle.judy_arena.proofs.lemmas.FrameLaws.{frame-alloc}
use Rattle.judy_branch.specs.Children.{IsBuilt}
use Rattle.judy_branch.proofs.Starting.{built-branch}
use Rattle.judy_arena.specs.Draws.{DrawsBlock}
use Rattle.judy_branch.proofs.build.make.Goals as goal

pub returns-clause-branch : goal.returns-clause-branch
returns-clause-branch c =
    built-branch c.build.new.arena.blocks c.refer.result c.shape_for-shape.result c.args.level c.args.prefix c.args.population
    c.args.children.now c.refer.ensures.shape
    (subst (λ n. IsBuilt c.shape_for-shape.result (words_of c.build.new.arena.blocks n) c.args.level c.args.prefix
    c.args.population c.args.children.now) (sym c.refer.ensures.block) c.in_ok-block.ensures.built)
    (ap (λ n. length (words_of c.build.new.arena.blocks n)) c.refer.ensures.block ∙ c.in_ok-block.ensures.size) c.requires.level
    c.requires.prefix c.shape_for-shape.ensures.least

pub returns-clause-frame : goal.returns-clause-frame
returns-clause-frame c =
    let a : Blocks = c.args.arena.now.blocks in
    let n : ℕ = c.in_ok-block.block in
    subst (λ k. Frame a c.build.new.arena.blocks [] (k ∷ [])) (sym c.refer.ensures.block)
    (subst (λ b. Frame a b [] (n ∷ [])) (sym c.in_ok-block.ensures.only) (frame-alloc a n (words_of c.build.new.arena.blocks n) c.in_ok-block.ensures.fresh))

pub returns-clause-draws : goal.returns-clause-draws
returns-clause-draws c =
    subst (λ n. DrawsBlock c.args.arena.now c.build.new.arena (length (words_of c.build.new.arena.blocks n))) (sym c.refer.ensures.block)
    c.in_ok-block.ensures.draws
