use Rattle.std.proofs.Common.{◌∷◌, [], length, ap, sym, subst, arith}
use Rattle.judy_arena.specs.Blocks.{words_of}
use Rattle.judy_arena.specs.Frame.{Frame}
use Rattle.judy_arena.proofs.lemmas.FrameLaws.{frame-release}
use Rattle.judy_branch.proofs.Branches.{is-some, some-room}
use Rattle.judy_branch.proofs.take.release.Goals as goal

pub block-requires : goal.block-requires
block-requires c = is-some c.args.arena.now.blocks c.args.branch c.requires

pub release-requires : goal.release-requires
release-requires c = let r = some-room c.args.arena.now.blocks c.args.branch c.requires in
    let e = ap (λ n. length (words_of c.args.arena.now.blocks n)) c.block.ensures in omega arith

pub returns-clause-frame : goal.returns-clause-frame
returns-clause-frame c =
    subst (λ k. Frame c.args.arena.now.blocks c.release.new.self.blocks (k ∷ []) []) c.block.ensures
    (subst (λ b. Frame c.args.arena.now.blocks b (c.block.result ∷ []) []) (sym c.release.ensures.blocks)
    (frame-release c.args.arena.now.blocks c.block.result))
