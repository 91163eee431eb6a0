use Rattle.std.proofs.Common.{◌∷◌, [], length, set, ap, sym, subst, arith}
use Rattle.judy_arena.specs.Blocks.{words_of, put}
use Rattle.judy_arena.specs.Frame.{Frame}
use Rattle.judy_arena.proofs.lemmas.BlockLaws.{live-words}
use Rattle.judy_arena.proofs.lemmas.FrameLaws.{frame-put}
use Rattle.judy_branch.specs.Branch.{branch_number}
use Rattle.judy_branch.proofs.Branches.{is-some, some-room}
use Rattle.judy_branch.proofs.Same.{recounted}
use Rattle.judy_branch.proofs.change.recount.Goals as goal

pub block-requires : goal.block-requires
block-requires c = is-some c.args.arena.now.blocks c.args.branch c.requires

pub set-requires : goal.set-requires
set-requires c =
    let e = ap (λ n. length (words_of c.args.arena.now.blocks n)) c.block.ensures in
    let r = some-room c.args.arena.now.blocks c.args.branch c.requires in
    omega arith

pub returns-clause-set : goal.returns-clause-set
returns-clause-set c = recounted c.args.arena.now.blocks c.args.branch c.requires c.set.new.self.blocks c.block.result
    c.args.population c.block.ensures (ap (λ a. a.blocks) c.set.ensures.only)

pub returns-clause-frame : goal.returns-clause-frame
returns-clause-frame c =
    let a = c.args.arena.now.blocks in
    let r = some-room a c.args.branch c.requires in
    subst (λ b. Frame a b (branch_number c.args.branch ∷ []) (branch_number c.args.branch ∷ [])) (sym (ap (λ a. a.blocks) c.set.ensures.only))
    (subst (λ k. Frame a (put a c.block.result (set (words_of a c.block.result) 2 c.args.population)) (k ∷ []) (k ∷ [])) c.block.ensures
    (frame-put a c.block.result (set (words_of a c.block.result) 2 c.args.population)
    (live-words a c.block.result (let e = ap (λ n. length (words_of a n)) c.block.ensures in omega arith))))
