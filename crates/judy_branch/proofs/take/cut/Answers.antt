use Rattle.std.proofs.Common.{◌≡◌, ℕ, List, length, take, ap, sym, ◌∙◌, arith}
use Rattle.std.proofs.Math.Seq.{take-length}
use Rattle.judy_arena.specs.Blocks.{words_of, put}
use Rattle.judy_arena.specs.Room.{room}
use Rattle.judy_arena.proofs.lemmas.BlockLaws.{put-there, block-words}
use Rattle.judy_branch.proofs.Rooms.{room-full}
use Rattle.judy_branch.proofs.take.cut.Goals as goal

pub returns-else-len-words-clause-words : goal.returns-else-len-words-clause-words
returns-else-len-words-clause-words c =
    let f : List ℕ = words_of c.args.arena.now.blocks c.args.block in
    let e = ap length c.words.ensures in
    let l = c.if-len-words.false in
    let full : room c.args.len ≡ length f = room-full c.args.len (length f) c.requires.sized c.requires.within (omega arith) in
    sym (ap (λ n. take n f) full ∙ take-length f)

pub returns-else-len-words-clause-only : goal.returns-else-len-words-clause-only
returns-else-len-words-clause-only c =
    let a = c.args.arena.now.blocks in
    let f : List ℕ = words_of a c.args.block in
    let e = ap length c.words.ensures in
    let l = c.if-len-words.false in
    let w = c.requires.within in
    let some = c.requires.some in
    let full : room c.args.len ≡ length f = room-full c.args.len (length f) c.requires.sized c.requires.within (omega arith) in
    sym (ap (put a c.args.block) (ap (λ n. take n f) full ∙ take-length f) ∙ put-there a c.args.block f (block-words a c.args.block (omega arith)))
