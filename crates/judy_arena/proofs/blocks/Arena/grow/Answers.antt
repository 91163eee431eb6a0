use Rattle.std.proofs.Common.{◌≡◌, ◌≤◌, take, length, ap, sym, ◌∙◌, subst, arith}
use Rattle.judy_arena.specs.Blocks.{words_of, total_words, zeros}
use Rattle.judy_arena.proofs.SizeLaws.{total-fresh}
use Rattle.judy_arena.specs.Room.{room}
use Rattle.judy_arena.proofs.lemmas.BlockLaws.{only-put, words-at, front-copied, none_live}
use Rattle.judy_arena.proofs.lemmas.FrameLaws.{new-words, replaced}
use Rattle.judy_arena.proofs.lemmas.RoomLaws.{length-zeros}
use Rattle.judy_arena.proofs.blocks.Arena.grow.Goals as goal

-- the words that are left are those that were copied
left : (c : goal.After-release) → words_of c.release.new.self.blocks c.in_ok-to.to ≡ words_of c.copy.new.self.blocks c.in_ok-to.to
left c =
    let only = only-put c.alloc.new.self.blocks c.copy.new.self.blocks c.in_ok-to.to _ (ap (λ a. a.blocks) c.copy.ensures.only) in
    new-words c.args.self.now.blocks c.alloc.new.self.blocks c.copy.new.self.blocks c.args.block c.in_ok-to.to _ _
    c.in_ok-to.ensures.fresh c.in_ok-to.ensures.blocks only c.requires.live c.release.new.self.blocks c.release.ensures.blocks

pub returns-clause-front : goal.returns-clause-front
returns-clause-front c =
    let kept = c.in_ok-to.ensures.kept c.args.block c.requires.live in
    ap (take c.args.used) (left c ∙ words-at c.alloc.new.self.blocks c.copy.new.self.blocks c.in_ok-to.to _ (ap (λ a. a.blocks) c.copy.ensures.only))
    ∙ front-copied (words_of c.alloc.new.self.blocks c.in_ok-to.to) (words_of c.alloc.new.self.blocks c.args.block) c.args.used
    (subst (λ x. c.args.used ≤ length x) (sym kept) c.requires.used)
    ∙ ap (take c.args.used) kept

pub returns-clause-frame : goal.returns-clause-frame
returns-clause-frame c =
    let only = only-put c.alloc.new.self.blocks c.copy.new.self.blocks c.in_ok-to.to _ (ap (λ a. a.blocks) c.copy.ensures.only) in
    replaced c.args.self.now.blocks c.alloc.new.self.blocks c.copy.new.self.blocks c.args.block c.in_ok-to.to _ _
    c.in_ok-to.ensures.fresh c.in_ok-to.ensures.blocks only c.requires.live c.release.new.self.blocks c.release.ensures.blocks

pub returns-clause-size : goal.returns-clause-size
returns-clause-size c =
    let e = ap length (left c) in let s = c.copy.ensures.sizes c.in_ok-to.to in let w = ap length c.in_ok-to.ensures.words in
    let z = length-zeros (room c.args.len) in
    omega (arith, e, s, w, z)

pub returns-clause-peak : goal.returns-clause-peak
returns-clause-peak c =
    let f = ap (λ a. a.peak) c.copy.ensures.only in let a = c.in_ok-to.ensures.peak in let r = c.release.ensures.memory.peak in
    let t = ap total_words c.in_ok-to.ensures.blocks ∙ total-fresh c.args.self.now.blocks c.in_ok-to.to (zeros (room c.args.len)) (none_live _ c.in_ok-to.ensures.fresh) in
    let z = length-zeros (room c.args.len) in omega (arith, f, a, r, t, z)

pub returns-clause-free : goal.returns-clause-free
returns-clause-free c =
    let a = c.in_ok-to.ensures.free in let f = ap (λ a. a.free) c.copy.ensures.only in let g = ap (λ a. a.region) c.copy.ensures.only in
    let r = c.release.ensures.free in let m = c.release.ensures.region in let s = c.copy.ensures.sizes c.args.block in
    let k = ap length (c.in_ok-to.ensures.kept c.args.block c.requires.live) in omega (arith, a, f, g, r, m, s, k)
