use Rattle.std.proofs.Common.{length, refl, ap, sym, ◌∙◌, subst, arith}
use Rattle.judy_arena.specs.Blocks.{zeros}
use Rattle.judy_arena.specs.Room.{room}
use Rattle.judy_arena.proofs.lemmas.BlockLaws.{put-then, only-put}
use Rattle.judy_branch.specs.Children.{IsBuilt}
use Rattle.judy_branch.proofs.Lists.{used-mono}
use Rattle.judy_branch.proofs.Rooms.{room-covers}
use Rattle.judy_branch.proofs.Starting.{length_zeros}
use Rattle.judy_branch.proofs.Changes.{lent-words}
use Rattle.judy_arena.proofs.lemmas.DrawLaws.{drew-block}
use Rattle.judy_branch.proofs.build.build.Goals as goal

pub lay-requires-clause-zeros : goal.lay-requires-clause-zeros
lay-requires-clause-zeros c =
    let e = c.words_mut.ensures.value ∙ c.in_ok-to.ensures.words in
    e ∙ ap zeros (sym (length_zeros (room c.size.result)) ∙ sym (ap length e))

pub lay-requires-clause-room : goal.lay-requires-clause-room
lay-requires-clause-room c =
    let e = ap length (c.words_mut.ensures.value ∙ c.in_ok-to.ensures.words) ∙ length_zeros (room c.size.result) in
    let r = room-covers c.size.result in
    let s = c.size.ensures in
    let m = used-mono c.args.shape (length c.args.list.now) c.args.capacity c.requires.all in
    omega arith

pub returns-clause-built : goal.returns-clause-built
returns-clause-built c =
    subst (λ l. IsBuilt c.args.shape l c.args.level c.args.prefix c.args.population c.args.list.now)
    (sym (lent-words c.alloc.new.self.blocks c.in_ok-to.to c.lay.new.words (c.lay.auto.words ∙ ap length c.words_mut.ensures.value))) c.lay.ensures

pub returns-clause-size : goal.returns-clause-size
returns-clause-size c =
    let size = c.lay.auto.words ∙ ap length c.words_mut.ensures.value in
    ap length (lent-words c.alloc.new.self.blocks c.in_ok-to.to c.lay.new.words size) ∙ size ∙ ap length c.in_ok-to.ensures.words
    ∙ length_zeros (room c.size.result) ∙ ap room c.size.ensures

pub returns-clause-only : goal.returns-clause-only
returns-clause-only c = only-put c.args.arena.now.blocks _ c.in_ok-to.to _
    (put-then c.args.arena.now.blocks c.alloc.new.self.blocks _ c.in_ok-to.to _ _ c.in_ok-to.ensures.blocks refl)

pub returns-clause-draws : goal.returns-clause-draws
returns-clause-draws c =
    let size = c.lay.auto.words ∙ ap length c.words_mut.ensures.value in
    drew-block c.args.arena.now _ _ (room c.size.result)
    (ap length (lent-words c.alloc.new.self.blocks c.in_ok-to.to c.lay.new.words size) ∙ size ∙ ap length c.in_ok-to.ensures.words
    ∙ length_zeros (room c.size.result))
    c.alloc.ensures.reuse c.in_ok-to.ensures.growth
