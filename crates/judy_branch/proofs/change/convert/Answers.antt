use Rattle.std.proofs.Common.{◌≡◌, ◌+◌, ◌<◌, ◌≤◌, ◌∷◌, [], false, ℕ, List, length, refl, ap, sym, ◌∙◌, subst, arith}
use Rattle.judy_arena.specs.Blocks.{Blocks, words_of}
use Rattle.judy_arena.specs.Frame.{Frame}
use Rattle.judy_arena.specs.Room.{room}
use Rattle.judy_arena.proofs.lemmas.FrameLaws.{old-words, new-words, replaced}
use Rattle.judy_model.specs.Contents.{word_order, has_key, with_entry}
use Rattle.judy_branch.specs.Children.{count_in, children_in, used_words, IsLaid, IsShaped}
use Rattle.judy_branch.specs.Branch.{IsBranchOf, view_in, with_child}
use Rattle.judy_branch.specs.Written.{BranchBecomes}
use Rattle.judy_branch.proofs.Lists.{used-some}
use Rattle.judy_branch.proofs.Rooms.{room-covers}
use Rattle.judy_branch.proofs.Changes.{grown-count, grown-branch, lent-words}
use Rattle.judy_arena.proofs.lemmas.DrawLaws.{drew-block}
use Rattle.judy_branch.proofs.change.convert.Goals as goal

pub insert_child-requires-clause-laid : goal.insert_child-requires-clause-laid
insert_child-requires-clause-laid c = subst (IsLaid c.shape_for-target.result) (sym c.words_mut.ensures.value) c.in_ok-to.ensures.built.laid

pub insert_child-requires-clause-absent : goal.insert_child-requires-clause-absent
insert_child-requires-clause-absent c =
    ap (λ l. has_key word_order (children_in c.shape_for-target.result l) c.args.byte) c.words_mut.ensures.value
    ∙ ap (λ es. has_key word_order es c.args.byte) (c.in_ok-to.ensures.built.children ∙ c.gather-count.ensures.all
    ∙ ap (children_in c.args.shape) c.words-words.ensures) ∙ c.requires.absent

pub insert_child-requires-clause-few : goal.insert_child-requires-clause-few
insert_child-requires-clause-few c =
    let laid = (subst (IsShaped c.args.shape) (sym c.words-words.ensures) c.requires.shaped).laid in
    let n = grown-count c.shape_for-target.result c.args.shape (words_of c.build.new.arena.blocks c.in_ok-to.to)
    c.words-words.result.now _ _ _ c.gather-count.result _ c.in_ok-to.ensures.built c.gather-count.ensures.all laid
    c.gather-count.ensures.count in
    let e = ap count_in c.words_mut.ensures.value in
    let m = c.shape_for-target.ensures.most in
    omega arith

pub insert_child-requires-clause-room : goal.insert_child-requires-clause-room
insert_child-requires-clause-room c =
    let laid = (subst (IsShaped c.args.shape) (sym c.words-words.ensures) c.requires.shaped).laid in
    let n = grown-count c.shape_for-target.result c.args.shape (words_of c.build.new.arena.blocks c.in_ok-to.to)
    c.words-words.result.now _ _ _ c.gather-count.result _ c.in_ok-to.ensures.built c.gather-count.ensures.all laid
    c.gather-count.ensures.count in
    let s = c.in_ok-to.ensures.size in
    let r = room-covers (used_words c.shape_for-target.result (c.gather-count.result + 1)) in
    subst (λ l. used_words c.shape_for-target.result (count_in l + 1) ≤ length l) (sym c.words_mut.ensures.value)
    (subst (λ k. used_words c.shape_for-target.result (k + 1) ≤ length (words_of c.build.new.arena.blocks c.in_ok-to.to)) (sym n) (omega arith))

pub release-requires : goal.release-requires
release-requires c =
    let a : Blocks = c.args.arena.now.blocks in
    let n : ℕ = c.args.block in
    let r = c.requires.shaped.laid.room in
    let u = used-some c.args.shape (count_in (words_of a n)) in
    let live : 0 < length (words_of a n) = omega arith in
    let e = old-words a c.build.new.arena.blocks _ n c.in_ok-to.to _ _ c.in_ok-to.ensures.fresh c.in_ok-to.ensures.only refl live in
    subst (λ l. 0 < length l) (sym e) live

pub returns-clause-put : goal.returns-clause-put
returns-clause-put c =
    let a : Blocks = c.args.arena.now.blocks in
    let n : ℕ = c.args.block in
    let ws : List ℕ = c.words-words.result.now in
    let e : ws ≡ words_of a n = c.words-words.ensures in
    let shaped = subst (IsShaped c.args.shape) (sym e) c.requires.shaped in
    let r = c.requires.shaped.laid.room in
    let u = used-some c.args.shape (count_in (words_of a n)) in
    let live : 0 < length (words_of a n) = omega arith in
    let t : ℕ = c.in_ok-to.to in
    let size = c.insert_child.auto.words ∙ ap length c.words_mut.ensures.value in
    let kept = new-words a c.build.new.arena.blocks _ n t _ _ c.in_ok-to.ensures.fresh c.in_ok-to.ensures.only refl live
    c.release.new.self.blocks c.release.ensures.blocks in
    let at = ap (words_of c.release.new.self.blocks) c.refer.ensures.block ∙ kept ∙ lent-words c.build.new.arena.blocks t c.insert_child.new.words size in
    let g = c.gather-count.ensures.count in
    let some = c.shape_for-target.ensures.least in
    subst (λ l. IsBranchOf c.release.new.self.blocks c.refer.result (with_child (view_in c.args.shape l) c.args.byte c.args.child c.args.population)) e
    (grown-branch c.release.new.self.blocks c.insert_child.new.words (words_of c.build.new.arena.blocks t) ws c.refer.result
    c.args.shape c.shape_for-target.result _ c.args.byte c.args.child c.args.population
    shaped c.gather-count.ensures.all (subst (λ l. has_key word_order (children_in c.args.shape l) c.args.byte ≡ false) (sym e) c.requires.absent)
    c.in_ok-to.ensures.built
    (subst (λ l. BranchBecomes c.shape_for-target.result l c.insert_child.new.words
    (with_entry word_order (children_in c.shape_for-target.result l) c.args.byte c.args.child)) c.words_mut.ensures.value
    c.insert_child.ensures)
    at c.refer.ensures.shape (c.in_ok-to.ensures.size ∙ ap (λ k. room (used_words c.shape_for-target.result (k + 1))) g) (omega arith))

pub returns-clause-frame : goal.returns-clause-frame
returns-clause-frame c =
    let a : Blocks = c.args.arena.now.blocks in
    let n : ℕ = c.args.block in
    let r = c.requires.shaped.laid.room in
    let u = used-some c.args.shape (count_in (words_of a n)) in
    let live : 0 < length (words_of a n) = omega arith in
    subst (λ k. Frame a c.release.new.self.blocks (n ∷ []) (k ∷ [])) (sym c.refer.ensures.block)
    (replaced a c.build.new.arena.blocks _ n c.in_ok-to.to _ _ c.in_ok-to.ensures.fresh c.in_ok-to.ensures.only refl live
    c.release.new.self.blocks c.release.ensures.blocks)

pub returns-clause-draws : goal.returns-clause-draws
returns-clause-draws c =
    let a : Blocks = c.args.arena.now.blocks in
    let n : ℕ = c.args.block in
    let r = c.requires.shaped.laid.room in
    let u = used-some c.args.shape (count_in (words_of a n)) in
    let live : 0 < length (words_of a n) = omega arith in
    let t : ℕ = c.in_ok-to.to in
    let size = c.insert_child.auto.words ∙ ap length c.words_mut.ensures.value in
    let kept = new-words a c.build.new.arena.blocks _ n t _ _ c.in_ok-to.ensures.fresh c.in_ok-to.ensures.only refl live
    c.release.new.self.blocks c.release.ensures.blocks in
    let at = ap (words_of c.release.new.self.blocks) c.refer.ensures.block ∙ kept ∙ lent-words c.build.new.arena.blocks t c.insert_child.new.words size in
    drew-block c.args.arena.now c.release.new.self _ (length (words_of c.build.new.arena.blocks t)) (ap length at ∙ size)
    (λ h. c.release.ensures.memory.region ∙ c.in_ok-to.ensures.draws.reuse h)
    (λ h. c.release.ensures.memory.region ∙ c.in_ok-to.ensures.draws.growth h)
