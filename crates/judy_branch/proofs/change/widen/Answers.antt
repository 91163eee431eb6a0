use Rattle.std.proofs.Common.{◌≡◌, ◌+◌, ◌%◌, ◌≤◌, ◌∷◌, [], ℕ, List, length, take, refl, ap, sym, ◌∙◌, subst, arith}
use Rattle.judy_arena.specs.Blocks.{Blocks, words_of, put}
use Rattle.judy_arena.specs.LendingBlocks.{written_over}
use Rattle.judy_arena.specs.Frame.{Frame}
use Rattle.judy_arena.specs.Room.{room}
use Rattle.judy_arena.proofs.lemmas.BlockLaws.{itself}
use Rattle.judy_arena.proofs.lemmas.FrameLaws.{frame-write, holds-one}
use Rattle.judy_model.specs.Contents.{word_order, has_key, with_entry}
use Rattle.judy_branch.specs.declared.shape.Shape.{Shape}
use Rattle.judy_branch.specs.Children.{count_in, children_in, level_in, prefix_in, used_words, IsLaid, IsBuilt}
use Rattle.judy_branch.specs.Written.{IsMoved}
use Rattle.judy_branch.proofs.Lists.{used-mono, used-some}
use Rattle.judy_branch.proofs.Rooms.{room-covers}
use Rattle.judy_branch.proofs.Taking.{front_count, front-moved}
use Rattle.judy_branch.proofs.Changes.{widened-branch, lent-words}
use Rattle.judy_arena.proofs.lemmas.DrawLaws.{drew-block}
use Rattle.judy_branch.proofs.change.widen.Goals as goal

-- the block that was given begins as the old one
begun : (s : Shape) (ws vs : List ℕ) (k n : ℕ) → IsLaid s ws → k ≡ used_words s (count_in ws) → n ≡ used_words s (count_in ws + 1)
    → take k vs ≡ take k ws → length vs ≡ room n → IsMoved s s ws vs × (used_words s (count_in vs + 1) ≤ length vs)
begun s ws vs k n laid e f same size =
    let covers = room-covers n in
    let more = used-mono s (count_in ws) (count_in ws + 1) (omega arith) in
    let moved = front-moved ws vs k same s (omega arith) (omega arith) laid in
    let c : count_in vs ≡ count_in ws = front_count ws vs k same (let u = used-some s (count_in ws) in omega arith) in
    (moved, subst (λ j. used_words s (j + 1) ≤ length vs) (sym c) (omega arith))

pub insert_with-requires-clause-laid : goal.insert_with-requires-clause-laid
insert_with-requires-clause-laid c =
    let a : Blocks = c.args.arena.now.blocks in
    let b = begun c.args.shape (words_of a c.args.block) (words_of c.grow.new.self.blocks c.in_ok-to.to) c.size.result
    c.size-2.result c.requires.shaped.laid (c.size.ensures ∙ ap (λ h. used_words c.args.shape (h % 512)) c.get.ensures)
    (c.size-2.ensures ∙ ap (λ h. used_words c.args.shape (h % 512 + 1)) c.get.ensures) c.in_ok-to.ensures.front
    c.in_ok-to.ensures.size in
    subst (IsLaid c.args.shape) (sym c.words_mut.ensures.value) b.0.laid

pub insert_with-requires-clause-absent : goal.insert_with-requires-clause-absent
insert_with-requires-clause-absent c =
    let a : Blocks = c.args.arena.now.blocks in
    let b = begun c.args.shape (words_of a c.args.block) (words_of c.grow.new.self.blocks c.in_ok-to.to) c.size.result
    c.size-2.result c.requires.shaped.laid (c.size.ensures ∙ ap (λ h. used_words c.args.shape (h % 512)) c.get.ensures)
    (c.size-2.ensures ∙ ap (λ h. used_words c.args.shape (h % 512 + 1)) c.get.ensures) c.in_ok-to.ensures.front
    c.in_ok-to.ensures.size in
    ap (λ l. has_key word_order (children_in c.args.shape l) c.args.byte) c.words_mut.ensures.value
    ∙ ap (λ es. has_key word_order es c.args.byte) b.0.children ∙ c.requires.absent

pub insert_with-requires-clause-room : goal.insert_with-requires-clause-room
insert_with-requires-clause-room c =
    let a : Blocks = c.args.arena.now.blocks in
    let b = begun c.args.shape (words_of a c.args.block) (words_of c.grow.new.self.blocks c.in_ok-to.to) c.size.result
    c.size-2.result c.requires.shaped.laid (c.size.ensures ∙ ap (λ h. used_words c.args.shape (h % 512)) c.get.ensures)
    (c.size-2.ensures ∙ ap (λ h. used_words c.args.shape (h % 512 + 1)) c.get.ensures) c.in_ok-to.ensures.front
    c.in_ok-to.ensures.size in
    subst (λ l. used_words c.args.shape (count_in l + 1) ≤ length l) (sym c.words_mut.ensures.value) b.1

pub returns-clause-put : goal.returns-clause-put
returns-clause-put c =
    let a : Blocks = c.args.arena.now.blocks in
    let vs : List ℕ = words_of c.grow.new.self.blocks c.in_ok-to.to in
    let b = begun c.args.shape (words_of a c.args.block) vs c.size.result c.size-2.result c.requires.shaped.laid
    (c.size.ensures ∙ ap (λ h. used_words c.args.shape (h % 512)) c.get.ensures)
    (c.size-2.ensures ∙ ap (λ h. used_words c.args.shape (h % 512 + 1)) c.get.ensures) c.in_ok-to.ensures.front
    c.in_ok-to.ensures.size in
    let size = c.insert_with.auto.words ∙ ap length c.words_mut.ensures.value in
    let at = ap (words_of _) c.refer.ensures.block ∙ lent-words c.grow.new.self.blocks c.in_ok-to.to c.insert_with.new.words size in
    widened-branch _ c.insert_with.new.words vs (words_of a c.args.block) c.refer.result c.args.shape c.args.byte c.args.child
    c.args.population c.requires.shaped b.0 c.requires.absent
    (subst (λ l. IsBuilt c.args.shape c.insert_with.new.words (level_in l) (prefix_in l) c.args.population
    (with_entry word_order (children_in c.args.shape l) c.args.byte c.args.child)) c.words_mut.ensures.value
    c.insert_with.ensures)
    at c.refer.ensures.shape (size ∙ c.in_ok-to.ensures.size ∙ ap room (c.size-2.ensures ∙ ap (λ h. used_words c.args.shape (h % 512 + 1)) c.get.ensures))

pub returns-clause-frame : goal.returns-clause-frame
returns-clause-frame c =
    let t : ℕ = c.in_ok-to.to in
    let ws : List ℕ = written_over (words_of c.grow.new.self.blocks t) c.insert_with.new.words in
    subst (λ k. Frame c.args.arena.now.blocks (put c.grow.new.self.blocks t ws) (c.args.block ∷ []) (k ∷ [])) (sym c.refer.ensures.block)
    (frame-write c.args.arena.now.blocks c.grow.new.self.blocks (put c.grow.new.self.blocks t ws) (c.args.block ∷ []) (t ∷ []) t
    ws c.in_ok-to.ensures.frame (holds-one t t ∙ itself t) refl)

pub returns-clause-draws : goal.returns-clause-draws
returns-clause-draws c =
    let size = c.insert_with.auto.words ∙ ap length c.words_mut.ensures.value in
    let at = ap (words_of _) c.refer.ensures.block ∙ lent-words c.grow.new.self.blocks c.in_ok-to.to c.insert_with.new.words size in
    drew-block c.args.arena.now _ _ (room c.size-2.result) (ap length at ∙ size ∙ c.in_ok-to.ensures.size) c.grow.ensures.reuse c.in_ok-to.ensures.growth
