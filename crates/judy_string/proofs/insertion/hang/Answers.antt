use Rattle.std.proofs.Common.{◌<◌, true, length, ◌∙◌, ap, sym, subst}
use Rattle.judy_arena.specs.Blocks.{words_of}
use Rattle.judy_refs.specs.References.{number_of}
use Rattle.judy_model.specs.Contents.{word_order, has_key, with_entry}
use Rattle.judy_tree.specs.Root.{entries}
use Rattle.judy_string.specs.Changes.{IsRewritten}
use Rattle.judy_string.specs.Suffixes.{IsMadeSuffix}
use Rattle.judy_string.proofs.Hangs.{hang-root, hung-last, hang-stays, hung-below, hang-live, hang-undone}
use Rattle.judy_string.proofs.insertion.hang.Goals as goal

pub put-requires-clause-root : goal.put-requires-clause-root
put-requires-clause-root c = hang-root c.args.room c.args.arena.now.blocks c.args.array c.args.string.now c.args.value
    c.requires.rest.string c.requires.rest.short c.requires.node c.requires.array c.requires.absent

pub returns-then-string-lt8-clause-done : goal.returns-then-string-lt8-clause-done
returns-then-string-lt8-clause-done c =
    hung-last c.args.room c.args.arena.now.blocks c.args.array c.args.string.now c.args.value c.requires.rest.string
    c.requires.rest.short c.requires.node c.requires.array c.requires.absent c.if-string-lt8.true c.put.new.arena.blocks
    c.in_ok-new.new
    (subst (λ k. IsRewritten c.args.arena.now.blocks c.put.new.arena.blocks c.args.array c.in_ok-new.new
    (with_entry word_order (entries true c.args.arena.now.blocks c.args.array) k c.args.value)) c.word_at-word.ensures
    c.in_ok-new.ensures.done)

pub put-requires-2-clause-root : goal.put-requires-2-clause-root
put-requires-2-clause-root c =
    let made = subst (λ s. IsMadeSuffix c.args.arena.now.blocks c.make.new.arena.blocks s c.args.value c.in_ok-below.below)
    c.tail.ensures c.in_ok-below.ensures.made in
    (hang-stays c.args.room c.args.arena.now.blocks c.args.array c.args.string.now c.args.value c.requires.rest.string
    c.requires.rest.short c.requires.node c.requires.array c.requires.absent c.if-string-lt8.false c.make.new.arena.blocks
    c.in_ok-below.below made).0

pub put-requires-2-clause-absent : goal.put-requires-2-clause-absent
put-requires-2-clause-absent c =
    let made = subst (λ s. IsMadeSuffix c.args.arena.now.blocks c.make.new.arena.blocks s c.args.value c.in_ok-below.below)
    c.tail.ensures c.in_ok-below.ensures.made in
    let stays = hang-stays c.args.room c.args.arena.now.blocks c.args.array c.args.string.now c.args.value c.requires.rest.string
    c.requires.rest.short c.requires.node c.requires.array c.requires.absent c.if-string-lt8.false c.make.new.arena.blocks
    c.in_ok-below.below made in
    ap (λ es. has_key word_order es c.word_at-word.result) stays.1
    ∙ ap (has_key word_order (entries true c.args.arena.now.blocks c.args.array)) c.word_at-word.ensures ∙ c.requires.absent

pub release-requires-clause-live : goal.release-requires-clause-live
release-requires-clause-live c =
    let made = subst (λ s. IsMadeSuffix c.args.arena.now.blocks c.make.new.arena.blocks s c.args.value c.in_ok-below.below)
    c.tail.ensures c.in_ok-below.ensures.made in
    subst (λ b. 0 < length (words_of b (number_of c.in_ok-below.below))) (sym c.in-Err.ensures.unchanged)
    (hang-live c.args.room c.args.arena.now.blocks c.args.array c.args.string.now c.args.value c.requires.rest.string
    c.requires.rest.short c.requires.node c.requires.array c.requires.absent c.if-string-lt8.false c.make.new.arena.blocks
    c.in_ok-below.below made)

pub returns-in-Ok-clause-done : goal.returns-in-Ok-clause-done
returns-in-Ok-clause-done c =
    let made = subst (λ s. IsMadeSuffix c.args.arena.now.blocks c.make.new.arena.blocks s c.args.value c.in_ok-below.below)
    c.tail.ensures c.in_ok-below.ensures.made in
    hung-below c.args.room c.args.arena.now.blocks c.args.array c.args.string.now c.args.value c.requires.rest.string
    c.requires.rest.short c.requires.node c.requires.array c.requires.absent c.if-string-lt8.false c.make.new.arena.blocks
    c.in_ok-below.below made c.put-2.new.arena.blocks c.in-Ok.new
    (subst (λ k. IsRewritten c.make.new.arena.blocks c.put-2.new.arena.blocks c.args.array c.in-Ok.new
    (with_entry word_order (entries true c.make.new.arena.blocks c.args.array) k c.in_ok-below.below)) c.word_at-word.ensures
    (subst (λ v. IsRewritten c.make.new.arena.blocks c.put-2.new.arena.blocks c.args.array c.in-Ok.new
    (with_entry word_order (entries true c.make.new.arena.blocks c.args.array) c.word_at-word.result v)) c.word.ensures
    c.in-Ok.ensures.done))

pub returns-in-Err-clause-unchanged : goal.returns-in-Err-clause-unchanged
returns-in-Err-clause-unchanged c =
    let made = subst (λ s. IsMadeSuffix c.args.arena.now.blocks c.make.new.arena.blocks s c.args.value c.in_ok-below.below)
    c.tail.ensures c.in_ok-below.ensures.made in
    hang-undone c.args.room c.args.arena.now.blocks c.args.array c.args.string.now c.args.value c.requires.rest.string
    c.requires.rest.short c.requires.node c.requires.array c.requires.absent c.if-string-lt8.false c.make.new.arena.blocks
    c.in_ok-below.below made
    c.put-2.new.arena.blocks c.release.new.arena.blocks c.in-Err.ensures.unchanged c.release.ensures.blocks
