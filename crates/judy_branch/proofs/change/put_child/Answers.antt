use Rattle.std.proofs.Common.{◌<◌, ◌≤◌, ◌+◌, ◌∷◌, [], length, refl, ap, sym, ◌∙◌, subst}
use Rattle.judy_arena.specs.Blocks.{words_of}
use Rattle.judy_arena.specs.Frame.{Frame}
use Rattle.judy_model.specs.Contents.{word_order, has_key, with_entry}
use Rattle.judy_branch.specs.Children.{IsLaid, IsBuilt, HasChildRoom, level_in, prefix_in, children_in, count_in, most, used_words}
use Rattle.judy_branch.specs.Branch.{IsBranchOf, branch_number, with_child}
use Rattle.judy_branch.proofs.Branches.{is-some, has-shape}
use Rattle.judy_branch.proofs.Changes.{own-shaped, own-live, own-view, own-children, own-frame, put-branch, lent-words, room-for}
use Rattle.judy_branch.proofs.Drawing.{room-here, no-room}
use Rattle.judy_branch.proofs.change.put_child.Goals as goal

pub read_shape-shape-requires : goal.read_shape-shape-requires
read_shape-shape-requires c = has-shape c.args.arena.now.blocks c.args.branch c.requires.branch

pub block-own-requires : goal.block-own-requires
block-own-requires c = is-some c.args.arena.now.blocks c.args.branch c.requires.branch

pub words-requires : goal.words-requires
words-requires c = own-live c.args.arena.now.blocks c.args.branch c.block-own.result c.read_shape-shape.result c.requires.branch
    c.read_shape-shape.ensures c.block-own.ensures

pub words_mut-requires : goal.words_mut-requires
words_mut-requires c = own-live c.args.arena.now.blocks c.args.branch c.block-own.result c.read_shape-shape.result
    c.requires.branch c.read_shape-shape.ensures c.block-own.ensures

pub has_room-requires : goal.has_room-requires
has_room-requires c = subst (IsLaid c.read_shape-shape.result) (sym c.words.ensures)
    (own-shaped c.args.arena.now.blocks c.args.branch c.block-own.result c.read_shape-shape.result c.requires.branch
    c.read_shape-shape.ensures c.block-own.ensures).laid

pub insert_with-requires-clause-laid : goal.insert_with-requires-clause-laid
insert_with-requires-clause-laid c = subst (IsLaid c.read_shape-shape.result) (sym c.words_mut.ensures.value)
    (own-shaped c.args.arena.now.blocks c.args.branch c.block-own.result c.read_shape-shape.result c.requires.branch
    c.read_shape-shape.ensures c.block-own.ensures).laid

pub insert_with-requires-clause-absent : goal.insert_with-requires-clause-absent
insert_with-requires-clause-absent c =
    ap (λ l. has_key word_order (children_in c.read_shape-shape.result l) c.args.byte) c.words_mut.ensures.value
    ∙ ap (λ es. has_key word_order es c.args.byte)
    (sym (own-children c.args.arena.now.blocks c.args.branch c.block-own.result c.read_shape-shape.result c.requires.branch
    c.read_shape-shape.ensures c.block-own.ensures)) ∙ c.requires.absent

pub insert_with-requires-clause-few : goal.insert_with-requires-clause-few
insert_with-requires-clause-few c =
    let own = own-shaped c.args.arena.now.blocks c.args.branch c.block-own.result c.read_shape-shape.result c.requires.branch
    c.read_shape-shape.ensures c.block-own.ensures in
    let absent = ap (λ es. has_key word_order es c.args.byte)
    (sym (own-children c.args.arena.now.blocks c.args.branch c.block-own.result c.read_shape-shape.result c.requires.branch
    c.read_shape-shape.ensures c.block-own.ensures)) ∙ c.requires.absent in
    let room = subst (HasChildRoom c.read_shape-shape.result) c.words.ensures (c.has_room.ensures.room c.if-has_room.true) in
    let r = room-for c.read_shape-shape.result (words_of c.args.arena.now.blocks c.block-own.result) c.args.byte own.laid room absent c.ranges.byte.fits in
    subst (λ l. count_in l < most c.read_shape-shape.result) (sym c.words_mut.ensures.value) r.0

pub insert_with-requires-clause-room : goal.insert_with-requires-clause-room
insert_with-requires-clause-room c =
    let own = own-shaped c.args.arena.now.blocks c.args.branch c.block-own.result c.read_shape-shape.result c.requires.branch
    c.read_shape-shape.ensures c.block-own.ensures in
    let absent = ap (λ es. has_key word_order es c.args.byte)
    (sym (own-children c.args.arena.now.blocks c.args.branch c.block-own.result c.read_shape-shape.result c.requires.branch
    c.read_shape-shape.ensures c.block-own.ensures)) ∙ c.requires.absent in
    let room = subst (HasChildRoom c.read_shape-shape.result) c.words.ensures (c.has_room.ensures.room c.if-has_room.true) in
    let r = room-for c.read_shape-shape.result (words_of c.args.arena.now.blocks c.block-own.result) c.args.byte own.laid room absent c.ranges.byte.fits in
    subst (λ l. used_words c.read_shape-shape.result (count_in l + 1) ≤ length l) (sym c.words_mut.ensures.value) r.1

pub returns-then-has_room-clause-put : goal.returns-then-has_room-clause-put
returns-then-has_room-clause-put c =
    let size = c.insert_with.auto.words ∙ ap length c.words_mut.ensures.value in
    put-branch c.args.arena.now.blocks c.args.branch c.block-own.result c.read_shape-shape.result c.requires.branch
    c.read_shape-shape.ensures c.block-own.ensures
    c.insert_with.new.words _ c.args.byte c.args.child c.args.population (lent-words c.args.arena.now.blocks c.block-own.result c.insert_with.new.words size)
    (subst (λ l. IsBuilt c.read_shape-shape.result c.insert_with.new.words (level_in l) (prefix_in l) c.args.population
    (with_entry word_order (children_in c.read_shape-shape.result l) c.args.byte c.args.child)) c.words_mut.ensures.value
    c.insert_with.ensures)
    size

pub returns-then-has_room-clause-frame : goal.returns-then-has_room-clause-frame
returns-then-has_room-clause-frame c = own-frame c.args.arena.now.blocks c.args.branch c.block-own.result
    c.read_shape-shape.result c.requires.branch c.read_shape-shape.ensures c.block-own.ensures _ _ refl

pub grow-requires-clause-shaped : goal.grow-requires-clause-shaped
grow-requires-clause-shaped c = own-shaped c.args.arena.now.blocks c.args.branch c.block-own.result c.read_shape-shape.result
    c.requires.branch c.read_shape-shape.ensures c.block-own.ensures

pub grow-requires-clause-few : goal.grow-requires-clause-few
grow-requires-clause-few c = subst (λ l. count_in l ≤ 127) c.words.ensures (c.has_room.ensures.few c.if-has_room.false)

pub grow-requires-clause-absent : goal.grow-requires-clause-absent
grow-requires-clause-absent c = ap (λ es. has_key word_order es c.args.byte)
    (sym (own-children c.args.arena.now.blocks c.args.branch c.block-own.result c.read_shape-shape.result c.requires.branch
    c.read_shape-shape.ensures c.block-own.ensures)) ∙ c.requires.absent

pub returns-clause-put : goal.returns-clause-put
returns-clause-put c =
    subst (λ v. IsBranchOf c.grow.new.arena.blocks c.in_ok-grown.grown (with_child v c.args.byte c.args.child c.args.population))
    (sym (own-view c.args.arena.now.blocks c.args.branch c.block-own.result c.read_shape-shape.result c.requires.branch
    c.read_shape-shape.ensures c.block-own.ensures)) c.in_ok-grown.ensures.put

pub returns-clause-frame : goal.returns-clause-frame
returns-clause-frame c = subst (λ k. Frame c.args.arena.now.blocks c.grow.new.arena.blocks (k ∷ [])
    (branch_number c.in_ok-grown.grown ∷ [])) c.block-own.ensures c.in_ok-grown.ensures.frame

pub returns-then-has_room-clause-draws : goal.returns-then-has_room-clause-draws
returns-then-has_room-clause-draws c full = absurd (full (room-here c.args.arena.now.blocks c.args.branch c.block-own.result
    c.read_shape-shape.result c.read_shape-shape.ensures c.block-own.ensures
    (subst (HasChildRoom c.read_shape-shape.result) c.words.ensures (c.has_room.ensures.room c.if-has_room.true))))

pub returns-clause-stays : goal.returns-clause-stays
returns-clause-stays c room = absurd (no-room c.args.arena.now.blocks c.args.branch c.block-own.result c.read_shape-shape.result
    c.read_shape-shape.ensures c.block-own.ensures c.words.result.now c.words.ensures (c.has_room.ensures.none c.if-has_room.false) room)

pub returns-clause-rests : goal.returns-clause-rests
returns-clause-rests c room = absurd (no-room c.args.arena.now.blocks c.args.branch c.block-own.result c.read_shape-shape.result
    c.read_shape-shape.ensures c.block-own.ensures c.words.result.now c.words.ensures (c.has_room.ensures.none c.if-has_room.false) room)

pub returns-in_err-grown-clause-stays : goal.returns-in_err-grown-clause-stays
returns-in_err-grown-clause-stays c room = absurd (no-room c.args.arena.now.blocks c.args.branch c.block-own.result c.read_shape-shape.result
    c.read_shape-shape.ensures c.block-own.ensures c.words.result.now c.words.ensures (c.has_room.ensures.none c.if-has_room.false) room)

pub returns-in_err-grown-clause-rests : goal.returns-in_err-grown-clause-rests
returns-in_err-grown-clause-rests c room = absurd (no-room c.args.arena.now.blocks c.args.branch c.block-own.result c.read_shape-shape.result
    c.read_shape-shape.ensures c.block-own.ensures c.words.result.now c.words.ensures (c.has_room.ensures.none c.if-has_room.false) room)
