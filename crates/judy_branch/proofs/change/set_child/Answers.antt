use Rattle.std.proofs.Common.{length, refl, ap, sym, ◌∙◌, subst}
use Rattle.judy_model.specs.Contents.{word_order, has_key, with_entry}
use Rattle.judy_branch.specs.Children.{IsLaid, IsBuilt, level_in, prefix_in, children_in}
use Rattle.judy_branch.proofs.Branches.{is-some, has-shape}
use Rattle.judy_branch.proofs.Changes.{own-shaped, own-live, own-children, own-frame, put-branch, lent-words}
use Rattle.judy_branch.proofs.change.set_child.Goals as goal

pub read_shape-shape-requires : goal.read_shape-shape-requires
read_shape-shape-requires c = has-shape c.args.arena.now.blocks c.args.branch c.requires.branch

pub block-own-requires : goal.block-own-requires
block-own-requires c = is-some c.args.arena.now.blocks c.args.branch c.requires.branch

pub words_mut-requires : goal.words_mut-requires
words_mut-requires c = own-live c.args.arena.now.blocks c.args.branch c.block-own.result c.read_shape-shape.result
    c.requires.branch c.read_shape-shape.ensures c.block-own.ensures

pub write_with-requires-clause-laid : goal.write_with-requires-clause-laid
write_with-requires-clause-laid c = subst (IsLaid c.read_shape-shape.result) (sym c.words_mut.ensures.value)
    (own-shaped c.args.arena.now.blocks c.args.branch c.block-own.result c.read_shape-shape.result c.requires.branch
    c.read_shape-shape.ensures c.block-own.ensures).laid

pub write_with-requires-clause-there : goal.write_with-requires-clause-there
write_with-requires-clause-there c =
    ap (λ l. has_key word_order (children_in c.read_shape-shape.result l) c.args.byte) c.words_mut.ensures.value
    ∙ ap (λ es. has_key word_order es c.args.byte)
    (sym (own-children c.args.arena.now.blocks c.args.branch c.block-own.result c.read_shape-shape.result c.requires.branch
    c.read_shape-shape.ensures c.block-own.ensures)) ∙ c.requires.there

pub returns-clause-set : goal.returns-clause-set
returns-clause-set c =
    let size = c.write_with.auto.words ∙ ap length c.words_mut.ensures.value in
    put-branch c.args.arena.now.blocks c.args.branch c.block-own.result c.read_shape-shape.result c.requires.branch
    c.read_shape-shape.ensures c.block-own.ensures
    c.write_with.new.words _ c.args.byte c.args.child c.args.population (lent-words c.args.arena.now.blocks c.block-own.result c.write_with.new.words size)
    (subst (λ l. IsBuilt c.read_shape-shape.result c.write_with.new.words (level_in l) (prefix_in l) c.args.population
    (with_entry word_order (children_in c.read_shape-shape.result l) c.args.byte c.args.child)) c.words_mut.ensures.value
    c.write_with.ensures)
    size

pub returns-clause-frame : goal.returns-clause-frame
returns-clause-frame c = own-frame c.args.arena.now.blocks c.args.branch c.block-own.result c.read_shape-shape.result
    c.requires.branch c.read_shape-shape.ensures c.block-own.ensures _ _ refl
