use Rattle.std.proofs.Common.{◌≡◌, ℕ, Some, None, true, false, is_some, sym, ap, ◌∙◌}
use Rattle.judy_model.specs.Contents.{Entries, word_order, value_of, first}
use Rattle.judy_branch.specs.Children.{children_in}
use Rattle.judy_branch.proofs.Branches.{has-shape, laid-words, children-words, found-reference, child-reference}
use Rattle.judy_branch.proofs.Neighbours.{first-found, first-none}
use Rattle.judy_branch.proofs.read.next_child.Goals as goal

pub read_shape-shape-requires : goal.read_shape-shape-requires
read_shape-shape-requires c = has-shape c.args.arena.now.blocks c.args.branch c.requires

pub next_byte-requires : goal.next_byte-requires
next_byte-requires c = laid-words c.args.arena.now.blocks c.args.branch c.read_shape-shape.result c.look-words.result.now
    c.read_shape-shape.ensures c.look-words.ensures.words c.requires

pub child_in-requires : goal.child_in-requires
child_in-requires c = laid-words c.args.arena.now.blocks c.args.branch c.read_shape-shape.result c.look-words.result.now
    c.read_shape-shape.ensures c.look-words.ensures.words c.requires

pub known-requires : goal.known-requires
known-requires c =
    let laid = laid-words c.args.arena.now.blocks c.args.branch c.read_shape-shape.result c.look-words.result.now
    c.read_shape-shape.ensures c.look-words.ensures.words c.requires in
    child-reference c.in-Some-child_in.word (found-reference c.read_shape-shape.result c.look-words.result.now c.in-Some.at
    c.in-Some-child_in.word laid (sym c.child_in.ensures ∙ c.in-Some-child_in.is))

pub unreachable-requires : goal.unreachable-requires
unreachable-requires c =
    let there = c.in-Some.ensures.1 in
    let e : value_of word_order (children_in c.read_shape-shape.result c.look-words.result.now) c.in-Some.at ≡ None = sym c.child_in.ensures ∙ c.in-None.is in
    let f : true ≡ false = sym there ∙ ap is_some e in
    cc

pub returns : goal.returns
returns c =
    let laid = laid-words c.args.arena.now.blocks c.args.branch c.read_shape-shape.result c.look-words.result.now
    c.read_shape-shape.ensures c.look-words.ensures.words c.requires in
    let e = children-words c.args.arena.now.blocks c.args.branch c.read_shape-shape.result c.look-words.result.now
    c.read_shape-shape.ensures c.look-words.ensures.words in
    let es : Entries ℕ = children_in c.read_shape-shape.result c.look-words.result.now in
    let near = c.in-Some.ensures in
    let r : c.known.result ≡ c.in-Some-child_in.word = c.known.ensures in
    ap (λ r. Some (c.in-Some.at, r)) r
    ∙ sym (first-found es c.args.byte c.in-Some.at c.in-Some-child_in.word laid.rising near.0 near.2 (sym c.child_in.ensures ∙ c.in-Some-child_in.is))
    ∙ ap (λ es. first word_order es c.args.byte) (sym e)

pub returns-in_default : goal.returns-in_default
returns-in_default c =
    let laid = laid-words c.args.arena.now.blocks c.args.branch c.read_shape-shape.result c.look-words.result.now
    c.read_shape-shape.ensures c.look-words.ensures.words c.requires in
    let e = children-words c.args.arena.now.blocks c.args.branch c.read_shape-shape.result c.look-words.result.now
    c.read_shape-shape.ensures c.look-words.ensures.words in
    let es : Entries ℕ = children_in c.read_shape-shape.result c.look-words.result.now in
    let near = c.in_default.ensures in
    sym (first-none es c.args.byte laid.sound near laid.rising) ∙ ap (λ es. first word_order es c.args.byte) (sym e)
