use Rattle.std.proofs.Common.{subst, sym, ◌∙◌}
use Rattle.std.specs.Prelude.{IfSome, IsTrue}
use Rattle.judy_refs.specs.References.{is_reference}
use Rattle.judy_branch.specs.declared.shape.Shape.TheVariants.{Full}
use Rattle.judy_branch.proofs.Branches.{has-shape, full-shape, laid-words, child-words, found-some}
use Rattle.judy_branch.proofs.read.child.Goals as goal

pub child-requires : goal.child-requires
child-requires c = laid-words c.args.arena.now.blocks c.args.branch Full c.look-words.result.now
    (full-shape c.args.branch (sym c.leads_to.ensures ∙ c.if-leads_to.true)) c.look-words.ensures.words c.requires

pub known-requires : goal.known-requires
known-requires c = subst (λ o. IfSome o (λ r. IsTrue (is_reference r))) (sym c.child.ensures)
    (found-some c.args.arena.now.blocks c.args.branch Full c.look-words.result.now
    (full-shape c.args.branch (sym c.leads_to.ensures ∙ c.if-leads_to.true)) c.look-words.ensures.words c.requires c.args.byte)

pub returns-then-leads_to : goal.returns-then-leads_to
returns-then-leads_to c = c.known.ensures ∙ c.child.ensures ∙ sym (child-words c.args.arena.now.blocks c.args.branch Full c.look-words.result.now
    (full-shape c.args.branch (sym c.leads_to.ensures ∙ c.if-leads_to.true)) c.look-words.ensures.words c.args.byte)

pub read_shape-requires : goal.read_shape-requires
read_shape-requires c = has-shape c.args.arena.now.blocks c.args.branch c.requires

pub child_in-requires : goal.child_in-requires
child_in-requires c = laid-words c.args.arena.now.blocks c.args.branch c.read_shape.result c.look-words.result.now
    c.read_shape.ensures c.look-words.ensures.words c.requires

pub known-requires-2 : goal.known-requires-2
known-requires-2 c = subst (λ o. IfSome o (λ r. IsTrue (is_reference r))) (sym c.child_in.ensures)
    (found-some c.args.arena.now.blocks c.args.branch c.read_shape.result c.look-words.result.now
    c.read_shape.ensures c.look-words.ensures.words c.requires c.args.byte)

pub returns : goal.returns
returns c = c.known-2.ensures ∙ c.child_in.ensures ∙ sym (child-words c.args.arena.now.blocks c.args.branch c.read_shape.result c.look-words.result.now
    c.read_shape.ensures c.look-words.ensures.words c.args.byte)
