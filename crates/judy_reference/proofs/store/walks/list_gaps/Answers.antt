use Rattle.std.proofs.Common.{◌∙◌, arith, ap, sym}
use Rattle.judy_model.specs.Walks.{index_words}
use Rattle.judy_model.proofs.lemmas.WalkLemmas.{walk_cut, walk_done, walk_ends, walk_goes_on, walk_starts}
use Rattle.judy_reference.proofs.store.walks.list_gaps.Goals as goal

pub loop-count-init : goal.loop-count-init
loop-count-init c = walk_starts index_words _ _ _ _ c.requires

pub returns-in_default : goal.returns-in_default
returns-in_default c = walk_ends index_words _ _ _ _ c.loop-count.found _ c.loop-count.invariant c.in_default.is

pub returns-then-not-add_index : goal.returns-then-not-add_index
returns-then-not-add_index c =
    walk_cut index_words _ _ _ _ _ c.in-Some.word _ c.add_index.result c.loop-count.invariant c.in-Some.is c.loop-count-test.true
    c.add_index.ensures.fits c.if-not-add_index.true ∙ ap (λ text. (c.loop-count.count, text)) (sym c.if-not-add_index.ensures.added)

pub loop-count-preserved : goal.loop-count-preserved
loop-count-preserved c =
    walk_goes_on index_words _ _ _ _ _ _ _ c.in-Some.word _ c.add_index.result c.loop-count.invariant c.in-Some.is c.loop-count-test.true
    c.add_index.ensures.fits c.if-not-add_index.false c.if-not-add_index.ensures.added c.gap_by-found.ensures

pub returns : goal.returns
returns c = walk_done index_words _ _ _ _ _ _ c.loop-count.invariant (omega (arith, c.loop-count.auto, c.loop-count-test.false))
