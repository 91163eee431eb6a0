use Rattle.std.proofs.Common.{◌∙◌, arith, ap, sym}
use Rattle.judy_model.specs.Walks.{entry_words}
use Rattle.judy_model.proofs.lemmas.WalkLemmas.{walk_cut, walk_done, walk_ends, walk_goes_on, walk_starts}
use Rattle.judy_reference.proofs.store.walks.list_entries.Goals as goal

pub loop-count-init : goal.loop-count-init
loop-count-init c = walk_starts entry_words _ _ _ _ c.requires

pub returns-in_default : goal.returns-in_default
returns-in_default c = walk_ends entry_words _ _ _ _ c.loop-count.found _ c.loop-count.invariant c.in_default.is

pub returns-then-not-add_entry : goal.returns-then-not-add_entry
returns-then-not-add_entry c =
    walk_cut entry_words _ _ _ _ _ (c.in-Some.index, c.in-Some.value) _ c.add_entry.result c.loop-count.invariant c.in-Some.is c.loop-count-test.true
    c.add_entry.ensures.fits c.if-not-add_entry.true ∙ ap (λ text. (c.loop-count.count, text)) (sym c.if-not-add_entry.ensures.added)

pub loop-count-preserved : goal.loop-count-preserved
loop-count-preserved c =
    walk_goes_on entry_words _ _ _ _ _ _ _ (c.in-Some.index, c.in-Some.value) _ c.add_entry.result c.loop-count.invariant c.in-Some.is c.loop-count-test.true
    c.add_entry.ensures.fits c.if-not-add_entry.false c.if-not-add_entry.ensures.added c.entry_by-found.ensures

pub returns : goal.returns
returns c = walk_done entry_words _ _ _ _ _ _ c.loop-count.invariant (omega (arith, c.loop-count.auto, c.loop-count-test.false))
