use Rattle.std.proofs.Common.{◌∙◌, Some, arith, ap, sym}
use Rattle.std.specs.Option.{option_copied}
use Rattle.judy_model.specs.Contents.{string_order}
use Rattle.judy_model.specs.Walks.{found_by, key_words}
use Rattle.judy_model.proofs.lemmas.WalkLemmas.{walk_cut, walk_done, walk_ends, walk_goes_on, walk_starts}
use Rattle.judy_reference.proofs.store.walks.list_strings.Goals as goal

pub loop-count-init : goal.loop-count-init
loop-count-init c = walk_starts key_words _ _ _ _ c.requires

pub returns-in_default : goal.returns-in_default
returns-in_default c = walk_ends key_words _ _ _ _ (option_copied c.loop-count.found) _ c.loop-count.invariant (ap option_copied c.in_default.is)

pub returns-then-not-add_key : goal.returns-then-not-add_key
returns-then-not-add_key c =
    let key = sym c.key-key.ensures ∙ sym c.as_bytes.ensures.value in
    walk_cut key_words _ _ _ _ _ (c.as_bytes.result.now, c.in-Some.entry.now.1) _ c.add_key.result c.loop-count.invariant
    (ap option_copied c.in-Some.is ∙ ap (λ k. Some (k, c.in-Some.entry.now.1)) key) c.loop-count-test.true
    c.add_key.ensures.fits c.if-not-add_key.true ∙ ap (λ text. (c.loop-count.count, text)) (sym c.if-not-add_key.ensures.added)

pub loop-count-preserved : goal.loop-count-preserved
loop-count-preserved c =
    let key = sym c.key-key.ensures ∙ sym c.as_bytes.ensures.value in
    walk_goes_on key_words _ _ _ _ _ _ _ (c.as_bytes.result.now, c.in-Some.entry.now.1) _ c.add_key.result c.loop-count.invariant
    (ap option_copied c.in-Some.is ∙ ap (λ k. Some (k, c.in-Some.entry.now.1)) key) c.loop-count-test.true
    c.add_key.ensures.fits c.if-not-add_key.false c.if-not-add_key.ensures.added
    (c.string_by-found.ensures ∙ ap (λ k. found_by string_order c.args.entries.now c.args.search k) (sym c.as_bytes.ensures.value))

pub returns : goal.returns
returns c = walk_done key_words _ _ _ _ _ _ c.loop-count.invariant (omega (arith, c.loop-count.auto, c.loop-count-test.false))
