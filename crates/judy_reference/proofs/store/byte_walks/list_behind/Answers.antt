use Rattle.std.proofs.Common.{◌∙◌, ◌+◌, ◌++◌, arith, ap, length, sym}
use Rattle.std.specs.Prelude.{nat_le}
use Rattle.judy_model.specs.Contents.{next, string_order}
use Rattle.judy_model.specs.declared.lists.TheConstants.{LIST_LIMIT}
use Rattle.judy_model.specs.Walks.{by_hash, key_words}
use Rattle.judy_model.proofs.lemmas.WalkLemmas.{walk_cut, walk_done, walk_ends, walk_goes_on, walk_starts}
use Rattle.judy_reference.proofs.ByteWalkLemmas.{place_words, walk_places}
use Rattle.judy_reference.proofs.store.byte_walks.list_behind.Goals as goal

pub loop-count-init : goal.loop-count-init
loop-count-init c =
    walk_starts place_words (λ e. next string_order (by_hash c.args.entries.now) e.0) _ _ _ c.requires
    ∙ walk_places c.args.entries.now _ _ _ c.next_place-found.ensures

pub returns-in_default : goal.returns-in_default
returns-in_default c = walk_ends place_words _ _ _ _ c.loop-count.found _ c.loop-count.invariant c.in_default.is

pub returns-then-not-add_key : goal.returns-then-not-add_key
returns-then-not-add_key c =
    let e = c.in-Some.entry in
    let fits = c.add_key.ensures.fits ∙ ap (λ k. nat_le (length c.loop-count.listing + length (key_words (k, e.1))) LIST_LIMIT) c.bytes.ensures.value in
    walk_cut place_words _ _ _ _ c.loop-count.found e _ c.add_key.result c.loop-count.invariant c.in-Some.is c.loop-count-test.true
    fits c.if-not-add_key.true ∙ ap (λ text. (c.loop-count.count, text)) (sym c.if-not-add_key.ensures.added)

pub loop-count-preserved : goal.loop-count-preserved
loop-count-preserved c =
    let e = c.in-Some.entry in
    let fits = c.add_key.ensures.fits ∙ ap (λ k. nat_le (length c.loop-count.listing + length (key_words (k, e.1))) LIST_LIMIT) c.bytes.ensures.value in
    let added = c.if-not-add_key.ensures.added ∙ ap (λ k. c.loop-count.listing ++ key_words (k, e.1)) c.bytes.ensures.value in
    walk_goes_on place_words _ _ _ _ _ c.loop-count.found _ e _ c.add_key.result c.loop-count.invariant c.in-Some.is c.loop-count-test.true
    fits c.if-not-add_key.false added c.next_place-found-in-loop-count.ensures

pub returns : goal.returns
returns c = walk_done place_words _ _ _ _ _ _ c.loop-count.invariant (omega (arith, c.loop-count.auto, c.loop-count-test.false))
