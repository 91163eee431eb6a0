use Rattle.std.proofs.Common.{◌∙◌, ◌∷◌, Some, arith, ap, sym}
use Rattle.judy_model.specs.Contents.{next, string_order}
use Rattle.judy_model.proofs.lemmas.WalkLemmas.{walk_cut, walk_done, walk_ends, walk_goes_on, walk_starts}
use Rattle.judy_bytes.specs.Walks.{hashed_in, shown_entry}
use Rattle.judy_bytes.proofs.WalkOrder.{hashed_words}
use Rattle.judy_bytes.proofs.array.JudyHS.list.Goals as goal

pub loop-count-init : goal.loop-count-init
loop-count-init g c = record {
  same = walk_starts hashed_words (λ e. next string_order (hashed_in c.args.arena.now.blocks c.args.self.now.words) e.0) _ _ _ c.requires.empty;
  first = c.requires.first;
}

pub returns-in_default : goal.returns-in_default
returns-in_default g c = walk_ends hashed_words (λ e. next string_order (hashed_in c.args.arena.now.blocks c.args.self.now.words) e.0) _ _ _ _ _
    c.loop-count.invariant.same (ap (λ o. shown_entry o c.loop-count.room.key.items) c.in_default.is)

pub returns-then-not-add_key : goal.returns-then-not-add_key
returns-then-not-add_key g c =
    let is = ap (λ o. shown_entry o c.loop-count.room.key.items) c.in-Some.is
    ∙ ap (λ k. Some (c.in-Some.shown.hash ∷ k, c.in-Some.shown.value)) (sym c.as_slice.ensures.value) in
    walk_cut hashed_words (λ e. next string_order (hashed_in c.args.arena.now.blocks c.args.self.now.words) e.0) _ _ _ _
    (c.in-Some.shown.hash ∷ c.as_slice.result.now, c.in-Some.shown.value) _ c.add_key.result c.loop-count.invariant.same is c.loop-count-test.true
    c.add_key.ensures.fits c.if-not-add_key.true ∙ ap (λ text. (c.loop-count.count, text)) (sym c.if-not-add_key.ensures.added)

pub loop-count-preserved : goal.loop-count-preserved
loop-count-preserved g c =
    let is = ap (λ o. shown_entry o c.loop-count.room.key.items) c.in-Some.is
    ∙ ap (λ k. Some (c.in-Some.shown.hash ∷ k, c.in-Some.shown.value)) (sym c.as_slice.ensures.value) in
    let from = c.as_slice-in-loop-count.ensures.value ∙ c.copy.ensures ∙ sym c.as_slice.ensures.value in
    let behind = c.behind-found.ensures.entry ∙ ap (λ k. next string_order (hashed_in c.args.arena.now.blocks c.args.self.now.words) (c.in-Some.shown.hash ∷ k)) from in
    record {
      same = walk_goes_on hashed_words (λ e. next string_order (hashed_in c.args.arena.now.blocks c.args.self.now.words) e.0) _ _ _ _ _ _
          (c.in-Some.shown.hash ∷ c.as_slice.result.now, c.in-Some.shown.value) _ c.add_key.result c.loop-count.invariant.same is
          c.loop-count-test.true c.add_key.ensures.fits c.if-not-add_key.false c.if-not-add_key.ensures.added behind;
      first = c.behind-found.ensures.first;
    }

pub returns : goal.returns
returns g c = walk_done hashed_words (λ e. next string_order (hashed_in c.args.arena.now.blocks c.args.self.now.words) e.0) _ _ _ _ _
    c.loop-count.invariant.same (omega (arith, c.loop-count.auto, c.loop-count-test.false))
