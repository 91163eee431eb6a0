use Rattle.std.proofs.Common.{◌≡◌, ◌∙◌, Some, arith, ap, refl, sym}
use Rattle.std.specs.Prelude.{option_map}
use Rattle.judy_model.specs.Contents.{string_order}
use Rattle.judy_model.specs.Walks.{found_by, key_words}
use Rattle.judy_string.specs.StringArrays.{string_in}
use Rattle.judy_model.proofs.lemmas.WalkLemmas.{walk_cut, walk_done, walk_ends, walk_goes_on, walk_starts}
use Rattle.judy_string.proofs.WalkKeys.{entry_found, key_found}
use Rattle.judy_string.proofs.array.JudySL.list.Goals as goal

pub loop-count-init : goal.loop-count-init
loop-count-init c = record { same = walk_starts key_words _ _ _ _ c.requires.empty; key = c.requires.key }

pub returns-in_default : goal.returns-in_default
returns-in_default c = walk_ends key_words _ _ _ _ _ _ c.loop-count.invariant.same (ap (option_map (λ v. (c.loop-count.room.key.items, v))) c.in_default.is)

pub returns-then-not-add_key : goal.returns-then-not-add_key
returns-then-not-add_key c =
    let is = ap (option_map (λ v. (c.loop-count.room.key.items, v))) c.in-Some.is ∙ ap (λ k. Some (k, c.in-Some.shown)) (sym c.as_slice.ensures.value) in
    walk_cut key_words _ _ _ _ _ (c.as_slice.result.now, c.in-Some.shown) _ c.add_key.result c.loop-count.invariant.same is c.loop-count-test.true
    c.add_key.ensures.fits c.if-not-add_key.true ∙ ap (λ text. (c.loop-count.count, text)) (sym c.if-not-add_key.ensures.added)

pub loop-count-preserved : goal.loop-count-preserved
loop-count-preserved c =
    let is = ap (option_map (λ v. (c.loop-count.room.key.items, v))) c.in-Some.is ∙ ap (λ k. Some (k, c.in-Some.shown)) (sym c.as_slice.ensures.value) in
    let from = c.as_slice-in-loop-count.ensures.value ∙ c.copy.ensures ∙ sym c.as_slice.ensures.value in
    let behind = entry_found c.find-value.new.buffer.items c.find-value.result _ c.find-value.ensures
    ∙ ap (λ k. found_by string_order (string_in c.args.arena.now.blocks c.args.self.now) c.args.search k) from in
    record {
      same = walk_goes_on key_words _ _ _ _ _ _ _ (c.as_slice.result.now, c.in-Some.shown) _ c.add_key.result c.loop-count.invariant.same is
          c.loop-count-test.true c.add_key.ensures.fits c.if-not-add_key.false c.if-not-add_key.ensures.added behind;
      key = key_found c.args.arena.now.blocks c.args.self.now c.args.search c.as_slice-in-loop-count.result.now _ _ _ c.requires.array.node refl c.find-value.ensures;
    }

pub returns : goal.returns
returns c = walk_done key_words _ _ _ _ _ _ c.loop-count.invariant.same (omega (arith, c.loop-count.auto, c.loop-count-test.false))
