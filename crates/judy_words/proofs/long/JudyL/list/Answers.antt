use Rattle.std.proofs.Common.{ℕ, Option, true, map, ◌∙◌, arith, ap, subst, sym}
use Rattle.std.specs.Prelude.{IfSome}
use Rattle.judy_model.specs.Contents.{word_order}
use Rattle.judy_model.specs.Walks.{entry_words, found_by, listed, search_on, walk_from}
use Rattle.judy_model.proofs.lemmas.WalkLemmas.{walk_cut, walk_done, walk_ends, walk_goes_on, walk_starts}
use Rattle.judy_query.specs.Cursors.{IsCursor}
use Rattle.judy_tree.specs.Root.{IsRoot, entries}
use Rattle.judy_words.specs.LongArrays.{long_in}
use Rattle.judy_words.proofs.long.JudyL.list.Goals as goal

pub loop-count-init : goal.loop-count-init
loop-count-init c =
    let b = c.args.arena.now.blocks in
    let on : ℕ × ℕ → Option (ℕ × ℕ) = λ e. found_by word_order (long_in b c.args.self.now) (search_on c.args.search) e.0 in
    let same = c.from_reference-root.ensures ∙ c.reference.ensures in
    record {
      lists = walk_starts entry_words on _ _ _ c.requires.empty
          ∙ ap (λ o. listed (map entry_words (walk_from on c.args.most o)))
          (c.begin_walk-found.ensures.found ∙ ap (λ w. found_by word_order (entries true b w) c.args.search c.args.x) same);
      cursor = c.begin_walk-found.ensures.cursor;
    }

pub returns-in_default : goal.returns-in_default
returns-in_default c = walk_ends entry_words _ _ _ _ c.loop-count.found _ c.loop-count.invariant.lists c.in_default.is

pub returns-then-not-add_entry : goal.returns-then-not-add_entry
returns-then-not-add_entry c =
    walk_cut entry_words _ _ _ _ _ (c.in-Some.index, c.in-Some.value) _ c.add_entry.result c.loop-count.invariant.lists c.in-Some.is c.loop-count-test.true
    c.add_entry.ensures.fits c.if-not-add_entry.true ∙ ap (λ text. (c.loop-count.count, text)) (sym c.if-not-add_entry.ensures.added)

pub step-found-requires : goal.step-found-requires
step-found-requires c =
    let b = c.args.arena.now.blocks in
    let same = c.from_reference-root.ensures ∙ c.reference.ensures in (
      omega arith,
      (
        subst (λ w. IsRoot true b w) (sym same) c.requires.array,
        subst (λ o. IfSome o (λ e. IsCursor true b c.from_reference-root.result.reference e.0 c.loop-count.cursor)) c.in-Some.is c.loop-count.invariant.cursor,
      ),
    )

pub loop-count-preserved : goal.loop-count-preserved
loop-count-preserved c =
    let b = c.args.arena.now.blocks in
    let same = c.from_reference-root.ensures ∙ c.reference.ensures in
    record {
      lists = walk_goes_on entry_words _ _ _ _ _ _ _ (c.in-Some.index, c.in-Some.value) _ c.add_entry.result c.loop-count.invariant.lists c.in-Some.is
          c.loop-count-test.true c.add_entry.ensures.fits c.if-not-add_entry.false c.if-not-add_entry.ensures.added
          (c.step-found.ensures.found ∙ ap (λ w. found_by word_order (entries true b w) c.on-on.result c.in-Some.index) same
          ∙ ap (λ s. found_by word_order (long_in b c.args.self.now) s c.in-Some.index) c.on-on.ensures);
      cursor = c.step-found.ensures.cursor;
    }

pub returns : goal.returns
returns c = walk_done entry_words _ _ _ _ _ _ c.loop-count.invariant.lists (omega (arith, c.loop-count.auto, c.loop-count-test.false))
