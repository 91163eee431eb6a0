use Rattle.std.proofs.Common.{ℕ, Option, None, Some, false, map, ◌∙◌, arith, ap, subst, sym}
use Rattle.std.specs.Prelude.{IfSome, option_map}
use Rattle.judy_model.specs.Contents.{word_order}
use Rattle.judy_model.specs.Walks.{found_by, index_by, index_words, listed, search_on, walk_from}
use Rattle.judy_model.proofs.lemmas.WalkLemmas.{walk_cut, walk_done, walk_ends, walk_goes_on, walk_starts}
use Rattle.judy_query.specs.Cursors.{IsCursor}
use Rattle.judy_query.specs.Keys.{key_found}
use Rattle.judy_tree.specs.Root.{IsRoot, entries}
use Rattle.judy_words.specs.OneArrays.{one_in}
use Rattle.judy_words.proofs.one.Judy1.list.Goals as goal

-- what is known of an entry that was found is known of its index
of_index : (P : ℕ → Type 0) (o : Option (ℕ × ℕ)) → IfSome o (λ e. P e.0) → IfSome (key_found o) P
of_index P None h = h
of_index P (Some e) h = h

pub loop-count-init : goal.loop-count-init
loop-count-init c =
    let b = c.args.arena.now.blocks in
    let on : ℕ → Option ℕ = λ y. index_by (one_in b c.args.self.now) (search_on c.args.search) y in
    let same = c.from_reference-root.ensures ∙ c.reference.ensures in
    let is_cursor : ℕ → Type 0 = λ x. IsCursor false b c.from_reference-root.result.reference x c.begin_walk.new.cursor in
    record {
      lists = walk_starts index_words on _ _ _ c.requires.empty
          ∙ ap (λ o. listed (map index_words (walk_from on c.args.most o))) (c.key_of-found.ensures
          ∙ ap (option_map (λ e. e.0)) (c.begin_walk.ensures.found ∙ ap (λ w. found_by word_order (entries false b w) c.args.search c.args.x) same));
      cursor = subst (λ o. IfSome o is_cursor) (sym c.key_of-found.ensures) (of_index is_cursor c.begin_walk.result c.begin_walk.ensures.cursor);
    }

pub returns-in_default : goal.returns-in_default
returns-in_default c = walk_ends index_words _ _ _ _ c.loop-count.found _ c.loop-count.invariant.lists c.in_default.is

pub returns-then-not-add_index : goal.returns-then-not-add_index
returns-then-not-add_index c =
    walk_cut index_words _ _ _ _ _ c.in-Some.index _ c.add_index.result c.loop-count.invariant.lists c.in-Some.is c.loop-count-test.true
    c.add_index.ensures.fits c.if-not-add_index.true ∙ ap (λ text. (c.loop-count.count, text)) (sym c.if-not-add_index.ensures.added)

pub step-requires : goal.step-requires
step-requires c =
    let b = c.args.arena.now.blocks in
    let same = c.from_reference-root.ensures ∙ c.reference.ensures in (
      omega arith,
      (
        subst (λ w. IsRoot false b w) (sym same) c.requires.array,
        subst (λ o. IfSome o (λ x. IsCursor false b c.from_reference-root.result.reference x c.loop-count.cursor)) c.in-Some.is c.loop-count.invariant.cursor,
      ),
    )

pub loop-count-preserved : goal.loop-count-preserved
loop-count-preserved c =
    let b = c.args.arena.now.blocks in
    let same = c.from_reference-root.ensures ∙ c.reference.ensures in
    let is_cursor : ℕ → Type 0 = λ x. IsCursor false b c.from_reference-root.result.reference x c.step.new.cursor in
    record {
      lists = walk_goes_on index_words _ _ _ _ _ _ _ c.in-Some.index _ c.add_index.result c.loop-count.invariant.lists c.in-Some.is
          c.loop-count-test.true c.add_index.ensures.fits c.if-not-add_index.false c.if-not-add_index.ensures.added
          (c.key_of-found-in-loop-count.ensures ∙ ap (option_map (λ e. e.0)) (c.step.ensures.found
          ∙ ap (λ w. found_by word_order (entries false b w) c.on-on.result c.in-Some.index) same
          ∙ ap (λ s. found_by word_order (one_in b c.args.self.now) s c.in-Some.index) c.on-on.ensures));
      cursor = subst (λ o. IfSome o is_cursor) (sym c.key_of-found-in-loop-count.ensures) (of_index is_cursor c.step.result c.step.ensures.cursor);
    }

pub returns : goal.returns
returns c = walk_done index_words _ _ _ _ _ _ c.loop-count.invariant.lists (omega (arith, c.loop-count.auto, c.loop-count-test.false))
