use Rattle.std.proofs.Common.{◌≡◌, false, map, ◌-◌}
use Rattle.std.specs.Prelude.{IfSome}
use Rattle.judy_model.specs.Walks.{index_by, index_words, listed, listed_from, search_on, walk_from, walk_indexes}
use Rattle.judy_query.specs.Cursors.{IsCursor}
use Rattle.judy_words.specs.OneArrays.{one_in}
use Rattle.judy_words.proofs.one.Judy1.list.Given as goal

-- what is in the list and what is still to come are what the whole walk lists, and the cursor is that of the next index
abbrev pub invariant-loop-count : goal.invariant-loop-count
invariant-loop-count l = record {
  lists : listed_from l.count l.listing (map index_words (walk_from (λ y. index_by (one_in l.arena.blocks l.self) (search_on l.fn.search) y) (l.most - l.count) l.found))
      ≡ listed (map index_words (walk_indexes (one_in l.arena.blocks l.self) l.fn.search l.fn.x l.fn.most));
  cursor : IfSome l.found (λ x. IsCursor false l.arena.blocks l.root.reference x l.cursor);
}
