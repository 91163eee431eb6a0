use Rattle.std.proofs.Common.{◌≡◌, true, map, ◌-◌}
use Rattle.std.specs.Prelude.{IfSome}
use Rattle.judy_model.specs.Walks.{entry_words, found_by, listed, listed_from, search_on, walk, walk_from}
use Rattle.judy_model.specs.Contents.{word_order}
use Rattle.judy_query.specs.Cursors.{IsCursor}
use Rattle.judy_words.specs.LongArrays.{long_in}
use Rattle.judy_words.proofs.long.JudyL.list.Given as goal

-- what is in the list and what is still to come are what the whole walk lists, and the cursor is that of the next entry
abbrev pub invariant-loop-count : goal.invariant-loop-count
invariant-loop-count l = record {
  lists : listed_from l.count l.listing (map entry_words (walk_from (λ e. found_by word_order (long_in l.arena.blocks l.self) (search_on l.fn.search) e.0) (l.most - l.count) l.found))
      ≡ listed (map entry_words (walk word_order (long_in l.arena.blocks l.self) l.fn.search l.fn.x l.fn.most));
  cursor : IfSome l.found (λ e. IsCursor true l.arena.blocks l.root.reference e.0 l.cursor);
}
