use Rattle.std.proofs.Common.{◌≡◌, map, ◌-◌}
use Rattle.judy_model.specs.Walks.{entry_words, found_by, listed, listed_from, walk_from}
use Rattle.judy_model.specs.Contents.{word_order}
use Rattle.judy_reference.proofs.store.walks.list_entries.Given as goal

-- what is in the list and what is still to come are what the whole walk lists
abbrev pub invariant-loop-count : goal.invariant-loop-count
invariant-loop-count l = listed_from l.count l.listing (map entry_words (walk_from (λ e. found_by word_order l.entries l.search e.0) (l.most - l.count) l.found))
    ≡ listed (map entry_words (walk_from (λ e. found_by word_order l.entries l.search e.0) l.fn.most l.fn.start))
