use Rattle.std.proofs.Common.{◌≡◌, map, ◌-◌}
use Rattle.judy_model.specs.Walks.{index_by, index_words, listed, listed_from, walk_from}
use Rattle.judy_reference.proofs.store.walks.list_indexes.Given as goal

-- what is in the list and what is still to come are what the whole walk lists
abbrev pub invariant-loop-count : goal.invariant-loop-count
invariant-loop-count l = listed_from l.count l.listing (map index_words (walk_from (λ y. index_by l.entries l.search y) (l.most - l.count) l.found))
    ≡ listed (map index_words (walk_from (λ y. index_by l.entries l.search y) l.fn.most l.fn.start))
