use Rattle.std.proofs.Common.{◌≡◌, map, ◌-◌}
use Rattle.judy_model.specs.Walks.{found_by, key_words, listed, listed_from, walk_from}
use Rattle.std.specs.Option.{option_copied}
use Rattle.judy_model.specs.Contents.{string_order}
use Rattle.judy_reference.proofs.store.walks.list_strings.Given as goal

-- what is in the list and what is still to come are what the whole walk lists
abbrev pub invariant-loop-count : goal.invariant-loop-count
invariant-loop-count l = listed_from l.count l.listing (map key_words (walk_from (λ e. found_by string_order l.entries l.search e.0) (l.most - l.count) (option_copied l.found)))
    ≡ listed (map key_words (walk_from (λ e. found_by string_order l.entries l.search e.0) l.fn.most (option_copied l.fn.start)))
