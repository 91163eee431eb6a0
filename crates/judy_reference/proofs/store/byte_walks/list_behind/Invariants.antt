use Rattle.std.proofs.Common.{◌≡◌, [], drop, map, unwrap_or, ◌-◌}
use Rattle.std.specs.Option.{option_copied}
use Rattle.judy_model.specs.Contents.{next, string_order}
use Rattle.judy_model.specs.Walks.{by_hash, key_words, listed, listed_from, walk_bytes, walk_from}
use Rattle.judy_reference.proofs.store.byte_walks.list_behind.Given as goal

-- what is in the list and what is still to come are what the whole walk lists
abbrev pub invariant-loop-count : goal.invariant-loop-count
invariant-loop-count l = listed_from l.count l.listing (map (λ e. key_words (drop 1 e.0, e.1))
    (walk_from (λ e. next string_order (by_hash l.entries) e.0) (l.most - l.count) l.found))
    ≡ listed (map key_words (walk_bytes l.entries (unwrap_or (option_copied l.fn.from) []) l.fn.most))
