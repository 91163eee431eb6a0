-- what is in the list and what is still to come are what the whole walk lists
use Rattle.std.proofs.Common.{◌≡◌, map, ◌-◌}
use Rattle.std.specs.Prelude.{option_map}
use Rattle.judy_model.specs.ArrayLists.{array_texts, array_words, count_of, key_of_start}
use Rattle.judy_model.specs.Contents.{next, string_order}
use Rattle.judy_model.specs.Tenant.{array_counts}
use Rattle.judy_model.specs.Walks.{listed, listed_from, walk_from}
use Rattle.judy_tenants.specs.States.{state_in}
use Rattle.judy_tenants.proofs.arrays.list_arrays.Given as goal

abbrev pub invariant-loop-count : goal.invariant-loop-count
invariant-loop-count g l =
    let counts = array_counts (state_in l.stock.arena.blocks l.stock.directory.0 l.tenant) in
    listed_from l.count l.listing (map array_words (walk_from (λ e. next string_order counts e.0) (l.most - l.count) (option_map count_of l.found)))
    ≡ listed (array_texts counts (key_of_start l.fn.from) l.fn.most)
