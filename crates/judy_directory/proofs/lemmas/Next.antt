-- The next place is the least of those that are on.
use Rattle.std.proofs.Common.{Bool, List, ℕ}
use Rattle.std.specs.FinMap.{FinMap, get}
use Rattle.judy_model.specs.Contents.{string_order}
use Rattle.judy_directory.specs.Order.{IsLeast, is_on, place_on}
use Rattle.judy_directory.specs.Places.{Stand}
use Rattle.judy_directory.proofs.Least.{place-least}

pub next_is_least : (itself : Bool) (start : List ℕ) (places : FinMap string_order Stand)
    → IsLeast (is_on itself start) (get places) (place_on itself places start)
next_is_least itself start places = place-least itself start places
