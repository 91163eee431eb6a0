-- The name used last. Its place here replaces its place in the table of names.
--     recent_at r key        the place of the key, if it is the one used last
--     with_recent r places   the places, including that of the name used last
--     without_recent r key   the name used last after the key is removed
--     without_gone gone r    the name used last, unless its tenant is marked
--     has_recent r places    the name used last is among the places
use Rattle.std.specs.Prelude.{ℕ, List, Option, Some, None, Bool, true, cond}
use Rattle.std.specs.FinMap.{FinMap, insert, contains_key}
use Rattle.judy_model.specs.Contents.{string_order}
use Rattle.judy_directory.specs.declared.recent.Recent.{Recent}
use Rattle.judy_directory.specs.Places.{Stand}
use Rattle.judy_directory.specs.Kinds.{is_gone}
use Rattle.judy_directory.specs.Rooms.{alike}

-- the place of the key, if it is the one used last
abbrev pub recent_at : Option Recent → List ℕ → Option Stand
recent_at None key = None
recent_at (Some r) key = cond (alike r.spot key) (Some r.place) None

-- the places, including that of the name used last
abbrev pub with_recent : Option Recent → FinMap string_order Stand → FinMap string_order Stand
with_recent None places = places
with_recent (Some r) places = insert places r.spot r.place

-- the name used last after the key is removed
abbrev pub without_recent : Option Recent → List ℕ → Option Recent
without_recent None key = None
without_recent (Some r) key = cond (alike r.spot key) None (Some r)

-- the name used last, unless its tenant is marked
abbrev pub without_gone : List Bool → Option Recent → Option Recent
without_gone gone None = None
without_gone gone (Some r) = cond (is_gone gone r.spot) None (Some r)

-- the name used last is among the places
abbrev pub has_recent : Option Recent → FinMap string_order Stand → Bool
has_recent None places = true
has_recent (Some r) places = contains_key places r.spot
