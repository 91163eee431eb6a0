-- Keys in order: by the numbers of tenants and kinds, then by the bytes of names.
--     is_on itself start k       the key comes behind the start, or is the start where that counts too
--     place_on itself ps start   the least key that is on and has a place, with its place
--     bound_from itself start    where the keys that are on begin
--     IsLeast test f answer      the answer is the least key that passes the test and has a place by f
--     lesser a b                 the one of two answers whose key is less
--     IsOrderOf es order         the set has the keys of the entries
use Rattle.std.specs.Prelude.{◌≡◌, ℕ, Bool, true, false, cond, if◌then◌else◌, List, Option, Some, None, is_some, filter}
use Rattle.std.specs.Ordering.{is_gt, is_ge}
use Rattle.std.specs.BTreeSet.{BTreeSet, contains}
use Rattle.std.specs.FinMap.{FinMap, entries}
use Rattle.std.specs.declared.collections.Bound.{Bound}
use Rattle.std.specs.declared.collections.Bound.TheVariants.{Included, Excluded}
use Rattle.judy_model.specs.Contents.{string_order, head_of}
use Rattle.judy_directory.specs.Places.{Stand}
use Rattle.judy_directory.specs.Rooms.{look_up}

-- whether a key comes behind another, or is that one where that counts too
abbrev pub is_on : Bool → List ℕ → List ℕ → Bool
is_on itself start k = if itself then is_ge (string_order k start) else is_gt (string_order k start)

-- the least key that is on and has a place, with its place
abbrev pub place_on : Bool → FinMap string_order Stand → List ℕ → Option (List ℕ × Stand)
place_on itself places start = head_of (filter (λ e. is_on itself start e.0) (entries places))

-- where the keys behind the start begin, or those from the start on
abbrev pub bound_from : Bool → List ℕ → Bound (List ℕ)
bound_from itself start = cond itself (Included start) (Excluded start)

-- the answer is the least key that passes the test and has a place by f, with its place
abbrev pub IsLeast : (List ℕ → Bool) → (List ℕ → Option Stand) → Option (List ℕ × Stand) → Type 0
IsLeast test f None = (q : List ℕ) → test q ≡ true → f q ≡ None
IsLeast test f (Some e) = (test e.0 ≡ true) × (f e.0 ≡ Some e.1)
    × ((q : List ℕ) → test q ≡ true → is_some (f q) ≡ true → is_gt (string_order e.0 q) ≡ false)

-- the one of two answers whose key is less, and the first if the keys are equal
abbrev pub lesser : Option (List ℕ × Stand) → Option (List ℕ × Stand) → Option (List ℕ × Stand)
lesser None b = b
lesser (Some a) None = Some a
lesser (Some a) (Some b) = cond (is_gt (string_order a.0 b.0)) (Some b) (Some a)

-- the set has the keys of the entries
abbrev pub IsOrderOf : List (List ℕ × Stand) → BTreeSet (List ℕ) → Type 0
IsOrderOf es order = (q : List ℕ) → contains string_order order q ≡ is_some (look_up q es)
