-- A connection of two tenants with known tokens, on which worked runs are computed.
use Rattle.std.specs.Prelude.{ℕ, List, ◌++◌, map, codes, ◌&&◌, if◌then◌else◌, Some, None}
use Rattle.std.specs.Ordering.{eq_by_cmp}
use Rattle.judy_model.specs.declared.quotas.Quota.{Quota}
use Rattle.judy_model.specs.declared.quotas.Right.TheVariants.{Change, Look, Frozen}
use Rattle.judy_model.specs.Contents.{string_order}
use Rattle.judy_model.specs.Pieces.{entries_quota}
use Rattle.judy_model.specs.Speakers.{attempt_of}
use Rattle.judy_model.specs.Tenant.{no_arrays, replies_alone}
use Rattle.judy_model.specs.Stream.{Login, events, answer}

-- alice with the token `abc`, the read-only token `hello`, and the token `ice` that is frozen; bob with the
-- token `hello`
abbrev pub door : Login
door name token =
    if eq_by_cmp string_order name (codes "alice") && eq_by_cmp string_order token (codes "abc") then Some (record { tenant = 0; right = Change })
    else if eq_by_cmp string_order name (codes "alice") && eq_by_cmp string_order token (codes "hello") then Some (record { tenant = 0; right = Look })
    else if eq_by_cmp string_order name (codes "alice") && eq_by_cmp string_order token (codes "ice") then Some (record { tenant = 0; right = Frozen })
    else if eq_by_cmp string_order name (codes "bob") && eq_by_cmp string_order token (codes "hello") then Some (record { tenant = 1; right = Change })
    else None

-- the text written for a stream on which one tenant with this quota and no entries makes all calls
abbrev pub talk : Quota → List ℕ → List ℕ
talk quota stream = answer door stream (replies_alone quota no_arrays (map attempt_of (events door stream)))

-- the same, where alice has a quota of 4 entries and is logged in
abbrev pub alice : List ℕ → List ℕ
alice lines = talk (entries_quota 4) (codes "AUTH alice abc\n" ++ lines)

-- the same for bob, with a quota of 1,000
abbrev pub bob : List ℕ → List ℕ
bob lines = talk (entries_quota 1000) (codes "AUTH bob hello\n" ++ lines)
