-- The arrays of a tenant, by its name.
--     arrays_named s name      the arrays of the tenant with this name; none if there is no such tenant
--     HaveSame a b             each name has the same arrays in both services
use Rattle.std.specs.Prelude.{◌≡◌, ◌≢◌, ℕ, List, [], Option, Some, None}
use Rattle.judy_model.specs.Tenant.{State, no_arrays}
use Rattle.judy_table.specs.Tenants.{place_of}
use Rattle.judy_tenants.specs.Held.{states_of}
use Rattle.judy_server.specs.Tally.{Tallied}

-- the arrays at a place, if it is one
abbrev pub arrays_at : (ℕ → State) → Option ℕ → State
arrays_at states None = no_arrays
arrays_at states (Some t) = states t

-- the arrays of the tenant with this name; none if there is no such tenant
abbrev pub arrays_named : Tallied → List ℕ → State
arrays_named s name = arrays_at (states_of s.held) (place_of name s.held.tenants)

-- Each name has the same arrays in both services: a tenant of both has the same ones, and a tenant of one of them
-- alone has none.
abbrev pub HaveSame : Tallied → Tallied → Type 0
HaveSame a b = (name : List ℕ) → name ≢ [] → arrays_named b name ≡ arrays_named a name
