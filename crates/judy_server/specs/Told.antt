-- What is told of a new table.
--     Tells part told told'            this was told behind the rest, or nothing, without memory for it
--     TellsAll parts told told'        the same, one after another
--     tenants_parts count              how many tenants a table has
--     fault_parts fault                the fault of a table
--     reason_parts tenants place       why a table was not put in force: what this tenant holds
use Rattle.std.specs.Prelude.{◌≡◌, ◌⊎◌, ◌++◌, ◌==◌, ℕ, List, [], ◌∷◌, codes, decimal, if◌then◌else◌}
use Rattle.judy_programs.specs.Finish.{fault_name}
use Rattle.judy_table.specs.Seats.{name_at}
use Rattle.judy_table.specs.declared.fault.TableFault.{TableFault}
use Rattle.judy_table.specs.declared.fault.TableFault.TheVariants as fault
use Rattle.judy_table.specs.declared.tenant.Tenant.{Tenant}

abbrev pub Tells : List ℕ → List ℕ → List ℕ → Type 0
Tells part told told' = (told' ≡ told) ⊎ (told' ≡ told ++ part)

abbrev pub TellsAll : List (List ℕ) → List ℕ → List ℕ → Type 0
TellsAll [] told told' = told' ≡ told
TellsAll (part ∷ parts) told told' = (mid : List ℕ) × Tells part told mid × TellsAll parts mid told'

abbrev pub tenants_parts : ℕ → List (List ℕ)
tenants_parts count = decimal count ∷ (if count == 1 then codes " tenant" else codes " tenants") ∷ []

abbrev pub fault_parts : TableFault → List (List ℕ)
fault_parts fault.Memory = codes "out of memory" ∷ []
fault_parts other = codes "fault " ∷ fault_name other ∷ []

abbrev pub reason_parts : List Tenant → ℕ → List (List ℕ)
reason_parts tenants place =
    codes "the quota of " ∷ name_at tenants place ∷ codes " is less than what it holds" ∷ []
