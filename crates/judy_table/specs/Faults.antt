-- The first fault of a table's text, in the order of docs/FORMAT.md.
--     IsOutside most z     the integer is not 0 to this number
--     HasFault f name w    f is the first fault of a tenant with these values
--     LacksShape ms        a value is no table of a tenant, or a key of it is missing, unknown or of
--                          the wrong type
--     FaultsIn f ms        the tenants up to one are well, and f is the first fault of that one
--     IsFaultOf f text     the text has the fault f, and none that comes before it
--     TellsFirstFaults     what is told is such a fault
use Rattle.std.specs.Prelude.{◌≡◌, ◌⊎◌, ◌<◌, ◌≤◌, ℕ, ℤ, pos, negsuc, true, false, List, Option, Some, None, Err}
use Rattle.std.specs.Str.{is_utf8}
use Rattle.toml.specs.Data.{Members, no_members, member}
use Rattle.toml.specs.Parse.{parse_document}
use Rattle.hex.specs.Hex.{decode_sized}
use Rattle.hex.specs.declared.error.FromHexError.{FromHexError}
use Rattle.judy_model.specs.Grammar.{is_name}
use Rattle.judy_table.specs.Meaning.{IsTenantOf}
use Rattle.judy_table.specs.Tenants.{Written, read_table, size, written}
use Rattle.judy_table.specs.declared.fault.TableFault.{TableFault}
use Rattle.judy_table.specs.declared.fault.TableFault.TheVariants as fault
use Rattle.judy_table.specs.declared.tenant.Tenant.{Tenant}

-- the integer is below 0, or above this number
abbrev pub IsOutside : ℕ → ℤ → Type 0
IsOutside most (pos n) = most < n
IsOutside most (negsuc n) = Unit {0}

-- the quota of pieces is given, and is outside its range
abbrev pub IsTooMany : Option ℤ → Type 0
IsTooMany None = ⊥
IsTooMany (Some z) = IsOutside 2113929216 z

-- the integer is below 1
abbrev pub IsNone : ℤ → Type 0
IsNone (pos n) = n < 1
IsNone (negsuc n) = Unit {0}

-- the limit of records in a journal is given, and is none
abbrev pub IsNoLimit : Option ℤ → Type 0
IsNoLimit None = ⊥
IsNoLimit (Some z) = IsNone z

-- the text is not 64 hexadecimal digits
abbrev pub IsNoDigest : List ℕ → Type 0
IsNoDigest text = (e : FromHexError) × (decode_sized text 32 ≡ Err e)

-- another token has a digest, and it is none
abbrev pub IsNoOther : Option (List ℕ) → Type 0
IsNoOther None = ⊥
IsNoOther (Some text) = IsNoDigest text

-- one of the digests is none
abbrev pub LacksDigest : Written → Type 0
LacksDigest w = IsNoDigest w.digest ⊎ IsNoOther w.others.look ⊎ IsNoOther w.others.former ⊎ IsNoOther w.others.former_look

-- the first fault of a tenant, in the order of its name, its digests, its quota, its limit in a journal and its
-- pieces; the third and the fourth are one fault
abbrev pub HasFault : TableFault → List ℕ → Written → Type 0
HasFault fault.Memory name w = ⊥
HasFault fault.Toml name w = ⊥
HasFault fault.Shape name w = ⊥
HasFault fault.Count name w = ⊥
HasFault fault.Name name w = is_name name ≡ false
HasFault fault.Digest name w = (is_name name ≡ true) × LacksDigest w
HasFault fault.Quota name w = (is_name name ≡ true) × (LacksDigest w → ⊥) × (IsOutside 16777216 w.entries ⊎ IsNoLimit w.journal)
HasFault fault.Pieces name w =
    (is_name name ≡ true) × (LacksDigest w → ⊥) × (IsOutside 16777216 w.entries → ⊥) × (IsNoLimit w.journal → ⊥) × IsTooMany w.pieces

-- a value of the document does not have the shape of a tenant
abbrev pub LacksShape : Members → Type 0
LacksShape no_members = ⊥
LacksShape (member name d ms) = (written d ≡ None) ⊎ LacksShape ms

-- the first tenant that has a fault has this one
abbrev pub FaultsIn : TableFault → Members → Type 0
FaultsIn f no_members = ⊥
FaultsIn f (member name d ms) = ((w : Written) × (written d ≡ Some w) × HasFault f name w) ⊎ ((t : Tenant) × IsTenantOf name d t × FaultsIn f ms)

-- the text is a document in UTF-8
abbrev pub IsDocument : List ℕ → Members → Type 0
IsDocument text ms = (is_utf8 text ≡ true) × (parse_document text ≡ Some ms)

-- the document has the shape of 1 to 64 tenants, and the first of them that has a fault has this one
abbrev pub IsFaultOfTenant : TableFault → List ℕ → Type 0
IsFaultOfTenant f text = (ms : Members) × IsDocument text ms × (LacksShape ms → ⊥) × (1 ≤ size ms) × (size ms ≤ 64) × FaultsIn f ms

-- the first fault of a text
abbrev pub IsFaultOf : TableFault → List ℕ → Type 0
IsFaultOf fault.Memory text = ⊥
IsFaultOf fault.Toml text = (is_utf8 text ≡ false) ⊎ (parse_document text ≡ None)
IsFaultOf fault.Shape text = (ms : Members) × IsDocument text ms × LacksShape ms
IsFaultOf fault.Count text = (ms : Members) × IsDocument text ms × (LacksShape ms → ⊥) × ((size ms ≡ 0) ⊎ (64 < size ms))
IsFaultOf fault.Name text = IsFaultOfTenant fault.Name text
IsFaultOf fault.Digest text = IsFaultOfTenant fault.Digest text
IsFaultOf fault.Quota text = IsFaultOfTenant fault.Quota text
IsFaultOf fault.Pieces text = IsFaultOfTenant fault.Pieces text

-- the fault that is told is the first fault of the text
abbrev pub TellsFirstFaults : Type 0
TellsFirstFaults = (text : List ℕ) (f : TableFault) → read_table text ≡ Err f → IsFaultOf f text
