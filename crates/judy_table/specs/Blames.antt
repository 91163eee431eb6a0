-- Where the first fault of a table's text is: the tenant that has it, and a line of the text.
--
--     IsCauseOf   what is told to be wrong is what the fault is of
--     IsBlamed    a tenant of the text has this name and this fault, which is of what is told
--     StandsIn    a word stands in this line of the text
--     IsLineOf    the text has a line of this number
use Rattle.std.specs.Prelude.{◌≡◌, ◌⊎◌, ◌≤◌, ℕ, suc, length, ◌==◌, Bool, List, [], ◌∷◌, ◌++◌, Option, Some, None, Err, is_err, is_some, if◌then◌else◌, take}
use Rattle.toml.specs.Data.{Data, Members, no_members, member}
use Rattle.judy_model.specs.declared.quotas.TheConstants.{ENTRIES_LIMIT}
use Rattle.judy_table.specs.Faults.{IsDocument}
use Rattle.judy_table.specs.Tenants.{Written, optional_digest, tenant_if_written, up_to, written}
use Rattle.judy_table.specs.declared.blames.Cause.{Cause}
use Rattle.judy_table.specs.declared.blames.Cause.TheVariants as cause
use Rattle.judy_table.specs.declared.blames.Key.{Key}
use Rattle.judy_table.specs.declared.blames.Key.TheVariants as key
use Rattle.judy_table.specs.declared.fault.TableFault.{TableFault}
use Rattle.judy_table.specs.declared.fault.TableFault.TheVariants as fault

-- the document has this value under this name
abbrev pub HasMember : List ℕ → Data → Members → Type 0
HasMember name d no_members = ⊥
HasMember name d (member k e ms) = ((name ≡ k) × (d ≡ e)) ⊎ HasMember name d ms

-- the value under this name is that of a tenant with this fault
abbrev pub IsCulprit : TableFault → List ℕ → Data → Members → Type 0
IsCulprit f name d ms = HasMember name d ms × (tenant_if_written name (written d) ≡ Err f)

-- whether a digest is given, and is none
abbrev pub is_wrong : Option (List ℕ) → Bool
is_wrong text = is_err (optional_digest text)

-- the key of the first of a tenant's digests that is none, or else the last key
abbrev pub first_wrong : Written → Key
first_wrong w =
    if is_wrong (Some w.digest) then key.Digest
    else if is_wrong w.others.look then key.Look
    else if is_wrong w.others.former then key.Former
    else key.FormerLook

-- the key of the quota or, if that is one, of the limit in a journal
abbrev pub first_number : Written → Key
first_number w = if is_some (up_to ENTRIES_LIMIT w.entries) then key.Journal else key.Quota

-- the same by the values of a tenant, if there are any
abbrev pub number_key : Option Written → Key
number_key None = key.Quota
number_key (Some w) = first_number w

abbrev pub digest_key : Option Written → Key
digest_key None = key.Digest
digest_key (Some w) = first_wrong w

-- what is told to be wrong with a tenant of these values is what the fault is of
abbrev pub IsCauseOf : TableFault → Option Written → Cause → Type 0
IsCauseOf fault.Memory w c = Unit {0}
IsCauseOf fault.Toml w c = Unit {0}
IsCauseOf fault.Shape w c = Unit {0}
IsCauseOf fault.Count w c = Unit {0}
IsCauseOf fault.Name w c = c ≡ cause.Name
IsCauseOf fault.Digest w c = c ≡ cause.Wrong (digest_key w)
IsCauseOf fault.Quota w c = c ≡ cause.Wrong (number_key w)
IsCauseOf fault.Pieces w c = c ≡ cause.Wrong key.Pieces

-- a tenant of the text has this name and this fault, which is of what is told
abbrev pub IsBlamed : TableFault → Cause → List ℕ → List ℕ → Type 0
IsBlamed f c text name = (ms : Members) × (d : Data) × IsDocument text ms × IsCulprit f name d ms × IsCauseOf f (written d) c

-- the line after these bytes, which begin in this line
abbrev pub line_after : ℕ → List ℕ → ℕ
line_after line [] = line
line_after line (b ∷ bytes) = line_after (if b == 10 then suc line else line) bytes

-- the line of a place in a text, from 1 on
abbrev pub line_of : ℕ → List ℕ → ℕ
line_of at text = line_after 1 (take at text)

-- a word stands at this place of the text
abbrev pub StandsAt : List ℕ → List ℕ → ℕ → Type 0
StandsAt word text at = (back : List ℕ) × (text ≡ take at text ++ (word ++ back))

-- a word stands in this line of the text
abbrev pub StandsIn : List ℕ → List ℕ → ℕ → Type 0
StandsIn word text line = (at : ℕ) × (at ≤ length text) × StandsAt word text at × (line ≡ line_of at text)

-- the text has a line of this number
abbrev pub IsLineOf : List ℕ → ℕ → Type 0
IsLineOf text line = (at : ℕ) × (at ≤ length text) × (line ≡ line_of at text)
