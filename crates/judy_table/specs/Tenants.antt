-- The tenants of a table's text, by its `toml` tree, and the first fault of a text.
use Rattle.std.specs.Prelude.{ℕ, suc, ℤ, pos, negsuc, ◌+◌, ◌*◌, ◌≤◌, ◌==◌, ◌&&◌, Bool, true, false, List, [], ◌∷◌}
use Rattle.std.specs.Prelude.{length, Option, Some, None, is_some, Result, Ok, Err, nat_le, if◌then◌else◌, codes, option_and_then}
use Rattle.std.specs.Prelude.{◌||◌, option_map, position, map, slice_get, replicate}
use Rattle.std.specs.Ordering.{nat_cmp}
use Rattle.std.specs.Cmp.Lexicographic.{slice_cmp}
use Rattle.std.specs.List.{All}
use Rattle.std.specs.List.Sorted.{IsStrictlySortedBy}
use Rattle.std.specs.Str.{is_utf8, bytes_eq}
use Rattle.toml.specs.Data.{Data, Members, no_members, member, get_member, as_str, as_integer, as_table}
use Rattle.toml.specs.Parse.{parse_document}
use Rattle.hex.specs.Hex.{decode_sized}
use Rattle.hex.specs.declared.error.FromHexError.{FromHexError}
use Rattle.sha2.specs.Sha256.{sha256}
use Rattle.judy_model.specs.Grammar.{is_name}
use Rattle.judy_model.specs.Speakers.{Speaker}
use Rattle.judy_model.specs.declared.quotas.Right.{Right}
use Rattle.judy_model.specs.declared.quotas.TheConstants.{ENTRIES_LIMIT, PIECES_LIMIT}
use Rattle.judy_model.specs.declared.quotas.Right.TheVariants.{Change, Look, Frozen}
use Rattle.judy_table.specs.declared.fault.TableFault.{TableFault}
use Rattle.judy_table.specs.declared.fault.TableFault.TheVariants as fault
use Rattle.judy_table.specs.declared.table.TheConstants.{TENANTS_LIMIT}
use Rattle.judy_table.specs.declared.tenant.Others.{Others}
use Rattle.judy_table.specs.declared.tenant.Tenant.{Tenant}

-- the number of keys of a table
abbrev pub size : Members → ℕ
size no_members = 0
size (member k d ms) = suc (size ms)

-- the texts of the digests of a tenant's other tokens, as far as they are given: of its read-only
-- token, and of its old tokens, which still log in
pub record OtherTexts : Type 0 where
  pub look : Option (List ℕ)
  pub former : Option (List ℕ)
  pub former_look : Option (List ℕ)

-- the values for a tenant: the text of its digest, its quota of entries, and, if given, its quota
-- of pieces, the limit of its records in a journal, and the texts of the digests of its other tokens
pub record Written : Type 0 where
  pub digest : List ℕ
  pub entries : ℤ
  pub pieces : Option ℤ
  pub journal : Option ℤ
  pub others : OtherTexts

-- the value of an optional key; None if the key is present with another type
abbrev pub optional : {A : Type 0} → (Data → Option A) → Option Data → Option (Option A)
optional read None = Some None
optional read (Some d) = option_map Some (read d)

-- 1 for a key that is present, else 0
abbrev pub one_if_some : {A : Type 0} → Option A → ℕ
one_if_some None = 0
one_if_some (Some x) = 1

-- how many of the other digests are given
abbrev pub count_others : OtherTexts → ℕ
count_others o = one_if_some o.look + one_if_some o.former + one_if_some o.former_look

-- the texts of the other digests; None if one of them has another type
abbrev pub all_others : Option (Option (List ℕ)) → Option (Option (List ℕ)) → Option (Option (List ℕ)) → Option OtherTexts
all_others None former former_look = None
all_others (Some look) None former_look = None
all_others (Some look) (Some former) None = None
all_others (Some look) (Some former) (Some former_look) = Some (record { look = look; former = former; former_look = former_look })

-- the values of a table with this many keys; None if it has other keys
abbrev pub all_of : ℕ → Option (List ℕ) → Option ℤ → Option (Option ℤ) → Option (Option ℤ) → Option OtherTexts → Option Written
all_of keys None entries pieces journal others = None
all_of keys (Some digest) None pieces journal others = None
all_of keys (Some digest) (Some entries) None journal others = None
all_of keys (Some digest) (Some entries) (Some pieces) None others = None
all_of keys (Some digest) (Some entries) (Some pieces) (Some journal) None = None
all_of keys (Some digest) (Some entries) (Some pieces) (Some journal) (Some others) =
    if keys == 2 + one_if_some pieces + one_if_some journal + count_others others then
    Some (record { digest = digest; entries = entries; pieces = pieces; journal = journal; others = others })
    else None

-- the texts of the other digests in a tenant's table
abbrev pub others_in : Members → Option OtherTexts
others_in ms =
    all_others (optional as_str (get_member (codes "read_sha256") ms)) (optional as_str (get_member (codes "old_sha256") ms))
    (optional as_str (get_member (codes "old_read_sha256") ms))

-- a tenant's table has the keys `sha256`, a string, and `quota`, an integer. It may have `pieces` and
-- `journal`, integers, and `read_sha256`, `old_sha256` and `old_read_sha256`, strings. It has no other key.
abbrev pub written_in : Members → Option Written
written_in ms =
    all_of (size ms) (option_and_then as_str (get_member (codes "sha256") ms)) (option_and_then as_integer (get_member (codes "quota") ms))
    (optional as_integer (get_member (codes "pieces") ms)) (optional as_integer (get_member (codes "journal") ms)) (others_in ms)

abbrev pub written : Data → Option Written
written d = option_and_then written_in (as_table d)

-- each value of the top level is such a table
abbrev pub have_shape : Members → Bool
have_shape no_members = true
have_shape (member name d ms) = is_some (written d) && have_shape ms

-- a number from 0 to this one
abbrev pub up_to : ℕ → ℤ → Option ℕ
up_to most (pos n) = if nat_le n most then Some n else None
up_to most (negsuc n) = None

-- the quota of pieces of a tenant with this quota of entries: the given one, or the most pieces
-- that this number of entries can have
abbrev pub pieces_for : ℕ → Option ℤ → Option ℕ
pieces_for entries None = Some (126 * entries)
pieces_for entries (Some written) = up_to PIECES_LIMIT written

-- a number from 1 on
abbrev pub from_one : ℤ → Option ℕ
from_one (pos n) = if nat_le 1 n then Some n else None
from_one (negsuc n) = None

-- the limit of a tenant's records in a journal, if one is given; None if what is given is no limit
abbrev pub journal_for : Option ℤ → Option (Option ℕ)
journal_for None = Some None
journal_for (Some written) = option_map Some (from_one written)

abbrev pub with_pieces : List ℕ → List ℕ → Others → ℕ → Option ℕ → Option ℕ → Result Tenant TableFault
with_pieces name digest others entries journal (Some pieces) =
    Ok (record { name = name; digest = digest; others = others; quota = record { entries = entries; pieces = pieces }; journal = journal; frozen = None })
with_pieces name digest others entries journal None = Err fault.Pieces

abbrev pub with_journal : List ℕ → List ℕ → Others → ℕ → Option (Option ℕ) → Option ℤ → Result Tenant TableFault
with_journal name digest others entries (Some journal) pieces = with_pieces name digest others entries journal (pieces_for entries pieces)
with_journal name digest others entries None pieces = Err fault.Quota

abbrev pub with_entries : List ℕ → List ℕ → Others → Option ℕ → Option (Option ℕ) → Option ℤ → Result Tenant TableFault
with_entries name digest others (Some entries) journal pieces = with_journal name digest others entries journal pieces
with_entries name digest others None journal pieces = Err fault.Quota

-- a digest that was read, if it was read
abbrev pub digest_read : Result (List ℕ) FromHexError → Result (Option (List ℕ)) FromHexError
digest_read (Ok digest) = Ok (Some digest)
digest_read (Err e) = Err e

-- the 32 bytes of an optional digest
abbrev pub optional_digest : Option (List ℕ) → Result (Option (List ℕ)) FromHexError
optional_digest None = Ok None
optional_digest (Some text) = digest_read (decode_sized text 32)

-- the other digests, if all of them were read
abbrev pub all_read : Result (Option (List ℕ)) FromHexError → Result (Option (List ℕ)) FromHexError → Result (Option (List ℕ)) FromHexError
    → Result Others FromHexError
all_read (Err e) former former_look = Err e
all_read (Ok look) (Err e) former_look = Err e
all_read (Ok look) (Ok former) (Err e) = Err e
all_read (Ok look) (Ok former) (Ok former_look) = Ok (record { look = look; former = former; former_look = former_look })

-- the other digests of these texts
abbrev pub others_of : OtherTexts → Result Others FromHexError
others_of o = all_read (optional_digest o.look) (optional_digest o.former) (optional_digest o.former_look)

abbrev pub with_others : List ℕ → List ℕ → Result Others FromHexError → Written → Result Tenant TableFault
with_others name digest (Ok others) w = with_entries name digest others (up_to ENTRIES_LIMIT w.entries) (journal_for w.journal) w.pieces
with_others name digest (Err e) w = Err fault.Digest

abbrev pub with_digest : List ℕ → Result (List ℕ) FromHexError → Written → Result Tenant TableFault
with_digest name (Ok digest) w = with_others name digest (others_of w.others) w
with_digest name (Err e) w = Err fault.Digest

-- the tenant of this name with these values, or its first fault in the order Name, Digest, Quota,
-- Pieces
abbrev pub tenant_of : List ℕ → Written → Result Tenant TableFault
tenant_of name w = if is_name name then with_digest name (decode_sized w.digest 32) w else Err fault.Name

abbrev pub tenant_if_written : List ℕ → Option Written → Result Tenant TableFault
tenant_if_written name (Some w) = tenant_of name w
tenant_if_written name None = Err fault.Shape

-- one tenant and those after it, or the first fault
abbrev pub and_more : Result Tenant TableFault → Result (List Tenant) TableFault → Result (List Tenant) TableFault
and_more (Ok t) (Ok ts) = Ok (t ∷ ts)
and_more (Ok t) (Err f) = Err f
and_more (Err f) rest = Err f

abbrev pub tenants_in : Members → Result (List Tenant) TableFault
tenants_in no_members = Ok []
tenants_in (member name d ms) = and_more (tenant_if_written name (written d)) (tenants_in ms)

-- the tenants of a document, or its first fault in the order Shape, Count, and then by tenant
abbrev pub read_tree : Members → Result (List Tenant) TableFault
read_tree ms =
    if have_shape ms then
    (if nat_le 1 (size ms) && nat_le (size ms) TENANTS_LIMIT then tenants_in ms else Err fault.Count)
    else Err fault.Shape

abbrev pub read_document : Option Members → Result (List Tenant) TableFault
read_document (Some ms) = read_tree ms
read_document None = Err fault.Toml

-- the tenants of a table's text, or its first fault other than out of memory
abbrev pub read_table : List ℕ → Result (List Tenant) TableFault
read_table text = if is_utf8 text then read_document (parse_document text) else Err fault.Toml

-- the place of the tenant of this name
abbrev pub place_of : List ℕ → List Tenant → Option ℕ
place_of name tenants = position (λ t. bytes_eq t.name name) tenants

-- whether an optional digest is this one
abbrev pub is_digest : Option (List ℕ) → List ℕ → Bool
is_digest None shown = false
is_digest (Some digest) shown = bytes_eq digest shown

-- whether a row has no tenant: its name is empty, which no request can spell
abbrev pub is_vacant : Tenant → Bool
is_vacant t = length t.name == 0

-- no other token
abbrev pub no_others : Others
no_others = record { look = None; former = None; former_look = None }

-- the row of a place without a tenant
abbrev pub vacant : Tenant
vacant = record { name = []; digest = replicate 32 0; others = no_others; quota = record { entries = 0; pieces = 0 }; journal = None; frozen = None }

-- whether a token with this SHA-256 is the tenant's, or its old one
abbrev pub owns : List ℕ → Tenant → Bool
owns shown t = bytes_eq t.digest shown || is_digest t.others.former shown

-- whether it gives the right to read and write: it is one of these two, or, while the tenant is frozen,
-- the token of the freeze
abbrev pub may_change : List ℕ → Tenant → Bool
may_change shown t = if is_some t.frozen then is_digest t.frozen shown else owns shown t

-- whether it gives the right of a frozen tenant: it is one of these two, and the tenant is frozen
abbrev pub is_kept_out : List ℕ → Tenant → Bool
is_kept_out shown t = is_some t.frozen && owns shown t

-- whether it gives the right to read: it is the read-only token, or the old one
abbrev pub may_look : List ℕ → Tenant → Bool
may_look shown t = is_digest t.others.look shown || is_digest t.others.former_look shown

-- the right of a token with this SHA-256: to read and write, that of a frozen tenant, or only to read. A
-- vacant row gives none.
abbrev pub right_of : List ℕ → Tenant → Option Right
right_of shown t =
    if is_vacant t then None
    else if may_change shown t then Some Change
    else if is_kept_out shown t then Some Frozen
    else if may_look shown t then Some Look
    else None

-- the speaker at this place, with this right
abbrev pub speaker_at : ℕ → Option Right → Option Speaker
speaker_at place None = None
speaker_at place (Some right) = Some (record { tenant = place; right = right })

-- the speaker with this token, if the tenant at this place has it
abbrev pub login_at : List Tenant → Option ℕ → List ℕ → Option Speaker
login_at tenants None token = None
login_at tenants (Some place) token = speaker_at place (option_and_then (right_of (sha256 token)) (slice_get tenants place))

-- the speaker with this name and token, if there is one
abbrev pub login_of : List ℕ → List ℕ → List Tenant → Option Speaker
login_of name token tenants = login_at tenants (place_of name tenants) token

-- the names are sorted by bytes, so no two tenants have the same name
abbrev pub HasRisingNames : List Tenant → Type 0
HasRisingNames ts = IsStrictlySortedBy (slice_cmp nat_cmp) (map (λ t. t.name) ts)

-- the quota is one that a table can grant
pub record IsLimited (t : Tenant) : Type 0 where
  pub entries : t.quota.entries ≤ ENTRIES_LIMIT
  pub pieces : t.quota.pieces ≤ PIECES_LIMIT

-- the quota of each tenant is one that a table can grant
abbrev pub AreLimited : List Tenant → Type 0
AreLimited ts = All IsLimited ts
