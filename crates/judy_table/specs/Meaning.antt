-- What a table of tenants is, in the words of docs/FORMAT.md.
--     HasPieces o quota      the quota of pieces, by the value of the key `pieces`, if it is present
--     HasLimit o limit       the limit of records in a journal, by the value of the key `journal`
--     HasDigest o digest     the digest of another token, by that of its key
--     IsTenantOf name d t    the value d of the key `name` is a tenant's table, and t is the tenant
--     AreTenantsOf ms ts     each key of the document gives one tenant, in their order
--     IsTableOf text ts      the text is a table of these tenants
--     ReadsTables            a text is read as these tenants exactly if it is their table
use Rattle.std.specs.Prelude.{◌≡◌, ◌↔◌, ℕ, ℤ, pos, ◌+◌, ◌*◌, ◌≤◌, IsTrue, List, [], ◌∷◌, Option, Some, None, Ok, codes, option_and_then}
use Rattle.std.specs.Str.{IsUtf8}
use Rattle.toml.specs.Data.{Data, Members, no_members, member, get_member, as_str, as_integer, as_table}
use Rattle.toml.specs.Parse.{parse_document}
use Rattle.hex.specs.Hex.{decode_sized}
use Rattle.judy_model.specs.Grammar.{is_name}
use Rattle.judy_model.specs.declared.quotas.Quota.{Quota}
use Rattle.judy_table.specs.Tenants.{size, read_table}
use Rattle.judy_table.specs.declared.tenant.Tenant.{Tenant}

-- 126 pieces for each entry of the quota, or the integer that is given
abbrev pub HasPieces : Option Data → Quota → Type 0
HasPieces None quota = quota.pieces ≡ 126 * quota.entries
HasPieces (Some d) quota = (as_integer d ≡ Some (pos quota.pieces)) × (quota.pieces ≤ 2113929216)

-- no limit, or the integer that is given, from 1 on
abbrev pub HasLimit : Option Data → Option ℕ → Type 0
HasLimit None o = o ≡ None
HasLimit (Some d) o = (n : ℕ) × (as_integer d ≡ Some (pos n)) × (1 ≤ n) × (o ≡ Some n)

-- no such token, or the 32 bytes of the string that is given
abbrev pub HasDigest : Option Data → Option (List ℕ) → Type 0
HasDigest None o = o ≡ None
HasDigest (Some d) o = (text : List ℕ) × (digest : List ℕ) × (as_str d ≡ Some text) × (decode_sized text 32 ≡ Ok digest) × (o ≡ Some digest)

-- 1 for a key that is present, else 0
abbrev pub if_there : Option Data → ℕ
if_there None = 0
if_there (Some d) = 1

-- a tenant's table with n keys, by the values of the seven keys that it may have
pub record HasValues (name : List ℕ) (n : ℕ) (sha256 : Option (List ℕ)) (quota : Option ℤ) (pieces journal look former former_look : Option Data) (t : Tenant) : Type 0 where
  -- the name is 1 to 32 letters, digits, `_`, `-` and `.`
  pub spelled : IsTrue (is_name name)
  pub name_is : t.name ≡ name
  -- `sha256` is a string of 64 hexadecimal digits
  pub text : List ℕ
  pub string : sha256 ≡ Some text
  pub digest : decode_sized text 32 ≡ Ok t.digest
  -- `quota` is an integer from 0 to 16,777,216
  pub integer : quota ≡ Some (pos t.quota.entries)
  pub most : t.quota.entries ≤ 16777216
  -- `pieces`, `journal`, `read_sha256`, `old_sha256` and `old_read_sha256` may be present
  pub pieces_are : HasPieces pieces t.quota
  pub journal_is : HasLimit journal t.journal
  pub look_is : HasDigest look t.others.look
  pub former_is : HasDigest former t.others.former
  pub former_look_is : HasDigest former_look t.others.former_look
  -- the tenant is not frozen
  pub thawed : t.frozen ≡ None
  -- no other key is
  pub only : n ≡ 2 + if_there pieces + if_there journal + (if_there look + if_there former + if_there former_look)

-- the value is a tenant's table
pub record IsTenantOf (name : List ℕ) (d : Data) (t : Tenant) : Type 0 where
  pub keys : Members
  pub table : as_table d ≡ Some keys
  pub values : HasValues name (size keys) (option_and_then as_str (get_member (codes "sha256") keys))
      (option_and_then as_integer (get_member (codes "quota") keys)) (get_member (codes "pieces") keys) (get_member (codes "journal") keys) (get_member (codes "read_sha256") keys)
      (get_member (codes "old_sha256") keys) (get_member (codes "old_read_sha256") keys) t

-- each key of the document gives one tenant, and there are no other tenants
abbrev pub AreTenantsOf : Members → List Tenant → Type 0
AreTenantsOf no_members [] = Unit {0}
AreTenantsOf no_members (t ∷ ts) = ⊥
AreTenantsOf (member name d ms) [] = ⊥
AreTenantsOf (member name d ms) (t ∷ ts) = IsTenantOf name d t × AreTenantsOf ms ts

-- the text is a TOML document in UTF-8 with 1 to 64 keys, each of which gives a tenant
pub record IsTableOf (text : List ℕ) (ts : List Tenant) : Type 0 where
  pub utf8 : IsUtf8 text
  pub document : Members
  pub parses : parse_document text ≡ Some document
  pub some : 1 ≤ size document
  pub few : size document ≤ 64
  pub tenants : AreTenantsOf document ts

-- a text is read as these tenants exactly if it is their table
abbrev pub ReadsTables : Type 0
ReadsTables = (text : List ℕ) (ts : List Tenant) → (read_table text ≡ Ok ts ↔ IsTableOf text ts)
