-- A tree of `toml`, as the lists of its maps.
use Rattle.std.proofs.Common.{◌≡◌, ℕ, suc, ◌&&◌, List, [], ◌∷◌, length, refl, ap, is_some, map, Option, Some, String, Global, string_bytes, ◌∙◌}
use Rattle.std.specs.List.{list_all}
use Rattle.toml.specs.View.{members_view, view}
use Rattle.toml.proofs.Views.{Entry}
use Rattle.std.specs.Prelude.{Result, Ok, Err}
use Rattle.std.proofs.Common.{sym, append_assoc, append-nil, ◌++◌}
use Rattle.judy_table.specs.declared.tenant.Others.{Others}
use Rattle.judy_table.specs.declared.tenant.Tenant.{Tenant}
use Rattle.judy_table.specs.declared.fault.TableFault.{TableFault}
use Rattle.judy_table.specs.Tenants.{size, have_shape, written, and_more, tenants_in, tenant_if_written, tenant_of, Written}
use Rattle.judy_table.specs.Tenants.{read_document, read_table}
use Rattle.judy_table.specs.declared.fault.TableFault.TheVariants as fault
use Rattle.std.proofs.Common.{true, false, nat_le, None}
use Rattle.std.proofs.Common.{subst, Less, nat_cmp, if◌then◌else◌, ℤ, pos, negsuc, ◌≤◌, ◌*◌, arith}
use Rattle.std.proofs.lemmas.Bool.{leb-true}
use Rattle.std.proofs.lemmas.List.Elements.{All-cons, All-nil}
use Rattle.std.specs.String.{string_cmp}
use Rattle.std.specs.Map.{keys_of}
use Rattle.std.specs.List.{AllByRecursion}
use Rattle.std.specs.List.Sorted.{IsStrictlySortedBy}
use Rattle.std.specs.Cmp.Lexicographic.{slice_cmp}
use Rattle.hex.specs.Hex.{decode_sized}
use Rattle.hex.specs.declared.FromHexError.{FromHexError}
use Rattle.judy_model.specs.Grammar.{is_name}
use Rattle.judy_table.specs.Tenants.{with_pieces, with_entries, with_others, with_digest, journal_for, pieces_for, others_of, up_to, HasRisingNames, IsLimited, AreLimited}
use Rattle.std.specs.Str.{is_utf8, IsUtf8, bytes_eq}
use Rattle.std.proofs.Common.{◌||◌, not, Bool, is_eq, ne_eqb}
use Rattle.std.proofs.lemmas.Bool.{and_parts, and_from, or_from, or_right, not_from_false, false_from_ne_true, false≢true, both_ways}
use Rattle.std.proofs.lemmas.List.Elements.{All-from_recursion}
use Rattle.std.proofs.lemmas.List.Sums.{count_by-le-length}
use Rattle.std.proofs.lemmas.Map.Text.{is_eq-slice_cmp}
use Rattle.std.proofs.lemmas.Slice.Eq.{bytes_eq-Decides}
use Rattle.judy_model.specs.Grammar.{is_name_byte}
use Rattle.judy_table.specs.Tenants.{is_vacant, vacant}
use Rattle.judy_table.specs.Seats.{has_name, are_distinct, AreRows, IsSpelled}
use Rattle.std.proofs.lemmas.Str.{IsUtf8-from_is_utf8, is_utf8-from_IsUtf8}
use Rattle.toml.specs.Parse.{parse_document}
use Rattle.toml.specs.Data.{Data, Members, no_members, member}

pub size_members_view : (es : List Entry) → size (members_view es) ≡ length es
size_members_view [] = refl
size_members_view (e ∷ es) = ap suc (size_members_view es)

pub have_shape_members_view : (es : List Entry) → have_shape (members_view es) ≡ list_all (λ v. is_some (written (view v))) (map (λ e. e.1) es)
have_shape_members_view [] = refl
have_shape_members_view (e ∷ es) = ap (λ b. is_some (written (view e.1)) && b) (have_shape_members_view es)

-- the tenants xs, then those of the rest
abbrev pub after : List Tenant → Result (List Tenant) TableFault → Result (List Tenant) TableFault
after xs (Ok ys) = Ok (xs ++ ys)
after xs (Err f) = Err f

pub after-none : (r : Result (List Tenant) TableFault) → r ≡ after [] r
after-none (Ok ys) = refl
after-none (Err f) = refl

pub after-end : (xs : List Tenant) → after xs (Ok []) ≡ Ok xs
after-end xs = ap Ok (append-nil xs)

pub after-more : (xs : List Tenant) (t : Tenant) (r : Result (List Tenant) TableFault) → after xs (and_more (Ok t) r) ≡ after (xs ++ t ∷ []) r
after-more xs t (Ok ys) = ap Ok (sym (append_assoc xs (t ∷ []) ys))
after-more xs t (Err f) = refl

more_size : (n : ℕ) (t : Result Tenant TableFault) (r : Result (List Tenant) TableFault) (ts : List Tenant)
    → ((ys : List Tenant) → r ≡ Ok ys → length ys ≡ n) → and_more t r ≡ Ok ts → length ts ≡ suc n
more_size n (Ok t) (Ok ys) ts ih e = let p : t ∷ ys ≡ ts = cc in rw (← p) (ap suc (ih ys refl))
more_size n (Ok t) (Err f) ts ih e = cc
more_size n (Err f) r ts ih e = cc

-- there are as many tenants as keys
pub length-tenants_in : (ms : Members) (ts : List Tenant) → tenants_in ms ≡ Ok ts → length ts ≡ size ms
length-tenants_in no_members ts e = let p : [] ≡ ts = cc in rw (← p) refl
length-tenants_in (member name d ms) ts e = more_size (size ms) (tenant_if_written name (written d)) (tenants_in ms) ts (length-tenants_in ms) e

-- the tenants of a tree that begins with a tenant's table
pub tenants_in-first : (k : List ℕ) (d : Data) (ms : Members) (w : Written) (t : Tenant) (all : Result (List Tenant) TableFault) (xs : List Tenant)
    → all ≡ after xs (tenants_in (member k d ms)) → Some w ≡ written d → Ok t ≡ tenant_of k w → all ≡ after (xs ++ t ∷ []) (tenants_in ms)
tenants_in-first k d ms w t all xs h e f =
    h ∙ ap (λ o. after xs (and_more (tenant_if_written k o) (tenants_in ms))) (sym e)
    ∙ ap (λ r. after xs (and_more r (tenants_in ms))) (sym f) ∙ after-more xs t (tenants_in ms)

-- a text in UTF-8 is read as its document is
pub read_table-utf8 : (text : List ℕ) (o : Option Members) → IsUtf8 text → parse_document text ≡ o → read_table text ≡ read_document o
read_table-utf8 text o u e = rw (is_utf8-from_IsUtf8 text u, e) refl

pub read_table-no_document : (text : List ℕ) → (IsUtf8 text → parse_document text ≡ None) → read_table text ≡ Err fault.Toml
read_table-no_document text h =
    elim (is_utf8 text) as (λ b. is_utf8 text ≡ b → read_table text ≡ Err fault.Toml) [
      | true ↦ λ e. read_table-utf8 text None (IsUtf8-from_is_utf8 text e) (h (IsUtf8-from_is_utf8 text e))
      | false ↦ λ e. rw e refl
    ] refl

-- the keys of a tree
abbrev pub names_in : Members → List (List ℕ)
names_in no_members = []
names_in (member k d ms) = k ∷ names_in ms

name-with_pieces : (name digest : List ℕ) (others : Others) (entries : ℕ) (journal pieces : Option ℕ) (t : Tenant) → with_pieces
    name digest others entries journal pieces ≡ Ok t → t.name ≡ name
name-with_pieces name digest others entries journal (Some pieces) t e =
    let p : record { name = name; digest = digest; others = others; quota = record { entries = entries; pieces = pieces }; journal = journal; frozen = None } ≡ t = cc in
    ap (λ (u : Tenant). u.name) (sym p)
name-with_pieces name digest others entries journal None t e = cc

name-with_entries : (name digest : List ℕ) (others : Others) (entries : Option ℕ) (journal : Option (Option ℕ)) (pieces : Option ℤ) (t : Tenant)
    → with_entries name digest others entries journal pieces ≡ Ok t → t.name ≡ name
name-with_entries name digest others (Some entries) (Some journal) pieces t e = name-with_pieces name digest others entries journal (pieces_for entries pieces) t e
name-with_entries name digest others (Some entries) None pieces t e = cc
name-with_entries name digest others None journal pieces t e = cc

name-with_others : (name digest : List ℕ) (r : Result Others FromHexError) (w : Written) (t : Tenant) → with_others name
    digest r w ≡ Ok t → t.name ≡ name
name-with_others name digest (Ok others) w t e = name-with_entries name digest others (up_to 16777216 w.entries) (journal_for w.journal) w.pieces t e
name-with_others name digest (Err f) w t e = cc

name-with_digest : (name : List ℕ) (r : Result (List ℕ) FromHexError) (w : Written) (t : Tenant) → with_digest name r w ≡ Ok t → t.name ≡ name
name-with_digest name (Ok d) w t e = name-with_others name d (others_of w.others) w t e
name-with_digest name (Err f) w t e = cc

name-tenant_of : (name : List ℕ) (w : Written) (t : Tenant) → tenant_of name w ≡ Ok t → t.name ≡ name
name-tenant_of name w t =
    elim (is_name name) as (λ b. (if b then with_digest name (decode_sized w.digest 32) w else Err fault.Name) ≡ Ok t → t.name ≡ name) [
      | true ↦ name-with_digest name (decode_sized w.digest 32) w t
      | false ↦ λ e. cc
    ]

name-tenant_if_written : (name : List ℕ) (o : Option Written) (t : Tenant) → tenant_if_written name o ≡ Ok t → t.name ≡ name
name-tenant_if_written name (Some w) t e = name-tenant_of name w t e
name-tenant_if_written name None t e = cc

more_names : (k : List ℕ) (names : List (List ℕ)) (t : Result Tenant TableFault) (r : Result (List Tenant) TableFault)
    (ts : List Tenant) → ((u : Tenant) → t ≡ Ok u → u.name ≡ k)
    → ((ys : List Tenant) → r ≡ Ok ys → map (λ (u : Tenant). u.name) ys ≡ names) → and_more t r ≡ Ok ts → map (λ (u : Tenant). u.name) ts ≡ k ∷ names
more_names k names (Ok t) (Ok ys) ts first ih e = let p : t ∷ ys ≡ ts = cc in rw (← p, first t refl, ih ys refl) refl
more_names k names (Ok t) (Err f) ts first ih e = cc
more_names k names (Err f) r ts first ih e = cc

-- the names of the tenants are the keys, in the same order
pub names-tenants_in : (ms : Members) (ts : List Tenant) → tenants_in ms ≡ Ok ts → map (λ (u : Tenant). u.name) ts ≡ names_in ms
names-tenants_in no_members ts e = let p : [] ≡ ts = cc in rw (← p) refl
names-tenants_in (member name d ms) ts e =
    more_names name (names_in ms) (tenant_if_written name (written d)) (tenants_in ms) ts (name-tenant_if_written name (written d)) (names-tenants_in ms) e

below-names_in : (k : String Global) (es : List Entry) → AllByRecursion (λ y. string_cmp k y ≡ Less) (keys_of es) → AllByRecursion
    (λ y. slice_cmp nat_cmp (string_bytes k) y ≡ Less) (names_in (members_view es))
below-names_in k [] h = tt
below-names_in k (e ∷ es) h = (h.0, below-names_in k es h.1)

pub rising-names_in : (es : List Entry) → IsStrictlySortedBy string_cmp (keys_of es) → IsStrictlySortedBy (slice_cmp nat_cmp) (names_in (members_view es))
unfolding IsStrictlySortedBy
rising-names_in [] h = tt
rising-names_in (e ∷ es) h = (below-names_in e.0 es h.0, rising-names_in es h.1)

-- the names of the tenants of a map are increasing
pub HasRisingNames-tenants_in : (es : List Entry) (ts : List Tenant) → IsStrictlySortedBy string_cmp (keys_of es)
    → tenants_in (members_view es) ≡ Ok ts → HasRisingNames ts
HasRisingNames-tenants_in es ts h e =
    let P : List (List ℕ) → Type 0 = λ names. IsStrictlySortedBy (slice_cmp nat_cmp) names in
    subst P (sym (names-tenants_in (members_view es) ts e)) (rising-names_in es h)

-- ---- quotas

limited-up_to : (most : ℕ) (z : ℤ) (n : ℕ) → up_to most z ≡ Some n → n ≤ most
limited-up_to most (pos m) n = elim (nat_le m most) as (λ b. nat_le m most ≡ b → (if b then Some m else None) ≡ Some n → n ≤ most) [
  | true ↦ λ t e. let p : m ≡ n = cc in rw (← p) (leb-true m most t)
  | false ↦ λ t e. cc
] refl
limited-up_to most (negsuc m) n = λ e. cc

limited-pieces_for : (entries : ℕ) (written : Option ℤ) (n : ℕ) → entries ≤ 16777216 → pieces_for entries written ≡ Some n → n ≤ 2113929216
limited-pieces_for entries None n h e = let p : 126 * entries ≡ n = cc in omega (arith, h, p)
limited-pieces_for entries (Some z) n h e = limited-up_to 2113929216 z n e

limited-with_pieces : (name digest : List ℕ) (others : Others) (entries : ℕ) (journal pieces : Option ℕ) (t : Tenant) → entries ≤ 16777216
    → ((n : ℕ) → pieces ≡ Some n → n ≤ 2113929216) → with_pieces name digest others entries journal pieces ≡ Ok t → IsLimited t
limited-with_pieces name digest others entries journal (Some pieces) t h g e =
    let p : record { name = name; digest = digest; others = others; quota = record { entries = entries; pieces = pieces }; journal = journal; frozen = None } ≡ t = cc in
    subst IsLimited p (record { entries = h; pieces = g pieces refl })
limited-with_pieces name digest others entries journal None t h g e = cc

limited-with_entries : (name digest : List ℕ) (others : Others) (entries : Option ℕ) (journal : Option (Option ℕ)) (pieces : Option ℤ) (t : Tenant)
    → ((n : ℕ) → entries ≡ Some n → n ≤ 16777216) → with_entries name digest others entries journal pieces ≡ Ok t → IsLimited t
limited-with_entries name digest others (Some entries) (Some journal) pieces t h e =
    limited-with_pieces name digest others entries journal (pieces_for entries pieces) t (h entries refl) (λ n. limited-pieces_for entries pieces n (h entries refl)) e
limited-with_entries name digest others (Some entries) None pieces t h e = cc
limited-with_entries name digest others None journal pieces t h e = cc

limited-with_others : (name digest : List ℕ) (r : Result Others FromHexError) (w : Written) (t : Tenant) → with_others name
    digest r w ≡ Ok t → IsLimited t
limited-with_others name digest (Ok others) w t e = limited-with_entries name digest others (up_to 16777216 w.entries) (journal_for w.journal) w.pieces t (limited-up_to 16777216 w.entries) e
limited-with_others name digest (Err f) w t e = cc

limited-with_digest : (name : List ℕ) (r : Result (List ℕ) FromHexError) (w : Written) (t : Tenant) → with_digest name r w ≡ Ok t → IsLimited t
limited-with_digest name (Ok d) w t e = limited-with_others name d (others_of w.others) w t e
limited-with_digest name (Err f) w t e = cc

limited-tenant_of : (name : List ℕ) (w : Written) (t : Tenant) → tenant_of name w ≡ Ok t → IsLimited t
limited-tenant_of name w t =
    elim (is_name name) as (λ b. (if b then with_digest name (decode_sized w.digest 32) w else Err fault.Name) ≡ Ok t → IsLimited t) [
      | true ↦ limited-with_digest name (decode_sized w.digest 32) w t
      | false ↦ λ e. cc
    ]

limited-tenant_if_written : (name : List ℕ) (o : Option Written) (t : Tenant) → tenant_if_written name o ≡ Ok t → IsLimited t
limited-tenant_if_written name (Some w) t e = limited-tenant_of name w t e
limited-tenant_if_written name None t e = cc

more_limited : (t : Result Tenant TableFault) (r : Result (List Tenant) TableFault) (ts : List Tenant) → ((u : Tenant) → t ≡ Ok u → IsLimited u)
    → ((ys : List Tenant) → r ≡ Ok ys → AreLimited ys) → and_more t r ≡ Ok ts → AreLimited ts
more_limited (Ok t) (Ok ys) ts first ih e = let p : t ∷ ys ≡ ts = cc in subst AreLimited p (All-cons IsLimited t ys (first t refl) (ih ys refl))
more_limited (Ok t) (Err f) ts first ih e = cc
more_limited (Err f) r ts first ih e = cc

-- each tenant's quota is one that a table can grant
pub limited-tenants_in : (ms : Members) (ts : List Tenant) → tenants_in ms ≡ Ok ts → AreLimited ts
limited-tenants_in no_members ts e = let p : [] ≡ ts = cc in subst AreLimited p (All-nil IsLimited)
limited-tenants_in (member name d ms) ts e =
    more_limited (tenant_if_written name (written d)) (tenants_in ms) ts (limited-tenant_if_written name (written d)) (limited-tenants_in ms) e

-- ---- rows

spelled-tenant_of : (name : List ℕ) (w : Written) (t : Tenant) → tenant_of name w ≡ Ok t → is_name name ≡ true
spelled-tenant_of name w t = by (is_name name)
  where
    by : (b : Bool) → (if b then with_digest name (decode_sized w.digest 32) w else Err fault.Name) ≡ Ok t → b ≡ true
    by true e = refl
    by false e = cc

spelled-tenant_if_written : (name : List ℕ) (o : Option Written) (t : Tenant) → tenant_if_written name o ≡ Ok t → is_name name ≡ true
spelled-tenant_if_written name (Some w) t e = spelled-tenant_of name w t e
spelled-tenant_if_written name None t e = cc

-- a name of the grammar is not empty
spelled-named : (name : List ℕ) (t : Tenant) → is_name name ≡ true → t.name ≡ name → is_vacant t ≡ false
spelled-named name t h e =
    let most = (and_parts (nat_le 1 (length name) && nat_le (length name) 32) (list_all is_name_byte name) h).0 in
    let least : 1 ≤ length name = leb-true 1 (length name) (and_parts (nat_le 1 (length name)) (nat_le (length name) 32) most).0 in
    let some : length t.name ≡ 0 → ⊥ = (λ (z : length t.name ≡ 0). let same = ap length e in absurd (omega (arith, least, same, z))) in
    ne_eqb (length t.name) 0 some

-- what holds of each tenant, in a recursion over the list
more_each : (P : Tenant → Type 0) (t : Result Tenant TableFault) (r : Result (List Tenant) TableFault) (ts : List Tenant) → ((u : Tenant) → t ≡ Ok u → P u)
    → ((ys : List Tenant) → r ≡ Ok ys → AllByRecursion P ys) → and_more t r ≡ Ok ts → AllByRecursion P ts
more_each P (Ok t) (Ok ys) ts first ih e = let p : t ∷ ys ≡ ts = cc in subst (AllByRecursion P) p (first t refl, ih ys refl)
more_each P (Ok t) (Err f) ts first ih e = cc
more_each P (Err f) r ts first ih e = cc

-- the tenants of a document have names
pub named-tenants_in : (ms : Members) (ts : List Tenant) → tenants_in ms ≡ Ok ts → AllByRecursion (λ t. is_vacant t ≡ false) ts
named-tenants_in no_members ts e = let p : [] ≡ ts = cc in subst (AllByRecursion (λ (u : Tenant). is_vacant u ≡ false)) p tt
named-tenants_in (member name d ms) ts e =
    more_each (λ u. is_vacant u ≡ false) (tenant_if_written name (written d)) (tenants_in ms) ts
    (λ u h. spelled-named name u (spelled-tenant_if_written name (written d) u h) (name-tenant_if_written name (written d) u h)) (named-tenants_in ms) e

-- their names are of the grammar
spelled-tenants_in : (ms : Members) (ts : List Tenant) → tenants_in ms ≡ Ok ts → AllByRecursion IsSpelled ts
spelled-tenants_in no_members ts e = let p : [] ≡ ts = cc in subst (AllByRecursion IsSpelled) p tt
spelled-tenants_in (member name d ms) ts e =
    more_each IsSpelled (tenant_if_written name (written d)) (tenants_in ms) ts
    (λ u h named. subst (λ n. is_name n ≡ true) (sym (name-tenant_if_written name (written d) u h)) (spelled-tenant_if_written name (written d) u h))
    (spelled-tenants_in ms) e

-- a name that is below each of these is none of them
below-apart : (name : List ℕ) (ts : List Tenant) → AllByRecursion (λ y. slice_cmp nat_cmp name y ≡ Less) (map (λ (u : Tenant). u.name) ts)
    → has_name name ts ≡ false
below-apart name [] h = refl
below-apart name (t ∷ ts) h =
    or_from (bytes_eq t.name name) (has_name name ts) (false_from_ne_true (bytes_eq t.name name) (λ e. apart (same e))) (below-apart name ts h.1)
  where
    same : bytes_eq t.name name ≡ true → bytes_eq name t.name ≡ true
    same e = (bytes_eq-Decides name t.name).1 (sym ((bytes_eq-Decides t.name name).0 e))

    apart : bytes_eq name t.name ≡ true → ⊥
    apart e = false≢true (ap is_eq (sym h.0) ∙ is_eq-slice_cmp name t.name ∙ e)

-- no two tenants with rising names have one name
pub distinct-rising : (ts : List Tenant) → HasRisingNames ts → are_distinct ts ≡ true
unfolding IsStrictlySortedBy
distinct-rising [] h = refl
distinct-rising (t ∷ ts) h =
    and_from (is_vacant t || not (has_name t.name ts)) (are_distinct ts)
    (or_right (is_vacant t) (not (has_name t.name ts)) (not_from_false (has_name t.name ts) (below-apart t.name ts h.0))) (distinct-rising ts h.1)

-- what holds of every table's rows holds of the tenants of a document
pub tree-rows : (ms : Members) (ts : List Tenant) → tenants_in ms ≡ Ok ts → size ms ≤ 64 → HasRisingNames ts → AreRows ts
tree-rows ms ts e fits rising =
    let many = length-tenants_in ms ts e in
    let most = count_by-le-length (λ (t : Tenant). not (is_vacant t)) ts in record {
      few = omega (arith, many, fits);
      few_named = omega (arith, many, fits, most);
      limited = limited-tenants_in ms ts e;
      spelled = All-from_recursion IsSpelled ts (spelled-tenants_in ms ts e);
      empty = All-from_recursion (λ t. is_vacant t ≡ true → t ≡ vacant) ts (none ts (named-tenants_in ms ts e));
      distinct = distinct-rising ts rising;
    }
  where
    none : (us : List Tenant) → AllByRecursion (λ t. is_vacant t ≡ false) us → AllByRecursion (λ t. is_vacant t ≡ true → t ≡ vacant) us
    none [] h = tt
    none (u ∷ us) h = (λ v. absurd (both_ways (is_vacant u) h.0 v), none us h.1)

-- the tenants of a text are those of a document with at most 64 keys
pub read-tenants : (text : List ℕ) (ts : List Tenant) → read_table text ≡ Ok ts → (ms : Members) × (tenants_in ms ≡ Ok ts) × (size ms ≤ 64)
read-tenants text ts = by_utf8 (is_utf8 text)
  where
    Tenants : Type 0
    Tenants = (ms : Members) × (tenants_in ms ≡ Ok ts) × (size ms ≤ 64)

    by_count : (ms : Members) (b : Bool) → (nat_le 1 (size ms) && nat_le (size ms) 64) ≡ b → (if b then tenants_in ms else Err fault.Count) ≡ Ok ts → Tenants
    by_count ms true c e = (ms, e, leb-true (size ms) 64 (and_parts (nat_le 1 (size ms)) (nat_le (size ms) 64) c).1)
    by_count ms false c e = cc

    by_shape : (ms : Members) (b : Bool)
        → (if b then (if nat_le 1 (size ms) && nat_le (size ms) 64 then tenants_in ms else Err fault.Count) else Err fault.Shape) ≡ Ok ts → Tenants
    by_shape ms true e = by_count ms (nat_le 1 (size ms) && nat_le (size ms) 64) refl e
    by_shape ms false e = cc

    by_document : (o : Option Members) → read_document o ≡ Ok ts → Tenants
    by_document (Some ms) e = by_shape ms (have_shape ms) e
    by_document None e = cc

    by_utf8 : (b : Bool) → (if b then read_document (parse_document text) else Err fault.Toml) ≡ Ok ts → Tenants
    by_utf8 true e = by_document (parse_document text) e
    by_utf8 false e = cc
