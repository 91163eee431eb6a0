-- The fault that is told of a table is its first fault.
--     first-faults    it is the first in the order of docs/FORMAT.md
use Rattle.std.proofs.Common.{◌≡◌, ◌⊎◌, inl, inr, ℕ, ℤ, pos, negsuc, ◌<◌, ◌≤◌, ◌&&◌, Bool, true, false, List, Option, Some, None, is_some, Ok, Err}
use Rattle.std.proofs.Common.{ap, sym, ◌∙◌, refl, subst, nat_le, if◌then◌else◌, arith}
use Rattle.std.specs.Prelude.{Result, option_map}
use Rattle.std.proofs.lemmas.Bool.{leb-true, leb-false, and_parts}
use Rattle.std.specs.Str.{is_utf8}
use Rattle.toml.specs.Data.{Members, no_members, member}
use Rattle.toml.specs.Parse.{parse_document}
use Rattle.hex.specs.Hex.{decode_sized}
use Rattle.hex.specs.declared.error.FromHexError.{FromHexError}
use Rattle.judy_model.specs.Grammar.{is_name}
use Rattle.judy_table.specs.declared.fault.TableFault.{TableFault}
use Rattle.judy_table.specs.declared.fault.TableFault.TheVariants as fault
use Rattle.judy_table.specs.declared.tenant.Others.{Others}
use Rattle.judy_table.specs.declared.tenant.Tenant.{Tenant}
use Rattle.judy_table.specs.Tenants.{size, Written, written, have_shape, up_to, journal_for, pieces_for, with_pieces, with_journal, with_entries, digest_read, optional_digest, all_read}
use Rattle.judy_table.specs.Tenants.{others_of, with_others, with_digest, tenant_of, tenant_if_written, and_more, tenants_in, read_document}
use Rattle.judy_table.specs.Faults.{IsOutside, IsTooMany, IsNoLimit, IsNoDigest, IsNoOther, LacksDigest, HasFault, LacksShape, FaultsIn}
use Rattle.judy_table.specs.Faults.{IsFaultOfTenant, IsFaultOf, TellsFirstFaults}
use Rattle.judy_table.proofs.lemmas.Meaning.{AreOthers, others-are, tenant-is}

-- ---- numbers and digests

outside : (most : ℕ) (z : ℤ) → up_to most z ≡ None → IsOutside most z
outside most (pos m) = by (nat_le m most) refl
  where
    by : (b : Bool) → nat_le m most ≡ b → (if b then Some m else None) ≡ None → most < m
    by true t e = cc
    by false t e = leb-false m most t
outside most (negsuc m) = λ e. tt

inside : (most : ℕ) (z : ℤ) (n : ℕ) → up_to most z ≡ Some n → IsOutside most z → ⊥
inside most (pos m) n = by (nat_le m most) refl
  where
    by : (b : Bool) → nat_le m most ≡ b → (if b then Some m else None) ≡ Some n → most < m → ⊥
    by true t e h = let few : m ≤ most = leb-true m most t in omega (arith, few, h)
    by false t e h = cc
inside most (negsuc m) n = λ e h. cc

too-many : (n : ℕ) (o : Option ℤ) → pieces_for n o ≡ None → IsTooMany o
too-many n None e = cc
too-many n (Some z) e = outside 2113929216 z e

no-limit : (o : Option ℤ) → journal_for o ≡ None → IsNoLimit o
no-limit None e = cc
no-limit (Some (pos m)) e = by (nat_le 1 m) refl e
  where
    by : (b : Bool) → nat_le 1 m ≡ b → option_map Some (if b then Some m else None) ≡ None → m < 1
    by true t e = cc
    by false t e = leb-false 1 m t
no-limit (Some (negsuc m)) e = tt

a-limit : (o : Option ℤ) (j : Option ℕ) → journal_for o ≡ Some j → IsNoLimit o → ⊥
a-limit None j e h = h
a-limit (Some (pos m)) j e h = by (nat_le 1 m) refl e
  where
    by : (b : Bool) → nat_le 1 m ≡ b → option_map Some (if b then Some m else None) ≡ Some j → ⊥
    by true t e = let some : 1 ≤ m = leb-true 1 m t in omega (arith, some, h)
    by false t e = cc
a-limit (Some (negsuc m)) j e h = cc

not-both : (text digest : List ℕ) (x : FromHexError) → decode_sized text 32 ≡ Ok digest → decode_sized text 32 ≡ Err x → ⊥
not-both text digest x i j = cc

has-digest : (o r : Option (List ℕ)) → optional_digest o ≡ Ok r → IsNoOther o → ⊥
has-digest None r e h = h
has-digest (Some text) r e (x, bad) = let g : digest_read (Err x) ≡ Ok r = sym (ap digest_read bad) ∙ e in cc

no-digest : (o : Option (List ℕ)) (x : FromHexError) → optional_digest o ≡ Err x → IsNoOther o
no-digest None x e = cc
no-digest (Some text) x e = by (decode_sized text 32) refl e
  where
    by : (r : Result (List ℕ) FromHexError) → decode_sized text 32 ≡ r → digest_read r ≡ Err x → IsNoDigest text
    by (Ok d) i f = cc
    by (Err y) i f = (y, i)

-- the others are none only if one of them is
no-other : (w : Written) (x : FromHexError) → others_of w.others ≡ Err x → LacksDigest w
no-other w x = by (optional_digest w.others.look) (optional_digest w.others.former) (optional_digest w.others.former_look) refl refl refl
  where
    by : (a b c : Result (Option (List ℕ)) FromHexError) → optional_digest w.others.look ≡ a → optional_digest w.others.former ≡ b
        → optional_digest w.others.former_look ≡ c → all_read a b c ≡ Err x → LacksDigest w
    by (Ok a) (Ok b) (Ok c) i j k e = cc
    by (Ok a) (Ok b) (Err y) i j k e = inr (inr (inr (no-digest w.others.former_look y k)))
    by (Ok a) (Err y) c i j k e = inr (inr (inl (no-digest w.others.former y j)))
    by (Err y) b c i j k e = inr (inl (no-digest w.others.look y i))

-- ---- one tenant

module _ (name : List ℕ) (w : Written) (f : TableFault) where
  told : (g : TableFault) → g ≡ f → HasFault g name w → HasFault f name w
  told g same h = subst (λ x. HasFault x name w) same h

  by_pieces : (digest : List ℕ) (others : Others) (n : ℕ) (j o : Option ℕ) → is_name name ≡ true → (LacksDigest w → ⊥)
      → (IsOutside 16777216 w.entries → ⊥) → (IsNoLimit w.journal → ⊥) → pieces_for n w.pieces ≡ o → with_pieces name digest others n j o ≡ Err f → HasFault f name w
  by_pieces digest others n j (Some p) a b c d i e = cc
  by_pieces digest others n j None a b c d i e = let same : fault.Pieces ≡ f = cc in told fault.Pieces same (a, b, c, d, too-many n w.pieces i)

  by_journal : (digest : List ℕ) (others : Others) (n : ℕ) (o : Option (Option ℕ)) → is_name name ≡ true → (LacksDigest w → ⊥)
      → (IsOutside 16777216 w.entries → ⊥) → journal_for w.journal ≡ o → with_journal name digest others n o w.pieces ≡ Err f → HasFault f name w
  by_journal digest others n (Some j) a b c i e = by_pieces digest others n j (pieces_for n w.pieces) a b c (a-limit w.journal j i) refl e
  by_journal digest others n None a b c i e = let same : fault.Quota ≡ f = cc in told fault.Quota same (a, b, inr (no-limit w.journal i))

  by_entries : (digest : List ℕ) (others : Others) (o : Option ℕ) → is_name name ≡ true → (LacksDigest w → ⊥)
      → up_to 16777216 w.entries ≡ o → with_entries name digest others o (journal_for w.journal) w.pieces ≡ Err f → HasFault f name w
  by_entries digest others (Some n) a b i e = by_journal digest others n (journal_for w.journal) a b (inside 16777216 w.entries n i) refl e
  by_entries digest others None a b i e = let same : fault.Quota ≡ f = cc in told fault.Quota same (a, b, inl (outside 16777216 w.entries i))

  by_others : (digest : List ℕ) (r : Result Others FromHexError) → is_name name ≡ true → (IsNoDigest w.digest → ⊥)
      → others_of w.others ≡ r → with_others name digest r w ≡ Err f → HasFault f name w
  by_others digest (Ok others) a b i e = by_entries digest others (up_to 16777216 w.entries) a well refl e
    where
      read : AreOthers w.others others
      read = others-are w.others others i

      well : LacksDigest w → ⊥
      well (inl h) = b h
      well (inr (inl h)) = has-digest w.others.look others.look read.look h
      well (inr (inr (inl h))) = has-digest w.others.former others.former read.former h
      well (inr (inr (inr h))) = has-digest w.others.former_look others.former_look read.former_look h
  by_others digest (Err x) a b i e = let same : fault.Digest ≡ f = cc in told fault.Digest same (a, no-other w x i)

  by_digest : (r : Result (List ℕ) FromHexError) → is_name name ≡ true → decode_sized w.digest 32 ≡ r → with_digest name r w ≡ Err f → HasFault f name w
  by_digest (Ok digest) a i e = by_others digest (others_of w.others) a (λ h. not-both w.digest digest h.0 i h.1) refl e
  by_digest (Err x) a i e = let same : fault.Digest ≡ f = cc in told fault.Digest same (a, inl (x, i))

  by_name : (b : Bool) → is_name name ≡ b → (if b then with_digest name (decode_sized w.digest 32) w else Err fault.Name) ≡ Err f → HasFault f name w
  by_name true a e = by_digest (decode_sized w.digest 32) a refl e
  by_name false a e = let same : fault.Name ≡ f = cc in told fault.Name same a

  -- a tenant's values have the fault that is told of them
  fault-of : tenant_of name w ≡ Err f → HasFault f name w
  fault-of e = by_name (is_name name) refl e

-- ---- all tenants

lacks-shape : (ms : Members) → have_shape ms ≡ false → LacksShape ms
lacks-shape no_members e = cc
lacks-shape (member name d ms) e = by (lacks-shape ms) (written d) refl e
  where
    by : (have_shape ms ≡ false → LacksShape ms) → (o : Option Written) → written d ≡ o → (is_some o && have_shape ms) ≡ false → LacksShape (member name d ms)
    by rest None i h = inl i
    by rest (Some w) i h = inr (rest h)

has-shape : (ms : Members) → have_shape ms ≡ true → LacksShape ms → ⊥
has-shape no_members s h = h
has-shape (member name d ms) s (inl none) =
    let p : is_some (written d) ≡ true = (and_parts (is_some (written d)) (have_shape ms) s).0 in
    let q : is_some (written d) ≡ false = ap is_some none in
    let g : true ≡ false = sym p ∙ q in cc
has-shape (member name d ms) s (inr h) = has-shape ms (and_parts (is_some (written d)) (have_shape ms) s).1 h

faults-in : (f : TableFault) (ms : Members) → have_shape ms ≡ true → tenants_in ms ≡ Err f → FaultsIn f ms
faults-in f no_members s e = cc
faults-in f (member name d ms) s e =
    let parts = and_parts (is_some (written d)) (have_shape ms) s in
    by (faults-in f ms parts.1) parts.0 (tenant_if_written name (written d)) (tenants_in ms) refl refl e
  where
    first : (o : Option Written) → written d ≡ o → is_some o ≡ true → tenant_if_written name o ≡ Err f
        → (w : Written) × (written d ≡ Some w) × HasFault f name w
    first (Some w) i h j = (w, i, fault-of name w f j)
    first None i h j = cc

    by : (tenants_in ms ≡ Err f → FaultsIn f ms) → is_some (written d) ≡ true → (r : Result Tenant TableFault) (more : Result (List Tenant) TableFault)
        → tenant_if_written name (written d) ≡ r → tenants_in ms ≡ more → and_more r more ≡ Err f → FaultsIn f (member name d ms)
    by rest h (Ok t) (Ok ts) i j k = cc
    by rest h (Ok t) (Err x) i j k = let same : x ≡ f = cc in inr (t, tenant-is name d t i, rest (j ∙ ap Err same))
    by rest h (Err x) more i j k = let same : x ≡ f = cc in inl (first (written d) refl h (i ∙ ap Err same))

-- a fault that no tenant can have
never : (f : TableFault) → ((name : List ℕ) (w : Written) → HasFault f name w → ⊥) → (ms : Members) → FaultsIn f ms → ⊥
never f none no_members h = h
never f none (member name d ms) (inl (w, i, h)) = none name w h
never f none (member name d ms) (inr (t, i, h)) = never f none ms h

of-tenant : (f : TableFault) (text : List ℕ) → IsFaultOfTenant f text → IsFaultOf f text
of-tenant fault.Memory text h = absurd (never fault.Memory (λ name w x. x) h.0 h.5)
of-tenant fault.Toml text h = absurd (never fault.Toml (λ name w x. x) h.0 h.5)
of-tenant fault.Shape text h = absurd (never fault.Shape (λ name w x. x) h.0 h.5)
of-tenant fault.Count text h = absurd (never fault.Count (λ name w x. x) h.0 h.5)
of-tenant fault.Name text h = h
of-tenant fault.Digest text h = h
of-tenant fault.Quota text h = h
of-tenant fault.Pieces text h = h

-- ---- a text

out-of-count : (n : ℕ) (a b : Bool) → nat_le 1 n ≡ a → nat_le n 64 ≡ b → (a && b) ≡ false → (n ≡ 0) ⊎ (64 < n)
out-of-count n false b i j e = let none : n < 1 = leb-false 1 n i in inl (omega (arith, none))
out-of-count n true false i j e = inr (leb-false n 64 j)
out-of-count n true true i j e = cc

-- the fault that is told is the first fault of the text
pub first-faults : TellsFirstFaults
first-faults text f = by_utf8 (is_utf8 text) refl
  where
    moved : (g : TableFault) → g ≡ f → IsFaultOf g text → IsFaultOf f text
    moved g same h = subst (λ x. IsFaultOf x text) same h

    by_count : (ms : Members) (b : Bool) → is_utf8 text ≡ true → parse_document text ≡ Some ms → have_shape ms ≡ true
        → (nat_le 1 (size ms) && nat_le (size ms) 64) ≡ b → (if b then tenants_in ms else Err fault.Count) ≡ Err f → IsFaultOf f text
    by_count ms true u p s c e =
        let parts = and_parts (nat_le 1 (size ms)) (nat_le (size ms) 64) c in
        of-tenant f text (ms, (u, p), has-shape ms s, leb-true 1 (size ms) parts.0, leb-true (size ms) 64 parts.1, faults-in f ms s e)
    by_count ms false u p s c e =
        let same : fault.Count ≡ f = cc in
        moved fault.Count same (ms, (u, p), has-shape ms s, out-of-count (size ms) (nat_le 1 (size ms)) (nat_le (size ms) 64) refl refl c)

    by_shape : (ms : Members) (b : Bool) → is_utf8 text ≡ true → parse_document text ≡ Some ms → have_shape ms ≡ b
        → (if b then (if nat_le 1 (size ms) && nat_le (size ms) 64 then tenants_in ms else Err fault.Count) else Err fault.Shape) ≡ Err f
        → IsFaultOf f text
    by_shape ms true u p s e = by_count ms (nat_le 1 (size ms) && nat_le (size ms) 64) u p s refl e
    by_shape ms false u p s e = let same : fault.Shape ≡ f = cc in moved fault.Shape same (ms, (u, p), lacks-shape ms s)

    by_document : (o : Option Members) → is_utf8 text ≡ true → parse_document text ≡ o → read_document o ≡ Err f → IsFaultOf f text
    by_document (Some ms) u p e = by_shape ms (have_shape ms) u p refl e
    by_document None u p e = let same : fault.Toml ≡ f = cc in moved fault.Toml same (inr p)

    by_utf8 : (b : Bool) → is_utf8 text ≡ b → (if b then read_document (parse_document text) else Err fault.Toml) ≡ Err f → IsFaultOf f text
    by_utf8 true u e = by_document (parse_document text) u refl e
    by_utf8 false u e = let same : fault.Toml ≡ f = cc in moved fault.Toml same (inl u)
