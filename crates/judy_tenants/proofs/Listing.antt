-- The next array of a tenant is at the next place of the directory, if that is a place of the tenant.
--     count-in       the number of entries of an array, by its place
--     own-place      the next place is one of the tenant
--     others-place   it is one of another tenant
--     no-place       there is none
use Rattle.std.proofs.Common.{◌≡◌, ◌≢◌, ◌∙◌, ◌∷◌, ◌+◌, ◌*◌, ◌<◌, ◌≤◌, ℕ, Bool, true, false, List, [], length, Option, Some, None, is_some, ap, sym, refl, subst, arith}
use Rattle.std.specs.Prelude.{nat_lt, option_map, unwrap_or}
use Rattle.std.proofs.lemmas.Bool.{false≢true}
use Rattle.std.proofs.lemmas.Bool.Decides.{nat_tests}
use Rattle.std.proofs.lemmas.Option.{none-some}
use Rattle.std.specs.declared.cmp.Ordering.{Ordering}
use Rattle.std.specs.declared.cmp.Ordering.TheVariants.{Less, Equal, Greater}
use Rattle.std.specs.Ordering.{is_ge, is_gt, is_lt, nat_cmp, ordering_reverse, ordering_then}
use Rattle.std.specs.FinMap.{get}
use Rattle.judy_arena.specs.Blocks.{Blocks}
use Rattle.judy_model.specs.declared.commands.Kind.{Kind}
use Rattle.judy_model.specs.declared.commands.Kind.TheVariants.{One, Long, Str, Bytes}
use Rattle.judy_model.specs.declared.calls.ArraysFrom.{ArraysFrom}
use Rattle.judy_model.specs.declared.calls.ArraysFrom.TheVariants as start
use Rattle.judy_model.specs.ArrayLists.{array_key, key_of_start}
use Rattle.judy_model.specs.Commands.{kind_number}
use Rattle.judy_model.specs.Contents.{Entries, IsRising, next, string_order, value_of}
use Rattle.judy_model.specs.Tenant.{array_counts}
use Rattle.judy_model.specs.WellFormed.{entries_of_array, has_entries, some_entries}
use Rattle.judy_model.proofs.lemmas.ArrayListLemmas.{count_at, counts_rise, is_array_key}
use Rattle.judy_model.proofs.lemmas.ByteLemmas.{least_next, none_next}
use Rattle.judy_model.proofs.lemmas.EntryLemmas.{greater}
use Rattle.judy_directory.proofs.lemmas.Changes.{total}
use Rattle.judy_directory.specs.Kinds.{owner_byte, spot_of}
use Rattle.judy_directory.specs.Order.{IsLeast, is_on}
use Rattle.judy_directory.specs.Places.{Stand, at, nothing}
use Rattle.judy_directory.specs.Shelf.{Places}
use Rattle.judy_kinds.specs.Kinds.{IsPlaceOf}
use Rattle.judy_kinds.specs.Laws.{ContentsAreInForm}
use Rattle.judy_tenants.specs.Growth.{KindLaws}
use Rattle.judy_tenants.specs.States.{IsHeld, has_start, start_of_list, state_in}
use Rattle.judy_tenants.proofs.StateLaws.{content_at, entries-in, holds-in, place-in}
use Rattle.judy_tenants.proofs.Names.{has_some}
use Rattle.judy_tenants.proofs.Sound.{form-in}

-- ---- the order of keys

-- keys of one tenant are in the order of its arrays
same_order : (t : ℕ) (j k : Kind) (m n : List ℕ) → string_order (spot_of t j m) (spot_of t k n) ≡ string_order (array_key j m) (array_key k n)
same_order t j k m n = ap (λ o. ordering_then o (string_order m n)) (by (kind_number j) (kind_number k))
  where
    by : (a b : ℕ) → nat_cmp (4 * t + a) (4 * t + b) ≡ nat_cmp a b
    by a b = grind (arith, nat_tests)

-- keys of a tenant are above those of the tenants before it
above_others : (t u : ℕ) (j k : Kind) (m n : List ℕ) → t < u → string_order (spot_of u j m) (spot_of t k n) ≡ Greater
above_others t u j k m n h = ap (λ o. ordering_then o (string_order m n)) (greater (owner_byte u j) (owner_byte t k) (by j k))
  where
    by : (j k : Kind) → owner_byte t k < owner_byte u j
    by One One = omega (arith, h)
    by One Long = omega (arith, h)
    by One Str = omega (arith, h)
    by One Bytes = omega (arith, h)
    by Long One = omega (arith, h)
    by Long Long = omega (arith, h)
    by Long Str = omega (arith, h)
    by Long Bytes = omega (arith, h)
    by Str One = omega (arith, h)
    by Str Long = omega (arith, h)
    by Str Str = omega (arith, h)
    by Str Bytes = omega (arith, h)
    by Bytes One = omega (arith, h)
    by Bytes Long = omega (arith, h)
    by Bytes Str = omega (arith, h)
    by Bytes Bytes = omega (arith, h)

-- so keys on from a key of a tenant are not of a tenant before it
not_below : (itself : Bool) (t u : ℕ) (j k : Kind) (m n : List ℕ) → is_on itself (spot_of t k n) (spot_of u j m) ≡ true → t ≤ u
not_below itself t u j k m n on = by (nat_lt u t) refl
  where
    off : (s : Bool) → string_order (spot_of u j m) (spot_of t k n) ≡ Less → is_on s (spot_of t k n) (spot_of u j m) ≡ false
    off true e = ap is_ge e
    off false e = ap is_gt e

    by : (r : Bool) → nat_lt u t ≡ r → t ≤ u
    by true e =
        let before : u < t = grind (arith, nat_tests) in
        let turned : string_order (spot_of u j m) (spot_of t k n) ≡ Less
        = total.antisymm (spot_of u j m) (spot_of t k n) ∙ ap ordering_reverse (above_others u t k j n m before) in
        absurd (false≢true (sym (off itself turned) ∙ on))
    by false e = grind (arith, nat_tests)

-- ---- what the directory has of a tenant

module _ {H : List ℕ → ℕ} (laws : KindLaws H) (formed : ContentsAreInForm) (b : Blocks) (d : Places) (shelf : IsHeld H b d) (t : ℕ) where
  abbrev counts : Entries (List ℕ)
  counts = array_counts (state_in b d t)

  -- the number of entries of an array is that of its place
  entries-there : (kind : Kind) (name : List ℕ) → entries_of_array (state_in b d t) kind name ≡ (at d (spot_of t kind name)).entries
  entries-there One name = ap length (holds-in laws One b d t name) ∙ entries-in laws One b _ (place-in laws One b d t name shelf)
  entries-there Long name = ap length (holds-in laws Long b d t name) ∙ entries-in laws Long b _ (place-in laws Long b d t name shelf)
  entries-there Str name = ap length (holds-in laws Str b d t name) ∙ entries-in laws Str b _ (place-in laws Str b d t name shelf)
  entries-there Bytes name = ap length (holds-in laws Bytes b d t name) ∙ entries-in laws Bytes b _ (place-in laws Bytes b d t name shelf)

  -- a place has entries
  some-there : (kind : Kind) (name : List ℕ) (p : Stand) → get d (spot_of t kind name) ≡ Some p → some_entries p.entries ≡ Some p.entries
  some-there kind name p found =
      let there : at d (spot_of t kind name) ≡ p = ap (λ g. unwrap_or g nothing) found in
      let place = subst (λ (q : Stand). IsPlaceOf H kind b q) there (place-in laws kind b d t name shelf) in
      let filled : p.root ≢ 0 = λ z. shelf.filled (spot_of t kind name) (ap is_some found) (ap (λ (q : Stand). q.root) there ∙ z) in
      by p.entries (content_at kind b p.root) (entries-in laws kind b p place) (has_some laws kind p place filled)
    where
      by : {K : Type 0} (n : ℕ) (l : Entries K) → length l ≡ n → has_entries l ≡ true → some_entries n ≡ Some n
      by n [] e h = absurd (false≢true h)
      by n (x ∷ l) e h = grind (arith, nat_tests)

  -- the list has the number of entries of each place of the tenant, and no other
  pub count-in : (kind : Kind) (name : List ℕ)
      → value_of string_order counts (array_key kind name) ≡ option_map (λ (p : Stand). p.entries) (get d (spot_of t kind name))
  count-in kind name =
      count_at (state_in b d t) (form-in laws b d shelf t formed) kind name ∙ ap some_entries (entries-there kind name)
      ∙ by (get d (spot_of t kind name)) refl
    where
      by : (g : Option Stand) → get d (spot_of t kind name) ≡ g
          → some_entries (unwrap_or g nothing).entries ≡ option_map (λ (p : Stand). p.entries) g
      by None e = refl
      by (Some p) e = some-there kind name p e

  -- ---- what comes next

  -- The list begins behind this key, and the search in the directory at this one. Keys of the tenant pass both or
  -- none, and keys that pass are not of a tenant before it.
  module _ (itself : Bool) (begin key : List ℕ)
      (alike : (k : Kind) (n : List ℕ) → is_on itself begin (spot_of t k n) ≡ is_gt (string_order (array_key k n) key))
      (not_before : (u : ℕ) (k : Kind) (n : List ℕ) → is_on itself begin (spot_of u k n) ≡ true → t ≤ u) where
    -- an array behind the key has a place that passes
    has_place : (k : List ℕ) (n : ℕ) → value_of string_order counts k ≡ Some n → is_gt (string_order k key) ≡ true
        → (kind : Kind) × (name : List ℕ) × (k ≡ array_key kind name) × (is_on itself begin (spot_of t kind name) ≡ true)
        × (is_some (get d (spot_of t kind name)) ≡ true)
    has_place k n found above =
        let (kind, name, is) = is_array_key (state_in b d t) k n found in
        let there : option_map (λ (p : Stand). p.entries) (get d (spot_of t kind name)) ≡ Some n
        = sym (count-in kind name) ∙ ap (value_of string_order counts) (sym is) ∙ found in (
          kind,
          name,
          is,
          alike kind name ∙ ap (λ j. is_gt (string_order j key)) (sym is) ∙ above,
          by (get d (spot_of t kind name)) there,
        )
      where
        by : (g : Option Stand) → option_map (λ (p : Stand). p.entries) g ≡ Some n → is_some g ≡ true
        by None e = absurd (none-some n e)
        by (Some p) e = refl

    rising : IsRising string_order counts
    rising = counts_rise (state_in b d t) (form-in laws b d shelf t formed)

    -- nothing comes next, if no key that passes is one of the tenant
    nothing_next : ((kind : Kind) (name : List ℕ) → is_on itself begin (spot_of t kind name) ≡ true
        → is_some (get d (spot_of t kind name)) ≡ true → ⊥) → next string_order counts key ≡ None
    nothing_next none = none_next counts key (λ k n found. by k n found (is_gt (string_order k key)) refl) rising
      where
        by : (k : List ℕ) (n : ℕ) → value_of string_order counts k ≡ Some n → (r : Bool) → is_gt (string_order k key) ≡ r → r ≡ false
        by k n found true above = let w = has_place k n found above in absurd (none w.0 w.1 w.3 w.4)
        by k n found false above = refl

    -- the directory has no next place
    pub ends : IsLeast (is_on itself begin) (get d) None → next string_order counts key ≡ None
    ends least = nothing_next (λ kind name on placed. false≢true (ap is_some (sym (least (spot_of t kind name) on)) ∙ placed))

    -- the next place is one of another tenant
    pub is_others : (u : ℕ) (k : Kind) (n : List ℕ) (p : Stand) → IsLeast (is_on itself begin) (get d) (Some (spot_of u k n, p)) → u ≢ t
        → next string_order counts key ≡ None
    is_others u k n p least other =
        let behind : t < u = grind (arith, not_before u k n least.0, other) in
        nothing_next (λ kind name on placed. false≢true (sym (least.2 (spot_of t kind name) on placed)
        ∙ ap is_gt (above_others t u k kind n name behind)))

    -- the next place is one of the tenant
    pub is_own : (k : Kind) (n : List ℕ) (p : Stand) → IsLeast (is_on itself begin) (get d) (Some (spot_of t k n, p))
        → next string_order counts key ≡ Some (array_key k n, p.entries)
    is_own k n p least =
        least_next counts key (array_key k n) p.entries rising (count-in k n ∙ ap (option_map (λ (q : Stand). q.entries)) least.1)
        (sym (alike k n) ∙ least.0)
        (λ j m found above. let w = has_place j m found above in
        ap (λ i. is_lt (string_order i (array_key k n))) w.2
        ∙ not_less (array_key w.0 w.1) (array_key k n) (ap is_gt (sym (same_order t k w.0 n w.1)) ∙ least.2 (spot_of t w.0 w.1) w.3 w.4))
      where
        not_less : (i j : List ℕ) → is_gt (string_order j i) ≡ false → is_lt (string_order i j) ≡ false
        not_less i j h = by (string_order j i) (total.antisymm i j) h
          where
            by : (o : Ordering) → string_order i j ≡ ordering_reverse o → is_gt o ≡ false → is_lt (string_order i j) ≡ false
            by Less e g = ap is_lt e
            by Equal e g = ap is_lt e
            by Greater e g = absurd (false≢true (sym g))

  -- ---- by where the list begins

  -- keys of the tenant pass both or none
  passes-alike : (from : ArraysFrom) (k : Kind) (n : List ℕ)
      → is_on (has_start from) (start_of_list t from) (spot_of t k n) ≡ is_gt (string_order (array_key k n) (key_of_start from))
  passes-alike start.First k n = ap is_ge (same_order t k One n []) ∙ by k n
    where
      by : (k : Kind) (n : List ℕ) → is_ge (string_order (array_key k n) (array_key One [])) ≡ true
      by One [] = refl
      by One (x ∷ xs) = refl
      by Long n = refl
      by Str n = refl
      by Bytes n = refl
  passes-alike (start.Behind kind name) k n = ap is_gt (same_order t k kind n name)

  passes-behind : (from : ArraysFrom) (u : ℕ) (k : Kind) (n : List ℕ) → is_on (has_start from) (start_of_list t from) (spot_of u k n) ≡ true → t ≤ u
  passes-behind start.First u k n on = not_below true t u k One n [] on
  passes-behind (start.Behind kind name) u k n on = not_below false t u k kind n name on

  module _ (from : ArraysFrom) where
    pub no-place : IsLeast (is_on (has_start from) (start_of_list t from)) (get d) None → next string_order counts (key_of_start from) ≡ None
    no-place least = ends (has_start from) (start_of_list t from) (key_of_start from) (passes-alike from) (passes-behind from) least

    pub others-place : (u : ℕ) (k : Kind) (n : List ℕ) (p : Stand)
        → IsLeast (is_on (has_start from) (start_of_list t from)) (get d) (Some (spot_of u k n, p)) → u ≢ t
        → next string_order counts (key_of_start from) ≡ None
    others-place u k n p least other =
        is_others (has_start from) (start_of_list t from) (key_of_start from) (passes-alike from) (passes-behind from) u k n p least other

    pub own-place : (k : Kind) (n : List ℕ) (p : Stand) → IsLeast (is_on (has_start from) (start_of_list t from)) (get d) (Some (spot_of t k n, p))
        → next string_order counts (key_of_start from) ≡ Some (array_key k n, p.entries)
    own-place k n p least = is_own (has_start from) (start_of_list t from) (key_of_start from) (passes-alike from) (passes-behind from) k n p least
