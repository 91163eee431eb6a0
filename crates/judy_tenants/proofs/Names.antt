-- The directory has a place for each array that has entries, and no other.
use Rattle.std.proofs.Common.{◌≡◌, ◌≢◌, ℕ, zero, suc, ◌+◌, ◌≤◌, ◌<◌, Bool, true, false, cond, ◌==◌, List, [], ◌∷◌, length}
use Rattle.std.proofs.Common.{Some, ap, sym, ◌∙◌, refl, subst, arith}
use Rattle.std.proofs.lemmas.Bool.Decides.{nat_tests}
use Rattle.std.proofs.lemmas.List.Sums.{sum_by-cons}
use Rattle.std.specs.FinMap.{find, entries, len, len-entries}
use Rattle.judy_arena.specs.Blocks.{Blocks}
use Rattle.judy_arena.proofs.lemmas.BlockLaws.{itself}
use Rattle.judy_model.specs.Contents.{Entries, string_order}
use Rattle.judy_model.specs.Tenant.{Arrays}
use Rattle.judy_model.specs.WellFormed.{has_entries}
use Rattle.judy_directory.specs.Places.{Stand}
use Rattle.judy_directory.specs.Kinds.{owner_byte, spot_of}
use Rattle.judy_model.specs.declared.commands.Kind.{Kind}
use Rattle.judy_model.specs.declared.commands.Kind.TheVariants.{One, Long, Str, Bytes}
use Rattle.judy_directory.specs.Shelf.{Places, pick, picked}
use Rattle.judy_kinds.specs.Kinds.{kind_of_key, IsPlaceOf}
use Rattle.judy_tenants.specs.Held.{filled_in, arrays_in, all_arrays}
use Rattle.judy_tenants.specs.States.{state_in, IsHeld}
use Rattle.judy_tenants.proofs.Owners.{kind_at-owner_byte, tenants_apart, kinds_apart}
use Rattle.judy_tenants.specs.Growth.{KindLaws}
use Rattle.judy_tenants.proofs.StateLaws.{content_at, only}
use Rattle.judy_tenants.proofs.Numbers.{Placed, AreArrays, head_found, tail_found, tail, are_arrays}
use Rattle.judy_tenants.specs.Accounts.{IsOwned}
use Rattle.judy_tenants.proofs.Space.{Belongs, states_at, belongs}

module _ {K : Type 0} (content : ℕ → Entries K) (o : ℕ) where
  -- the place of an owner's array that has entries adds one
  pick_own : (name : List ℕ) (p : Stand) (more : Arrays K) → has_entries (content p.root) ≡ true
      → filled_in (pick content o (o ∷ name) p more) ≡ 1 + filled_in more
  pick_own name p more h =
      ap (λ r. filled_in (cond r ((name, content p.root) ∷ more) more)) (itself o)
      ∙ sum_by-cons (λ (a : List ℕ × Entries K). cond (has_entries a.1) 1 0) (name, content p.root) more
      ∙ ap (λ r. cond r 1 0 + filled_in more) h

  -- the place of another owner's array adds none
  pick_other : (byte : ℕ) (name : List ℕ) (p : Stand) (more : Arrays K) → (o == byte) ≡ false → filled_in (pick content o (byte ∷ name) p more) ≡ filled_in more
  pick_other byte name p more h = ap (λ r. filled_in (cond r ((name, content p.root) ∷ more) more)) h

module _ (b : Blocks) where
  -- how many arrays of a kind a tenant has at these places
  abbrev kind_arrays : Kind → ℕ → Placed → ℕ
  kind_arrays kind t es = filled_in (picked (content_at kind b) (owner_byte t kind) es)

  -- one more place, of an array that has entries
  module _ (kind : Kind) (t : ℕ) (name : List ℕ) (p : Stand) (es : Placed) (some : has_entries (content_at kind b p.root) ≡ true) where
    abbrev longer : Placed
    longer = (spot_of t kind name, p) ∷ es

    kind_own : kind_arrays kind t longer ≡ 1 + kind_arrays kind t es
    kind_own = pick_own (content_at kind b) (owner_byte t kind) name p (picked (content_at kind b) (owner_byte t kind) es) some

    kind_other : (k : Kind) (u : ℕ) → (owner_byte u k == owner_byte t kind) ≡ false → kind_arrays k u longer ≡ kind_arrays k u es
    kind_other k u h = pick_other (content_at k b) (owner_byte u k) (owner_byte t kind) name p (picked (content_at k b) (owner_byte u k) es) h

    -- the other tenants have as many arrays as before
    other_arrays : (u : ℕ) → u ≢ t → arrays_in (states_at b longer u) ≡ arrays_in (states_at b es u)
    other_arrays u h =
        let ones = kind_other One u (tenants_apart t u One kind h) in
        let longs = kind_other Long u (tenants_apart t u Long kind h) in
        let strings = kind_other Str u (tenants_apart t u Str kind h) in
        let byte_maps = kind_other Bytes u (tenants_apart t u Bytes kind h) in
        omega (arith, ones, longs, strings, byte_maps)

    -- so have all tenants up to this one
    lower_arrays : (n : ℕ) → n ≤ t → all_arrays n (states_at b longer) ≡ all_arrays n (states_at b es)
    lower_arrays zero h = refl
    lower_arrays (suc n) h = let rest = lower_arrays n (omega arith) in let here = other_arrays n (λ e. absurd (omega arith)) in omega (arith, rest, here)

  -- the tenant has one array more
  own_arrays : (kind : Kind) (t : ℕ) (name : List ℕ) (p : Stand) (es : Placed) → has_entries (content_at kind b p.root) ≡ true
      → arrays_in (states_at b ((spot_of t kind name, p) ∷ es) t) ≡ 1 + arrays_in (states_at b es t)
  own_arrays One t name p es some =
      let own = kind_own One t name p es some in
      let longs = kind_other One t name p es some Long t (kinds_apart t Long One λ e. cc) in
      let strings = kind_other One t name p es some Str t (kinds_apart t Str One λ e. cc) in
      let byte_maps = kind_other One t name p es some Bytes t (kinds_apart t Bytes One λ e. cc) in
      omega (arith, own, longs, strings, byte_maps)
  own_arrays Long t name p es some =
      let own = kind_own Long t name p es some in
      let ones = kind_other Long t name p es some One t (kinds_apart t One Long λ e. cc) in
      let strings = kind_other Long t name p es some Str t (kinds_apart t Str Long λ e. cc) in
      let byte_maps = kind_other Long t name p es some Bytes t (kinds_apart t Bytes Long λ e. cc) in
      omega (arith, own, ones, strings, byte_maps)
  own_arrays Str t name p es some =
      let own = kind_own Str t name p es some in
      let ones = kind_other Str t name p es some One t (kinds_apart t One Str λ e. cc) in
      let longs = kind_other Str t name p es some Long t (kinds_apart t Long Str λ e. cc) in
      let byte_maps = kind_other Str t name p es some Bytes t (kinds_apart t Bytes Str λ e. cc) in
      omega (arith, own, ones, longs, byte_maps)
  own_arrays Bytes t name p es some =
      let own = kind_own Bytes t name p es some in
      let ones = kind_other Bytes t name p es some One t (kinds_apart t One Bytes λ e. cc) in
      let longs = kind_other Bytes t name p es some Long t (kinds_apart t Long Bytes λ e. cc) in
      let strings = kind_other Bytes t name p es some Str t (kinds_apart t Str Bytes λ e. cc) in
      omega (arith, own, ones, longs, strings)

  -- so have all tenants below n, if the tenant is one of them
  all_own : (n : ℕ) (kind : Kind) (t : ℕ) (name : List ℕ) (p : Stand) (es : Placed) → has_entries (content_at kind b p.root) ≡ true → t < n
      → all_arrays n (states_at b ((spot_of t kind name, p) ∷ es)) ≡ 1 + all_arrays n (states_at b es)
  all_own zero kind t name p es some h = absurd (omega arith)
  all_own (suc n) kind t name p es some h = by (all_own n kind t name p es some) (t == n) refl
    where
      equal : (x y : ℕ) → (x == y) ≡ true → x ≡ y
      equal x y e = grind (arith, nat_tests)

      less : (x y : ℕ) → (x == y) ≡ false → x < suc y → x < y
      less x y e i = grind (arith, nat_tests)

      by : (t < n → all_arrays n (states_at b ((spot_of t kind name, p) ∷ es)) ≡ 1 + all_arrays n (states_at b es))
          → (r : Bool) → (t == n) ≡ r
          → all_arrays (suc n) (states_at b ((spot_of t kind name, p) ∷ es)) ≡ 1 + all_arrays (suc n) (states_at b es)
      by more true e =
          let same : t ≡ n = equal t n e in
          let rest = lower_arrays kind t name p es some n (omega arith) in
          let here : arrays_in (states_at b ((spot_of t kind name, p) ∷ es) n) ≡ 1 + arrays_in (states_at b es n)
          = subst (λ u. arrays_in (states_at b ((spot_of t kind name, p) ∷ es) u) ≡ 1 + arrays_in (states_at b es u)) same (own_arrays kind t name p es some) in
          omega (arith, rest, here)
      by more false e =
          let below : t < n = less t n e h in
          let rest = more below in
          let here = other_arrays kind t name p es some n (λ i. absurd (omega arith)) in
          omega (arith, rest, here)

  -- without places there are no arrays
  none_at : (n : ℕ) → all_arrays n (states_at b []) ≡ 0
  none_at zero = refl
  none_at (suc n) = let rest = none_at n in omega (arith, rest)

module _ {H : List ℕ → ℕ} (laws : KindLaws H) {b : Blocks} where
  -- an array with a root has entries
  pub has_some : (kind : Kind) (p : Stand) → IsPlaceOf H kind b p → p.root ≢ 0 → has_entries (content_at kind b p.root) ≡ true
  has_some kind p place filled = by (content_at kind b p.root) refl
    where
      by : (l : Entries _) → content_at kind b p.root ≡ l → has_entries l ≡ true
      by [] e = absurd (filled (only laws kind b p.root place.sound e))
      by (x ∷ l) e = refl

module _ {H : List ℕ → ℕ} (laws : KindLaws H) {n : ℕ} {b : Blocks} where
  -- there are as many places as arrays
  placed-are : (es : Placed) → AreArrays H b es → ((k : List ℕ) (p : Stand) → find string_order k es ≡ Some p → Belongs n k)
      → length es ≡ all_arrays n (states_at b es)
  placed-are [] h g = sym (none_at b n)
  placed-are (e ∷ es) h g =
      let rest = placed-are es (tail e es h) (λ k p i. g k p (tail_found e es h.rise k p i)) in
      let w : Belongs n e.0 = g e.0 e.1 (head_found e es h.rise) in
      let sound = h.sound e.0 e.1 (head_found e es h.rise) in
      let place : IsPlaceOf H w.2 b e.1
      = subst (λ k. IsPlaceOf H k b e.1) (kind_at-owner_byte w.0 w.2) (subst (λ k. IsPlaceOf H (kind_of_key k) b e.1) w.4 sound.0) in
      let here : all_arrays n (states_at b (e ∷ es)) ≡ 1 + all_arrays n (states_at b es)
      = subst (λ k. all_arrays n (states_at b ((k, e.1) ∷ es)) ≡ 1 + all_arrays n (states_at b es)) (sym w.4)
      (all_own b n w.2 w.0 w.3 e.1 es (has_some laws w.2 e.1 place sound.1) w.1) in
      omega (arith, rest, here)

  -- the directory has a place for each array of these tenants
  pub names-in : {d : Places} → IsHeld H b d → IsOwned n b d → len d ≡ all_arrays n (state_in b d)
  names-in {d} shelf owned =
      let l = len-entries d in
      let all = placed-are (entries d) (are_arrays laws shelf) (belongs laws shelf owned) in
      omega (arith, l, all)
