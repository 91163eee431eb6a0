-- The words of all blocks are the words of all arrays of all tenants.
--     words-sum    the words of all blocks, as the sum over the tenants
use Rattle.std.proofs.Common.{◌≡◌, ◌≢◌, ℕ, zero, suc, ◌+◌, ◌≤◌, ◌<◌, Bool, true, false, cond, ◌==◌, List, [], ◌∷◌}
use Rattle.std.proofs.Common.{Some, ap, sym, ◌∙◌, refl, subst, arith}
use Rattle.std.proofs.lemmas.Bool.Decides.{nat_tests}
use Rattle.std.proofs.lemmas.List.Sums.{sum_by-cons}
use Rattle.std.specs.FinMap.{find, entries}
use Rattle.judy_arena.specs.Blocks.{Blocks, total_words}
use Rattle.judy_arena.specs.Totals.{words_over, TotalsOver}
use Rattle.judy_arena.proofs.lemmas.BlockLaws.{itself, words_over-append}
use Rattle.judy_model.specs.Contents.{Entries, string_order}
use Rattle.judy_model.specs.Tenant.{Arrays}
use Rattle.judy_directory.specs.Places.{Stand, at}
use Rattle.judy_directory.specs.Kinds.{owner_byte, spot_of}
use Rattle.judy_model.specs.declared.commands.Kind.{Kind}
use Rattle.judy_model.specs.declared.commands.Kind.TheVariants.{One, Long, Str, Bytes}
use Rattle.judy_directory.specs.Shelf.{Places, pick, picked}
use Rattle.judy_kinds.specs.Kinds.{IsPlaceOf, numbers_of_array, place_numbers}
use Rattle.judy_kinds.specs.Laws.{IsSmall}
use Rattle.judy_tenants.specs.Held.{Sizes, summed_words, tenant_words, all_words}
use Rattle.judy_tenants.specs.States.{words_at, sized, sizes_by, sizes_in, IsHeld}
use Rattle.judy_tenants.proofs.Owners.{kind_at-owner_byte, tenants_apart, kinds_apart}
use Rattle.judy_tenants.specs.Growth.{KindLaws}
use Rattle.judy_tenants.proofs.StateLaws.{content_at}
use Rattle.judy_tenants.proofs.Numbers.{Placed, AreArrays, all_numbers, head_found, tail_found, tail, are_arrays, found_place, words-are}
use Rattle.judy_tenants.specs.Accounts.{IsOwned}
use Rattle.judy_tenants.proofs.Space.{Belongs, states_at, belongs}

module _ {K : Type 0} (words : List ℕ → ℕ) (content : ℕ → Entries K) (o : ℕ) where
  -- the place of an owner's array adds its words
  pick_own : (name : List ℕ) (p : Stand) (more : Arrays K)
      → summed_words (sized words (pick content o (o ∷ name) p more)) ≡ words name + summed_words (sized words more)
  pick_own name p more =
      ap (λ r. summed_words (sized words (cond r ((name, content p.root) ∷ more) more))) (itself o)
      ∙ sum_by-cons (λ (z : List ℕ × ℕ). z.1) (name, words name) (sized words more)

  -- the place of another owner's array adds none
  pick_other : (byte : ℕ) (name : List ℕ) (p : Stand) (more : Arrays K) → (o == byte) ≡ false
      → summed_words (sized words (pick content o (byte ∷ name) p more)) ≡ summed_words (sized words more)
  pick_other byte name p more h = ap (λ r. summed_words (sized words (cond r ((name, content p.root) ∷ more) more))) h

module _ (b : Blocks) (d : Places) where
  -- the words of a tenant's arrays of one kind at these places; below, of each of its arrays
  abbrev kind_words : Kind → ℕ → Placed → ℕ
  kind_words kind t es = summed_words (sized (words_at kind b d t) (picked (content_at kind b) (owner_byte t kind) es))

  abbrev sizes_at : Placed → ℕ → Sizes
  sizes_at es t = sizes_by (λ kind name. words_at kind b d t name) (states_at b es t)

  -- one more place
  module _ (kind : Kind) (t : ℕ) (name : List ℕ) (p : Stand) (es : Placed) where
    abbrev longer : Placed
    longer = (spot_of t kind name, p) ∷ es

    kind_own : kind_words kind t longer ≡ words_at kind b d t name + kind_words kind t es
    kind_own = pick_own (words_at kind b d t) (content_at kind b) (owner_byte t kind) name p (picked (content_at kind b) (owner_byte t kind) es)

    kind_other : (k : Kind) (u : ℕ) → (owner_byte u k == owner_byte t kind) ≡ false → kind_words k u longer ≡ kind_words k u es
    kind_other k u h = pick_other (words_at k b d u) (content_at k b) (owner_byte u k) (owner_byte t kind) name p
        (picked (content_at k b) (owner_byte u k) es) h

    -- the other tenants have as many words as before
    other_words : (u : ℕ) → u ≢ t → tenant_words (sizes_at longer u) ≡ tenant_words (sizes_at es u)
    other_words u h =
        let ones = kind_other One u (tenants_apart t u One kind h) in
        let longs = kind_other Long u (tenants_apart t u Long kind h) in
        let strings = kind_other Str u (tenants_apart t u Str kind h) in
        let byte_maps = kind_other Bytes u (tenants_apart t u Bytes kind h) in
        omega (arith, ones, longs, strings, byte_maps)

    -- so have all tenants up to this one
    lower_words : (n : ℕ) → n ≤ t → all_words n (sizes_at longer) ≡ all_words n (sizes_at es)
    lower_words zero h = refl
    lower_words (suc n) h = let rest = lower_words n (omega arith) in let here = other_words n (λ e. absurd (omega arith)) in omega (arith, rest, here)

  -- the tenant has the words of the array more
  own_words : (kind : Kind) (t : ℕ) (name : List ℕ) (p : Stand) (es : Placed)
      → tenant_words (sizes_at ((spot_of t kind name, p) ∷ es) t) ≡ words_at kind b d t name + tenant_words (sizes_at es t)
  own_words One t name p es =
      let own = kind_own One t name p es in
      let longs = kind_other One t name p es Long t (kinds_apart t Long One λ e. cc) in
      let strings = kind_other One t name p es Str t (kinds_apart t Str One λ e. cc) in
      let byte_maps = kind_other One t name p es Bytes t (kinds_apart t Bytes One λ e. cc) in
      omega (arith, own, longs, strings, byte_maps)
  own_words Long t name p es =
      let own = kind_own Long t name p es in
      let ones = kind_other Long t name p es One t (kinds_apart t One Long λ e. cc) in
      let strings = kind_other Long t name p es Str t (kinds_apart t Str Long λ e. cc) in
      let byte_maps = kind_other Long t name p es Bytes t (kinds_apart t Bytes Long λ e. cc) in
      omega (arith, own, ones, strings, byte_maps)
  own_words Str t name p es =
      let own = kind_own Str t name p es in
      let ones = kind_other Str t name p es One t (kinds_apart t One Str λ e. cc) in
      let longs = kind_other Str t name p es Long t (kinds_apart t Long Str λ e. cc) in
      let byte_maps = kind_other Str t name p es Bytes t (kinds_apart t Bytes Str λ e. cc) in
      omega (arith, own, ones, longs, byte_maps)
  own_words Bytes t name p es =
      let own = kind_own Bytes t name p es in
      let ones = kind_other Bytes t name p es One t (kinds_apart t One Bytes λ e. cc) in
      let longs = kind_other Bytes t name p es Long t (kinds_apart t Long Bytes λ e. cc) in
      let strings = kind_other Bytes t name p es Str t (kinds_apart t Str Bytes λ e. cc) in
      omega (arith, own, ones, longs, strings)

  -- so have all tenants below n, if the tenant is one of them
  all_own : (n : ℕ) (kind : Kind) (t : ℕ) (name : List ℕ) (p : Stand) (es : Placed) → t < n
      → all_words n (sizes_at ((spot_of t kind name, p) ∷ es)) ≡ words_at kind b d t name + all_words n (sizes_at es)
  all_own zero kind t name p es h = absurd (omega arith)
  all_own (suc n) kind t name p es h = by (all_own n kind t name p es) (t == n) refl
    where
      equal : (x y : ℕ) → (x == y) ≡ true → x ≡ y
      equal x y e = grind (arith, nat_tests)

      less : (x y : ℕ) → (x == y) ≡ false → x < suc y → x < y
      less x y e i = grind (arith, nat_tests)

      by : (t < n → all_words n (sizes_at ((spot_of t kind name, p) ∷ es)) ≡ words_at kind b d t name + all_words n (sizes_at es))
          → (r : Bool) → (t == n) ≡ r
          → all_words (suc n) (sizes_at ((spot_of t kind name, p) ∷ es)) ≡ words_at kind b d t name + all_words (suc n) (sizes_at es)
      by more true e =
          let same : t ≡ n = equal t n e in
          let rest = lower_words kind t name p es n (omega arith) in
          let here : tenant_words (sizes_at ((spot_of t kind name, p) ∷ es) n) ≡ words_at kind b d t name + tenant_words (sizes_at es n)
          = subst (λ u. tenant_words (sizes_at ((spot_of t kind name, p) ∷ es) u) ≡ words_at kind b d t name + tenant_words (sizes_at es u))
          same (own_words kind t name p es) in
          omega (arith, rest, here)
      by more false e =
          let below : t < n = less t n e h in
          let rest = more below in
          let here = other_words kind t name p es n (λ i. absurd (omega arith)) in
          omega (arith, rest, here)

  -- without places there are no words
  none_at : (n : ℕ) → all_words n (sizes_at []) ≡ 0
  none_at zero = refl
  none_at (suc n) = let rest = none_at n in omega (arith, rest)

module _ {H : List ℕ → ℕ} (laws : KindLaws H) {n : ℕ} {b : Blocks} where
  -- the words over all numbers are those of the tenants
  placed-words : (d : Places) (es : Placed) → AreArrays H b es → ((k : List ℕ) (p : Stand) → find string_order k es ≡ Some p → Belongs n k)
      → ((k : List ℕ) (p : Stand) → find string_order k es ≡ Some p → at d k ≡ p)
      → words_over b (all_numbers b es) ≡ all_words n (sizes_at b d es)
  placed-words d [] h g f = sym (none_at b d n)
  placed-words d (e ∷ es) h g f =
      let rest = placed-words d es (tail e es h) (λ k p i. g k p (tail_found e es h.rise k p i)) (λ k p i. f k p (tail_found e es h.rise k p i)) in
      let w : Belongs n e.0 = g e.0 e.1 (head_found e es h.rise) in
      let place : at d (spot_of w.0 w.2 w.3) ≡ e.1 = ap (at d) (sym w.4) ∙ f e.0 e.1 (head_found e es h.rise) in
      let own : words_over b (place_numbers e.0 b e.1.root) ≡ words_at w.2 b d w.0 w.3
      = ap (λ k. words_over b (place_numbers k b e.1.root)) w.4 ∙ ap (λ k. words_over b (numbers_of_array k b e.1.root)) (kind_at-owner_byte w.0 w.2)
      ∙ ap (λ (q : Stand). words_over b (numbers_of_array w.2 b q.root)) (sym place) in
      let here : all_words n (sizes_at b d (e ∷ es)) ≡ words_at w.2 b d w.0 w.3 + all_words n (sizes_at b d es)
      = subst (λ k. all_words n (sizes_at b d ((k, e.1) ∷ es)) ≡ words_at w.2 b d w.0 w.3 + all_words n (sizes_at b d es)) (sym w.4)
      (all_own b d n w.2 w.0 w.3 e.1 es w.1) in
      let both = words_over-append b (place_numbers e.0 b e.1.root) (all_numbers b es) in
      omega (arith, rest, own, here, both)

  -- the words of all blocks are those of the tenants below n
  pub words-sum : {d : Places} → IsHeld H b d → IsOwned n b d → ((kind : Kind) (p : Stand) → IsPlaceOf H kind b p → IsSmall kind b p) → TotalsOver
      → total_words b ≡ all_words n (sizes_in b d)
  words-sum {d} shelf owned small totals =
      words-are laws shelf small totals ∙ placed-words d (entries d) (are_arrays laws shelf) (belongs laws shelf owned) (found_place laws shelf)
