-- The block numbers of all arrays, and the number of words in their blocks.
use Rattle.std.proofs.Common.{◌≡◌, ◌≢◌, ℕ, zero, suc, ◌+◌, ◌*◌, ◌≤◌, ◌<◌, Bool, true, false, cond, not, ◌&&◌, ◌||◌, ◌==◌, List}
use Rattle.std.proofs.Common.{[], ◌∷◌, ◌++◌, length, Option, Some, None, is_some, ap, sym, ◌∙◌, refl, subst, arith}
use Rattle.std.proofs.lemmas.List.Sums.{sum_by-append}
use Rattle.std.proofs.lemmas.Bool.Decides.{nat_tests}
use Rattle.std.specs.Prelude.{unwrap_or}
use Rattle.std.specs.Ordering.{eq_by_cmp}
use Rattle.std.specs.FinMap.{find, entries, len, is_sorted, get-entries, len-entries, entries_sorted}
use Rattle.std.specs.FinMap.Entries.{below_all}
use Rattle.std.proofs.lemmas.Option.{none-some}
use Rattle.judy_arena.specs.Blocks.{Blocks, is_live, words_of, total_words}
use Rattle.judy_arena.specs.Frame.{holds}
use Rattle.judy_arena.specs.Totals.{are_distinct, words_over, TotalsOver}
use Rattle.judy_arena.proofs.lemmas.FrameLaws.{holds-append, in-left, in-right}
use Rattle.judy_model.specs.Contents.{string_order}
use Rattle.judy_model.proofs.lemmas.StateLemmas.{not_found}
use Rattle.judy_model.proofs.lemmas.TestLemmas.{and_left, and_right, from_T}
use Rattle.judy_model.proofs.lemmas.EntryLemmas.{same_string, string_is}
use Rattle.judy_directory.specs.Places.{Stand, at, nothing}
use Rattle.judy_model.specs.declared.commands.Kind.{Kind}
use Rattle.judy_directory.specs.Shelf.{Places}
use Rattle.judy_directory.proofs.lemmas.Changes.{total}
use Rattle.judy_kinds.specs.Kinds.{kind_of_key, IsPlaceOf, IsPlaceAt, place_numbers}
use Rattle.judy_kinds.specs.Laws.{IsSmall}
use Rattle.judy_tenants.specs.States.{IsHeld}
use Rattle.judy_tenants.specs.Growth.{KindLaws}

-- places with their keys
abbrev pub Placed : Type 0
Placed = List (List ℕ × Stand)

-- the numbers of the blocks of all these arrays
abbrev pub all_numbers : Blocks → Placed → List ℕ
all_numbers b [] = []
all_numbers b (e ∷ es) = place_numbers e.0 b e.1.root ++ all_numbers b es

-- the pieces of all these arrays
abbrev pub all_counted : Placed → ℕ
all_counted [] = 0
all_counted (e ∷ es) = e.1.pieces + all_counted es

-- ---- lists of numbers without duplicates

-- a number of the list occurs once
itself : (n : ℕ) (ns : List ℕ) → holds n (n ∷ ns) ≡ true
itself n ns = ap (λ r. r || holds n ns) (same n)
  where
    same : (x : ℕ) → (x == x) ≡ true
    same x = grind (arith, nat_tests)

later : (q n : ℕ) (ns : List ℕ) → holds q ns ≡ true → holds q (n ∷ ns) ≡ true
later q n ns h = in-right q (n ∷ []) ns h

-- two lists of distinct numbers without a common one are together such a list
distinct-append : (ns ms : List ℕ) → are_distinct ns ≡ true → are_distinct ms ≡ true → ((q : ℕ) → holds q ns ≡ true → holds q ms ≡ false)
    → are_distinct (ns ++ ms) ≡ true
distinct-append [] ms g h apart = h
distinct-append (n ∷ ns) ms g h apart =
    let not_here : holds n ns ≡ false = is_not (holds n ns) (and_left (not (holds n ns)) (are_distinct ns) g) in
    let out : holds n (ns ++ ms) ≡ false = holds-append n ns ms ∙ ap (λ r. r || holds n ms) not_here ∙ apart n (itself n ns) in
    ap (λ r. not r && are_distinct (ns ++ ms)) out
    ∙ distinct-append ns ms (and_right (not (holds n ns)) (are_distinct ns) g) h (λ q i. apart q (later q n ns i))
  where
    is_not : (x : Bool) → not x ≡ true → x ≡ false
    is_not true h = cc
    is_not false h = refl

-- ---- arrays with their keys

-- each is a sound array with a root, two arrays that share a block are the same, and the keys are
-- sorted
pub record AreArrays (H : List ℕ → ℕ) (b : Blocks) (es : Placed) : Type 0 where
  pub sound : (k : List ℕ) (p : Stand) → find string_order k es ≡ Some p → IsPlaceAt H k b p × (p.root ≢ 0)
  pub apart : (k m : List ℕ) (p r : Stand) (q : ℕ) → find string_order k es ≡ Some p → find string_order m es ≡ Some r
      → holds q (place_numbers k b p.root) ≡ true → holds q (place_numbers m b r.root) ≡ true → k ≡ m
  pub rise : is_sorted string_order es ≡ true

-- one of these arrays has the number
abbrev pub HasHolder : Blocks → ℕ → Placed → Type 0
HasHolder b q es = (k : List ℕ) × (p : Stand) × (find string_order k es ≡ Some p) × (holds q (place_numbers k b p.root) ≡ true)

module _ (e : List ℕ × Stand) (es : Placed) (rise : is_sorted string_order (e ∷ es) ≡ true) where
  -- the first key does not occur again
  not_further : find string_order e.0 es ≡ None
  not_further = not_found string_order total e.0 es (and_left (below_all string_order e.0 es) _ rise)

  pub head_apart : (k : List ℕ) (p : Stand) → find string_order k es ≡ Some p → e.0 ≢ k
  head_apart k p h i = none-some p (sym not_further ∙ ap (λ m. find string_order m es) i ∙ h)

  -- the first entry is found by its key
  pub head_found : find string_order e.0 (e ∷ es) ≡ Some e.1
  head_found = ap (λ r. cond r (Some e.1) (find string_order e.0 es)) (string_is e.0 e.0 refl)

  -- a key that is found further on differs from the first
  pub tail_found : (k : List ℕ) (p : Stand) → find string_order k es ≡ Some p → find string_order k (e ∷ es) ≡ Some p
  tail_found k p h = elim (eq_by_cmp string_order k e.0) as (λ r. eq_by_cmp string_order k e.0 ≡ r → cond r (Some e.1) (find string_order k es) ≡ Some p) [
    | true ↦ λ i. absurd (head_apart k p h (sym (same_string k e.0 i)))
    | false ↦ λ i. h
  ] refl

module _ {H : List ℕ → ℕ} {b : Blocks} where
  -- a part of the arrays has the same properties
  pub tail : (e : List ℕ × Stand) (es : Placed) → AreArrays H b (e ∷ es) → AreArrays H b es
  tail e es h = record {
    sound = λ k p i. h.sound k p (tail_found e es h.rise k p i);
    apart = λ k m p r q i j. h.apart k m p r q (tail_found e es h.rise k p i) (tail_found e es h.rise m r j);
    rise = and_right (below_all string_order e.0 es) _ h.rise;
  }

  first_sound : (e : List ℕ × Stand) (es : Placed) → AreArrays H b (e ∷ es) → IsPlaceAt H e.0 b e.1 × (e.1.root ≢ 0)
  first_sound e es h = h.sound e.0 e.1 (head_found e es h.rise)

  -- a held number belongs to an array
  holder : (q : ℕ) (es : Placed) → AreArrays H b es → holds q (all_numbers b es) ≡ true → HasHolder b q es
  holder q [] h i = absurd (no_holds q i)
    where
      no_holds : (q : ℕ) → holds q [] ≡ true → ⊥
      no_holds q e = cc
  holder q (e ∷ es) h i = by (holder q es (tail e es h)) (holds q (place_numbers e.0 b e.1.root)) refl
    where
      rests : (x y : Bool) → x ≡ false → (x || y) ≡ true → y ≡ true
      rests true y g h = cc
      rests false y g h = h

      by : (holds q (all_numbers b es) ≡ true → HasHolder b q es) → (r : Bool) → holds q (place_numbers e.0 b e.1.root) ≡ r → HasHolder b q (e ∷ es)
      by more true j = (e.0, e.1, head_found e es h.rise, j)
      by more false j =
          let among : (holds q (place_numbers e.0 b e.1.root) || holds q (all_numbers b es)) ≡ true
          = sym (holds-append q (place_numbers e.0 b e.1.root) (all_numbers b es)) ∙ i in
          let m = more (rests _ _ j among) in
          (m.0, m.1, tail_found e es h.rise m.0 m.1 m.2, m.3)

  -- the numbers of each array are held
  held : (q : ℕ) (es : Placed) → AreArrays H b es → (k : List ℕ) (p : Stand) → find string_order k es ≡ Some p
      → holds q (place_numbers k b p.root) ≡ true → holds q (all_numbers b es) ≡ true
  held q [] h k p i j = absurd (none-some p i)
  held q (e ∷ es) h k p i j = by (held q es (tail e es h) k p) (eq_by_cmp string_order k e.0) refl i
    where
      same_found : (x y : Stand) → Some x ≡ Some y → x ≡ y
      same_found x y e = cc

      by : (find string_order k es ≡ Some p → holds q (place_numbers k b p.root) ≡ true → holds q (all_numbers b es) ≡ true)
          → (r : Bool) → eq_by_cmp string_order k e.0 ≡ r → cond r (Some e.1) (find string_order k es) ≡ Some p → holds q (all_numbers b (e ∷ es)) ≡ true
      by more true t f = in-left q (place_numbers e.0 b e.1.root) (all_numbers b es)
          (ap (λ z. holds q (place_numbers e.0 b z.root)) (same_found e.1 p f) ∙ ap (λ m. holds q (place_numbers m b p.root)) (sym (same_string k e.0 t)) ∙ j)
      by more false t f = in-right q (place_numbers e.0 b e.1.root) (all_numbers b es) (more f j)

  -- each number is held once, if each array holds its own once
  distinct : (es : Placed) → AreArrays H b es → ((k : List ℕ) (p : Stand) → IsPlaceAt H k b p → are_distinct (place_numbers k b p.root) ≡ true)
      → are_distinct (all_numbers b es) ≡ true
  distinct [] h once = refl
  distinct (e ∷ es) h once =
      distinct-append (place_numbers e.0 b e.1.root) (all_numbers b es) (once e.0 e.1 (first_sound e es h).0) (distinct es (tail e es h) once)
      (λ q i. no_true (holds q (all_numbers b es)) (λ j.
      let m = holder q es (tail e es h) j in
      head_apart e es h.rise m.0 m.1 m.2 (h.apart e.0 m.0 e.1 m.1 q (head_found e es h.rise) (tail_found e es h.rise m.0 m.1 m.2) i m.3)))
    where
      no_true : (x : Bool) → (x ≡ true → ⊥) → x ≡ false
      no_true true h = absurd (h refl)
      no_true false h = refl

  -- ---- the number of words

  module _ (small : (kind : Kind) (p : Stand) → IsPlaceOf H kind b p → IsSmall kind b p)
      (filled : (kind : Kind) (p : Stand) → IsPlaceOf H kind b p → p.root ≢ 0 → 0 < p.entries) where
    -- at most 16 words for each piece
    most : (es : Placed) → AreArrays H b es → words_over b (all_numbers b es) ≤ 16 * all_counted es
    most [] h = omega arith
    most (e ∷ es) h =
        let sums = sum_by-append (λ n. length (words_of b n)) (place_numbers e.0 b e.1.root) (all_numbers b es) in
        let here = (small (kind_of_key e.0) e.1 (first_sound e es h).0).most in
        let more = most es (tail e es h) in
        omega (arith, sums, here, more)

    -- at least 4 words for each array
    least : (es : Placed) → AreArrays H b es → 4 * length es ≤ words_over b (all_numbers b es)
    least [] h = omega arith
    least (e ∷ es) h =
        let sums = sum_by-append (λ n. length (words_of b n)) (place_numbers e.0 b e.1.root) (all_numbers b es) in
        let first = first_sound e es h in
        let here = (small (kind_of_key e.0) e.1 first.0).least (filled (kind_of_key e.0) e.1 first.0 first.1) in
        let more = least es (tail e es h) in
        omega (arith, sums, here, more)

-- ---- all arrays of a directory

module _ {H : List ℕ → ℕ} (laws : KindLaws H) {b : Blocks} {d : Places} (shelf : IsHeld H b d) where
  -- a key that is found has its place
  pub found_place : (k : List ℕ) (p : Stand) → find string_order k (entries d) ≡ Some p → at d k ≡ p
  found_place k p h = ap (λ g. unwrap_or g nothing) (get-entries d k ∙ h)

  pub found_sound : (k : List ℕ) (p : Stand) → find string_order k (entries d) ≡ Some p → IsPlaceAt H k b p × (p.root ≢ 0)
  found_sound k p h = (
    subst (IsPlaceAt H k b) (found_place k p h) (shelf.sound k),
    λ z. shelf.filled k (ap is_some (get-entries d k ∙ h)) (ap (λ x. x.root) (found_place k p h) ∙ z),
  )

  -- the places of a directory are arrays
  pub are_arrays : AreArrays H b (entries d)
  are_arrays = record {
    sound = found_sound;
    apart = λ k m p r q i j g h. shelf.apart k m q
        (ap (λ x. holds q (place_numbers k b x.root)) (found_place k p i) ∙ g) (ap (λ x. holds q (place_numbers m b x.root)) (found_place m r j) ∙ h);
    rise = from_T _ (entries_sorted d);
  }

  -- a live block belongs to one of them
  live_held : (q : ℕ) → is_live b q ≡ true → holds q (all_numbers b (entries d)) ≡ true
  live_held q live = let w = shelf.whole q live in by w.0 (find string_order w.0 (entries d)) refl w.1
    where
      no_holds : holds q [] ≡ true → ⊥
      no_holds e = cc

      by : (k : List ℕ) (g : Option Stand) → find string_order k (entries d) ≡ g → holds q (place_numbers k b (at d k).root) ≡ true
          → holds q (all_numbers b (entries d)) ≡ true
      by k None e h =
          let root : (at d k).root ≡ 0 = ap (λ x. (unwrap_or x nothing).root) (get-entries d k ∙ e) in
          absurd (no_holds (sym (ap (λ w. holds q (place_numbers k b w)) root ∙ ap (holds q) (laws.kept.none k b).1) ∙ h))
      by k (Some p) e h = held q (entries d) are_arrays k p e (ap (λ x. holds q (place_numbers k b x.root)) (sym (found_place k p e)) ∙ h)

  -- an array with a root has entries
  has_entries : (kind : Kind) (p : Stand) → IsPlaceOf H kind b p → p.root ≢ 0 → 0 < p.entries
  has_entries kind p h some = by p.entries refl
    where
      by : (n : ℕ) → p.entries ≡ n → 0 < n
      by zero e = absurd (some (((laws.empties b).1 p.root).any kind h.sound (sym h.entries ∙ e)))
      by (suc n) e = omega arith

  module _ (small : (kind : Kind) (p : Stand) → IsPlaceOf H kind b p → IsSmall kind b p) (totals : TotalsOver) where
    same_tests : (x y : Bool) → (x ≡ true → y ≡ true) → (y ≡ true → x ≡ true) → x ≡ y
    same_tests true y f g = sym (f refl)
    same_tests false true f g = g refl
    same_tests false false f g = refl

    held_live : (q : ℕ) → holds q (all_numbers b (entries d)) ≡ true → is_live b q ≡ true
    held_live q h = let m = holder q (entries d) are_arrays h in (small (kind_of_key m.0) m.1 (are_arrays.sound m.0 m.1 m.2).0).live q m.3

    -- all words are those in the blocks of the arrays
    pub words-are : total_words b ≡ words_over b (all_numbers b (entries d))
    words-are = totals b (all_numbers b (entries d))
        (distinct (entries d) are_arrays (λ k p h. (small (kind_of_key k) p h).distinct)) (λ q. same_tests _ _ (live_held q) (held_live q))

    -- at most 16 words for each piece, and at least 4 for each array
    pub words-most : total_words b ≤ 16 * all_counted (entries d)
    words-most = let e = words-are in let m = most small has_entries (entries d) are_arrays in omega (arith, e, m)

    pub words-least : 4 * len d ≤ total_words b
    words-least = let e = words-are in let m = least small has_entries (entries d) are_arrays in let l = len-entries d in omega (arith, e, m, l)
