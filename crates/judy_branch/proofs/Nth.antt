-- The child at a place.
use Rattle.std.proofs.Common.{◌≡◌, ℕ, zero, suc, ◌+◌, ◌*◌, ◌/◌, ◌%◌, ◌^◌, ◌<◌, true, cond, nat_lt, List, [], ◌∷◌, length}
use Rattle.std.proofs.Common.{get_or, Option, Some, None, ap, sym, ◌∙◌, refl, subst, arith, lt-ltb, le-ltb, inl, inr}
use Rattle.std.specs.Prelude.{filter, slice_get}
use Rattle.std.proofs.lemmas.Bool.{cases_lt, cases_eq}
use Rattle.std.proofs.lemmas.Option.{slice_get-get_or, get_or_from_slice_get}
use Rattle.std.specs.Ordering.{is_eq}
use Rattle.std.specs.FinMap.{is_sorted}
use Rattle.std.specs.FinMap.Entries.{below_all}
use Rattle.std.specs.List.{list_all}
use Rattle.judy_bitmap.specs.ByteSets.{members, at_least, head_of}
use Rattle.judy_model.specs.Contents.{Entries, word_order, value_of, pairs}
use Rattle.judy_model.proofs.lemmas.TestLemmas.{and_right, and_left}
use Rattle.judy_model.proofs.lemmas.EntryLemmas.{past, less, greater, equal}
use Rattle.judy_branch.specs.declared.shape.Shape.{Shape}
use Rattle.judy_branch.specs.declared.shape.Shape.TheVariants.{Linear, Bitmap}
use Rattle.judy_branch.specs.Children.{count_in, child_bytes, refs_in, bitmap_in, start, children_in, is_child_entry, IsLaid}
use Rattle.judy_branch.specs.Found.{IsPlace}
use Rattle.judy_branch.proofs.Lists.{length-pairs, none_under}
use Rattle.judy_branch.proofs.Nearest.{unpacked-at, head_at, rise}
use Rattle.judy_branch.proofs.Spans.{byte-at}
use Rattle.judy_branch.proofs.Shapes.{IsPaired, linear-paired, bitmap-paired}

pairs-at : (ks vs : List ℕ) (i : ℕ) → i < length ks → length vs ≡ length ks → get_or (pairs ks vs) i (0, 0) ≡ (get_or ks i 0, get_or vs i 0)
pairs-at [] vs i h e = absurd (omega arith)
pairs-at (k ∷ ks) [] i h e = absurd (omega arith)
pairs-at (k ∷ ks) (v ∷ vs) zero h e = refl
pairs-at (k ∷ ks) (v ∷ vs) (suc i) h e = pairs-at ks vs i (omega arith) (omega arith)

module _ (shape : Shape) (ws : List ℕ) (paired : IsPaired shape ws) (i : ℕ) (within : i < length (children_in shape ws)) where
  many : length (children_in shape ws) ≡ count_in ws
  many = ap length paired.are ∙ length-pairs (child_bytes shape ws) (refs_in shape ws) (paired.same ∙ sym paired.many) ∙ paired.many

  pub paired-within : i < count_in ws
  paired-within = let m = many in omega arith

  pub paired-nth : slice_get (children_in shape ws) i ≡ Some (get_or (child_bytes shape ws) i 0, get_or ws (start shape + i) 0)
  paired-nth =
      let inside = paired-within in
      let m = paired.many in
      slice_get-get_or (children_in shape ws) i (0, 0) within
      ∙ ap (λ es. Some (get_or es i (0, 0))) paired.are
      ∙ ap Some (pairs-at (child_bytes shape ws) (refs_in shape ws) i (omega arith) (paired.same ∙ sym paired.many))
      ∙ ap (λ r. Some (get_or (child_bytes shape ws) i 0, r)) (paired.at i inside)

-- the child at a place of a linear branch
pub linear-nth : (ws : List ℕ) (i byte : ℕ) → IsLaid Linear ws → i < length (children_in Linear ws) → byte ≡ get_or ws 3 0 / 2 ^ (8 * i) % 256
    → slice_get (children_in Linear ws) i ≡ Some (byte, get_or ws (4 + i) 0)
unfolding child_bytes
linear-nth ws i byte laid within e =
    let paired = linear-paired ws laid in
    let inside = paired-within Linear ws paired i within in
    paired-nth Linear ws paired i within ∙ ap (λ b. Some (b, get_or ws (4 + i) 0)) (unpacked-at (count_in ws) (get_or ws 3 0) i inside ∙ sym e)

-- and of a bitmap branch
pub bitmap-nth : (ws : List ℕ) (i byte : ℕ) → IsLaid Bitmap ws → i < length (children_in Bitmap ws) → slice_get (members (bitmap_in ws)) i ≡ Some byte
    → slice_get (children_in Bitmap ws) i ≡ Some (byte, get_or ws (7 + i) 0)
unfolding child_bytes
bitmap-nth ws i byte laid within e =
    paired-nth Bitmap ws (bitmap-paired ws laid) i within ∙ ap (λ b. Some (b, get_or ws (7 + i) 0)) (get_or_from_slice_get (members (bitmap_in ws)) i byte 0 e)

-- a search from above the bytes before a place finds the byte at it
pub bitmap-from : (ws : List ℕ) (i from : ℕ) (set : List ℕ) (found : Option ℕ) → IsLaid Bitmap ws → i < length (children_in Bitmap ws)
    → IsPlace (child_bytes Bitmap ws) from i → set ≡ members (bitmap_in ws) → found ≡ head_of (at_least set from)
    → slice_get (members (bitmap_in ws)) i ≡ found
unfolding child_bytes
bitmap-from ws i from set found laid within p is e =
    let paired = bitmap-paired ws laid in
    let inside = paired-within Bitmap ws paired i within in
    let same = paired.same in
    let m = paired.many in
    let l : i < length (members (bitmap_in ws)) = omega (arith, inside, same, m) in
    slice_get-get_or (members (bitmap_in ws)) i 0 l ∙ sym (head_at (members (bitmap_in ws)) from i l p.below (p.above l))
    ∙ ap (λ s. head_of (at_least s from)) (sym is) ∙ sym e

-- there is a byte at the place of a child
pub bitmap-there : (ws : List ℕ) (i : ℕ) → IsLaid Bitmap ws → i < length (children_in Bitmap ws) → slice_get (members (bitmap_in ws)) i ≡ None → ⊥
unfolding child_bytes
bitmap-there ws i laid within e =
    let paired = bitmap-paired ws laid in
    let inside = paired-within Bitmap ws paired i within in
    let same = paired.same in
    let m = paired.many in
    let l : i < length (members (bitmap_in ws)) = omega (arith, inside, same, m) in
    some_none (get_or (members (bitmap_in ws)) i 0) (sym (slice_get-get_or (members (bitmap_in ws)) i 0 l) ∙ e)
  where
    some_none : (x : ℕ) → Some x ≡ None → ⊥
    some_none x h = cc

-- so it begins below 256
pub from-byte : (ws : List ℕ) (i from : ℕ) → IsLaid Bitmap ws → i < length (children_in Bitmap ws) → IsPlace (child_bytes Bitmap ws) from i → from < 256
from-byte ws i from laid within p =
    let paired = bitmap-paired ws laid in
    let inside = paired-within Bitmap ws paired i within in
    let same = paired.same in
    let m = paired.many in
    let a = p.above (omega (arith, inside, same, m)) in
    let b = byte-at (child_bytes Bitmap ws) (refs_in Bitmap ws) i (omega (arith, inside, same, m)) (omega (arith, inside, same, m))
    (subst (λ es. list_all is_child_entry es ≡ true) paired.are laid.sound) in
    omega (arith, a, b)

-- the next place is that of the next byte
pub bitmap-after : (ws : List ℕ) (i from byte w : ℕ) → IsLaid Bitmap ws → i < length (children_in Bitmap ws) → IsPlace (child_bytes Bitmap ws) from i
    → slice_get (children_in Bitmap ws) i ≡ Some (byte, w) → IsPlace (child_bytes Bitmap ws) (byte + 1) (i + 1)
bitmap-after ws i from byte w laid within p e =
    let paired = bitmap-paired ws laid in
    let inside = paired-within Bitmap ws paired i within in
    let same = paired.same in
    let m = paired.many in
    let here : get_or (child_bytes Bitmap ws) i 0 ≡ byte = first_same (slice_get (children_in Bitmap ws) i) _ _ _ _ (paired-nth Bitmap ws paired i within) e in
    record {
      within = omega (arith, inside, same, m);
      below = λ j l. elim (cases_lt j i) [
        | inl lt ↦ let r = rise Bitmap ws laid paired 0 0 j i lt (omega (arith, inside, same, m)) in omega (arith, r, here)
        | inr ge ↦ let k : j ≡ i = omega (arith, l, ge) in let f = ap (λ x. get_or (child_bytes Bitmap ws) x 0) k in omega (arith, f, here)
      ];
      above = λ l. let r = rise Bitmap ws laid paired 0 0 i (i + 1) (omega arith) l in omega (arith, r, here);
    }
  where
    first_same : (o : Option (ℕ × ℕ)) (a b c d : ℕ) → o ≡ Some (a, b) → o ≡ Some (c, d) → a ≡ c
    first_same o a b c d h k = ap (λ e. e.0) (some_same (a, b) (c, d) (sym h ∙ k))
      where
        some_same : (x y : ℕ × ℕ) → Some x ≡ Some y → x ≡ y
        some_same x y h = cc

-- the child of a byte stands behind those of the lower bytes
pub nth-below : (es : Entries ℕ) (k w : ℕ) → is_sorted word_order es ≡ true → value_of word_order es k ≡ Some w → slice_get es
    (length (filter (λ e. nat_lt e.0 k) es)) ≡ Some (k, w)
nth-below [] k w s h = absurd (let f : None ≡ Some w = h in cc)
nth-below (e ∷ es) k w s h =
    let rest = and_right (below_all word_order e.0 es) _ s in
    elim (cases_lt e.0 k) [
      | inl lt ↦
          let after : value_of word_order es k ≡ Some w = sym (ap (λ o. cond (is_eq o) (Some e.1) (value_of word_order es k)) (greater k e.0 lt)) ∙ h in
          ap (λ t. slice_get (e ∷ es) (length (cond t (e ∷ filter (λ e. nat_lt e.0 k) es) (filter (λ e. nat_lt e.0 k) es))))
          (lt-ltb e.0 k lt) ∙ nth-below es k w rest after
      | inr ge ↦ elim (cases_eq e.0 k) [
        | inl same ↦
            let under = and_left (below_all word_order e.0 es) _ s in
            let here : Some e.1 ≡ Some w = sym (ap (λ o. cond (is_eq o) (Some e.1) (value_of word_order es k)) (equal k e.0 (sym same))) ∙ h in
            ap (λ t. slice_get (e ∷ es) (length (cond t (e ∷ filter (λ e. nat_lt e.0 k) es) (filter (λ e. nat_lt e.0 k) es)))) (le-ltb e.0 k ge)
            ∙ ap (λ l. slice_get (e ∷ es) (length l)) (none_under e.0 k es under (omega arith)) ∙ ap (λ x. Some (x, e.1)) same
            ∙ ap (λ y. Some (k, y)) (some_same e.1 w here)
        | inr other ↦ absurd (let lt : k < e.0 = omega arith in
            let none : value_of word_order (e ∷ es) k ≡ None = ap (λ o. cond (is_eq o) (Some e.1) (value_of word_order es k))
            (less k e.0 lt) ∙ (past es e.0 k (omega arith) (and_left (below_all word_order e.0 es) _ s)).0 in
            let f : None ≡ Some w = sym none ∙ h in cc)
      ]
    ]
  where
    some_same : (a b : ℕ) → Some a ≡ Some b → a ≡ b
    some_same a b h = cc
