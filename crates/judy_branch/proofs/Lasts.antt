-- The child of the greatest byte.
use Rattle.std.proofs.Common.{◌≡◌, ℕ, ◌<◌, true, cond, nat_lt, [], ◌∷◌, length, Some, None, ap, sym, ◌∙◌, refl, arith, inl, inr}
use Rattle.std.specs.Prelude.{filter, slice_get, IsTrue}
use Rattle.std.specs.List.{list_all}
use Rattle.std.proofs.lemmas.Bool.{cases_lt}
use Rattle.std.proofs.lemmas.Bool.Decides.{nat_tests}
use Rattle.std.proofs.lemmas.Option.{get_or_from_slice_get}
use Rattle.std.specs.Ordering.{nat_cmp, is_eq, is_le, is_lt}
use Rattle.std.specs.FinMap.{is_sorted}
use Rattle.std.specs.FinMap.Entries.{below_all}
use Rattle.judy_model.specs.Contents.{Entries, word_order, value_of, last, last_of}
use Rattle.judy_model.proofs.lemmas.TestLemmas.{and_right, and_left}
use Rattle.judy_model.proofs.lemmas.EntryLemmas.{less, greater, equal, from_less}
use Rattle.judy_branch.specs.Children.{is_child, is_child_entry}
use Rattle.judy_branch.proofs.Lists.{sound-at}

byte_le : (a : ℕ) → nat_lt a 256 ≡ true → is_le (nat_cmp a 255) ≡ true
byte_le a h =
    let lt : a < 256 = grind (arith, nat_tests) in
    elim (cases_lt a 255) [
      | inl l ↦ ap is_le (less a 255 l)
      | inr g ↦ ap is_le (equal a 255 (omega arith))
    ]

all_bytes : (es : Entries ℕ) → list_all is_child_entry es ≡ true → filter (λ e. is_le (nat_cmp e.0 255)) es ≡ es
all_bytes [] h = refl
all_bytes (e ∷ es) h =
    ap (λ t. cond t (e ∷ filter (λ e. is_le (nat_cmp e.0 255)) es) (filter (λ e. is_le (nat_cmp e.0 255)) es))
    (byte_le e.0 (and_left (nat_lt e.0 256) (is_child e.1) (and_left (is_child_entry e) _ h)))
    ∙ ap (λ l. e ∷ l) (all_bytes es (and_right (is_child_entry e) _ h))

some_last : (e : ℕ × ℕ) (es : Entries ℕ) → last_of (e ∷ es) ≡ None → ⊥
some_last e [] h = cc
some_last e (x ∷ es) h = some_last x es h

-- there is a last child
pub last-some : (es : Entries ℕ) → list_all is_child_entry es ≡ true → 0 < length es → last word_order es 255 ≡ None → ⊥
last-some [] s h e = absurd (omega arith)
last-some (x ∷ es) s h e = some_last x es (ap last_of (sym (all_bytes (x ∷ es) s)) ∙ e)

above_first : (x : ℕ) (es : Entries ℕ) (e : ℕ × ℕ) → below_all word_order x es ≡ true → last_of es ≡ Some e → x < e.0
above_first x [] e h l = absurd (let f : None ≡ Some e = l in cc)
above_first x (y ∷ []) e h l =
    let is : y ≡ e = same y e l in
    let lt = from_less x y.0 (and_left (is_lt (nat_cmp x y.0)) _ h) in
    let k = ap (λ (p : ℕ × ℕ). p.0) is in
    omega arith
  where
    same : (a b : ℕ × ℕ) → Some a ≡ Some b → a ≡ b
    same a b h = cc
above_first x (y ∷ z ∷ es) e h l = above_first x (z ∷ es) e (and_right (is_lt (nat_cmp x y.0)) _ h) l

last_there : (es : Entries ℕ) (e : ℕ × ℕ) → is_sorted word_order es ≡ true → last_of es ≡ Some e → value_of word_order es e.0 ≡ Some e.1
last_there [] e s l = absurd (let f : None ≡ Some e = l in cc)
last_there (x ∷ []) e s l =
    let is : x ≡ e = same x e l in
    ap (λ (p : ℕ × ℕ). value_of word_order (p ∷ []) e.0) is ∙ ap (λ o. cond (is_eq o) (Some e.1) None) (equal e.0 e.0 refl)
  where
    same : (a b : ℕ × ℕ) → Some a ≡ Some b → a ≡ b
    same a b h = cc
last_there (x ∷ y ∷ es) e s l =
    let lt = above_first x.0 (y ∷ es) e (and_left (below_all word_order x.0 (y ∷ es)) _ s) l in
    ap (λ o. cond (is_eq o) (Some x.1) (value_of word_order (y ∷ es) e.0)) (greater e.0 x.0 lt)
    ∙ last_there (y ∷ es) e (and_right (below_all word_order x.0 (y ∷ es)) _ s) l

-- and it is a child
pub last-there : (es : Entries ℕ) (e : ℕ × ℕ) → list_all is_child_entry es ≡ true → is_sorted word_order es ≡ true
    → last word_order es 255 ≡ Some e → value_of word_order es e.0 ≡ Some e.1
last-there es e sound s l = last_there es e s (ap last_of (sym (all_bytes es sound)) ∙ l)

-- the child at a place is sound
pub nth-sound : (es : Entries ℕ) (i byte w : ℕ) → list_all is_child_entry es ≡ true → i < length es → slice_get es i ≡ Some (byte, w) → IsTrue (is_child w)
nth-sound es i byte w s h e =
    let x : is_child_entry (byte, w) ≡ true = ap is_child_entry (sym (get_or_from_slice_get es i (byte, w) (0, 0) e)) ∙ sound-at es i (0, 0) h s in
    and_right (nat_lt byte 256) (is_child w) x
