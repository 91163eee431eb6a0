-- Slots and their clients.
use Rattle.std.proofs.Common.{◌≡◌, ◌≢◌, ◌⊎◌, inl, inr, ◌<◌, ◌≤◌, ◌+◌, ℕ, zero, suc, List, [], ◌∷◌, ◌++◌, length, Option, None, Some, arith, sym, ◌∙◌, ap, refl, subst, slice_set, slice_index_or}
use Rattle.std.proofs.lemmas.Bool.Decides.{eqb_tells}
use Rattle.judy_many.specs.Crowds.{AreFree, At, taken, taken_by}

module _ {B : Type 0} where
  pub At-set : (slots : List (Option B)) (i : ℕ) (s : Option B) (j : ℕ) (b : B) → At (slice_set slots i s) j b
      → ((j ≡ i) × (s ≡ Some b)) ⊎ ((j ≢ i) × At slots j b)
  At-set [] i s j b h = absurd h
  At-set (t ∷ slots) zero s zero b h = inl (refl, h)
  At-set (t ∷ slots) zero s (suc j) b h = inr ((λ e. absurd (omega arith)), h)
  At-set (t ∷ slots) (suc i) s zero b h = inr ((λ e. absurd (omega arith)), h)
  At-set (t ∷ slots) (suc i) s (suc j) b h = elim (At-set slots i s j b h) [
    | inl p ↦ inl (ap suc p.0, p.1)
    | inr p ↦ inr ((λ e. p.0 (omega arith)), p.1)
  ]

  pub At-index : (slots : List (Option B)) (i : ℕ) (d : Option B) (b : B) → i < length slots → d ≡ slice_index_or slots i d → d ≡ Some b → At slots i b
  At-index [] i d b h e f = absurd (omega arith)
  At-index (s ∷ slots) zero d b h e f = sym e ∙ f
  At-index (s ∷ slots) (suc i) d b h e f = At-index slots i d b (omega arith) e f

  pub At-keep : (slots : List (Option B)) (i : ℕ) (s : Option B) (j : ℕ) (b : B) → j ≢ i → At slots j b → At (slice_set slots i s) j b
  At-keep [] i s j b d h = h
  At-keep (t ∷ slots) zero s zero b d h = absurd (d refl)
  At-keep (t ∷ slots) zero s (suc j) b d h = h
  At-keep (t ∷ slots) (suc i) s zero b d h = h
  At-keep (t ∷ slots) (suc i) s (suc j) b d h = At-keep slots i s j b (λ e. d (ap suc e)) h

  pub At-here : (slots : List (Option B)) (i : ℕ) (s : B) → i < length slots → At (slice_set slots i (Some s)) i s
  At-here [] i s h = absurd (omega arith)
  At-here (t ∷ slots) zero s h = refl
  At-here (t ∷ slots) (suc i) s h = At-here slots i s (omega arith)

  pub At-only : (slots : List (Option B)) (i : ℕ) (b c : B) → At slots i b → At slots i c → b ≡ c
  At-only [] i b c h k = absurd h
  At-only (t ∷ slots) zero b c h k = same (sym h ∙ k)
    where
      same : Some b ≡ Some c → b ≡ c
      same e = cc
  At-only (t ∷ slots) (suc i) b c h k = At-only slots i b c h k

  pub At-some : (slots : List (Option B)) (i : ℕ) (d : Option B) (b : B) → d ≡ slice_index_or slots i d → At slots i b → d ≡ Some b
  At-some [] i d b e h = absurd h
  At-some (t ∷ slots) zero d b e h = e ∙ h
  At-some (t ∷ slots) (suc i) d b e h = At-some slots i d b e h

-- a client's slot is one of them
module _ {B : Type 0} where
  pub At-within : (slots : List (Option B)) (i : ℕ) (b : B) → At slots i b → i < length slots
  At-within [] i b h = absurd h
  At-within (s ∷ slots) zero b h = omega arith
  At-within (s ∷ slots) (suc i) b h = let e = At-within slots i b h in omega (arith, e)

-- a slot is changed twice
module _ {B : Type 0} where
  pub set_twice : (slots : List (Option B)) (i : ℕ) (s t : Option B) → slice_set (slice_set slots i s) i t ≡ slice_set slots i t
  set_twice [] i s t = refl
  set_twice (r ∷ slots) zero s t = refl
  set_twice (r ∷ slots) (suc i) s t = ap (λ l. r ∷ l) (set_twice slots i s t)

-- how many slots are taken
module _ {B : Type 0} where
  pub taken_most : (slots : List (Option B)) → taken slots ≤ length slots
  taken_most [] = omega arith
  taken_most (None ∷ slots) = let e = taken_most slots in omega (arith, e)
  taken_most (Some b ∷ slots) = let e = taken_most slots in omega (arith, e)

  -- a slot that has a client is changed
  pub taken_at : (slots : List (Option B)) (i : ℕ) (b : B) (s : Option B) → At slots i b → taken (slice_set slots i s) + 1 ≡ taken slots + taken_by s
  taken_at [] i b s h = absurd h
  taken_at (t ∷ slots) zero b s h = let e : taken_by t ≡ 1 = ap taken_by h in omega (arith, e)
  taken_at (t ∷ slots) (suc i) b s h = let e = taken_at slots i b s h in omega (arith, e)

  -- one that has none is changed
  pub taken_free : (slots : List (Option B)) (i : ℕ) (s : Option B) → i < length slots → ((b : B) → At slots i b → ⊥)
      → (taken (slice_set slots i s) ≡ taken slots + taken_by s) × (taken slots + 1 ≤ length slots)
  taken_free [] i s within free = absurd (omega arith)
  taken_free (None ∷ slots) zero s within free = let e = taken_most slots in (omega arith, omega (arith, e))
  taken_free (Some b ∷ slots) zero s within free = absurd (free b refl)
  taken_free (None ∷ slots) (suc i) s within free = let e = taken_free slots i s (omega arith) free in (omega (arith, e.0), omega (arith, e.1))
  taken_free (Some b ∷ slots) (suc i) s within free = let e = taken_free slots i s (omega arith) free in (omega (arith, e.0), omega (arith, e.1))

  pub taken_none : (slots : List (Option B)) → AreFree slots → taken slots ≡ 0
  taken_none [] h = refl
  taken_none (s ∷ slots) h = let e : taken_by s ≡ 0 = ap taken_by h.0 in let f = taken_none slots h.1 in omega (arith, e, f)

  pub long_set : (slots : List (Option B)) (i : ℕ) (s : Option B) → length (slice_set slots i s) ≡ length slots
  long_set [] i s = refl
  long_set (t ∷ slots) zero s = refl
  long_set (t ∷ slots) (suc i) s = ap suc (long_set slots i s)

-- ---- free slots

pub free_at : {B : Type 0} (slots : List (Option B)) (i : ℕ) (b : B) → AreFree slots → At slots i b → ⊥
free_at [] i b h there = there
free_at (s ∷ slots) zero b h there = nothing (sym h.0 ∙ there)
  where
    nothing : None ≡ Some b → ⊥
    nothing e = cc
free_at (s ∷ slots) (suc i) b h there = free_at slots i b h.1 there

pub all_free : {B : Type 0} (slots : List (Option B)) → ((j : ℕ) → j < length slots → slice_index_or slots j None ≡ None) → AreFree slots
all_free [] h = tt
all_free (s ∷ slots) h = (h 0 (omega arith), all_free slots (λ j few. h (suc j) (omega arith)))

-- the slots below this one and this one have no client
pub free_more : {B : Type 0} (slots : List (Option B)) (i : ℕ) → ((j : ℕ) → j < i → slice_index_or slots j None ≡ None)
    → slice_index_or slots i None ≡ None → (j : ℕ) → j < i + 1 → slice_index_or slots j None ≡ None
free_more slots i h e j few = elim (eqb_tells j i) [
  | inl p ↦ subst (λ k. slice_index_or slots k None ≡ None) (sym p.1) e
  | inr p ↦ let d = p.1 in h j (omega (arith, few, d))
]

-- a free slot has no client
pub free_slot : {B : Type 0} (slots : List (Option B)) (i : ℕ) (b : B) → slice_index_or slots i None ≡ None → At slots i b → ⊥
free_slot [] i b e h = h
free_slot (s ∷ slots) zero b e h = nothing (sym e ∙ h)
  where
    nothing : None ≡ Some b → ⊥
    nothing k = cc
free_slot (s ∷ slots) (suc i) b e h = free_slot slots i b e h

pub free_push : {B : Type 0} (slots : List (Option B)) → AreFree slots → AreFree (slots ++ None ∷ [])
free_push [] h = (refl, tt)
free_push (s ∷ slots) h = (h.0, free_push slots h.1)

pub index_or_same : {A : Type 0} (xs : List A) (i : ℕ) (d e : A) → i < length xs → slice_index_or xs i d ≡ slice_index_or xs i e
index_or_same [] i d e h = absurd (omega arith)
index_or_same (x ∷ xs) zero d e h = refl
index_or_same (x ∷ xs) (suc i) d e h = index_or_same xs i d e (omega arith)
