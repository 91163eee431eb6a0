-- Marks of places, which are made one after another.
--     marked-first, marked-more   the marks so far
--     marked-last                 all of them
use Rattle.std.proofs.Common.{◌≡◌, ◌≢◌, ◌⊎◌, ℕ, zero, suc, ◌+◌, ◌≤◌, ◌<◌, ◌&&◌, Bool, true, false, inl, inr, List, length}
use Rattle.std.proofs.Common.{get_or, replicate, ap, sym, ◌∙◌, refl, subst, arith, nat_lt}
use Rattle.std.proofs.Math.ListN.{set}
use Rattle.std.proofs.lemmas.Bool.{ltb-true, ltb-false}
use Rattle.std.proofs.lemmas.Bool.Decides.{eqb_tells}
use Rattle.std.proofs.lemmas.List.{get_or-set_same, get_or-set_other, get_or_past}

none-marked : (n t : ℕ) → get_or (replicate n false) t false ≡ false
none-marked zero t = refl
none-marked (suc n) zero = refl
none-marked (suc n) (suc t) = none-marked n t

-- the test of a bound
below : (i n : ℕ) → i < n → nat_lt i n ≡ true
below i n h = by (nat_lt i n) refl
  where
    by : (b : Bool) → nat_lt i n ≡ b → nat_lt i n ≡ true
    by true e = e
    by false e = let past = ltb-false i n e in absurd (omega (arith, past, h))

above : (i n : ℕ) → n ≤ i → nat_lt i n ≡ false
above i n h = by (nat_lt i n) refl
  where
    by : (b : Bool) → nat_lt i n ≡ b → nat_lt i n ≡ false
    by true e = let inside = ltb-true i n e in absurd (omega (arith, inside, h))
    by false e = e

-- at first none is marked
pub marked-first : (n : ℕ) (f : ℕ → Bool) (t : ℕ) → get_or (replicate n false) t false ≡ (nat_lt t 0 && f t)
marked-first n f t = none-marked n t ∙ sym (ap (λ b. b && f t) (above t 0 (omega arith)))

-- a bound that grows by a number that is not tested
grown : (t i : ℕ) → t ≢ i → nat_lt t i ≡ nat_lt t (i + 1)
grown t i h = by (nat_lt t i) refl
  where
    by : (b : Bool) → nat_lt t i ≡ b → nat_lt t i ≡ nat_lt t (i + 1)
    by true e = let inside = ltb-true t i e in e ∙ sym (below t (i + 1) (omega (arith, inside)))
    by false e = let past = ltb-false t i e in e ∙ sym (above t (i + 1) (more past))
      where
        more : i ≤ t → i + 1 ≤ t
        more k = omega (arith, k, h)

-- one more mark
pub marked-more : (xs : List Bool) (i : ℕ) (f : ℕ → Bool) → i < length xs → ((t : ℕ) → get_or xs t false ≡ (nat_lt t i && f t))
    → (t : ℕ) → get_or (set xs i (f i)) t false ≡ (nat_lt t (i + 1) && f t)
marked-more xs i f inside done t = by (eqb_tells t i)
  where
    here : get_or (set xs i (f i)) i false ≡ (nat_lt i (i + 1) && f i)
    here = get_or-set_same xs i (f i) false inside ∙ ap (λ b. b && f i) (sym (below i (i + 1) (omega arith)))

    by : {A B : Type 0} → (A × (t ≡ i)) ⊎ (B × (t ≢ i)) → get_or (set xs i (f i)) t false ≡ (nat_lt t (i + 1) && f t)
    by (inl h) = subst (λ u. get_or (set xs i (f i)) u false ≡ (nat_lt u (i + 1) && f u)) (sym h.1) here
    by (inr h) = get_or-set_other xs i t (f i) false h.1 ∙ done t ∙ ap (λ b. b && f t) (grown t i h.1)

-- all of them, if there is none past the last one
pub marked-last : (xs ys : List Bool) (n : ℕ) → length ys ≤ n → ((t : ℕ) → get_or xs t false ≡ (nat_lt t n && get_or ys t false))
    → (t : ℕ) → get_or xs t false ≡ get_or ys t false
marked-last xs ys n long done t = done t ∙ by (nat_lt t n) refl
  where
    by : (b : Bool) → nat_lt t n ≡ b → (b && get_or ys t false) ≡ get_or ys t false
    by true e = refl
    by false e = let past = ltb-false t n e in sym (get_or_past ys t false (omega (arith, long, past)))
