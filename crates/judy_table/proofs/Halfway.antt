-- A list whose first elements were changed, one after another.
use Rattle.std.proofs.Common.{◌≡◌, ◌<◌, ◌||◌, ℕ, zero, suc, Bool, true, false, List, [], ◌∷◌, ◌++◌, length, ap, ◌∙◌, refl, take, drop, get_or, slice_set, arith}
use Rattle.std.specs.Prelude.{map}
use Rattle.std.specs.List.{list_any}

-- the first i elements are changed
abbrev pub halfway : {A : Type 0} → (A → A) → ℕ → List A → List A
halfway f i xs = map f (take i xs) ++ drop i xs

-- the next one is as it was
pub halfway-next : {A : Type 0} (f : A → A) (i : ℕ) (xs : List A) (d : A) → i < length xs → get_or (halfway f i xs) i d ≡ get_or xs i d
halfway-next f i [] d h = absurd (omega (arith, h))
halfway-next f zero (x ∷ xs) d h = refl
halfway-next f (suc i) (x ∷ xs) d h = halfway-next f i xs d (omega (arith, h))

-- after it is changed, one more is
pub halfway-more : {A : Type 0} (f : A → A) (i : ℕ) (xs : List A) (d : A) → i < length xs
    → slice_set (halfway f i xs) i (f (get_or xs i d)) ≡ halfway f (suc i) xs
halfway-more f i [] d h = absurd (omega (arith, h))
halfway-more f zero (x ∷ xs) d h = refl
halfway-more f (suc i) (x ∷ xs) d h = ap (λ ys. f x ∷ ys) (halfway-more f i xs d (omega (arith, h)))

-- whether one of the first elements passes a test, with one more
pub any-more : {A : Type 0} (p : A → Bool) (i : ℕ) (xs : List A) (d : A) → i < length xs
    → list_any p (take (suc i) xs) ≡ (list_any p (take i xs) || p (get_or xs i d))
any-more p i [] d h = absurd (omega (arith, h))
any-more p zero (x ∷ xs) d h = either (p x)
  where
    either : (b : Bool) → (b || false) ≡ b
    either true = refl
    either false = refl
any-more p (suc i) (x ∷ xs) d h = ap (λ b. p x || b) (any-more p i xs d (omega (arith, h))) ∙ joined (p x) (list_any p (take i xs)) (p (get_or xs i d))
  where
    joined : (a b c : Bool) → (a || (b || c)) ≡ ((a || b) || c)
    joined true b c = refl
    joined false b c = refl
