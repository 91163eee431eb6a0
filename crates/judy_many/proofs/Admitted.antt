-- Slots whose speakers go on.
use Rattle.std.proofs.Common.{Bool, ◌≡◌, ◌⊎◌, inl, inr, ◌<◌, ◌≤◌, true, false, ℕ, zero, suc, List, [], ◌∷◌, length, Option, arith, refl, slice_set, subst, sym}
use Rattle.judy_many.specs.Changes.{HasChanged}
use Rattle.judy_many.specs.Nets.{Acts}
use Rattle.judy_many.specs.Rules.{Rules}
use Rattle.judy_many.specs.Slots.{AreAdmitted, IsAdmittedSlot}

-- this holds of the first n slots
abbrev pub AreAdmittedTo : {B P : Type 0} → (B → Option P) → (P → Bool) → ℕ → List (Option B) → Type 0
AreAdmittedTo speaker admits zero slots = Unit {0}
AreAdmittedTo speaker admits (suc n) [] = Unit {0}
AreAdmittedTo speaker admits (suc n) (slot ∷ slots) = IsAdmittedSlot speaker admits slot × AreAdmittedTo speaker admits n slots

-- the next one too
pub admitted_next : {B P : Type 0} (speaker : B → Option P) (admits : P → Bool) (n m : ℕ) (slots : List (Option B)) (s : Option B) → m ≡ suc n
    → n < length slots → IsAdmittedSlot speaker admits s → AreAdmittedTo speaker admits n slots → AreAdmittedTo speaker admits m (slice_set slots n s)
admitted_next {B} speaker admits n m slots s is h e k = subst (λ i. AreAdmittedTo speaker admits i (slice_set slots n s)) (sym is) (next n slots h k)
  where
    next : (n : ℕ) (slots : List (Option B)) → n < length slots → AreAdmittedTo speaker admits n slots → AreAdmittedTo speaker admits (suc n) (slice_set slots n s)
    next zero [] h k = absurd (omega arith)
    next (suc n) [] h k = absurd (omega arith)
    next zero (t ∷ slots) h k = (e, tt)
    next (suc n) (t ∷ slots) h k = (k.0, next n slots (omega arith) k.1)

pub admitted_all : {B P : Type 0} (speaker : B → Option P) (admits : P → Bool) (n : ℕ) (slots : List (Option B)) → length slots ≤ n
    → AreAdmittedTo speaker admits n slots → AreAdmitted speaker admits slots
admitted_all speaker admits n [] h k = tt
admitted_all speaker admits zero (t ∷ slots) h k = absurd (omega arith)
admitted_all speaker admits (suc n) (t ∷ slots) h k = (k.0, admitted_all speaker admits n slots (omega arith) k.1)

-- what holds of a table that was put in force, or the service is as it was
pub changed_or : {S : Type 0} (rules : Rules S) (keep changed : Bool) (left : List (List ℕ)) (log log' : Acts) (before after : S) (A : Type 0)
    → HasChanged rules keep changed left log log' before after → (changed ≡ true → A) → (after ≡ before) ⊎ A
changed_or rules keep true left log log' before after A h then' = inr (then' refl)
changed_or rules keep false left log log' before after A h then' = inl h.0
