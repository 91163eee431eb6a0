-- Slots whose clients may speak.
use Rattle.std.proofs.Common.{Bool, ◌≡◌, ◌<◌, ◌≤◌, ℕ, zero, suc, List, [], ◌∷◌, ◌++◌, length, Option, None, arith, slice_set, slice_index_or, subst, sym}
use Rattle.judy_model.specs.Speakers.{Speaker}
use Rattle.judy_many.specs.Crowds.{AreFree}
use Rattle.judy_many.specs.Slots.{AreKnown, IsKnownSlot}

module _ {B : Type 0} (speaker : B → Option Speaker) (speakers : Speaker → Bool) where
  pub known-at : (slots : List (Option B)) (i : ℕ) (d : Option B) → i < length slots → AreKnown speaker speakers slots
      → IsKnownSlot speaker speakers (slice_index_or slots i d)
  known-at [] i d h k = absurd (omega arith)
  known-at (s ∷ slots) zero d h k = k.0
  known-at (s ∷ slots) (suc i) d h k = known-at slots i d (omega arith) k.1

  pub known-set : (slots : List (Option B)) (i : ℕ) (s : Option B) → IsKnownSlot speaker speakers s → AreKnown speaker speakers slots
      → AreKnown speaker speakers (slice_set slots i s)
  known-set [] i s h k = k
  known-set (t ∷ slots) zero s h k = (h, k.1)
  known-set (t ∷ slots) (suc i) s h k = (k.0, known-set slots i s h k.1)

  pub known-push : (slots : List (Option B)) → AreKnown speaker speakers slots → AreKnown speaker speakers (slots ++ None ∷ [])
  known-push [] k = (tt, tt)
  known-push (t ∷ slots) k = (k.0, known-push slots k.1)

  -- a slot is changed in its place
  pub known-change : (slots : List (Option B)) (i : ℕ) (d s : Option B) → i < length slots → d ≡ slice_index_or slots i d
      → (IsKnownSlot speaker speakers d → IsKnownSlot speaker speakers s) → AreKnown speaker speakers slots → AreKnown speaker speakers (slice_set slots i s)
  known-change slots i d s h e to k =
      known-set slots i s (to (subst (IsKnownSlot speaker speakers) (sym e) (known-at slots i d h k))) k

-- those who may speak stay
pub known-keep : {B : Type 0} (speaker : B → Option Speaker) (speakers speakers' : Speaker → Bool) (slots : List (Option B)) → speakers' ≡ speakers
    → AreKnown speaker speakers slots → AreKnown speaker speakers' slots
known-keep speaker speakers speakers' slots e k = subst (λ l. AreKnown speaker l slots) (sym e) k

-- slots without clients
pub known-free : {B : Type 0} (speaker : B → Option Speaker) (speakers : Speaker → Bool) (slots : List (Option B)) → AreFree slots → AreKnown speaker speakers slots
known-free speaker speakers [] h = tt
known-free speaker speakers (s ∷ slots) h = (subst (IsKnownSlot speaker speakers) (sym h.0) tt, known-free speaker speakers slots h.1)

-- ---- one slot after another

-- the first slots, so many of them
abbrev pub AreKnownTo : {B : Type 0} → (B → Option Speaker) → (Speaker → Bool) → ℕ → List (Option B) → Type 0
AreKnownTo speaker speakers zero slots = Unit {0}
AreKnownTo speaker speakers (suc n) [] = Unit {0}
AreKnownTo speaker speakers (suc n) (slot ∷ slots) = IsKnownSlot speaker speakers slot × AreKnownTo speaker speakers n slots

-- the next one too
pub known_next : {B : Type 0} (speaker : B → Option Speaker) (speakers : Speaker → Bool) (n m : ℕ) (slots : List (Option B)) (s : Option B) → m ≡ suc n → n < length slots
    → IsKnownSlot speaker speakers s → AreKnownTo speaker speakers n slots → AreKnownTo speaker speakers m (slice_set slots n s)
known_next {B} speaker speakers n m slots s is h e k = subst (λ i. AreKnownTo speaker speakers i (slice_set slots n s)) (sym is) (next n slots h k)
  where
    next : (n : ℕ) (slots : List (Option B)) → n < length slots → AreKnownTo speaker speakers n slots → AreKnownTo speaker speakers (suc n) (slice_set slots n s)
    next zero [] h k = absurd (omega arith)
    next (suc n) [] h k = absurd (omega arith)
    next zero (t ∷ slots) h k = (e, tt)
    next (suc n) (t ∷ slots) h k = (k.0, next n slots (omega arith) k.1)

pub known_all : {B : Type 0} (speaker : B → Option Speaker) (speakers : Speaker → Bool) (n : ℕ) (slots : List (Option B)) → length slots ≤ n
    → AreKnownTo speaker speakers n slots → AreKnown speaker speakers slots
known_all speaker speakers n [] h k = tt
known_all speaker speakers zero (t ∷ slots) h k = absurd (omega arith)
known_all speaker speakers (suc n) (t ∷ slots) h k = (k.0, known_all speaker speakers n slots (omega arith) k.1)
