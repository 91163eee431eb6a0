-- Slots that are changed one after another.
use Rattle.std.proofs.Common.{◌≡◌, ◌<◌, ℕ, zero, suc, Bool, true, false, List, [], ◌∷◌, ◌++◌, Option, None, Some, append-nil, append_assoc, ap, arith, drop, get_or, length, map, refl, slice_set, sym, ◌∙◌, take}
use Rattle.std.specs.Prelude.{if◌then◌else◌}
use Rattle.judy_model.specs.Speakers.{Speaker}
use Rattle.judy_many.specs.Kicks.{kick_act, kick_acts, speaks_as}
use Rattle.judy_many.specs.Lives.{View}
use Rattle.judy_many.specs.Nets.Act.{Closed}
use Rattle.judy_many.specs.declared.network.How.TheVariants as how

module _ {V W : Type 0} (f : V → W) where
  pub map_set : (vs : List V) (i : ℕ) (v : V) → map f (slice_set vs i v) ≡ slice_set (map f vs) i (f v)
  map_set [] i v = refl
  map_set (x ∷ vs) zero v = refl
  map_set (x ∷ vs) (suc i) v = ap (λ l. f x ∷ l) (map_set vs i v)

  pub map_at : (vs : List V) (i : ℕ) (d : V) → i < length vs → d ≡ get_or vs i d → f d ≡ get_or (map f vs) i (f d)
  map_at [] i d few e = absurd (omega (arith, few))
  map_at (x ∷ vs) zero d few e = ap f e
  map_at (x ∷ vs) (suc i) d few e = map_at vs i d (omega (arith, few)) e

module _ {V : Type 0} (f : V → V) where
  -- the first of them are changed, and then the next one
  pub change_step : (vs : List V) (i : ℕ) (d : V) → i < length vs → d ≡ get_or vs i d
      → slice_set (map f (take i vs) ++ drop i vs) i (f d) ≡ map f (take (suc i) vs) ++ drop (suc i) vs
  change_step [] i d few e = absurd (omega (arith, few))
  change_step (v ∷ vs) zero d few e = ap (λ x. f x ∷ vs) e
  change_step (v ∷ vs) (suc i) d few e = ap (λ l. f v ∷ l) (change_step vs i d (omega (arith, few)) e)

  -- the next one is as it was
  pub change_at : (vs : List V) (i : ℕ) (d : V) → i < length vs → d ≡ get_or (map f (take i vs) ++ drop i vs) i d → d ≡ get_or vs i d
  change_at [] i d few e = absurd (omega (arith, few))
  change_at (v ∷ vs) zero d few e = e
  change_at (v ∷ vs) (suc i) d few e = change_at vs i d (omega (arith, few)) e

-- those of one slot more are closed
pub kicks_more : (test : Option Speaker → Bool) (vs : List (Option View)) (i : ℕ) (d : Option View) → i < length vs → d ≡ get_or vs i d
    → kick_acts test (take (suc i) vs) ≡ kick_acts test (take i vs) ++ kick_act test d
kicks_more test [] i d few e = absurd (omega (arith, few))
kicks_more test (v ∷ vs) zero d few e = append-nil (kick_act test v) ∙ ap (kick_act test) (sym e)
kicks_more test (v ∷ vs) (suc i) d few e =
    ap (λ l. kick_act test v ++ l) (kicks_more test vs i d (omega (arith, few)) e)
    ∙ sym (append_assoc (kick_act test v) (kick_acts test (take i vs)) (kick_act test d))

-- of one client
pub kick_one : (test : Option Speaker → Bool) (v : View) → test v.who ≡ true → kick_act test (Some v) ≡ Closed v.number how.Kicked ∷ []
kick_one test v e = ap (λ b. if b then Closed v.number how.Kicked ∷ [] else []) e

-- who speaks as a tenant has logged in
pub some_speaker : (names : ℕ → List ℕ) (name : List ℕ) (o : Option Speaker) → speaks_as names name o ≡ true → (who : Speaker) × (o ≡ Some who)
some_speaker names name None e = absurd (never e)
  where
    never : false ≡ true → ⊥
    never e = cc
some_speaker names name (Some who) e = (who, refl)
