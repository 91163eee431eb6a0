-- The moments of one connection.
use Rattle.std.proofs.Common.{◌≡◌, ◌≢◌, inl, inr, ℕ, true, false, [], ◌∷◌, ◌++◌, sym, ◌∙◌, ap, refl}
use Rattle.std.specs.Prelude.{◌==◌, if◌then◌else◌}
use Rattle.std.proofs.lemmas.Bool.{eqb-true}
use Rattle.std.proofs.lemmas.Bool.Decides.{eqb_tells}
use Rattle.judy_many.specs.Nets.{Act}
use Rattle.judy_many.specs.Nets.Act.{Came, Read, Dry, Ended, Broke, Wrote, Failed, Closed, Took}
use Rattle.judy_many.specs.Stories.{Mine, Moment, Story, belongs, is_of, own}
use Rattle.judy_many.specs.Stories.Moment.{Changed, Did, Ran}

pub own-append : (n : ℕ) (a b : Story) → own n (a ++ b) ≡ own n a ++ own n b
own-append n [] b = refl
own-append n (x ∷ a) b =
    elim (belongs n x) as (λ v. (if v then x ∷ own n (a ++ b) else own n (a ++ b)) ≡ (if v then x ∷ own n a else own n a) ++ own n b) [
      | true ↦ ap (λ l. x ∷ l) (own-append n a b)
      | false ↦ own-append n a b
    ]

pub own-mine : (n : ℕ) (a : Story) → Mine n a → own n a ≡ a
own-mine n [] h = refl
own-mine n (x ∷ a) h = rw h.0 (ap (λ l. x ∷ l) (own-mine n a h.1))

eq_other : (k n m : ℕ) → (k == n) ≡ true → m ≢ n → (k == m) ≡ false
eq_other k n m e d = elim (eqb_tells k m) [ inl p ↦ absurd (d (sym p.1 ∙ eqb-true k n e)) | inr p ↦ p.0 ]

never : false ≡ true → ⊥
never e = cc

is_other : (n m : ℕ) (x : Act) → is_of n x ≡ true → m ≢ n → is_of m x ≡ false
is_other n m (Came k i) e d = eq_other k n m e d
is_other n m (Read k bytes) e d = eq_other k n m e d
is_other n m (Dry k) e d = eq_other k n m e d
is_other n m (Ended k) e d = eq_other k n m e d
is_other n m (Broke k) e d = eq_other k n m e d
is_other n m (Wrote k bytes) e d = eq_other k n m e d
is_other n m (Failed k) e d = eq_other k n m e d
is_other n m (Closed k how) e d = eq_other k n m e d
is_other n m (Took k name limit takes) e d = eq_other k n m e d
is_other n m act e d = absurd (never e)

pub belongs_other : (n m : ℕ) (x : Moment) → belongs n x ≡ true → m ≢ n → belongs m x ≡ false
belongs_other n m (Did a) e d = is_other n m a e d
belongs_other n m (Ran k turns) e d = eq_other k n m e d
belongs_other n m (Changed text left) e d = absurd (never e)

pub own-other : (n m : ℕ) (a : Story) → Mine n a → m ≢ n → own m a ≡ []
own-other n m [] h d = refl
own-other n m (x ∷ a) h d = let e = belongs_other n m x h.0 d in rw e (own-other n m a h.1 d)

pub same_eq : (n : ℕ) → (n == n) ≡ true
same_eq n = elim (eqb_tells n n) [ inl p ↦ p.0 | inr p ↦ absurd (p.1 refl) ]
