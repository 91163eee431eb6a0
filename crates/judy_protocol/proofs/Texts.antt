-- Texts that differ, and commands that no table has.
use Rattle.std.proofs.Common.{◌≡◌, ℕ, ◌<◌, Bool, true, false, cond, List, [], ◌∷◌, length, Option, None, sym, ◌∙◌, ap, refl, arith}
use Rattle.std.specs.Prelude.{nat_eq, nat_le}
use Rattle.std.specs.List.{list_all}
use Rattle.std.specs.FinMap.{find}
use Rattle.std.proofs.lemmas.Bool.{and_parts, false≢true}
use Rattle.std.proofs.lemmas.Bool.Decides.{nat_tests}
use Rattle.std.proofs.lemmas.Slice.Eq.{bytes_eq-Decides}
use Rattle.std.specs.Cmp.Lexicographic.{pointwise, texts_ties}
use Rattle.std.specs.Ordering.{eq_by_cmp}
use Rattle.judy_model.specs.Contents.{string_order}

-- two texts that `==` finds different
pub other_text : (x p q : List ℕ) → q ≡ p → false ≡ pointwise nat_eq x q → eq_by_cmp string_order x p ≡ false
other_text x p q e h = sym (texts_ties x p) ∙ ap (pointwise nat_eq x) (sym e) ∙ sym h

-- four tests that fail
pub none_of_4 : {A : Type 0} (b0 b1 b2 b3 : Bool) (x0 x1 x2 x3 : Option A) → b0 ≡ false → b1 ≡ false → b2 ≡ false → b3 ≡ false
    → cond b0 x0 (cond b1 x1 (cond b2 x2 (cond b3 x3 None))) ≡ None
none_of_4 b0 b1 b2 b3 x0 x1 x2 x3 h0 h1 h2 h3 = rw (h0, h1, h2, h3) refl

-- texts that a test finds different
told_apart : (test : List ℕ → Bool) (x p : List ℕ) → test p ≡ true → test x ≡ false → (b : Bool) → pointwise nat_eq x p ≡ b → b ≡ false
told_apart test x p hp hx false e = refl
told_apart test x p hp hx true e = absurd (false≢true (sym hx ∙ ap test ((bytes_eq-Decides x p).0 e) ∙ hp))

pub not_the_text : (test : List ℕ → Bool) (x p : List ℕ) → test p ≡ true → test x ≡ false → eq_by_cmp string_order x p ≡ false
not_the_text test x p hp hx = sym (texts_ties x p) ∙ told_apart test x p hp hx (pointwise nat_eq x p) refl

-- a table has no entry for a text that fails a test which all its words pass
pub none_passes : {A : Type 0} (test : List ℕ → Bool) (x : List ℕ) (table : List (List ℕ × A)) → list_all (λ e. test e.0) table ≡ true → test x ≡ false
    → find string_order x table ≡ None
none_passes test x [] all fails = refl
none_passes test x (e ∷ table) all fails =
    let (this, others) = and_parts _ _ all in
    rw (not_the_text test x e.0 this fails) (none_passes test x table others fails)

-- a table of longer words
pub too_short : {A : Type 0} (n : ℕ) (x : List ℕ) (table : List (List ℕ × A)) → list_all (λ e. nat_le n (length e.0)) table ≡ true
    → length x < n → find string_order x table ≡ None
too_short n x table all short = none_passes (λ w. nat_le n (length w)) x table all (grind (arith, nat_tests))
