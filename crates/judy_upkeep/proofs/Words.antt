-- Texts that differ, and words that no kind has.
use Rattle.std.proofs.Common.{◌≡◌, ℕ, Bool, false, cond, List, Option, None, sym, ◌∙◌, ap, refl}
use Rattle.std.specs.Prelude.{nat_eq}
use Rattle.std.specs.Cmp.Lexicographic.{pointwise, texts_ties}
use Rattle.std.specs.Ordering.{eq_by_cmp}
use Rattle.judy_model.specs.Contents.{string_order}

-- two texts that `==` finds different
pub other_text : (x p q : List ℕ) → q ≡ p → false ≡ pointwise nat_eq x q → eq_by_cmp string_order x p ≡ false
other_text x p q e h = sym (texts_ties x p) ∙ ap (pointwise nat_eq x) (sym e) ∙ sym h

-- four tests that fail
pub none_of_4 : {A : Type 0} (b0 b1 b2 b3 : Bool) (x0 x1 x2 x3 : Option A) → b0 ≡ false → b1 ≡ false → b2 ≡ false → b3 ≡ false
    → cond b0 x0 (cond b1 x1 (cond b2 x2 (cond b3 x3 None))) ≡ None
none_of_4 b0 b1 b2 b3 x0 x1 x2 x3 h0 h1 h2 h3 = rw (h0, h1, h2, h3) refl
