use Rattle.std.proofs.Common.{◌≡◌, ◌<◌, ◌≤◌, ℕ, zero, suc, Bool, true, false, not, ◌==◌, List, [], ◌∷◌, ◌++◌, length, take}
use Rattle.std.proofs.Common.{drop, get_or, sym, ap, ◌∙◌, refl, arith, take-append-drop, subst}
use Rattle.std.proofs.Math.Seq.{take-length}
use Rattle.std.proofs.lemmas.Bool.Decides.{nat_tests}
use Rattle.judy_protocol.specs.Talks.{HasNoLf}
use Rattle.judy_protocol.proofs.FieldCuts.{list_all-take}
use Rattle.judy_protocol.proofs.cutting.cut_line.Goals as goal

is_no : (b : Bool) → (b ≡ true → ⊥) → not b ≡ true
is_no true h = absurd (h refl)
is_no false h = refl

-- bytes up to the first line feed
front_has_none : (bytes : List ℕ) (n : ℕ) → n ≤ length bytes → ((k : ℕ) → k < n → (get_or bytes k 0 == 10) ≡ true → ⊥) → HasNoLf (take n bytes)
front_has_none bytes n h none = list_all-take (λ b. not (b == 10)) bytes n h (λ k lt. is_no (get_or bytes k 0 == 10) (none k lt))

pub returns-in_default : goal.returns-in_default
returns-in_default c = subst HasNoLf (take-length c.args.bytes.now) (front_has_none c.args.bytes.now (length c.args.bytes.now)
    (omega arith) (λ k lt. c.in_default.ensures k (omega arith) lt))

-- the byte at a place, and what comes after it
drop-at : (bytes : List ℕ) (n : ℕ) → n < length bytes → (get_or bytes n 0 == 10) ≡ true → drop n bytes ≡ 10 ∷ drop 1 (drop n bytes)
drop-at [] n h is = absurd (omega arith)
drop-at (b ∷ bytes) zero h is = let e : b ≡ 10 = grind (arith, nat_tests) in ap (λ v. v ∷ bytes) e
drop-at (b ∷ bytes) (suc n) h is = drop-at bytes n (omega arith) is

pub returns : goal.returns
returns c =
    let at : ℕ = c.in-Some.at in
    let all : List ℕ = c.args.bytes.now in
    let first = c.in-Some.ensures.0 in (
      subst HasNoLf (sym c.split_at.ensures.front) (front_has_none all at (omega (arith, first.high)) (λ k lt. first.before k (omega arith) lt)),
      sym (take-append-drop at all) ∙ ap (λ v. take at all ++ v) (drop-at all at first.high c.in-Some.ensures.1)
          ∙ ap (λ v. v ++ 10 ∷ drop 1 (drop at all)) (sym c.split_at.ensures.front) ∙ ap (λ v. c.split_at.result.0.now ++ 10 ∷ v)
          (ap (drop 1) (sym c.split_at.ensures.back) ∙ sym c.split_at-2.ensures.back),
    )
