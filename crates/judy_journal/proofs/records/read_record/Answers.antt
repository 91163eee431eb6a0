use Rattle.std.proofs.Common.{◌≡◌, ◌<◌, ◌≤◌, ℕ, zero, suc, Bool, true, false, not, ◌==◌, List, [], ◌∷◌, ◌++◌, length, take}
use Rattle.std.specs.List.{list_all}
use Rattle.std.proofs.Common.{drop, get_or, sym, ap, ◌∙◌, refl, arith, take-append-drop, subst}
use Rattle.std.proofs.Math.Seq.{take-length}
use Rattle.std.proofs.lemmas.Bool.Decides.{nat_tests}
use Rattle.judy_journal.specs.Journals.{HasNoSpace}
use Rattle.judy_journal.proofs.records.read_record.Goals as goal

is_no : (b : Bool) → (b ≡ true → ⊥) → not b ≡ true
is_no true h = absurd (h refl)
is_no false h = refl

-- if each of the first n bytes passes, all of them do
list_all-take : (test : ℕ → Bool) (xs : List ℕ) (n : ℕ) → n ≤ length xs → ((k : ℕ) → k < n → test (get_or xs k 0) ≡ true) → list_all test (take n xs) ≡ true
list_all-take test xs zero h p = refl
list_all-take test [] (suc n) h p = absurd (omega arith)
list_all-take test (x ∷ xs) (suc n) h p = rw (p 0 (omega arith)) (list_all-take test xs n (omega arith) (λ k lt. p (suc k) (omega arith)))

-- bytes up to the first space
front_has_none : (bytes : List ℕ) (n : ℕ) → n ≤ length bytes → ((k : ℕ) → k < n → (get_or bytes k 0 == 32) ≡ true → ⊥) → HasNoSpace (take n bytes)
front_has_none bytes n h none = list_all-take (λ b. not (b == 32)) bytes n h (λ k lt. is_no (get_or bytes k 0 == 32) (none k lt))

pub returns-in_default : goal.returns-in_default
returns-in_default c = subst HasNoSpace (take-length c.args.line.now) (front_has_none c.args.line.now (length c.args.line.now)
    (omega arith) (λ k lt. c.in_default.ensures k (omega arith) lt))

-- the byte at a place, and what comes after it
drop-at : (bytes : List ℕ) (n : ℕ) → n < length bytes → (get_or bytes n 0 == 32) ≡ true → drop n bytes ≡ 32 ∷ drop 1 (drop n bytes)
drop-at [] n h is = absurd (omega arith)
drop-at (b ∷ bytes) zero h is = let e : b ≡ 32 = grind (arith, nat_tests) in ap (λ v. v ∷ bytes) e
drop-at (b ∷ bytes) (suc n) h is = drop-at bytes n (omega arith) is

pub returns : goal.returns
returns c =
    let at : ℕ = c.in-Some.at in
    let all : List ℕ = c.args.line.now in
    let first = c.in-Some.ensures.0 in (
      subst HasNoSpace (sym c.split_at.ensures.front) (front_has_none all at (omega (arith, first.high)) (λ k lt. first.before k (omega arith) lt)),
      sym (take-append-drop at all) ∙ ap (λ v. take at all ++ v) (drop-at all at first.high c.in-Some.ensures.1)
          ∙ ap (λ v. v ++ 32 ∷ drop 1 (drop at all)) (sym c.split_at.ensures.front) ∙ ap (λ v. c.split_at.result.0.now ++ 32 ∷ v)
          (ap (drop 1) (sym c.split_at.ensures.back) ∙ sym c.split_at-2.ensures.back),
    )
