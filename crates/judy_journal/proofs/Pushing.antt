-- One more record in a commit that is open.
use Rattle.std.proofs.Common.{◌≡◌, ℕ, ◌≤◌, ◌+◌, true, List, [], ◌∷◌, ◌++◌, length, sym, ◌∙◌, ap, subst, refl, arith, append-nil}
use Rattle.std.specs.Prelude.{IsTrue, nat_le}
use Rattle.std.specs.List.{list_all}
use Rattle.std.proofs.lemmas.Bool.Decides.{nat_tests}
use Rattle.std.proofs.lemmas.List.{length-append}
use Rattle.judy_model.specs.Stream.{lines_of, rest_of}
use Rattle.judy_model.proofs.lemmas.LineLemmas.{lines_of-append, lines_of-push, rest_of-append, rest_of-push}
use Rattle.judy_model.proofs.lemmas.TestLemmas.{and_left, and_right}
use Rattle.judy_journal.specs.Journals.{joined, is_line, is_record, is_commit}
use Rattle.judy_journal.proofs.Lines.{both, lines-append, record-line, joined-append, text_is, length-joined}

-- whole lines are their text
pub whole : (t : List ℕ) → rest_of t ≡ [] → joined (lines_of t) ≡ t
whole t none = sym (append-nil (joined (lines_of t))) ∙ ap (λ v. joined (lines_of t) ++ v) (sym none) ∙ text_is t

pub within_limit : (n : ℕ) → n ≤ 16282 → IsTrue (nat_le n 16282)
within_limit n h = grind (arith, nat_tests, h)

pub limit_of : (n : ℕ) → IsTrue (nat_le n 16282) → n ≤ 16282
limit_of n h = grind (arith, nat_tests, h)

pub body_limit_of : (n : ℕ) → IsTrue (nat_le n 16242) → n ≤ 16242
body_limit_of n h = grind (arith, nat_tests, h)

pub record Pushed (t r t' : List ℕ) : Type 0 where
  pub lines : lines_of t' ≡ lines_of t ++ r ∷ []
  pub rest : rest_of t' ≡ []
  pub count : length (lines_of t') ≡ length (lines_of t) + 1
  pub commit : IsTrue (is_commit (lines_of t'))

pub room : (t : List ℕ) → rest_of t ≡ [] → IsTrue (is_commit (lines_of t)) → (length t ≤ 16282) × (length (lines_of t) ≤ 16282)
room t none h =
    let small = limit_of (length (joined (lines_of t))) (and_right (list_all is_record (lines_of t)) (nat_le (length (joined (lines_of t))) 16282) h) in
    let same : length (joined (lines_of t)) ≡ length t = ap length (whole t none) in
    (omega (arith, small, same), omega (arith, small, length-joined (lines_of t)))

pub pushed : (t r t' : List ℕ) → rest_of t ≡ [] → IsTrue (is_commit (lines_of t)) → IsTrue (is_record r) → t' ≡ t ++ (r ++ 10 ∷ [])
    → length t + length r + 1 ≤ 16282 → Pushed t r t'
pushed t r t' none h is e fits =
    let one : IsTrue (is_line r) = record-line r is in
    let ls : lines_of t' ≡ lines_of t ++ r ∷ [] = ap lines_of e ∙ lines_of-push t r one ∙ ap (λ v. lines_of t ++ (v ++ r) ∷ []) none in
    let records = lines-append (lines_of t) (r ∷ []) is_record (and_left (list_all is_record (lines_of t)) (nat_le (length (joined (lines_of t))) 16282) h)
    (both (is_record r) true is refl) in
    let text : joined (lines_of t ++ r ∷ []) ≡ t ++ (r ++ 10 ∷ []) = joined-append (lines_of t) (r ∷ []) ∙ ap (λ v. v ++ (r ++ 10 ∷ [])) (whole t none) in
    let small : length (joined (lines_of t ++ r ∷ [])) ≤ 16282 = omega (arith, ap length text, length-append t (r ++ 10 ∷ []), length-append r (10 ∷ []), fits) in
    record {
      lines = ls;
      rest = ap rest_of e ∙ rest_of-push t r one;
      count = ap length ls ∙ length-append (lines_of t) (r ∷ []);
      commit = subst (λ v. IsTrue (is_commit v)) (sym ls) (both (list_all is_record (lines_of t ++ r ∷ [])) (nat_le (length (joined (lines_of t ++ r ∷ []))) 16282)
          records (within_limit (length (joined (lines_of t ++ r ∷ []))) small));
    }

-- whole lines behind whole lines
pub record Followed (t n : List ℕ) : Type 0 where
  pub lines : lines_of (t ++ n) ≡ lines_of t ++ lines_of n
  pub rest : rest_of (t ++ n) ≡ []
  pub few : length (lines_of t) + length (lines_of n) ≤ length t + length n
  pub commit : IsTrue (is_commit (lines_of t ++ lines_of n))

few_lines : (t : List ℕ) → rest_of t ≡ [] → length (lines_of t) ≤ length t
few_lines t none = omega (arith, ap length (whole t none), length-joined (lines_of t))

pub followed : (t n : List ℕ) → rest_of t ≡ [] → rest_of n ≡ [] → IsTrue (list_all is_record (lines_of t)) → IsTrue (list_all is_record (lines_of n))
    → length t + length n ≤ 16282 → Followed t n
followed t n none none' h k fits =
    let lines : lines_of (t ++ n) ≡ lines_of t ++ lines_of n = lines_of-append t n ∙ ap (λ v. lines_of t ++ lines_of (v ++ n)) none in
    let records = lines-append (lines_of t) (lines_of n) is_record h k in
    let text : joined (lines_of t ++ lines_of n) ≡ t ++ n =
    joined-append (lines_of t) (lines_of n) ∙ ap (λ v. v ++ joined (lines_of n)) (whole t none) ∙ ap (λ v. t ++ v) (whole n none') in
    let small : length (joined (lines_of t ++ lines_of n)) ≤ 16282 = omega (arith, ap length text, length-append t n, fits) in
    record {
      lines = lines;
      rest = rest_of-append t n ∙ ap (λ v. rest_of (v ++ n)) none ∙ none';
      few = omega (arith, few_lines t none, few_lines n none');
      commit = both (list_all is_record (lines_of t ++ lines_of n)) (nat_le (length (joined (lines_of t ++ lines_of n))) 16282)
          records (within_limit (length (joined (lines_of t ++ lines_of n))) small);
    }
