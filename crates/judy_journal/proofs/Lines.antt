-- The lines of a journal's text.
use Rattle.std.proofs.Common.{◌≡◌, ℕ, zero, suc, ◌+◌, ◌/◌, ◌%◌, ◌<◌, ◌≤◌, ◌^◌, Bool, true, false, not, ◌&&◌, List, [], ◌∷◌, ◌++◌, length, sym, ◌∙◌, ap, subst, refl, arith, append_assoc, append-nil}
use Rattle.std.specs.Prelude.{IsTrue, ◌==◌, nat_le, codes, decimal, slice_index}
use Rattle.std.specs.List.{list_all}
use Rattle.std.proofs.lemmas.Fmt.{decimal_by_steps}
use Rattle.std.proofs.lemmas.Bool.{not-true}
use Rattle.std.proofs.lemmas.List.Folds.{list_all-append}
use Rattle.hex.specs.Hex.{encode_with, lower_digits}
use Rattle.std.specs.Int.{w64, to_be_bytes}
use Rattle.judy_model.specs.Stream.{lines_of, rest_of}
use Rattle.judy_model.proofs.lemmas.LineLemmas.{lines_of-line, lines_of-push, rest_of-push, lines_of-more_bytes, rest_of-more_bytes}
use Rattle.judy_model.proofs.lemmas.TestLemmas.{and_left, and_right}
use Rattle.judy_journal.specs.Journals.{joined, is_line, is_mark, is_record, is_commit, Commit, number_after, numbered, sum_of, mark, header}

-- ---- tests

pub both : (a b : Bool) → IsTrue a → IsTrue b → IsTrue (a && b)
both a b h k = rw h k

pub lines-append : (xs ys : List (List ℕ)) (p : List ℕ → Bool) → IsTrue (list_all p xs) → IsTrue (list_all p ys) → IsTrue (list_all p (xs ++ ys))
lines-append xs ys p h k = subst IsTrue (sym (list_all-append p xs ys)) (both (list_all p xs) (list_all p ys) h k)

pub line-append : (s t : List ℕ) → IsTrue (is_line s) → IsTrue (is_line t) → IsTrue (is_line (s ++ t))
line-append s t h k = subst IsTrue (sym (list_all-append (λ b. not (b == 10)) s t)) (both (is_line s) (is_line t) h k)

pub record-line : (line : List ℕ) → IsTrue (is_record line) → IsTrue (is_line line)
record-line line h = and_left (is_line line) (not (is_mark line)) h

pub records-lines : (lines : List (List ℕ)) → IsTrue (list_all is_record lines) → IsTrue (list_all is_line lines)
records-lines [] h = h
records-lines (l ∷ ls) h = both (is_line l) (list_all is_line ls) (record-line l (and_left (is_record l) (list_all is_record ls) h))
    (records-lines ls (and_right (is_record l) (list_all is_record ls) h))

-- ---- text and lines

pub joined-append : (xs ys : List (List ℕ)) → joined (xs ++ ys) ≡ joined xs ++ joined ys
joined-append [] ys = refl
joined-append (x ∷ xs) ys = ap (λ v. x ++ 10 ∷ v) (joined-append xs ys) ∙ sym (append_assoc x (10 ∷ joined xs) (joined ys))

-- the lines of lines as text, and of what comes after them
pub lines_of-joined : (lines : List (List ℕ)) (rest : List ℕ) → IsTrue (list_all is_line lines) → lines_of (joined lines ++ rest) ≡ lines ++ lines_of rest
lines_of-joined [] rest h = refl
lines_of-joined (l ∷ ls) rest h =
    ap lines_of (append_assoc l (10 ∷ joined ls) rest) ∙ lines_of-line l (joined ls ++ rest) (and_left (is_line l) (list_all is_line ls) h)
    ∙ ap (λ v. l ∷ v) (lines_of-joined ls rest (and_right (is_line l) (list_all is_line ls) h))

-- the text is its lines and its rest
one_more : (s : List ℕ) (b : ℕ) → joined (lines_of s) ++ rest_of s ≡ s → joined (lines_of (s ++ b ∷ [])) ++ rest_of (s ++ b ∷ []) ≡ s ++ b ∷ []
one_more s b h = by (b == 10) refl
  where
    by : (v : Bool) → (b == 10) ≡ v → joined (lines_of (s ++ b ∷ [])) ++ rest_of (s ++ b ∷ []) ≡ s ++ b ∷ []
    by true is =
        let e : b ≡ 10 = grind (arith, Rattle.std.proofs.lemmas.Bool.Decides.nat_tests, is) in
        let one : lines_of (s ++ 10 ∷ []) ≡ lines_of s ++ (rest_of s ++ []) ∷ [] = lines_of-push s [] refl in
        let none : rest_of (s ++ 10 ∷ []) ≡ [] = rest_of-push s [] refl in
        let all : joined (lines_of (s ++ 10 ∷ [])) ++ rest_of (s ++ 10 ∷ []) ≡ s ++ 10 ∷ [] =
        ap (λ v. joined v ++ rest_of (s ++ 10 ∷ [])) one ∙ ap (λ v. joined (lines_of s ++ (rest_of s ++ []) ∷ []) ++ v) none
        ∙ append-nil (joined (lines_of s ++ (rest_of s ++ []) ∷ []))
        ∙ joined-append (lines_of s) ((rest_of s ++ []) ∷ [])
        ∙ ap (λ v. joined (lines_of s) ++ (v ++ 10 ∷ [])) (append-nil (rest_of s))
        ∙ sym (append_assoc (joined (lines_of s)) (rest_of s) (10 ∷ []))
        ∙ ap (λ v. v ++ 10 ∷ []) h in
        subst (λ c. joined (lines_of (s ++ c ∷ [])) ++ rest_of (s ++ c ∷ []) ≡ s ++ c ∷ []) (sym e) all
    by false is =
        let line : IsTrue (is_line (b ∷ [])) = rw is refl in
        ap (λ v. joined v ++ rest_of (s ++ b ∷ [])) (lines_of-more_bytes s (b ∷ []) line)
        ∙ ap (λ v. joined (lines_of s) ++ v) (rest_of-more_bytes s (b ∷ []) line)
        ∙ sym (append_assoc (joined (lines_of s)) (rest_of s) (b ∷ [])) ∙ ap (λ v. v ++ b ∷ []) h

text_onto : (t s : List ℕ) → joined (lines_of s) ++ rest_of s ≡ s → joined (lines_of (s ++ t)) ++ rest_of (s ++ t) ≡ s ++ t
text_onto [] s h = subst (λ v. joined (lines_of v) ++ rest_of v ≡ v) (sym (append-nil s)) h
text_onto (b ∷ t) s h =
    subst (λ v. joined (lines_of v) ++ rest_of v ≡ v) (append_assoc s (b ∷ []) t) (text_onto t (s ++ b ∷ []) (one_more s b h))

pub text_is : (s : List ℕ) → joined (lines_of s) ++ rest_of s ≡ s
text_is s = text_onto s [] refl

-- ---- the lines that are no records

-- each line has its line feed
pub length-joined : (lines : List (List ℕ)) → length lines ≤ length (joined lines)
length-joined [] = omega arith
length-joined (l ∷ ls) = omega (arith, length-joined ls, Rattle.std.proofs.lemmas.List.length-append l (10 ∷ joined ls))

at_no_feed : (xs : List ℕ) (k : ℕ) → IsTrue (is_line xs) → (slice_index xs k == 10) ≡ false
at_no_feed [] k h = refl
at_no_feed (x ∷ xs) zero h = not-true (x == 10) (and_left (not (x == 10)) (is_line xs) h)
at_no_feed (x ∷ xs) (suc k) h = at_no_feed xs k (and_right (not (x == 10)) (is_line xs) h)

encoded : (bytes : List ℕ) → IsTrue (is_line (encode_with lower_digits bytes))
unfolding encode_with
encoded [] = refl
encoded (b ∷ bytes) = rw (at_no_feed lower_digits (b / 16) refl, at_no_feed lower_digits (b % 16) refl) (encoded bytes)

pub sum-line : (sum text : List ℕ) → IsTrue (is_line (sum_of sum text))
unfolding sum_of
sum-line sum text = encoded (to_be_bytes w64 (number_after (number_after 0 sum) text))

no_feed : (d : ℕ) → 10 < d → IsTrue (is_line (d ∷ []))
no_feed d h = let no : (d == 10) ≡ false = grind (arith, Rattle.std.proofs.lemmas.Bool.Decides.nat_tests, h) in rw no refl

-- a number has only digits
pub decimal-line : (n : ℕ) → n < 2 ^ 64 → IsTrue (is_line (decimal n))
decimal-line n h = decimal_by_steps (λ m ds. IsTrue (is_line ds)) (λ m l. no_feed (48 + m) (omega arith))
    (λ m ds l k. line-append ds ((48 + m % 10) ∷ []) k (no_feed (48 + m % 10) (omega arith))) n h

pub numbered-line : (front : List ℕ) (n : ℕ) (sum : List ℕ) → IsTrue (is_line front) → n < 2 ^ 64 → IsTrue (is_line sum)
    → IsTrue (is_line (numbered front n sum))
unfolding numbered
numbered-line front n sum f h s = line-append front (decimal n ++ 32 ∷ sum) f (line-append (decimal n) (32 ∷ sum) (decimal-line n h) s)

-- ---- the two kinds of them

-- a commit has fewer records than bytes
pub few : (commit : Commit) → IsTrue (is_commit commit) → length commit < 2 ^ 64
few commit h =
    let le = and_right (list_all is_record commit) (nat_le (length (joined commit)) 16282) h in
    let small : length (joined commit) ≤ 16282 = grind (arith, Rattle.std.proofs.lemmas.Bool.Decides.nat_tests, le) in
    omega (arith, length-joined commit, small)

pub mark-line : (sum : List ℕ) (records : Commit) → length records < 2 ^ 64 → IsTrue (is_line (mark sum records))
mark-line sum records h = numbered-line (codes "# ") (length records) (sum_of sum (joined records)) refl h (sum-line sum (joined records))

pub mark-marks : (sum : List ℕ) (records : Commit) → is_mark (mark sum records) ≡ true
unfolding numbered
mark-marks sum records = refl

pub header-line : (segment : ℕ) (sum : List ℕ) → segment < 2 ^ 64 → IsTrue (is_line sum) → IsTrue (is_line (header segment sum))
header-line segment sum h s = numbered-line (codes "judyd journal 1 ") segment sum refl h s

-- a list with an item is not empty
pub some_are_none : {A : Type 0} (x : A) (xs : List A) → x ∷ xs ≡ [] → ⊥
some_are_none x xs e = cc
