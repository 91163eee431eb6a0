-- The lines of a stream that is the concatenation of two.
use Rattle.std.proofs.Common.{◌≡◌, ℕ, suc, ◌-◌, Bool, true, false, not, cond, List, [], ◌∷◌, ◌++◌, length, take, refl, sym}
use Rattle.std.proofs.Common.{◌∙◌, ap, subst, arith, append_assoc, append-nil}
use Rattle.std.specs.Prelude.{IsTrue, ◌==◌}
use Rattle.std.specs.List.{list_all, slice_split, onto_first}
use Rattle.std.proofs.lemmas.Bool.{not-true}
use Rattle.judy_model.specs.Stream.{lines_of, last_part, rest_of}
use Rattle.judy_model.proofs.lemmas.TestLemmas.{and_left, and_right}

-- the bytes have no line feed
abbrev pub IsOneLine : List ℕ → Type 0
IsOneLine bytes = IsTrue (list_all (λ b. not (b == 10)) bytes)

-- the parts between line feeds, and all of them but the last
parts : List ℕ → List (List ℕ)
parts stream = slice_split (λ b. b == 10) stream

-- all parts but the last
all_but_last : List (List ℕ) → List (List ℕ)
all_but_last ps = take (length ps - 1) ps

-- a part in front of other parts
one_more : (x p : List ℕ) (ps : List (List ℕ)) → all_but_last (x ∷ p ∷ ps) ≡ x ∷ all_but_last (p ∷ ps)
unfolding all_but_last
one_more x p ps =
    let e : length (x ∷ p ∷ ps) - 1 ≡ suc (length (p ∷ ps) - 1) = omega arith in
    ap (λ n. take n (x ∷ p ∷ ps)) e

-- one part alone
one_part : (p : List ℕ) → all_but_last (p ∷ []) ≡ []
unfolding all_but_last
one_part p = refl

-- the parts of a concatenation
more_parts : (xs : List (List ℕ)) (p : List ℕ) (ps : List (List ℕ)) → all_but_last (xs ++ p ∷ ps) ≡ xs ++ all_but_last (p ∷ ps)
more_parts [] p ps = refl
more_parts (x ∷ []) p ps = one_more x p ps
more_parts (x ∷ y ∷ xs) p ps = one_more x y (xs ++ p ∷ ps) ∙ ap (λ z. x ∷ z) (more_parts (y ∷ xs) p ps)

-- the last part of a concatenation
last_of_more : (xs : List (List ℕ)) (p : List ℕ) (ps : List (List ℕ)) → last_part (xs ++ p ∷ ps) ≡ last_part (p ∷ ps)
last_of_more [] p ps = refl
last_of_more (x ∷ []) p ps = refl
last_of_more (x ∷ y ∷ xs) p ps = last_of_more (y ∷ xs) p ps

-- there is a part
some_parts : (s : List ℕ) → (p : List ℕ) × (ps : List (List ℕ)) × (parts s ≡ p ∷ ps)
unfolding parts
some_parts [] = ([], [], refl)
some_parts (b ∷ s) = let (p, ps, is) = some_parts s in by (b == 10) p ps is
  where
    by : (v : Bool) (p : List ℕ) (ps : List (List ℕ)) → slice_split (λ b. b == 10) s ≡ p ∷ ps
        → (q : List ℕ) × (qs : List (List ℕ)) × (cond v ([] ∷ slice_split (λ b. b == 10) s) (onto_first b (slice_split (λ b. b == 10) s)) ≡ q ∷ qs)
    by true p ps is = ([], slice_split (λ b. b == 10) s, refl)
    by false p ps is = (b ∷ p, ps, ap (onto_first b) is)

-- a line feed begins a part
after_feed : (b : ℕ) (s : List ℕ) → (b == 10) ≡ true → parts (b ∷ s) ≡ [] ∷ parts s
unfolding parts
after_feed b s is = rw is refl

-- another byte continues the first part
after_byte : (b : ℕ) (s : List ℕ) → (b == 10) ≡ false → parts (b ∷ s) ≡ onto_first b (parts s)
unfolding parts
after_byte b s is = rw is refl

-- what the parts of a stream are, by its lines and its rest
lines_are : (s : List ℕ) → lines_of s ≡ all_but_last (parts s)
unfolding all_but_last parts
lines_are s = refl

-- the rest is the last part
rest_is : (s : List ℕ) → rest_of s ≡ last_part (parts s)
unfolding parts
rest_is s = refl

-- the parts of a ++ b
onto_more : (b : ℕ) (p : List ℕ) (ps : List (List ℕ)) (q r : List ℕ) (t : List ℕ) → (b == 10) ≡ false
    → q ≡ last_part (p ∷ ps) → r ≡ last_part (onto_first b (p ∷ ps))
    → onto_first b (all_but_last (p ∷ ps) ++ parts (q ++ t)) ≡ all_but_last (onto_first b (p ∷ ps)) ++ parts (r ++ t)
onto_more b p [] q r t is eq er =
    let had : all_but_last (p ∷ []) ≡ [] = one_part p in
    let has : all_but_last ((b ∷ p) ∷ []) ≡ [] = one_part (b ∷ p) in
    rw (had, has, eq, er) (sym (after_byte b (p ++ t) is))
onto_more b p (x ∷ xs) q r t is eq er =
    let had : all_but_last (p ∷ x ∷ xs) ≡ p ∷ all_but_last (x ∷ xs) = one_more p x xs in
    let has : all_but_last ((b ∷ p) ∷ x ∷ xs) ≡ (b ∷ p) ∷ all_but_last (x ∷ xs) = one_more (b ∷ p) x xs in
    rw (had, has, eq, er) refl

-- the parts of a ++ b, by the lines and the rest of a
parts-append : (s t : List ℕ) → parts (s ++ t) ≡ lines_of s ++ parts (rest_of s ++ t)
parts-append [] t = refl
parts-append (b ∷ s) t = by (b == 10) refl (some_parts s) (parts-append s t)
  where
    by : (v : Bool) → (b == 10) ≡ v → (p : List ℕ) × (ps : List (List ℕ)) × (parts s ≡ p ∷ ps)
        → parts (s ++ t) ≡ lines_of s ++ parts (rest_of s ++ t) → parts (b ∷ s ++ t) ≡ lines_of (b ∷ s) ++ parts (rest_of (b ∷ s) ++ t)
    by true is (p, ps, are) rest =
        let cut : parts (b ∷ s) ≡ [] ∷ p ∷ ps = after_feed b s is ∙ ap (λ z. [] ∷ z) are in
        let lines : lines_of (b ∷ s) ≡ [] ∷ lines_of s = lines_are (b ∷ s) ∙ ap all_but_last cut ∙ one_more [] p ps
        ∙ ap (λ z. [] ∷ all_but_last z) (sym are) ∙ ap (λ z. [] ∷ z) (sym (lines_are s)) in
        let left : rest_of (b ∷ s) ≡ rest_of s = rest_is (b ∷ s) ∙ ap last_part cut ∙ ap last_part (sym are) ∙ sym (rest_is s) in
        after_feed b (s ++ t) is ∙ ap (λ z. [] ∷ z) rest ∙ rw (lines, left) refl
    by false is (p, ps, are) rest =
        let cut : parts (b ∷ s) ≡ onto_first b (p ∷ ps) = after_byte b s is ∙ ap (onto_first b) are in
        let lines : lines_of (b ∷ s) ≡ all_but_last (onto_first b (p ∷ ps)) = lines_are (b ∷ s) ∙ ap all_but_last cut in
        let had : lines_of s ≡ all_but_last (p ∷ ps) = lines_are s ∙ ap all_but_last are in
        after_byte b (s ++ t) is ∙ ap (onto_first b) rest ∙ ap (λ z. onto_first b (z ++ parts (rest_of s ++ t))) had
        ∙ onto_more b p ps (rest_of s) (rest_of (b ∷ s)) t is (rest_is s ∙ ap last_part are) (rest_is (b ∷ s) ∙ ap last_part cut)
        ∙ ap (λ z. z ++ parts (rest_of (b ∷ s) ++ t)) (sym lines)

-- the lines of a ++ b: the rest of a continues in b
pub lines_of-append : (s t : List ℕ) → lines_of (s ++ t) ≡ lines_of s ++ lines_of (rest_of s ++ t)
lines_of-append s t =
    let (p, ps, are) = some_parts (rest_of s ++ t) in
    lines_are (s ++ t) ∙ ap all_but_last (parts-append s t ∙ ap (λ z. lines_of s ++ z) are) ∙ more_parts (lines_of s) p ps
    ∙ ap (λ z. lines_of s ++ all_but_last z) (sym are) ∙ ap (λ z. lines_of s ++ z) (sym (lines_are (rest_of s ++ t)))

-- the rest of a ++ b
pub rest_of-append : (s t : List ℕ) → rest_of (s ++ t) ≡ rest_of (rest_of s ++ t)
rest_of-append s t =
    let (p, ps, are) = some_parts (rest_of s ++ t) in
    rest_is (s ++ t) ∙ ap last_part (parts-append s t ∙ ap (λ z. lines_of s ++ z) are) ∙ last_of_more (lines_of s) p ps
    ∙ ap last_part (sym are) ∙ sym (rest_is (rest_of s ++ t))

-- bytes without a line feed are one part
one_line_parts : (s : List ℕ) → IsOneLine s → parts s ≡ s ∷ []
unfolding parts
one_line_parts [] h = refl
one_line_parts (b ∷ s) h =
    let no : (b == 10) ≡ false = not-true (b == 10) (and_left (not (b == 10)) _ h) in
    rw no (ap (onto_first b) (one_line_parts s (and_right (not (b == 10)) _ h)))

-- bytes without a line feed make no line
pub lines_of-bytes : (s : List ℕ) → IsOneLine s → lines_of s ≡ []
lines_of-bytes s h = lines_are s ∙ ap all_but_last (one_line_parts s h) ∙ one_part s

-- they are all rest
pub rest_of-bytes : (s : List ℕ) → IsOneLine s → rest_of s ≡ s
rest_of-bytes s h = rest_is s ∙ ap last_part (one_line_parts s h)

-- a line feed makes these bytes a line
line_parts : (s t : List ℕ) → IsOneLine s → parts (s ++ 10 ∷ t) ≡ s ∷ parts t
unfolding parts
line_parts [] t h = refl
line_parts (b ∷ s) t h =
    let no : (b == 10) ≡ false = not-true (b == 10) (and_left (not (b == 10)) _ h) in
    rw no (ap (onto_first b) (line_parts s t (and_right (not (b == 10)) _ h)))

-- the line comes first
pub lines_of-line : (s t : List ℕ) → IsOneLine s → lines_of (s ++ 10 ∷ t) ≡ s ∷ lines_of t
lines_of-line s t h =
    let (p, ps, are) = some_parts t in
    lines_are (s ++ 10 ∷ t) ∙ ap all_but_last (line_parts s t h ∙ ap (λ z. s ∷ z) are) ∙ one_more s p ps
    ∙ ap (λ z. s ∷ all_but_last z) (sym are) ∙ ap (λ z. s ∷ z) (sym (lines_are t))

-- the rest is that of the bytes after the line feed
pub rest_of-line : (s t : List ℕ) → IsOneLine s → rest_of (s ++ 10 ∷ t) ≡ rest_of t
rest_of-line s t h =
    let (p, ps, are) = some_parts t in
    rest_is (s ++ 10 ∷ t) ∙ ap last_part (line_parts s t h ∙ ap (λ z. s ∷ z) are) ∙ ap last_part (sym are) ∙ sym (rest_is t)

-- the rest has no line feed
rest_one_line : (b : ℕ) (p : List ℕ) (ps : List (List ℕ)) → (b == 10) ≡ false → IsOneLine (last_part (p ∷ ps)) → IsOneLine (last_part (onto_first b (p ∷ ps)))
rest_one_line b p [] is h = rw is h
rest_one_line b p (x ∷ xs) is h = h

-- a rest has no line feed
pub rest_of-IsOneLine : (s : List ℕ) → IsOneLine (rest_of s)
rest_of-IsOneLine [] = refl
rest_of-IsOneLine (b ∷ s) = by (b == 10) refl (some_parts s) (rest_of-IsOneLine s)
  where
    by : (v : Bool) → (b == 10) ≡ v → (p : List ℕ) × (ps : List (List ℕ)) × (parts s ≡ p ∷ ps) → IsOneLine (rest_of s) → IsOneLine (rest_of (b ∷ s))
    by true is (p, ps, are) h =
        let left : rest_of (b ∷ s) ≡ rest_of s = rest_is (b ∷ s) ∙ ap last_part (after_feed b s is ∙ ap (λ z. [] ∷ z) are)
        ∙ ap last_part (sym are) ∙ sym (rest_is s) in
        subst IsOneLine (sym left) h
    by false is (p, ps, are) h =
        let left : rest_of (b ∷ s) ≡ last_part (onto_first b (p ∷ ps)) = rest_is (b ∷ s) ∙ ap last_part (after_byte b s is ∙ ap (onto_first b) are) in
        subst IsOneLine (sym left) (rest_one_line b p ps is (subst IsOneLine (rest_is s ∙ ap last_part are) h))

-- bytes without a line feed, appended to such bytes
all_append : (s t : List ℕ) → IsOneLine s → IsOneLine t → IsOneLine (s ++ t)
all_append [] t h k = k
all_append (b ∷ s) t h k = rw (and_left (not (b == 10)) _ h) (all_append s t (and_right (not (b == 10)) _ h) k)

-- more bytes without a line feed lengthen the rest
pub lines_of-more_bytes : (s t : List ℕ) → IsOneLine t → lines_of (s ++ t) ≡ lines_of s
lines_of-more_bytes s t h =
    lines_of-append s t ∙ ap (λ z. lines_of s ++ z)
    (lines_of-bytes (rest_of s ++ t) (all_append (rest_of s) t (rest_of-IsOneLine s) h)) ∙ append-nil (lines_of s)

-- they are the end of the rest
pub rest_of-more_bytes : (s t : List ℕ) → IsOneLine t → rest_of (s ++ t) ≡ rest_of s ++ t
rest_of-more_bytes s t h = rest_of-append s t ∙ rest_of-bytes (rest_of s ++ t) (all_append (rest_of s) t (rest_of-IsOneLine s) h)

-- a line feed makes a line of the rest and these bytes
pub lines_of-push : (s t : List ℕ) → IsOneLine t → lines_of (s ++ (t ++ 10 ∷ [])) ≡ lines_of s ++ (rest_of s ++ t) ∷ []
lines_of-push s t h =
    lines_of-append s (t ++ 10 ∷ [])
    ∙ ap (λ z. lines_of s ++ lines_of z) (sym (append_assoc (rest_of s) t (10 ∷ [])))
    ∙ ap (λ z. lines_of s ++ z) (lines_of-line (rest_of s ++ t) [] (all_append (rest_of s) t (rest_of-IsOneLine s) h))

-- and nothing is left
pub rest_of-push : (s t : List ℕ) → IsOneLine t → rest_of (s ++ (t ++ 10 ∷ [])) ≡ []
rest_of-push s t h =
    rest_of-append s (t ++ 10 ∷ [])
    ∙ ap rest_of (sym (append_assoc (rest_of s) t (10 ∷ [])))
    ∙ rest_of-line (rest_of s ++ t) [] (all_append (rest_of s) t (rest_of-IsOneLine s) h)
