-- The first field of a line, found by its place.
use Rattle.std.proofs.Common.{◌≡◌, ◌≢◌, ℕ, zero, suc, ◌<◌, ◌≤◌, ◌⊎◌, Bool, true, false, not, List, [], ◌∷◌, length, take, drop}
use Rattle.std.proofs.Common.{get_or, sym, ◌∙◌, ap, arith, refl, inl, inr, length-drop, get_or-drop, take-append-drop}
use Rattle.std.proofs.Math.Seq.{take-length}
use Rattle.std.specs.List.{list_all, prefix_len}
use Rattle.std.proofs.Math.Nat.{eq-or-lt_of_le}
use Rattle.std.proofs.lemmas.List.Sums.{prefix_len-le-length, prefix_len_passes, prefix_len_stops}
use Rattle.std.proofs.lemmas.List.{length-take-le}
use Rattle.std.proofs.lemmas.Bool.Decides.{nat_tests}
use Rattle.judy_model.specs.Grammar.{is_space, EndsField, fields_of}
use Rattle.judy_model.proofs.lemmas.FieldLemmas.{HasFields-fields_of, fields_of-HasFields}

-- if each of the first n bytes passes, all of them do
pub list_all-take : (test : ℕ → Bool) (xs : List ℕ) (n : ℕ) → n ≤ length xs → ((k : ℕ) → k < n → test (get_or xs k 0) ≡ true) → list_all test (take n xs) ≡ true
list_all-take test xs zero h p = refl
list_all-take test [] (suc n) h p = absurd (omega arith)
list_all-take test (x ∷ xs) (suc n) h p = rw (p 0 (omega arith)) (list_all-take test xs n (omega arith) (λ k lt. p (suc k) (omega arith)))

space_test : (b : ℕ) → b ≡ 32 → is_space b ≡ true
space_test b h = grind (arith, nat_tests)

other_test : (b : ℕ) → b ≢ 32 → not (is_space b) ≡ true
other_test b h = grind (arith, nat_tests)

ends-drop : (xs : List ℕ) (n : ℕ) → (length xs ≡ n) ⊎ (get_or xs n 0 ≡ 32) → EndsField (drop n xs)
ends-drop [] zero h = tt
ends-drop [] (suc n) h = tt
ends-drop (x ∷ xs) zero (inl e) = absurd (omega arith)
ends-drop (x ∷ xs) zero (inr e) = space_test x e
ends-drop (x ∷ xs) (suc n) (inl e) = ends-drop xs n (inl (omega arith))
ends-drop (x ∷ xs) (suc n) (inr e) = ends-drop xs n (inr e)

field_starts : (from : List ℕ) (len : ℕ) → get_or from 0 0 ≢ 32 → len ≤ length from → 0 < length from → (length from ≡ len)
    ⊎ (get_or from len 0 ≡ 32) → 0 < length (take len from)
field_starts from zero ne fits some (inl e) = absurd (omega arith)
field_starts from zero ne fits some (inr e) = absurd (ne e)
field_starts from (suc n) ne fits some end = omega (arith, length-take-le (suc n) from fits)

-- the first field, from its start and its length
pub first_field : (line from : List ℕ) (start len : ℕ) → from ≡ drop start line → start < length line
    → ((k : ℕ) → k < start → get_or line k 0 ≡ 32) → get_or line start 0 ≢ 32 →
    len ≤ length from → ((k : ℕ) → k < len → get_or from k 0 ≢ 32) → (length from ≡ len) ⊎ (get_or from len 0 ≡ 32) →
    fields_of line ≡ take len from ∷ fields_of (drop len from)
first_field line from start len is_from within spaces ne' fits field end =
    let ne : get_or from 0 0 ≢ 32 = λ h. ne'
    (sym (ap (λ v. get_or v 0 0) is_from ∙ get_or-drop start line 0 0 ∙ ap (λ v. get_or line v 0) (omega arith)) ∙ h) in
    HasFields-fields_of line (take len from ∷ fields_of (drop len from)) (
      take start line,
      drop len from,
      rw (take-append-drop len from, is_from) (sym (take-append-drop start line)),
      list_all-take is_space line start (omega arith) (λ k lt. space_test (get_or line k 0) (spaces k lt)),
      (
        field_starts from len ne fits (omega (arith, ap length is_from, length-drop start line)) end,
        list_all-take
            (λ b. not (is_space b)) from len fits (λ k lt. other_test (get_or from k 0) (field k lt)),
      ),
      ends-drop from len end,
      fields_of-HasFields (drop len from),
    )

-- a line of spaces has no field
pub no_field : (line : List ℕ) → ((k : ℕ) → k < length line → get_or line k 0 ≡ 32) → fields_of line ≡ []
no_field line h =
    HasFields-fields_of line []
    (rw (← take-length line) (list_all-take is_space line (length line) (omega arith)
    (λ k lt. space_test (get_or line k 0) (h k lt))))

-- the first field begins where the spaces end
pub to_first : (line from : List ℕ) (start : ℕ) → from ≡ drop start line → start < length line
    → ((k : ℕ) → k < start → get_or line k 0 ≡ 32) → get_or line start 0 ≢ 32
    → (fields_of from ≡ fields_of line) × (fields_of line ≢ [])
to_first line from start is_from within spaces ne =
    let test : ℕ → Bool = λ b. not (is_space b) in
    let len : ℕ = prefix_len test from in
    let fits : len ≤ length from = prefix_len-le-length test from in
    let field : (k : ℕ) → k < len → get_or from k 0 ≢ 32 = λ k lt.
    no_space (get_or from k 0) (prefix_len_passes test from k 0 lt) in
    let end : (length from ≡ len) ⊎ (get_or from len 0 ≡ 32) = by (eq-or-lt_of_le fits) in
    let whole = first_field line from start len is_from within spaces ne fits field end in
    let some : 0 < length from = omega (arith, ap length is_from, length-drop start line) in
    let first : get_or from 0 0 ≢ 32 = λ h. ne
    (sym (ap (λ v. get_or v 0 0) is_from ∙ get_or-drop start line 0 0 ∙ ap (λ v. get_or line v 0) (omega arith)) ∙ h) in
    let again = first_field from from 0 len refl some (λ k lt. absurd (omega (arith, lt))) first fits field end in
    (again ∙ sym whole, λ e. let bad : take len from ∷ fields_of (drop len from) ≡ [] = sym whole ∙ e in cc)
  where
    no_space : (b : ℕ) → not (is_space b) ≡ true → b ≢ 32
    no_space b h = grind (arith, nat_tests)

    a_space : (b : ℕ) → not (is_space b) ≡ false → b ≡ 32
    a_space b h = grind (arith, nat_tests)

    by : (prefix_len (λ b. not (is_space b)) from ≡ length from) ⊎ (prefix_len (λ b. not (is_space b)) from < length from)
        → (length from ≡ prefix_len (λ b. not (is_space b)) from) ⊎ (get_or from (prefix_len (λ b. not (is_space b)) from) 0 ≡ 32)
    by (inl e) = inl (sym e)
    by (inr lt) = inr (a_space _ (prefix_len_stops (λ b. not (is_space b)) from 0 lt))
