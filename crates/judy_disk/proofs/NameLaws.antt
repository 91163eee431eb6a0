-- Twelve digits and an end are read as what the end says.
use Rattle.std.proofs.Common.{◌∙◌, refl, ap, arith}
use Rattle.std.specs.Prelude.{◌≡◌, ◌++◌, ◌∷◌, ◌<◌, ℕ, Bool, true, false, List, [], codes, length, if◌then◌else◌, Some, None}
use Rattle.std.specs.Int.{IsInRange}
use Rattle.std.specs.Str.{all_ascii_digits}
use Rattle.std.specs.Str.Parse.{digits_value}
use Rattle.std.proofs.lemmas.Bool.{and_parts, eqb-true, ne_eqb}
use Rattle.std.proofs.lemmas.Str.Parse.{tells_all_ascii_digits}
use lib.Dec.{eqb}
use Rattle.judy_disk.specs.Names.{NumbersAreRead, is_number, is_passed, named_of, number_before, number_in, segment_by, snapshot_by, torn_by, torn_of}
use Rattle.judy_disk.specs.declared.names.Named.TheVariants as named

-- who has a number is one
holds : (b : Bool) (v n : ℕ) → (if b then Some v else None) ≡ Some n → b ≡ true
holds true v n e = refl
holds false v n e = cc

numbered : (digits : List ℕ) (n : ℕ) → number_in digits ≡ Some n → is_number digits ≡ true
numbered digits n e = holds (is_number digits) (digits_value 10 digits) n e

-- there are twelve digits
counted : (digits : List ℕ) (n : ℕ) → number_in digits ≡ Some n → length digits ≡ 12
counted digits n e = eqb-true (length digits) 12 (and_parts _ _ (and_parts _ _ (numbered digits n e)).0).0

-- the first of them is no other byte
all_are : (digits : List ℕ) (n : ℕ) → number_in digits ≡ Some n → all_ascii_digits digits ≡ true
all_are digits n e = (and_parts _ _ (and_parts _ _ (numbered digits n e)).0).1

not_digit : (a : ℕ) (rest : List ℕ) (n c : ℕ) → number_in (a ∷ rest) ≡ Some n → 57 < c → eqb a c ≡ false
not_digit a rest n c e l =
    let range : IsInRange 48 57 a = (tells_all_ascii_digits.parts a rest (all_are (a ∷ rest) n e)).0 in
    ne_eqb a c (λ same. omega (arith, same, l, range.1))

-- digits behind a first one, and a digit that is no point
digits_of : (a : ℕ) (rest : List ℕ) → all_ascii_digits (a ∷ rest) ≡ true → all_ascii_digits rest ≡ true
digits_of a rest h = (tells_all_ascii_digits.parts a rest h).1

after_four : (a b c d : ℕ) (rest : List ℕ) → all_ascii_digits (a ∷ b ∷ c ∷ d ∷ rest) ≡ true → all_ascii_digits rest ≡ true
after_four a b c d rest h = digits_of d rest (digits_of c (d ∷ rest) (digits_of b (c ∷ d ∷ rest) (digits_of a (b ∷ c ∷ d ∷ rest) h)))

point_is_none : (a : ℕ) (rest : List ℕ) → all_ascii_digits (a ∷ rest) ≡ true → eqb 46 a ≡ false
point_is_none a rest h =
    let range : IsInRange 48 57 a = (tells_all_ascii_digits.parts a rest h).0 in
    ne_eqb 46 a (λ same. omega (arith, same, range.0))

-- what a name says, by its parts
as_segment : (name : List ℕ) (n : ℕ) → is_passed name ≡ false → number_before (codes ".journal") name ≡ Some n → named_of name ≡ named.Segment n
unfolding named_of
as_segment name n e f = ap (λ q. if q then named.Passed else segment_by (number_before (codes ".journal") name) name) e
    ∙ ap (λ s. segment_by s name) f

as_snapshot : (name : List ℕ) (n : ℕ) → is_passed name ≡ false → number_before (codes ".journal") name ≡ None
    → number_before (codes ".snapshot") name ≡ Some n → named_of name ≡ named.Snapshot n
unfolding named_of
as_snapshot name n e f g = ap (λ q. if q then named.Passed else segment_by (number_before (codes ".journal") name) name) e
    ∙ ap (λ s. segment_by s name) f ∙ ap (λ s. snapshot_by s name) g

as_torn : (name : List ℕ) → is_passed name ≡ false → number_before (codes ".journal") name ≡ None
    → number_before (codes ".snapshot") name ≡ None → named_of name ≡ torn_of name
unfolding named_of
as_torn name e f g = ap (λ q. if q then named.Passed else segment_by (number_before (codes ".journal") name) name) e
    ∙ ap (λ s. segment_by s name) f ∙ ap (λ s. snapshot_by s name) g

pub numbers_read : NumbersAreRead
numbers_read (a ∷ b ∷ c ∷ d ∷ e ∷ f ∷ g ∷ h ∷ i ∷ j ∷ k ∷ l ∷ []) n is =
    let digits : List ℕ = a ∷ b ∷ c ∷ d ∷ e ∷ f ∷ g ∷ h ∷ i ∷ j ∷ k ∷ l ∷ [] in
    let rest : List ℕ = b ∷ c ∷ d ∷ e ∷ f ∷ g ∷ h ∷ i ∷ j ∷ k ∷ l ∷ [] in
    let of_l : eqb a 108 ≡ false = not_digit a rest n 108 is (omega arith) in
    let of_c : eqb a 99 ≡ false = not_digit a rest n 99 is (omega arith) in
    let of_m : eqb a 109 ≡ false = not_digit a rest n 109 is (omega arith) in
    let of_r : eqb a 114 ≡ false = not_digit a rest n 114 is (omega arith) in
    let of_s : eqb a 115 ≡ false = not_digit a rest n 115 is (omega arith) in
    let all : all_ascii_digits digits ≡ true = all_are digits n is in
    let last : all_ascii_digits (i ∷ j ∷ k ∷ l ∷ []) ≡ true = after_four e f g h (i ∷ j ∷ k ∷ l ∷ [])
    (after_four a b c d (e ∷ f ∷ g ∷ h ∷ i ∷ j ∷ k ∷ l ∷ []) all) in
    let of_point : eqb 46 a ≡ false = point_is_none a rest all in
    let of_i : eqb 46 i ≡ false = point_is_none i (j ∷ k ∷ l ∷ []) last in
    let of_j : eqb 46 j ≡ false = point_is_none j (k ∷ l ∷ []) (digits_of i (j ∷ k ∷ l ∷ []) last) in (
      as_segment (digits ++ codes ".journal") n (rw (of_l, of_c, of_m, of_r, of_s, of_point) refl) is,
      as_snapshot (digits ++ codes ".snapshot") n (rw (of_l, of_c, of_m, of_r, of_s, of_point) refl) refl is,
      as_torn (digits ++ codes ".torn") (rw (of_l, of_c, of_m, of_r, of_s, of_point) refl) (rw of_j refl) (rw of_i refl) ∙ ap torn_by is,
    )
numbers_read [] n is = cc
numbers_read (a ∷ []) n is = cc
numbers_read (a ∷ b ∷ []) n is = cc
numbers_read (a ∷ b ∷ c ∷ []) n is = cc
numbers_read (a ∷ b ∷ c ∷ d ∷ []) n is = cc
numbers_read (a ∷ b ∷ c ∷ d ∷ e ∷ []) n is = cc
numbers_read (a ∷ b ∷ c ∷ d ∷ e ∷ f ∷ []) n is = cc
numbers_read (a ∷ b ∷ c ∷ d ∷ e ∷ f ∷ g ∷ []) n is = cc
numbers_read (a ∷ b ∷ c ∷ d ∷ e ∷ f ∷ g ∷ h ∷ []) n is = cc
numbers_read (a ∷ b ∷ c ∷ d ∷ e ∷ f ∷ g ∷ h ∷ i ∷ []) n is = cc
numbers_read (a ∷ b ∷ c ∷ d ∷ e ∷ f ∷ g ∷ h ∷ i ∷ j ∷ []) n is = cc
numbers_read (a ∷ b ∷ c ∷ d ∷ e ∷ f ∷ g ∷ h ∷ i ∷ j ∷ k ∷ []) n is = cc
numbers_read (a ∷ b ∷ c ∷ d ∷ e ∷ f ∷ g ∷ h ∷ i ∷ j ∷ k ∷ l ∷ m ∷ more) n is =
    let size : length (a ∷ b ∷ c ∷ d ∷ e ∷ f ∷ g ∷ h ∷ i ∷ j ∷ k ∷ l ∷ m ∷ more) ≡ 12 = counted (a ∷ b ∷ c ∷ d ∷ e ∷ f ∷ g ∷ h ∷ i ∷ j ∷ k ∷ l ∷ m ∷ more) n is in
    absurd (omega (arith, size))
