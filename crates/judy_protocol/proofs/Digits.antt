-- The word that digits write.
use Rattle.std.proofs.Common.{◌≡◌, ℕ, suc, zero, ◌+◌, ◌-◌, ◌*◌, ◌%◌, ◌^◌, ◌<◌, ◌≤◌, ◌≢◌, ◌⊎◌, inl, inr, Bool, true, false, not, ◌&&◌, cond, List, [], ◌∷◌, length, get_or}
use Rattle.std.proofs.Common.{arith, refl, sym, ap, ◌∙◌, take, drop, Option, Some, None}
use Rattle.std.proofs.Math.Nat.{pow-le-pow_right, pow-suc}
use Rattle.std.proofs.lemmas.Int.Digits.{digits_value-lt}
use Rattle.std.proofs.lemmas.Bool.{and_parts}
use Rattle.std.specs.Prelude.{nat_le, codes}
use Rattle.std.specs.List.{list_all}
use Rattle.std.specs.Char.{digit_value, is_ascii_digit}
use Rattle.std.specs.Str.Parse.{AllDigits, digits_value, digits_value_after}
use Rattle.std.specs.Float.Numeral.{digits_len}
use Rattle.std.proofs.lemmas.List.Folds.{list_all_at}
use Rattle.std.proofs.lemmas.List.Sums.{prefix_len-le-length, prefix_len_passes}
use Rattle.std.proofs.lemmas.Bool.Decides.{nat_tests}
use Rattle.judy_model.specs.Contents.{max_word}
use Rattle.judy_model.specs.Grammar.{fields_of, is_digit, number_of_field}
use Rattle.judy_model.proofs.lemmas.WordLemmas.{le-test, le-not}
use Rattle.judy_protocol.specs.Digits.{digits_of, may_follow}
use Rattle.judy_protocol.proofs.FieldCuts.{first_field, list_all-take}
use Rattle.judy_protocol.proofs.Texts.{not_the_text}

-- four tests before a value
all_pass : (a b c d : Bool) (v : Option ℕ) → a ≡ true → b ≡ true → c ≡ true → d ≡ true → cond (a && b && c && d) v None ≡ v
all_pass a b c d v ha hb hc hd = rw (ha, hb, hc, hd) refl

first_fails : (a b c d : Bool) (v : Option ℕ) → a ≡ false → cond (a && b && c && d) v None ≡ None
first_fails a b c d v h = rw h refl

second_fails : (a b c d : Bool) (v : Option ℕ) → b ≡ false → cond (a && b && c && d) v None ≡ None
second_fails true b c d v h = rw h refl
second_fails false b c d v h = refl

third_fails : (a b c d : Bool) (v : Option ℕ) → c ≡ false → cond (a && b && c && d) v None ≡ None
third_fails true true c d v h = rw h refl
third_fails true false c d v h = refl
third_fails false b c d v h = refl

fourth_fails : (a b c d : Bool) (v : Option ℕ) → d ≡ false → cond (a && b && c && d) v None ≡ None
fourth_fails true true true d v h = rw h refl
fourth_fails true true false d v h = refl
fourth_fails true false c d v h = refl
fourth_fails false b c d v h = refl

module _ (field : List ℕ) where
  pub empty_none : length field ≡ 0 → digits_of field ≡ None
  empty_none h = first_fails (nat_le 1 (length field)) (nat_le (length field) 20) (list_all is_digit field)
      (nat_le (digits_value 10 field) max_word) (Some (digits_value 10 field)) (le-not 1 (length field) (omega arith))

  pub long_none : 20 < length field → digits_of field ≡ None
  long_none h = second_fails (nat_le 1 (length field)) (nat_le (length field) 20) (list_all is_digit field)
      (nat_le (digits_value 10 field) max_word) (Some (digits_value 10 field)) (le-not (length field) 20 h)

  pub letter_none : (i : ℕ) → i < length field → is_ascii_digit (get_or field i 0) ≡ false → digits_of field ≡ None
  letter_none i within h = third_fails (nat_le 1 (length field)) (nat_le (length field) 20) (list_all is_digit field)
      (nat_le (digits_value 10 field) max_word) (Some (digits_value 10 field))
      (list_all_at is_digit field i 0 within h)

  pub great_none : max_word < digits_value 10 field → digits_of field ≡ None
  great_none h = fourth_fails (nat_le 1 (length field)) (nat_le (length field) 20) (list_all is_digit field)
      (nat_le (digits_value 10 field) max_word) (Some (digits_value 10 field)) (le-not (digits_value 10 field) max_word h)

  pub digits_some : 0 < length field → length field ≤ 20 → list_all is_digit field ≡ true → digits_value 10 field ≤ max_word
      → digits_of field ≡ Some (digits_value 10 field)
  digits_some some short all fits = all_pass (nat_le 1 (length field)) (nat_le (length field) 20) (list_all is_digit field)
      (nat_le (digits_value 10 field) max_word) (Some (digits_value 10 field))
      (le-test 1 (length field) some) (le-test (length field) 20 short) all (le-test (digits_value 10 field) max_word fits)

-- a digit's value is its distance from `0`
pub digit_is : (b : ℕ) → is_ascii_digit b ≡ true → digit_value b ≡ b - 48
digit_is b h = grind (arith, nat_tests)

-- a digit's value is at most 9
pub digit_fits : (b : ℕ) → is_ascii_digit b ≡ true → b - 48 ≤ 9
digit_fits b h = grind (arith, nat_tests)

-- the digits in std's words
all_digits : (ds : List ℕ) → list_all is_digit ds ≡ true → AllDigits 10 ds
all_digits [] h = tt
all_digits (d ∷ ds) h =
    let (this, others) = and_parts (is_digit d) (list_all is_digit ds) h in (omega (arith, digit_is d this, digit_fits d this), all_digits ds others)

-- a number of at most 19 digits is below 10 ^ 19
few : (ds : List ℕ) → list_all is_digit ds ≡ true → length ds ≤ 19 → digits_value 10 ds < 10 ^ 19
few ds all short = omega (
  arith,
  digits_value-lt 10 ds (all_digits ds all),
  pow-le-pow_right {n = 10} (omega arith) {i = length ds} {j = 19} short,
)

-- digits that come after a number move it up
moved : (n : ℕ) (ds : List ℕ) → digits_value_after 10 n ds ≡ n * 10 ^ length ds + digits_value 10 ds
moved n [] = omega arith
moved n (d ∷ ds) =
    let a = moved (n * 10 + digit_value d) ds in
    let b = moved (0 * 10 + digit_value d) ds in
    omega (arith, ap (λ x. n * x) (pow-suc 10 (length ds)))

-- 20 digits: the first of them weighs 10 ^ 19
first_weighs : (ds : List ℕ) → length ds ≡ 20 → list_all is_digit ds ≡ true
    → (rest : ℕ) × (digits_value 10 ds ≡ (get_or ds 0 0 - 48) * 10 ^ 19 + rest) × (rest < 10 ^ 19) × (48 ≤ get_or ds 0 0)
first_weighs [] len all = absurd (omega (arith, len))
first_weighs (d ∷ ds) len all =
    let (this, others) = and_parts (is_digit d) (list_all is_digit ds) all in
    let nineteen : length ds ≡ 19 = omega (arith, len) in (
      digits_value 10 ds,
      omega (
        arith,
        moved (0 * 10 + digit_value d) ds,
        ap (λ n. (0 * 10 + digit_value d) * 10 ^ n) nineteen,
        digit_is d this,
      ),
      few ds others (omega (arith, nineteen)),
      grind (arith, nat_tests),
    )

-- what is left of a word in 64 bits is the word
module _ (ds : List ℕ) (value : ℕ) (all : list_all is_digit ds ≡ true) (left : value ≡ digits_value 10 ds % 2 ^ 64) where
  fits : 0 < length ds → length ds ≤ 20 → digits_value 10 ds < 2 ^ 64 → Some value ≡ digits_of ds
  fits some short small =
      let same : value ≡ digits_value 10 ds = omega (arith, left, small) in
      ap Some same ∙ sym (digits_some ds some short all (omega (arith, small)))

  pub few_fit : 1 ≤ length ds → length ds ≤ 19 → Some value ≡ digits_of ds
  few_fit some short = fits some (omega (arith, short)) (omega (arith, few ds all short))

  pub twenty_fit_0 : length ds ≡ 20 → get_or ds 0 0 ≡ 48 → Some value ≡ digits_of ds
  twenty_fit_0 len lead =
      let (rest, is, small, digit) = first_weighs ds len all in
      fits (omega (arith, len)) (omega (arith, len)) (omega (arith, is, small, lead))

  pub twenty_fit_1 : length ds ≡ 20 → get_or ds 0 0 ≡ 49 → 10 ^ 19 ≤ value → Some value ≡ digits_of ds
  twenty_fit_1 len one great =
      let (rest, is, small, digit) = first_weighs ds len all in
      fits (omega (arith, len)) (omega (arith, len)) (omega (arith, is, small, one, great, left))

  pub twenty_wrap_1 : length ds ≡ 20 → get_or ds 0 0 ≡ 49 → value < 10 ^ 19 → digits_of ds ≡ None
  twenty_wrap_1 len one less =
      let (rest, is, small, digit) = first_weighs ds len all in
      great_none ds (omega (arith, is, small, one, less, left))

  pub twenty_wrap_2 : length ds ≡ 20 → get_or ds 0 0 ≢ 48 → get_or ds 0 0 ≢ 49 → digits_of ds ≡ None
  twenty_wrap_2 len other one =
      let (rest, is, small, digit) = first_weighs ds len all in
      great_none ds (omega (arith, is, small, digit, other, one))

-- what comes after a field, by its place
follows_end : (text : List ℕ) (end : ℕ) → end ≤ length text → may_follow (drop end text) ≡ true → (length text ≡ end) ⊎ (get_or text end 0 ≡ 32)
follows_end [] zero within h = inl refl
follows_end [] (suc n) within h = absurd (omega arith)
follows_end (b ∷ bs) zero within h = inr (grind (arith, nat_tests))
follows_end (b ∷ bs) (suc n) within h = by (follows_end bs n (omega arith) h)
  where
    by : (length bs ≡ n) ⊎ (get_or bs n 0 ≡ 32) → (suc (length bs) ≡ suc n) ⊎ (get_or bs n 0 ≡ 32)
    by (inl e) = inl (ap suc e)
    by (inr e) = inr e

-- the digits that a text begins with
pub leading : (text : List ℕ) (end : ℕ) → end ≡ digits_len text → list_all is_digit (take end text) ≡ true
leading text end is = list_all-take is_digit text end (omega (arith, is, prefix_len-le-length is_digit text))
    (λ k lt. prefix_len_passes is_digit text k 0 (omega (arith, is, lt)))

-- digits that end a field are the first field
pub number_cut : (text field after : List ℕ) (end : ℕ) → field ≡ take end text → after ≡ drop end text → 0 < end
    → end ≡ digits_len text → may_follow after ≡ true
    → (fields_of text ≡ field ∷ fields_of after) × (number_of_field field ≡ digits_of field)
number_cut text field after end is_field is_after some is follows =
    let within : end ≤ length text = omega (arith, is, prefix_len-le-length is_digit text) in
    let digit : (k : ℕ) → k < end → get_or text k 0 ≢ 32 = λ k lt.
    no_space (get_or text k 0) (prefix_len_passes is_digit text k 0 (omega (arith, is, lt))) in
    let all : list_all is_digit field ≡ true = ap (list_all is_digit) is_field ∙ leading text end is in (
      rw (is_field, is_after) (first_field text text 0 end refl (omega (arith, some, within)) (λ k lt. absurd (omega (arith, lt)))
          (digit 0 some) within digit (follows_end text end within (ap may_follow (sym is_after) ∙ follows))),
      ap (λ b. cond b (Some max_word) (digits_of field))
          (not_the_text (λ w. not (list_all is_digit w)) field (codes "-1") refl (ap not all)),
    )
  where
    no_space : (b : ℕ) → is_digit b ≡ true → b ≢ 32
    no_space b h = grind (arith, nat_tests)

-- a text has one first field
pub only_first : (text field : List ℕ) (more : List (List ℕ)) → fields_of text ≡ field ∷ more → number_of_field field ≡ None
    → (other : List ℕ) (others : List (List ℕ)) → fields_of text ≡ other ∷ others → number_of_field other ≡ None
only_first text field more is none other others is' =
    let same : other ∷ others ≡ field ∷ more = sym is' ∙ is in
    let one : other ≡ field = cc in ap number_of_field one ∙ none
