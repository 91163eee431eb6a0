-- Sets of bytes, as the places of four words' bits.
use Rattle.std.proofs.Common.{◌≡◌, ◌≢◌, ℕ, zero, suc, ◌+◌, ◌-◌, ◌*◌, ◌/◌, ◌%◌, ◌^◌, ◌<◌, ◌≤◌, Bool, true, false, not, ◌&&◌}
use Rattle.std.proofs.Common.{cond, eqb, List, [], ◌∷◌, length, get_or, set, refl, sym, ◌∙◌, ap, inl, inr, arith, Some, None}
use Rattle.std.proofs.Common.{length-append, get_or-set_same, get_or-set_other, eq-eqb, ne_eqb, lt-ltb, le-ltb, le-leb}
use Rattle.std.proofs.Common.{zero-add, w64, count_ones}
use Rattle.std.specs.Prelude.{filter, slice_get, nat_le, nat_lt}
use Rattle.std.specs.Int.{bit_at, bit_not}
use Rattle.std.proofs.lemmas.Bool.{cases_eq, cases_lt, lt-leb}
use Rattle.std.proofs.Math.Bool.{and-true, and-false}
use Rattle.std.proofs.lemmas.Nat.Bits.{bit_at_not}
use Rattle.std.proofs.lemmas.Option.{slice_get_past}
use Rattle.judy_bitmap.specs.ByteSets.{has_bit, members, absent, is_member, below, at_least, at_most, above, with_byte, without_byte, head_of, last_of}
use Rattle.judy_bitmap.specs.Words.{IsLowestFrom, HasNoneFrom, IsHighestUpTo, HasNoneUpTo}
use Rattle.judy_bitmap.proofs.lemmas.Places.{places, places-split, places-more, places-none, places-first, places-last}
use Rattle.judy_bitmap.proofs.lemmas.Places.{places-below, places-from, places-same, places-at, places-any, places-both}
use Rattle.judy_bitmap.proofs.lemmas.BitLemmas.{ones_of_bit, ones_mod-add}

-- ---- counts

-- the set bits of a word's first k, as places from lo on
ones-places : (p : ℕ → Bool) (word lo k : ℕ) → ((i : ℕ) → i < k → p (lo + i) ≡ eqb (bit_at word i) 1)
    → count_ones (word % 2 ^ k) ≡ length (places p lo k)
ones-places p word lo zero same = let none : word % 2 ^ 0 ≡ 0 = omega arith in rw none (ones_of_bit 0 (omega arith))
ones-places p word lo (suc k) same =
    let first : 1 + k ≡ suc k = omega arith in
    let bit : ℕ = bit_at word k in
    let one : count_ones bit ≡ bit = ones_of_bit bit (omega arith) in
    let counted : length (cond (p (lo + k)) ((lo + k) ∷ []) []) ≡ bit =
    rw (same k (omega arith))
    (elim (cases_eq bit 1) [ inl set ↦ rw (eq-eqb bit 1 set) (omega arith) | inr clear ↦ rw (ne_eqb bit 1 clear) (omega arith) ]) in
    ap (λ j. count_ones (word % 2 ^ j)) (sym first) ∙ ones_mod-add word 1 k
    ∙ omega (
      arith,
      ap length (places-more p lo k),
      length-append (places p lo k) (cond (p (lo + k)) ((lo + k) ∷ []) []),
      ones-places p word lo k (λ i low. same i (omega arith)),
    )

module _ (words : List ℕ) where
  pub members-places : members words ≡ places (has_bit words) 0 256
  unfolding members
  members-places = refl

  pub has_bit-row : (row i : ℕ) → i < 64 → has_bit words (64 * row + i) ≡ eqb (bit_at (get_or words row 0) i) 1
  has_bit-row row i low =
      let at : (64 * row + i) / 64 ≡ row = omega arith in
      let place : (64 * row + i) % 64 ≡ i = omega arith in
      rw (at, place) refl

  -- the first k bits of a row, and the whole row
  pub row_part : (row k : ℕ) → k ≤ 64 → count_ones (get_or words row 0 % 2 ^ k) ≡ length (places (has_bit words) (64 * row) k)
  row_part row k low = ones-places (has_bit words) (get_or words row 0) (64 * row) k (λ i h. has_bit-row row i (omega arith))

  pub row_whole : (row : ℕ) → get_or words row 0 < 2 ^ 64 → count_ones (get_or words row 0) ≡ length (places (has_bit words) (64 * row) 64)
  row_whole row fits =
      let all : get_or words row 0 % 2 ^ 64 ≡ get_or words row 0 = omega arith in
      ap count_ones (sym all) ∙ row_part row 64 (omega arith)

  -- the members below a place of a row: those below the row, and those in it
  pub rank_in_row : (row k : ℕ) → length (places (has_bit words) 0 (64 * row + k)) ≡ length (places (has_bit words) 0 (64 * row))
      + length (places (has_bit words) (64 * row) k)
  rank_in_row row k =
      ap length (places-split (has_bit words) 0 (64 * row) k (64 * row + k) refl)
      ∙ length-append (places (has_bit words) 0 (64 * row)) (places (has_bit words) (0 + 64 * row) k)
      ∙ ap (λ at. length (places (has_bit words) 0 (64 * row)) + length (places (has_bit words) at k)) (let e : 0 + 64 * row ≡ 64 * row = omega arith in e)

-- ---- the parts of a set

module _ (words : List ℕ) (byte : ℕ) (fits : byte < 256) where
  pub below-places : below (members words) byte ≡ places (has_bit words) 0 byte
  below-places =
      ap (filter (λ m. nat_lt m byte)) (members-places words)
      ∙ places-below (has_bit words) (λ m. nat_lt m byte) byte (256 - byte) 256 (omega arith) (λ i h. lt-ltb i byte h) (λ i h. le-ltb i byte h)

  pub at_least-places : at_least (members words) byte ≡ places (has_bit words) byte (256 - byte)
  at_least-places =
      ap (filter (λ m. nat_le byte m)) (members-places words)
      ∙ places-from (has_bit words) (λ m. nat_le byte m) byte (256 - byte) 256 (omega arith) (λ i h. lt-leb byte i h) (λ i h. le-leb byte i h)

  pub at_most-places : at_most (members words) byte ≡ places (has_bit words) 0 (suc byte)
  at_most-places =
      ap (filter (λ m. nat_le m byte)) (members-places words)
      ∙ places-below (has_bit words) (λ m. nat_le m byte) (suc byte) (255 - byte) 256 (omega arith)
      (λ i h. le-leb i byte (omega arith)) (λ i h. lt-leb i byte (omega arith))

  pub above-places : above (members words) byte ≡ places (has_bit words) (suc byte) (255 - byte)
  above-places =
      ap (filter (λ m. nat_lt byte m)) (members-places words)
      ∙ places-from (has_bit words) (λ m. nat_lt byte m) (suc byte) (255 - byte) 256 (omega arith)
      (λ i h. le-ltb byte i (omega arith)) (λ i h. lt-ltb byte i (omega arith))

  pub is_member-has_bit : is_member (members words) byte ≡ has_bit words byte
  is_member-has_bit = ap (λ set. is_member set byte) (members-places words) ∙ places-any (has_bit words) 0 256 byte (omega arith) (omega arith)

-- ---- rank and select

-- the rank of a byte: its word's bits below it, and the words before
pub rank-is : (words : List ℕ) (byte : ℕ) → byte < 256
    → count_ones (get_or words (byte / 64) 0 % 2 ^ (byte % 64)) + length (places (has_bit words) 0 (64 * (byte / 64))) ≡ length (below (members words) byte)
rank-is words byte fits =
    let at : 64 * (byte / 64) + byte % 64 ≡ byte = omega arith in
    omega (
      arith,
      row_part words (byte / 64) (byte % 64) (omega arith),
      rank_in_row words (byte / 64) (byte % 64),
      ap (λ k. length (places (has_bit words) 0 k)) at,
      ap length (below-places words byte fits),
    )

-- the members below a row are counted by the words before it
pub rows-counted : (words : List ℕ) (row one two three : ℕ) → row < 3
    → get_or words 0 0 < 2 ^ 64 → get_or words 1 0 < 2 ^ 64 → get_or words 2 0 < 2 ^ 64
    → one ≡ count_ones (get_or words 0 0) → two ≡ one + count_ones (get_or words 1 0) → three ≡ two + count_ones (get_or words 2 0)
    → get_or (one ∷ two ∷ three ∷ []) row 0 ≡ length (places (has_bit words) 0 (64 * (row + 1)))
rows-counted words zero one two three low f_0 f_1 f_2 e_1 e_2 e_3 = e_1 ∙ row_whole words 0 f_0
rows-counted words (suc zero) one two three low f_0 f_1 f_2 e_1 e_2 e_3 =
    omega (arith, e_1, e_2, row_whole words 0 f_0, row_whole words 1 f_1, rank_in_row words 1 64)
rows-counted words (suc (suc zero)) one two three low f_0 f_1 f_2 e_1 e_2 e_3 =
    omega (arith, e_1, e_2, e_3, row_whole words 0 f_0, row_whole words 1 f_1, row_whole words 2 f_2, rank_in_row words 1 64, rank_in_row words 2 64)
rows-counted words (suc (suc (suc row))) one two three low f_0 f_1 f_2 e_1 e_2 e_3 = absurd (omega arith)

-- the item of a member's rank is the member
pub rank-place : (words : List ℕ) (byte : ℕ) → byte < 256 → is_member (members words) byte ≡ true
    → slice_get (members words) (length (below (members words) byte)) ≡ Some byte
rank-place words byte fits member =
    rw (below-places words byte fits, members-places words)
    (places-at (has_bit words) 256 byte fits (sym (is_member-has_bit words byte fits) ∙ member))

pub select-in_row : (words : List ℕ) (row place left n : ℕ) → row < 4 → place < 64 → bit_at (get_or words row 0) place ≡ 1
    → count_ones (get_or words row 0 % 2 ^ place) ≡ left → n ≡ left + length (places (has_bit words) 0 (64 * row))
    → slice_get (members words) n ≡ Some (64 * row + place)
select-in_row words row place left n inside within set counted rank =
    let bit : has_bit words (64 * row + place) ≡ true = has_bit-row words row place within ∙ eq-eqb _ 1 set in
    let before : n ≡ length (places (has_bit words) 0 (64 * row + place)) = omega (
      arith,
      row_part words row place (omega arith),
      rank_in_row words row place,
    ) in
    rw (members-places words, before) (places-at (has_bit words) 256 (64 * row + place) (omega arith) bit)

-- the member found has n below it
pub select-rank : (words : List ℕ) (row place left n : ℕ) → row < 4 → place < 64
    → count_ones (get_or words row 0 % 2 ^ place) ≡ left → n ≡ left + length (places (has_bit words) 0 (64 * row))
    → length (below (members words) (64 * row + place)) ≡ n
select-rank words row place left n inside within counted rank =
    omega (arith, ap length (below-places words (64 * row + place) (omega arith)), row_part words row place (omega arith), rank_in_row words row place)

-- and is a member
pub select-member : (words : List ℕ) (row place : ℕ) → row < 4 → place < 64 → bit_at (get_or words row 0) place ≡ 1
    → is_member (members words) (64 * row + place) ≡ true
select-member words row place inside within set =
    is_member-has_bit words (64 * row + place) (omega arith) ∙ has_bit-row words row place within ∙ eq-eqb _ 1 set

pub select-past : (words : List ℕ) (left n : ℕ) → n ≡ left + length (places (has_bit words) 0 (64 * 4)) → length (members words) ≤ n
select-past words left n rank = omega (arith, ap length (members-places words))

pub select-none : (words : List ℕ) (left n : ℕ) → n ≡ left + length (places (has_bit words) 0 (64 * 4)) → slice_get (members words) n ≡ None
select-none words left n rank = slice_get_past (members words) n (omega (arith, ap length (members-places words)))

-- ---- the four searches

-- no byte from lo up to hi has its bit
pub record HasNoBits (words : List ℕ) (lo hi : ℕ) : Type 0 where
  pub none : (i : ℕ) → lo ≤ i → i < hi → has_bit words i ≡ false

module _ (words : List ℕ) where
  pub HasNoBits-empty : (lo : ℕ) → HasNoBits words lo lo
  HasNoBits-empty lo = record { none = λ i low high. absurd (omega arith) }

  HasNoBits-join : (lo mid hi : ℕ) → HasNoBits words lo mid → HasNoBits words mid hi → HasNoBits words lo hi
  HasNoBits-join lo mid hi a b = record {
    none = λ i low high. elim (cases_lt i mid) [ inl lt ↦ a.none i low lt | inr ge ↦ b.none i ge high ];
  }

  -- bits of a row that are clear
  HasNoBits-row : (row a b : ℕ) → b ≤ 64 → ((i : ℕ) → a ≤ i → i < b → bit_at (get_or words row 0) i ≡ 0) → HasNoBits words (64 * row + a) (64 * row + b)
  HasNoBits-row row a b within clear = record {
    none = λ i low high.
        let k : ℕ = i - 64 * row in
        let at : 64 * row + k ≡ i = omega arith in
        ap (has_bit words) (sym at) ∙ has_bit-row words row k (omega arith)
        ∙ ne_eqb _ 1 (let c = clear k (omega arith) (omega arith) in λ set. absurd (omega arith));
  }

  module _ (byte : ℕ) (fits : byte < 256) where
    pub next-none : HasNoBits words byte 256 → head_of (at_least (members words) byte) ≡ None
    next-none clear =
        ap head_of (at_least-places words byte fits ∙ places-none (has_bit words) byte (256 - byte) (λ i low high. clear.none i low (omega arith)))

    pub next-in_row : (row k place : ℕ) → row < 4 → byte ≤ 64 * row + k → HasNoBits words byte (64 * row + k) → IsLowestFrom (get_or words row 0) k place
        → head_of (at_least (members words) byte) ≡ Some (64 * row + place)
    next-in_row row k place inside low clear found =
        let bit : has_bit words (64 * row + place) ≡ true = has_bit-row words row place found.1 ∙ eq-eqb _ 1 found.2 in
        let before : HasNoBits words byte (64 * row + place) = HasNoBits-join byte (64 * row + k) (64 * row + place) clear
        (HasNoBits-row row k place (omega (arith, found.1)) found.3) in
        ap head_of (at_least-places words byte fits)
        ∙ places-first (has_bit words) byte (256 - byte) (64 * row + place) (omega (arith, found.0)) (omega (arith, found.1)) bit before.none

    pub next-past_row : (row k : ℕ) → HasNoBits words byte (64 * row + k) → HasNoneFrom (get_or words row 0) k → HasNoBits words byte (64 * (row + 1))
    next-past_row row k clear none =
        let e : 64 * row + 64 ≡ 64 * (row + 1) = omega arith in
        rw (← e) (HasNoBits-join byte (64 * row + k) (64 * row + 64) clear (HasNoBits-row row k 64 (omega arith) none))

    pub prev-none : HasNoBits words 0 (suc byte) → last_of (at_most (members words) byte) ≡ None
    prev-none clear =
        ap last_of (at_most-places words byte fits ∙ places-none (has_bit words) 0 (suc byte) (λ i low high. clear.none i low (omega arith)))

    pub prev-in_row : (row k place : ℕ) → k < 64 → 64 * row + k ≤ byte → HasNoBits words (64 * row + suc k) (suc byte)
        → IsHighestUpTo (get_or words row 0) k place
        → last_of (at_most (members words) byte) ≡ Some (64 * row + place)
    prev-in_row row k place within low clear found =
        let bit : has_bit words (64 * row + place) ≡ true = has_bit-row words row place (omega (arith, found.0)) ∙ eq-eqb _ 1 found.1 in
        let after : HasNoBits words (64 * row + suc place) (suc byte) =
        HasNoBits-join (64 * row + suc place) (64 * row + suc k) (suc byte) (HasNoBits-row row (suc place) (suc k) (omega arith)
        (λ i h l. found.2 i h (omega arith))) clear in
        ap last_of (at_most-places words byte fits)
        ∙ places-last (has_bit words) 0 (suc byte) (64 * row + place) (omega arith) (omega (arith, found.0)) bit
        (λ i h l. after.none i (omega arith) (omega arith))

    pub prev-past_row : (row k : ℕ) → k < 64 → HasNoBits words (64 * row + suc k) (suc byte) → HasNoneUpTo (get_or words row 0) k
        → HasNoBits words (64 * row) (suc byte)
    prev-past_row row k within clear none =
        let e : 64 * row + 0 ≡ 64 * row = omega arith in
        rw (← e) (HasNoBits-join (64 * row + 0) (64 * row + suc k) (suc byte) (HasNoBits-row row 0 (suc k) (omega arith) (λ i _ h. none i (omega arith))) clear)

-- ---- a byte more, a byte less

-- the bits are the same except for the byte's
pub record ChangesBit (old new : List ℕ) (byte : ℕ) (now : Bool) : Type 0 where
  pub here : has_bit new byte ≡ now
  pub others : (i : ℕ) → i ≢ byte → has_bit new i ≡ has_bit old i

module _ (old new : List ℕ) (byte : ℕ) (fits : byte < 256) where
  pub members-with : ChangesBit old new byte true → members new ≡ with_byte (members old) byte
  members-with change =
      let p = has_bit old in
      let q = has_bit new in
      let upper : places q byte (256 - byte) ≡ byte ∷ places q (suc byte) (255 - byte) =
      let count : 256 - byte ≡ suc (255 - byte) = omega arith in
      let at : byte + 1 ≡ suc byte = omega arith in
      rw (count, change.here, at) refl in
      members-places new ∙ places-split q 0 byte (256 - byte) 256 (omega arith)
      ∙ rw (
        zero-add,
        upper,
        places-same q p 0 byte (λ i _ h. change.others i (omega arith)),
        places-same q p (suc byte) (255 - byte) (λ i h _. change.others i (omega arith)),
        below-places old byte fits,
        above-places old byte fits,
      ) refl

  pub members-without : ChangesBit old new byte false → members new ≡ without_byte (members old) byte
  members-without change =
      members-places new
      ∙ places-same (has_bit new) (λ i. has_bit old i && not (eqb i byte)) 0 256 (λ i _ _. agree i)
      ∙ sym (places-both (has_bit old) (λ i. not (eqb i byte)) 0 256)
      ∙ ap (filter (λ i. not (eqb i byte))) (sym (members-places old))
    where
      agree : (i : ℕ) → has_bit new i ≡ (has_bit old i && not (eqb i byte))
      agree i =
          elim (cases_eq i byte) [
            | inl same ↦ rw (eq-eqb i byte same) (ap (has_bit new) same ∙ change.here ∙ sym (and-false (has_bit old i)))
            | inr other ↦ rw (ne_eqb i byte other) (change.others i other ∙ sym (and-true (has_bit old i)))
          ]

-- a word that is written, and keeps its other bits
pub ChangesBit-set : (words : List ℕ) (byte word bit : ℕ) → byte / 64 < length words → bit_at word (byte % 64) ≡ bit
    → ((i : ℕ) → i < 64 → i ≢ byte % 64 → bit_at word i ≡ bit_at (get_or words (byte / 64) 0) i)
    → ChangesBit words (set words (byte / 64) word) byte (eqb bit 1)
ChangesBit-set words byte word bit inside is kept = record {
  here = rw (get_or-set_same words (byte / 64) word 0 inside, is) refl;
  others = λ i other.
      elim (cases_eq (i / 64) (byte / 64)) [
        | inl same ↦
            rw (same, get_or-set_same words (byte / 64) word 0 inside)
            (ap (λ b. eqb b 1) (kept (i % 64) (omega arith) (λ place. other (omega arith))))
        | inr apart ↦ ap (λ w. eqb (bit_at w (i % 64)) 1) (get_or-set_other words (byte / 64) (i / 64) word 0 apart)
      ];
}

-- ---- all bits turned

-- what holds of each of four rows
four_rows : (P : ℕ → Type 0) → P 0 → P 1 → P 2 → P 3 → (row : ℕ) → row < 4 → P row
four_rows P first second third fourth zero h = first
four_rows P first second third fourth (suc zero) h = second
four_rows P first second third fourth (suc (suc zero)) h = third
four_rows P first second third fourth (suc (suc (suc zero))) h = fourth
four_rows P first second third fourth (suc (suc (suc (suc row)))) h = absurd (omega arith)

pub members-complement : (old new : List ℕ)
    → get_or old 0 0 < 2 ^ 64 → get_or old 1 0 < 2 ^ 64 → get_or old 2 0 < 2 ^ 64 → get_or old 3 0 < 2 ^ 64
    → get_or new 0 0 ≡ bit_not w64 (get_or old 0 0) → get_or new 1 0 ≡ bit_not w64 (get_or old 1 0)
    → get_or new 2 0 ≡ bit_not w64 (get_or old 2 0) → get_or new 3 0 ≡ bit_not w64 (get_or old 3 0)
    → members new ≡ absent (members old)
unfolding absent
members-complement old new fits_0 fits_1 fits_2 fits_3 turned_0 turned_1 turned_2 turned_3 =
    members-places new ∙ places-same (has_bit new) (λ i. not (is_member (members old) i)) 0 256 (λ i _ high. agree i (omega arith))
  where
    fits : (row : ℕ) → row < 4 → get_or old row 0 < 2 ^ 64
    fits = four_rows (λ row. get_or old row 0 < 2 ^ 64) fits_0 fits_1 fits_2 fits_3

    turned : (row : ℕ) → row < 4 → get_or new row 0 ≡ bit_not w64 (get_or old row 0)
    turned = four_rows (λ row. get_or new row 0 ≡ bit_not w64 (get_or old row 0)) turned_0 turned_1 turned_2 turned_3

    agree : (i : ℕ) → i < 256 → has_bit new i ≡ not (is_member (members old) i)
    agree i high =
        let bit : ℕ = bit_at (get_or old (i / 64) 0) (i % 64) in
        let other : bit_at (get_or new (i / 64) 0) (i % 64) ≡ 1 - bit =
        ap (λ w. bit_at w (i % 64)) (turned (i / 64) (omega arith)) ∙ bit_at_not w64 (get_or old (i / 64) 0) (i % 64)
        (fits (i / 64) (omega arith)) (omega arith) in
        rw (is_member-has_bit old i high)
        (elim (cases_eq bit 1) [
          | inl set ↦ rw (eq-eqb bit 1 set) (ne_eqb _ 1 (λ e. absurd (omega arith)))
          | inr clear ↦ rw (ne_eqb bit 1 clear) (eq-eqb _ 1 (omega arith))
        ])
