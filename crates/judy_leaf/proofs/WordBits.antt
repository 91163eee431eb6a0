-- One bit of a bitmap leaf's words written, and ranks in a full leaf.
use Rattle.std.proofs.Common.{◌≡◌, ◌≢◌, ℕ, zero, suc, ◌+◌, ◌-◌, ◌/◌, ◌%◌, ◌<◌, ◌≤◌, Bool, true, false, cond, List, [], ◌∷◌}
use Rattle.std.proofs.Common.{length, drop, get_or, set, refl, sym, ◌∙◌, ap, arith, length-append, replicate, true≢false}
use Rattle.std.specs.Int.{bit_at}
use Rattle.judy_bitmap.specs.ByteSets.{members, has_bit, is_member, below, with_byte, without_byte}
use Rattle.judy_bitmap.proofs.lemmas.Places.{places, places-split}
use Rattle.judy_bitmap.proofs.lemmas.SetLemmas.{members-places, below-places, members-with, members-without, ChangesBit-set, rank-place}
use Rattle.judy_leaf.specs.Linear.{leaf_count}
use Rattle.judy_leaf.specs.Bytes.{bitmap_bytes, bitmap_values, IsBits}
use Rattle.std.specs.Prelude.{slice_get, Some}
use Rattle.std.specs.List.{insert}
use Rattle.judy_leaf.proofs.LinearLaws.{zeros_insert}

-- ---- a full leaf

places-few : (p : ℕ → Bool) (lo n : ℕ) → length (places p lo n) ≤ n
places-few p lo zero = omega arith
places-few p lo (suc n) = kept (p lo) _ (places-few p (lo + 1) n)
  where
    kept : (b : Bool) (xs : List ℕ) → length xs ≤ n → length (cond b (lo ∷ xs) xs) ≤ suc n
    kept true xs h = omega arith
    kept false xs h = omega arith

-- where all bytes are members, as many are below one as it says
pub full-rank : (ws : List ℕ) (byte : ℕ) → byte < 256 → length (members ws) ≡ 256 → length (below (members ws) byte) ≡ byte
full-rank ws byte fits full =
    omega (
      arith,
      ap length (below-places ws byte fits),
      ap length (members-places ws ∙ places-split (has_bit ws) 0 byte
          (256 - byte) 256 (omega arith)),
      length-append (places (has_bit ws) 0 byte) (places (has_bit ws) (0 + byte) (256 - byte)),
      places-few (has_bit ws) 0 byte,
      places-few (has_bit ws) (0 + byte) (256 - byte),
      full,
    )

-- ---- one word of the bitmap written

abbrev four : List ℕ → List ℕ
four ws = get_or ws 2 0 ∷ get_or ws 3 0 ∷ get_or ws 4 0 ∷ get_or ws 5 0 ∷ []

four-at : (ws : List ℕ) (row : ℕ) → row < 4 → get_or (four ws) row 0 ≡ get_or ws (2 + row) 0
four-at ws zero h = refl
four-at ws (suc zero) h = refl
four-at ws (suc (suc zero)) h = refl
four-at ws (suc (suc (suc zero))) h = refl
four-at ws (suc (suc (suc (suc row)))) h = absurd (omega arith)

-- what the writing of a row and of the number of keys leaves
record RowWritten (ws new : List ℕ) (row x : ℕ) : Type 0 where
  pub bitmap : four new ≡ set (four ws) row x
  pub shared : get_or new 1 0 ≡ get_or ws 1 0
  pub rest : drop 6 new ≡ drop 6 ws

row-written : (ws : List ℕ) (row x count : ℕ) → row < 4 → 6 ≤ length ws → RowWritten ws (set (set ws (2 + row) x) 0 count) row x
row-written [] row x count h room = absurd (omega arith)
row-written (a ∷ []) row x count h room = absurd (omega arith)
row-written (a ∷ b ∷ []) row x count h room = absurd (omega arith)
row-written (a ∷ b ∷ c ∷ []) row x count h room = absurd (omega arith)
row-written (a ∷ b ∷ c ∷ d ∷ []) row x count h room = absurd (omega arith)
row-written (a ∷ b ∷ c ∷ d ∷ e ∷ []) row x count h room = absurd (omega arith)
row-written (a ∷ b ∷ c ∷ d ∷ e ∷ f ∷ ws) zero x count h room = record { bitmap = refl; shared = refl; rest = refl }
row-written (a ∷ b ∷ c ∷ d ∷ e ∷ f ∷ ws) (suc zero) x count h room = record { bitmap = refl; shared = refl; rest = refl }
row-written (a ∷ b ∷ c ∷ d ∷ e ∷ f ∷ ws) (suc (suc zero)) x count h room = record { bitmap = refl; shared = refl; rest = refl }
row-written (a ∷ b ∷ c ∷ d ∷ e ∷ f ∷ ws) (suc (suc (suc zero))) x count h room = record { bitmap = refl; shared = refl; rest = refl }
row-written (a ∷ b ∷ c ∷ d ∷ e ∷ f ∷ ws) (suc (suc (suc (suc row)))) x count h room = absurd (omega arith)

module _ (ws : List ℕ) (byte x count : ℕ) (fits : byte < 256) (room : 6 ≤ length ws) where
  abbrev new : List ℕ
  new = set (set ws (2 + byte / 64) x) 0 count

  row : byte / 64 < 4
  row = omega arith

  pub written-shared : get_or new 1 0 ≡ get_or ws 1 0
  written-shared = (row-written ws (byte / 64) x count row room).shared

  pub written-rest : drop 6 new ≡ drop 6 ws
  written-rest = (row-written ws (byte / 64) x count row room).rest

  module _ (kept : (i : ℕ) → i < 64 → i ≢ byte % 64 → bit_at x i ≡ bit_at (get_or ws (2 + byte / 64) 0) i) where
    others : (i : ℕ) → i < 64 → i ≢ byte % 64 → bit_at x i ≡ bit_at (get_or (four ws) (byte / 64) 0) i
    others i low other = kept i low other ∙ ap (λ w. bit_at w i) (sym (four-at ws (byte / 64) row))

    pub written-with : bit_at x (byte % 64) ≡ 1 → bitmap_bytes new ≡ with_byte (bitmap_bytes ws) byte
    written-with is =
        ap members (row-written ws (byte / 64) x count row room).bitmap
        ∙ members-with (four ws) (set (four ws) (byte / 64) x) byte fits (ChangesBit-set (four ws) byte x 1 row is others)

    pub written-without : bit_at x (byte % 64) ≡ 0 → bitmap_bytes new ≡ without_byte (bitmap_bytes ws) byte
    written-without is =
        ap members (row-written ws (byte / 64) x count row room).bitmap
        ∙ members-without (four ws) (set (four ws) (byte / 64) x) byte fits (ChangesBit-set (four ws) byte x 0 row is others)

-- ---- a head that stays

pub same-bytes : (f g : List ℕ) → ((i : ℕ) → i < 6 → get_or g i 0 ≡ get_or f i 0) → bitmap_bytes g ≡ bitmap_bytes f
same-bytes f g same = (λ i. members (same 2 (omega arith) i ∷ same 3 (omega arith) i ∷ same 4 (omega arith) i ∷ same 5 (omega arith) i ∷ []))

-- ---- a full leaf, by its count

pub leaf-rank-full : (v : Bool) (f : List ℕ) → IsBits v f → leaf_count f ≡ 256 → (byte : ℕ) → byte < 256 → length (below (bitmap_bytes f) byte) ≡ byte
leaf-rank-full v f leaf full byte fits = full-rank (four f) byte fits (sym leaf.count ∙ full)

-- the byte of a rank
pub byte-at-rank : (f : List ℕ) (byte : ℕ) → byte < 256 → is_member (bitmap_bytes f) byte ≡ true → slice_get (bitmap_bytes f)
    (length (below (bitmap_bytes f) byte)) ≡ Some byte
byte-at-rank f byte fits member = rank-place (four f) byte fits member

-- ---- no values

pub no-values-opened : (v : Bool) (n r y : ℕ) (ws : List ℕ) → v ≡ false → y ≡ 0 → r ≤ n → bitmap_values v (n + 1) ws ≡ insert (bitmap_values v n ws) r y
no-values-opened true n r y ws v_is y_is h = absurd (true≢false v_is)
no-values-opened false n r y ws v_is y_is h = ap (λ m. replicate m 0) (let e : n + 1 ≡ suc n = omega arith in e)
    ∙ sym (zeros_insert n r h) ∙ ap (insert (replicate n 0) r) (sym y_is)
