-- One word of a bitmap branch's bitmap written.
use Rattle.std.proofs.Common.{◌≡◌, ◌≢◌, ℕ, zero, suc, ◌+◌, ◌/◌, ◌%◌, ◌<◌, ◌≤◌, List, [], ◌∷◌, length, get_or, set, refl, sym, ◌∙◌, ap, arith}
use lib.Seq.{paste}
use Rattle.std.specs.Int.{bit_at}
use Rattle.judy_bitmap.specs.ByteSets.{members, with_byte, without_byte}
use Rattle.judy_bitmap.proofs.lemmas.SetLemmas.{members-with, members-without, ChangesBit-set}
use Rattle.judy_branch.specs.Children.{bitmap_in}

row-at : (ws : List ℕ) (row : ℕ) → row < 4 → get_or (bitmap_in ws) row 0 ≡ get_or ws (3 + row) 0
row-at ws zero h = refl
row-at ws (suc zero) h = refl
row-at ws (suc (suc zero)) h = refl
row-at ws (suc (suc (suc zero))) h = refl
row-at ws (suc (suc (suc (suc row)))) h = absurd (omega arith)

-- what the writing of a row leaves
record RowWritten (ws new : List ℕ) (row x : ℕ) : Type 0 where
  pub bitmap : bitmap_in new ≡ set (bitmap_in ws) row x
  pub others : new ≡ paste ws 3 (bitmap_in new) 4

row-written : (ws : List ℕ) (row x : ℕ) → row < 4 → 7 ≤ length ws → RowWritten ws (set ws (3 + row) x) row x
row-written [] row x h room = absurd (omega arith)
row-written (a ∷ []) row x h room = absurd (omega arith)
row-written (a ∷ b ∷ []) row x h room = absurd (omega arith)
row-written (a ∷ b ∷ c ∷ []) row x h room = absurd (omega arith)
row-written (a ∷ b ∷ c ∷ d ∷ []) row x h room = absurd (omega arith)
row-written (a ∷ b ∷ c ∷ d ∷ e ∷ []) row x h room = absurd (omega arith)
row-written (a ∷ b ∷ c ∷ d ∷ e ∷ f ∷ []) row x h room = absurd (omega arith)
row-written (a ∷ b ∷ c ∷ d ∷ e ∷ f ∷ g ∷ ws) zero x h room = record { bitmap = refl; others = refl }
row-written (a ∷ b ∷ c ∷ d ∷ e ∷ f ∷ g ∷ ws) (suc zero) x h room = record { bitmap = refl; others = refl }
row-written (a ∷ b ∷ c ∷ d ∷ e ∷ f ∷ g ∷ ws) (suc (suc zero)) x h room = record { bitmap = refl; others = refl }
row-written (a ∷ b ∷ c ∷ d ∷ e ∷ f ∷ g ∷ ws) (suc (suc (suc zero))) x h room = record { bitmap = refl; others = refl }
row-written (a ∷ b ∷ c ∷ d ∷ e ∷ f ∷ g ∷ ws) (suc (suc (suc (suc row)))) x h room = absurd (omega arith)

module _ (ws : List ℕ) (byte x : ℕ) (fits : byte < 256) (room : 7 ≤ length ws) where
  abbrev new : List ℕ
  new = set ws (3 + byte / 64) x

  row : byte / 64 < 4
  row = omega arith

  pub written-others : new ≡ paste ws 3 (bitmap_in new) 4
  written-others = (row-written ws (byte / 64) x row room).others

  module _ (kept : (i : ℕ) → i < 64 → i ≢ byte % 64 → bit_at x i ≡ bit_at (get_or ws (3 + byte / 64) 0) i) where
    rest : (i : ℕ) → i < 64 → i ≢ byte % 64 → bit_at x i ≡ bit_at (get_or (bitmap_in ws) (byte / 64) 0) i
    rest i low other = kept i low other ∙ ap (λ w. bit_at w i) (sym (row-at ws (byte / 64) row))

    pub written-with : bit_at x (byte % 64) ≡ 1 → members (bitmap_in new) ≡ with_byte (members (bitmap_in ws)) byte
    written-with is =
        ap members (row-written ws (byte / 64) x row room).bitmap
        ∙ members-with (bitmap_in ws) (set (bitmap_in ws) (byte / 64) x) byte fits (ChangesBit-set (bitmap_in ws) byte x 1 row is rest)

    pub written-without : bit_at x (byte % 64) ≡ 0 → members (bitmap_in new) ≡ without_byte (members (bitmap_in ws)) byte
    written-without is =
        ap members (row-written ws (byte / 64) x row room).bitmap
        ∙ members-without (bitmap_in ws) (set (bitmap_in ws) (byte / 64) x) byte fits (ChangesBit-set (bitmap_in ws) byte x 0 row is rest)
