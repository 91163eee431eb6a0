-- The children of bytes that follow one another, as words.
use Rattle.std.specs.Prelude.{◌≡◌, ℕ, ◌+◌, ◌<◌, ◌≤◌, ◌==◌, cond, List, get_or, length, Option, Some, None}
use Rattle.judy_model.specs.Contents.{Entries, word_order, value_of}

-- the child that a word is; 0 is none
abbrev pub child_of : ℕ → Option ℕ
child_of w = cond (w == 0) None (Some w)

-- the words are the children of the byte k and of the bytes after it; the byte after the last one
-- has no child, or is no byte
pub record IsChildRow (es : Entries ℕ) (k : ℕ) (ws : List ℕ) : Type 0 where
  pub within : k + length ws ≤ 256
  pub each : (i : ℕ) → i < length ws → value_of word_order es (k + i) ≡ child_of (get_or ws i 0)
  pub after : k + length ws < 256 → value_of word_order es (k + length ws) ≡ None
