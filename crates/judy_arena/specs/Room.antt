-- The size of a block, in words.
use Rattle.std.specs.Prelude.{◌≡◌, ℕ, ◌*◌, ◌^◌, ◌<◌, ◌≤◌, nat_le, if◌then◌else◌, refl}

-- the size of a block for this many words: the least of these sizes that fits; the crates above
-- know it by the laws below
pub room : ℕ → ℕ
room len =
    if nat_le len 4 then 4 else if nat_le len 8 then 8 else if nat_le len 16 then 16 else if nat_le len 32 then 32
    else if nat_le len 64 then 64 else if nat_le len 128 then 128 else if nat_le len 256 then 256 else if nat_le len 512 then 512 else len

-- a block has at least the words that were asked for
abbrev pub RoomCovers : Type 0
RoomCovers = (len : ℕ) → len ≤ room len

-- for at most 512 words the size is 4, 8, 16, .. or 512, and it is the least of them that fits
pub record RoomIsLeast : Type 0 where
  pub class : (len : ℕ) → len ≤ 512 → (k : ℕ) × ((k < 8) × (room len ≡ 4 * 2 ^ k))
  pub least : (len k : ℕ) → len ≤ 4 * 2 ^ k → k < 8 → room len ≤ 4 * 2 ^ k

-- what follows: the size is at most twice what was asked for, or 4; it rises with it; and a size is
-- its own size
pub record RoomIsTight : Type 0 where
  pub small : (len : ℕ) → len ≤ 4 → room len ≡ 4
  pub twice : (len : ℕ) → 4 ≤ len → room len ≤ 2 * len
  pub most : (len : ℕ) → len ≤ 512 → room len ≤ 512
  pub rises : (len more : ℕ) → len ≤ more → room len ≤ room more
  pub again : (len : ℕ) → room (room len) ≡ room len

-- the definition, for the arena's own proofs
pub room_is : (len : ℕ) → room len ≡ (
    if nat_le len 4 then 4 else if nat_le len 8 then 8 else if nat_le len 16 then 16 else if nat_le len 32 then 32
    else if nat_le len 64 then 64 else if nat_le len 128 then 128 else if nat_le len 256 then 256 else if nat_le len 512 then 512 else len)
unfolding room
room_is len = refl
