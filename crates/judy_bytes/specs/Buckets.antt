-- A bucket: a block that holds one byte key with its value, and the reference of the next bucket at
-- the same hash word.
--     word 0      the reference of the next bucket, or 0
--     word 1      the value
--     word 2      the number of bytes of the key
--     word 3 on   the bytes, 8 a word, the first byte highest, filled with bytes 0
-- Words past those are not read.
--     IsBucket b n       the block n is a sound bucket
--     bucket_entry b n   its key and its value
--     next_of b n        the word of the next bucket's reference
use Rattle.std.specs.Prelude.{◌≡◌, ℕ, zero, suc, ◌+◌, ◌/◌, ◌^◌, ◌≤◌, ◌<◌, List, [], ◌∷◌, ◌++◌, take, drop, get_or, slice_set, length, IsTrue}
use Rattle.judy_model.specs.declared.names.TheConstants.{KEY_LIMIT}
use Rattle.judy_arena.specs.Blocks.{Blocks, is_live, words_of, put}
use Rattle.judy_arena.specs.Frame.{Frame}
use Rattle.judy_arena.specs.Room.{room}
use Rattle.judy_packing.specs.Packing.{byte_of, AreBytes, packed}

-- the bytes of a word from place i on, n of them
abbrev pub bytes_from : ℕ → ℕ → ℕ → List ℕ
bytes_from zero i w = []
bytes_from (suc n) i w = byte_of w i ∷ bytes_from n (suc i) w

-- the bytes of words, one after another
abbrev pub bucket_bytes_of : List ℕ → List ℕ
bucket_bytes_of [] = []
bucket_bytes_of (w ∷ ws) = bytes_from 8 0 w ++ bucket_bytes_of ws

-- how many words this many bytes take
abbrev pub packed_bucket : ℕ → ℕ
packed_bucket size = (size + 7) / 8

-- the number of bytes of a bucket's key
abbrev pub bucket_size : List ℕ → ℕ
bucket_size ws = get_or ws 2 0

-- the key in the words of a bucket
unfoldable pub bucket_key : List ℕ → List ℕ
bucket_key ws = take (bucket_size ws) (bucket_bytes_of (take (packed_bucket (bucket_size ws)) (drop 3 ws)))

-- the key of a bucket and its value
abbrev pub bucket_entry : Blocks → ℕ → List ℕ × ℕ
bucket_entry b n = (bucket_key (words_of b n), get_or (words_of b n) 1 0)

-- the word of the next bucket's reference
abbrev pub next_of : Blocks → ℕ → ℕ
next_of b n = get_or (words_of b n) 0 0

-- the blocks after this word is written at place i of the block n
abbrev pub with_word : Blocks → ℕ → ℕ → ℕ → Blocks
with_word b n i word = put b n (slice_set (words_of b n) i word)

-- the words hold this key
pub record SpellsKey (ws : List ℕ) (key : List ℕ) : Type 0 where
  pub spelt : bucket_key ws ≡ key
  pub bytes : AreBytes key
  pub short : length key ≤ KEY_LIMIT
  pub size : bucket_size ws ≡ length key
  -- only zeros follow the last byte
  pub filled : take (packed_bucket (length key)) (drop 3 ws) ≡ packed (packed_bucket (length key)) key
  -- the block has the size for the words used
  pub fits : length ws ≡ room (3 + packed_bucket (length key))

-- the block is a sound bucket
pub record IsBucket (b : Blocks) (n : ℕ) : Type 0 where
  pub live : IsTrue (is_live b n)
  pub low : n < 4294967296
  pub key : SpellsKey (words_of b n) (bucket_key (words_of b n))
  -- the value is a word
  pub value : (bucket_entry b n).1 < 2 ^ 64

-- the block is new, and is a bucket of this key with this value and this next reference
pub record IsMadeBucket (before after : Blocks) (next value : ℕ) (key : List ℕ) (n : ℕ) : Type 0 where
  pub bucket : IsBucket after n
  pub entry : bucket_entry after n ≡ (key, value)
  pub link : next_of after n ≡ next
  pub frame : Frame before after [] (n ∷ [])
