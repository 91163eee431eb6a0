-- What the layers below promise, by their laws, in the forms in which this layer uses it.
use Rattle.std.proofs.Common.{◌≡◌, ℕ, ◌+◌, ◌*◌, ◌<◌, ◌≤◌, true, [], length, refl, arith}
use Rattle.judy_arena.specs.Blocks.{Blocks, block, is_live}
use Rattle.judy_arena.specs.Frame.{holds}
use Rattle.judy_arena.specs.Totals.{are_distinct, words_over}
use Rattle.judy_words.specs.LongArrays.{IsLongArray, long_in, long_numbers}
use Rattle.judy_model.specs.Contents.{word_order, IsRising}
use Rattle.judy_arena.specs.Room.{room}
use Rattle.judy_arena.proofs.lemmas.RoomLaws.{room-least}
use Rattle.judy_tree.specs.Root.{Spells}
use Rattle.judy_tree.proofs.lemmas.RootLaws.{own-blocks-tell, blocks-are-live, content-is-sound, only-nothing-is-empty, blocks-are-small}

itself : (b : Blocks) (w : ℕ) → IsLongArray b w → Spells true b w (long_in b w) (long_numbers b w)
itself b w h = record { sound = h; content = refl; blocks = refl }

-- the indexes of a JudyL rise
pub words-rise : (b : Blocks) (w : ℕ) → IsLongArray b w → IsRising word_order (long_in b w)
words-rise b w h = (content-is-sound true b w (long_in b w) (long_numbers b w) (itself b w h)).0.0

-- a JudyL is the same where its blocks are
pub words-kept : (a c : Blocks) (w : ℕ) → IsLongArray a w → ((q : ℕ) → holds q (long_numbers a w) ≡ true → block c q ≡ block a q)
    → IsLongArray c w × (long_in c w ≡ long_in a w) × (long_numbers c w ≡ long_numbers a w)
words-kept a c w h same = let s = own-blocks-tell true a c w (long_in a w) (long_numbers a w) same (itself a w h) in (s.sound, s.content, s.blocks)

-- its blocks are live
pub words-live : (b : Blocks) (w : ℕ) → IsLongArray b w → (q : ℕ) → holds q (long_numbers b w) ≡ true → is_live b q ≡ true
words-live b w h q i = (blocks-are-live true b w (long_in b w) (long_numbers b w) (itself b w h)).0 q i

-- and are distinct
pub words-once : (b : Blocks) (w : ℕ) → IsLongArray b w → are_distinct (long_numbers b w) ≡ true
words-once b w h = (blocks-are-live true b w (long_in b w) (long_numbers b w) (itself b w h)).1

-- the reference to nothing leads to the empty JudyL
pub words-none : (b : Blocks) → IsLongArray b 0 × (long_in b 0 ≡ []) × (long_numbers b 0 ≡ [])
words-none b = let s = (only-nothing-is-empty true b).0 in (s.sound, s.content, s.blocks)

-- and no other reference does
pub words-empty : (b : Blocks) (w : ℕ) → IsLongArray b w → long_in b w ≡ [] → w ≡ 0
words-empty b w h e = (only-nothing-is-empty true b).1 w (long_numbers b w) (record { sound = h; content = e; blocks = refl })

-- the words of a JudyL: at most 12 for each index, less 8
pub words-few : (b : Blocks) (w : ℕ) → IsLongArray b w → 0 < length (long_in b w) → words_over b (long_numbers b w) + 8 ≤ 12 * length (long_in b w)
words-few b w h some = (blocks-are-small true b w (long_in b w) (long_numbers b w) (itself b w h)).1 some

-- a block for at most 128 words has at most 128
pub room-small : (len : ℕ) → len ≤ 128 → room len ≤ 128
room-small len h = room-least.least len 5 h (omega arith)
