-- A map from byte keys to words, by its reference: a JudyL from hash words to chains of buckets.
--     IsBytesArray H b w         the reference w leads to a sound map of the hash H in the blocks b
--     bytes_in b w               its content: each key with its value, in the order of strings
--     bytes_numbers b w          the numbers of its blocks
--     bytes_value_in a w key     the value of a key
--     has_bytes_key a w key      whether the key is present
--     BytesGains, BytesSets      how an insertion or a write changes the content
--     BytesLoses                 how a removal changes it
--     BytesAnswers, BytesLooks   the reply to a call, and what the call leaves
--     BytesBecomes               what every call leaves of the map and of other arrays
--     HasBytesSpace a w          its blocks have few words
use Rattle.std.specs.Prelude.{◌≡◌, ℕ, ◌*◌, ◌<◌, ◌≤◌, length, Bool, true, false, ◌==◌, cond, Option, Some, None, List, [], ◌∷◌, ◌++◌}
use Rattle.std.specs.Option.{unwrap_or}
use Rattle.std.specs.Ordering.{eq_by_cmp}
use Rattle.judy_arena.specs.Blocks.{Blocks, ArenaState}
use Rattle.judy_arena.specs.Frame.{Frame, holds}
use Rattle.judy_arena.specs.Totals.{words_over}
use Rattle.judy_words.specs.LongArrays.{IsLongArray, long_in, long_numbers}
use Rattle.judy_model.specs.Contents.{Entries, string_order, word_order, value_of, has_key, with_entry, without_key}
use Rattle.judy_model.specs.Pieces.{pieces_of, string_pieces}
use Rattle.judy_model.specs.Tenant.{bytes_step, value_replied}
use Rattle.judy_model.specs.declared.calls.Given.{Given}
use Rattle.judy_model.specs.declared.calls.BytesCall.{BytesCall}
use Rattle.judy_model.specs.declared.calls.BytesCall.TheVariants as bytes
use Rattle.judy_model.specs.declared.replies.Reply.{Reply}
use Rattle.judy_model.specs.declared.replies.Reply.TheVariants as reply
use Rattle.judy_bytes.specs.Chains.{ByteEntries, chain, bucket_entries, chain_entries, IsBucketChain}

-- the numbers of the buckets of these chains
abbrev pub bucket_numbers : Blocks → Entries ℕ → List ℕ
bucket_numbers b [] = []
bucket_numbers b (e ∷ es) = chain b e.1 ++ bucket_numbers b es

-- entries in the order of their keys
abbrev pub in_order : ByteEntries → ByteEntries
in_order [] = []
in_order (e ∷ es) = with_entry string_order (in_order es) e.0 e.1

-- the keys of the map, each with its value
unfoldable pub bytes_in : Blocks → ℕ → ByteEntries
bytes_in b w = in_order (bucket_entries b (bucket_numbers b (long_in b w)))

-- the numbers of its blocks: those of the JudyL, and the buckets
unfoldable pub bytes_numbers : Blocks → ℕ → List ℕ
bytes_numbers b w = long_numbers b w ++ bucket_numbers b (long_in b w)

-- the reference of the first bucket at a hash word, or 0
abbrev pub first_at : Blocks → ℕ → ℕ → ℕ
first_at b w h = unwrap_or (value_of word_order (long_in b w) h) 0

-- the reference, or None if it is empty
abbrev pub if_some : ℕ → Option ℕ
if_some v = cond (v == 0) None (Some v)

-- the keys have this hash
abbrev pub HaveHash : (List ℕ → ℕ) → ℕ → ByteEntries → Type 0
HaveHash H h es = (k : List ℕ) (v : ℕ) → value_of string_order es k ≡ Some v → H k ≡ h

-- the block of this number is a bucket of the chain at the hash word
abbrev pub IsUnder : Blocks → ℕ → ℕ → ℕ → Type 0
IsUnder b w h q = holds q (chain b (first_at b w h)) ≡ true

-- the reference leads to a sound map
pub record IsBytesArray (H : List ℕ → ℕ) (b : Blocks) (w : ℕ) : Type 0 where
  pub words : IsLongArray b w
  -- each hash word has a sound chain, which is not empty
  pub chains : (h : ℕ) → IsBucketChain b (first_at b w h)
  pub filled : (h : ℕ) → value_of word_order (long_in b w) h ≡ if_some (first_at b w h)
  -- its keys have that hash
  pub hashes : (h : ℕ) → HaveHash H h (chain_entries b (first_at b w h))
  -- no block is used twice
  pub apart : (h k q : ℕ) → IsUnder b w h q → IsUnder b w k q → h ≡ k
  pub below : (h q : ℕ) → IsUnder b w h q → holds q (long_numbers b w) ≡ false

-- the JudyL w became x: the hash word has the new value, and no other block changed
pub record WordsBecome (a c : Blocks) (w x : ℕ) (h : ℕ) (new : Option ℕ) : Type 0 where
  pub sound : IsLongArray c x
  pub frame : Frame a c (long_numbers a w) (long_numbers c x)
  pub found : (k : ℕ)
      → value_of word_order (long_in c x) k
      ≡ cond (eq_by_cmp word_order k h) new (value_of word_order (long_in a w) k)

-- the map w became x: the key has the new value, and no other block changed
pub record KeyBecomes (H : List ℕ → ℕ) (a c : Blocks) (w x : ℕ) (key : List ℕ) (new : Option ℕ)
    : Type 0 where
  pub sound : IsBytesArray H c x
  pub frame : Frame a c (bytes_numbers a w) (bytes_numbers c x)
  pub found : (k : List ℕ)
      → value_of string_order (bytes_in c x) k
      ≡ cond (eq_by_cmp string_order k key) new (value_of string_order (bytes_in a w) k)

-- the map at w in a became the one at x in b, with this value at the key
abbrev pub BytesGains : (List ℕ → ℕ) → ArenaState → ℕ → ArenaState → ℕ → List ℕ → ℕ → Type 0
BytesGains H a w b x key v = KeyBecomes H a.blocks b.blocks w x key (Some v)

-- the value of the key in the map at w, or None if it is absent
abbrev pub bytes_value_in : ArenaState → ℕ → List ℕ → Option ℕ
bytes_value_in a w key = value_of string_order (bytes_in a.blocks w) key

-- whether the key is in the map at w
abbrev pub has_bytes_key : ArenaState → ℕ → List ℕ → Bool
has_bytes_key a w key = has_key string_order (bytes_in a.blocks w) key

-- the map at x in b is the one at w in a after this value is written at the key
abbrev pub BytesSets : ArenaState → ℕ → List ℕ → ℕ → ArenaState → ℕ → Type 0
BytesSets a w key v b x = bytes_in b.blocks x ≡ with_entry string_order (bytes_in a.blocks w) key v

-- the map at x in b is the one at w in a after the key is removed
abbrev pub BytesLoses : ArenaState → ℕ → List ℕ → ArenaState → ℕ → Type 0
BytesLoses a w key b x = bytes_in b.blocks x ≡ without_key string_order (bytes_in a.blocks w) key

-- if there is room, the call of the map at w in a has this reply and leaves the map at x in b
abbrev pub BytesAnswers : ArenaState → ℕ → BytesCall → Reply → ArenaState → ℕ → Type 0
BytesAnswers a w call given b x = bytes_step true (bytes_in a.blocks w) call ≡ (given, bytes_in b.blocks x)

-- the reply to an insertion, by what was there before
abbrev pub BytesInserts : ArenaState → ℕ → List ℕ → Given → Option ℕ → ArenaState → ℕ → Type 0
BytesInserts a w key given before b x = BytesAnswers a w (bytes.Insert key given) (reply.Value (value_replied given (unwrap_or before 0))) b x

-- the reply to a removal says whether the key was present
abbrev pub AnswersDelete : ArenaState → ℕ → List ℕ → Bool → ArenaState → ℕ → Type 0
AnswersDelete a w key there b x = BytesAnswers a w (bytes.Delete key) (reply.Int there) b x

-- the call changes nothing
abbrev pub BytesLooks : ArenaState → ℕ → BytesCall → Reply → Type 0
BytesLooks a w call given = BytesAnswers a w call given a w

-- the map at w in a became the sound map at x in b, and no block of another array changed
pub record BytesBecomes (H : List ℕ → ℕ) (a : ArenaState) (w : ℕ) (b : ArenaState) (x : ℕ) : Type 0 where
  pub sound : IsBytesArray H b.blocks x
  pub frame : Frame a.blocks b.blocks (bytes_numbers a.blocks w) (bytes_numbers b.blocks x)

-- the blocks of the map have at most 16 words for each piece of its keys, and at least 4 words if
-- it has a key
pub record HasBytesSpace (a : ArenaState) (w : ℕ) : Type 0 where
  pub most : words_over a.blocks (bytes_numbers a.blocks w) ≤ 16 * pieces_of string_pieces (bytes_in a.blocks w)
  pub least : 0 < length (bytes_in a.blocks w) → 4 ≤ words_over a.blocks (bytes_numbers a.blocks w)
