-- A chain of buckets: each refers to the next.
--     chain b w             the numbers of the buckets from the reference w on
--     bucket_entries b ns   the keys and values of these buckets
--     Linked b w ns         the chain from w on is exactly these buckets, each of them sound
--     IsBucketChain b w     a sound chain: no bucket twice, and no key twice
use Rattle.std.specs.Prelude.{◌≡◌, ℕ, Bool, zero, suc, ◌==◌, cond, true, Option, Some, None, List, [], ◌∷◌}
use Rattle.std.specs.Ordering.{eq_by_cmp}
use Rattle.judy_arena.specs.Blocks.{Blocks, words_of}
use Rattle.judy_arena.specs.Frame.{Frame, holds}
use Rattle.judy_refs.specs.References.{number_of, block_of, word_of}
use Rattle.judy_arena.specs.Totals.{are_distinct}
use Rattle.judy_refs.specs.declared.Kind.TheVariants.{Bucket}
use Rattle.judy_model.specs.Contents.{Entries, string_order, value_of, has_key}
use Rattle.judy_bytes.specs.Buckets.{IsBucket, bucket_entry, bucket_key, next_of}

-- byte keys with their values
abbrev pub ByteEntries : Type 0
ByteEntries = Entries (List ℕ)

-- the numbers of the buckets from a reference on, at most this many
unfoldable pub links : ℕ → Blocks → ℕ → List ℕ
links zero b w = []
links (suc r) b w = cond (w == 0) [] (number_of w ∷ links r b (next_of b (number_of w)))

-- the numbers of all buckets; a block's number is below 2^32, which bounds their count
unfoldable pub chain : Blocks → ℕ → List ℕ
chain b w = links 4294967296 b w

-- the keys and values of buckets
abbrev pub bucket_entries : Blocks → List ℕ → ByteEntries
bucket_entries b [] = []
bucket_entries b (n ∷ ns) = bucket_entry b n ∷ bucket_entries b ns

-- the keys and values of the chain from a reference on
abbrev pub chain_entries : Blocks → ℕ → ByteEntries
chain_entries b w = bucket_entries b (chain b w)

-- the value of a key in the chain, or None if it is absent
abbrev pub value_in_chain : Blocks → ℕ → List ℕ → Option ℕ
value_in_chain b w key = value_of string_order (chain_entries b w) key

-- whether the key is in the chain
abbrev pub chain_has : Blocks → ℕ → List ℕ → Bool
chain_has b w key = has_key string_order (chain_entries b w) key

-- the chain from the reference on is exactly these buckets
abbrev pub Linked : Blocks → ℕ → List ℕ → Type 0
Linked b w [] = w ≡ 0
Linked b w (n ∷ ns) = (w ≡ word_of Bucket n) × IsBucket b n × Linked b (next_of b n) ns

-- no key occurs twice
abbrev pub HasEachOnce : ByteEntries → Type 0
HasEachOnce [] = Unit {0}
HasEachOnce (e ∷ es) = (value_of string_order es e.0 ≡ None) × HasEachOnce es

-- a sound chain
pub record IsBucketChain (b : Blocks) (w : ℕ) : Type 0 where
  pub linked : Linked b w (chain b w)
  pub once : are_distinct (chain b w) ≡ true
  pub keys : HasEachOnce (bucket_entries b (chain b w))

-- the bucket of this number is in the chain and has the key
pub record IsFoundBucket (b : Blocks) (ns : List ℕ) (key : List ℕ) (n : ℕ) : Type 0 where
  pub within : holds n ns ≡ true
  pub spelt : bucket_key (words_of b n) ≡ key

-- the chain w became x: the key has the new value, all other keys stay, and no other block changed
pub record ChainBecomes (a c : Blocks) (w x : ℕ) (key : List ℕ) (new : Option ℕ) : Type 0 where
  pub sound : IsBucketChain c x
  pub frame : Frame a c (chain a w) (chain c x)
  pub found : (k : List ℕ)
      → value_in_chain c x k ≡ cond (eq_by_cmp string_order k key) new (value_in_chain a w k)

-- the reference leads to a new bucket
pub record IsNewBucket (a c : Blocks) (x : ℕ) : Type 0 where
  pub bucket : IsBucket c (number_of x)
  pub named : block_of x ≡ Some (number_of x)
  pub frame : Frame a c [] (number_of x ∷ [])
