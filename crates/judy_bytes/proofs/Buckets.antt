-- Buckets: what changes of their first words leave as it is, and a key compared with theirs word by
-- word.
use Rattle.std.proofs.Common.{◌≡◌, ◌≢◌, ℕ, zero, suc, ◌+◌, ◌*◌, ◌/◌, ◌^◌, ◌<◌, ◌≤◌, true, false, cond, ◌==◌, ◌||◌, List, []}
use Rattle.std.proofs.Common.{◌∷◌, take, drop, length, get_or, Some, None, ap, sym, ◌∙◌, refl, subst, arith, unwrap_or}
use Rattle.std.proofs.Common.{is_some, length-drop}
use Rattle.std.specs.Prelude.{slice_set}
use Rattle.std.proofs.lemmas.Bool.Decides.{nat_tests}
use Rattle.std.proofs.lemmas.Nat.{mod-mul-add}
use Rattle.judy_arena.specs.Blocks.{Blocks, block, words_of, is_live}
use Rattle.judy_refs.specs.References.{number_of, block_of, word_of}
use Rattle.judy_arena.specs.Room.{room}
use Rattle.judy_refs.specs.declared.Kind.TheVariants.{Bucket}
use Rattle.judy_packing.specs.Packing.{pack, AreBytes, packed}
use Rattle.judy_packing.proofs.lemmas.Packs.{get_taken, get_dropped}
use Rattle.judy_bytes.specs.Buckets.{bucket_bytes_of, packed_bucket, bucket_size, bucket_key, SpellsKey, IsBucket, IsMadeBucket}
use Rattle.judy_arena.specs.Frame.{Frame}
use Rattle.judy_arena.proofs.lemmas.BlockLaws.{itself}
use Rattle.judy_bytes.proofs.Unpacks.{bytes-packed, same-words, packed-at, as-packed}

-- words that spell the same key
pub record SameKey (vs : List ℕ) (ws : List ℕ) : Type 0 where
  pub size : get_or vs 2 0 ≡ get_or ws 2 0
  pub rest : drop 3 vs ≡ drop 3 ws
  pub count : length vs ≡ length ws

pub key-same : (vs ws : List ℕ) → SameKey vs ws → bucket_key vs ≡ bucket_key ws
unfolding bucket_key
key-same vs ws h =
    ap (λ n. take n (bucket_bytes_of (take (packed_bucket n) (drop 3 vs)))) h.size
    ∙ ap (λ l. take (bucket_size ws) (bucket_bytes_of (take (packed_bucket (bucket_size ws)) l))) h.rest

pub spells-same : (vs ws key : List ℕ) → SameKey vs ws → SpellsKey ws key → SpellsKey vs key
spells-same vs ws key h s = record {
  spelt = key-same vs ws h ∙ s.spelt;
  bytes = s.bytes;
  short = s.short;
  size = h.size ∙ s.size;
  filled = ap (take (packed_bucket (length key))) h.rest ∙ s.filled;
  fits = h.count ∙ s.fits;
}

pub set-next : (ws : List ℕ) (x : ℕ) → 3 ≤ length ws → SameKey (slice_set ws 0 x) ws
set-next [] x h = absurd (omega arith)
set-next (u ∷ ws) x h = record { size = refl; rest = refl; count = refl }

pub set-value : (ws : List ℕ) (x : ℕ) → 3 ≤ length ws → SameKey (slice_set ws 1 x) ws
set-value [] x h = absurd (omega arith)
set-value (u ∷ []) x h = absurd (omega arith)
set-value (u ∷ v ∷ ws) x h = record { size = refl; rest = refl; count = refl }

-- the bucket where its words are others that spell the same key
pub bucket-same : (a c : Blocks) (n : ℕ) → IsBucket a n → is_live c n ≡ true → get_or (words_of c n) 1 0 < 2 ^ 64
    → SameKey (words_of c n) (words_of a n) → IsBucket c n
bucket-same a c n h live value same = record {
  live = live;
  low = h.low;
  key = subst (SpellsKey (words_of c n)) (sym (key-same (words_of c n) (words_of a n) same))
      (spells-same (words_of c n) (words_of a n) (bucket_key (words_of a n)) same h.key);
  value = value;
}

-- and where its block is the same
pub bucket-kept : (a c : Blocks) (n : ℕ) → IsBucket a n → block c n ≡ block a n → IsBucket c n
bucket-kept a c n h same =
    let words : words_of c n ≡ words_of a n = ap (λ o. unwrap_or o []) same in
    bucket-same a c n h (ap is_some same ∙ h.live) (subst (λ ws. get_or ws 1 0 < 2 ^ 64) (sym words) h.value)
    (record { size = ap (λ ws. get_or ws 2 0) words; rest = ap (drop 3) words; count = ap length words })

-- its block has the words that it uses
pub bucket-long : (covers : (len : ℕ) → len ≤ room len) (b : Blocks) (n : ℕ) → IsBucket b n → 3 + packed_bucket
    (length (bucket_key (words_of b n))) ≤ length (words_of b n)
bucket-long covers b n h = let f = h.key.fits in let g = covers (3 + packed_bucket (length (bucket_key (words_of b n)))) in omega arith

-- and at most 128
pub bucket-small : (least : (len : ℕ) → len ≤ 128 → room len ≤ 128) (b : Blocks) (n : ℕ) → IsBucket b n → length (words_of b n) ≤ 128
bucket-small least b n h =
    let s = h.key.short in let f = h.key.fits in
    let r = least (3 + packed_bucket (length (bucket_key (words_of b n)))) (omega (arith, s)) in omega (arith, f, r)

-- ---- references to buckets

pub number-named : (n : ℕ) → n < 4294967296 → number_of (word_of Bucket n) ≡ n
number-named n h = mod-mul-add 8 4294967296 n h

pub not-nothing : (n : ℕ) → (word_of Bucket n == 0) ≡ false
not-nothing n = differ (word_of Bucket n) (omega arith)
  where
    differ : (w : ℕ) → w ≢ 0 → (w == 0) ≡ false
    differ w h = grind (arith, nat_tests)

pub block-named : (n : ℕ) → n < 4294967296 → block_of (word_of Bucket n) ≡ Some n
block-named n h = ap (λ t. cond t None (Some (number_of (word_of Bucket n)))) (not-nothing n) ∙ ap Some (number-named n h)

-- ---- a key compared with a bucket's

-- as far as this, the words of the bucket are those of the key
pub record Agree (j : ℕ) (ws : List ℕ) (key : List ℕ) : Type 0 where
  pub words : (k : ℕ) → k < j → get_or ws (3 + k) 0 ≡ pack (drop (8 * k) key)

pub agree-none : (ws key : List ℕ) → Agree 0 ws key
agree-none ws key = record { words = λ k h. absurd (omega arith) }

pub agree-more : (j : ℕ) (ws key : List ℕ) → get_or ws (3 + j) 0 ≡ pack (drop (8 * j) key) → Agree j ws key → Agree (j + 1) ws key
agree-more j ws key e h = record {
  words = λ k less. elim (k == j) as (λ t. (k == j) ≡ t → get_or ws (3 + k) 0 ≡ pack (drop (8 * k) key)) [
    | true ↦ λ i. let f : k ≡ j = same k j i in ap (λ n. get_or ws (3 + n) 0) f ∙ e ∙ ap (λ n. pack (drop (8 * n) key)) (sym f)
    | false ↦ λ i. h.words k (below k j i less)
  ] refl;
}
  where
    same : (a b : ℕ) → (a == b) ≡ true → a ≡ b
    same a b h = grind (arith, nat_tests)

    below : (a b : ℕ) → (a == b) ≡ false → a < b + 1 → a < b
    below a b h l = grind (arith, nat_tests)

module _ (ws : List ℕ) (its : List ℕ) (s : SpellsKey ws its) (key : List ℕ) where
  pub other-size : bucket_size ws ≢ length key → bucket_key ws ≢ key
  other-size ne e = ne (s.size ∙ ap length (sym s.spelt) ∙ ap length e)

  pub other-word : (j : ℕ) → j < packed_bucket (length key) → get_or ws (3 + j) 0 ≢ pack (drop (8 * j) key) → bucket_key ws ≢ key
  other-word j less ne e =
      let is : its ≡ key = sym s.spelt ∙ e in
      ne (sym (get_dropped 3 j ws) ∙ sym (get_taken (packed_bucket (length key)) j (drop 3 ws) less)
      ∙ ap (λ l. get_or l j 0) (subst (λ x. take (packed_bucket (length x)) (drop 3 ws) ≡ packed (packed_bucket (length x)) x) is s.filled)
      ∙ packed-at (packed_bucket (length key)) j key less)

  pub all-words : AreBytes key → 3 + packed_bucket (length its) ≤ length ws → bucket_size ws ≡ length key
      → Agree (packed_bucket (length key)) ws key → bucket_key ws ≡ key
  all-words bytes long size h =
      let same : length its ≡ length key = sym s.size ∙ size in
      let enough : packed_bucket (length key) ≤ length (drop 3 ws) = subst (λ n. packed_bucket n ≤ length (drop 3 ws)) same
      (omega (arith, length-drop 3 ws, long)) in
      let list : take (packed_bucket (length key)) (drop 3 ws) ≡ packed (packed_bucket (length key)) key =
      as-packed (packed_bucket (length key)) (drop 3 ws) key enough (λ k less. get_dropped 3 k ws ∙ h.words k less) in
      s.spelt ∙ same-words its key s.bytes bytes same
      (sym (subst (λ n. take (packed_bucket n) (drop 3 ws) ≡ packed (packed_bucket n) its) same s.filled) ∙ list)

-- ---- a block that is filled

-- words that spell the key, once they are all there
pub filled-key : (ws key : List ℕ) → AreBytes key → length key ≤ 1000 → bucket_size ws ≡ length key → length ws ≡ room
    (3 + packed_bucket (length key)) → 3 + packed_bucket (length key) ≤ length ws
    → Agree (packed_bucket (length key)) ws key → SpellsKey ws key
unfolding bucket_key
filled-key ws key bytes short size fits long h =
    let list : take (packed_bucket (length key)) (drop 3 ws) ≡ packed (packed_bucket (length key)) key =
    as-packed (packed_bucket (length key)) (drop 3 ws) key (omega (arith, length-drop 3 ws, long)) (λ k less. get_dropped 3 k ws ∙ h.words k less) in
    record {
      spelt = ap (λ n. take n (bucket_bytes_of (take (packed_bucket n) (drop 3 ws)))) size ∙ ap (λ l. take (length key) (bucket_bytes_of l)) list
          ∙ bytes-packed (packed_bucket (length key)) (length key) key bytes refl (enough (length key));
      bytes = bytes;
      short = short;
      size = size;
      filled = list;
      fits = fits;
    }
  where
    enough : (n : ℕ) → n ≤ 8 * ((n + 7) / 8)
    enough n = omega arith

get-set : (ws : List ℕ) (i x k : ℕ) → i < length ws → k ≢ i → get_or (slice_set ws i x) k 0 ≡ get_or ws k 0
get-set [] i x k h ne = absurd (omega arith)
get-set (w ∷ ws) zero x zero h ne = absurd (ne refl)
get-set (w ∷ ws) zero x (suc k) h ne = refl
get-set (w ∷ ws) (suc i) x zero h ne = refl
get-set (w ∷ ws) (suc i) x (suc k) h ne = get-set ws i x k (omega arith) (λ e. ne (ap suc e))

get-put : (ws : List ℕ) (i x : ℕ) → i < length ws → get_or (slice_set ws i x) i 0 ≡ x
get-put [] i x h = absurd (omega arith)
get-put (w ∷ ws) zero x h = refl
get-put (w ∷ ws) (suc i) x h = get-put ws i x (omega arith)

-- a bucket that is filled up to the j-th word of its key
pub record IsFilled (j : ℕ) (ws : List ℕ) (next value : ℕ) (key : List ℕ) : Type 0 where
  pub link : get_or ws 0 0 ≡ next
  pub worth : get_or ws 1 0 ≡ value
  pub size : bucket_size ws ≡ length key
  pub words : Agree j ws key

pub fill-more : (j : ℕ) (ws : List ℕ) (next value : ℕ) (key : List ℕ) (x : ℕ) → 3 + j < length ws → x ≡ pack (drop (8 * j) key)
    → IsFilled j ws next value key → IsFilled (j + 1) (slice_set ws (3 + j) x) next value key
fill-more j ws next value key x long e h = record {
  link = get-set ws (3 + j) x 0 long (omega arith) ∙ h.link;
  worth = get-set ws (3 + j) x 1 long (omega arith) ∙ h.worth;
  size = get-set ws (3 + j) x 2 long (omega arith) ∙ h.size;
  words = agree-more j (slice_set ws (3 + j) x) key (get-put ws (3 + j) x long ∙ e) (record {
    words = λ k less. get-set ws (3 + j) x (3 + k) long (omega arith) ∙ h.words.words k less;
  });
}

pub three-set : (ws key : List ℕ) (next value n : ℕ) → 3 ≤ length ws → n ≡ length key
    → IsFilled 0 (slice_set (slice_set (slice_set ws 0 next) 1 value) 2 n) next value key
three-set [] key next value n h e = absurd (omega arith)
three-set (x ∷ []) key next value n h e = absurd (omega arith)
three-set (x ∷ y ∷ []) key next value n h e = absurd (omega arith)
three-set (x ∷ y ∷ z ∷ ws) key next value n h e = record { link = refl; worth = refl; size = e; words = agree-none (next ∷ value ∷ n ∷ ws) key }

-- a block that was filled is a bucket
pub made-bucket : (a b : Blocks) (n next value : ℕ) (key : List ℕ) → value < 2 ^ 64 → AreBytes key → length key ≤ 1000 → n < 4294967296 → Frame a b [] (n ∷ [])
    → length (words_of b n) ≡ room (3 + packed_bucket (length key)) → 3 + packed_bucket (length key) ≤ length (words_of b n)
    → IsFilled (packed_bucket (length key)) (words_of b n) next value key → IsMadeBucket a b next value key n
made-bucket a b n next value key word bytes short low f fits long h =
    let s = filled-key (words_of b n) key bytes short h.size fits long h.words in
    record {
      bucket = record {
        live = f.inside n (ap (λ t. t || false) (itself n));
        low = low;
        key = subst (SpellsKey (words_of b n)) (sym s.spelt) s;
        value = subst (λ x. x < 2 ^ 64) (sym h.worth) word;
      };
      entry = ap (λ k. (k, get_or (words_of b n) 1 0)) s.spelt ∙ ap (λ v. (key, v)) h.worth;
      link = h.link;
      frame = f;
    }

-- what a slice of bytes holds
pub bytes-of : (s : List ℕ) → ((i : ℕ) → get_or s i 0 < 256) → AreBytes s
bytes-of [] h = tt
bytes-of (c ∷ s) h = (h 0, bytes-of s (λ i. h (suc i)))

-- the block that a reference names
pub number-of : (w n : ℕ) → block_of w ≡ Some n → n ≡ number_of w
number-of w n = elim (w == 0) as (λ t. cond t None (Some (number_of w)) ≡ Some n → n ≡ number_of w) [
  | true ↦ λ h. absurd (none-some h)
  | false ↦ λ h. sym (ap (λ o. unwrap_or o 0) h)
]
  where
    none-some : None ≡ Some n → ⊥
    none-some h = cc
