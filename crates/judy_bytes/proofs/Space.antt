-- The words of a map's blocks: at most 16 for each piece of its keys.
use Rattle.std.proofs.Common.{◌≡◌, ◌≢◌, ℕ, ◌+◌, ◌*◌, ◌/◌, ◌<◌, ◌≤◌, true, false, cond, ◌||◌, ◌==◌, List, [], ◌∷◌, ◌++◌, length}
use Rattle.std.proofs.Common.{get_or, length-append, Some, None, ap, sym, ◌∙◌, refl, subst, unwrap_or, arith}
use Rattle.std.specs.Prelude.{nat_le}
use Rattle.std.proofs.lemmas.Bool.Decides.{nat_tests}
use Rattle.std.proofs.lemmas.List.Sums.{sum_by-cons}
use Rattle.std.specs.declared.cmp.Ordering.TheVariants.{Less, Equal, Greater}
use Rattle.std.specs.Ordering.{eq_by_cmp, is_eq}
use Rattle.std.specs.FinMap.{is_sorted}
use Rattle.std.specs.FinMap.Entries.{by_order}
use Rattle.std.proofs.Math.Bool.{or-true}
use Rattle.std.proofs.lemmas.Option.{none-some}
use Rattle.judy_arena.specs.Blocks.{Blocks, ArenaState, words_of}
use Rattle.judy_arena.specs.Frame.{holds}
use Rattle.judy_arena.specs.Room.{room}
use Rattle.judy_arena.specs.Totals.{words_over}
use Rattle.judy_arena.proofs.lemmas.BlockLaws.{itself, words_over-append, words_over-cons}
use Rattle.judy_arena.proofs.lemmas.RoomLaws.{room-least, room-tight}
use Rattle.judy_words.specs.LongArrays.{long_in, long_numbers}
use Rattle.judy_model.specs.Contents.{Entries, word_order, string_order, value_of, with_entry}
use Rattle.judy_model.specs.Pieces.{pieces_of, string_pieces}
use Rattle.judy_model.proofs.lemmas.EntryLemmas.{word_itself, same_string}
use Rattle.judy_model.proofs.lemmas.StateLemmas.{same_name}
use Rattle.judy_bytes.specs.Buckets.{IsBucket, bucket_key, packed_bucket}
use Rattle.judy_bytes.specs.Chains.{ByteEntries, chain, bucket_entries, Linked, HasEachOnce}
use Rattle.judy_bytes.specs.BytesArrays.{bucket_numbers, in_order, bytes_in, bytes_numbers, first_at, if_some, HaveHash, IsBytesArray, HasBytesSpace}
use Rattle.judy_bytes.specs.Laws.{SpaceIsBounded}
use Rattle.judy_bytes.proofs.Below.{words-rise, words-few, words-none, words-empty}
use Rattle.judy_bytes.proofs.Chains.{linked-bucket}
use Rattle.judy_bytes.proofs.Counts.{entries-length, ordered-length}
use Rattle.judy_bytes.proofs.Numbers.{find-none, find-gathered, found-ordered, under, under-none, of-buckets, tail-rises, found-later}
use Rattle.judy_tree.proofs.lemmas.Joins.{found-first, gone-after}

-- the pieces of keys
abbrev pieces : ByteEntries → ℕ
pieces l = pieces_of string_pieces l

pieces-cons : (e : List ℕ × ℕ) (l : ByteEntries) → pieces (e ∷ l) ≡ length e.0 / 8 + 1 + pieces l
pieces-cons e l = sum_by-cons (λ e. string_pieces e.0) e l

pieces-some : (l : ByteEntries) → length l ≤ pieces l
pieces-some [] = omega arith
pieces-some (e ∷ l) = let r = pieces-some l in let p = pieces-cons e l in omega arith

-- ---- a bucket

by-most : {P : Type 0} (n m : ℕ) → (n ≤ m → P) → (m < n → P) → P
by-most {P} n m f g = elim (nat_le n m) as (λ t. nat_le n m ≡ t → P) [
  | true ↦ λ e. f (le n m e)
  | false ↦ λ e. g (gt n m e)
] refl
  where
    le : (n m : ℕ) → nat_le n m ≡ true → n ≤ m
    le n m e = grind (arith, nat_tests)

    gt : (n m : ℕ) → nat_le n m ≡ false → m < n
    gt n m e = grind (arith, nat_tests)

bucket-most : (size : ℕ) → room (3 + packed_bucket size) ≤ 4 * (size / 8 + 1)
bucket-most size =
    by-most (packed_bucket size) 1
    (λ one. let r = room-tight.small (3 + packed_bucket size) (omega (arith, one)) in omega (arith, r))
    (λ more. by-most (packed_bucket size) 2
    (λ two. let r : room (3 + packed_bucket size) ≤ 8 = room-least.least (3 + packed_bucket size) 1 (omega (arith, two))
    (omega arith) in omega (arith, r, more))
    (λ three. let r = room-tight.twice (3 + packed_bucket size) (omega (arith, three)) in omega (arith, r, three)))

room-four : (len : ℕ) → 4 ≤ room (3 + len)
room-four len = let r = room-tight.rises 3 (3 + len) (omega arith) in let s = room-tight.small 3 (omega arith) in omega arith

bucket-words : (b : Blocks) (n : ℕ) → IsBucket b n → length (words_of b n) ≤ 4 * (length (bucket_key (words_of b n)) / 8 + 1)
bucket-words b n h = let f = h.key.fits in let m = bucket-most (length (bucket_key (words_of b n))) in omega (arith, f, m)

bucket-four : (b : Blocks) (n : ℕ) → IsBucket b n → 4 ≤ length (words_of b n)
bucket-four b n h = let f = h.key.fits in let m = room-four (packed_bucket (length (bucket_key (words_of b n)))) in omega (arith, f, m)

-- ---- all buckets

buckets-words : (b : Blocks) (ns : List ℕ) → ((q : ℕ) → holds q ns ≡ true → IsBucket b q) → words_over b ns ≤ 4 * pieces (bucket_entries b ns)
buckets-words b [] h = omega arith
buckets-words b (n ∷ ns) h =
    let r = buckets-words b ns (λ q i. h q (ap (λ t. (q == n) || t) i ∙ or-true (q == n))) in
    let w = words_over-cons b n ns in
    let p = pieces-cons (bucket_key (words_of b n), get_or (words_of b n) 1 0) (bucket_entries b ns) in
    let o = bucket-words b n (h n (ap (λ t. t || holds n ns) (itself n))) in
    omega (arith, r, w, p, o)

buckets-four : (b : Blocks) (ns : List ℕ) → ((q : ℕ) → holds q ns ≡ true → IsBucket b q) → 0 < length ns → 4 ≤ words_over b ns
buckets-four b [] h some = absurd (omega arith)
buckets-four b (n ∷ ns) h some =
    let w = words_over-cons b n ns in
    let o = bucket-four b n (h n (ap (λ t. t || holds n ns) (itself n))) in
    omega (arith, w, o)

-- ---- each key once

once-both : (b : Blocks) (xs ys : List ℕ) → HasEachOnce (bucket_entries b xs) → HasEachOnce (bucket_entries b ys)
    → ((k : List ℕ) (v : ℕ) → value_of string_order (bucket_entries b xs) k ≡ Some v → value_of string_order (bucket_entries b ys) k
    ≡ None) → HasEachOnce (bucket_entries b (xs ++ ys))
once-both b [] ys h k apart = k
once-both b (n ∷ xs) ys h k apart = (
  find-none b (bucket_key (words_of b n)) xs ys h.0 (apart (bucket_key (words_of b n)) (get_or (words_of b n) 1 0)
      (ap (λ t. cond t (Some (get_or (words_of b n) 1 0)) (value_of string_order (bucket_entries b xs) (bucket_key (words_of b n))))
      (same_name (bucket_key (words_of b n))))),
  once-both b xs ys h.1 k (λ q v i. apart q v (later q v i)),
)
  where
    later : (q : List ℕ) (v : ℕ) → value_of string_order (bucket_entries b xs) q ≡ Some v → value_of string_order (bucket_entries b (n ∷ xs)) q ≡ Some v
    later q v i = elim (eq_by_cmp string_order q (bucket_key (words_of b n))) as (λ t. eq_by_cmp string_order q (bucket_key (words_of b n)) ≡ t
        → cond t (Some (get_or (words_of b n) 1 0)) (value_of string_order (bucket_entries b xs) q) ≡ Some v) [
          | true ↦ λ e. absurd (none-some _ (sym h.0
              ∙ ap (value_of string_order (bucket_entries b xs)) (sym (same_string q (bucket_key (words_of b n)) e)) ∙ i))
          | false ↦ λ e. i
        ] refl

gathered-once : (H : List ℕ → ℕ) (b : Blocks) (es : Entries ℕ) → is_sorted word_order es ≡ true
    → ((k v : ℕ) → value_of word_order es k ≡ Some v → HaveHash H k (bucket_entries b (chain b v)) × HasEachOnce
    (bucket_entries b (chain b v))) → HasEachOnce (bucket_entries b (bucket_numbers b es))
gathered-once H b [] s h = tt
gathered-once H b (e ∷ es) s h =
    let own = h e.0 e.1 (found-first e es) in
    once-both b (chain b e.1) (bucket_numbers b es) own.1 (gathered-once H b es (tail-rises e es s) (λ k v i. h k v (found-later e es k v s i)))
    (λ k v i. find-gathered H b k es (tail-rises e es s) (λ q u j. (h q u (found-later e es q u s j)).0)
    ∙ ap (λ q. under b k (value_of word_order es q)) (own.0 k v i)
    ∙ ap (under b k) (gone-after e es e.0 s (word_itself e.0)) ∙ under-none b k)

put-pieces : (l : ByteEntries) (key : List ℕ) (v : ℕ) → value_of string_order l key ≡ None
    → pieces (with_entry string_order l key v) ≡ length key / 8 + 1 + pieces l
put-pieces [] key v h = pieces-cons (key, v) []
put-pieces (e ∷ l) key v h = elim (string_order key e.0) as (λ o. cond (is_eq o) (Some e.1) (value_of string_order l key) ≡ None
    → pieces (by_order o ((key, v) ∷ e ∷ l) ((e.0, v) ∷ l) (e ∷ with_entry string_order l key v)) ≡ length key / 8 + 1 + pieces (e ∷ l)) [
      | Less ↦ λ k. pieces-cons (key, v) (e ∷ l)
      | Equal ↦ λ k. absurd (none-some _ (sym k))
      | Greater ↦ λ k. let r = put-pieces l key v k in let p = pieces-cons e (with_entry string_order l key v) in
          let q = pieces-cons e l in omega (arith, r, p, q)
    ] h

ordered-pieces : (es : ByteEntries) → HasEachOnce es → pieces (in_order es) ≡ pieces es
ordered-pieces [] h = refl
ordered-pieces (e ∷ es) h =
    let p = put-pieces (in_order es) e.0 e.1 (found-ordered es e.0 ∙ h.0) in
    let r = ordered-pieces es h.1 in
    let q = pieces-cons e es in
    omega (arith, p, r, q)

-- ---- the whole map

chain-some : (b : Blocks) (v : ℕ) (ns : List ℕ) → Linked b v ns → v ≢ 0 → 0 < length ns
chain-some b v [] l ne = absurd (ne l)
chain-some b v (n ∷ ns) l ne = omega arith

words-counted : (b : Blocks) (es : Entries ℕ) → is_sorted word_order es ≡ true → ((k v : ℕ) → value_of word_order es k ≡ Some v
    → 0 < length (chain b v)) → length es ≤ length (bucket_numbers b es)
words-counted b [] s h = omega arith
words-counted b (e ∷ es) s h =
    let r = words-counted b es (tail-rises e es s) (λ k v i. h k v (found-later e es k v s i)) in
    let o = h e.0 e.1 (found-first e es) in
    omega (arith, r, o, length-append (chain b e.1) (bucket_numbers b es))

module _ (H : List ℕ → ℕ) (b : Blocks) (w : ℕ) (h : IsBytesArray H b w) where
  at-first : (k v : ℕ) → value_of word_order (long_in b w) k ≡ Some v → first_at b w k ≡ v
  at-first k v i = ap (λ o. unwrap_or o 0) i

  not-zero : (k v : ℕ) → value_of word_order (long_in b w) k ≡ Some v → v ≢ 0
  not-zero k v i e = none-some _ (sym (h.filled k ∙ ap if_some (at-first k v i ∙ e)) ∙ i)

  counted : length (long_in b w) ≤ length (bucket_numbers b (long_in b w))
  counted = words-counted b (long_in b w) (words-rise b w h.words)
      (λ k v i. chain-some b v (chain b v) (subst (λ u. Linked b u (chain b u)) (at-first k v i) (h.chains k).linked) (not-zero k v i))

  all-buckets : (q : ℕ) → holds q (bucket_numbers b (long_in b w)) ≡ true → IsBucket b q
  all-buckets q i =
      let u = of-buckets b q (long_in b w) (words-rise b w h.words) i in
      linked-bucket b u.first q (chain b u.first) (subst (λ v. Linked b v (chain b v)) (at-first u.hash u.first u.found) (h.chains u.hash).linked) u.held

  pub once : HasEachOnce (bucket_entries b (bucket_numbers b (long_in b w)))
  once = gathered-once H b (long_in b w) (words-rise b w h.words) (λ k v i. (
    subst (λ u. HaveHash H k (bucket_entries b (chain b u))) (at-first k v i) (h.hashes k),
    subst (λ u. HasEachOnce (bucket_entries b (chain b u))) (at-first k v i) (h.chains k).keys,
  ))

  own-words : words_over b (long_numbers b w) ≤ 12 * length (long_in b w)
  own-words = by-most (length (long_in b w)) 0
      (λ none. let z = words-empty b w h.words (no-items (long_in b w) none) in
      let e = ap (words_over b) (ap (long_numbers b) z ∙ (words-none b).2) in omega (arith, e))
      (λ some. let f = words-few b w h.words some in omega (arith, f))
    where
      no-items : (l : Entries ℕ) → length l ≤ 0 → l ≡ []
      no-items [] h = refl
      no-items (e ∷ l) h = absurd (omega arith)

  content-pieces : pieces (bytes_in b w) ≡ pieces (bucket_entries b (bucket_numbers b (long_in b w)))
  unfolding bytes_in
  content-pieces = ordered-pieces (bucket_entries b (bucket_numbers b (long_in b w))) once

  pub most-words : words_over b (bytes_numbers b w) ≤ 16 * pieces (bytes_in b w)
  unfolding bytes_numbers
  most-words =
      let s = words_over-append b (long_numbers b w) (bucket_numbers b (long_in b w)) in
      let o = own-words in
      let k = buckets-words b (bucket_numbers b (long_in b w)) all-buckets in
      let c = counted in
      let l = entries-length b (bucket_numbers b (long_in b w)) in
      let p = pieces-some (bucket_entries b (bucket_numbers b (long_in b w))) in
      let e = content-pieces in
      omega (arith, s, o, k, c, l, p, e)

  content-length : length (bytes_in b w) ≤ length (bucket_numbers b (long_in b w))
  unfolding bytes_in
  content-length =
      let o = ordered-length (bucket_entries b (bucket_numbers b (long_in b w))) in
      let l = entries-length b (bucket_numbers b (long_in b w)) in omega (arith, o, l)

  pub least-words : 0 < length (bytes_in b w) → 4 ≤ words_over b (bytes_numbers b w)
  unfolding bytes_numbers
  least-words some =
      let s = words_over-append b (long_numbers b w) (bucket_numbers b (long_in b w)) in
      let l = content-length in
      let f = buckets-four b (bucket_numbers b (long_in b w)) all-buckets (omega (arith, some, l)) in
      omega (arith, s, f)

pub space-is-bounded : SpaceIsBounded
space-is-bounded H b w l ns s = (
  subst (λ ms. words_over b ms ≤ 16 * pieces l) s.blocks (subst (λ m. words_over b (bytes_numbers b w) ≤ 16 * pieces m) s.content (most-words H b w s.sound)),
  λ some. subst (λ ms. 4 ≤ words_over b ms) s.blocks (least-words H b w s.sound (subst (λ m. 0 < length m) (sym s.content) some)),
)

-- so every sound map has few words
pub map-has-space : (H : List ℕ → ℕ) (a : ArenaState) (w : ℕ) → IsBytesArray H a.blocks w → HasBytesSpace a w
map-has-space H a w h = record { most = most-words H a.blocks w h; least = least-words H a.blocks w h }
