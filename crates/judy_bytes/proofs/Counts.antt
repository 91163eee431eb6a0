-- How many keys a map has, and how many blocks.
use Rattle.std.proofs.Common.{◌≡◌, ℕ, suc, ◌<◌, ◌≤◌, Bool, true, false, cond, not, ◌||◌, ◌==◌, List, [], ◌∷◌, ◌++◌, length}
use Rattle.std.proofs.Common.{Some, None, is_some, ap, sym, ◌∙◌, refl, subst, unwrap_or, arith}
use Rattle.std.specs.declared.cmp.Ordering.TheVariants.{Less, Equal, Greater}
use Rattle.std.specs.Ordering.{eq_by_cmp, is_eq, is_lt}
use Rattle.std.specs.FinMap.{is_sorted}
use Rattle.std.specs.FinMap.Entries.{by_order, below_all}
use Rattle.std.proofs.lemmas.Bool.{false≢true as not-true, false_from_ne_true, and_from, not-true as is-not}
use Rattle.std.proofs.lemmas.Option.{none-some}
use Rattle.judy_arena.specs.Blocks.{Blocks}
use Rattle.judy_arena.specs.Frame.{holds}
use Rattle.judy_arena.specs.Totals.{are_distinct}
use Rattle.judy_arena.proofs.lemmas.FrameLaws.{holds-append}
use Rattle.judy_arena.proofs.lemmas.BlockLaws.{itself}
use Rattle.judy_words.specs.LongArrays.{long_in, long_numbers}
use Rattle.judy_model.specs.Contents.{Entries, word_order, string_order, value_of, has_key, with_entry, without_key}
use Rattle.judy_model.proofs.lemmas.TestLemmas.{and_right, and_left, from_T, is_Less}
use Rattle.judy_model.proofs.lemmas.EntryLemmas.{word_itself, same_string}
use Rattle.judy_bytes.specs.Chains.{ByteEntries, chain, bucket_entries}
use Rattle.judy_bytes.specs.BytesArrays.{bucket_numbers, in_order, bytes_in, bytes_numbers, first_at, IsBytesArray}
use Rattle.judy_bytes.proofs.Below.{words-rise, words-once}
use Rattle.judy_bytes.proofs.Contents.{content-rises}
use Rattle.judy_bytes.proofs.Links.{all-low}
use Rattle.judy_bytes.proofs.Numbers.{of-buckets, tail-rises, found-later}
use Rattle.judy_tree.proofs.lemmas.Joins.{found-first, gone-after}
use Rattle.judy_tree.proofs.lemmas.Counts.{pigeons}

-- ---- one key less

without-none : (l : ByteEntries) (key : List ℕ) → value_of string_order l key ≡ None → without_key string_order l key ≡ l
without-none [] key h = refl
without-none (e ∷ l) key h = elim (eq_by_cmp string_order key e.0) as (λ t. cond t (Some e.1) (value_of string_order l key) ≡ None
    → cond (not t) (e ∷ without_key string_order l key) (without_key string_order l key) ≡ e ∷ l) [
      | true ↦ λ k. absurd (none-some _ (sym k))
      | false ↦ λ k. ap (λ m. e ∷ m) (without-none l key k)
    ] h

pub string-below : (q : List ℕ) (l : ByteEntries) → below_all string_order q l ≡ true → value_of string_order l q ≡ None
string-below q [] h = refl
string-below q (e ∷ l) h = ap (λ r. cond (is_eq r) (Some e.1) (value_of string_order l q))
    (is_Less (string_order q e.0) (and_left (is_lt (string_order q e.0)) _ h)) ∙ string-below q l
    (and_right (is_lt (string_order q e.0)) _ h)

length-without-list : (l : ByteEntries) (key : List ℕ) → is_sorted string_order l ≡ true → has_key string_order l key ≡ true
    → suc (length (without_key string_order l key)) ≡ length l
length-without-list [] key s h = absurd (not-true h)
length-without-list (e ∷ l) key s h =
    elim (eq_by_cmp string_order key e.0) as (λ t. eq_by_cmp string_order key e.0 ≡ t → is_some (cond t (Some e.1) (value_of string_order l key)) ≡ true
    → suc (length (cond (not t) (e ∷ without_key string_order l key) (without_key string_order l key))) ≡ suc (length l)) [
      | true ↦ λ i k. ap (λ m. suc (length m))
          (without-none l key (ap (value_of string_order l) (same_string key e.0 i) ∙ string-below e.0 l
          (and_left (below_all string_order e.0 l) _ s)))
      | false ↦ λ i k. ap suc (length-without-list l key (and_right (below_all string_order e.0 l) _ s) k)
    ] refl h

pub length-without : (b : Blocks) (w : ℕ) (key : List ℕ) → has_key string_order (bytes_in b w) key ≡ true
    → suc (length (without_key string_order (bytes_in b w) key)) ≡ length (bytes_in b w)
length-without b w key h = length-without-list (bytes_in b w) key (from_T _ (content-rises b w)) h

-- ---- no more keys than buckets

put-length : (l : ByteEntries) (key : List ℕ) (v : ℕ) → length (with_entry string_order l key v) ≤ suc (length l)
put-length [] key v = omega arith
put-length (e ∷ l) key v = elim (string_order key e.0) as
    (λ o. length (by_order o ((key, v) ∷ e ∷ l) ((e.0, v) ∷ l) (e ∷ with_entry string_order l key v)) ≤ suc (suc (length l))) [
      | Less ↦ omega arith
      | Equal ↦ omega arith
      | Greater ↦ let r = put-length l key v in omega arith
    ]

pub ordered-length : (es : ByteEntries) → length (in_order es) ≤ length es
ordered-length [] = omega arith
ordered-length (e ∷ es) = let r = ordered-length es in let p = put-length (in_order es) e.0 e.1 in omega arith

pub entries-length : (b : Blocks) (ns : List ℕ) → length (bucket_entries b ns) ≡ length ns
entries-length b [] = refl
entries-length b (n ∷ ns) = ap suc (entries-length b ns)

-- ---- each block stands once

of-two : (xs ys : List ℕ) → are_distinct xs ≡ true → are_distinct ys ≡ true → ((q : ℕ) → holds q xs ≡ true → holds q ys ≡ false)
    → are_distinct (xs ++ ys) ≡ true
of-two [] ys h k a = k
of-two (x ∷ xs) ys h k a =
    and_from (not (holds x (xs ++ ys))) _
    (ap not (holds-append x xs ys ∙ or-both (holds x xs) (holds x ys) (is-not (holds x xs) (and_left (not (holds x xs)) _ h))
    (a x (ap (λ t. t || holds x xs) (itself x)))))
    (of-two xs ys (and_right (not (holds x xs)) _ h) k (λ q i. a q (ap (λ t. (q == x) || t) i ∙ or-true (q == x))))
  where
    or-true : (t : Bool) → (t || true) ≡ true
    or-true true = refl
    or-true false = refl

    or-both : (s t : Bool) → s ≡ false → t ≡ false → (s || t) ≡ false
    or-both s t h k = ap (λ u. u || t) h ∙ k

-- chains that have no bucket in common
record AreApart (b : Blocks) (es : Entries ℕ) : Type 0 where
  pub each : (k v : ℕ) → value_of word_order es k ≡ Some v → are_distinct (chain b v) ≡ true
  pub apart : (k l u v q : ℕ) → value_of word_order es k ≡ Some u → value_of word_order es l ≡ Some v → holds q (chain b u) ≡ true
      → holds q (chain b v) ≡ true → k ≡ l

buckets-once : (b : Blocks) (es : Entries ℕ) → is_sorted word_order es ≡ true → AreApart b es → are_distinct (bucket_numbers b es) ≡ true
buckets-once b [] s h = refl
buckets-once b (e ∷ es) s h =
    let tail = tail-rises e es s in
    of-two (chain b e.1) (bucket_numbers b es) (h.each e.0 e.1 (found-first e es))
    (buckets-once b es tail (record {
      each = λ k v i. h.each k v (found-later e es k v s i);
      apart = λ k l u v q i j hu hv. h.apart k l u v q (found-later e es k u s i) (found-later e es l v s j) hu hv;
    }))
    (λ q i. false_from_ne_true (holds q (bucket_numbers b es)) (λ j.
    let u = of-buckets b q es tail j in
    let same : e.0 ≡ u.hash = h.apart e.0 u.hash e.1 u.first q (found-first e es) (found-later e es u.hash u.first s u.found) i u.held in
    none-some _ (sym (gone-after e es u.hash s (ap (λ x. eq_by_cmp word_order x e.0) (sym same) ∙ word_itself e.0)) ∙ u.found)))

module _ (H : List ℕ → ℕ) (b : Blocks) (w : ℕ) (h : IsBytesArray H b w) where
  at-first : (k v : ℕ) → value_of word_order (long_in b w) k ≡ Some v → first_at b w k ≡ v
  at-first k v i = ap (λ o. unwrap_or o 0) i

  are-apart : AreApart b (long_in b w)
  are-apart = record {
    each = λ k v i. subst (λ u. are_distinct (chain b u) ≡ true) (at-first k v i) (h.chains k).once;
    apart = λ k l u v q i j hu hv. h.apart k l q (ap (λ x. holds q (chain b x)) (at-first k u i) ∙ hu) (ap (λ x. holds q (chain b x)) (at-first l v j) ∙ hv);
  }

  all-once : are_distinct (bucket_numbers b (long_in b w)) ≡ true
  all-once = buckets-once b (long_in b w) (words-rise b w h.words) are-apart

  pub numbers-once : are_distinct (bytes_numbers b w) ≡ true
  unfolding bytes_numbers
  numbers-once = of-two (long_numbers b w) (bucket_numbers b (long_in b w)) (words-once b w h.words) all-once
      (λ q i. false_from_ne_true (holds q (bucket_numbers b (long_in b w))) (λ j.
      let u = of-buckets b q (long_in b w) (words-rise b w h.words) j in
      not-true (sym (h.below u.hash q (ap (λ x. holds q (chain b x)) (at-first u.hash u.first u.found) ∙ u.held)) ∙ i)))

  bucket-low : (q : ℕ) → holds q (bucket_numbers b (long_in b w)) ≡ true → q < 4294967296
  bucket-low q i =
      let u = of-buckets b q (long_in b w) (words-rise b w h.words) i in
      all-low b (first_at b w u.hash) (chain b (first_at b w u.hash)) (h.chains u.hash).linked q
      (ap (λ x. holds q (chain b x)) (at-first u.hash u.first u.found) ∙ u.held)

  -- there are no more keys than block numbers
  pub few-keys : length (bytes_in b w) ≤ 4294967296
  unfolding bytes_in
  few-keys =
      let p = pigeons 4294967296 (bucket_numbers b (long_in b w)) all-once bucket-low in
      let f = ordered-length (bucket_entries b (bucket_numbers b (long_in b w))) in
      let e = entries-length b (bucket_numbers b (long_in b w)) in
      omega arith
