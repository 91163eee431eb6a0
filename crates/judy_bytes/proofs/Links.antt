-- Chains of buckets: read off their references, kept where their blocks are, and changed at one
-- key.
use Rattle.std.proofs.Common.{◌≡◌, ◌≢◌, ℕ, zero, suc, ◌<◌, ◌≤◌, Bool, true, false, cond, not, ◌&&◌, ◌||◌, ◌==◌, List, [], ◌∷◌}
use Rattle.std.proofs.Common.{length, get_or, Some, None, ap, sym, ◌∙◌, refl, subst, arith, unwrap_or}
use Rattle.std.specs.Prelude.{nat_le}
use Rattle.std.proofs.lemmas.Nat.{div-mul-add}
use Rattle.std.proofs.lemmas.Bool.Decides.{nat_tests}
use Rattle.std.specs.Ordering.{eq_by_cmp}
use Rattle.std.proofs.lemmas.Bool.{false≢true as not-true, not-true as is-not}
use Rattle.std.proofs.lemmas.Option.{none-some}
use Rattle.judy_arena.specs.Blocks.{Blocks, block, words_of, is_live}
use Rattle.judy_arena.specs.Frame.{holds}
use Rattle.judy_refs.specs.References.{number_of, block_of, word_of, is_reference, kind_part}
use Rattle.judy_arena.specs.Totals.{are_distinct}
use Rattle.judy_refs.specs.declared.Kind.TheVariants.{Bucket}
use Rattle.judy_arena.proofs.lemmas.BlockLaws.{itself, same_test}
use Rattle.judy_model.specs.Contents.{string_order, value_of}
use Rattle.judy_model.proofs.lemmas.TestLemmas.{and_right, and_left}
use Rattle.judy_model.proofs.lemmas.EntryLemmas.{same_Some, string_is}
use Rattle.judy_bytes.specs.Buckets.{bucket_key, bucket_entry, next_of, IsBucket}
use Rattle.judy_bytes.specs.Chains.{links, chain, bucket_entries, Linked, HasEachOnce, IsBucketChain, IsFoundBucket}
use Rattle.judy_bytes.proofs.Buckets.{bucket-kept, number-named, not-nothing, block-named}
use Rattle.judy_tree.proofs.lemmas.Joins.{string_other}
use Rattle.judy_tree.proofs.lemmas.Counts.{pigeons}

-- ---- what a reference leads to

links-are : (r : ℕ) (b : Blocks) (w : ℕ) (ns : List ℕ) → Linked b w ns → length ns ≤ r → links r b w ≡ ns
unfolding links
links-are zero b w [] l h = refl
links-are zero b w (n ∷ ns) l h = absurd (omega arith)
links-are (suc r) b w [] l h = ap (λ v. cond (v == 0) [] (number_of v ∷ links r b (next_of b (number_of v)))) l
links-are (suc r) b w (n ∷ ns) l h =
    ap (λ v. cond (v == 0) [] (number_of v ∷ links r b (next_of b (number_of v)))) l.0
    ∙ ap (λ t. cond t [] (number_of (word_of Bucket n) ∷ links r b (next_of b (number_of (word_of Bucket n))))) (not-nothing n)
    ∙ ap (λ m. m ∷ links r b (next_of b m)) (number-named n l.1.low)
    ∙ ap (λ l. n ∷ l) (links-are r b (next_of b n) ns l.2 (omega arith))

pub all-low : (b : Blocks) (w : ℕ) (ns : List ℕ) → Linked b w ns → (q : ℕ) → holds q ns ≡ true → q < 4294967296
all-low b w [] l q h = absurd (not-true h)
all-low b w (n ∷ ns) l q h = elim (q == n) as (λ t. (q == n) ≡ t → (t || holds q ns) ≡ true → q < 4294967296) [
  | true ↦ λ e k. let s : q ≡ n = same_test q n e in let low = l.1.low in omega arith
  | false ↦ λ e k. all-low b (next_of b n) ns l.2 q k
] refl h

pub all-live : (b : Blocks) (w : ℕ) (ns : List ℕ) → Linked b w ns → (q : ℕ) → holds q ns ≡ true → is_live b q ≡ true
all-live b w [] l q h = absurd (not-true h)
all-live b w (n ∷ ns) l q h = elim (q == n) as (λ t. (q == n) ≡ t → (t || holds q ns) ≡ true → is_live b q ≡ true) [
  | true ↦ λ e k. ap (is_live b) (same_test q n e) ∙ l.1.live
  | false ↦ λ e k. all-live b (next_of b n) ns l.2 q k
] refl h

-- buckets that are linked, each once, are the chain
pub chain-is : (b : Blocks) (w : ℕ) (ns : List ℕ) → Linked b w ns → are_distinct ns ≡ true → chain b w ≡ ns
unfolding chain
chain-is b w ns l d = links-are 4294967296 b w ns l (pigeons 4294967296 ns d (all-low b w ns l))

pub chain-of : (b : Blocks) (w : ℕ) (ns : List ℕ) → Linked b w ns → are_distinct ns ≡ true → HasEachOnce (bucket_entries b ns) → IsBucketChain b w
chain-of b w ns l d k =
    let e : ns ≡ chain b w = sym (chain-is b w ns l d) in
    record { linked = subst (Linked b w) e l; once = subst (λ x. are_distinct x ≡ true) e d; keys = subst (λ x. HasEachOnce (bucket_entries b x)) e k }

-- nothing is the empty chain
pub chain-none : (b : Blocks) (w : ℕ) → w ≡ 0 → chain b w ≡ []
chain-none b w e = chain-is b w [] e refl

pub none-chain : (b : Blocks) (w : ℕ) → w ≡ 0 → IsBucketChain b w
none-chain b w e = chain-of b w [] e refl tt

-- a chain that begins with a bucket
pub record Begins (b : Blocks) (w n : ℕ) : Type 0 where
  pub word : w ≡ word_of Bucket n
  pub whole : chain b w ≡ n ∷ chain b (next_of b n)
  pub bucket : IsBucket b n
  pub tail : IsBucketChain b (next_of b n)
  pub out : holds n (chain b (next_of b n)) ≡ false
  pub key : value_of string_order (bucket_entries b (chain b (next_of b n))) (bucket_key (words_of b n)) ≡ None

begins-with : (b : Blocks) (w n : ℕ) (ns : List ℕ) → chain b w ≡ ns → Linked b w ns → are_distinct ns ≡ true → HasEachOnce
    (bucket_entries b ns) → block_of w ≡ Some n → Begins b w n
begins-with b w n [] e l d k f = absurd (none-some _ (sym (ap block_of l) ∙ f))
begins-with b w n (m ∷ ms) e l d k f =
    let same : m ≡ n = same_Some (sym (block-named m l.1.low) ∙ sym (ap block_of l.0) ∙ f) in
    let tail-once : are_distinct ms ≡ true = and_right (not (holds m ms)) _ d in
    let tail-is : chain b (next_of b m) ≡ ms = chain-is b (next_of b m) ms l.2 tail-once in
    subst (λ x. Begins b w x) same (record {
      word = l.0;
      whole = e ∙ ap (λ l. m ∷ l) (sym tail-is);
      bucket = l.1;
      tail = chain-of b (next_of b m) ms l.2 tail-once k.1;
      out = ap (holds m) tail-is ∙ is-not (holds m ms) (and_left (not (holds m ms)) _ d);
      key = ap (λ x. value_of string_order (bucket_entries b x) (bucket_key (words_of b m))) tail-is ∙ k.0;
    })

pub begins : (b : Blocks) (w n : ℕ) → IsBucketChain b w → block_of w ≡ Some n → Begins b w n
begins b w n h f = begins-with b w n (chain b w) refl h.linked h.once h.keys f

-- a chain with no bucket is nothing
pub ends : (b : Blocks) (w : ℕ) → block_of w ≡ None → w ≡ 0
ends b w = elim (w == 0) as (λ t. (w == 0) ≡ t → cond t None (Some (number_of w)) ≡ None → w ≡ 0) [
  | true ↦ λ e h. zero-test w e
  | false ↦ λ e h. absurd (none-some _ (sym h))
] refl
  where
    zero-test : (w : ℕ) → (w == 0) ≡ true → w ≡ 0
    zero-test w e = grind (arith, nat_tests)

-- ---- a chain is the same where its blocks are

pub record IsKept (a c : Blocks) (w : ℕ) (ns : List ℕ) : Type 0 where
  pub linked : Linked c w ns
  pub entries : bucket_entries c ns ≡ bucket_entries a ns

entry-kept : (a c : Blocks) (n : ℕ) → block c n ≡ block a n → bucket_entry c n ≡ bucket_entry a n
entry-kept a c n e = ap (λ o. (bucket_key (unwrap_or o []), get_or (unwrap_or o []) 1 0)) e

pub linked-kept : (a c : Blocks) (w : ℕ) (ns : List ℕ) → Linked a w ns → ((q : ℕ) → holds q ns ≡ true → block c q ≡ block a q) → IsKept a c w ns
linked-kept a c w [] l same = record { linked = l; entries = refl }
linked-kept a c w (n ∷ ns) l same =
    let own : block c n ≡ block a n = same n (ap (λ t. t || holds n ns) (itself n)) in
    let next : next_of c n ≡ next_of a n = ap (λ o. get_or (unwrap_or o []) 0 0) own in
    let rest = linked-kept a c (next_of a n) ns l.2 (λ q h. same q (ap (λ t. (q == n) || t) h ∙ or-true (q == n))) in
    record {
      linked = (l.0, bucket-kept a c n l.1 own, subst (λ x. Linked c x ns) (sym next) rest.linked);
      entries = ap (λ e. e ∷ bucket_entries c ns) (entry-kept a c n own) ∙ ap (λ l. bucket_entry a n ∷ l) rest.entries;
    }
  where
    or-true : (t : Bool) → (t || true) ≡ true
    or-true true = refl
    or-true false = refl

pub record Stays (a c : Blocks) (w : ℕ) : Type 0 where
  pub sound : IsBucketChain c w
  pub chain_is : chain c w ≡ chain a w
  pub entries : bucket_entries c (chain c w) ≡ bucket_entries a (chain a w)

pub chain-stays : (a c : Blocks) (w : ℕ) → IsBucketChain a w → ((q : ℕ) → holds q (chain a w) ≡ true → block c q ≡ block a q) → Stays a c w
chain-stays a c w h same =
    let k = linked-kept a c w (chain a w) h.linked same in
    let e : chain c w ≡ chain a w = chain-is c w (chain a w) k.linked h.once in
    record {
      sound = chain-of c w (chain a w) k.linked h.once (subst HasEachOnce (sym k.entries) h.keys);
      chain_is = e;
      entries = ap (bucket_entries c) e ∙ k.entries;
    }

-- ---- references

bucket-reference : (n : ℕ) → n < 4294967296 → is_reference (word_of Bucket n) ≡ true
bucket-reference n h =
    let k : kind_part (word_of Bucket n) ≡ 8 = div-mul-add 8 4294967296 n h in
    ap (λ p. (word_of Bucket n == 0) || (nat_le 1 p && nat_le p 8)) k ∙ or-true (word_of Bucket n == 0)
  where
    or-true : (t : Bool) → (t || true) ≡ true
    or-true true = refl
    or-true false = refl

linked-reference : (b : Blocks) (w : ℕ) (ns : List ℕ) → Linked b w ns → is_reference w ≡ true
linked-reference b w [] l = ap is_reference l
linked-reference b w (n ∷ ns) l = ap is_reference l.0 ∙ bucket-reference n l.1.low

pub chain-reference : (b : Blocks) (w : ℕ) → IsBucketChain b w → is_reference w ≡ true
chain-reference b w h = linked-reference b w (chain b w) h.linked

-- the first bucket has the key
pub found-first : (b : Blocks) (w n : ℕ) (key : List ℕ) → Begins b w n → bucket_key (words_of b n) ≡ key → IsFoundBucket b (chain b w) key n
found-first b w n key s e = record { within = ap (holds n) s.whole ∙ ap (λ t. t || holds n (chain b (next_of b n))) (itself n); spelt = e }

-- or one of the others
pub found-later : (b : Blocks) (w n : ℕ) (key : List ℕ) → Begins b w n → bucket_key (words_of b n) ≢ key
    → value_of string_order (bucket_entries b (chain b w)) key ≡ value_of string_order (bucket_entries b (chain b (next_of b n))) key
found-later b w n key s ne =
    ap (λ l. value_of string_order (bucket_entries b l) key) s.whole
    ∙ ap (λ t. cond t (Some (get_or (words_of b n) 1 0)) (value_of string_order (bucket_entries b (chain b (next_of b n))) key))
    (string_other key (bucket_key (words_of b n)) (λ e. ne (sym e)))

pub within-later : (b : Blocks) (w n q : ℕ) → Begins b w n → holds q (chain b (next_of b n)) ≡ true → holds q (chain b w) ≡ true
within-later b w n q s h = ap (holds q) s.whole ∙ ap (λ t. (q == n) || t) h ∙ or-true (q == n)
  where
    or-true : (t : Bool) → (t || true) ≡ true
    or-true true = refl
    or-true false = refl

-- nothing is found where there is no bucket
pub found-none : (b : Blocks) (w : ℕ) (key : List ℕ) → block_of w ≡ None → value_of string_order (bucket_entries b (chain b w)) key ≡ None
found-none b w key h = ap (λ l. value_of string_order (bucket_entries b l) key) (chain-none b w (ends b w h))

-- the rest of a chain is shorter
pub shorter : (b : Blocks) (w n : ℕ) → Begins b w n → length (chain b (next_of b n)) < length (chain b w)
shorter b w n s = let e = ap length s.whole in omega arith

-- what is found in a bucket
pub found-value : (b : Blocks) (w : ℕ) (ns : List ℕ) (key : List ℕ) (n : ℕ) → Linked b w ns → HasEachOnce (bucket_entries b ns)
    → IsFoundBucket b ns key n → value_of string_order (bucket_entries b ns) key ≡ Some (get_or (words_of b n) 1 0)
found-value b w [] key n l k f = absurd (not-true f.within)
found-value b w (m ∷ ms) key n l k f =
    elim (n == m) as (λ t. (n == m) ≡ t → (t || holds n ms) ≡ true → cond (eq_by_cmp string_order key (bucket_key (words_of b m)))
    (Some (get_or (words_of b m) 1 0)) (value_of string_order (bucket_entries b ms) key) ≡ Some (get_or (words_of b n) 1 0)) [
      | true ↦ λ e i.
          let same : n ≡ m = same_test n m e in
          ap (λ t. cond t (Some (get_or (words_of b m) 1 0)) (value_of string_order (bucket_entries b ms) key))
          (string_is key (bucket_key (words_of b m)) (sym f.spelt ∙ ap (λ x. bucket_key (words_of b x)) same))
          ∙ ap (λ x. Some (get_or (words_of b x) 1 0)) (sym same)
      | false ↦ λ e i.
          let rest = found-value b (next_of b m) ms key n l.2 k.1 (record { within = i; spelt = f.spelt }) in
          ap (λ t. cond t (Some (get_or (words_of b m) 1 0)) (value_of string_order (bucket_entries b ms) key))
          (string_other key (bucket_key (words_of b m)) (λ j. none-some _ (sym k.0 ∙ ap (value_of string_order (bucket_entries b ms)) (sym j) ∙ rest))) ∙ rest
    ] refl f.within
