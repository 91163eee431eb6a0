-- A chain that is changed at one key.
use Rattle.std.proofs.Common.{◌≡◌, ◌≢◌, ℕ, ◌^◌, ◌<◌, ◌≤◌, Bool, true, false, cond, not, ◌||◌, ◌==◌, List, [], ◌∷◌, length}
use Rattle.std.proofs.Common.{get_or, Option, Some, None, ap, sym, ◌∙◌, refl, subst, arith, unwrap_or, is_some}
use Rattle.std.specs.Prelude.{slice_set}
use Rattle.std.specs.Ordering.{eq_by_cmp}
use Rattle.std.proofs.lemmas.Bool.{false≢true as not-true, false_from_ne_true, and_from, not-true as is-not}
use Rattle.std.proofs.Math.Bool.{or-false}
use Rattle.std.proofs.lemmas.Option.{none-some}
use Rattle.judy_arena.specs.Blocks.{Blocks, block, words_of, is_live, put, without}
use Rattle.judy_arena.specs.Frame.{Frame, holds}
use Rattle.judy_refs.specs.References.{number_of, word_of}
use Rattle.judy_arena.specs.Totals.{are_distinct}
use Rattle.judy_refs.specs.declared.Kind.TheVariants.{Bucket}
use Rattle.judy_arena.proofs.lemmas.BlockLaws.{block-without, block-put, words-at, itself, same_test}
use Rattle.judy_arena.proofs.lemmas.FrameLaws.{frame-release, frame-rest, frame-stays, frame-write, frame-same}
use Rattle.judy_arena.proofs.lemmas.RoomLaws.{room-covers}
use Rattle.judy_model.specs.Contents.{string_order, value_of}
use Rattle.judy_model.proofs.lemmas.TestLemmas.{and_right, and_left}
use Rattle.judy_model.proofs.lemmas.EntryLemmas.{same_string}
use Rattle.judy_bytes.specs.Buckets.{bucket_key, bucket_entry, next_of, IsBucket, IsMadeBucket}
use Rattle.judy_bytes.specs.Chains.{chain, bucket_entries, Linked, HasEachOnce, IsBucketChain, IsFoundBucket, IsNewBucket, ChainBecomes}
use Rattle.judy_bytes.proofs.Buckets.{bucket-same, bucket-kept, bucket-long, SameKey, key-same, set-next, set-value, number-named, block-named}
use Rattle.judy_bytes.proofs.Links.{all-live, chain-is, chain-of, Begins, IsKept, linked-kept, found-value}
use Rattle.judy_tree.proofs.lemmas.Joins.{string_other}

-- the change of a chain, from the list of the new numbers
pub becomes-of : (a c : Blocks) (w x : ℕ) (ms : List ℕ) (key : List ℕ) (new : Option ℕ) → Linked c x ms → are_distinct ms ≡ true
    → HasEachOnce (bucket_entries c ms) → Frame a c (chain a w) ms
    → ((k : List ℕ) → value_of string_order (bucket_entries c ms) k ≡ cond (eq_by_cmp string_order k key) new
    (value_of string_order (bucket_entries a (chain a w)) k)) → ChainBecomes a c w x key new
becomes-of a c w x ms key new l d k f found =
    let e : ms ≡ chain c x = sym (chain-is c x ms l d) in
    record {
      sound = chain-of c x ms l d k;
      frame = subst (Frame a c (chain a w)) e f;
      found = λ q. subst (λ ns. value_of string_order (bucket_entries c ns) q ≡ cond (eq_by_cmp string_order q key) new
          (value_of string_order (bucket_entries a (chain a w)) q)) e (found q);
    }

-- ---- a new bucket comes first

module _ (a c : Blocks) (w n value : ℕ) (key : List ℕ) (h : IsBucketChain a w) (m : IsMadeBucket a c w value key n)
    (none : value_of string_order (bucket_entries a (chain a w)) key ≡ None) where
  ns : List ℕ
  ns = chain a w

  stays : (q : ℕ) → holds q (chain a w) ≡ true → (holds q (n ∷ []) ≡ false) × (block c q ≡ block a q)
  stays q i = frame-stays a c [] (n ∷ []) q m.frame (all-live a w (chain a w) h.linked q i) refl

  kept : IsKept a c w (chain a w)
  kept = linked-kept a c w (chain a w) h.linked (λ q i. (stays q i).1)

  out : holds n (chain a w) ≡ false
  out = false_from_ne_true (holds n (chain a w)) (λ i. not-true (sym (stays n i).0 ∙ ap (λ t. t || false) (itself n)))

  pub prepended : ChainBecomes a c w (word_of Bucket n) key (Some value)
  prepended = becomes-of a c w (word_of Bucket n) (n ∷ chain a w) key (Some value)
      (refl, m.bucket, subst (λ v. Linked c v (chain a w)) (sym m.link) kept.linked)
      (and_from (not (holds n (chain a w))) _ (ap not out) h.once) (
        ap (λ e. value_of string_order (bucket_entries c (chain a w)) e.0) m.entry ∙ ap (λ es. value_of string_order es key)
            kept.entries ∙ none,
        subst HasEachOnce (sym kept.entries) h.keys,
      )
      (frame-rest a c [] (n ∷ []) (chain a w) (chain a w) (n ∷ chain a w) m.frame
      (λ q i. (all-live a w (chain a w) h.linked q i, refl)) (λ q. refl)
      (λ q. ap (λ t. t || holds q (chain a w)) (sym (or-false (q == n)))))
      (λ k. ap (λ e. cond (eq_by_cmp string_order k e.0) (Some e.1) (value_of string_order (bucket_entries c (chain a w)) k)) m.entry
      ∙ ap (λ es. cond (eq_by_cmp string_order k key) (Some value) (value_of string_order es k)) kept.entries)

-- ---- the first bucket goes

module _ (a c : Blocks) (w n : ℕ) (h : IsBucketChain a w) (b : Begins a w n) (gone : c ≡ without a n) where
  rest : List ℕ
  rest = chain a (next_of a n)

  same : (q : ℕ) → holds q (chain a (next_of a n)) ≡ true → block c q ≡ block a q
  same q i = ap (λ x. block x q) gone ∙ block-without a n q
      ∙ ap (λ t. cond t None (block a q))
      (false_from_ne_true (q == n) (λ e. not-true (sym b.out ∙ ap (λ z. holds z (chain a (next_of a n))) (sym (same_test q n e)) ∙ i)))

  kept' : IsKept a c (next_of a n) (chain a (next_of a n))
  kept' = linked-kept a c (next_of a n) (chain a (next_of a n)) b.tail.linked same

  found-rest : (k key : List ℕ) → bucket_key (words_of a n) ≡ key
      → value_of string_order (bucket_entries a (chain a (next_of a n))) k ≡ cond (eq_by_cmp string_order k key) None
      (cond (eq_by_cmp string_order k (bucket_key (words_of a n))) (Some (get_or (words_of a n) 1 0))
      (value_of string_order (bucket_entries a (chain a (next_of a n))) k))
  found-rest k key is = elim (eq_by_cmp string_order k key) as (λ t. eq_by_cmp string_order k key ≡ t
      → value_of string_order (bucket_entries a (chain a (next_of a n))) k ≡ cond t None
      (cond (eq_by_cmp string_order k (bucket_key (words_of a n))) (Some (get_or (words_of a n) 1 0))
      (value_of string_order (bucket_entries a (chain a (next_of a n))) k))) [
        | true ↦ λ e. ap (value_of string_order (bucket_entries a (chain a (next_of a n)))) (same_string k key e ∙ sym is) ∙ b.key
        | false ↦ λ e. sym
            (ap (λ t. cond t (Some (get_or (words_of a n) 1 0)) (value_of string_order (bucket_entries a (chain a (next_of a n))) k))
            (ap (eq_by_cmp string_order k) is ∙ e))
      ] refl

  pub popped : (key : List ℕ) → bucket_key (words_of a n) ≡ key → ChainBecomes a c w (next_of a n) key None
  popped key is = becomes-of a c w (next_of a n) (chain a (next_of a n)) key None kept'.linked b.tail.once (subst HasEachOnce (sym kept'.entries) b.tail.keys)
      (subst (λ l. Frame a c l (chain a (next_of a n))) (sym b.whole)
      (frame-rest a c (n ∷ []) [] (chain a (next_of a n)) (n ∷ chain a (next_of a n)) (chain a (next_of a n))
      (subst (λ x. Frame a x (n ∷ []) []) (sym gone) (frame-release a n))
      (λ q i. (
        all-live a (next_of a n) (chain a (next_of a n)) b.tail.linked q i,
        false_from_ne_true (holds q (n ∷ []))
            (λ e. not-true (sym b.out ∙ ap (λ z. holds z (chain a (next_of a n))) (sym (same_test q n (sym (or-false (q == n)) ∙ e))) ∙ i)),
      ))
      (λ q. ap (λ t. t || holds q (chain a (next_of a n))) (sym (or-false (q == n)))) (λ q. refl)))
      (λ k. ap (λ es. value_of string_order es k) kept'.entries ∙ found-rest k key is
      ∙ ap (λ l. cond (eq_by_cmp string_order k key) None (value_of string_order (bucket_entries a l) k)) (sym b.whole))

-- ---- a bucket further on goes

-- after a change of the rest of the chain, the first bucket is led to what the rest became
module _ (a m c : Blocks) (w n x : ℕ) (key : List ℕ) (new : Option ℕ) (h : IsBucketChain a w) (b : Begins a w n)
    (other : bucket_key (words_of a n) ≢ key) (ch : ChainBecomes a m (next_of a n) x key new) where
  own-stays : (holds n (chain m x) ≡ false) × (block m n ≡ block a n)
  own-stays = frame-stays a m (chain a (next_of a n)) (chain m x) n ch.frame b.bucket.live b.out

  pub bucket-there : IsBucket m n
  bucket-there = bucket-kept a m n b.bucket own-stays.1

  module _ (led : c ≡ put m n (slice_set (words_of m n) 0 x)) where
    words : words_of c n ≡ slice_set (words_of m n) 0 x
    words = words-at m c n (slice_set (words_of m n) 0 x) led

    long : 3 ≤ length (words_of m n)
    long = let l = bucket-long room-covers m n bucket-there in omega arith

    like : SameKey (words_of c n) (words_of m n)
    like = subst (λ ws. SameKey ws (words_of m n)) (sym words) (set-next (words_of m n) x long)

    first_set : (ws : List ℕ) → 3 ≤ length ws → (get_or (slice_set ws 0 x) 0 0 ≡ x) × (get_or (slice_set ws 0 x) 1 0 ≡ get_or ws 1 0)
    first_set [] l = absurd (omega arith)
    first_set (u ∷ ws) l = (refl, refl)

    others : (q : ℕ) → holds q (chain m x) ≡ true → block c q ≡ block m q
    others q i = ap (λ y. block y q) led ∙ block-put m n (slice_set (words_of m n) 0 x) q
        ∙ ap (λ t. cond t (Some (slice_set (words_of m n) 0 x)) (block m q))
        (false_from_ne_true (q == n) (λ e. not-true (sym own-stays.0 ∙ ap (λ z. holds z (chain m x)) (sym (same_test q n e)) ∙ i)))

    tail-kept : IsKept m c x (chain m x)
    tail-kept = linked-kept m c x (chain m x) ch.sound.linked others

    live-there : is_live c n ≡ true
    live-there = ap is_some (ap (λ y. block y n) led ∙ block-put m n (slice_set (words_of m n) 0 x) n
        ∙ ap (λ t. cond t (Some (slice_set (words_of m n) 0 x)) (block m n)) (itself n))

    same-entry : bucket_entry c n ≡ bucket_entry a n
    same-entry =
        ap (λ k. (k, get_or (words_of c n) 1 0)) (key-same (words_of c n) (words_of m n) like)
        ∙ ap (λ v. (bucket_key (words_of m n), v)) (ap (λ ws. get_or ws 1 0) words ∙ (first_set (words_of m n) long).1)
        ∙ ap (λ o. (bucket_key (unwrap_or o []), get_or (unwrap_or o []) 1 0)) own-stays.1

    next-is : next_of c n ≡ x
    next-is = ap (λ ws. get_or ws 0 0) words ∙ (first_set (words_of m n) long).0

    found-tail : (k : List ℕ) → value_of string_order (bucket_entries c (chain m x)) k ≡ cond (eq_by_cmp string_order k key) new
        (value_of string_order (bucket_entries a (chain a (next_of a n))) k)
    found-tail k = ap (λ es. value_of string_order es k) tail-kept.entries ∙ ch.found k

    own : List ℕ
    own = bucket_key (words_of a n)

    found-all : (k : List ℕ) → value_of string_order (bucket_entries c (n ∷ chain m x)) k ≡ cond (eq_by_cmp string_order k key) new
        (value_of string_order (bucket_entries a (n ∷ chain a (next_of a n))) k)
    found-all k =
        ap (λ e. cond (eq_by_cmp string_order k e.0) (Some e.1) (value_of string_order (bucket_entries c (chain m x)) k)) same-entry
        ∙ ap (cond (eq_by_cmp string_order k (bucket_key (words_of a n))) (Some (get_or (words_of a n) 1 0))) (found-tail k)
        ∙ turned (eq_by_cmp string_order k (bucket_key (words_of a n))) (eq_by_cmp string_order k key)
        (Some (get_or (words_of a n) 1 0)) new (value_of string_order (bucket_entries a (chain a (next_of a n))) k)
        (λ s t. other (sym (same_string k (bucket_key (words_of a n)) s) ∙ same_string k key t))
      where
        turned : (s t : Bool) (x y z : Option ℕ) → (s ≡ true → t ≡ true → ⊥) → cond s x (cond t y z) ≡ cond t y (cond s x z)
        turned true true x y z h = absurd (h refl refl)
        turned true false x y z h = refl
        turned false true x y z h = refl
        turned false false x y z h = refl

    key-alone : value_of string_order (bucket_entries c (chain m x)) (bucket_key (words_of c n)) ≡ None
    key-alone =
        let k : bucket_key (words_of c n) ≡ bucket_key (words_of a n) = ap (λ e. e.0) same-entry in
        ap (value_of string_order (bucket_entries c (chain m x))) k ∙ found-tail (bucket_key (words_of a n))
        ∙ ap (λ t. cond t new (value_of string_order (bucket_entries a (chain a (next_of a n))) (bucket_key (words_of a n))))
        (string_other (bucket_key (words_of a n)) key other) ∙ b.key

    pub led-on : ChainBecomes a c w w key new
    led-on = becomes-of a c w w (n ∷ chain m x) key new (
      b.word,
      bucket-same m c n bucket-there live-there
          (subst (λ x. x < 2 ^ 64) (sym (ap (λ ws. get_or ws 1 0) words ∙ (first_set (words_of m n) long).1)) bucket-there.value)
          like,
      subst (λ v. Linked c v (chain m x)) (sym next-is) tail-kept.linked,
    )
        (and_from (not (holds n (chain m x))) _ (ap not own-stays.0) ch.sound.once)
        (key-alone, subst HasEachOnce (sym tail-kept.entries) ch.sound.keys)
        (subst (λ l. Frame a c l (n ∷ chain m x)) (sym b.whole)
        (frame-write a m c (n ∷ chain a (next_of a n)) (n ∷ chain m x) n (slice_set (words_of m n) 0 x)
        (frame-rest a m (chain a (next_of a n)) (chain m x) (n ∷ []) (n ∷ chain a (next_of a n)) (n ∷ chain m x) ch.frame
        (λ q i. let e : q ≡ n = same_test q n (sym (or-false (q == n)) ∙ i) in
        (ap (is_live a) e ∙ b.bucket.live, ap (λ z. holds z (chain a (next_of a n))) e ∙ b.out))
        (λ q. swap (q == n) (holds q (chain a (next_of a n)))) (λ q. swap (q == n) (holds q (chain m x))))
        (ap (λ t. t || holds n (chain m x)) (itself n)) led))
        (λ k. found-all k ∙ ap (λ l. cond (eq_by_cmp string_order k key) new (value_of string_order (bucket_entries a l) k)) (sym b.whole))
      where
        swap : (s t : Bool) → (s || t) ≡ (t || (s || false))
        swap true true = refl
        swap true false = refl
        swap false true = refl
        swap false false = refl

-- ---- a bucket gets another value

record Valued (a c : Blocks) (w : ℕ) (ns : List ℕ) (key : List ℕ) (v : ℕ) : Type 0 where
  pub linked : Linked c w ns
  pub keys : HasEachOnce (bucket_entries c ns)
  pub found : (k : List ℕ) → value_of string_order (bucket_entries c ns) k ≡ cond (eq_by_cmp string_order k key) (Some v)
      (value_of string_order (bucket_entries a ns) k)

module _ (a c : Blocks) (n v : ℕ) (low : v < 2 ^ 64) (key : List ℕ) (written : c ≡ put a n (slice_set (words_of a n) 1 v)) where
  new-words : words_of c n ≡ slice_set (words_of a n) 1 v
  new-words = words-at a c n (slice_set (words_of a n) 1 v) written

  others-same : (q : ℕ) → (q == n) ≡ false → block c q ≡ block a q
  others-same q e = ap (λ y. block y q) written ∙ block-put a n (slice_set (words_of a n) 1 v) q
      ∙ ap (λ t. cond t (Some (slice_set (words_of a n) 1 v)) (block a q)) e

  valued-set : (ws : List ℕ) → 3 ≤ length ws → (get_or (slice_set ws 1 v) 0 0 ≡ get_or ws 0 0) × (get_or (slice_set ws 1 v) 1 0 ≡ v)
  valued-set [] l = absurd (omega arith)
  valued-set (x ∷ []) l = absurd (omega arith)
  valued-set (x ∷ y ∷ ws) l = (refl, refl)

  module _ (own : IsBucket a n) (spelt : bucket_key (words_of a n) ≡ key) where
    own-long : 3 ≤ length (words_of a n)
    own-long = let l = bucket-long room-covers a n own in omega arith

    own-like : SameKey (words_of c n) (words_of a n)
    own-like = subst (λ ws. SameKey ws (words_of a n)) (sym new-words) (set-value (words_of a n) v own-long)

    own-bucket : IsBucket c n
    own-bucket = bucket-same a c n own (ap is_some (ap (λ y. block y n) written ∙ block-put a n (slice_set (words_of a n) 1 v) n
        ∙ ap (λ t. cond t (Some (slice_set (words_of a n) 1 v)) (block a n)) (itself n)))
        (subst (λ x. x < 2 ^ 64) (sym (ap (λ ws. get_or ws 1 0) new-words ∙ (valued-set (words_of a n) own-long).1)) low) own-like

    own-entry : bucket_entry c n ≡ (key, v)
    own-entry = ap (λ k. (k, get_or (words_of c n) 1 0)) (key-same (words_of c n) (words_of a n) own-like ∙ spelt)
        ∙ ap (λ x. (key, x)) (ap (λ ws. get_or ws 1 0) new-words ∙ (valued-set (words_of a n) own-long).1)

    own-next : next_of c n ≡ next_of a n
    own-next = ap (λ ws. get_or ws 0 0) new-words ∙ (valued-set (words_of a n) own-long).0

    at-own : (w : ℕ) (ns : List ℕ) → Linked a w (n ∷ ns) → holds n ns ≡ false → HasEachOnce (bucket_entries a (n ∷ ns)) → Valued a c w (n ∷ ns) key v
    at-own w ns l out k =
        let rest = linked-kept a c (next_of a n) ns l.2
        (λ q i. others-same q
        (false_from_ne_true (q == n) (λ e. not-true (sym out ∙ ap (λ z. holds z ns) (sym (same_test q n e)) ∙ i)))) in
        record {
          linked = (l.0, own-bucket, subst (λ x. Linked c x ns) (sym own-next) rest.linked);
          keys = (
            ap (λ e. value_of string_order (bucket_entries c ns) e.0) own-entry ∙ ap (λ es. value_of string_order es key)
                rest.entries ∙ ap (value_of string_order (bucket_entries a ns)) (sym spelt) ∙ k.0,
            subst HasEachOnce (sym rest.entries) k.1,
          );
          found = λ q. ap (λ e. cond (eq_by_cmp string_order q e.0) (Some e.1) (value_of string_order (bucket_entries c ns) q)) own-entry
              ∙ ap (λ es. cond (eq_by_cmp string_order q key) (Some v) (value_of string_order es q)) rest.entries
              ∙ skip (eq_by_cmp string_order q key) (eq_by_cmp string_order q (bucket_key (words_of a n)))
              (Some (get_or (words_of a n) 1 0)) (value_of string_order (bucket_entries a ns) q)
              (ap (eq_by_cmp string_order q) spelt);
        }
      where
        skip : (s t : Bool) (y z : Option ℕ) → t ≡ s → cond s (Some v) z ≡ cond s (Some v) (cond t y z)
        skip true t y z e = refl
        skip false true y z e = absurd (not-true (sym e))
        skip false false y z e = refl

    valued : (w : ℕ) (ns : List ℕ) → Linked a w ns → are_distinct ns ≡ true → HasEachOnce (bucket_entries a ns) → holds n ns ≡ true → Valued a c w ns key v
    valued w [] l d k i = absurd (not-true i)
    valued w (m ∷ ms) l d k i =
        elim (n == m) as (λ t. (n == m) ≡ t → (t || holds n ms) ≡ true → Valued a c w (m ∷ ms) key v) [
          | true ↦ λ e j.
              let same : m ≡ n = sym (same_test n m e) in
              subst (λ x. Linked a w (x ∷ ms) → holds x ms ≡ false → HasEachOnce (bucket_entries a (x ∷ ms)) → Valued a c w (x ∷ ms)
              key v) (sym same) (at-own w ms) l (is-not (holds m ms) (and_left (not (holds m ms)) _ d)) k
          | false ↦ λ e j.
              let rest = valued (next_of a m) ms l.2 (and_right (not (holds m ms)) _ d) k.1 j in
              let kept : block c m ≡ block a m = others-same m
              (false_from_ne_true (m == n) (λ f. not-true (sym e ∙ ap (λ z. z == m) (sym (same_test m n f)) ∙ itself m))) in
              let entry : bucket_entry c m ≡ bucket_entry a m = ap (λ o. (bucket_key (unwrap_or o []), get_or (unwrap_or o []) 1 0)) kept in
              let next : next_of c m ≡ next_of a m = ap (λ o. get_or (unwrap_or o []) 0 0) kept in
              let there : value_of string_order (bucket_entries a ms) key ≡ Some (get_or (words_of a n) 1 0) = found-value a
              (next_of a m) ms key n l.2 k.1 (record { within = j; spelt = spelt }) in
              let other : bucket_key (words_of a m) ≢ key = λ f. none-some _ (sym k.0 ∙ ap (value_of string_order (bucket_entries a ms)) f ∙ there) in
              record {
                linked = (l.0, bucket-kept a c m l.1 kept, subst (λ x. Linked c x ms) (sym next) rest.linked);
                keys = (
                  ap (λ e. value_of string_order (bucket_entries c ms) e.0) entry ∙ rest.found (bucket_key (words_of a m))
                      ∙ ap (λ t. cond t (Some v) (value_of string_order (bucket_entries a ms) (bucket_key (words_of a m))))
                      (string_other (bucket_key (words_of a m)) key other) ∙ k.0,
                  rest.keys,
                );
                found = λ q. ap (λ e. cond (eq_by_cmp string_order q e.0) (Some e.1) (value_of string_order (bucket_entries c ms) q)) entry
                    ∙ ap (cond (eq_by_cmp string_order q (bucket_key (words_of a m))) (Some (get_or (words_of a m) 1 0))) (rest.found q)
                    ∙ swapped (eq_by_cmp string_order q (bucket_key (words_of a m))) (eq_by_cmp string_order q key)
                    (Some (get_or (words_of a m) 1 0)) (value_of string_order (bucket_entries a ms) q)
                    (λ s t. other (sym (same_string q (bucket_key (words_of a m)) s) ∙ same_string q key t));
              }
        ] refl i
      where
        swapped : (s t : Bool) (x z : Option ℕ) → (s ≡ true → t ≡ true → ⊥) → cond s x (cond t (Some v) z) ≡ cond t (Some v) (cond s x z)
        swapped true true x z h = absurd (h refl refl)
        swapped true false x z h = refl
        swapped false true x z h = refl
        swapped false false x z h = refl

pub linked-bucket : (a : Blocks) (w n : ℕ) (ns : List ℕ) → Linked a w ns → holds n ns ≡ true → IsBucket a n
linked-bucket a w n [] l i = absurd (not-true i)
linked-bucket a w n (m ∷ ms) l i = elim (n == m) as (λ t. (n == m) ≡ t → (t || holds n ms) ≡ true → IsBucket a n) [
  | true ↦ λ e j. subst (IsBucket a) (sym (same_test n m e)) l.1
  | false ↦ λ e j. linked-bucket a (next_of a m) n ms l.2 j
] refl i

pub found-bucket : (a : Blocks) (w n : ℕ) (key : List ℕ) → IsBucketChain a w → IsFoundBucket a (chain a w) key n → IsBucket a n
found-bucket a w n key h f = linked-bucket a w n (chain a w) h.linked f.within

pub revalued : (a c : Blocks) (w n v : ℕ) (key : List ℕ) → v < 2 ^ 64 → IsBucketChain a w → IsFoundBucket a (chain a w) key n → c ≡ put a n
    (slice_set (words_of a n) 1 v) → ChainBecomes a c w w key (Some v)
revalued a c w n v key low h f written =
    let r = valued a c n v low key written (found-bucket a w n key h f) f.spelt w (chain a w) h.linked h.once h.keys f.within in
    becomes-of a c w w (chain a w) key (Some v) r.linked h.once r.keys
    (frame-write a a c (chain a w) (chain a w) n (slice_set (words_of a n) 1 v)
    (frame-same a (chain a w) (all-live a w (chain a w) h.linked)) f.within written) r.found

-- what a chain holds at a key whose bucket was found
pub chain-value : (a : Blocks) (w n : ℕ) (key : List ℕ) → IsBucketChain a w → IsFoundBucket a (chain a w) key n → value_of string_order
    (bucket_entries a (chain a w)) key ≡ Some (get_or (words_of a n) 1 0)
chain-value a w n key h f = found-value a w (chain a w) key n h.linked h.keys f

-- a bucket that was made is new
pub new-bucket : (a c : Blocks) (next value : ℕ) (key : List ℕ) (n : ℕ) → IsMadeBucket a c next value key n → IsNewBucket a c (word_of Bucket n)
new-bucket a c next value key n m =
    let e : n ≡ number_of (word_of Bucket n) = sym (number-named n m.bucket.low) in
    record {
      bucket = subst (IsBucket c) e m.bucket;
      named = block-named n m.bucket.low ∙ ap Some e;
      frame = subst (λ q. Frame a c [] (q ∷ [])) e m.frame;
    }
