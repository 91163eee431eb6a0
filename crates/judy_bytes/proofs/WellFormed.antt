-- The entries of a map: byte keys that it can hold, with words as values.
use Rattle.std.proofs.Common.{◌≡◌, ℕ, ◌^◌, ◌<◌, ◌≤◌, true, false, cond, ◌&&◌, List, [], ◌∷◌, length, get_or, Some, ap, sym, ◌∙◌, refl, subst, arith}
use Rattle.std.specs.Prelude.{nat_lt}
use Rattle.std.specs.List.{list_all}
use Rattle.std.specs.Ordering.{eq_by_cmp}
use Rattle.std.specs.FinMap.{is_sorted}
use Rattle.std.specs.FinMap.Entries.{below_all}
use Rattle.std.proofs.lemmas.Bool.{and_from}
use Rattle.std.proofs.lemmas.Option.{none-some}
use Rattle.judy_arena.specs.Blocks.{Blocks, words_of}
use Rattle.judy_packing.specs.Packing.{AreBytes}
use Rattle.judy_model.specs.Contents.{string_order, value_of, max_word}
use Rattle.judy_model.specs.Grammar.{are_bytes, is_byte_key}
use Rattle.judy_model.specs.WellFormed.{is_bytes_entry}
use Rattle.judy_model.proofs.lemmas.TestLemmas.{and_right, and_left, from_T}
use Rattle.judy_model.proofs.lemmas.WordLemmas.{le-test, lt-test}
use Rattle.judy_model.proofs.lemmas.StateLemmas.{same_name}
use Rattle.judy_model.proofs.lemmas.EntryLemmas.{same_Some, same_string}
use Rattle.judy_bytes.specs.Buckets.{bucket_key, next_of}
use Rattle.judy_bytes.specs.Chains.{ByteEntries, chain, bucket_entries, Linked}
use Rattle.judy_bytes.specs.BytesArrays.{bytes_in, first_at, IsBytesArray}
use Rattle.judy_bytes.proofs.Contents.{content-rises}
use Rattle.judy_bytes.proofs.Numbers.{content-found}
use Rattle.judy_bytes.proofs.Counts.{string-below}

-- a key of at most 1,000 bytes, with a word
pub record IsEntry (key : List ℕ) (v : ℕ) : Type 0 where
  pub bytes : AreBytes key
  pub short : length key ≤ 1000
  pub word : v < 2 ^ 64

-- what a chain holds is one
pub entry-of : (b : Blocks) (w : ℕ) (ns : List ℕ) (key : List ℕ) (v : ℕ) → Linked b w ns
    → value_of string_order (bucket_entries b ns) key ≡ Some v → IsEntry key v
entry-of b w [] key v l h = absurd (none-some _ h)
entry-of b w (n ∷ ns) key v l h = elim (eq_by_cmp string_order key (bucket_key (words_of b n))) as
    (λ t. eq_by_cmp string_order key (bucket_key (words_of b n)) ≡ t
    → cond t (Some (get_or (words_of b n) 1 0)) (value_of string_order (bucket_entries b ns) key) ≡ Some v → IsEntry key v) [
      | true ↦ λ e i. subst (λ k. IsEntry k v) (sym (same_string key (bucket_key (words_of b n)) e))
          (record { bytes = l.1.key.bytes; short = l.1.key.short; word = subst (λ x. x < 2 ^ 64) (same_Some i) l.1.value })
      | false ↦ λ e i. entry-of b (next_of b n) ns key v l.2 i
    ] refl h

all-bytes : (s : List ℕ) → AreBytes s → list_all (λ c. nat_lt c 256) s ≡ true
all-bytes [] h = refl
all-bytes (c ∷ s) h = and_from (nat_lt c 256) _ (lt-test c 256 h.0) (all-bytes s h.1)

byte-entry : (e : List ℕ × ℕ) → IsEntry e.0 e.1 → is_bytes_entry e ≡ true
byte-entry e h =
    and_from (is_byte_key e.0 && are_bytes e.0) _ (and_from (is_byte_key e.0) _ (le-test (length e.0) 1000 h.short) (all-bytes e.0 h.bytes))
    (le-test e.1 max_word (let k = h.word in omega (arith, k)))

-- what is found in the rest is found in the whole
found-after : (e : List ℕ × ℕ) (es : ByteEntries) (k : List ℕ) (v : ℕ) → is_sorted string_order (e ∷ es) ≡ true → value_of string_order
    es k ≡ Some v → value_of string_order (e ∷ es) k ≡ Some v
found-after e es k v s h = elim (eq_by_cmp string_order k e.0) as (λ t. eq_by_cmp string_order k e.0 ≡ t → cond t (Some e.1)
    (value_of string_order es k) ≡ Some v) [
      | true ↦ λ i. absurd
          (none-some _
          (sym (string-below k es (subst (λ x. below_all string_order x es ≡ true) (sym (same_string k e.0 i))
          (and_left (below_all string_order e.0 es) _ s))) ∙ h))
      | false ↦ λ i. h
    ] refl

-- entries are sound where what is found is
all-entries : (es : ByteEntries) → is_sorted string_order es ≡ true → ((k : List ℕ) (v : ℕ) → value_of string_order es k ≡ Some v
    → IsEntry k v) → list_all is_bytes_entry es ≡ true
all-entries [] s h = refl
all-entries (e ∷ es) s h =
    and_from (is_bytes_entry e) _ (byte-entry e (h e.0 e.1 (ap (λ t. cond t (Some e.1) (value_of string_order es e.0)) (same_name e.0))))
    (all-entries es (and_right (below_all string_order e.0 es) _ s) (λ k v i. h k v (found-after e es k v s i)))

pub content-entries : (H : List ℕ → ℕ) (b : Blocks) (w : ℕ) → IsBytesArray H b w → list_all is_bytes_entry (bytes_in b w) ≡ true
content-entries H b w h = all-entries (bytes_in b w) (from_T _ (content-rises b w))
    (λ k v i. entry-of b (first_at b w (H k)) (chain b (first_at b w (H k))) k v (h.chains (H k)).linked (sym (content-found H b w k h) ∙ i))
