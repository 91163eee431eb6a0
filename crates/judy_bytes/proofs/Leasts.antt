-- The least of the entries that pass a test, sought one after another; and what follows in a list that rises.
use Rattle.std.proofs.Common.{◌≡◌, ◌∙◌, ◌∷◌, ◌&&◌, ◌⊎◌, inl, inr, ℕ, Bool, true, false, cond, List, [], Option, Some, None, get_or, refl, sym, ap, subst}
use Rattle.std.specs.Prelude.{option_map}
use Rattle.std.specs.Ordering.{eq_by_cmp, is_eq, is_gt, is_lt}
use Rattle.std.specs.declared.cmp.Ordering.{Ordering}
use Rattle.std.specs.declared.cmp.Ordering.TheVariants.{Less, Equal, Greater}
use Rattle.std.specs.Cmp.Lexicographic.{nat_list_cmp_total}
use Rattle.std.specs.FinMap.{is_sorted}
use Rattle.std.proofs.lemmas.Bool.{false_from_ne_true}
use Rattle.std.proofs.lemmas.Option.{none-some}
use Rattle.judy_model.specs.Contents.{next, string_order, value_of}
use Rattle.judy_model.proofs.lemmas.ByteLemmas.{least_next, none_next}
use Rattle.judy_model.proofs.lemmas.EntryLemmas.{same_string, string_is}
use Rattle.judy_model.proofs.lemmas.TestLemmas.{and_left, and_right, is_Less, not_both}
use Rattle.judy_arena.specs.Blocks.{Blocks, words_of}
use Rattle.judy_refs.specs.References.{block_of}
use Rattle.judy_bytes.specs.Buckets.{bucket_entry, bucket_key, next_of}
use Rattle.judy_bytes.specs.Chains.{ByteEntries, bucket_entries, chain_entries}
use Rattle.judy_bytes.proofs.Links.{Begins, chain-none, ends}
use Rattle.judy_bytes.specs.Walks.{IsLeastOf, is_below}

-- ---- one entry after another

-- This is the least of those of es that pass, but for those among the rest.
pub record Sought (es rest : ByteEntries) (passes : List ℕ → Bool) (value : Option ℕ) (key : List ℕ) : Type 0 where
  pub within : (k : List ℕ) (v : ℕ) → value_of string_order rest k ≡ Some v → value_of string_order es k ≡ Some v
  pub entry : (v : ℕ) → value ≡ Some v → (value_of string_order es key ≡ Some v) × (passes key ≡ true)
  pub least : (k : List ℕ) (v : ℕ) → value_of string_order es k ≡ Some v → passes k ≡ true
      → (value_of string_order rest k ≡ Some v) ⊎ (is_below value key k ≡ false)

pub sought-none : (es : ByteEntries) (passes : List ℕ → Bool) (key : List ℕ) → Sought es es passes None key
sought-none es passes key = record {
  within = λ k v f. f;
  entry = λ v e. absurd (none-some v e);
  least = λ k v f p. inl f;
}

pub sought-all : (es : ByteEntries) (passes : List ℕ → Bool) (value : Option ℕ) (key : List ℕ) → Sought es [] passes value key → IsLeastOf es passes value key
sought-all es passes value key h = record {
  entry = h.entry;
  least = λ k v f p. elim (h.least k v f p) [
    | inl g ↦ absurd (none-some v g)
    | inr low ↦ low
  ];
}

-- no string is below itself
itself : (k : List ℕ) → is_lt (string_order k k) ≡ false
itself k = by (string_order k k) (string_is k k refl)
  where
    by : (o : Ordering) → is_eq o ≡ true → is_lt o ≡ false
    by Less e = cc
    by Equal e = refl
    by Greater e = refl

-- what is not below a string is not below one below that
not-below : (k a b : List ℕ) → is_lt (string_order a b) ≡ true → is_lt (string_order k b) ≡ false → is_lt (string_order k a) ≡ false
not-below k a b low out = false_from_ne_true (is_lt (string_order k a)) (λ lower. not_both (is_lt (string_order k b))
    (ap is_lt (nat_list_cmp_total.trans k a b (is_Less (string_order k a) lower) (is_Less (string_order a b) low))) out)

module _ (es rest : ByteEntries) (e : List ℕ × ℕ) (passes : List ℕ → Bool) (value : Option ℕ) (key : List ℕ)
    (h : Sought es (e ∷ rest) passes value key) (once : value_of string_order rest e.0 ≡ None) where
  here : value_of string_order (e ∷ rest) e.0 ≡ Some e.1
  here = ap (λ t. cond t (Some e.1) (value_of string_order rest e.0)) (string_is e.0 e.0 refl)

  behind : (k : List ℕ) (v : ℕ) → value_of string_order rest k ≡ Some v → value_of string_order (e ∷ rest) k ≡ Some v
  behind k v f = by (eq_by_cmp string_order k e.0) refl
    where
      by : (t : Bool) → eq_by_cmp string_order k e.0 ≡ t → cond t (Some e.1) (value_of string_order rest k) ≡ Some v
      by true i = absurd (none-some v (sym once ∙ ap (value_of string_order rest) (sym (same_string k e.0 i)) ∙ f))
      by false i = f

  -- an entry that does not pass, or is not below the one that was found, is passed over
  pub sought-over : (passes e.0 && is_below value key e.0) ≡ false → Sought es rest passes value key
  sought-over out = record {
    within = λ k v f. h.within k v (behind k v f);
    entry = h.entry;
    least = λ k v f p. elim (h.least k v f p) [
      | inl g ↦ at k v p (eq_by_cmp string_order k e.0) refl g
      | inr low ↦ inr low
    ];
  }
    where
      other : (s t : Bool) → s ≡ true → (s && t) ≡ false → t ≡ false
      other true t i j = j
      other false t i j = cc

      at : (k : List ℕ) (v : ℕ) → passes k ≡ true → (t : Bool) → eq_by_cmp string_order k e.0 ≡ t
          → cond t (Some e.1) (value_of string_order rest k) ≡ Some v
          → (value_of string_order rest k ≡ Some v) ⊎ (is_below value key k ≡ false)
      at k v p false i g = inl g
      at k v p true i g =
          let same : e.0 ≡ k = sym (same_string k e.0 i) in
          inr (subst (λ j. is_below value key j ≡ false) same (other (passes e.0) _ (subst (λ j. passes j ≡ true) (sym same) p) out))

  -- another one is the least so far
  pub sought-this : (passes e.0 && is_below value key e.0) ≡ true → Sought es rest passes (Some e.1) e.0
  sought-this in_ = record {
    within = λ k v f. h.within k v (behind k v f);
    entry = λ v is. (h.within e.0 e.1 here ∙ is, and_left (passes e.0) _ in_);
    least = λ k v f p. elim (h.least k v f p) [
      | inl g ↦ at k v (eq_by_cmp string_order k e.0) refl g
      | inr low ↦ inr (lower k value low (and_right (passes e.0) _ in_))
    ];
  }
    where
      lower : (k : List ℕ) (o : Option ℕ) → is_below o key k ≡ false → is_below o key e.0 ≡ true → is_lt (string_order k e.0) ≡ false
      lower k None low up = cc
      lower k (Some v) low up = not-below k e.0 key up low

      at : (k : List ℕ) (v : ℕ) → (t : Bool) → eq_by_cmp string_order k e.0 ≡ t
          → cond t (Some e.1) (value_of string_order rest k) ≡ Some v
          → (value_of string_order rest k ≡ Some v) ⊎ (is_lt (string_order k e.0) ≡ false)
      at k v false i g = inl g
      at k v true i g = inr (subst (λ j. is_lt (string_order j e.0) ≡ false) (sym (same_string k e.0 i)) (itself e.0))

-- ---- one bucket of a chain after another

module _ (b : Blocks) (first at n : ℕ) (passes : List ℕ → Bool) (value : Option ℕ) (key : List ℕ) (begin : Begins b at n)
    (h : Sought (chain_entries b first) (chain_entries b at) passes value key) where
  split : Sought (chain_entries b first) (bucket_entry b n ∷ chain_entries b (next_of b n)) passes value key
  split = subst (λ es. Sought (chain_entries b first) es passes value key) (ap (bucket_entries b) begin.whole) h

  pub bucket-over : (passes (bucket_key (words_of b n)) && is_below value key (bucket_key (words_of b n))) ≡ false
      → Sought (chain_entries b first) (chain_entries b (next_of b n)) passes value key
  bucket-over out = sought-over (chain_entries b first) (chain_entries b (next_of b n)) (bucket_entry b n) passes value key split begin.key out

  pub bucket-this : (passes (bucket_key (words_of b n)) && is_below value key (bucket_key (words_of b n))) ≡ true
      → Sought (chain_entries b first) (chain_entries b (next_of b n)) passes (Some (get_or (words_of b n) 1 0)) (bucket_key (words_of b n))
  bucket-this in_ = sought-this (chain_entries b first) (chain_entries b (next_of b n)) (bucket_entry b n) passes value key split begin.key in_

-- all buckets were looked at
pub bucket-none : (b : Blocks) (first at : ℕ) (passes : List ℕ → Bool) (value : Option ℕ) (key : List ℕ) → block_of at ≡ None
    → Sought (chain_entries b first) (chain_entries b at) passes value key → IsLeastOf (chain_entries b first) passes value key
bucket-none b first at passes value key none h = sought-all (chain_entries b first) passes value key
    (subst (λ es. Sought (chain_entries b first) es passes value key) (ap (bucket_entries b) (chain-none b at (ends b at none))) h)

-- ---- in a list that rises

-- a test that agrees at all keys has the same least entry
pub least-alike : (es : ByteEntries) (p q : List ℕ → Bool) (value : Option ℕ) (key : List ℕ)
    → ((k : List ℕ) (v : ℕ) → value_of string_order es k ≡ Some v → p k ≡ q k) → IsLeastOf es p value key → IsLeastOf es q value key
least-alike es p q value key alike h = record {
  entry = λ v is. let found = h.entry v is in (found.0, sym (alike key v found.0) ∙ found.1);
  least = λ k v f up. h.least k v f (alike k v f ∙ up);
}

-- the least entry above a key is the next one
pub least-is-next : (es : ByteEntries) (x : List ℕ) (value : Option ℕ) (key : List ℕ) → is_sorted string_order es ≡ true
    → IsLeastOf es (λ k. is_gt (string_order k x)) value key → option_map (λ v. (key, v)) value ≡ next string_order es x
least-is-next es x None key rising h = sym (none_next es x
    (λ k v f. false_from_ne_true (is_gt (string_order k x)) (λ up. not_both true refl (h.least k v f up))) rising)
least-is-next es x (Some v) key rising h =
    sym (least_next es x key v rising (h.entry v refl).0 (h.entry v refl).1 (λ j u f up. h.least j u f up))
