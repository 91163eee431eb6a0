-- What a map holds after a change at one key.
use Rattle.std.proofs.Common.{◌≡◌, ℕ, Bool, true, false, cond, not, List, [], ◌∷◌, Option, Some, None, ap, sym, ◌∙◌, refl, T}
use Rattle.std.specs.Ordering.{eq_by_cmp}
use Rattle.std.specs.Cmp.Lexicographic.{nat_list_cmp_total}
use Rattle.std.specs.FinMap.{is_sorted, slice_cmp-IsAntisymmetric, nat_cmp-IsAntisymmetric}
use Rattle.std.specs.FinMap.Entries.{find-put, find-where_key, same_entries, is_sorted-put, is_sorted-where_key}
use Rattle.std.proofs.lemmas.Bool.{false≢true as not-true}
use Rattle.judy_arena.specs.Blocks.{Blocks}
use Rattle.judy_model.specs.Contents.{string_order, value_of, with_entry, without_key}
use Rattle.judy_model.proofs.lemmas.EntryLemmas.{same_string, string_is}
use Rattle.judy_bytes.specs.Chains.{ByteEntries, bucket_entries}
use Rattle.judy_words.specs.LongArrays.{long_in}
use Rattle.judy_bytes.specs.BytesArrays.{in_order, bucket_numbers, bytes_in, KeyBecomes}
use Rattle.judy_tree.proofs.lemmas.Joins.{string_other}

ordered-rises : (es : ByteEntries) → T (is_sorted string_order (in_order es))
ordered-rises [] = tt
ordered-rises (e ∷ es) = is_sorted-put string_order nat_list_cmp_total e.0 e.1 (in_order es) (ordered-rises es)

pub content-rises : (b : Blocks) (w : ℕ) → T (is_sorted string_order (bytes_in b w))
unfolding bytes_in
content-rises b w = ordered-rises (bucket_entries b (bucket_numbers b (long_in b w)))

find-without : (l : ByteEntries) (key s : List ℕ) → value_of string_order (without_key string_order l key) s ≡ cond
    (eq_by_cmp string_order s key) None (value_of string_order l s)
find-without l key s =
    find-where_key string_order (λ x. not (eq_by_cmp string_order key x)) s (λ x e. ap (λ y. not (eq_by_cmp string_order key y))
    (sym (slice_cmp-IsAntisymmetric nat_cmp-IsAntisymmetric s x e))) l
    ∙ turned (eq_by_cmp string_order key s) (eq_by_cmp string_order s key) (value_of string_order l s)
    (elim (eq_by_cmp string_order s key) as (λ t. eq_by_cmp string_order s key ≡ t → eq_by_cmp string_order key s ≡ t) [
      | true ↦ λ e. string_is key s (sym (same_string s key e))
      | false ↦ λ e. string_other key s (λ i. not-true (sym e ∙ string_is s key (sym i)))
    ] refl)
  where
    turned : (t u : Bool) (o : Option ℕ) → t ≡ u → cond (not t) o None ≡ cond u None o
    turned true true o h = refl
    turned true false o h = absurd (not-true (sym h))
    turned false true o h = absurd (not-true h)
    turned false false o h = refl

pub same-found : (l m : ByteEntries) → T (is_sorted string_order l) → T (is_sorted string_order m)
    → ((s : List ℕ) → value_of string_order l s ≡ value_of string_order m s) → l ≡ m
same-found l m h k e = same_entries string_order nat_list_cmp_total (slice_cmp-IsAntisymmetric nat_cmp-IsAntisymmetric) l m h k e

pub content-with : (H : List ℕ → ℕ) (a c : Blocks) (w x : ℕ) (key : List ℕ) (v : ℕ) → KeyBecomes H a c w x key (Some v)
    → bytes_in c x ≡ with_entry string_order (bytes_in a w) key v
content-with H a c w x key v h =
    same-found (bytes_in c x) (with_entry string_order (bytes_in a w) key v) (content-rises c x)
    (is_sorted-put string_order nat_list_cmp_total key v (bytes_in a w) (content-rises a w))
    (λ s. h.found s ∙ sym (find-put string_order nat_list_cmp_total s key v (bytes_in a w)))

pub content-without : (H : List ℕ → ℕ) (a c : Blocks) (w x : ℕ) (key : List ℕ) → KeyBecomes H a c w x key None → bytes_in c x
    ≡ without_key string_order (bytes_in a w) key
content-without H a c w x key h =
    same-found (bytes_in c x) (without_key string_order (bytes_in a w) key) (content-rises c x)
    (is_sorted-where_key string_order (λ y. not (eq_by_cmp string_order key y)) (bytes_in a w) (content-rises a w))
    (λ s. h.found s ∙ sym (find-without (bytes_in a w) key s))

-- a key that is absent takes nothing with it
pub without-absent : (b : Blocks) (w : ℕ) (key : List ℕ) → value_of string_order (bytes_in b w) key ≡ None → without_key
    string_order (bytes_in b w) key ≡ bytes_in b w
without-absent b w key none =
    same-found (without_key string_order (bytes_in b w) key) (bytes_in b w)
    (is_sorted-where_key string_order (λ y. not (eq_by_cmp string_order key y)) (bytes_in b w) (content-rises b w))
    (content-rises b w)
    (λ s. find-without (bytes_in b w) key s ∙ elim (eq_by_cmp string_order s key) as (λ t. eq_by_cmp string_order s key ≡ t
    → cond t None (value_of string_order (bytes_in b w) s) ≡ value_of string_order (bytes_in b w) s) [
      | true ↦ λ e. sym (ap (value_of string_order (bytes_in b w)) (same_string s key e) ∙ none)
      | false ↦ λ e. refl
    ] refl)

-- a key that keeps its value changes nothing
pub with-present : (b : Blocks) (w : ℕ) (key : List ℕ) (v : ℕ) → value_of string_order (bytes_in b w) key ≡ Some v
    → with_entry string_order (bytes_in b w) key v ≡ bytes_in b w
with-present b w key v some =
    same-found (with_entry string_order (bytes_in b w) key v) (bytes_in b w)
    (is_sorted-put string_order nat_list_cmp_total key v (bytes_in b w) (content-rises b w)) (content-rises b w)
    (λ s. find-put string_order nat_list_cmp_total s key v (bytes_in b w) ∙ elim (eq_by_cmp string_order s key) as
    (λ t. eq_by_cmp string_order s key ≡ t → cond t (Some v) (value_of string_order (bytes_in b w) s) ≡ value_of string_order
    (bytes_in b w) s) [
      | true ↦ λ e. sym (ap (value_of string_order (bytes_in b w)) (same_string s key e) ∙ some)
      | false ↦ λ e. refl
    ] refl)
