-- The entries of a map: strings that it can hold, with words as values.
use Rattle.std.proofs.Common.{◌≡◌, ℕ, zero, suc, ◌+◌, ◌*◌, ◌^◌, ◌<◌, ◌≤◌, true, false, cond, ◌&&◌, List, [], ◌∷◌, ◌++◌, length}
use Rattle.std.proofs.Common.{length-append, get_or, Some, Fits, w8, sym, refl, subst, arith}
use Rattle.std.specs.Prelude.{nat_le, nat_lt}
use Rattle.std.specs.List.{list_all}
use Rattle.std.specs.FinMap.{is_sorted}
use Rattle.std.specs.FinMap.Entries.{below_all}
use Rattle.std.proofs.lemmas.Bool.{and_from}
use Rattle.judy_arena.specs.Blocks.{Blocks}
use Rattle.judy_model.specs.Contents.{Entries, word_order, value_of, max_word}
use Rattle.judy_model.specs.Grammar.{are_bytes, is_string}
use Rattle.judy_model.specs.WellFormed.{is_string_entry}
use Rattle.judy_model.proofs.lemmas.TestLemmas.{and_right, and_left}
use Rattle.judy_model.proofs.lemmas.WordLemmas.{le-test, lt-test}
use Rattle.judy_model.proofs.lemmas.EntryLemmas.{lt_of}
use Rattle.judy_model.proofs.lemmas.GapLemmas.{le_of}
use Rattle.judy_tree.specs.Root.{entries}
use Rattle.judy_tree.proofs.lemmas.Joins.{found-first}
use Rattle.judy_packing.specs.Packing.{word_bytes, is_last, IsString}
use Rattle.judy_string.specs.Laws.{StringsAreKeys}
use Rattle.judy_string.specs.Suffixes.{is_suffix, IsSuffix}
use Rattle.judy_string.specs.Strings.{Strings, after, part, joined_strings, nested_content_at, IsNestedAt, IsSpelt}
use Rattle.judy_string.proofs.Joins.{found_later, more_long}
use Rattle.judy_string.proofs.Maps.{root-values}
use Rattle.judy_string.proofs.Nests.{node-cases, nest-content, nest-sorted, suffix-content, none-array}

-- a string of at most this many bytes, with a word
record IsEntry (most : ℕ) (e : List ℕ × ℕ) : Type 0 where
  string : IsString e.0
  short : length e.0 ≤ most
  word : e.1 < 2 ^ 64

AreEntries : ℕ → Strings → Type 0
AreEntries most [] = Unit {0}
AreEntries most (e ∷ l) = IsEntry most e × AreEntries most l

both : (most : ℕ) (xs ys : Strings) → AreEntries most xs → AreEntries most ys → AreEntries most (xs ++ ys)
unfolding AreEntries
both most [] ys h k = k
both most (x ∷ xs) ys h k = (h.0, both most xs ys h.1 k)

string_both : (s t : List ℕ) → IsString s → IsString t → IsString (s ++ t)
string_both [] t h k = k
string_both (c ∷ s) t h k = (h.0, h.1, string_both s t h.2 k)

-- each string goes on after the bytes of a word
all_after : (p : List ℕ) (most : ℕ) (l : Strings) → IsString p → length p ≤ 8 → AreEntries most l → AreEntries (most + 8) (after p l)
unfolding AreEntries
all_after p most [] is few h = tt
all_after p most (e ∷ l) is few h = (
  record { string = string_both p e.0 is h.0.string; short = let k = h.0.short in let n = length-append p e.0 in omega (arith, k, n, few); word = h.0.word },
  all_after p most l is few h.1,
)

all_parts : (f : ℕ → Strings) (most : ℕ) (es : Entries ℕ) → is_sorted word_order es ≡ true → list_all (λ e. nat_le e.1 max_word) es ≡ true
    → ((k v : ℕ) → value_of word_order es k ≡ Some v → IsSpelt k × (length (word_bytes k) ≤ most))
    → ((k v : ℕ) → value_of word_order es k ≡ Some v → is_last k ≡ false → AreEntries most (after (word_bytes k) (f v)))
    → AreEntries most (joined_strings (part f) es)
unfolding AreEntries
all_parts f most [] sorted low spelt below = tt
all_parts f most (e ∷ es) sorted low spelt below =
    let own = spelt e.0 e.1 (found-first e es) in
    let rest = all_parts f most es (and_right (below_all word_order e.0 es) _ sorted) (and_right (nat_le e.1 max_word) _ low)
    (λ k v i. spelt k v (found_later e es k v sorted i)) (λ k v i. below k v (found_later e es k v sorted i)) in
    let here : AreEntries most (part f e) =
    elim (is_last e.0) as (λ t. is_last e.0 ≡ t → AreEntries most (cond t ((word_bytes e.0, e.1) ∷ []) (after (word_bytes e.0) (f e.1)))) [
      | true ↦ λ i. (
        record {
          string = own.0.bytes;
          short = own.1;
          word = let k = le_of e.1 max_word (and_left (nat_le e.1 max_word) _ low) in
              omega (arith, k);
        },
        tt,
      )
      | false ↦ λ i. below e.0 e.1 (found-first e es) i
    ] refl in
    both most (part f e) (joined_strings (part f) es) here rest

one_entry : {most : ℕ} {e : List ℕ × ℕ} → IsEntry most e → AreEntries most (e ∷ [])
unfolding AreEntries
one_entry h = (h, tt)

few_bytes : (k : ℕ) → is_last k ≡ false → length (word_bytes k) ≤ 8
few_bytes k m = let e = more_long k m in omega (arith, e)

of_suffix : (r : ℕ) (b : Blocks) (w : ℕ) → is_suffix w ≡ true → IsSuffix r b w → AreEntries (8 * r) (nested_content_at (suc r) b w)
of_suffix r b w e s =
    subst (AreEntries (8 * r)) (sym (suffix-content r b w e)) (one_entry (record {
      string = s.bytes;
      short = let a = s.size in
          let c = s.short in omega (arith, a, c);
      word = s.value;
    }))

all_entries : (r : ℕ) (b : Blocks) (w : ℕ) → IsNestedAt (suc r) b w → AreEntries (8 * r) (nested_content_at (suc r) b w)
all_entries zero b w h = node-cases zero b w h (of_suffix zero b w) (λ e n. subst (AreEntries 0) (sym (nest-content zero b w e))
    (all_parts (nested_content_at zero b) 0 (entries true b w) (nest-sorted zero b w n) (root-values b w n.root) (λ k v i. (n.spelt k v i, n.short k v i))
    (λ k v i m. absurd (none-array b v (n.sound k v (record { found = i; more = m }))))))
all_entries (suc r) b w h = node-cases (suc r) b w h (of_suffix (suc r) b w) (λ e n. subst (AreEntries (8 * suc r)) (sym (nest-content (suc r) b w e))
    (all_parts (nested_content_at (suc r) b) (8 * suc r) (entries true b w) (nest-sorted (suc r) b w n) (root-values b w n.root)
    (λ k v i. (n.spelt k v i, n.short k v i))
    (λ k v i m. subst (λ most. AreEntries most (after (word_bytes k) (nested_content_at (suc r) b v))) (omega arith)
    (all_after (word_bytes k) (8 * r) (nested_content_at (suc r) b v) (n.spelt k v i).bytes (few_bytes k m)
    (all_entries r b v (n.sound k v (record { found = i; more = m })))))))

-- as the tests of the calls say it
no_zero : (s : List ℕ) → IsString s → list_all (λ c. nat_lt 0 c) s ≡ true
no_zero [] h = refl
no_zero (c ∷ s) h = and_from (nat_lt 0 c) _ (lt-test 0 c h.0) (no_zero s h.2)

all_bytes : (s : List ℕ) → IsString s → list_all (λ c. nat_lt c 256) s ≡ true
all_bytes [] h = refl
all_bytes (c ∷ s) h = and_from (nat_lt c 256) _ (lt-test c 256 h.1) (all_bytes s h.2)

string-entry : (e : List ℕ × ℕ) → IsEntry 1000 e → is_string_entry e ≡ true
string-entry e h =
    and_from (is_string e.0 && are_bytes e.0) _
    (and_from (is_string e.0) _ (and_from (nat_le (length e.0) 1000) _ (le-test (length e.0) 1000 h.short) (no_zero e.0 h.string)) (all_bytes e.0 h.string))
    (le-test e.1 max_word (let k = h.word in omega (arith, k)))

string-entries : (l : Strings) → AreEntries 1000 l → list_all is_string_entry l ≡ true
unfolding AreEntries
string-entries [] h = refl
string-entries (e ∷ l) h = and_from (is_string_entry e) _ (string-entry e h.0) (string-entries l h.1)

pub content-entries : (b : Blocks) (w : ℕ) → IsNestedAt 126 b w → list_all is_string_entry (nested_content_at 126 b w) ≡ true
content-entries b w h = string-entries (nested_content_at 126 b w) (all_entries 125 b w h)

string-of-bytes : (s : List ℕ) → list_all (λ c. nat_lt c 256) s ≡ true → list_all (λ c. nat_lt 0 c) s ≡ true → IsString s
string-of-bytes [] h k = tt
string-of-bytes (c ∷ s) h k = (
  lt_of 0 c (and_left (nat_lt 0 c) _ k),
  lt_of c 256 (and_left (nat_lt c 256) _ h),
  string-of-bytes s (and_right (nat_lt c 256) _ h) (and_right (nat_lt 0 c) _ k),
)

pub strings-are-keys : StringsAreKeys
strings-are-keys s bytes = (
  λ h. record {
    string = string-of-bytes s bytes (and_right (nat_le (length s) 1000) _ h);
    short = le_of (length s) 1000 (and_left (nat_le (length s) 1000) _ h);
  },
  λ k. and_from (nat_le (length s) 1000) _ (le-test (length s) 1000 k.short) (no_zero s k.string),
)

-- what a slice of bytes holds
pub are-bytes : (s : List ℕ) → ((i : ℕ) → Fits w8 (get_or s i 0)) → are_bytes s ≡ true
are-bytes [] small = refl
are-bytes (c ∷ s) small = and_from (nat_lt c 256) _ (lt-test c 256 (let k = small 0 in omega (arith, k))) (are-bytes s (λ i. small (suc i)))
