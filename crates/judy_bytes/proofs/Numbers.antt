-- The buckets of a map: which of them hold a key, and which blocks they are.
use Rattle.std.proofs.Common.{◌≡◌, ℕ, true, false, cond, List, [], ◌∷◌, ◌++◌, Option, Some, None, ap, sym, ◌∙◌, refl, subst, unwrap_or, ◌⊎◌, inl, inr}
use Rattle.std.specs.Ordering.{eq_by_cmp}
use Rattle.std.specs.Cmp.Lexicographic.{nat_list_cmp_total}
use Rattle.std.specs.FinMap.{is_sorted}
use Rattle.std.specs.FinMap.Entries.{below_all, find-put}
use Rattle.std.proofs.lemmas.Bool.{false≢true as not-true}
use Rattle.std.proofs.lemmas.Option.{none-some}
use Rattle.judy_arena.specs.Blocks.{Blocks, is_live}
use Rattle.judy_arena.specs.Frame.{holds}
use Rattle.judy_arena.proofs.lemmas.FrameLaws.{in-left, in-right, in-either}
use Rattle.judy_words.specs.LongArrays.{IsLongArray, long_in, long_numbers}
use Rattle.judy_model.specs.Contents.{Entries, word_order, string_order, value_of}
use Rattle.judy_model.proofs.lemmas.TestLemmas.{and_right}
use Rattle.judy_model.proofs.lemmas.EntryLemmas.{word_itself, same_Some}
use Rattle.judy_bytes.specs.Buckets.{bucket_entry}
use Rattle.judy_bytes.specs.Chains.{ByteEntries, chain, bucket_entries}
use Rattle.judy_bytes.specs.BytesArrays.{bucket_numbers, in_order, bytes_in, bytes_numbers, first_at, HaveHash, IsBytesArray}
use Rattle.judy_bytes.proofs.Below.{words-rise, words-live}
use Rattle.judy_bytes.proofs.Links.{chain-none, all-live}
use Rattle.judy_tree.proofs.lemmas.Joins.{or_else, found-first, or_none, none_or, gone-after}

-- ---- JudyL arrays

pub tail-rises : (e : ℕ × ℕ) (es : Entries ℕ) → is_sorted word_order (e ∷ es) ≡ true → is_sorted word_order es ≡ true
tail-rises e es s = and_right (below_all word_order e.0 es) _ s

pub found-later : (e : ℕ × ℕ) (es : Entries ℕ) (k v : ℕ) → is_sorted word_order (e ∷ es) ≡ true → value_of word_order es k ≡ Some
    v → value_of word_order (e ∷ es) k ≡ Some v
found-later e es k v s h = elim (eq_by_cmp word_order k e.0) as (λ t. eq_by_cmp word_order k e.0 ≡ t → cond t (Some e.1) (value_of word_order es k) ≡ Some v) [
  | true ↦ λ i. absurd (none-some _ (sym (gone-after e es k s i) ∙ h))
  | false ↦ λ i. h
] refl

-- ---- the entries of all buckets

find-both : (b : Blocks) (s : List ℕ) (xs ys : List ℕ) → value_of string_order (bucket_entries b (xs ++ ys)) s ≡ or_else
    (value_of string_order (bucket_entries b xs) s) (value_of string_order (bucket_entries b ys) s)
unfolding or_else
find-both b s [] ys = refl
find-both b s (n ∷ xs) ys =
    let e : List ℕ × ℕ = bucket_entry b n in
    elim (eq_by_cmp string_order s e.0) as (λ t. cond t (Some e.1) (value_of string_order (bucket_entries b (xs ++ ys)) s) ≡ or_else
    (cond t (Some e.1) (value_of string_order (bucket_entries b xs) s)) (value_of string_order (bucket_entries b ys) s)) [
      | true ↦ refl
      | false ↦ find-both b s xs ys
    ]

pub find-none : (b : Blocks) (s : List ℕ) (xs ys : List ℕ) → value_of string_order (bucket_entries b xs) s ≡ None
    → value_of string_order (bucket_entries b ys) s ≡ None → value_of string_order (bucket_entries b (xs ++ ys)) s ≡ None
find-none b s xs ys h k = find-both b s xs ys ∙ ap (λ o. or_else o (value_of string_order (bucket_entries b ys) s)) h
    ∙ none_or (value_of string_order (bucket_entries b ys) s) ∙ k

-- what a chain that may be there has at a key
pub under : Blocks → List ℕ → Option ℕ → Option ℕ
under b s None = None
under b s (Some v) = value_of string_order (bucket_entries b (chain b v)) s

none-found : (o : Option ℕ) → ((v : ℕ) → o ≡ Some v → ⊥) → o ≡ None
none-found None h = refl
none-found (Some v) h = absurd (h v refl)

pub find-gathered : (H : List ℕ → ℕ) (b : Blocks) (s : List ℕ) (es : Entries ℕ) → is_sorted word_order es ≡ true
    → ((k v : ℕ) → value_of word_order es k ≡ Some v → HaveHash H k (bucket_entries b (chain b v)))
    → value_of string_order (bucket_entries b (bucket_numbers b es)) s ≡ under b s (value_of word_order es (H s))
unfolding under
find-gathered H b s [] sorted hash = refl
find-gathered H b s (e ∷ es) sorted hash =
    let rest = find-gathered H b s es (tail-rises e es sorted) (λ k v i. hash k v (found-later e es k v sorted i)) in
    find-both b s (chain b e.1) (bucket_numbers b es)
    ∙ elim (eq_by_cmp word_order (H s) e.0) as (λ t. eq_by_cmp word_order (H s) e.0 ≡ t
    → or_else (value_of string_order (bucket_entries b (chain b e.1)) s) (value_of string_order (bucket_entries b (bucket_numbers b es))
    s) ≡ under b s (cond t (Some e.1) (value_of word_order es (H s)))) [
      | true ↦ λ i. ap (or_else (value_of string_order (bucket_entries b (chain b e.1)) s))
          (rest ∙ ap (under b s) (gone-after e es (H s) sorted i)) ∙ or_none (value_of string_order (bucket_entries b (chain b e.1)) s)
      | false ↦ λ i. ap (λ o. or_else o (value_of string_order (bucket_entries b (bucket_numbers b es)) s))
          (none-found (value_of string_order (bucket_entries b (chain b e.1)) s)
          (λ v j. not-true (sym i ∙ ap (λ k. eq_by_cmp word_order k e.0) (hash e.0 e.1 (found-first e es) s v j) ∙ word_itself e.0)))
          ∙ none_or (value_of string_order (bucket_entries b (bucket_numbers b es)) s) ∙ rest
    ] refl

-- ordering changes nothing that is found
pub found-ordered : (es : ByteEntries) (s : List ℕ) → value_of string_order (in_order es) s ≡ value_of string_order es s
found-ordered [] s = refl
found-ordered (e ∷ es) s = find-put string_order nat_list_cmp_total s e.0 e.1 (in_order es)
    ∙ ap (cond (eq_by_cmp string_order s e.0) (Some e.1)) (found-ordered es s)

under-first : (b : Blocks) (s : List ℕ) (o : Option ℕ) → under b s o ≡ value_of string_order (bucket_entries b (chain b (unwrap_or o 0))) s
unfolding under
under-first b s None = ap (λ l. value_of string_order (bucket_entries b l) s) (sym (chain-none b 0 refl))
under-first b s (Some v) = refl

-- what a map holds at a key is what the chain of its hash holds there
pub content-found : (H : List ℕ → ℕ) (b : Blocks) (w : ℕ) (s : List ℕ) → IsBytesArray H b w → value_of string_order (bytes_in b w)
    s ≡ value_of string_order (bucket_entries b (chain b (first_at b w (H s)))) s
unfolding bytes_in
content-found H b w s h =
    found-ordered (bucket_entries b (bucket_numbers b (long_in b w))) s
    ∙ find-gathered H b s (long_in b w) (words-rise b w h.words) (λ k v i. subst (λ x. HaveHash H k (bucket_entries b (chain b x)))
    (ap (λ o. unwrap_or o 0) i) (h.hashes k))
    ∙ under-first b s (value_of word_order (long_in b w) (H s))

pub under-none : (b : Blocks) (s : List ℕ) → under b s None ≡ None
unfolding under
under-none b s = refl

-- ---- the numbers of all buckets

in-buckets : (b : Blocks) (q k v : ℕ) (es : Entries ℕ) → value_of word_order es k ≡ Some v → holds q (chain b v) ≡ true → holds q (bucket_numbers b es) ≡ true
in-buckets b q k v [] h held = absurd (none-some _ h)
in-buckets b q k v (e ∷ es) h held =
    elim (eq_by_cmp word_order k e.0) as (λ t. cond t (Some e.1) (value_of word_order es k) ≡ Some v → holds q (chain b e.1 ++ bucket_numbers b es) ≡ true) [
      | true ↦ λ j. in-left q (chain b e.1) _ (ap (λ u. holds q (chain b u)) (same_Some j) ∙ held)
      | false ↦ λ j. in-right q (chain b e.1) _ (in-buckets b q k v es j held)
    ] h

-- a number among those of the chain of a hash word
pub record Stands (b : Blocks) (es : Entries ℕ) (q : ℕ) : Type 0 where
  pub hash : ℕ
  pub first : ℕ
  pub found : value_of word_order es hash ≡ Some first
  pub held : holds q (chain b first) ≡ true

pub of-buckets : (b : Blocks) (q : ℕ) (es : Entries ℕ) → is_sorted word_order es ≡ true → holds q (bucket_numbers b es) ≡ true → Stands b es q
of-buckets b q [] sorted h = absurd (not-true h)
of-buckets b q (e ∷ es) sorted h =
    elim (in-either q (chain b e.1) (bucket_numbers b es) h) [
      | inl here ↦ record { hash = e.0; first = e.1; found = found-first e es; held = here }
      | inr there ↦ let u = of-buckets b q es (tail-rises e es sorted) there in record {
        hash = u.hash;
        first = u.first;
        found =
            found-later e es u.hash u.first sorted u.found;
        held = u.held;
      }
    ]

-- a number among those of a map
pub own-in : (b : Blocks) (w q : ℕ) → holds q (long_numbers b w) ≡ true → holds q (bytes_numbers b w) ≡ true
unfolding bytes_numbers
own-in b w q h = in-left q (long_numbers b w) _ h

at-first : (b : Blocks) (q k : ℕ) (es : Entries ℕ) (o : Option ℕ) → value_of word_order es k ≡ o
    → holds q (chain b (unwrap_or o 0)) ≡ true → holds q (bucket_numbers b es) ≡ true
at-first b q k es None e h = absurd (not-true (ap (holds q) (sym (chain-none b 0 refl)) ∙ h))
at-first b q k es (Some v) e h = in-buckets b q k v es e h

pub bucket-in : (b : Blocks) (w k q : ℕ) → holds q (chain b (first_at b w k)) ≡ true → holds q (bytes_numbers b w) ≡ true
unfolding bytes_numbers
bucket-in b w k q h = in-right q (long_numbers b w) _ (at-first b q k (long_in b w) (value_of word_order (long_in b w) k) refl h)

pub record At (b : Blocks) (w q : ℕ) : Type 0 where
  pub hash : ℕ
  pub held : holds q (chain b (first_at b w hash)) ≡ true

pub in-map : (b : Blocks) (w q : ℕ) → IsLongArray b w → holds q (bytes_numbers b w) ≡ true → (holds q (long_numbers b w) ≡ true) ⊎ At b w q
unfolding bytes_numbers
in-map b w q h i = elim (in-either q (long_numbers b w) (bucket_numbers b (long_in b w)) i) [
  | inl own ↦ inl own
  | inr other ↦ let u = of-buckets b q (long_in b w) (words-rise b w h) other in
      inr (record { hash = u.hash; held = ap (λ o. holds q (chain b (unwrap_or o 0))) u.found ∙ u.held })
]

pub map-live : (H : List ℕ → ℕ) (b : Blocks) (w q : ℕ) → IsBytesArray H b w → holds q (bytes_numbers b w) ≡ true → is_live b q ≡ true
map-live H b w q h i = elim (in-map b w q h.words i) [
  | inl own ↦ words-live b w h.words q own
  | inr at ↦ all-live b (first_at b w at.hash) (chain b (first_at b w at.hash)) (h.chains at.hash).linked q at.held
]
