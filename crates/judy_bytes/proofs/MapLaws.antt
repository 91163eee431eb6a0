-- The laws of a JudyHS.
use Rattle.std.proofs.Common.{◌≡◌, ℕ, true, false, cond, List, [], ◌∷◌, ◌++◌, length, get_or, Option, Some, None, is_some, ap}
use Rattle.std.proofs.Common.{sym, ◌∙◌, refl, subst, unwrap_or, arith}
use Rattle.std.specs.Ordering.{eq_by_cmp}
use Rattle.std.specs.FinMap.{is_sorted}
use Rattle.std.specs.List.{list_all}
use Rattle.std.proofs.lemmas.Bool.{false≢true as not-true}
use Rattle.std.proofs.lemmas.Option.{none-some}
use Rattle.judy_model.specs.WellFormed.{is_bytes_entry}
use Rattle.judy_arena.specs.Blocks.{Blocks, block, words_of}
use Rattle.judy_arena.specs.Frame.{holds}
use Rattle.judy_arena.specs.Totals.{are_distinct}
use Rattle.judy_arena.proofs.lemmas.FrameLaws.{frame-stays}
use Rattle.judy_words.specs.LongArrays.{IsLongArray, long_in, long_numbers}
use Rattle.judy_model.specs.Contents.{Entries, word_order, string_order, value_of, has_key}
use Rattle.judy_model.proofs.lemmas.TestLemmas.{from_T}
use Rattle.judy_model.proofs.lemmas.StateLemmas.{same_name}
use Rattle.judy_model.proofs.lemmas.EntryLemmas.{same_string}
use Rattle.judy_bytes.specs.Buckets.{bucket_key, next_of}
use Rattle.judy_bytes.specs.Chains.{chain, bucket_entries, Linked, IsBucketChain}
use Rattle.judy_bytes.specs.BytesArrays.{bucket_numbers, bytes_in, bytes_numbers, first_at, if_some, IsBytesArray}
use Rattle.judy_bytes.specs.Laws.{SpellsBytes, OthersStay, OwnBlocksTell, BlocksAreLive, IsKey, ContentIsSound, OnlyNothingIsEmpty, NothingChanges}
use Rattle.judy_bytes.proofs.Below.{words-rise, words-kept, words-none, words-empty}
use Rattle.judy_bytes.proofs.Changes.{none-map, none-content, unchanged}
use Rattle.judy_bytes.proofs.Contents.{content-rises, same-found}
use Rattle.judy_bytes.proofs.Counts.{numbers-once, few-keys}
use Rattle.judy_bytes.proofs.Links.{Stays, chain-stays}
use Rattle.judy_bytes.proofs.Numbers.{content-found, own-in, bucket-in, map-live, tail-rises, found-later}
use Rattle.judy_bytes.proofs.WellFormed.{content-entries}
use Rattle.judy_tree.proofs.lemmas.Joins.{found-first}

numbers-same : (a c : Blocks) (es : Entries ℕ) → is_sorted word_order es ≡ true → ((k v : ℕ) → value_of word_order es k ≡ Some v
    → chain c v ≡ chain a v) → bucket_numbers c es ≡ bucket_numbers a es
numbers-same a c [] s h = refl
numbers-same a c (e ∷ es) s h =
    ap (λ l. l ++ bucket_numbers c es) (h e.0 e.1 (found-first e es))
    ∙ ap (λ l. chain a e.1 ++ l) (numbers-same a c es (tail-rises e es s) (λ k v i. h k v (found-later e es k v s i)))

module _ (H : List ℕ → ℕ) (a c : Blocks) (w : ℕ) (sound : IsBytesArray H a w) (same : (q : ℕ) → holds q (bytes_numbers a w) ≡ true
    → block c q ≡ block a q) where
  own : IsLongArray c w × (long_in c w ≡ long_in a w) × (long_numbers c w ≡ long_numbers a w)
  own = words-kept a c w sound.words (λ q i. same q (own-in a w q i))

  stays : (h : ℕ) → Stays a c (first_at a w h)
  stays h = chain-stays a c (first_at a w h) (sound.chains h) (λ q i. same q (bucket-in a w h q i))

  first-is : (h : ℕ) → first_at c w h ≡ first_at a w h
  first-is h = ap (λ es. unwrap_or (value_of word_order es h) 0) own.1

  chain-is : (h : ℕ) → chain c (first_at c w h) ≡ chain a (first_at a w h)
  chain-is h = ap (chain c) (first-is h) ∙ (stays h).chain_is

  entries-are : (h : ℕ) → bucket_entries c (chain c (first_at c w h)) ≡ bucket_entries a (chain a (first_at a w h))
  entries-are h = ap (λ u. bucket_entries c (chain c u)) (first-is h) ∙ (stays h).entries

  still-sound : IsBytesArray H c w
  still-sound = record {
    words = own.0;
    chains = λ h. subst (IsBucketChain c) (sym (first-is h)) (stays h).sound;
    filled = λ h. ap (λ es. value_of word_order es h) own.1 ∙ sound.filled h ∙ ap if_some (sym (first-is h));
    hashes = λ h k v i. sound.hashes h k v (ap (λ es. value_of string_order es k) (sym (entries-are h)) ∙ i);
    apart = λ h k q i j. sound.apart h k q (ap (holds q) (sym (chain-is h)) ∙ i) (ap (holds q) (sym (chain-is k)) ∙ j);
    below = λ h q i. ap (holds q) own.2 ∙ sound.below h q (ap (holds q) (sym (chain-is h)) ∙ i);
  }

  still-content : bytes_in c w ≡ bytes_in a w
  still-content = same-found (bytes_in c w) (bytes_in a w) (content-rises c w) (content-rises a w)
      (λ s. content-found H c w s still-sound ∙ ap (λ es. value_of string_order es s) (entries-are (H s)) ∙ sym (content-found H a w s sound))

  still-numbers : bytes_numbers c w ≡ bytes_numbers a w
  unfolding bytes_numbers
  still-numbers = ap (λ l. l ++ bucket_numbers c (long_in c w)) own.2 ∙ ap (λ es. long_numbers a w ++ bucket_numbers c es) own.1
      ∙ ap (λ l. long_numbers a w ++ l) (numbers-same a c (long_in a w) (words-rise a w sound.words)
      (λ k v i. subst (λ u. chain c u ≡ chain a u) (ap (λ o. unwrap_or o 0) i) (stays k).chain_is))

pub own-blocks-tell : OwnBlocksTell
own-blocks-tell H a c w l ns same s =
    let at : (q : ℕ) → holds q (bytes_numbers a w) ≡ true → block c q ≡ block a q = λ q i. same q (ap (holds q) (sym s.blocks) ∙ i) in
    record {
      sound = still-sound H a c w s.sound at;
      content = still-content H a c w s.sound at ∙ s.content;
      blocks =
          still-numbers H a c w s.sound at ∙ s.blocks;
    }

pub others-stay : OthersStay
others-stay H a c old new w l ns f s apart =
    let rests : (q : ℕ) → holds q ns ≡ true → (holds q new ≡ false) × (block c q ≡ block a q) = λ q i. frame-stays a c old new q f
    (map-live H a w q s.sound (ap (holds q) s.blocks ∙ i)) (apart q i) in
    (own-blocks-tell H a c w l ns (λ q i. (rests q i).1) s, λ q i. (rests q i).0)

pub blocks-are-live : BlocksAreLive
blocks-are-live H b w l ns s = (λ q i. map-live H b w q s.sound (ap (holds q) s.blocks ∙ i), ap are_distinct (sym s.blocks) ∙ numbers-once H b w s.sound)

key-of : (b : Blocks) (w : ℕ) (ns : List ℕ) (key : List ℕ) → Linked b w ns → has_key string_order (bucket_entries b ns) key ≡ true → IsKey key
key-of b w [] key l h = absurd (not-true h)
key-of b w (n ∷ ns) key l h = elim (eq_by_cmp string_order key (bucket_key (words_of b n))) as (λ t. eq_by_cmp string_order key (bucket_key (words_of b n)) ≡ t
    → is_some (cond t (Some (get_or (words_of b n) 1 0)) (value_of string_order (bucket_entries b ns) key)) ≡ true → IsKey key) [
      | true ↦ λ e i. subst IsKey (sym (same_string key (bucket_key (words_of b n)) e)) (record { bytes = l.1.key.bytes; short = l.1.key.short })
      | false ↦ λ e i. key-of b (next_of b n) ns key l.2 i
    ] refl h

pub content-is-sound : ContentIsSound
content-is-sound H b w l ns s =
    let few = few-keys H b w s.sound in
    let size = ap length s.content in (
      subst (λ m. is_sorted string_order m ≡ true) s.content (from_T _ (content-rises b w)),
      λ key h. key-of b (first_at b w (H key)) (chain b (first_at b w (H key))) key (s.sound.chains (H key)).linked
          (ap is_some (sym (content-found H b w key s.sound)) ∙ ap (λ m. has_key string_order m key) s.content ∙ h),
      omega arith,
      subst (λ m. list_all is_bytes_entry m ≡ true) s.content (content-entries H b w s.sound),
    )

pub nothing-changes : NothingChanges
nothing-changes H old new w e h = (
  record { sound = subst (λ b. IsBytesArray H b w) (sym e) h; frame = unchanged H old.blocks new.blocks w h e },
  ap (λ b. bytes_in b w) e,
)

-- a chain that holds nothing is nothing
nothing-held : (b : Blocks) (v : ℕ) (ns : List ℕ) → Linked b v ns → ((s : List ℕ) → value_of string_order (bucket_entries b ns) s ≡ None) → v ≡ 0
nothing-held b v [] l h = l
nothing-held b v (n ∷ ns) l h = absurd
    (none-some _ (sym (h (bucket_key (words_of b n)))
    ∙ ap (λ t. cond t (Some (get_or (words_of b n) 1 0)) (value_of string_order (bucket_entries b ns) (bucket_key (words_of b n))))
    (same_name (bucket_key (words_of b n)))))

no-words : (l : Entries ℕ) → ((k : ℕ) → value_of word_order l k ≡ None) → l ≡ []
no-words [] h = refl
no-words (e ∷ l) h = absurd (none-some _ (sym (h e.0) ∙ found-first e l))

none-numbers : (b : Blocks) → bytes_numbers b 0 ≡ []
unfolding bytes_numbers
none-numbers b = ap (λ l. l ++ bucket_numbers b (long_in b 0)) (words-none b).2 ∙ ap (bucket_numbers b) (words-none b).1

-- in an empty map no chain has a key
no-key : (H : List ℕ → ℕ) (b : Blocks) (w k : ℕ) (ns : List ℕ) (key : List ℕ) → SpellsBytes H b w [] ns → value_of string_order
    (bucket_entries b (chain b (first_at b w k))) key ≡ None
no-key H b w k ns key s = none-of (value_of string_order (bucket_entries b (chain b (first_at b w k))) key) (λ v i.
    none-some _ (ap (λ m. value_of string_order m key) (sym s.content) ∙ content-found H b w key s.sound
    ∙ ap (λ h. value_of string_order (bucket_entries b (chain b (first_at b w h))) key) (s.sound.hashes k key v i) ∙ i))
  where
    none-of : (o : Option ℕ) → ((v : ℕ) → o ≡ Some v → ⊥) → o ≡ None
    none-of None h = refl
    none-of (Some v) h = absurd (h v refl)

pub only-nothing-is-empty : OnlyNothingIsEmpty
only-nothing-is-empty H b = (
  record { sound = none-map H b; content = none-content b; blocks = none-numbers b },
  λ w ns s. words-empty b w s.sound.words
      (no-words (long_in b w)
      (λ k. s.sound.filled k ∙ ap if_some (nothing-held b (first_at b w k) (chain b (first_at b w k)) (s.sound.chains k).linked
      (λ key. no-key H b w k ns key s)))),
)
