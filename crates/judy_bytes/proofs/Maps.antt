-- A map whose chain at one hash word changed at one key.
use Rattle.std.proofs.Common.{◌≡◌, ◌≢◌, ℕ, true, false, cond, ◌==◌, List, Option, Some, None, is_some, ap, sym, ◌∙◌, refl, subst, unwrap_or, inl, inr, arith}
use Rattle.std.proofs.lemmas.Bool.Decides.{nat_tests}
use Rattle.std.specs.Ordering.{eq_by_cmp}
use Rattle.std.proofs.lemmas.Bool.{false≢true as not-true, false_from_ne_true}
use Rattle.judy_arena.specs.Blocks.{Blocks, block, is_live}
use Rattle.judy_arena.specs.Frame.{holds}
use Rattle.judy_arena.proofs.lemmas.FrameLaws.{frame-stays}
use Rattle.judy_words.specs.LongArrays.{IsLongArray, long_in, long_numbers}
use Rattle.judy_model.specs.Contents.{word_order, string_order, value_of}
use Rattle.judy_model.proofs.lemmas.EntryLemmas.{word_itself, same_string, same_word}
use Rattle.judy_bytes.specs.Chains.{chain, bucket_entries, IsBucketChain, ChainBecomes}
use Rattle.judy_bytes.specs.BytesArrays.{bytes_in, bytes_numbers, first_at, if_some, HaveHash, IsBytesArray, WordsBecome, KeyBecomes}
use Rattle.judy_bytes.proofs.Below.{words-live, words-kept}
use Rattle.judy_bytes.proofs.Links.{all-live, Stays, chain-stays}
use Rattle.judy_bytes.proofs.Numbers.{content-found, own-in, bucket-in, in-map, map-live}
use Rattle.judy_tree.proofs.lemmas.Joins.{word_other, string_other}

decide : {P : Type 0} (k h : ℕ) → (k ≡ h → P) → (k ≢ h → P) → P
decide {P} k h f g = elim (eq_by_cmp word_order k h) as (λ t. eq_by_cmp word_order k h ≡ t → P) [
  | true ↦ λ e. f (same_word k h e)
  | false ↦ λ e. g (λ i. not-true (sym e ∙ ap (λ x. eq_by_cmp word_order x h) i ∙ word_itself h))
] refl

unwrapped : (v : ℕ) → unwrap_or (if_some v) 0 ≡ v
unwrapped v = elim (v == 0) as (λ t. (v == 0) ≡ t → unwrap_or (cond t None (Some v)) 0 ≡ v) [
  | true ↦ λ e. zero-is v e
  | false ↦ λ e. refl
] refl
  where
    zero-is : (v : ℕ) → (v == 0) ≡ true → 0 ≡ v
    zero-is v e = grind (arith, nat_tests)

module _ (H : List ℕ → ℕ) (a m : Blocks) (w : ℕ) (key : List ℕ) (new : Option ℕ) (h v : ℕ) (sound : IsBytesArray H a w)
    (ch : ChainBecomes a m (first_at a w h) v key new) where
  own-rests : (q : ℕ) → holds q (long_numbers a w) ≡ true → (holds q (chain m v) ≡ false) × (block m q ≡ block a q)
  own-rests q i = frame-stays a m (chain a (first_at a w h)) (chain m v) q ch.frame (words-live a w sound.words q i)
      (false_from_ne_true (holds q (chain a (first_at a w h))) (λ e. not-true (sym (sound.below h q e) ∙ i)))

  -- the JudyL stays
  pub words-rest : IsLongArray m w × (long_in m w ≡ long_in a w) × (long_numbers m w ≡ long_numbers a w)
  words-rest = words-kept a m w sound.words (λ q i. (own-rests q i).1)

  other-rests : (k : ℕ) → k ≢ h → (q : ℕ) → holds q (chain a (first_at a w k)) ≡ true → (holds q (chain m v) ≡ false) × (block m q ≡ block a q)
  other-rests k ne q i = frame-stays a m (chain a (first_at a w h)) (chain m v) q ch.frame
      (all-live a (first_at a w k) (chain a (first_at a w k)) (sound.chains k).linked q i)
      (false_from_ne_true (holds q (chain a (first_at a w h))) (λ e. ne (sound.apart k h q i e)))

  module _ (c : Blocks) (x : ℕ) (wb : WordsBecome m c w x h (if_some v)) where
    keeps : (q : ℕ) → is_live m q ≡ true → holds q (long_numbers a w) ≡ false → (holds q (long_numbers c x) ≡ false) × (block c q ≡ block m q)
    keeps q l o = frame-stays m c (long_numbers m w) (long_numbers c x) q wb.frame l (ap (holds q) words-rest.2 ∙ o)

    here-apart : (q : ℕ) → holds q (chain m v) ≡ true → holds q (long_numbers a w) ≡ false
    here-apart q i = false_from_ne_true (holds q (long_numbers a w)) (λ e. not-true (sym (own-rests q e).0 ∙ i))

    here-rests : (q : ℕ) → holds q (chain m v) ≡ true → (holds q (long_numbers c x) ≡ false) × (block c q ≡ block m q)
    here-rests q i = keeps q (all-live m v (chain m v) ch.sound.linked q i) (here-apart q i)

    here : Stays m c v
    here = chain-stays m c v ch.sound (λ q i. (here-rests q i).1)

    there-rests : (k : ℕ) → k ≢ h → (q : ℕ) → holds q (chain a (first_at a w k)) ≡ true → (holds q (long_numbers c x) ≡ false) × (block c q ≡ block a q)
    there-rests k ne q i =
        let r = other-rests k ne q i in
        let s = keeps q (ap is_some r.1 ∙ all-live a (first_at a w k) (chain a (first_at a w k)) (sound.chains k).linked q i) (sound.below k q i) in
        (s.0, s.1 ∙ r.1)

    there : (k : ℕ) → k ≢ h → Stays a c (first_at a w k)
    there k ne = chain-stays a c (first_at a w k) (sound.chains k) (λ q i. (there-rests k ne q i).1)

    value-here : value_of word_order (long_in c x) h ≡ if_some v
    value-here = wb.found h ∙ ap (λ t. cond t (if_some v) (value_of word_order (long_in m w) h)) (word_itself h)

    value-there : (k : ℕ) → k ≢ h → value_of word_order (long_in c x) k ≡ value_of word_order (long_in a w) k
    value-there k ne = wb.found k ∙ ap (λ t. cond t (if_some v) (value_of word_order (long_in m w) k)) (word_other k h ne)
        ∙ ap (λ es. value_of word_order es k) words-rest.1

    first-here : (k : ℕ) → k ≡ h → first_at c x k ≡ v
    first-here k e = ap (first_at c x) e ∙ ap (λ o. unwrap_or o 0) value-here ∙ unwrapped v

    first-there : (k : ℕ) → k ≢ h → first_at c x k ≡ first_at a w k
    first-there k ne = ap (λ o. unwrap_or o 0) (value-there k ne)

    chain-here : (k : ℕ) → k ≡ h → chain c (first_at c x k) ≡ chain m v
    chain-here k e = ap (chain c) (first-here k e) ∙ here.chain_is

    chain-there : (k : ℕ) → k ≢ h → chain c (first_at c x k) ≡ chain a (first_at a w k)
    chain-there k ne = ap (chain c) (first-there k ne) ∙ (there k ne).chain_is

    entries-here : (k : ℕ) → k ≡ h → bucket_entries c (chain c (first_at c x k)) ≡ bucket_entries m (chain m v)
    entries-here k e = ap (λ u. bucket_entries c (chain c u)) (first-here k e) ∙ here.entries

    entries-there : (k : ℕ) → k ≢ h → bucket_entries c (chain c (first_at c x k)) ≡ bucket_entries a (chain a (first_at a w k))
    entries-there k ne = ap (λ u. bucket_entries c (chain c u)) (first-there k ne) ∙ (there k ne).entries

    now-chains : (k : ℕ) → IsBucketChain c (first_at c x k)
    now-chains k = decide k h (λ e. subst (IsBucketChain c) (sym (first-here k e)) here.sound)
        (λ ne. subst (IsBucketChain c) (sym (first-there k ne)) (there k ne).sound)

    now-filled : (k : ℕ) → value_of word_order (long_in c x) k ≡ if_some (first_at c x k)
    now-filled k = decide k h (λ e. ap (value_of word_order (long_in c x)) e ∙ value-here ∙ ap if_some (sym (first-here k e)))
        (λ ne. value-there k ne ∙ sound.filled k ∙ ap if_some (sym (first-there k ne)))

    now-apart : (k l q : ℕ) → holds q (chain c (first_at c x k)) ≡ true → holds q (chain c (first_at c x l)) ≡ true → k ≡ l
    now-apart k l q i j =
        decide k h
        (λ e. decide l h (λ f. e ∙ sym f)
        (λ nf. absurd (not-true (sym (other-rests l nf q (ap (holds q) (sym (chain-there l nf)) ∙ j)).0 ∙ ap (holds q) (sym (chain-here k e)) ∙ i))))
        (λ ne. decide l h
        (λ f. absurd (not-true (sym (other-rests k ne q (ap (holds q) (sym (chain-there k ne)) ∙ i)).0 ∙ ap (holds q) (sym (chain-here l f)) ∙ j)))
        (λ nf. sound.apart k l q (ap (holds q) (sym (chain-there k ne)) ∙ i) (ap (holds q) (sym (chain-there l nf)) ∙ j)))

    now-below : (k q : ℕ) → holds q (chain c (first_at c x k)) ≡ true → holds q (long_numbers c x) ≡ false
    now-below k q i = decide k h (λ e. (here-rests q (ap (holds q) (sym (chain-here k e)) ∙ i)).0)
        (λ ne. (there-rests k ne q (ap (holds q) (sym (chain-there k ne)) ∙ i)).0)

    module _ (hash : H key ≡ h) where
      hash-here : (s : List ℕ) (y : ℕ) → value_of string_order (bucket_entries m (chain m v)) s ≡ Some y → H s ≡ h
      hash-here s y i = elim (eq_by_cmp string_order s key) as (λ t. eq_by_cmp string_order s key ≡ t
          → cond t new (value_of string_order (bucket_entries a (chain a (first_at a w h))) s) ≡ Some y → H s ≡ h) [
            | true ↦ λ e j. ap H (same_string s key e) ∙ hash
            | false ↦ λ e j. sound.hashes h s y j
          ] refl (sym (ch.found s) ∙ i)

      now-hashes : (k : ℕ) → HaveHash H k (bucket_entries c (chain c (first_at c x k)))
      now-hashes k = λ s y i. decide k h
          (λ e. hash-here s y (ap (λ es. value_of string_order es s) (sym (entries-here k e)) ∙ i) ∙ sym e)
          (λ ne. sound.hashes k s y (ap (λ es. value_of string_order es s) (sym (entries-there k ne)) ∙ i))

      now-sound : IsBytesArray H c x
      now-sound = record { words = wb.sound; chains = now-chains; filled = now-filled; hashes = now-hashes; apart = now-apart; below = now-below }

      now-found : (s : List ℕ) → value_of string_order (bytes_in c x) s ≡ cond (eq_by_cmp string_order s key) new (value_of string_order (bytes_in a w) s)
      now-found s = content-found H c x s now-sound ∙ decide (H s) h
          (λ e. ap (λ es. value_of string_order es s) (entries-here (H s) e) ∙ ch.found s
          ∙ ap (λ k. cond (eq_by_cmp string_order s key) new (value_of string_order (bucket_entries a (chain a (first_at a w k))) s)) (sym e)
          ∙ ap (cond (eq_by_cmp string_order s key) new) (sym (content-found H a w s sound)))
          (λ ne. ap (λ es. value_of string_order es s) (entries-there (H s) ne) ∙ sym (content-found H a w s sound)
          ∙ sym (ap (λ t. cond t new (value_of string_order (bytes_in a w) s)) (string_other s key (λ i. ne (ap H i ∙ hash)))))

      -- ---- no other block changed

      chain-in : (q : ℕ) → holds q (chain m v) ≡ true → holds q (bytes_numbers c x) ≡ true
      chain-in q i = bucket-in c x h q (ap (holds q) (chain-here h refl) ∙ i)

      other-in : (k : ℕ) → k ≢ h → (q : ℕ) → holds q (chain a (first_at a w k)) ≡ true → holds q (bytes_numbers c x) ≡ true
      other-in k ne q i = bucket-in c x k q (ap (holds q) (chain-there k ne) ∙ i)

      both : (q : ℕ) (ns : List ℕ) → holds q ns ≡ true → holds q ns ≡ false → ⊥
      both q ns i j = not-true (sym j ∙ i)

      -- what became of a block that is not of the new map
      at-outside : (q : ℕ) → holds q (bytes_numbers c x) ≡ false → block c q ≡ cond (holds q (long_numbers a w)) None
          (cond (holds q (chain a (first_at a w h))) None (block a q))
      at-outside q out =
          wb.frame.outside q (false_from_ne_true (holds q (long_numbers c x)) (λ e. both q (bytes_numbers c x) (own-in c x q e) out))
          ∙ ap (λ ns. cond (holds q ns) None (block m q)) words-rest.2
          ∙ ap (cond (holds q (long_numbers a w)) None)
          (ch.frame.outside q (false_from_ne_true (holds q (chain m v)) (λ e. both q (bytes_numbers c x) (chain-in q e) out)))

      frame-outside : (q : ℕ) → holds q (bytes_numbers c x) ≡ false → block c q ≡ cond (holds q (bytes_numbers a w)) None (block a q)
      frame-outside q out = at-outside q out ∙ elim (holds q (long_numbers a w)) as (λ t. holds q (long_numbers a w) ≡ t
          → cond t None (cond (holds q (chain a (first_at a w h))) None (block a q)) ≡ cond (holds q (bytes_numbers a w)) None (block a q)) [
            | true ↦ λ e. sym (ap (λ t. cond t None (block a q)) (own-in a w q e))
            | false ↦ λ e. elim (holds q (chain a (first_at a w h))) as (λ t. holds q (chain a (first_at a w h)) ≡ t → cond t None
                (block a q) ≡ cond (holds q (bytes_numbers a w)) None (block a q)) [
                  | true ↦ λ f. sym (ap (λ t. cond t None (block a q)) (bucket-in a w h q f))
                  | false ↦ λ f. sym (ap (λ t. cond t None (block a q)) (false_from_ne_true (holds q (bytes_numbers a w))
                      (λ g. elim (in-map a w q sound.words g) [
                        | inl own ↦ both q (long_numbers a w) own e
                        | inr at ↦ decide at.hash h
                            (λ i. both q (chain a (first_at a w h)) (ap (λ k. holds q (chain a (first_at a w k))) (sym i) ∙ at.held) f)
                            (λ ne. both q (bytes_numbers c x) (other-in at.hash ne q at.held) out)
                      ])))
                ] refl
          ] refl

      -- a number of the new map alone was not live
      frame-fresh : (q : ℕ) → holds q (bytes_numbers c x) ≡ true → holds q (bytes_numbers a w) ≡ false → block a q ≡ None
      frame-fresh q i out =
          let not-own : holds q (long_numbers a w) ≡ false = false_from_ne_true (holds q (long_numbers a w))
          (λ e. both q (bytes_numbers a w) (own-in a w q e) out) in
          let not-here : holds q (chain a (first_at a w h)) ≡ false = false_from_ne_true (holds q (chain a (first_at a w h)))
          (λ e. both q (bytes_numbers a w) (bucket-in a w h q e) out) in
          elim (in-map c x q wb.sound i) [
            | inl own ↦
                let fresh : block m q ≡ None = wb.frame.fresh q own (ap (holds q) words-rest.2 ∙ not-own) in
                let not-new : holds q (chain m v) ≡ false = false_from_ne_true (holds q (chain m v))
                (λ e. not-true (ap is_some (sym fresh) ∙ all-live m v (chain m v) ch.sound.linked q e)) in
                ap (λ t. cond t None (block a q)) (sym not-here) ∙ sym (ch.frame.outside q not-new) ∙ fresh
            | inr at ↦ decide at.hash h
                (λ e. ch.frame.fresh q (ap (holds q) (sym (chain-here at.hash e)) ∙ at.held) not-here)
                (λ ne. absurd (both q (bytes_numbers a w) (bucket-in a w at.hash q (ap (holds q) (sym (chain-there at.hash ne)) ∙ at.held)) out))
          ]

      pub map-becomes : KeyBecomes H a c w x key new
      map-becomes = record {
        sound = now-sound;
        frame = record { outside = frame-outside; inside = λ q i. map-live H c x q now-sound i; fresh = frame-fresh };
        found = now-found;
      }
