-- Walks over a map: what comes next in their order is the rest of a chain, or else the chain of the next hash word.
use Rattle.std.proofs.Common.{◌≡◌, ◌≢◌, ◌∙◌, ◌∷◌, ◌<◌, ◌≤◌, ℕ, suc, Bool, true, false, cond, List, [], Option, Some, None, is_some, refl, sym, ap, subst, arith, drop, get_or, map, unwrap_or}
use Rattle.std.specs.Prelude.{nat_le, nat_lt, option_map}
use Rattle.std.specs.Ordering.{eq_by_cmp, is_gt, is_lt, nat_cmp, ordering_then}
use Rattle.std.specs.declared.cmp.Ordering.{Ordering}
use Rattle.std.specs.declared.cmp.Ordering.TheVariants.{Less, Equal, Greater}
use Rattle.std.specs.FinMap.{is_sorted}
use Rattle.std.proofs.lemmas.Bool.Decides.{nat_tests}
use Rattle.std.proofs.lemmas.Option.{none-some}
use Rattle.judy_arena.specs.Blocks.{Blocks, words_of}
use Rattle.judy_model.specs.Contents.{Entries, head_of, next, string_order, value_of, word_order}
use Rattle.judy_model.specs.Walks.{key_word, key_words, listed, walk_from}
use Rattle.judy_model.proofs.lemmas.ByteLemmas.{by_hash_rises, key_by_hash, value_by_hash}
use Rattle.judy_model.proofs.lemmas.EntryLemmas.{above, equal, from_less, same_word, string_is}
use Rattle.judy_model.proofs.lemmas.TestLemmas.{and_left}
use Rattle.std.specs.FinMap.Entries.{below_all}
use Rattle.judy_tree.specs.Parts.{from}
use Rattle.judy_tree.proofs.lemmas.Clearing.{found-from, next-from}
use Rattle.judy_words.specs.LongArrays.{long_in}
use Rattle.judy_bytes.specs.Buckets.{bucket_key}
use Rattle.judy_bytes.specs.Chains.{ByteEntries, IsBucketChain, Linked, bucket_entries, chain, chain_entries}
use Rattle.judy_bytes.specs.BytesArrays.{IsBytesArray, bytes_in, first_at, if_some}
use Rattle.judy_bytes.specs.Walks.{IsLeastOf, first_behind, hashed_in, is_above, is_behind, shown_entry}
use Rattle.judy_bytes.specs.declared.walks.Shown.{Shown}
use Rattle.judy_bytes.proofs.Below.{words-rise}
use Rattle.judy_bytes.proofs.Changes.{some-first, some-of}
use Rattle.judy_bytes.proofs.Clears.{first-is, next-is}
use Rattle.judy_bytes.proofs.Leasts.{least-alike, least-is-next}
use Rattle.judy_bytes.proofs.Numbers.{content-found, tail-rises}

-- ---- what is shown

-- what is shown has its hashed key
pub shown-is : (shown : Option Shown) (key : List ℕ)
    → option_map (λ v. (unwrap_or (option_map (λ s. s.hash) shown) 0 ∷ key, v)) (option_map (λ s. s.value) shown) ≡ shown_entry shown key
shown-is None key = refl
shown-is (Some s) key = refl

-- the text of an entry under its hashed key
abbrev pub hashed_words : List ℕ × ℕ → List ℕ
hashed_words e = key_words (drop 1 e.0, e.1)

bare : (es : ByteEntries) → map key_words (map (λ e. (drop 1 e.0, e.1)) es) ≡ map hashed_words es
bare [] = refl
bare (e ∷ es) = ap (λ l. hashed_words e ∷ l) (bare es)

-- what a list shows is a walk
pub walk-is : (m : ByteEntries) (from : List ℕ) (n : ℕ) (start : Option (List ℕ × ℕ)) (all : ℕ × List ℕ) → start ≡ next string_order m from
    → listed (map hashed_words (walk_from (λ e. next string_order m e.0) n start)) ≡ all
    → listed (map key_words (map (λ e. (drop 1 e.0, e.1)) (walk_from (λ e. next string_order m e.0) n (next string_order m from)))) ≡ all
walk-is m from n start all is same =
    ap listed (bare (walk_from (λ e. next string_order m e.0) n (next string_order m from)))
    ∙ ap (λ o. listed (map hashed_words (walk_from (λ e. next string_order m e.0) n o))) (sym is) ∙ same

-- ---- the hash words

-- the least hash word that is sought
abbrev low_of : Option ℕ → ℕ
low_of None = 0
low_of (Some h) = suc h

low-of : (es : Entries ℕ) (after : Option ℕ) → first_behind es after ≡ head_of (from (low_of after) es)
low-of es None = first-is es 0
low-of es (Some h) = next-is es h

-- the words that are sought are those from it on
low-test : (after : Option ℕ) (h : ℕ) (key : List ℕ) → is_behind after (h ∷ key) ≡ nat_le (low_of after) h
low-test None h key = all h
  where
    all : (h : ℕ) → true ≡ nat_le 0 h
    all h = grind (arith, nat_tests)
low-test (Some x) h key = behind x h
  where
    behind : (x h : ℕ) → nat_lt x h ≡ nat_le (suc x) h
    behind x h = grind (arith, nat_tests)

-- no word from there on is below the one that is found
least-word : (low : ℕ) (es : Entries ℕ) (d : ℕ × ℕ) (k v : ℕ) → is_sorted word_order es ≡ true → head_of (from low es) ≡ Some d
    → value_of word_order es k ≡ Some v → nat_le low k ≡ true → d.0 ≤ k
least-word low [] d k v s h f up = absurd (none-some v f)
least-word low (e ∷ es) d k v s h f up = by (nat_le low e.0) refl h (λ is g. least-word low es d k v (tail-rises e es s) is g up)
  where
    le : (a b : ℕ) → nat_le a b ≡ true → a ≤ b
    le a b t = grind (arith, nat_tests)

    same : Some e ≡ Some d → e ≡ d
    same i = cc

    at : (t : Bool) → eq_by_cmp word_order k e.0 ≡ t → cond t (Some e.1) (value_of word_order es k) ≡ Some v → e.0 ≤ k
    at true i g = let j : k ≡ e.0 = same_word k e.0 i in omega (arith, j)
    at false i g = let lt : e.0 < k = from_less e.0 k (above es e.0 k v (and_left (below_all word_order e.0 es) _ s) g) in omega (arith, lt)

    past : nat_le low e.0 ≡ false → (t : Bool) → eq_by_cmp word_order k e.0 ≡ t → cond t (Some e.1) (value_of word_order es k) ≡ Some v
        → value_of word_order es k ≡ Some v
    past out true i g = absurd (let j : true ≡ false = sym up ∙ ap (nat_le low) (same_word k e.0 i) ∙ out in cc)
    past out false i g = g

    by : (t : Bool) → nat_le low e.0 ≡ t → head_of (cond t (e ∷ from low es) (from low es)) ≡ Some d
        → (head_of (from low es) ≡ Some d → value_of word_order es k ≡ Some v → d.0 ≤ k) → d.0 ≤ k
    by true i is rest = subst (λ x. x.0 ≤ k) (same is) (at (eq_by_cmp word_order k e.0) refl f)
    by false i is rest = rest is (past i (eq_by_cmp word_order k e.0) refl f)

-- where none is found, there is none from there on
no-word : (low : ℕ) (es : Entries ℕ) (k v : ℕ) → head_of (from low es) ≡ None → value_of word_order es k ≡ Some v → nat_le low k ≡ true → ⊥
no-word low [] k v h f up = none-some v f
no-word low (e ∷ es) k v h f up = by (nat_le low e.0) refl h (λ is g. no-word low es k v is g up)
  where
    some : Some e ≡ None → ⊥
    some i = cc

    past : nat_le low e.0 ≡ false → (t : Bool) → eq_by_cmp word_order k e.0 ≡ t → cond t (Some e.1) (value_of word_order es k) ≡ Some v
        → value_of word_order es k ≡ Some v
    past out true i g = absurd (let j : true ≡ false = sym up ∙ ap (nat_le low) (same_word k e.0 i) ∙ out in cc)
    past out false i g = g

    by : (t : Bool) → nat_le low e.0 ≡ t → head_of (cond t (e ∷ from low es) (from low es)) ≡ None
        → (head_of (from low es) ≡ None → value_of word_order es k ≡ Some v → ⊥) → ⊥
    by true i is rest = some is
    by false i is rest = rest is (past i (eq_by_cmp word_order k e.0) refl f)

-- ---- hashed keys compared

ordered-as : (h x : ℕ) (k y : List ℕ) (o : Ordering) → nat_cmp h x ≡ o → string_order (h ∷ k) (x ∷ y) ≡ ordering_then o (string_order k y)
ordered-as h x k y o e = ap (λ p. ordering_then p (string_order k y)) e

same_number : (a b : ℕ) → nat_cmp a b ≡ Equal → a ≡ b
same_number a b e = grind (arith, nat_tests)

behind-test : (x h : ℕ) (o : Ordering) → nat_cmp h x ≡ o → nat_lt x h ≡ is_gt o
behind-test x h Less e = grind (arith, nat_tests)
behind-test x h Equal e = grind (arith, nat_tests)
behind-test x h Greater e = grind (arith, nat_tests)

-- a chain that is there has an entry
some-entry : (b : Blocks) (w : ℕ) → IsBucketChain b w → w ≢ 0 → (k : List ℕ) × (v : ℕ) × (value_of string_order (chain_entries b w) k ≡ Some v)
some-entry b w h ne = at (chain b w) h.linked
  where
    at : (ns : List ℕ) → Linked b w ns → (k : List ℕ) × (v : ℕ) × (value_of string_order (bucket_entries b ns) k ≡ Some v)
    at [] l = absurd (ne l)
    at (n ∷ ns) l = (
      bucket_key (words_of b n),
      get_or (words_of b n) 1 0,
      ap (λ t. cond t (Some (get_or (words_of b n) 1 0)) (value_of string_order (bucket_entries b ns) (bucket_key (words_of b n))))
          (string_is (bucket_key (words_of b n)) (bucket_key (words_of b n)) refl),
    )

module _ (H : List ℕ → ℕ) (ordered : (key : List ℕ) → H key ≡ key_word key) (b : Blocks) (w : ℕ) (sound : IsBytesArray H b w) where
  -- what the chain of a hash word has, the map has under the hashed key
  in-order : (h : ℕ) (k : List ℕ) (v : ℕ) → value_of string_order (chain_entries b (first_at b w h)) k ≡ Some v
      → value_of string_order (hashed_in b w) (h ∷ k) ≡ Some v
  in-order h k v f =
      let is : H k ≡ h = sound.hashes h k v f in
      ap (λ x. value_of string_order (hashed_in b w) (x ∷ k)) (sym is ∙ ordered k)
      ∙ value_by_hash (bytes_in b w) k ∙ content-found H b w k sound
      ∙ ap (λ x. value_of string_order (chain_entries b (first_at b w x)) k) is ∙ f

  -- and the map has no more
  record Stands (q : List ℕ) (v : ℕ) : Type 0 where
    pub key : List ℕ
    pub hashed : q ≡ key_word key ∷ key
    pub found : value_of string_order (chain_entries b (first_at b w (key_word key))) key ≡ Some v
    pub word : value_of word_order (long_in b w) (key_word key) ≡ Some (first_at b w (key_word key))

  stands : (q : List ℕ) (v : ℕ) → value_of string_order (hashed_in b w) q ≡ Some v → Stands q v
  stands q v f =
      let (key, is, held) = key_by_hash (bytes_in b w) q v f in
      let found : value_of string_order (chain_entries b (first_at b w (key_word key))) key ≡ Some v =
      ap (λ x. value_of string_order (chain_entries b (first_at b w x)) key) (sym (ordered key)) ∙ sym (content-found H b w key sound) ∙ held in
      record {
        key = key;
        hashed = is;
        found = found;
        word = sound.filled (key_word key)
            ∙ some-of (first_at b w (key_word key)) (some-first b (first_at b w (key_word key)) key (ap is_some found));
      }

  pub hashed-rises : is_sorted string_order (hashed_in b w) ≡ true
  hashed-rises = by_hash_rises (bytes_in b w)

  -- ---- behind a key

  module _ (h : ℕ) (key : List ℕ) where
    -- the rest of the chain comes first
    pub next-in-chain : (v : ℕ) (k : List ℕ) → IsLeastOf (chain_entries b (first_at b w h)) (is_above (Some key)) (Some v) k
        → Some (h ∷ k, v) ≡ next string_order (hashed_in b w) (h ∷ key)
    next-in-chain v k c = least-is-next (hashed_in b w) (h ∷ key) (Some v) (h ∷ k) hashed-rises (record {
      entry = λ u is. (
        in-order h k u (c.entry u is).0,
        ap is_gt (ordered-as h h k key Equal (equal h h refl)) ∙ (c.entry u is).1,
      );
      least = λ q u f up.
          let s = stands q u f in
          subst (λ j. is_lt (string_order j (h ∷ k)) ≡ false) (sym s.hashed)
          (by s.key u s.found (subst (λ j. is_gt (string_order j (h ∷ key)) ≡ true) s.hashed up) (nat_cmp (key_word s.key) h) refl);
    })
      where
        by : (j : List ℕ) (u : ℕ) → value_of string_order (chain_entries b (first_at b w (key_word j))) j ≡ Some u
            → is_gt (string_order (key_word j ∷ j) (h ∷ key)) ≡ true
            → (o : Ordering) → nat_cmp (key_word j) h ≡ o → is_lt (string_order (key_word j ∷ j) (h ∷ k)) ≡ false
        by j u f up Less e = absurd (let n : false ≡ true = sym (ap is_gt (ordered-as (key_word j) h j key Less e)) ∙ up in cc)
        by j u f up Equal e =
            ap is_lt (ordered-as (key_word j) h j k Equal e)
            ∙ c.least j u (ap (λ x. value_of string_order (chain_entries b (first_at b w x)) j) (sym (same_number (key_word j) h e)) ∙ f)
            (sym (ap is_gt (ordered-as (key_word j) h j key Equal e)) ∙ up)
        by j u f up Greater e = ap is_lt (ordered-as (key_word j) h j k Greater e)

    -- and where nothing is left of it, what is behind its hash word
    pub next-behind : (value : Option ℕ) (k kept : List ℕ) → IsLeastOf (chain_entries b (first_at b w h)) (is_above (Some key)) None kept
        → IsLeastOf (hashed_in b w) (is_behind (Some h)) value k → option_map (λ v. (k, v)) value ≡ next string_order (hashed_in b w) (h ∷ key)
    next-behind value k kept none it = least-is-next (hashed_in b w) (h ∷ key) value k hashed-rises
        (least-alike (hashed_in b w) (is_behind (Some h)) (λ q. is_gt (string_order q (h ∷ key))) value k alike it)
      where
        by : (j : List ℕ) (u : ℕ) → value_of string_order (chain_entries b (first_at b w (key_word j))) j ≡ Some u
            → (o : Ordering) → nat_cmp (key_word j) h ≡ o → is_gt o ≡ is_gt (string_order (key_word j ∷ j) (h ∷ key))
        by j u f Less e = sym (ap is_gt (ordered-as (key_word j) h j key Less e))
        by j u f Equal e = other (is_gt (string_order j key)) refl ∙ sym (ap is_gt (ordered-as (key_word j) h j key Equal e))
          where
            other : (t : Bool) → is_gt (string_order j key) ≡ t → false ≡ is_gt (string_order j key)
            other false up = sym up
            other true up = absurd (let n : true ≡ false =
                none.least j u (ap (λ x. value_of string_order (chain_entries b (first_at b w x)) j) (sym (same_number (key_word j) h e)) ∙ f) up in cc)
        by j u f Greater e = sym (ap is_gt (ordered-as (key_word j) h j key Greater e))

        alike : (q : List ℕ) (u : ℕ) → value_of string_order (hashed_in b w) q ≡ Some u
            → is_behind (Some h) q ≡ is_gt (string_order q (h ∷ key))
        alike q u f =
            let s = stands q u f in
            subst (λ j. is_behind (Some h) j ≡ is_gt (string_order j (h ∷ key))) (sym s.hashed)
            (behind-test h (key_word s.key) (nat_cmp (key_word s.key) h) refl ∙ by s.key u s.found (nat_cmp (key_word s.key) h) refl)

  -- all are behind nothing
  pub next-of-all : (value : Option ℕ) (k : List ℕ) → IsLeastOf (hashed_in b w) (is_behind None) value k
      → option_map (λ v. (k, v)) value ≡ next string_order (hashed_in b w) []
  next-of-all value k it = least-is-next (hashed_in b w) [] value k hashed-rises
      (least-alike (hashed_in b w) (is_behind None) (λ q. is_gt (string_order q [])) value k
      (λ q u f. let s = stands q u f in ap (λ j. is_gt (string_order j [])) (sym s.hashed)) it)

  -- ---- the chain of the next hash word

  module _ (after : Option ℕ) where
    pub no-word-behind : (k : List ℕ) → first_behind (long_in b w) after ≡ None → IsLeastOf (hashed_in b w) (is_behind after) None k
    no-word-behind k none = record {
      entry = λ v is. absurd (none-some v is);
      least = λ q u f up. let s = stands q u f in
          absurd (no-word (low_of after) (long_in b w) (key_word s.key) (first_at b w (key_word s.key)) (sym (low-of (long_in b w) after) ∙ none) s.word
          (sym (low-test after (key_word s.key) s.key) ∙ ap (is_behind after) (sym s.hashed) ∙ up));
    }

    module _ (e : ℕ × ℕ) (is : first_behind (long_in b w) after ≡ Some e) where
      there : head_of (from (low_of after) (long_in b w)) ≡ Some e
      there = sym (low-of (long_in b w) after) ∙ is

      -- its value leads to its chain
      pub behind-first : e.1 ≡ first_at b w e.0
      behind-first = sym (ap (λ o. unwrap_or o 0) (found-from (low_of after) (long_in b w) e (words-rise b w sound.words) there))

      pub behind-chain : IsBucketChain b e.1
      behind-chain = subst (IsBucketChain b) (sym behind-first) (sound.chains e.0)

      pub behind-some : (k : List ℕ) → IsLeastOf (chain_entries b e.1) (is_above None) None k → ⊥
      behind-some k none =
          let at = found-from (low_of after) (long_in b w) e (words-rise b w sound.words) there in
          let (j, v, f) = some-entry b e.1 behind-chain
          (λ zero. none-some e.1 (sym (sound.filled e.0 ∙ ap if_some (sym behind-first ∙ zero)) ∙ at)) in
          (let n : true ≡ false = none.least j v f refl in cc)

      pub least-behind : (v : ℕ) (k : List ℕ) → IsLeastOf (chain_entries b e.1) (is_above None) (Some v) k
          → IsLeastOf (hashed_in b w) (is_behind after) (Some v) (e.0 ∷ k)
      least-behind v k c = record {
        entry = λ u same. (
          in-order e.0 k u (ap (λ x. value_of string_order (chain_entries b x) k) (sym behind-first) ∙ (c.entry u same).0),
          low-test after e.0 k ∙ up (low_of after) e.0 (next-from (low_of after) (long_in b w) e (words-rise b w sound.words) there).0,
        );
        least = λ q u f p.
            let s = stands q u f in
            let most : e.0 ≤ key_word s.key = least-word (low_of after) (long_in b w) e (key_word s.key) (first_at b w (key_word s.key))
            (words-rise b w sound.words) there s.word
            (sym (low-test after (key_word s.key) s.key) ∙ ap (is_behind after) (sym s.hashed) ∙ p) in
            subst (λ j. is_lt (string_order j (e.0 ∷ k)) ≡ false) (sym s.hashed)
            (by s.key u s.found most (nat_cmp (key_word s.key) e.0) refl);
      }
        where
          up : (a b : ℕ) → a ≤ b → nat_le a b ≡ true
          up a b h = grind (arith, nat_tests)

          low : (a b : ℕ) → nat_cmp a b ≡ Less → b ≤ a → ⊥
          low a b e h = grind (arith, nat_tests)

          by : (j : List ℕ) (u : ℕ) → value_of string_order (chain_entries b (first_at b w (key_word j))) j ≡ Some u
              → e.0 ≤ key_word j → (o : Ordering) → nat_cmp (key_word j) e.0 ≡ o → is_lt (string_order (key_word j ∷ j) (e.0 ∷ k)) ≡ false
          by j u f most Less i = absurd (low (key_word j) e.0 i most)
          by j u f most Equal i =
              ap is_lt (ordered-as (key_word j) e.0 j k Equal i)
              ∙ c.least j u (ap (λ x. value_of string_order (chain_entries b x) j)
              (behind-first ∙ ap (first_at b w) (sym (same_number (key_word j) e.0 i))) ∙ f) refl
          by j u f most Greater i = ap is_lt (ordered-as (key_word j) e.0 j k Greater i)
