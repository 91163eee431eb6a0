-- Suffix blocks: the words that spell a string, and a string compared with them word by word.
use Rattle.std.proofs.Common.{◌≡◌, ◌≢◌, ℕ, zero, suc, ◌+◌, ◌*◌, ◌/◌, ◌%◌, ◌^◌, ◌<◌, ◌≤◌, Bool, true, false, cond, ◌==◌, List, [], ◌∷◌, ◌++◌, take, drop}
use Rattle.std.proofs.Common.{length, get_or, Some, None, ap, sym, ◌∙◌, refl, subst, arith, length-drop}
use Rattle.std.proofs.lemmas.Bool.Decides.{nat_tests}
use Rattle.judy_arena.specs.Blocks.{Blocks, words_of, is_live}
use Rattle.judy_arena.specs.Room.{room}
use Rattle.judy_arena.proofs.lemmas.RoomLaws.{room-covers}
use Rattle.judy_refs.specs.References.{number_of, word_of}
use Rattle.judy_refs.specs.declared.Kind.TheVariants.{Suffix}
use Rattle.std.proofs.lemmas.Nat.{div-mul-add, mod-mul-add}
use Rattle.judy_model.specs.Contents.{string_order, value_of}
use Rattle.judy_model.proofs.lemmas.EntryLemmas.{string_is}
use Rattle.judy_packing.specs.Packing.{pack, word_bytes, byte_of, AreBytes, IsString, packed}
use Rattle.judy_string.specs.Suffixes.{is_suffix, suffix_bytes_of, suffix_size, suffix_string, suffix_words, suffix_entry}
use Rattle.judy_string.specs.Suffixes.{packed_suffix, IsSuffix, IsMadeSuffix}
use Rattle.judy_arena.specs.Frame.{Frame}
use Rattle.std.specs.Prelude.{slice_set}
use Rattle.std.proofs.lemmas.List.{take_all}
use Rattle.judy_packing.proofs.lemmas.Packs.{bytes-pack, bytes-back, take-drop, drop_more, get_taken, get_dropped}
use Rattle.judy_string.proofs.Nests.{drop-string}
use Rattle.judy_tree.proofs.lemmas.Joins.{string_other}

-- a suffix block has room for its words
pub suffix-holds : (r : ℕ) (b : Blocks) (w : ℕ) → IsSuffix r b w → 2 + packed_suffix (suffix_size (suffix_words b w)) ≤ length (suffix_words b w)
suffix-holds r b w h = let k = room-covers (2 + packed_suffix (suffix_size (suffix_words b w))) in let e = h.exact in omega (arith, k, e)

pub suffix-some : (r : ℕ) (b : Blocks) (w : ℕ) → IsSuffix r b w → 1 < length (suffix_words b w)
suffix-some r b w h = let k = suffix-holds r b w h in omega (arith, k)

pub suffix-place : (r : ℕ) (b : Blocks) (w j : ℕ) → IsSuffix r b w → j < packed_suffix (suffix_size (suffix_words b w)) → 2 + j < length (suffix_words b w)
suffix-place r b w j h less = let k = suffix-holds r b w h in omega (arith, k, less)

-- the words of a string spell it
pub bytes-packed : (n : ℕ) (s : List ℕ) → IsString s → length s ≤ 8 * n → suffix_bytes_of (packed n s) ≡ s
bytes-packed zero [] is h = refl
bytes-packed zero (c ∷ s) is h = absurd (omega arith)
bytes-packed (suc n) s is h =
    ap (λ l. l ++ suffix_bytes_of (packed n (drop 8 s))) (bytes-pack 8 s is)
    ∙ ap (λ l. take 8 s ++ l) (bytes-packed n (drop 8 s) (drop-string 8 s is) (omega (arith, length-drop 8 s)))
    ∙ take-drop 8 s

-- the j-th word
pub packed-at : (n j : ℕ) (s : List ℕ) → j < n → get_or (packed n s) j 0 ≡ pack (drop (8 * j) s)
packed-at zero j s h = absurd (omega arith)
packed-at (suc n) zero s h = refl
packed-at (suc n) (suc j) s h = packed-at n j (drop 8 s) (omega arith) ∙ ap pack (drop_more (8 * j) 8 s ∙ ap (λ k. drop k s) (omega arith))

-- strings that agree up to a place, and in the word there
take_more : (n : ℕ) (s : List ℕ) → take (n + 8) s ≡ take n s ++ take 8 (drop n s)
take_more zero s = refl
take_more (suc n) [] = let e : suc n + 8 ≡ suc (n + 8) = omega arith in ap (λ k. take {A = ℕ} k []) e
take_more (suc n) (c ∷ s) = let e : suc n + 8 ≡ suc (n + 8) = omega arith in ap (λ k. take k (c ∷ s)) e ∙ ap (λ l. c ∷ l) (take_more n s)

pub agree-more : (j : ℕ) (s t : List ℕ) → IsString s → IsString t → take (8 * j) s ≡ take (8 * j) t → pack (drop (8 * j) s) ≡ pack
    (drop (8 * j) t) → take (8 * (j + 1)) s ≡ take (8 * (j + 1)) t
agree-more j s t is it h k =
    let e : 8 * (j + 1) ≡ 8 * j + 8 = omega arith in
    let f : take 8 (drop (8 * j) s) ≡ take 8 (drop (8 * j) t) = sym (bytes-pack 8 (drop (8 * j) s) (drop-string (8 * j) s is))
    ∙ ap word_bytes k ∙ bytes-pack 8 (drop (8 * j) t) (drop-string (8 * j) t it) in
    ap (λ n. take n s) e ∙ take_more (8 * j) s ∙ ap (λ l. l ++ take 8 (drop (8 * j) s)) h ∙ ap (λ l. take (8 * j) t ++ l) f
    ∙ sym (take_more (8 * j) t) ∙ ap (λ n. take n t) (sym e)

pub take-next : (i : ℕ) (s : List ℕ) → i < length s → take (i + 1) s ≡ take i s ++ get_or s i 0 ∷ []
take-next i [] h = absurd (omega arith)
take-next zero (c ∷ s) h = refl
take-next (suc i) (c ∷ s) h = let e : suc i + 1 ≡ suc (i + 1) = omega arith in ap (λ n. take n (c ∷ s)) e ∙ ap (λ l. c ∷ l) (take-next i s (omega arith))

pub string-bytes : (s : List ℕ) → IsString s → AreBytes s
string-bytes [] h = tt
string-bytes (c ∷ s) h = (h.1, string-bytes s h.2)

module _ (r : ℕ) (b : Blocks) (w n : ℕ) (at : number_of w ≡ n) (h : IsSuffix r b w) where
  words : suffix_words b w ≡ words_of b n
  words = ap (words_of b) at

  word-is : (j : ℕ) → j < packed_suffix (suffix_size (suffix_words b w)) → get_or (suffix_words b w) (2 + j) 0 ≡ pack
      (drop (8 * j) (suffix_string (suffix_words b w)))
  word-is j k =
      sym (get_dropped 2 j (suffix_words b w)) ∙ sym (get_taken (packed_suffix (suffix_size (suffix_words b w))) j (drop 2 (suffix_words b w)) k)
      ∙ ap (λ l. get_or l j 0) h.filled ∙ packed-at (packed_suffix (suffix_size (suffix_words b w))) j (suffix_string (suffix_words b w)) k

  -- the next word
  pub read-more : (j x : ℕ) → j < packed_suffix (suffix_size (suffix_words b w)) → x ≡ get_or (suffix_words b w) (2 + j) 0
      → (x ≡ pack (drop (8 * j) (suffix_string (suffix_words b w)))) × IsString (drop (8 * j) (suffix_string (suffix_words b w)))
      × (take (8 * (j + 1)) (suffix_string (suffix_words b w)) ≡ take (8 * j) (suffix_string (suffix_words b w)) ++ word_bytes x)
  read-more j x less e =
      let it = e ∙ word-is j less in
      let rest = drop-string (8 * j) (suffix_string (suffix_words b w)) h.bytes in
      let next : 8 * (j + 1) ≡ 8 * j + 8 = omega arith in (
        it,
        rest,
        ap (λ n. take n (suffix_string (suffix_words b w))) next ∙ take_more (8 * j) (suffix_string (suffix_words b w))
            ∙ ap (λ l. take (8 * j) (suffix_string (suffix_words b w)) ++ l)
            (sym (ap word_bytes it ∙ bytes-pack 8 (drop (8 * j) (suffix_string (suffix_words b w))) rest)),
      )

  module _ (s : List ℕ) (is : IsString s) where
    found_none : suffix_string (suffix_words b w) ≢ s → value_of string_order (suffix_entry b w ∷ []) s ≡ None
    found_none ne = ap (λ t. cond t (Some (get_or (suffix_words b w) 0 0)) None) (string_other s (suffix_string (suffix_words b w)) (λ e. ne (sym e)))

    pub other-size : get_or (words_of b n) 1 0 ≢ length s → value_of string_order (suffix_entry b w ∷ []) s ≡ None
    other-size ne = found_none (λ e. ne (ap (λ ws. get_or ws 1 0) (sym words) ∙ sym h.size ∙ ap length e))

    module _ (size : get_or (words_of b n) 1 0 ≡ length s) where
      size-is : suffix_size (suffix_words b w) ≡ length s
      size-is = ap (λ ws. get_or ws 1 0) words ∙ size

      pub other-word : (j : ℕ) → j < packed_suffix (length s) → get_or (words_of b n) (2 + j) 0 ≢ pack (drop (8 * j) s)
          → value_of string_order (suffix_entry b w ∷ []) s ≡ None
      other-word j k ne = found_none
          (λ e. ne (ap (λ ws. get_or ws (2 + j) 0) (sym words) ∙ word-is j (subst (λ m. j < packed_suffix m) (sym size-is) k)
          ∙ ap (λ x. pack (drop (8 * j) x)) e))

      pub same-word : (j : ℕ) → j < packed_suffix (length s) → get_or (words_of b n) (2 + j) 0 ≡ pack (drop (8 * j) s)
          → take (8 * j) (suffix_string (suffix_words b w)) ≡ take (8 * j) s
          → take (8 * (j + 1)) (suffix_string (suffix_words b w)) ≡ take (8 * (j + 1)) s
      same-word j k e f = agree-more j (suffix_string (suffix_words b w)) s h.bytes is f
          (sym (word-is j (subst (λ m. j < packed_suffix m) (sym size-is) k)) ∙ ap (λ ws. get_or ws (2 + j) 0) words ∙ e)

      pub all-words : take (8 * packed_suffix (length s)) (suffix_string (suffix_words b w)) ≡ take (8 * packed_suffix (length s)) s
          → value_of string_order (suffix_entry b w ∷ []) s ≡ Some (get_or (words_of b n) 0 0)
      all-words e =
          let same : suffix_string (suffix_words b w) ≡ s =
          sym (take_all (8 * packed_suffix (length s)) (suffix_string (suffix_words b w)) (omega (arith, h.size, size-is))) ∙ e
          ∙ take_all (8 * packed_suffix (length s)) s (omega arith) in
          ap (λ t. cond t (Some (get_or (suffix_words b w) 0 0)) None) (string_is s (suffix_string (suffix_words b w)) (sym same))
          ∙ ap (λ ws. Some (get_or ws 0 0)) words

      pub enough : 2 + packed_suffix (length s) ≤ length (words_of b n)
      enough = subst (λ m. 2 + packed_suffix m ≤ length (words_of b n)) size-is
          (subst (λ k. 2 + packed_suffix (suffix_size (suffix_words b w)) ≤ length (words_of b k)) at (suffix-holds r b w h))

-- ---- a block that is filled word by word

pub record IsFilled (j : ℕ) (ws : List ℕ) (s : List ℕ) (v : ℕ) : Type 0 where
  pub value : get_or ws 0 0 ≡ v
  pub size : get_or ws 1 0 ≡ length s
  pub words : (k : ℕ) → k < j → get_or ws (2 + k) 0 ≡ pack (drop (8 * k) s)

get_set : (ws : List ℕ) (i x k : ℕ) → i < length ws → get_or (slice_set ws i x) k 0 ≡ cond (k == i) x (get_or ws k 0)
get_set [] i x k h = absurd (omega arith)
get_set (w ∷ ws) zero x zero h = refl
get_set (w ∷ ws) zero x (suc k) h = ap (λ t. cond t x (get_or ws k 0)) (sym (apart k))
  where
    apart : (k : ℕ) → (suc k == 0) ≡ false
    apart k = grind (arith, nat_tests)
get_set (w ∷ ws) (suc i) x zero h = ap (λ t. cond t x w) (sym (apart i))
  where
    apart : (i : ℕ) → (0 == suc i) ≡ false
    apart i = grind (arith, nat_tests)
get_set (w ∷ ws) (suc i) x (suc k) h = get_set ws i x k (omega arith) ∙ ap (λ t. cond t x (get_or ws k 0)) (step (k == i) refl)
  where
    step : (t : Bool) → (k == i) ≡ t → (k == i) ≡ (suc k == suc i)
    step true e = grind (arith, nat_tests)
    step false e = grind (arith, nat_tests)

pub fill-more : (j : ℕ) (ws s : List ℕ) (v x : ℕ) → 2 + j < length ws → x ≡ pack (drop (8 * j) s) → IsFilled j ws s v
    → IsFilled (j + 1) (slice_set ws (2 + j) x) s v
fill-more j ws s v x wide e h = record {
  value = get_set ws (2 + j) x 0 wide ∙ ap (λ t. cond t x (get_or ws 0 0)) (other 0 (2 + j) (omega arith)) ∙ h.value;
  size = get_set ws (2 + j) x 1 wide ∙ ap (λ t. cond t x (get_or ws 1 0)) (other 1 (2 + j) (omega arith)) ∙ h.size;
  words = λ k less. get_set ws (2 + j) x (2 + k) wide ∙ elim (k == j) as (λ t. (k == j) ≡ t → cond ((2 + k) == (2 + j)) x
      (get_or ws (2 + k) 0) ≡ pack (drop (8 * k) s)) [
        | true ↦ λ i. let f : k ≡ j = same k j i in ap (λ t. cond t x (get_or ws (2 + k) 0)) (itself (2 + k) (2 + j) (omega arith))
            ∙ e ∙ ap (λ n. pack (drop (8 * n) s)) (sym f)
        | false ↦ λ i. ap (λ t. cond t x (get_or ws (2 + k) 0)) (other (2 + k) (2 + j) (λ f. differ k j i (omega arith)))
            ∙ h.words k (let d = differ k j i in less_than k j d (omega arith))
      ] refl;
}
  where
    other : (a b : ℕ) → a ≢ b → (a == b) ≡ false
    other a b h = grind (arith, nat_tests)

    same : (a b : ℕ) → (a == b) ≡ true → a ≡ b
    same a b h = grind (arith, nat_tests)

    itself : (a b : ℕ) → a ≡ b → (a == b) ≡ true
    itself a b h = grind (arith, nat_tests)

    differ : (a b : ℕ) → (a == b) ≡ false → a ≢ b
    differ a b h e = let f : (a == b) ≡ true = itself a b e in cc

    less_than : (a b : ℕ) → a ≢ b → a < b + 1 → a < b
    less_than a b h l = grind (arith)

pub fill-none : (ws s : List ℕ) (v : ℕ) → get_or ws 0 0 ≡ v → get_or ws 1 0 ≡ length s → IsFilled 0 ws s v
fill-none ws s v h k = record { value = h; size = k; words = λ k less. absurd (omega arith) }

pub two-set : (ws : List ℕ) (v n : ℕ) → 2 ≤ length ws → (get_or (slice_set (slice_set ws 0 v) 1 n) 0 0 ≡ v)
    × (get_or (slice_set (slice_set ws 0 v) 1 n) 1 0 ≡ n)
two-set [] v n h = absurd (omega arith)
two-set (x ∷ []) v n h = absurd (omega arith)
two-set (x ∷ y ∷ ws) v n h = (refl, refl)

-- from places to the list
as-packed : (n : ℕ) (ws s : List ℕ) → n ≤ length ws → ((k : ℕ) → k < n → get_or ws k 0 ≡ pack (drop (8 * k) s)) → take n ws ≡ packed n s
as-packed zero ws s h at = refl
as-packed (suc n) [] s h at = absurd (omega arith)
as-packed (suc n) (w ∷ ws) s h at =
    ap (λ x. x ∷ take n ws) (at 0 (omega arith))
    ∙ ap (λ l. pack s ∷ l)
    (as-packed n ws (drop 8 s) (omega arith) (λ k less. at (suc k) (omega arith)
    ∙ ap pack (ap (λ m. drop m s) (omega arith) ∙ sym (drop_more (8 * k) 8 s))))

pub filled-suffix : (a b : Blocks) (n w : ℕ) (s : List ℕ) (v : ℕ) → v < 2 ^ 64 → IsString s → number_of w ≡ n → is_suffix w ≡ true
    → Frame a b [] (n ∷ []) → is_live b n ≡ true
    → length (words_of b n) ≡ room (2 + packed_suffix (length s)) → IsFilled (packed_suffix (length s)) (words_of b n) s v → IsMadeSuffix a b s v w
unfolding suffix_string
filled-suffix a b n w s v low is at kind f live exact h =
    let holds : 2 + packed_suffix (length s) ≤ length (words_of b n) = let k = room-covers (2 + packed_suffix (length s)) in omega (arith, k, exact) in
    let same : suffix_words b w ≡ words_of b n = ap (words_of b) at in
    let list : take (packed_suffix (length s)) (drop 2 (words_of b n)) ≡ packed (packed_suffix (length s)) s =
    as-packed (packed_suffix (length s)) (drop 2 (words_of b n)) s (omega (arith, length-drop 2 (words_of b n), holds))
    (λ k less. get_dropped 2 k (words_of b n) ∙ h.words k less) in
    let taken : take (packed_suffix (suffix_size (words_of b n))) (drop 2 (words_of b n)) ≡ packed (packed_suffix (length s)) s =
    ap (λ m. take (packed_suffix m) (drop 2 (words_of b n))) h.size ∙ list in
    let string : suffix_string (words_of b n) ≡ s = ap suffix_bytes_of taken ∙ bytes-packed (packed_suffix (length s)) s is (omega arith) in
    record {
      suffix = kind;
      sound = λ r short. record {
        live = ap (is_live b) at ∙ live;
        exact = subst (λ ws. length ws ≡ room (2 + packed_suffix (suffix_size ws))) (sym same)
            (subst (λ m. length (words_of b n) ≡ room (2 + packed_suffix m)) (sym h.size) exact);
        bytes = subst IsString (sym (ap suffix_string same ∙ string)) is;
        size = ap (λ ws. length (suffix_string ws)) same ∙ ap length string ∙ sym h.size ∙ ap suffix_size (sym same);
        filled = subst (λ ws. take (packed_suffix (suffix_size ws)) (drop 2 ws) ≡ packed (packed_suffix (suffix_size ws)) (suffix_string ws)) (sym same)
            (taken ∙ ap (λ m. packed (packed_suffix m) s) (sym h.size) ∙ ap (packed (packed_suffix (suffix_size (words_of b n)))) (sym string));
        short = omega (arith, ap suffix_size same, h.size, short);
        value = subst (λ x. x < 2 ^ 64) (sym (ap (λ ws. get_or ws 0 0) same ∙ h.value)) low;
      };
      entry = ap (λ ws. (suffix_string ws, get_or ws 0 0)) same ∙ ap (λ x. (x, get_or (words_of b n) 0 0)) string ∙ ap (λ y. (s, y)) h.value;
      frame = subst (λ m. Frame a b [] (m ∷ [])) (sym at) f;
    }

pub number-named : (n : ℕ) → n < 4294967296 → number_of (word_of Suffix n) ≡ n
number-named n h = mod-mul-add 7 4294967296 n h

pub suffix-named : (n : ℕ) → n < 4294967296 → is_suffix (word_of Suffix n) ≡ true
suffix-named n h = ap (λ k. k == 7) (div-mul-add 7 4294967296 n h)
