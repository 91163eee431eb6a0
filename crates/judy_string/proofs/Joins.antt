-- What is found in a join of parts, and that it is sorted.
use Rattle.std.proofs.Common.{◌≡◌, ◌≢◌, ℕ, zero, suc, ◌/◌, ◌%◌, ◌^◌, ◌<◌, ◌≤◌, Bool, true, false, cond, ◌==◌, List, [], ◌∷◌}
use Rattle.std.proofs.Common.{◌++◌, take, drop, length, Some, None, ap, sym, ◌∙◌, refl, subst, arith, append-nil}
use Rattle.std.proofs.lemmas.Bool.Decides.{nat_tests}
use Rattle.std.specs.declared.cmp.Ordering.TheVariants.{Less}
use Rattle.std.specs.Ordering.{ordering_then, eq_by_cmp, is_eq, is_lt}
use Rattle.std.specs.Cmp.{tied_itself, nat_cmp_total}
use Rattle.std.specs.FinMap.{is_sorted}
use Rattle.std.specs.FinMap.Entries.{below_all}
use Rattle.std.proofs.lemmas.Bool.{false≢true as not_true, and_from}
use Rattle.std.proofs.lemmas.Option.{none-some}
use Rattle.judy_model.specs.Contents.{Entries, string_order, word_order, value_of}
use Rattle.judy_model.proofs.lemmas.TestLemmas.{and_right, and_left, is_Less}
use Rattle.judy_model.proofs.lemmas.EntryLemmas.{same_word, same_string, string_is}
use Rattle.judy_packing.specs.Packing.{pack_at, bytes_at, pack, word_bytes, is_last, IsString}
use Rattle.judy_string.specs.Strings.{Strings, after, part, joined_strings, IsSpelt}
use Rattle.judy_string.specs.Lookup.{then_in, fits, look_under}
use Rattle.judy_packing.proofs.lemmas.Packs.{by_cmp, digits, rest_below, pack_below, pack-take, take-drop, short-take}
use Rattle.judy_tree.proofs.lemmas.Joins.{word_below, word_is, or_else, found-first, or_none, string_other}

-- ---- lookups

find-both : (s : List ℕ) (xs ys : Strings) → value_of string_order (xs ++ ys) s ≡ or_else (value_of string_order xs s) (value_of string_order ys s)
unfolding or_else
find-both s [] ys = refl
find-both s (x ∷ xs) ys = elim (eq_by_cmp string_order s x.0) as (λ t. cond t (Some x.1) (value_of string_order (xs ++ ys) s)
    ≡ or_else (cond t (Some x.1) (value_of string_order xs s)) (value_of string_order ys s)) [
      | true ↦ refl
      | false ↦ find-both s xs ys
    ]

none_first : (s : List ℕ) (xs ys : Strings) → value_of string_order xs s ≡ None → value_of string_order (xs ++ ys) s ≡ value_of string_order ys s
unfolding or_else
none_first s xs ys h = find-both s xs ys ∙ ap (λ x. or_else x (value_of string_order ys s)) h

none_last : (s : List ℕ) (xs ys : Strings) → value_of string_order ys s ≡ None → value_of string_order (xs ++ ys) s ≡ value_of string_order xs s
none_last s xs ys h = find-both s xs ys ∙ ap (or_else (value_of string_order xs s)) h ∙ or_none (value_of string_order xs s)

pub same_front : (p t u : List ℕ) → string_order (p ++ t) (p ++ u) ≡ string_order t u
same_front [] t u = refl
same_front (c ∷ p) t u = ap (λ r. ordering_then r (string_order (p ++ t) (p ++ u))) (tied_itself nat_cmp_total c) ∙ same_front p t u

find-after : (p t : List ℕ) (l : Strings) → value_of string_order (after p l) (p ++ t) ≡ value_of string_order l t
find-after p t [] = refl
find-after p t (e ∷ l) = ap (λ r. cond (is_eq r) (Some e.1) (value_of string_order (after p l) (p ++ t))) (same_front p t e.0)
    ∙ ap (cond (eq_by_cmp string_order t e.0) (Some e.1)) (find-after p t l)

find-after_other : (p s : List ℕ) (l : Strings) → ((t : List ℕ) → s ≡ p ++ t → ⊥) → value_of string_order (after p l) s ≡ None
find-after_other p s [] h = refl
find-after_other p s (e ∷ l) h = ap (λ t. cond t (Some e.1) (value_of string_order (after p l) s))
    (string_other s (p ++ e.0) (h e.0)) ∙ find-after_other p s l h

pub bytes_few : (n w : ℕ) → length (bytes_at n w) ≤ n
unfolding bytes_at
bytes_few zero w = omega arith
bytes_few (suc n) w = few_or (w / 256 ^ n == 0) (w / 256 ^ n) n (bytes_at n (w % 256 ^ n)) (bytes_few n (w % 256 ^ n))
  where
    few_or : (t : Bool) (c n : ℕ) (l : List ℕ) → length l ≤ n → length (cond t [] (c ∷ l)) ≤ suc n
    few_or true c n l h = omega arith
    few_or false c n l h = omega arith

pub last_short : (k : ℕ) → is_last k ≡ true → length (word_bytes k) < 8
last_short k h = grind (arith, nat_tests)

pub more_long : (k : ℕ) → is_last k ≡ false → length (word_bytes k) ≡ 8
more_long k h = let a : 8 ≤ length (word_bytes k) = grind (arith, nat_tests) in omega (arith, bytes_few 8 k)

take_all : (n : ℕ) (xs ys : List ℕ) → length xs ≤ n → (length xs < n → ys ≡ []) → take n (xs ++ ys) ≡ xs
take_all zero [] ys h k = refl
take_all zero (x ∷ xs) ys h k = absurd (omega arith)
take_all (suc n) [] ys h k = ap (take (suc n)) (k (omega arith))
take_all (suc n) (x ∷ xs) ys h k = ap (λ l. x ∷ l) (take_all n xs ys (omega arith) (λ i. k (omega arith)))

-- a part holds only strings that begin with the bytes of its word
part_none : (f : ℕ → Strings) (s : List ℕ) (k v : ℕ) → (take 8 s ≡ word_bytes k → ⊥) → value_of string_order (part f (k, v)) s ≡ None
part_none f s k v h = elim (is_last k) as (λ t. is_last k ≡ t → value_of string_order (cond t ((word_bytes k, v) ∷ []) (after (word_bytes k) (f v))) s ≡ None) [
  | true ↦ λ e. ap (λ t. cond t (Some v) None)
      (string_other s (word_bytes k)
      (λ i. h (ap (take 8) (i ∙ sym (append-nil (word_bytes k))) ∙ take_all 8 (word_bytes k) [] (bytes_few 8 k) (λ _. refl))))
  | false ↦ λ e. find-after_other (word_bytes k) s (f v)
      (λ t i. h (ap (take 8) i ∙ take_all 8 (word_bytes k) t (bytes_few 8 k) (λ n. absurd (omega (arith, more_long k e)))))
] refl

-- such a string makes the word
begins_packed : (s : List ℕ) (k : ℕ) → IsSpelt k → take 8 s ≡ word_bytes k → pack s ≡ k
begins_packed s k spelt h = sym (pack-take 8 s) ∙ ap pack h ∙ spelt.packed

part_hit : (f : ℕ → Strings) (s : List ℕ) (v : ℕ) → fits s ≡ true → value_of string_order (part f (pack s, v)) s ≡ then_in f s (Some v)
part_hit f s v h =
    let begin : take 8 s ≡ word_bytes (pack s) = same_string (take 8 s) (word_bytes (pack s)) h in
    elim (is_last (pack s)) as (λ t. is_last (pack s) ≡ t → value_of string_order
    (cond t ((word_bytes (pack s), v) ∷ []) (after (word_bytes (pack s)) (f v))) s ≡ cond t (Some v)
    (value_of string_order (f v) (drop 8 s))) [
      | true ↦ λ e. let short : length (take 8 s) < 8 = omega (arith, ap length begin, last_short (pack s) e) in
          ap (λ t. cond t (Some v) None) (string_is s (word_bytes (pack s)) (sym (short-take 8 s short) ∙ begin))
      | false ↦ λ e. ap (value_of string_order (after (word_bytes (pack s)) (f v)))
          (sym (take-drop 8 s) ∙ ap (λ l. l ++ drop 8 s) begin) ∙ find-after (word_bytes (pack s)) (drop 8 s) (f v)
    ] refl

-- what is found in the rest is found in the whole
pub found_later : (e : ℕ × ℕ) (es : Entries ℕ) (k v : ℕ) → is_sorted word_order (e ∷ es) ≡ true → value_of word_order es k ≡ Some
    v → value_of word_order (e ∷ es) k ≡ Some v
found_later e es k v s h = elim (eq_by_cmp word_order k e.0) as (λ t. eq_by_cmp word_order k e.0 ≡ t → cond t (Some e.1) (value_of word_order es k) ≡ Some v) [
  | true ↦ λ i. absurd
      (none-some _
      (sym (word_below k es (subst (λ x. below_all word_order x es ≡ true) (sym (same_word k e.0 i))
      (and_left (below_all word_order e.0 es) _ s))) ∙ h))
  | false ↦ λ i. h
] refl

pub find-joined : (f : ℕ → Strings) (s : List ℕ) (es : Entries ℕ) → is_sorted word_order es ≡ true
    → ((k v : ℕ) → value_of word_order es k ≡ Some v → IsSpelt k) → value_of string_order (joined_strings (part f) es) s ≡ look_under f s es
find-joined f s [] sorted spelt = elim (fits s) as (λ t. value_of string_order (joined_strings (part f) []) s ≡ cond t
    (then_in f s (value_of word_order [] (pack s))) None) [ true ↦ refl | false ↦ refl ]
find-joined f s (e ∷ es) sorted spelt =
    let rest : value_of string_order (joined_strings (part f) es) s ≡ look_under f s es = find-joined f s es
    (and_right (below_all word_order e.0 es) _ sorted) (λ k v h. spelt k v (found_later e es k v sorted h)) in
    let own : IsSpelt e.0 = spelt e.0 e.1 (found-first e es) in
    elim (fits s) as (λ t. fits s ≡ t → value_of string_order (joined_strings (part f) es) s ≡ cond t (then_in f s (value_of word_order es (pack s))) None
    → value_of string_order (part f e ++ joined_strings (part f) es) s ≡ cond t (then_in f s (value_of word_order (e ∷ es) (pack s))) None) [
      | true ↦ λ i r. elim (eq_by_cmp word_order (pack s) e.0) as (λ t. eq_by_cmp word_order (pack s) e.0 ≡ t
          → value_of string_order (part f e ++ joined_strings (part f) es) s ≡ then_in f s
          (cond t (Some e.1) (value_of word_order es (pack s)))) [
            | true ↦ λ j.
                let same : pack s ≡ e.0 = same_word (pack s) e.0 j in
                let gone : value_of word_order es (pack s) ≡ None = word_below (pack s) es
                (subst (λ x. below_all word_order x es ≡ true) (sym same) (and_left (below_all word_order e.0 es) _ sorted)) in
                none_last s (part f e) (joined_strings (part f) es) (r ∙ ap (then_in f s) gone)
                ∙ subst (λ k. value_of string_order (part f (k, e.1)) s ≡ then_in f s (Some e.1)) same (part_hit f s e.1 i)
            | false ↦ λ j.
                let other : pack s ≢ e.0 = λ x. not_true (sym j ∙ word_is (pack s) e.0 x) in
                none_first s (part f e) (joined_strings (part f) es) (part_none f s e.0 e.1 (λ b. other (begins_packed s e.0 own b))) ∙ r
          ] refl
      | false ↦ λ i r. none_first s (part f e) (joined_strings (part f) es)
          (part_none f s e.0 e.1
          (λ b. not_true (sym i ∙ string_is (take 8 s) (word_bytes (pack s))
          (b ∙ ap word_bytes (sym (begins_packed s e.0 own b)))))) ∙ r
    ] refl rest

-- ---- order

-- words compare as the strings that begin with them
pub word_lt : (n : ℕ) (a b t u : List ℕ) → IsString a → IsString b → pack_at n a < pack_at n b → (length a < n → t ≡ []) → string_order (a ++ t) (b ++ u) ≡ Less
unfolding pack_at
word_lt zero a b t u x y h k = absurd (omega arith)
word_lt (suc n) [] [] t u x y h k = absurd (omega arith)
word_lt (suc n) [] (d ∷ b) t u x y h k = ap (λ l. string_order l (d ∷ (b ++ u))) (k (omega arith))
word_lt (suc n) (c ∷ a) [] t u x y h k = absurd (omega arith)
word_lt (suc n) (c ∷ a) (d ∷ b) t u x y h k =
    by_cmp c d (string_order (a ++ t) (b ++ u)) (digits c d (256 ^ n) (pack_at n a) (pack_at n b) (pack_below n a x.2) (pack_below n b y.2) h)
    (λ e. word_lt n a b t u x.2 y.2 (rest_below c d (256 ^ n) (pack_at n a) (pack_at n b) h e) (λ i. k (omega arith)))

below_both : (x : List ℕ) (xs ys : Strings) → below_all string_order x xs ≡ true → below_all string_order x ys ≡ true
    → below_all string_order x (xs ++ ys) ≡ true
below_both x [] ys h k = k
below_both x (e ∷ xs) ys h k = and_from (is_lt (string_order x e.0)) _ (and_left (is_lt (string_order x e.0)) _ h)
    (below_both x xs ys (and_right (is_lt (string_order x e.0)) _ h) k)

below_after : (x p : List ℕ) (l : Strings) → ((u : List ℕ) → string_order x (p ++ u) ≡ Less) → below_all string_order x (after p l) ≡ true
below_after x p [] h = refl
below_after x p (e ∷ l) h = and_from (is_lt (string_order x (p ++ e.0))) _ (ap is_lt (h e.0)) (below_after x p l h)

below_same : (p x : List ℕ) (l : Strings) → below_all string_order x l ≡ true → below_all string_order (p ++ x) (after p l) ≡ true
below_same p x [] h = refl
below_same p x (e ∷ l) h = and_from (is_lt (string_order (p ++ x) (p ++ e.0))) _
    (ap is_lt (same_front p x e.0) ∙ and_left (is_lt (string_order x e.0)) _ h)
    (below_same p x l (and_right (is_lt (string_order x e.0)) _ h))

sorted_after : (p : List ℕ) (l ys : Strings) → is_sorted string_order l ≡ true → is_sorted string_order ys ≡ true
    → ((u : List ℕ) → below_all string_order (p ++ u) ys ≡ true) → is_sorted string_order (after p l ++ ys) ≡ true
sorted_after p [] ys h k b = k
sorted_after p (e ∷ l) ys h k b = and_from (below_all string_order (p ++ e.0) (after p l ++ ys)) _
    (below_both (p ++ e.0) (after p l) ys (below_same p e.0 l (and_left (below_all string_order e.0 l) _ h)) (b e.0))
    (sorted_after p l ys (and_right (below_all string_order e.0 l) _ h) k b)

below-joined : (f : ℕ → Strings) (k : ℕ) (t : List ℕ) (es : Entries ℕ) → IsSpelt k → (length (word_bytes k) < 8 → t ≡ [])
    → below_all word_order k es ≡ true → is_sorted word_order es ≡ true
    → ((k v : ℕ) → value_of word_order es k ≡ Some v → IsSpelt k) → below_all string_order (word_bytes k ++ t) (joined_strings (part f) es) ≡ true
below-joined f k t [] own short h sorted spelt = refl
below-joined f k t (e ∷ es) own short h sorted spelt =
    let it : IsSpelt e.0 = spelt e.0 e.1 (found-first e es) in
    let less : k < e.0 = by_less k e.0 (is_Less (word_order k e.0) (and_left (is_lt (word_order k e.0)) _ h)) in
    let lt : (u : List ℕ) → string_order (word_bytes k ++ t) (word_bytes e.0 ++ u) ≡ Less = λ u. word_lt 8 (word_bytes k)
    (word_bytes e.0) t u own.bytes it.bytes (omega (arith, own.packed, it.packed)) short in
    below_both (word_bytes k ++ t) (part f e) (joined_strings (part f) es)
    (elim (is_last e.0) as (λ z. below_all string_order (word_bytes k ++ t) (cond z ((word_bytes e.0, e.1) ∷ []) (after (word_bytes e.0) (f e.1))) ≡ true) [
      | true ↦ and_from (is_lt (string_order (word_bytes k ++ t) (word_bytes e.0))) true
          (ap is_lt (ap (string_order (word_bytes k ++ t)) (sym (append-nil (word_bytes e.0))) ∙ lt [])) refl
      | false ↦ below_after (word_bytes k ++ t) (word_bytes e.0) (f e.1) lt
    ])
    (below-joined f k t es own short (and_right (is_lt (word_order k e.0)) _ h) (and_right (below_all word_order e.0 es) _ sorted)
    (λ l v i. spelt l v (found_later e es l v sorted i)))
  where
    by_less : (a b : ℕ) → word_order a b ≡ Less → a < b
    by_less a b h = grind (arith, nat_tests)

pub sorted-joined : (f : ℕ → Strings) (es : Entries ℕ) → is_sorted word_order es ≡ true → ((k v : ℕ) → value_of word_order es k ≡ Some v → IsSpelt k)
    → ((k v : ℕ) → value_of word_order es k ≡ Some v → is_last k ≡ false → is_sorted string_order (f v) ≡ true)
    → is_sorted string_order (joined_strings (part f) es) ≡ true
sorted-joined f [] sorted spelt inner = refl
sorted-joined f (e ∷ es) sorted spelt inner =
    let own : IsSpelt e.0 = spelt e.0 e.1 (found-first e es) in
    let less : below_all word_order e.0 es ≡ true = and_left (below_all word_order e.0 es) _ sorted in
    let tail : is_sorted word_order es ≡ true = and_right (below_all word_order e.0 es) _ sorted in
    let spelt' : (k v : ℕ) → value_of word_order es k ≡ Some v → IsSpelt k = λ k v h. spelt k v (found_later e es k v sorted h) in
    let rest : is_sorted string_order (joined_strings (part f) es) ≡ true = sorted-joined f es tail spelt'
    (λ k v h. inner k v (found_later e es k v sorted h)) in
    elim (is_last e.0) as
    (λ z. is_last e.0 ≡ z → is_sorted string_order (cond z ((word_bytes e.0, e.1) ∷ []) (after (word_bytes e.0) (f e.1))
    ++ joined_strings (part f) es) ≡ true) [
      | true ↦ λ z. and_from (below_all string_order (word_bytes e.0) (joined_strings (part f) es)) _
          (subst (λ x. below_all string_order x (joined_strings (part f) es) ≡ true) (append-nil (word_bytes e.0))
          (below-joined f e.0 [] es own (λ _. refl) less tail spelt')) rest
      | false ↦ λ z. sorted_after (word_bytes e.0) (f e.1) (joined_strings (part f) es) (inner e.0 e.1 (found-first e es) z) rest
          (λ u. below-joined f e.0 u es own (λ n. absurd (omega (arith, more_long e.0 z))) less tail spelt')
    ] refl
