-- Ordered searches: one path down, and one step aside.
use Rattle.std.proofs.Common.{◌≡◌, ℕ, ◌<◌, Bool, true, false, cond, ◌&&◌, List, [], ◌∷◌, ◌++◌, drop, length, filter, Some}
use Rattle.std.proofs.Common.{None, ap, sym, ◌∙◌, refl, subst, arith, append-nil, append_assoc}
use Rattle.std.proofs.lemmas.Bool.Decides.{nat_tests}
use Rattle.std.proofs.lemmas.List.Elements.{filter-append}
use Rattle.std.specs.declared.cmp.Ordering.{Ordering}
use Rattle.std.specs.declared.cmp.Ordering.TheVariants.{Less, Equal, Greater}
use Rattle.std.specs.Ordering.{is_lt, is_gt, ordering_reverse}
use Rattle.std.specs.Cmp.Lexicographic.{nat_list_cmp_total}
use Rattle.std.specs.FinMap.{is_sorted}
use Rattle.std.specs.FinMap.Entries.{below_all}
use Rattle.judy_model.specs.Contents.{Entries, string_order, word_order, value_of}
use Rattle.judy_model.proofs.lemmas.TestLemmas.{and_right, and_left, is_Less}
use Rattle.judy_packing.specs.Packing.{pack, word_bytes, is_last, IsString}
use Rattle.judy_string.specs.Searches.{kept_strings, here}
use Rattle.judy_string.specs.Strings.{Strings, after, part, joined_strings, IsSpelt}
use Rattle.judy_packing.proofs.lemmas.Packs.{bytes-pack, take-drop}
use Rattle.judy_string.proofs.Joins.{word_lt, same_front, found_later, more_long}
use Rattle.judy_tree.proofs.lemmas.Joins.{word_below, word_is, word_other, found-first}

-- all strings compare so with s
pub AllAre : Ordering → List ℕ → Strings → Type 0
AllAre o s [] = Unit {0}
AllAre o s (e ∷ l) = (string_order e.0 s ≡ o) × AllAre o s l

are-both : (o : Ordering) (s : List ℕ) (xs ys : Strings) → AllAre o s xs → AllAre o s ys → AllAre o s (xs ++ ys)
unfolding AllAre
are-both o s [] ys h k = k
are-both o s (x ∷ xs) ys h k = (h.0, are-both o s xs ys h.1 k)

are-after : (o : Ordering) (s p : List ℕ) (l : Strings) → ((u : List ℕ) → string_order (p ++ u) s ≡ o) → AllAre o s (after p l)
unfolding AllAre
are-after o s p [] h = tt
are-after o s p (e ∷ l) h = (h e.0, are-after o s p l h)

same_both : (t : Bool) (x : Strings) → x ≡ cond t x x
same_both true x = refl
same_both false x = refl

empties : (t u : Bool) → ◌≡◌ {A = Strings} [] (cond t [] [] ++ ([] ++ cond u [] []))
empties true true = refl
empties true false = refl
empties false true = refl
empties false false = refl

kept-all : (P : Ordering → Bool) (o : Ordering) (s : List ℕ) (l : Strings) → AllAre o s l → kept_strings P s l ≡ cond (P o) l []
unfolding AllAre
kept-all P o s [] h = same_both (P o) []
kept-all P o s (e ∷ l) h =
    ap (λ r. cond (P r) (e ∷ kept_strings P s l) (kept_strings P s l)) h.0 ∙ ap (λ x. cond (P o) (e ∷ x) x) (kept-all P o s l h.1)
    ∙ elim (P o) as (λ t. cond t (e ∷ cond t l []) (cond t l []) ≡ cond t (e ∷ l) []) [ true ↦ refl | false ↦ refl ]

-- ---- words compare as the strings that begin with them

pub less-part : (f : ℕ → Strings) (k v : ℕ) (s : List ℕ) → IsSpelt k → IsString s → k < pack s → AllAre Less s (part f (k, v))
unfolding AllAre
less-part f k v s own is h =
    let lt : (u : List ℕ) → (length (word_bytes k) < 8 → u ≡ []) → string_order (word_bytes k ++ u) s ≡ Less =
    λ u short. ap (string_order (word_bytes k ++ u)) (sym (append-nil s)) ∙ word_lt 8 (word_bytes k) s u [] own.bytes is (omega (arith, own.packed)) short in
    elim (is_last k) as (λ t. is_last k ≡ t → AllAre Less s (cond t ((word_bytes k, v) ∷ []) (after (word_bytes k) (f v)))) [
      | true ↦ λ e. (ap (λ b. string_order b s) (sym (append-nil (word_bytes k))) ∙ lt [] (λ _. refl), tt)
      | false ↦ λ e. are-after Less s (word_bytes k) (f v) (λ u. lt u (λ n. absurd (omega (arith, more_long k e))))
    ] refl

pub greater-part : (f : ℕ → Strings) (k v : ℕ) (s : List ℕ) → IsSpelt k → IsString s → pack s < k → AllAre Greater s (part f (k, v))
unfolding AllAre
greater-part f k v s own is h =
    let gt : (u : List ℕ) → string_order (word_bytes k ++ u) s ≡ Greater =
    λ u. nat_list_cmp_total.antisymm (word_bytes k ++ u) s ∙ ap ordering_reverse
    (ap (λ x. string_order x (word_bytes k ++ u)) (sym (append-nil s)) ∙ word_lt 8 s (word_bytes k) [] u is own.bytes
    (omega (arith, own.packed)) (λ _. refl)) in
    elim (is_last k) as (λ t. is_last k ≡ t → AllAre Greater s (cond t ((word_bytes k, v) ∷ []) (after (word_bytes k) (f v)))) [
      | true ↦ λ e. (ap (λ b. string_order b s) (sym (append-nil (word_bytes k))) ∙ gt [], tt)
      | false ↦ λ e. are-after Greater s (word_bytes k) (f v) gt
    ] refl

-- under the word of s itself the rests compare
pub kept-after : (P : Ordering → Bool) (p t : List ℕ) (l : Strings) → kept_strings P (p ++ t) (after p l) ≡ after p (kept_strings P t l)
kept-after P p t [] = refl
kept-after P p t (e ∷ l) =
    ap (λ o. cond (P o) ((p ++ e.0, e.1) ∷ kept_strings P (p ++ t) (after p l)) (kept_strings P (p ++ t) (after p l))) (same_front p e.0 t)
    ∙ ap (λ x. cond (P (string_order e.0 t)) ((p ++ e.0, e.1) ∷ x) x) (kept-after P p t l)
    ∙ elim (P (string_order e.0 t)) as (λ b. cond b ((p ++ e.0, e.1) ∷ after p (kept_strings P t l)) (after p (kept_strings P t l)) ≡ after p
    (cond b (e ∷ kept_strings P t l) (kept_strings P t l))) [ true ↦ refl | false ↦ refl ]

pub kept-below : (P : Ordering → Bool) (f : ℕ → Strings) (v : ℕ) (s : List ℕ) → IsString s → is_last (pack s) ≡ false
    → kept_strings P s (part f (pack s, v)) ≡ after (word_bytes (pack s)) (kept_strings P (drop 8 s) (f v))
kept-below P f v s is more =
    ap (λ t. kept_strings P s (cond t ((word_bytes (pack s), v) ∷ []) (after (word_bytes (pack s)) (f v)))) more
    ∙ ap (λ x. kept_strings P x (after (word_bytes (pack s)) (f v))) (sym (take-drop 8 s) ∙ ap (λ l. l ++ drop 8 s) (sym (bytes-pack 8 s is)))
    ∙ kept-after P (word_bytes (pack s)) (drop 8 s) (f v)

-- ---- the parts of words above

by_less : (a b : ℕ) → word_order a b ≡ Less → a < b
by_less a b h = grind (arith, nat_tests)

by_greater : (a b : ℕ) → word_order a b ≡ Greater → b < a
by_greater a b h = grind (arith, nat_tests)

by_equal : (a b : ℕ) → word_order a b ≡ Equal → a ≡ b
by_equal a b h = grind (arith, nat_tests)

to_greater : (a b : ℕ) → b < a → word_order a b ≡ Greater
to_greater a b h = grind (arith, nat_tests)

above-all : (f : ℕ → Strings) (s : List ℕ) (es : Entries ℕ) → IsString s → ((k v : ℕ) → value_of word_order es k ≡ Some v
    → IsSpelt k) → is_sorted word_order es ≡ true → below_all word_order (pack s) es ≡ true → AllAre Greater s
    (joined_strings (part f) es)
unfolding AllAre
above-all f s [] is spelt sorted h = tt
above-all f s (e ∷ es) is spelt sorted h = are-both Greater s (part f e) (joined_strings (part f) es)
    (greater-part f e.0 e.1 s (spelt e.0 e.1 (found-first e es)) is
    (by_less (pack s) e.0 (is_Less (word_order (pack s) e.0) (and_left (is_lt (word_order (pack s) e.0)) _ h))))
    (above-all f s es is (λ k v i. spelt k v (found_later e es k v sorted i)) (and_right (below_all word_order e.0 es) _ sorted)
    (and_right (is_lt (word_order (pack s) e.0)) _ h))

abbrev pub words_below : ℕ → Entries ℕ → Entries ℕ
words_below k es = filter (λ e. is_lt (word_order e.0 k)) es

abbrev pub words_above : ℕ → Entries ℕ → Entries ℕ
words_above k es = filter (λ e. is_gt (word_order e.0 k)) es

none-below : (k : ℕ) (es : Entries ℕ) → below_all word_order k es ≡ true → words_below k es ≡ []
none-below k [] h = refl
none-below k (e ∷ es) h =
    let g = to_greater e.0 k (by_less k e.0 (is_Less (word_order k e.0) (and_left (is_lt (word_order k e.0)) _ h))) in
    ap (λ o. cond (is_lt o) (e ∷ words_below k es) (words_below k es)) g ∙ none-below k es (and_right (is_lt (word_order k e.0)) _ h)

all-above : (k : ℕ) (es : Entries ℕ) → below_all word_order k es ≡ true → words_above k es ≡ es
all-above k [] h = refl
all-above k (e ∷ es) h =
    let g = to_greater e.0 k (by_less k e.0 (is_Less (word_order k e.0) (and_left (is_lt (word_order k e.0)) _ h))) in
    ap (λ o. cond (is_gt o) (e ∷ words_above k es) (words_above k es)) g ∙ ap (λ l. e ∷ l) (all-above k es (and_right (is_lt (word_order k e.0)) _ h))

below_more : (j k : ℕ) (es : Entries ℕ) → j < k → below_all word_order k es ≡ true → below_all word_order j es ≡ true
below_more j k [] h b = refl
below_more j k (e ∷ es) h b =
    let l = by_less k e.0 (is_Less (word_order k e.0) (and_left (is_lt (word_order k e.0)) _ b)) in
    let g : word_order j e.0 ≡ Less = less j e.0 (omega arith) in
    ap (λ o. is_lt o && below_all word_order j es) g ∙ below_more j k es h (and_right (is_lt (word_order k e.0)) _ b)
  where
    less : (a b : ℕ) → a < b → word_order a b ≡ Less
    less a b h = grind (arith, nat_tests)

abbrev pub wholes : Bool → Strings → Strings
wholes t l = cond t l []

-- THE SEARCH: what it keeps of a word array is what it keeps of the words below, under the word
-- itself, and of the words above
pub kept-joined : (P : Ordering → Bool) (f : ℕ → Strings) (s : List ℕ) (es : Entries ℕ) → IsString s → is_sorted word_order es
    ≡ true → ((k v : ℕ) → value_of word_order es k ≡ Some v → IsSpelt k)
    → kept_strings P s (joined_strings (part f) es) ≡ wholes (P Less) (joined_strings (part f) (words_below (pack s) es))
    ++ (here P f s (value_of word_order es (pack s)) ++ wholes (P Greater) (joined_strings (part f) (words_above (pack s) es)))
kept-joined P f s [] is sorted spelt = empties (P Less) (P Greater)
kept-joined P f s (e ∷ es) is sorted spelt =
    let k : ℕ = pack s in
    let own : IsSpelt e.0 = spelt e.0 e.1 (found-first e es) in
    let tail : is_sorted word_order es ≡ true = and_right (below_all word_order e.0 es) _ sorted in
    let over : below_all word_order e.0 es ≡ true = and_left (below_all word_order e.0 es) _ sorted in
    let spelt' : (k v : ℕ) → value_of word_order es k ≡ Some v → IsSpelt k = λ k v i. spelt k v (found_later e es k v sorted i) in
    let first_of : kept_strings P s (part f e ++ joined_strings (part f) es) ≡ kept_strings P s (part f e) ++ kept_strings P s (joined_strings (part f) es) =
    filter-append (λ x. P (string_order x.0 s)) (part f e) (joined_strings (part f) es) in
    elim (word_order e.0 (pack s)) as (λ o. word_order e.0 (pack s) ≡ o → kept_strings P s (part f e ++ joined_strings (part f) es)
    ≡ wholes (P Less) (joined_strings (part f) (cond (is_lt o) (e ∷ words_below (pack s) es) (words_below (pack s) es)))
    ++ (here P f s (value_of word_order (e ∷ es) (pack s)) ++ wholes (P Greater)
    (joined_strings (part f) (cond (is_gt o) (e ∷ words_above (pack s) es) (words_above (pack s) es))))) [
      | Less ↦ λ i.
          let less : e.0 < pack s = by_less e.0 (pack s) i in
          let rest = kept-joined P f s es is tail spelt' in
          let miss : value_of word_order (e ∷ es) (pack s) ≡ value_of word_order es (pack s) =
          ap (λ t. cond t (Some e.1) (value_of word_order es (pack s))) (word_other (pack s) e.0 (λ z. absurd (omega arith))) in
          first_of ∙ ap (λ l. l ++ kept_strings P s (joined_strings (part f) es)) (kept-all P Less s (part f e) (less-part f e.0 e.1 s own is less))
          ∙ ap (λ l. cond (P Less) (part f e) [] ++ l) rest
          ∙ glue (P Less) (part f e) (joined_strings (part f) (words_below (pack s) es))
          (here P f s (value_of word_order es (pack s)) ++ wholes (P Greater) (joined_strings (part f) (words_above (pack s) es)))
          ∙ ap (λ o. wholes (P Less) (part f e ++ joined_strings (part f) (words_below (pack s) es))
          ++ (here P f s o ++ wholes (P Greater) (joined_strings (part f) (words_above (pack s) es)))) (sym miss)
      | Equal ↦ λ i.
          let same : e.0 ≡ pack s = by_equal e.0 (pack s) i in
          let over' : below_all word_order (pack s) es ≡ true = subst (λ z. below_all word_order z es ≡ true) same over in
          let hit : value_of word_order (e ∷ es) (pack s) ≡ Some e.1 =
          ap (λ t. cond t (Some e.1) (value_of word_order es (pack s))) (word_is (pack s) e.0 (sym same)) in
          first_of ∙ ap (λ l. kept_strings P s (part f e) ++ l) (kept-all P Greater s (joined_strings (part f) es) (above-all f s es is spelt' tail over'))
          ∙ ap (λ z. kept_strings P s (part f (z, e.1)) ++ wholes (P Greater) (joined_strings (part f) es)) same
          ∙ ap (λ l. here P f s (Some e.1) ++ wholes (P Greater) (joined_strings (part f) l)) (sym (all-above (pack s) es over'))
          ∙ ap (λ o. here P f s o ++ wholes (P Greater) (joined_strings (part f) (words_above (pack s) es))) (sym hit)
          ∙ sym (ap (λ l. wholes (P Less) (joined_strings (part f) l) ++ (here P f s (value_of word_order (e ∷ es) (pack s)) ++ wholes
          (P Greater) (joined_strings (part f) (words_above (pack s) es)))) (none-below (pack s) es over') ∙ nil (P Less) _)
      | Greater ↦ λ i.
          let more : pack s < e.0 = by_greater e.0 (pack s) i in
          let over' : below_all word_order (pack s) es ≡ true = below_more (pack s) e.0 es more over in
          let miss : value_of word_order (e ∷ es) (pack s) ≡ None = ap (λ t. cond t (Some e.1) (value_of word_order es (pack s)))
          (word_other (pack s) e.0 (λ z. absurd (omega arith))) ∙ word_below (pack s) es over' in
          first_of ∙ ap (λ l. l ++ kept_strings P s (joined_strings (part f) es)) (kept-all P Greater s (part f e) (greater-part f e.0 e.1 s own is more))
          ∙ ap (λ l. cond (P Greater) (part f e) [] ++ l) (kept-all P Greater s (joined_strings (part f) es) (above-all f s es is spelt' tail over'))
          ∙ pair (P Greater) (part f e) (joined_strings (part f) es)
          ∙ ap (λ l. wholes (P Greater) (part f e ++ joined_strings (part f) l)) (sym (all-above (pack s) es over'))
          ∙ ap (λ o. here P f s o ++ wholes (P Greater) (part f e ++ joined_strings (part f) (words_above (pack s) es))) (sym miss)
          ∙ sym (ap (λ l. wholes (P Less) (joined_strings (part f) l) ++ (here P f s (value_of word_order (e ∷ es) (pack s)) ++ wholes
          (P Greater) (part f e ++ joined_strings (part f) (words_above (pack s) es)))) (none-below (pack s) es over') ∙ nil (P Less) _)
    ] refl
  where
    glue : (t : Bool) (x y z : Strings) → cond t x [] ++ (cond t y [] ++ z) ≡ cond t (x ++ y) [] ++ z
    glue true x y z = sym (append_assoc x y z)
    glue false x y z = refl

    pair : (t : Bool) (x y : Strings) → cond t x [] ++ cond t y [] ≡ cond t (x ++ y) []
    pair true x y = refl
    pair false x y = refl

    nil : (t : Bool) (l : Strings) → cond t [] [] ++ l ≡ l
    nil true l = refl
    nil false l = refl
