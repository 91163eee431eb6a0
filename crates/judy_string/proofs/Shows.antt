-- What each search finds in a nest: what it finds under the string's own word, and else the end of
-- what stands under the word beside it.
use Rattle.std.proofs.Common.{◌≡◌, ◌≢◌, ℕ, zero, suc, ◌-◌, ◌<◌, ◌≤◌, Bool, true, false, cond, List, [], ◌∷◌, ◌++◌, take, drop}
use Rattle.std.proofs.Common.{length, filter, Option, Some, None, is_some, ap, sym, ◌∙◌, refl, subst, arith, append-nil}
use Rattle.std.proofs.Common.{append_assoc, ◌⊎◌, inl, inr}
use Rattle.std.proofs.lemmas.Bool.Decides.{nat_tests}
use Rattle.std.specs.Prelude.{nat_le}
use Rattle.std.specs.List.{list_all}
use Rattle.std.specs.declared.cmp.Ordering.{Ordering}
use Rattle.std.specs.declared.cmp.Ordering.TheVariants.{Less, Equal, Greater}
use Rattle.std.specs.Ordering.{is_eq, is_le, is_lt, is_gt, ordering_reverse}
use Rattle.std.specs.Cmp.{tied_itself}
use Rattle.std.specs.Cmp.Lexicographic.{nat_list_cmp_total}
use Rattle.std.specs.FinMap.{is_sorted}
use Rattle.std.specs.FinMap.Entries.{below_all}
use Rattle.std.proofs.lemmas.List.{take_all}
use Rattle.judy_arena.specs.Blocks.{Blocks}
use Rattle.judy_model.specs.Contents.{Entries, string_order, word_order, value_of, head_of, last_of, last, max_word}
use Rattle.judy_model.proofs.lemmas.TestLemmas.{and_right, and_left}
use Rattle.judy_tree.specs.Root.{entries}
use Rattle.judy_tree.proofs.lemmas.Joins.{found-first}
use Rattle.judy_packing.specs.Packing.{pack, word_bytes, is_last, IsString}
use Rattle.judy_packing.proofs.lemmas.Packs.{bytes-pack, last-word, more-word}
use Rattle.judy_string.specs.Searches.{kept_strings, here, keeps, end_of, found_by, beside, IsShown}
use Rattle.judy_string.specs.Strings.{Strings, after, part, joined_strings, nested_content_at, IsNestedAt, Leads}
use Rattle.judy_model.specs.declared.calls.Search.{Search}
use Rattle.judy_model.specs.declared.calls.Search.TheVariants.{First, Next, Last, Prev}
use Rattle.judy_string.proofs.Joins.{found_later}
use Rattle.judy_string.proofs.Nests.{Nest, nest-kind, nest-sorted, nest-content}
use Rattle.judy_string.proofs.Levels.{spells-nothing}
use Rattle.judy_string.proofs.Searches.{kept-joined, kept-below, words_above, words_below}

-- the first that there is
pub otherwise : {A : Type 0} → Option A → Option A → Option A
otherwise (Some x) y = Some x
otherwise None y = y

head-append : {A : Type 0} (xs ys : List A) → head_of (xs ++ ys) ≡ otherwise (head_of xs) (head_of ys)
unfolding otherwise
head-append [] ys = refl
head-append (x ∷ xs) ys = refl

not_None : {A : Type 0} {x : A} → Some x ≡ None → ⊥
not_None h = let e : true ≡ false = ap is_some h in cc

last_some : {A : Type 0} (x : A) (xs : List A) → last_of (x ∷ xs) ≢ None
last_some x [] h = not_None h
last_some x (y ∷ xs) h = last_some y xs h

keep_first : {A : Type 0} (o p : Option A) → o ≢ None → otherwise o p ≡ o
unfolding otherwise
keep_first None p h = absurd (h refl)
keep_first (Some x) p h = refl

last-append : {A : Type 0} (xs ys : List A) → last_of (xs ++ ys) ≡ otherwise (last_of ys) (last_of xs)
unfolding otherwise
last-append xs [] = ap last_of (append-nil xs)
last-append [] (y ∷ ys) = sym (keep_first (last_of (y ∷ ys)) None (last_some y ys))
last-append (x ∷ []) (y ∷ ys) = sym (keep_first (last_of (y ∷ ys)) (Some x) (last_some y ys))
last-append (x ∷ x2 ∷ xs) (y ∷ ys) = last-append (x2 ∷ xs) (y ∷ ys)

-- no part is empty
pub Filled : {A : Type 0} → (ℕ × ℕ → List A) → Entries ℕ → Type 0
Filled g [] = Unit {0}
Filled g (e ∷ es) = (g e ≢ []) × Filled g es

filled-all : {A : Type 0} (g : ℕ × ℕ → List A) (es : Entries ℕ) → is_sorted word_order es ≡ true
    → ((k v : ℕ) → value_of word_order es k ≡ Some v → g (k, v) ≢ []) → Filled g es
unfolding Filled
filled-all g [] sorted h = tt
filled-all g (e ∷ es) sorted h = (
  h e.0 e.1 (found-first e es),
  filled-all g es (and_right (below_all word_order e.0 es) _ sorted)
      (λ k v i. h k v (found_later e es k v sorted i)),
)

filled-kept : {A : Type 0} (p : ℕ × ℕ → Bool) (g : ℕ × ℕ → List A) (es : Entries ℕ) → Filled g es → Filled g (filter p es)
unfolding Filled
filled-kept p g [] h = tt
filled-kept p g (e ∷ es) h = elim (p e) as (λ t. Filled g (cond t (e ∷ filter p es) (filter p es))) [
  | true ↦ (h.0, filled-kept p g es h.1)
  | false ↦ filled-kept p g es h.1
]

-- what the end of an entry's part is
pub then_end : {A : Type 0} → (List A → Option A) → (ℕ × ℕ → List A) → Option (ℕ × ℕ) → Option A
then_end end g None = None
then_end end g (Some e) = end (g e)

head_some : {A : Type 0} (xs : List A) → xs ≢ [] → head_of xs ≢ None
head_some [] h = absurd (h refl)
head_some (x ∷ xs) h = λ e. not_None e

last_some_of : {A : Type 0} (xs : List A) → xs ≢ [] → last_of xs ≢ None
last_some_of [] h = absurd (h refl)
last_some_of (x ∷ xs) h = last_some x xs

some_left : {A : Type 0} (xs ys : List A) → xs ≢ [] → xs ++ ys ≢ []
some_left [] ys h e = h refl
some_left (x ∷ xs) ys h e = let n : suc (length (xs ++ ys)) ≡ 0 = ap length e in omega (arith, n)

head-joined : {A : Type 0} (g : ℕ × ℕ → List A) (es : Entries ℕ) → Filled g es → head_of (joined_strings g es) ≡ then_end head_of g (head_of es)
unfolding Filled then_end
head-joined g [] h = refl
head-joined g (e ∷ es) h = head-append (g e) (joined_strings g es) ∙ keep_first (head_of (g e)) (head_of (joined_strings g es)) (head_some (g e) h.0)

last-joined : {A : Type 0} (g : ℕ × ℕ → List A) (es : Entries ℕ) → Filled g es → last_of (joined_strings g es) ≡ then_end last_of g (last_of es)
unfolding Filled then_end
last-joined g [] h = refl
last-joined g (e ∷ []) h = ap last_of (append-nil (g e))
last-joined g (e ∷ e2 ∷ es) h =
    last-append (g e) (joined_strings g (e2 ∷ es)) ∙ keep_first (last_of (joined_strings g (e2 ∷ es))) (last_of (g e))
    (last_some_of (joined_strings g (e2 ∷ es)) (some_left (g e2) (joined_strings g es) h.1.0))
    ∙ last-joined g (e2 ∷ es) h.1

end-joined : (h : Search) (f : ℕ → Strings) (es : Entries ℕ) → Filled (part f) es
    → end_of h (joined_strings (part f) es) ≡ then_end (end_of h) (part f) (end_of h es)
end-joined First f es i = head-joined (part f) es i
end-joined Next f es i = head-joined (part f) es i
end-joined Last f es i = last-joined (part f) es i
end-joined Prev f es i = last-joined (part f) es i

after_some : (p : List ℕ) (l : Strings) → l ≢ [] → after p l ≢ []
after_some p [] h e = h refl
after_some p (x ∷ l) h e = let n : suc (length (after p l)) ≡ 0 = ap length e in omega (arith, n)

module _ (r : ℕ) (b : Blocks) (w : ℕ) (n : Nest r b w) where
  parts-filled : Filled (part (nested_content_at r b)) (entries true b w)
  parts-filled = filled-all (part (nested_content_at r b)) (entries true b w) (nest-sorted r b w n) some_part
    where
      some_part : (k v : ℕ) → value_of word_order (entries true b w) k ≡ Some v → part (nested_content_at r b) (k, v) ≢ []
      some_part k v i = elim (is_last k) as (λ t. is_last k ≡ t → cond t ((word_bytes k, v) ∷ []) (after (word_bytes k) (nested_content_at r b v)) ≢ []) [
        | true ↦ λ m e. let x : suc zero ≡ 0 = ap length e in omega (arith, x)
        | false ↦ λ m. let l : Leads b w k v = record { found = i; more = m } in after_some (word_bytes k) (nested_content_at r b v)
            (λ e. n.filled k v l (spells-nothing r b v (n.sound k v l) e))
      ] refl

  -- the end of a nest is the end of what stands under its end
  pub nest-end : (h : Search) → end_of h (nested_content_at (suc r) b w) ≡ then_end (end_of h) (part (nested_content_at r b)) (end_of h (entries true b w))
  nest-end h = ap (end_of h) (nest-content r b w (nest-kind r b w n)) ∙ end-joined h (nested_content_at r b) (entries true b w) parts-filled

  module _ (s : List ℕ) (is : IsString s) where
    up : (h : Search) → (p : Ordering → Bool) → p Less ≡ false → p Greater ≡ true
        → head_of (kept_strings p s (nested_content_at (suc r) b w)) ≡ otherwise
        (head_of (here p (nested_content_at r b) s (value_of word_order (entries true b w) (pack s))))
        (then_end head_of (part (nested_content_at r b)) (head_of (words_above (pack s) (entries true b w))))
    up h p low high =
        ap head_of (ap (kept_strings p s) (nest-content r b w (nest-kind r b w n)) ∙ kept-joined p (nested_content_at r b) s (entries true b w)
        is (nest-sorted r b w n) n.spelt)
        ∙ ap (λ t. head_of (cond t (joined_strings (part (nested_content_at r b)) (words_below (pack s) (entries true b w))) []
        ++ (here p (nested_content_at r b) s (value_of word_order (entries true b w) (pack s)) ++ cond (p Greater)
        (joined_strings (part (nested_content_at r b)) (words_above (pack s) (entries true b w))) []))) low
        ∙ ap (λ t. head_of (here p (nested_content_at r b) s (value_of word_order (entries true b w) (pack s)) ++ cond t
        (joined_strings (part (nested_content_at r b)) (words_above (pack s) (entries true b w))) [])) high
        ∙ head-append (here p (nested_content_at r b) s (value_of word_order (entries true b w) (pack s)))
        (joined_strings (part (nested_content_at r b)) (words_above (pack s) (entries true b w)))
        ∙ ap (otherwise (head_of (here p (nested_content_at r b) s (value_of word_order (entries true b w) (pack s)))))
        (head-joined (part (nested_content_at r b)) (words_above (pack s) (entries true b w))
        (filled-kept _ (part (nested_content_at r b)) (entries true b w) parts-filled))

    down : (h : Search) → (p : Ordering → Bool) → p Less ≡ true → p Greater ≡ false
        → last_of (kept_strings p s (nested_content_at (suc r) b w)) ≡ otherwise
        (last_of (here p (nested_content_at r b) s (value_of word_order (entries true b w) (pack s))))
        (then_end last_of (part (nested_content_at r b)) (last_of (words_below (pack s) (entries true b w))))
    down h p low high =
        ap last_of (ap (kept_strings p s) (nest-content r b w (nest-kind r b w n)) ∙ kept-joined p (nested_content_at r b) s (entries true b w)
        is (nest-sorted r b w n) n.spelt)
        ∙ ap (λ t. last_of (cond t (joined_strings (part (nested_content_at r b)) (words_below (pack s) (entries true b w))) []
        ++ (here p (nested_content_at r b) s (value_of word_order (entries true b w) (pack s)) ++ cond (p Greater)
        (joined_strings (part (nested_content_at r b)) (words_above (pack s) (entries true b w))) []))) low
        ∙ ap (λ t. last_of (joined_strings (part (nested_content_at r b)) (words_below (pack s) (entries true b w))
        ++ (here p (nested_content_at r b) s (value_of word_order (entries true b w) (pack s)) ++ cond t
        (joined_strings (part (nested_content_at r b)) (words_above (pack s) (entries true b w))) []))) high
        ∙ ap (λ l. last_of (joined_strings (part (nested_content_at r b)) (words_below (pack s) (entries true b w)) ++ l))
        (append-nil (here p (nested_content_at r b) s (value_of word_order (entries true b w) (pack s))))
        ∙ last-append (joined_strings (part (nested_content_at r b)) (words_below (pack s) (entries true b w)))
        (here p (nested_content_at r b) s (value_of word_order (entries true b w) (pack s)))
        ∙ ap (otherwise (last_of (here p (nested_content_at r b) s (value_of word_order (entries true b w) (pack s)))))
        (last-joined (part (nested_content_at r b)) (words_below (pack s) (entries true b w))
        (filled-kept _ (part (nested_content_at r b)) (entries true b w) parts-filled))

    -- THE SEARCH: under the string's own word, else under the word beside it
    pub nest-found : (h : Search) → found_by h s (nested_content_at (suc r) b w)
        ≡ otherwise (end_of h (here (keeps h) (nested_content_at r b) s (value_of word_order (entries true b w) (pack s))))
        (then_end (end_of h) (part (nested_content_at r b)) (beside h (entries true b w) (pack s)))
    nest-found First = up First (keeps First) refl refl
    nest-found Next = up Next (keeps Next) refl refl
    nest-found Last = down Last (keeps Last) refl refl
    nest-found Prev = down Prev (keeps Prev) refl refl

-- ---- an entry that was found

head_in : (p : ℕ × ℕ → Bool) (es : Entries ℕ) (e : ℕ × ℕ) → is_sorted word_order es ≡ true → head_of (filter p es) ≡ Some e
    → value_of word_order es e.0 ≡ Some e.1
head_in p [] e sorted h = absurd (not_None (sym h))
head_in p (x ∷ es) e sorted h = elim (p x) as (λ t. head_of (cond t (x ∷ filter p es) (filter p es)) ≡ Some e → value_of word_order (x ∷ es) e.0 ≡ Some e.1) [
  | true ↦ λ i. subst (λ y. value_of word_order (x ∷ es) y.0 ≡ Some y.1) (same i) (found-first x es)
  | false ↦ λ i. found_later x es e.0 e.1 sorted (head_in p es e (and_right (below_all word_order x.0 es) _ sorted) i)
] h
  where
    same : {x y : ℕ × ℕ} → Some x ≡ Some y → x ≡ y
    same h = cc

last_in : (p : ℕ × ℕ → Bool) (es : Entries ℕ) (e : ℕ × ℕ) → is_sorted word_order es ≡ true → last_of (filter p es) ≡ Some e
    → value_of word_order es e.0 ≡ Some e.1
last_in p [] e sorted h = absurd (not_None (sym h))
last_in p (x ∷ es) e sorted h = elim (p x) as (λ t. last_of (cond t (x ∷ filter p es) (filter p es)) ≡ Some e → value_of word_order (x ∷ es) e.0 ≡ Some e.1) [
  | true ↦ λ i. by (filter p es) (λ j. found_later x es e.0 e.1 sorted (last_in p es e (and_right (below_all word_order x.0 es) _ sorted) j)) i
  | false ↦ λ i. found_later x es e.0 e.1 sorted (last_in p es e (and_right (below_all word_order x.0 es) _ sorted) i)
] h
  where
    same : {x y : ℕ × ℕ} → Some x ≡ Some y → x ≡ y
    same h = cc

    by : (l : Entries ℕ) → (last_of l ≡ Some e → value_of word_order (x ∷ es) e.0 ≡ Some e.1) → last_of (x ∷ l) ≡ Some e
        → value_of word_order (x ∷ es) e.0 ≡ Some e.1
    by [] f i = subst (λ y. value_of word_order (x ∷ es) y.0 ≡ Some y.1) (same i) (found-first x es)
    by (y ∷ l) f i = f i

pub beside-in : (h : Search) (es : Entries ℕ) (k : ℕ) (e : ℕ × ℕ) → is_sorted word_order es ≡ true → beside h es k ≡ Some e
    → value_of word_order es e.0 ≡ Some e.1
beside-in First es k e sorted i = head_in (λ x. is_gt (word_order x.0 k)) es e sorted i
beside-in Next es k e sorted i = head_in (λ x. is_gt (word_order x.0 k)) es e sorted i
beside-in Last es k e sorted i = last_in (λ x. is_lt (word_order x.0 k)) es e sorted i
beside-in Prev es k e sorted i = last_in (λ x. is_lt (word_order x.0 k)) es e sorted i

-- the entry beside a word in a nest is one of its entries
pub beside-there : (r : ℕ) (b : Blocks) (w : ℕ) → Nest r b w → (how : Search) (k : ℕ) (o : Option (ℕ × ℕ)) (e : ℕ × ℕ)
    → o ≡ beside how (entries true b w) k → o ≡ Some e → value_of word_order (entries true b w) e.0 ≡ Some e.1
beside-there r b w nest how k o e is found = beside-in how (entries true b w) k e (nest-sorted r b w nest) (sym is ∙ found)

all_in : (es : Entries ℕ) → filter (λ e. true) es ≡ es
all_in [] = refl
all_in (e ∷ es) = ap (λ l. e ∷ l) (all_in es)

pub end-in : (h : Search) (es : Entries ℕ) (e : ℕ × ℕ) → is_sorted word_order es ≡ true → end_of h es ≡ Some e → value_of word_order es e.0 ≡ Some e.1
end-in First es e sorted i = head_in (λ x. true) es e sorted (ap head_of (all_in es) ∙ i)
end-in Next es e sorted i = head_in (λ x. true) es e sorted (ap head_of (all_in es) ∙ i)
end-in Last es e sorted i = last_in (λ x. true) es e sorted (ap last_of (all_in es) ∙ i)
end-in Prev es e sorted i = last_in (λ x. true) es e sorted (ap last_of (all_in es) ∙ i)

-- every word is at most the greatest
pub all-upto : (es : Entries ℕ) → list_all (λ e. nat_le e.0 max_word) es ≡ true → filter (λ e. is_le (word_order e.0 max_word)) es ≡ es
all-upto [] h = refl
all-upto (e ∷ es) h = ap (λ t. cond t (e ∷ filter (λ e. is_le (word_order e.0 max_word)) es)
    (filter (λ e. is_le (word_order e.0 max_word)) es)) (same e.0 max_word (and_left (nat_le e.0 max_word) _ h)) ∙ ap (λ l. e ∷ l)
    (all-upto es (and_right (nat_le e.0 max_word) _ h))
  where
    same : (a m : ℕ) → nat_le a m ≡ true → is_le (word_order a m) ≡ true
    same a m h = grind (arith, nat_tests)

-- ---- what stands in the buffer

pub under : List ℕ → Option (List ℕ × ℕ) → Option (List ℕ × ℕ)
under q None = None
under q (Some e) = Some (q ++ e.0, e.1)

head-after : (q : List ℕ) (l : Strings) → head_of (after q l) ≡ under q (head_of l)
unfolding under
head-after q [] = refl
head-after q (e ∷ l) = refl

last-after : (q : List ℕ) (l : Strings) → last_of (after q l) ≡ under q (last_of l)
unfolding under
last-after q [] = refl
last-after q (e ∷ []) = refl
last-after q (e ∷ e2 ∷ l) = last-after q (e2 ∷ l)

pub end-after : (h : Search) (q : List ℕ) (l : Strings) → end_of h (after q l) ≡ under q (end_of h l)
end-after First q l = head-after q l
end-after Next q l = head-after q l
end-after Last q l = last-after q l
end-after Prev q l = last-after q l

pub shown-under : (p q : List ℕ) (o : Option (List ℕ × ℕ)) (a : Option ℕ) (items : List ℕ) → o ≢ None → IsShown (p ++ q) o a items
    → IsShown p (under q o) a items
unfolding under
shown-under p q None a items some h = absurd (some refl)
shown-under p q (Some e) a items some h = (h.0, h.1 ∙ append_assoc p q e.0)

pub shown-some : (p q : List ℕ) (o : Option (List ℕ × ℕ)) (v : ℕ) (items : List ℕ) → IsShown (p ++ q) o (Some v) items → IsShown p (under q o) (Some v) items
shown-some p q None v items h = absurd (not_None h.0)
shown-some p q (Some e) v items h = shown-under p q (Some e) (Some v) items (λ i. not_None i) h

pub shown-first : (p : List ℕ) (o o2 : Option (List ℕ × ℕ)) (v : ℕ) (items : List ℕ) → IsShown p o (Some v) items → IsShown p (otherwise o o2) (Some v) items
unfolding otherwise
shown-first p None o2 v items h = absurd (not_None h.0)
shown-first p (Some e) o2 v items h = h

pub shown-none : (p : List ℕ) (o : Option (List ℕ × ℕ)) (items : List ℕ) → IsShown p o None items → (o ≡ None) × (items ≡ p)
shown-none p None items h = (refl, h.1)
shown-none p (Some e) items h = absurd (not_None (sym h.0))

pub shown-none_under : (p q : List ℕ) (o : Option (List ℕ × ℕ)) (items now : List ℕ) → IsShown (p ++ q) o None items
    → now ≡ take (length p) items → IsShown p (under q o) None now
unfolding under
shown-none_under p q (Some e) items now h t = absurd (not_None (sym h.0))
shown-none_under p q None items now h t = (refl, t ∙ ap (take (length p)) h.1 ∙ front p q)
  where
    front : (p q : List ℕ) → take (length p) (p ++ q) ≡ p
    front [] q = refl
    front (x ∷ p) q = ap (λ l. x ∷ l) (front p q)

pub no-end : (h : Search) (o : Option (List ℕ × ℕ)) (f : ℕ → Strings) → o ≡ None → otherwise o (then_end (end_of h) (part f) None) ≡ None
unfolding otherwise then_end
no-end h o f e = ap (λ x. otherwise x None) e

pub then-end : (h : Search) (o : Option (List ℕ × ℕ)) (f : ℕ → Strings) (e : ℕ × ℕ) → o ≡ None → otherwise o
    (then_end (end_of h) (part f) (Some e)) ≡ end_of h (part f e)
unfolding otherwise then_end
then-end h o f e i = ap (λ x. otherwise x (end_of h (part f e))) i

pub only-end : (h : Search) (f : ℕ → Strings) (e : ℕ × ℕ) → then_end (end_of h) (part f) (Some e) ≡ end_of h (part f e)
unfolding then_end
only-end h f e = refl

pub not-end : (h : Search) (f : ℕ → Strings) → then_end {A = List ℕ × ℕ} (end_of h) (part f) None ≡ None
unfolding then_end
not-end h f = refl

pub part-more : (h : Search) (f : ℕ → Strings) (k v : ℕ) → is_last k ≡ false → end_of h (part f (k, v)) ≡ under (word_bytes k) (end_of h (f v))
part-more h f k v m = ap (λ t. end_of h (cond t ((word_bytes k, v) ∷ []) (after (word_bytes k) (f v)))) m ∙ end-after h (word_bytes k) (f v)

end_some : (h : Search) (l : Strings) → l ≢ [] → end_of h l ≢ None
end_some First l i = head_some l i
end_some Next l i = head_some l i
end_some Last l i = last_some_of l i
end_some Prev l i = last_some_of l i

pub end-some : (h : Search) (r : ℕ) (b : Blocks) (w : ℕ) → IsNestedAt r b w → w ≢ 0 → end_of h (nested_content_at r b w) ≢ None
end-some h r b w node some = end_some h (nested_content_at r b w) (λ e. some (spells-nothing r b w node e))

-- what is kept under the word of the string itself: the string, where it ends there
whole : (s : List ℕ) → IsString s → length s < 8 → word_bytes (pack s) ≡ s
whole s is h = bytes-pack 8 s is ∙ take_all 8 s (omega (arith, h))

pub here-last : (h : Search) (f : ℕ → Strings) (s : List ℕ) (v : ℕ) → IsString s → length s < 8 → here (keeps h) f s (Some v)
    ≡ cond (keeps h Equal) ((word_bytes (pack s), v) ∷ []) []
here-last h f s v is short =
    ap (λ t. kept_strings (keeps h) s (cond t ((word_bytes (pack s), v) ∷ []) (after (word_bytes (pack s)) (f v)))) (last-word s is short)
    ∙ ap (λ o. cond (keeps h o) ((word_bytes (pack s), v) ∷ []) []) (ap (λ x. string_order x s) (whole s is short) ∙ tied_itself nat_list_cmp_total s)

pub here-yes : (h : Search) (f : ℕ → Strings) (s : List ℕ) (v : ℕ) → IsString s → length s < 8 → keeps h Equal ≡ true
    → end_of h (here (keeps h) f s (Some v)) ≡ Some (word_bytes (pack s), v)
here-yes First f s v is short k = ap head_of (here-last First f s v is short)
here-yes Next f s v is short k = cc
here-yes Last f s v is short k = ap last_of (here-last Last f s v is short)
here-yes Prev f s v is short k = cc

pub here-no : (h : Search) (f : ℕ → Strings) (s : List ℕ) (v : ℕ) → IsString s → length s < 8 → keeps h Equal ≡ false
    → end_of h (here (keeps h) f s (Some v)) ≡ None
here-no First f s v is short k = cc
here-no Next f s v is short k = ap head_of (here-last Next f s v is short)
here-no Last f s v is short k = cc
here-no Prev f s v is short k = ap last_of (here-last Prev f s v is short)

-- and what goes on there
pub here-below : (h : Search) (f : ℕ → Strings) (s : List ℕ) (v : ℕ) → IsString s → 8 ≤ length s
    → end_of h (here (keeps h) f s (Some v)) ≡ under (word_bytes (pack s)) (found_by h (drop 8 s) (f v))
here-below h f s v is long = ap (end_of h) (kept-below (keeps h) f v s is (more-word s is long)) ∙ end-after h
    (word_bytes (pack s)) (kept_strings (keeps h) (drop 8 s) (f v))

pub end-last_word : (h : Search) (es : Entries ℕ) (o : Option (ℕ × ℕ)) → (h ≡ Last) ⊎ (h ≡ Prev) → o ≡ last word_order es max_word
    → list_all (λ e. nat_le e.0 max_word) es ≡ true → o ≡ end_of h es
end-last_word h es o (inl e) f small = f ∙ ap last_of (all-upto es small) ∙ ap (λ x. end_of x es) (sym e)
end-last_word h es o (inr e) f small = f ∙ ap last_of (all-upto es small) ∙ ap (λ x. end_of x es) (sym e)

pub end-one : (h : Search) (x : List ℕ × ℕ) → end_of h (x ∷ []) ≡ Some x
end-one First x = refl
end-one Next x = refl
end-one Last x = refl
end-one Prev x = refl

-- the one string is that of the search, which keeps no equal string
pub itself-no : (h : Search) (x : List ℕ × ℕ) (s : List ℕ) (v : ℕ) → keeps h Equal ≡ false → value_of string_order (x ∷ []) s ≡ Some v
    → found_by h s (x ∷ []) ≡ None
itself-no h x s v off i =
    ap (λ o. end_of h (cond (keeps h o) (x ∷ []) [])) (nat_list_cmp_total.antisymm x.0 s)
    ∙ elim (string_order s x.0) as (λ o. cond (is_eq o) (Some x.1) None ≡ Some v → end_of h (cond (keeps h (ordering_reverse o)) (x ∷ []) []) ≡ None) [
      | Less ↦ λ j. absurd (not_None (sym j))
      | Equal ↦ λ j. ap (λ t. end_of h (cond t (x ∷ []) [])) off ∙ none h
      | Greater ↦ λ j. absurd (not_None (sym j))
    ] i
  where
    none : (h : Search) → end_of {A = List ℕ × ℕ} h [] ≡ None
    none First = refl
    none Next = refl
    none Last = refl
    none Prev = refl

-- what a search below a child shows, by the words of the nest above it
pub below-shown : (how : Search) (r : ℕ) (b : Blocks) (s t base items : List ℕ) (u v k word : ℕ) (o told : Option ℕ) (now : List ℕ)
    → r ≡ suc (r - 1) → u ≡ v → t ≡ s → k ≡ word → items ≡ base ++ word_bytes k → o ≡ told
    → IsShown items (found_by how t (nested_content_at (suc (r - 1)) b u)) o now
    → IsShown (base ++ word_bytes word) (found_by how s (nested_content_at r b v)) told now
below-shown how r b s t base items u v k word o told now bound child tail same pushed tells shown =
    subst (λ p. IsShown p (found_by how s (nested_content_at r b v)) told now) (pushed ∙ ap (λ n. base ++ word_bytes n) same)
    (subst (λ a. IsShown items (found_by how s (nested_content_at r b v)) a now) tells
    (subst (λ l. IsShown items l o now)
    (ap (λ m. found_by how t (nested_content_at m b u)) (sym bound) ∙ ap (λ z. found_by how t (nested_content_at r b z)) child
    ∙ ap (λ x. found_by how x (nested_content_at r b v)) tail) shown))
