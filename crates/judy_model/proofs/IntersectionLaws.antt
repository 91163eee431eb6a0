-- The indexes that an intersection shows are all that both sets have below the word where the next call goes on,
-- and they are at most as many as were asked for. The next call goes on at a word behind that where this one began.
use Rattle.std.proofs.Common.{◌≡◌, ℕ, zero, suc, ◌+◌, ◌<◌, ◌≤◌, Bool, true, false, cond, ◌&&◌, List, [], ◌∷◌, ◌++◌, length, map}
use Rattle.std.proofs.Common.{Option, Some, None, is_some, refl, sym, ◌∙◌, ap, subst, arith, append_assoc, append-nil, eqb-true}
use Rattle.std.specs.Prelude.{filter, find, nat_le, nat_lt, ◌==◌, option_map, option_and_then, IsTrue}
use Rattle.std.specs.Fmt.{decimal}
use Rattle.std.specs.List.{list_all}
use Rattle.std.specs.Ordering.{eq_by_cmp}
use Rattle.std.specs.FinMap.Entries.{below_all}
use Rattle.std.proofs.lemmas.Bool.{eqb-false}
use Rattle.std.proofs.lemmas.Bool.Decides.{nat_tests}
use Rattle.std.proofs.lemmas.Fmt.{length-decimal-le}
use Rattle.judy_model.specs.declared.lists.TheConstants.{INTERSECTION_LIMIT, INTERSECTION_STEPS}
use Rattle.judy_model.specs.Contents.{Entries, IsRising, IsWordArray, word_order, max_word, value_of, has_key, first}
use Rattle.judy_model.specs.Walks.{index_words}
use Rattle.judy_model.specs.Intersections.{Intersection, IntersectionsAreExact, IsBehind, meet, behind, intersect_from, shared, below, index_texts}
use Rattle.judy_model.proofs.lemmas.EntryLemmas.{above, above_of, from_less, lt_of, same_word, tail, word_itself}
use Rattle.judy_model.proofs.lemmas.GapLemmas.{le_of}
use Rattle.judy_model.proofs.lemmas.TestLemmas.{and_left, and_right}
use Rattle.judy_model.proofs.lemmas.WordLemmas.{first-words, le-not, le-test, lt-not, lt-test}

-- ---- keys: what rising entries have, said word by word

-- the word is a key
abbrev IsKey : Entries ℕ → ℕ → Type 0
IsKey l k = has_key word_order l k ≡ true

-- a key is that of the first entry or one of the others
split : {P : Type 0} (e : ℕ × ℕ) (es : Entries ℕ) (k : ℕ) → IsKey (e ∷ es) k → (k ≡ e.0 → P) → (IsKey es k → P) → P
split {P} e es k has front rest = by (eq_by_cmp word_order k e.0) refl has
  where
    by : (b : Bool) → eq_by_cmp word_order k e.0 ≡ b → is_some (cond b (Some e.1) (value_of word_order es k)) ≡ true → P
    by true is h = front (same_word k e.0 is)
    by false is h = rest h

-- so both are keys
first_key : (e : ℕ × ℕ) (es : Entries ℕ) → IsKey (e ∷ es) e.0
first_key e es = ap (λ b. is_some (cond b (Some e.1) (value_of word_order es e.0))) (word_itself e.0)

other_key : (e : ℕ × ℕ) (es : Entries ℕ) (k : ℕ) → IsKey es k → IsKey (e ∷ es) k
other_key e es k has = by (eq_by_cmp word_order k e.0)
  where
    by : (b : Bool) → is_some (cond b (Some e.1) (value_of word_order es k)) ≡ true
    by true = refl
    by false = has

-- the others are above the first
rises : (e : ℕ × ℕ) (es : Entries ℕ) (k : ℕ) → IsRising word_order (e ∷ es) → IsKey es k → e.0 < k
rises e es k rising has = by (value_of word_order es k) refl has
  where
    by : (o : Option ℕ) → value_of word_order es k ≡ o → is_some o ≡ true → e.0 < k
    by None is h = cc
    by (Some v) is h = from_less e.0 k (above es e.0 k v (and_left (below_all word_order e.0 es) _ rising) is)

-- keys are words
is_word : (l : Entries ℕ) (k : ℕ) → IsTrue (list_all (λ e. nat_le e.0 max_word) l) → IsKey l k → k ≤ max_word
is_word [] k all has = cc
is_word (e ∷ es) k all has = split e es k has
    (λ same. omega (arith, same, le_of e.0 max_word (and_left (nat_le e.0 max_word) _ all)))
    (λ other. is_word es k (and_right (nat_le e.0 max_word) _ all) other)

-- a test that fails is the other order
not_lt : (a b : ℕ) → nat_lt a b ≡ false → b ≤ a
not_lt a b h = grind (arith, nat_tests)

-- ---- what a step finds: the least index of each set, and what lies before it

-- the entry has the least key from x on; None: there is no such key
abbrev IsLeast : Entries ℕ → ℕ → Option (ℕ × ℕ) → Type 0
IsLeast l x None = (k : ℕ) → IsKey l k → k < x
IsLeast l x (Some e) = (x ≤ e.0) × IsKey l e.0 × ((k : ℕ) → IsKey l k → x ≤ k → e.0 ≤ k)

least_found : (l : Entries ℕ) (x : ℕ) → IsRising word_order l → IsLeast l x (find (λ e. nat_le x e.0) l)
least_found [] x rising = λ k has. cc
least_found (e ∷ es) x rising = by (nat_le x e.0) refl (find (λ d. nat_le x d.0) es) (least_found es x (tail e es rising))
  where
    by : (b : Bool) → nat_le x e.0 ≡ b → (o : Option (ℕ × ℕ)) → IsLeast es x o → IsLeast (e ∷ es) x (cond b (Some e) o)
    by true is o rest = (
      le_of x e.0 is,
      first_key e es,
      λ k has from. split e es k has (λ same. omega (arith, same)) (λ other. omega (arith, rises e es k rising other)),
    )
    by false is None none = λ k has. split e es k has (λ same. omega (arith, same, above_of x e.0 is)) (λ other. none k other)
    by false is (Some d) (from, there, least) = (
      from,
      other_key e es d.0 there,
      λ k has at. split e es k has (λ same. absurd (omega (arith, same, at, above_of x e.0 is))) (λ other. least k other at),
    )

least : (l : Entries ℕ) (x : ℕ) → IsRising word_order l → IsLeast l x (first word_order l x)
least l x rising = subst (IsLeast l x) (sym (first-words l x)) (least_found l x rising)

-- what both sets have from x on is at least y
abbrev IsSkipped : Entries ℕ → Entries ℕ → ℕ → ℕ → Type 0
IsSkipped l m x y = (k : ℕ) → IsKey l k → IsKey m k → x ≤ k → y ≤ k

-- what the step at x finds is right
abbrev IsMet : Entries ℕ → Entries ℕ → ℕ → Option (ℕ × Bool) → Type 0
IsMet l m x None = (k : ℕ) → IsKey l k → IsKey m k → k < x
IsMet l m x (Some (y, false)) = (x < y) × IsKey m y × IsSkipped l m x y
IsMet l m x (Some (y, true)) = (x ≤ y) × IsKey l y × IsKey m y × IsSkipped l m x y

meets : (l m : Entries ℕ) (x : ℕ) → IsRising word_order l → IsRising word_order m → IsMet l m x (meet l m x)
meets l m x rising rising' = by (first word_order l x) (least l x rising)
  where
    same : (e f : ℕ × ℕ) → IsLeast l x (Some e) → IsLeast m e.0 (Some f) → (b : Bool) → (f.0 == e.0) ≡ b → IsMet l m x (Some (f.0, b))
    same e f (from, there, low) (from', there', low') true is =
        let equal : f.0 ≡ e.0 = eqb-true f.0 e.0 is in
        (omega arith, subst (IsKey l) (sym equal) there, there', λ k has has' at. low' k has' (low k has at))
    same e f (from, there, low) (from', there', low') false is =
        (omega (arith, eqb-false f.0 e.0 is), there', λ k has has' at. low' k has' (low k has at))

    second : (e : ℕ × ℕ) → IsLeast l x (Some e) → (o : Option (ℕ × ℕ)) → IsLeast m e.0 o → IsMet l m x (option_map (λ f. (f.0, f.0 == e.0)) o)
    second e (from, there, low) None none = λ k has has'. before k (nat_le x k) refl has (none k has')
      where
        before : (k : ℕ) (b : Bool) → nat_le x k ≡ b → IsKey l k → k < e.0 → k < x
        before k true is has under = absurd (omega (arith, under, low k has (le_of x k is)))
        before k false is has under = above_of x k is
    second e some (Some f) some' = same e f some some' (f.0 == e.0) refl

    by : (o : Option (ℕ × ℕ)) → IsLeast l x o → IsMet l m x (option_and_then (λ e. option_map (λ f. (f.0, f.0 == e.0)) (first word_order m e.0)) o)
    by None none = λ k has has'. none k has
    by (Some e) some = second e some (first word_order m e.0) (least m e.0 rising')

-- ---- the indexes that both sets have, from the word of one step and from that of the next

abbrev keys : Entries ℕ → List ℕ
keys l = map (λ e. e.0) l

-- tests that agree on the keys keep the same ones
agree : (p q : ℕ → Bool) (l : Entries ℕ) → ((k : ℕ) → IsKey l k → p k ≡ q k) → filter p (keys l) ≡ filter q (keys l)
agree p q [] same = refl
agree p q (e ∷ es) same =
    ap (λ b. cond b (e.0 ∷ filter p (keys es)) (filter p (keys es))) (same e.0 (first_key e es))
    ∙ ap (λ ks. cond (q e.0) (e.0 ∷ ks) ks) (agree p q es (λ k has. same k (other_key e es k has)))

nothing_kept : (ks : List ℕ) → filter (λ k. false) ks ≡ []
nothing_kept [] = refl
nothing_kept (k ∷ ks) = nothing_kept ks

-- the first of two tests may be another one where the second holds
either_test : (a b c : Bool) → (c ≡ true → a ≡ b) → (a && c) ≡ (b && c)
either_test a b true same = ap (λ t. t && true) (same refl)
either_test true true false same = refl
either_test true false false same = refl
either_test false true false same = refl
either_test false false false same = refl

-- a step that goes on at y leaves no index out
skip : (l m : Entries ℕ) (x y : ℕ) → x ≤ y → IsSkipped l m x y → shared l m x ≡ shared l m y
skip l m x y up skipped = agree (λ k. nat_le x k && has_key word_order m k) (λ k. nat_le y k && has_key word_order m k) l
    (λ k has. either_test (nat_le x k) (nat_le y k) (has_key word_order m k) (λ has'. by k has has' (nat_le x k) refl))
  where
    by : (k : ℕ) → IsKey l k → IsKey m k → (b : Bool) → nat_le x k ≡ b → b ≡ nat_le y k
    by k has has' true is = sym (le-test y k (skipped k has has' (le_of x k is)))
    by k has has' false is = sym (le-not y k (omega (arith, above_of x k is)))

-- a step that finds nothing leaves no index out
nothing : (l m : Entries ℕ) (x : ℕ) → IsMet l m x None → shared l m x ≡ []
nothing l m x none =
    agree (λ k. nat_le x k && has_key word_order m k) (λ k. false) l
    (λ k has. either_test (nat_le x k) false (has_key word_order m k) (λ has'. le-not x k (none k has has')))
    ∙ nothing_kept (keys l)

-- an index of both sets comes before those above it
present : (l m : Entries ℕ) (y : ℕ) → IsRising word_order l → IsKey l y → IsKey m y → shared l m y ≡ y ∷ shared l m (y + 1)
present [] m y rising has has' = cc
present (e ∷ es) m y rising has has' = split e es y has at (λ there. behind' there (present es m y (tail e es rising) there has'))
  where
    at : y ≡ e.0 → shared (e ∷ es) m y ≡ y ∷ shared (e ∷ es) m (y + 1)
    at same =
        let others : shared es m y ≡ shared es m (y + 1) =
        skip es m y (y + 1) (omega arith) (λ k there there' from. omega (arith, same, rises e es k rising there)) in
        let here : (nat_le y e.0 && has_key word_order m e.0) ≡ true = rw (← same) (rw (le-test y y (omega arith)) has') in
        let passed : nat_le (y + 1) e.0 ≡ false = le-not (y + 1) e.0 (omega (arith, same)) in
        ap (λ b. cond b (e.0 ∷ shared es m y) (shared es m y)) here
        ∙ ap (λ k. k ∷ shared es m y) (sym same)
        ∙ ap (λ ks. y ∷ ks) others
        ∙ sym (ap (λ b. y ∷ cond (b && has_key word_order m e.0) (e.0 ∷ shared es m (y + 1)) (shared es m (y + 1))) passed)

    behind' : IsKey es y → shared es m y ≡ y ∷ shared es m (y + 1) → shared (e ∷ es) m y ≡ y ∷ shared (e ∷ es) m (y + 1)
    behind' there rest =
        let under : e.0 < y = rises e es y rising there in
        let passed : nat_le (y + 1) e.0 ≡ false = le-not (y + 1) e.0 (omega (arith, under)) in
        ap (λ b. cond (b && has_key word_order m e.0) (e.0 ∷ shared es m y) (shared es m y)) (le-not y e.0 under)
        ∙ rest
        ∙ sym (ap (λ b. y ∷ cond (b && has_key word_order m e.0) (e.0 ∷ shared es m (y + 1)) (shared es m (y + 1))) passed)

-- ---- those below a word: what a call shows of the indexes that both sets have

-- the word is at least x, or there is none
abbrev IsFrom : ℕ → Option ℕ → Type 0
IsFrom x (Some y) = (x ≤ y) × (y ≤ max_word)
IsFrom x None = Unit {0}

-- from x on there is none below x
below_itself : (l m : Entries ℕ) (x : ℕ) → below (Some x) (shared l m x) ≡ []
below_itself [] m x = refl
below_itself (e ∷ es) m x = by (nat_le x e.0) refl (has_key word_order m e.0) (below_itself es m x)
  where
    by : (a : Bool) → nat_le x e.0 ≡ a → (b : Bool) → below (Some x) (shared es m x) ≡ []
        → below (Some x) (cond (a && b) (e.0 ∷ shared es m x) (shared es m x)) ≡ []
    by true is true rest =
        ap (λ b. cond b (e.0 ∷ below (Some x) (shared es m x)) (below (Some x) (shared es m x))) (lt-not e.0 x (le_of x e.0 is)) ∙ rest
    by true is false rest = rest
    by false is b rest = rest

-- an index below the word is the first of them
below_more : (o : Option ℕ) (y : ℕ) (ks : List ℕ) → IsFrom (y + 1) o → below o (y ∷ ks) ≡ y ∷ below o ks
below_more None y ks from = refl
below_more (Some z) y ks from = ap (λ b. cond b (y ∷ below (Some z) ks) (below (Some z) ks)) (lt-test y z (omega (arith, from.0)))

-- ---- the steps: from the last one to the first, each intersection is right

-- the intersection from x on adds to the count and the text what both sets have, and goes on at x or behind it
record IsExact (l m : Entries ℕ) (x count : ℕ) (text : List ℕ) (r : Intersection) : Type 0 where
  many : r.count ≡ count + length (below r.next (shared l m x))
  shown : r.text ≡ text ++ index_texts (below r.next (shared l m x))
  onward : IsFrom x r.next

module _ (l m : Entries ℕ) (words : IsWordArray l) (words' : IsWordArray m) where
  -- no more is shown: the next call goes on at y, or there is none
  stopped : (x y count : ℕ) (text : List ℕ) → x ≤ y → y ≤ max_word → IsSkipped l m x y
      → IsExact l m x count text (record { next = Some y; count = count; text = text })
  stopped x y count text up small skipped =
      let none : below (Some y) (shared l m x) ≡ [] = ap (below (Some y)) (skip l m x y up skipped) ∙ below_itself l m y in record {
        many = rw none (omega arith);
        shown = rw none (sym (append-nil text));
        onward = (up, small);
      }

  ended : (x count : ℕ) (text : List ℕ) → IsMet l m x None → IsExact l m x count text (record { next = None; count = count; text = text })
  ended x count text none = record {
    many = rw (nothing l m x none) (omega arith);
    shown = rw (nothing l m x none) (sym (append-nil text));
    onward = tt;
  }

  -- a word is skipped, or its index is shown
  skips : (x y count : ℕ) (text : List ℕ) (r : Intersection) → x ≤ y → IsSkipped l m x y → IsExact l m y count text r → IsExact l m x count text r
  skips x y count text r up skipped rest = record {
    many = rw (skip l m x y up skipped) rest.many;
    shown = rw (skip l m x y up skipped) rest.shown;
    onward = by r.next rest.onward;
  }
    where
      by : (o : Option ℕ) → IsFrom y o → IsFrom x o
      by None from = tt
      by (Some z) (from, small) = (omega arith, small)

  shows : (y count : ℕ) (text : List ℕ) (r : Intersection) → IsKey l y → IsKey m y → IsExact l m (y + 1) (count + 1) (text ++ index_words y) r
      → IsExact l m y count text r
  shows y count text r has has' rest =
      let more : below r.next (shared l m y) ≡ y ∷ below r.next (shared l m (y + 1)) =
      ap (below r.next) (present l m y words.0 has has') ∙ below_more r.next y (shared l m (y + 1)) rest.onward in record {
        many = rw more (omega (arith, rest.many));
        shown = rw more (rest.shown ∙ append_assoc text (index_words y) (index_texts (below r.next (shared l m (y + 1)))));
        onward = by r.next rest.onward;
      }
    where
      by : (o : Option ℕ) → IsFrom (y + 1) o → IsFrom y o
      by None from = tt
      by (Some z) (from, small) = (omega arith, small)

  -- there is nothing behind the greatest word
  no_more : (steps n count : ℕ) (text : List ℕ) → intersect_from l m steps n count text None None ≡ record { next = None; count = count; text = text }
  no_more zero n count text = refl
  no_more (suc steps) zero count text = refl
  no_more (suc steps) (suc n) count text = refl

  -- what comes behind an index y that is shown
  goes_on : (steps n y count : ℕ) (text : List ℕ) (b : Bool) → nat_lt y max_word ≡ b
      → (y + 1 ≤ max_word → IsExact l m (y + 1) count text (intersect_from l m steps n count text (Some (y + 1)) (meet l m (y + 1))))
      → IsExact l m (y + 1) count text (intersect_from l m steps n count text (cond b (Some (y + 1)) None)
      (option_and_then (λ z. meet l m z) (cond b (Some (y + 1)) None)))
  goes_on steps n y count text true is rest = rest (omega (arith, lt_of y max_word is))
  goes_on steps n y count text false is rest = subst (IsExact l m (y + 1) count text) (sym (no_more steps n count text)) (ended (y + 1) count text
      (λ k has has'. omega (arith, is_word l k words.1 has, not_lt y max_word is)))

  -- any number of steps
  exact : (steps n count x : ℕ) (text : List ℕ) (met : Option (ℕ × Bool)) → x ≤ max_word → IsMet l m x met
      → IsExact l m x count text (intersect_from l m steps n count text (Some x) met)
  exact zero n count x text met small right = stopped x x count text (omega arith) small (λ k has has' from. from)
  exact (suc steps) zero count x text met small right = stopped x x count text (omega arith) small (λ k has has' from. from)
  exact (suc steps) (suc n) count x text None small none = ended x count text none
  exact (suc steps) (suc n) count x text (Some (y, false)) small (up, has', skipped) =
      skips x y count text _ (omega arith) skipped
      (exact steps (suc n) count y text (meet l m y) (is_word m y words'.1 has') (meets l m y words.0 words'.0))
  exact (suc steps) (suc n) count x text (Some (y, true)) small (up, has, has', skipped) =
      by (nat_le (length text + length (index_words y)) INTERSECTION_LIMIT)
      (λ word. exact steps n (count + 1) (y + 1) (text ++ index_words y) (meet l m (y + 1)) word (meets l m (y + 1) words.0 words'.0))
    where
      by : (b : Bool)
          → (y + 1 ≤ max_word → IsExact l m (y + 1) (count + 1) (text ++ index_words y)
          (intersect_from l m steps n (count + 1) (text ++ index_words y) (Some (y + 1)) (meet l m (y + 1))))
          → IsExact l m x count text (cond b (intersect_from l m steps n (count + 1) (text ++ index_words y) (behind y)
          (option_and_then (λ z. meet l m z) (behind y))) (record { next = Some y; count = count; text = text }))
      by true rest = skips x y count text _ up skipped
          (shows y count text _ has has' (goes_on steps n y (count + 1) (text ++ index_words y) (nat_lt y max_word) refl rest))
      by false rest = stopped x y count text up (is_word l y words.1 has) skipped

  -- ---- the next call: the first step takes it behind x

  above_it : (x y : ℕ) (o : Option ℕ) → x < y → IsFrom y o → IsBehind x o
  above_it x y None less from = tt
  above_it x y (Some z) less (from, small) = (omega arith, small)

  -- the first index fits
  one_fits : (y : ℕ) → IsKey l y → nat_le (0 + length (index_words y)) INTERSECTION_LIMIT ≡ true
  one_fits y has =
      let small : y ≤ max_word = is_word l y words.1 has in
      let short : length (decimal y) ≤ 20 = length-decimal-le 20 y (omega arith) (omega (arith, small)) (omega (arith, small)) in
      le-test (0 + length (index_words y)) INTERSECTION_LIMIT (omega (arith, short))

  -- with at least one step and one index
  goes_behind : (steps n x : ℕ) (met : Option (ℕ × Bool)) → IsMet l m x met
      → IsBehind x (intersect_from l m (suc steps) (suc n) 0 [] (Some x) met).next
  goes_behind steps n x None none = tt
  goes_behind steps n x (Some (y, false)) (up, has', skipped) =
      above_it x y _ up (exact steps (suc n) 0 y [] (meet l m y) (is_word m y words'.1 has') (meets l m y words.0 words'.0)).onward
  goes_behind steps n x (Some (y, true)) (up, has, has', skipped) =
      rw (one_fits y has) (above_it x (y + 1) _ (omega arith)
      (goes_on steps n y 1 (index_words y) (nat_lt y max_word) refl
      (λ word. exact steps n 1 (y + 1) (index_words y) (meet l m (y + 1)) word (meets l m (y + 1) words.0 words'.0))).onward)

  -- at most n indexes are shown
  few : (steps n count : ℕ) (text : List ℕ) (x : Option ℕ) (met : Option (ℕ × Bool)) → (intersect_from l m steps n count text x met).count ≤ count + n
  few zero n count text x met = omega arith
  few (suc steps) zero count text x met = omega arith
  few (suc steps) (suc n) count text x None = omega arith
  few (suc steps) (suc n) count text x (Some (y, false)) = few steps (suc n) count text (Some y) (meet l m y)
  few (suc steps) (suc n) count text x (Some (y, true)) =
      by (nat_le (length text + length (index_words y)) INTERSECTION_LIMIT) _
      (few steps n (count + 1) (text ++ index_words y) (behind y) (option_and_then (λ z. meet l m z) (behind y)))
    where
      by : (b : Bool) (r : Intersection) → r.count ≤ count + 1 + n
          → (cond b r (record { next = Some y; count = count; text = text })).count ≤ count + suc n
      by true r rest = omega (arith, rest)
      by false r rest = omega arith

  -- the law, for any number of steps
  whole : (steps n x : ℕ) → x ≤ max_word → 0 < steps → 0 < n
      → let r = intersect_from l m steps n 0 [] (Some x) (meet l m x) in let found = below r.next (shared l m x) in
      (r.count ≡ length found) × (r.count ≤ n) × (r.text ≡ index_texts found) × IsBehind x r.next
  whole zero n x small made some = absurd (omega arith)
  whole (suc steps) zero x small made some = absurd (omega arith)
  whole (suc steps) (suc n) x small made some =
      let right : IsMet l m x (meet l m x) = meets l m x words.0 words'.0 in
      let all = exact (suc steps) (suc n) 0 x [] (meet l m x) small right in
      let most = few (suc steps) (suc n) 0 [] (Some x) (meet l m x) in
      (omega (arith, all.many), omega (arith, most), all.shown, goes_behind steps n x (meet l m x) right)

pub intersections_are_exact : IntersectionsAreExact
intersections_are_exact l m x n words words' small some =
    whole l m words words' INTERSECTION_STEPS n x (le_of x max_word small) (omega arith) (lt_of 0 n some)
