-- The least key that passes a test and has a place.
--     only-least       two answers that are least of the same places are equal
--     least-same       an answer stays least if the places at the keys that pass stay
--     lesser-least     the lesser of two answers is least of both
--     place-least      what `place_on` says is least
--     recent-least     the name used last changes the place alone
--     list-takes       one entry more, in a list
use Rattle.std.proofs.Common.{◌≡◌, ℕ, ◌+◌, ◌<◌, Bool, true, false, cond, List, [], ◌∷◌, ◌++◌, length, take, get_or}
use Rattle.std.proofs.Common.{Option, Some, None, is_some, IsTrue, ap, ap₂, sym, ◌∙◌, refl, subst, filter}
use Rattle.std.proofs.lemmas.Bool.{false≢true}
use Rattle.std.proofs.lemmas.List.{take_more}
use Rattle.std.proofs.lemmas.Option.{none-some}
use Rattle.std.specs.Prelude.{unwrap_or}
use Rattle.std.specs.Option.{option_or}
use Rattle.std.specs.Cmp.{tied_itself, upto}
use Rattle.std.specs.declared.cmp.Ordering.{Ordering}
use Rattle.std.specs.declared.cmp.Ordering.TheVariants.{Less, Equal, Greater}
use Rattle.std.specs.Ordering.{eq_by_cmp, is_gt, is_lt, ordering_reverse}
use Rattle.std.specs.FinMap.{FinMap, get, find, is_sorted, entries, entries_sorted, get-entries}
use Rattle.std.specs.FinMap.Entries.{below_all}
use Rattle.judy_model.specs.Contents.{string_order, head_of}
use Rattle.judy_model.proofs.lemmas.EntryLemmas.{same_string, string_is}
use Rattle.judy_model.proofs.lemmas.FormLemmas.{names_apart}
use Rattle.judy_model.proofs.lemmas.TestLemmas.{and_left, and_right, from_T}
use Rattle.judy_directory.specs.declared.recent.Recent.{Recent}
use Rattle.judy_directory.specs.Order.{is_on, place_on, lesser, IsLeast}
use Rattle.judy_directory.specs.Places.{Stand}
use Rattle.judy_directory.specs.Recent.{recent_at, with_recent, has_recent}
use Rattle.judy_directory.specs.Rooms.{alike, look_up}
use Rattle.judy_directory.proofs.Listed.{alike-tied}
use Rattle.judy_directory.proofs.RecentPlaces.{none_of, get-recent, same-keys}
use Rattle.judy_directory.proofs.Rooms.{one, or_none, look-append}
use Rattle.judy_directory.proofs.lemmas.Changes.{total}

-- ---- the order of keys

not_greater : (r : Ordering) → is_lt r ≡ true → is_gt r ≡ false
not_greater Less h = refl
not_greater Equal h = refl
not_greater Greater h = absurd (false≢true h)

less_back : (r : Ordering) → is_gt r ≡ true → is_gt (ordering_reverse r) ≡ false
less_back Less h = absurd (false≢true h)
less_back Equal h = absurd (false≢true h)
less_back Greater h = refl

-- two keys of which neither is greater are equal
same_key : (a b : List ℕ) → is_gt (string_order a b) ≡ false → is_gt (string_order b a) ≡ false → a ≡ b
same_key a b h g = by (string_order a b) refl h
  where
    by : (r : Ordering) → string_order a b ≡ r → is_gt r ≡ false → a ≡ b
    by Less e i = absurd (false≢true (sym g ∙ ap is_gt (total.antisymm b a ∙ ap ordering_reverse e)))
    by Equal e i = names_apart a b e
    by Greater e i = absurd (false≢true (sym i))

-- a key is not greater than itself
itself_not : (k q : List ℕ) → q ≡ k → is_gt (string_order k q) ≡ false
itself_not k q e = ap (λ x. is_gt (string_order k x)) e ∙ ap is_gt (tied_itself total k)

-- ---- answers that are least

module _ (test : List ℕ → Bool) where
  -- an answer stays least if the places at the keys that pass stay
  pub least-same : (f g : List ℕ → Option Stand) → ((q : List ℕ) → test q ≡ true → g q ≡ f q) → (o : Option (List ℕ × Stand))
      → IsLeast test f o → IsLeast test g o
  least-same f g h None s = λ q t. h q t ∙ s q t
  least-same f g h (Some a) s = (s.0, h a.0 s.0 ∙ s.1, λ q t i. s.2 q t (ap is_some (sym (h q t)) ∙ i))

  -- two answers that are least of the same places are equal
  pub only-least : (f : List ℕ → Option Stand) (a b : Option (List ℕ × Stand)) → IsLeast test f a → IsLeast test f b → a ≡ b
  only-least f None None s t = refl
  only-least f None (Some b) s t = absurd (none-some b.1 (sym (s b.0 t.0) ∙ t.1))
  only-least f (Some a) None s t = absurd (none-some a.1 (sym (t a.0 s.0) ∙ s.1))
  only-least f (Some a) (Some b) s t =
      let key : a.0 ≡ b.0 = same_key a.0 b.0 (s.2 b.0 t.0 (ap is_some t.1)) (t.2 a.0 s.0 (ap is_some s.1)) in
      let place : Some a.1 ≡ Some b.1 = sym s.1 ∙ ap f key ∙ t.1 in
      ap₂ (λ (k : List ℕ) (p : Stand). Some (k, p)) key (ap (λ o. unwrap_or o a.1) place)

  module _ (f g : List ℕ → Option Stand) where
    -- a key of both that passes is not less than one that is not greater than the keys of either
    both_from : (k : List ℕ) → ((q : List ℕ) → test q ≡ true → is_some (f q) ≡ true → is_gt (string_order k q) ≡ false)
        → ((q : List ℕ) → test q ≡ true → is_some (g q) ≡ true → is_gt (string_order k q) ≡ false)
        → (q : List ℕ) → test q ≡ true → is_some (option_or (f q) (g q)) ≡ true → is_gt (string_order k q) ≡ false
    both_from k s t q p = by (f q) refl
      where
        by : (o : Option Stand) → f q ≡ o → is_some (option_or o (g q)) ≡ true → is_gt (string_order k q) ≡ false
        by None e i = t q p i
        by (Some x) e i = s q p (ap is_some e)

    -- the lesser of two answers is least of both
    pub lesser-least : (a b : Option (List ℕ × Stand)) → IsLeast test f a → IsLeast test g b → IsLeast test (λ q. option_or (f q) (g q)) (lesser a b)
    lesser-least None b s t = least-same g (λ q. option_or (f q) (g q)) (λ q p. ap (λ o. option_or o (g q)) (s q p)) b t
    lesser-least (Some a) None s t = least-same f (λ q. option_or (f q) (g q)) (λ q p. ap (option_or (f q)) (t q p) ∙ or_none (f q)) (Some a) s
    lesser-least (Some a) (Some b) s t = by (is_gt (string_order a.0 b.0)) refl
      where
        absent : is_gt (string_order a.0 b.0) ≡ true → (o : Option Stand) → f b.0 ≡ o → o ≡ None
        absent e None i = refl
        absent e (Some x) i = absurd (false≢true (sym (s.2 b.0 t.0 (ap is_some i)) ∙ e))

        by : (c : Bool) → is_gt (string_order a.0 b.0) ≡ c → IsLeast test (λ q. option_or (f q) (g q)) (cond c (Some b) (Some a))
        by true e =
            let less : is_gt (string_order b.0 a.0) ≡ false = ap is_gt (total.antisymm b.0 a.0) ∙ less_back (string_order a.0 b.0) e in (
              t.0,
              ap (λ o. option_or o (g b.0)) (absent e (f b.0) refl) ∙ t.1,
              both_from b.0 (λ q p i. upto total b.0 a.0 q less (s.2 q p i)) t.2,
            )
        by false e = (
          s.0,
          ap (λ o. option_or o (g a.0)) s.1,
          both_from a.0 s.2 (λ q p i. upto total a.0 b.0 q e (t.2 q p i)),
        )

  -- ---- entries in order

  -- the keys behind the first one of sorted entries are not less
  behind : (es : List (List ℕ × Stand)) (x q : List ℕ) → below_all string_order x es ≡ true → is_some (find string_order q es) ≡ true
      → is_gt (string_order x q) ≡ false
  behind [] x q h f = absurd (false≢true f)
  behind (e ∷ es) x q h f = by (eq_by_cmp string_order q e.0) refl f (behind es x q (and_right (is_lt (string_order x e.0)) _ h))
    where
      by : (b : Bool) → eq_by_cmp string_order q e.0 ≡ b → is_some (cond b (Some e.1) (find string_order q es)) ≡ true
          → (is_some (find string_order q es) ≡ true → is_gt (string_order x q) ≡ false) → is_gt (string_order x q) ≡ false
      by true i g rest =
          ap (λ k. is_gt (string_order x k)) (same_string q e.0 i) ∙ not_greater (string_order x e.0) (and_left (is_lt (string_order x e.0)) _ h)
      by false i g rest = rest g

  -- the first entry that passes is least
  head-least : (es : List (List ℕ × Stand)) → is_sorted string_order es ≡ true
      → IsLeast test (λ q. find string_order q es) (head_of (filter (λ e. test e.0) es))
  head-least [] h = λ q t. refl
  head-least (e ∷ es) h = by (test e.0) refl (head-least es (and_right (below_all string_order e.0 es) _ h))
    where
      least : (q : List ℕ) (b : Bool) → eq_by_cmp string_order q e.0 ≡ b → is_some (cond b (Some e.1) (find string_order q es)) ≡ true
          → is_gt (string_order e.0 q) ≡ false
      least q true i g = itself_not e.0 q (same_string q e.0 i)
      least q false i g = behind es e.0 q (and_left (below_all string_order e.0 es) _ h) g

      other : test e.0 ≡ false → (q : List ℕ) → test q ≡ true → (b : Bool) → eq_by_cmp string_order q e.0 ≡ b
          → cond b (Some e.1) (find string_order q es) ≡ find string_order q es
      other n q t true i = absurd (false≢true (sym n ∙ ap test (sym (same_string q e.0 i)) ∙ t))
      other n q t false i = refl

      by : (b : Bool) → test e.0 ≡ b → IsLeast test (λ q. find string_order q es) (head_of (filter (λ x. test x.0) es))
          → IsLeast test (λ q. find string_order q (e ∷ es)) (head_of (cond b (e ∷ filter (λ x. test x.0) es) (filter (λ x. test x.0) es)))
      by true is rest = (
        is,
        ap (λ b. cond b (Some e.1) (find string_order e.0 es)) (string_is e.0 e.0 refl),
        λ q t g. least q (eq_by_cmp string_order q e.0) refl g,
      )
      by false is rest =
          least-same (λ q. find string_order q es) (λ q. find string_order q (e ∷ es)) (λ q t. other is q t (eq_by_cmp string_order q e.0) refl)
          (head_of (filter (λ x. test x.0) es)) rest

  -- ---- one entry more

  -- the answer of one entry
  entry-none : (e : List ℕ × Stand) → test e.0 ≡ false → (q : List ℕ) → test q ≡ true → look_up q (e ∷ []) ≡ None
  entry-none e n q t = by (alike q e.0) refl
    where
      by : (b : Bool) → alike q e.0 ≡ b → cond b (Some e.1) None ≡ None
      by true i = absurd (false≢true (sym n ∙ ap test (sym (one q e.0 i)) ∙ t))
      by false i = refl

  entry-least : (e : List ℕ × Stand) → test e.0 ≡ true → IsLeast test (λ q. look_up q (e ∷ [])) (Some e)
  entry-least e t = (
    t,
    ap (λ b. cond b (Some e.1) None) (alike-tied e.0 e.0 ∙ string_is e.0 e.0 refl),
    λ q p g. by q (alike q e.0) refl g,
  )
    where
      by : (q : List ℕ) (b : Bool) → alike q e.0 ≡ b → is_some (cond b (Some e.1) None) ≡ true → is_gt (string_order e.0 q) ≡ false
      by q true i g = itself_not e.0 q (one q e.0 i)
      by q false i g = absurd (false≢true g)

  module _ (es : List (List ℕ × Stand)) (i : ℕ) (e : List ℕ × Stand) (l : i < length es) (g : get_or es i e ≡ e) (o : Option (List ℕ × Stand))
      (s : IsLeast test (λ q. look_up q (take i es)) o) where
    look-more : (q : List ℕ) → look_up q (take (i + 1) es) ≡ option_or (look_up q (take i es)) (look_up q (e ∷ []))
    look-more q = ap (look_up q) (take_more es i e l ∙ ap (λ x. take i es ++ x ∷ []) g) ∙ look-append q (take i es) (e ∷ [])

    -- the next entry passes
    pub list-takes : test e.0 ≡ true → IsLeast test (λ q. look_up q (take (i + 1) es)) (lesser o (Some e))
    list-takes t =
        least-same (λ q. option_or (look_up q (take i es)) (look_up q (e ∷ []))) (λ q. look_up q (take (i + 1) es)) (λ q p. look-more q) (lesser o (Some e))
        (lesser-least (λ q. look_up q (take i es)) (λ q. look_up q (e ∷ [])) o (Some e) s (entry-least e t))

    -- the next entry does not pass
    pub list-leaves : test e.0 ≡ false → IsLeast test (λ q. look_up q (take (i + 1) es)) o
    list-leaves n =
        least-same (λ q. look_up q (take i es)) (λ q. look_up q (take (i + 1) es))
        (λ q p. look-more q ∙ ap (option_or (look_up q (take i es))) (entry-none e n q p) ∙ or_none (look_up q (take i es))) o s

-- ---- the map

or_some : {A : Type 0} (o : Option A) (x : A) → option_or o (Some x) ≡ Some (unwrap_or o x)
or_some None x = refl
or_some (Some y) x = refl

module _ (itself : Bool) (start : List ℕ) where
  -- what `place_on` says is least
  pub place-least : (m : FinMap string_order Stand) → IsLeast (is_on itself start) (get m) (place_on itself m start)
  place-least m =
      least-same (is_on itself start) (λ q. find string_order q (entries m)) (get m) (λ q t. get-entries m q) (place_on itself m start)
      (head-least (is_on itself start) (entries m) (from_T (is_sorted string_order (entries m)) (entries_sorted m)))

  -- the least answer is what `place_on` says
  pub least-place : (m : FinMap string_order Stand) (o : Option (List ℕ × Stand)) → IsLeast (is_on itself start) (get m) o → o ≡ place_on itself m start
  least-place m o s = only-least (is_on itself start) (get m) o (place_on itself m start) s (place-least m)

  module _ (r : Option Recent) (m : FinMap string_order Stand) (h : IsTrue (has_recent r m)) where
    -- the name used last changes the place alone
    pub recent-least : (e : List ℕ × Stand) → place_on itself m start ≡ Some e
        → Some (e.0, unwrap_or (recent_at r e.0) e.1) ≡ place_on itself (with_recent r m) start
    recent-least e is =
        let s : IsLeast (is_on itself start) (get m) (Some e) = subst (IsLeast (is_on itself start) (get m)) is (place-least m) in
        let found : get (with_recent r m) e.0 ≡ Some (unwrap_or (recent_at r e.0) e.1)
        = get-recent r m e.0 ∙ ap (option_or (recent_at r e.0)) s.1 ∙ or_some (recent_at r e.0) e.1 in
        least-place (with_recent r m) (Some (e.0, unwrap_or (recent_at r e.0) e.1)) (s.0, found, λ q t i. s.2 q t (same-keys r m q h ∙ i))

    -- no name is least with it, either
    pub recent-none : place_on itself m start ≡ None → None ≡ place_on itself (with_recent r m) start
    recent-none is =
        let s : IsLeast (is_on itself start) (get m) None = subst (IsLeast (is_on itself start) (get m)) is (place-least m) in
        least-place (with_recent r m) None (λ q t. none_of (get (with_recent r m) q) (sym (same-keys r m q h) ∙ ap is_some (s q t)))
