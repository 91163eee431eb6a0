-- The greatest absent word is found.
use Rattle.std.proofs.Common.{◌≡◌, ◌≢◌, ℕ, suc, ◌+◌, ◌≤◌, Bool, true, false, cond, ◌&&◌, ◌||◌, [], ◌∷◌, ◌++◌, length}
use Rattle.std.proofs.Common.{length-append, reverse, refl, sym, ◌∙◌, ap, subst, arith, Option, Some, None, eqb-true}
use Rattle.std.proofs.lemmas.List.{reverse-append, length-reverse}
use Rattle.std.specs.Prelude.{zero, filter, nat_le, ◌==◌, is_some}
use Rattle.std.specs.Ordering.{nat_cmp, eq_by_cmp}
use Rattle.std.specs.FinMap.{find, nat_cmp-IsAntisymmetric}
use Rattle.std.specs.FinMap.Entries.{find-where_key}
use Rattle.std.proofs.lemmas.Bool.{eqb-false}
use Rattle.std.proofs.lemmas.List.Elements.{filter_agree, filter-append}
use Rattle.judy_model.specs.Contents.{Entries, IsRising, word_order, has_key, count}
use Rattle.judy_model.specs.Gaps.{IsLastEmpty, start_of_run, last_empty}
use Rattle.judy_model.proofs.lemmas.WordLemmas.{le-test, le-not}
use Rattle.judy_model.proofs.lemmas.GapLemmas.{AtLeast, AtMost, Rising, rising_of, rising_kept, filter_twice, eq-not, le_of}

-- each key is below x
abbrev Under : ℕ → Entries ℕ → Type 0
Under x [] = Unit {0}
Under x (e ∷ es) = (e.0 + 1 ≤ x) × Under x es

-- the keys fall
abbrev Falling : Entries ℕ → Type 0
Falling [] = Unit {0}
Falling (e ∷ es) = Under e.0 es × Falling es

-- an upper bound may be raised
under_more : (x y : ℕ) (es : Entries ℕ) → x ≤ y → Under x es → Under y es
under_more x y [] h k = tt
under_more x y (e ∷ es) h k = (omega (arith, k.0), under_more x y es h k.1)

-- a word above all keys is absent
absent_under : (x : ℕ) (es : Entries ℕ) → Under x es → has_key word_order es x ≡ false
absent_under x [] h = refl
absent_under x (e ∷ es) h = let other : eq_by_cmp nat_cmp x e.0 ≡ false = eq-not x e.0 (λ s. absurd (omega (arith, h.0, s))) in rw other (absent_under x es h.1)

-- no key is at least a word above all
none_from : (x : ℕ) (es : Entries ℕ) → Under x es → length (filter (λ p. nat_le x p.0) es) ≡ 0
none_from x [] h = refl
none_from x (e ∷ es) h = rw (le-not x e.0 (omega (arith, h.0))) (none_from x es h.1)

-- no key is below 0
nothing_under : (es : Entries ℕ) → Under 0 es → length es ≡ 0
nothing_under [] h = refl
nothing_under (e ∷ es) h = absurd (omega (arith, h.0))

-- where a run of keys x, x - 1, .. of a falling list ends
abbrev IsDown : ℕ → Entries ℕ → Option ℕ → Type 0
IsDown x es (Some n) = (n ≤ x) × (has_key word_order es n ≡ false) × (length (filter (λ p. nat_le n p.0) es) + n ≡ x)
IsDown x es None = length es ≡ x + 1

-- one more key above a run
down_more : (x : ℕ) (e : ℕ × ℕ) (es : Entries ℕ) (r : Option ℕ) → e.0 ≡ suc x → IsDown x es r → IsDown (suc x) (e ∷ es) r
down_more x e es (Some n) same (low, gone, many) =
    let other : eq_by_cmp nat_cmp n e.0 ≡ false = eq-not n e.0 (λ s. absurd (omega (arith, s, same, low))) in
    let passes : nat_le n e.0 ≡ true = le-test n e.0 (omega (arith, same, low)) in
    (omega (arith, low), rw other gone, rw passes (omega (arith, many)))
down_more x e es None same all = omega (arith, all)

-- a run downwards ends at the greatest absent word
down : (x : ℕ) (es : Entries ℕ) → Under (x + 1) es → Falling es → IsDown x es (start_of_run x es)
down x [] h k = (omega arith, refl, omega arith)
down zero (e ∷ es) h k = by (e.0 == zero) refl
  where
    by : (b : Bool) → (e.0 == zero) ≡ b → IsDown zero (e ∷ es) (start_of_run zero (e ∷ es))
    by true is = rw is (let same : e.0 ≡ 0 = eqb-true e.0 0 is in
        let none : length es ≡ 0 = nothing_under es (subst (λ y. Under y es) same k.0) in omega (arith, none))
    by false is = absurd (let over : e.0 ≢ 0 = eqb-false e.0 0 is in omega (arith, h.0, over))
down (suc x) (e ∷ es) h k = by (e.0 == suc x) refl (λ u. down x es u k.1)
  where
    by : (b : Bool) → (e.0 == suc x) ≡ b → (Under (x + 1) es → IsDown x es (start_of_run x es)) → IsDown (suc x) (e ∷ es) (start_of_run (suc x) (e ∷ es))
    by true is rest =
        let same : e.0 ≡ suc x = eqb-true e.0 (suc x) is in
        rw is (down_more x e es (start_of_run x es) same (rest (under_more e.0 (x + 1) es (omega (arith, same)) k.0)))
    by false is rest =
        let low : e.0 + 1 ≤ suc x = omega (arith, h.0, eqb-false e.0 (suc x) is) in
        let all : Under (suc x) (e ∷ es) = (low, under_more e.0 (suc x) es (omega (arith, low)) k.0) in
        rw is (omega arith, absent_under (suc x) (e ∷ es) all, omega (arith, none_from (suc x) (e ∷ es) all))

-- a reversed list holds the same keys, and decreases if the list increased
turned : (e : ℕ × ℕ) (es : Entries ℕ) → reverse (e ∷ es) ≡ reverse es ++ e ∷ []
turned e es = reverse-append (e ∷ []) es

-- a value found by a test or by the rest
or_is : {A : Type 0} (b : Bool) (v : A) (o : Option A) → is_some (cond b (Some v) o) ≡ (b || is_some o)
or_is true v o = refl
or_is false v o = refl

-- either order of two tests
or_swap : (a b : Bool) → (a || b) ≡ (b || a)
or_swap true true = refl
or_swap true false = refl
or_swap false true = refl
or_swap false false = refl

-- either grouping of three
or_again : (a b c : Bool) → (a || (b || c)) ≡ ((a || b) || c)
or_again true b c = refl
or_again false b c = refl

-- the keys with one more at the end
key_pushed : (es : Entries ℕ) (e : ℕ × ℕ) (n : ℕ) → has_key word_order (es ++ e ∷ []) n ≡ (has_key word_order es n || eq_by_cmp nat_cmp n e.0)
key_pushed [] e n = or_is (eq_by_cmp nat_cmp n e.0) e.1 None ∙ or_swap (eq_by_cmp nat_cmp n e.0) false
key_pushed (d ∷ es) e n =
    or_is (eq_by_cmp nat_cmp n d.0) d.1 (find nat_cmp n (es ++ e ∷ []))
    ∙ ap (λ b. eq_by_cmp nat_cmp n d.0 || b) (key_pushed es e n)
    ∙ or_again (eq_by_cmp nat_cmp n d.0) (has_key word_order es n) (eq_by_cmp nat_cmp n e.0)
    ∙ ap (λ b. b || eq_by_cmp nat_cmp n e.0) (sym (or_is (eq_by_cmp nat_cmp n d.0) d.1 (find nat_cmp n es)))

-- the same keys
keys_turned : (es : Entries ℕ) (n : ℕ) → has_key word_order (reverse es) n ≡ has_key word_order es n
keys_turned [] n = refl
keys_turned (e ∷ es) n =
    ap (λ l. has_key word_order l n) (turned e es) ∙ key_pushed (reverse es) e n
    ∙ ap (λ b. b || eq_by_cmp nat_cmp n e.0) (keys_turned es n) ∙ or_swap (has_key word_order es n) (eq_by_cmp nat_cmp n e.0)
    ∙ sym (or_is (eq_by_cmp nat_cmp n e.0) e.1 (find nat_cmp n es))

-- the same number of entries that pass
many_turned : (p : ℕ × ℕ → Bool) (es : Entries ℕ) → length (filter p (reverse es)) ≡ length (filter p es)
many_turned p [] = refl
many_turned p (e ∷ es) =
    ap (λ l. length (filter p l)) (turned e es) ∙ ap length (filter-append p (reverse es) (e ∷ []))
    ∙ length-append (filter p (reverse es)) (filter p (e ∷ [])) ∙ one (p e) (many_turned p es)
  where
    one : (b : Bool) → length (filter p (reverse es)) ≡ length (filter p es)
        → length (filter p (reverse es)) + length (cond b (e ∷ []) []) ≡ length (cond b (e ∷ filter p es) (filter p es))
    one true h = omega (arith, h)
    one false h = omega (arith, h)

-- a lower bound with one more at the end
at_least_pushed : (x : ℕ) (es : Entries ℕ) (e : ℕ × ℕ) → AtLeast x es → x ≤ e.0 → AtLeast x (es ++ e ∷ [])
at_least_pushed x [] e h k = (k, tt)
at_least_pushed x (d ∷ es) e h k = (h.0, at_least_pushed x es e h.1 k)

-- a lower bound
at_least_turned : (x : ℕ) (es : Entries ℕ) → AtLeast x es → AtLeast x (reverse es)
at_least_turned x [] h = tt
at_least_turned x (e ∷ es) h = subst (AtLeast x) (sym (turned e es)) (at_least_pushed x (reverse es) e (at_least_turned x es h.1) h.0)

-- an upper bound with one more at the end
under_pushed : (x : ℕ) (es : Entries ℕ) (e : ℕ × ℕ) → Under x es → e.0 + 1 ≤ x → Under x (es ++ e ∷ [])
under_pushed x [] e h k = (k, tt)
under_pushed x (d ∷ es) e h k = (h.0, under_pushed x es e h.1 k)

-- a lower key at the end of a list that falls
falls_pushed : (es : Entries ℕ) (e : ℕ × ℕ) → Falling es → AtLeast (e.0 + 1) es → Falling (es ++ e ∷ [])
falls_pushed [] e h k = (tt, tt)
falls_pushed (d ∷ es) e h k = (under_pushed d.0 es e h.0 k.0, falls_pushed es e h.1 k.1)

-- the reverse of an increasing list decreases
falls_turned : (es : Entries ℕ) → Rising es → Falling (reverse es)
falls_turned [] h = tt
falls_turned (e ∷ es) h = subst Falling (sym (turned e es)) (falls_pushed (reverse es) e (falls_turned es h.1) (at_least_turned (e.0 + 1) es h.0))

-- an upper bound
under_turned : (x : ℕ) (es : Entries ℕ) → AtMost x es → Under (x + 1) (reverse es)
under_turned x [] h = tt
under_turned x (e ∷ es) h = subst (Under (x + 1)) (sym (turned e es)) (under_pushed (x + 1) (reverse es) e (under_turned x es h.1) (omega (arith, h.0)))

-- the entries up to x
abbrev upto : ℕ → Entries ℕ → Entries ℕ
upto x l = filter (λ e. nat_le e.0 x) l

-- the entries up to x are up to x
at_most_self : (x : ℕ) (es : Entries ℕ) → AtMost x (upto x es)
at_most_self x [] = tt
at_most_self x (e ∷ es) = by (nat_le e.0 x) refl (at_most_self x es)
  where
    by : (b : Bool) → nat_le e.0 x ≡ b → AtMost x (upto x es) → AtMost x (upto x (e ∷ es))
    by true f h = rw f (le_of e.0 x f, h)
    by false f h = rw f h

-- looking up a key up to x among all entries equals looking it up among those up to x
same_key_upto : (l : Entries ℕ) (x n : ℕ) → n ≤ x → has_key word_order (upto x l) n ≡ has_key word_order l n
same_key_upto l x n h =
    let found : find nat_cmp n (upto x l) ≡ cond (nat_le n x) (find nat_cmp n l) None
    = find-where_key nat_cmp (λ k. nat_le k x) n (λ y e. ap (λ k. nat_le k x) (sym (nat_cmp-IsAntisymmetric n y e))) l in
    ap is_some (subst (λ b. find nat_cmp n (upto x l) ≡ cond b (find nat_cmp n l) None) (le-test n x h) found)

-- both orders of two tests
and_swap : (a b : Bool) → (a && b) ≡ (b && a)
and_swap true true = refl
and_swap true false = refl
and_swap false true = refl
and_swap false false = refl

-- keys from n to x are the keys from n on among those up to x
counted : (l : Entries ℕ) (n x : ℕ) → count l n x ≡ length (filter (λ e. nat_le n e.0) (upto x l))
counted l n x =
    ap length (filter_agree (λ e. nat_le n e.0 && nat_le e.0 x) (λ e. nat_le e.0 x && nat_le n e.0) (λ e. and_swap (nat_le n e.0) (nat_le e.0 x)) l)
    ∙ ap length (filter_twice (λ e. nat_le e.0 x) (λ e. nat_le n e.0) l)

-- a test that always holds keeps all
filter_all : (p : ℕ × ℕ → Bool) (es : Entries ℕ) → ((e : ℕ × ℕ) → p e ≡ true) → filter p es ≡ es
filter_all p [] h = refl
filter_all p (e ∷ es) h = rw (h e) (ap (λ z. e ∷ z) (filter_all p es h))

-- what is found among the entries up to x, reversed
found_back : (l : Entries ℕ) (x : ℕ) (r : Option ℕ) → IsDown x (reverse (upto x l)) r → IsLastEmpty l x r
found_back l x (Some n) (low, gone, many) =
    let same : has_key word_order (reverse (upto x l)) n ≡ has_key word_order l n
    = keys_turned (upto x l) n ∙ same_key_upto l x n low in
    let also : length (filter (λ e. nat_le n e.0) (reverse (upto x l))) ≡ count l n x
    = many_turned (λ e. nat_le n e.0) (upto x l) ∙ sym (counted l n x) in
    (low, sym same ∙ gone, omega (arith, also, many))
found_back l x None all =
    let passes : (y : ℕ) → nat_le 0 y ≡ true = λ y. le-test 0 y (omega arith) in
    let same : filter (λ e. nat_le 0 e.0) (upto x l) ≡ upto x l = filter_all (λ e. nat_le 0 e.0) (upto x l) (λ e. passes e.0) in
    counted l 0 x ∙ ap length same ∙ sym (length-reverse (upto x l)) ∙ all

-- the computed answer is the greatest absent word
pub last_empty-IsLastEmpty : (l : Entries ℕ) (x : ℕ) → IsRising word_order l → IsLastEmpty l x (last_empty l x)
last_empty-IsLastEmpty l x rising =
    found_back l x (last_empty l x)
    (down x (reverse (upto x l))
    (under_turned x (upto x l) (at_most_self x l))
    (falls_turned (upto x l) (rising_kept (λ e. nat_le e.0 x) l (rising_of l rising))))
