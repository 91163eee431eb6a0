-- Joins over children: what is found in one, that it is sorted, and how it splits at a byte.
use Rattle.std.proofs.Common.{◌≡◌, ◌≢◌, ℕ, ◌+◌, ◌<◌, ◌≤◌, Bool, true, false, cond, not, ◌||◌, ◌==◌, nat_lt, List, [], ◌∷◌, ◌++◌}
use Rattle.std.proofs.Common.{length, Option, Some, None, unwrap_or, ap, sym, ◌∙◌, refl, subst, arith, length-append}
use Rattle.std.proofs.lemmas.Bool.Decides.{nat_tests}
use Rattle.std.specs.declared.cmp.Ordering.TheVariants.{Less, Equal, Greater}
use Rattle.std.specs.Ordering.{nat_cmp, eq_by_cmp, is_eq, is_lt}
use Rattle.std.specs.Cmp.{nat_cmp_total}
use Rattle.std.specs.FinMap.{is_sorted, nat_cmp-IsAntisymmetric}
use Rattle.std.specs.FinMap.Entries.{by_order, below_all, find-where_key, same_entries, is_sorted-put, is_sorted-where_key}
use Rattle.std.proofs.lemmas.Bool.{false≢true as not_true, and_from}
use Rattle.std.proofs.lemmas.Option.{none-some}
use Rattle.judy_arena.specs.Frame.{holds}
use Rattle.judy_arena.specs.Totals.{are_distinct}
use Rattle.judy_model.specs.Contents.{Entries, word_order, value_of, with_entry, without_key, string_order}
use Rattle.judy_model.proofs.lemmas.TestLemmas.{and_right, and_left, from_T, to_T, is_Less}
use Rattle.judy_model.proofs.lemmas.EntryLemmas.{same_word, word_itself, same_string}
use Rattle.judy_tree.specs.Each.{Each}
use Rattle.judy_tree.specs.Nodes.{joined}

-- ---- words

pub less_is : (a b : ℕ) → is_lt (word_order a b) ≡ true → a < b
less_is a b h = grind (arith, nat_tests)

pub is_less : (a b : ℕ) → a < b → is_lt (word_order a b) ≡ true
is_less a b h = grind (arith, nat_tests)

pub word_is : (a b : ℕ) → a ≡ b → eq_by_cmp word_order a b ≡ true
word_is a b e = ap (eq_by_cmp word_order a) (sym e) ∙ word_itself a

pub word_other : (a b : ℕ) → a ≢ b → eq_by_cmp word_order a b ≡ false
word_other a b h = elim (eq_by_cmp word_order a b) as (λ t. eq_by_cmp word_order a b ≡ t → t ≡ false)
    [ true ↦ λ e. absurd (h (same_word a b e)) | false ↦ λ e. refl ] refl

pub other_word : (a b : ℕ) → eq_by_cmp word_order a b ≡ false → a ≢ b
other_word a b h e = not_true (sym h ∙ word_is a b e)

pub string_other : (a b : List ℕ) → a ≢ b → eq_by_cmp string_order a b ≡ false
string_other a b h = elim (eq_by_cmp string_order a b) as (λ t. eq_by_cmp string_order a b ≡ t → t ≡ false)
    [ true ↦ λ e. absurd (h (same_string a b e)) | false ↦ λ e. refl ] refl

-- ---- a fact of each item

pub each-weaker : {A : Type 0} (P Q : A → Type 0) (l : List A) → ((x : A) → P x → Q x) → Each P l → Each Q l
each-weaker P Q [] f h = tt
each-weaker P Q (x ∷ l) f h = (f x h.0, each-weaker P Q l f h.1)

pub each-both : {A : Type 0} (P Q R : A → Type 0) (l : List A) → ((x : A) → P x → Q x → R x) → Each P l → Each Q l → Each R l
each-both P Q R [] f h k = tt
each-both P Q R (x ∷ l) f h k = (f x h.0 k.0, each-both P Q R l f h.1 k.1)

pub each-append : {A : Type 0} (P : A → Type 0) (xs ys : List A) → Each P xs → Each P ys → Each P (xs ++ ys)
each-append P [] ys a b = b
each-append P (x ∷ xs) ys a b = (a.0, each-append P xs ys a.1 b)

pub each-put : (P : ℕ × ℕ → Type 0) (k x : ℕ) (l : Entries ℕ) → ((y : ℕ) → y ≡ k → P (y, x)) → Each P l → Each P (with_entry word_order l k x)
each-put P k x [] p h = (p k refl, tt)
each-put P k x (e ∷ l) p h =
    elim (nat_cmp k e.0) as (λ o. nat_cmp k e.0 ≡ o → Each P (by_order o ((k, x) ∷ e ∷ l) ((e.0, x) ∷ l) (e ∷ with_entry word_order l k x))) [
      | Less ↦ λ o. (p k refl, h)
      | Equal ↦ λ o. (p e.0 (sym (nat_cmp-IsAntisymmetric k e.0 o)), h.1)
      | Greater ↦ λ o. (h.0, each-put P k x l p h.1)
    ] refl

pub each-without : (P : ℕ × ℕ → Type 0) (k : ℕ) (l : Entries ℕ) → Each P l → Each P (without_key word_order l k)
each-without P k [] h = tt
each-without P k (e ∷ l) h = elim (eq_by_cmp word_order k e.0) as
    (λ t. Each P (cond (not t) (e ∷ without_key word_order l k) (without_key word_order l k)))
    [ true ↦ each-without P k l h.1 | false ↦ (h.0, each-without P k l h.1) ]

pub each-found : (P : ℕ × ℕ → Type 0) (k x : ℕ) (l : Entries ℕ) → Each P l → value_of word_order l k ≡ Some x → P (k, x)
each-found P k x [] h = λ e. absurd (none-some x e)
each-found P k x (d ∷ l) h =
    elim (eq_by_cmp word_order k d.0) as (λ t. eq_by_cmp word_order k d.0 ≡ t → cond t (Some d.1) (value_of word_order l k) ≡ Some x → P (k, x)) [
      | true ↦ λ t e. subst (λ y. P (y, x)) (sym (same_word k d.0 t)) (subst (λ y. P (d.0, y)) (ap (λ o. unwrap_or o 0) e) h.0)
      | false ↦ λ t e. each-found P k x l h.1 e
    ] refl

-- ---- keys that rise

pub rises-parts : (e : ℕ × ℕ) (l : Entries ℕ) → is_sorted word_order (e ∷ l) ≡ true → (below_all word_order e.0 l ≡ true) × (is_sorted word_order l ≡ true)
rises-parts e l h = (and_left (below_all word_order e.0 l) (is_sorted word_order l) h, and_right (below_all word_order e.0 l) (is_sorted word_order l) h)

pub word_below : (q : ℕ) (es : Entries ℕ) → below_all word_order q es ≡ true → value_of word_order es q ≡ None
word_below q [] h = refl
word_below q (e ∷ es) h = ap (λ r. cond (is_eq r) (Some e.1) (value_of word_order es q))
    (is_Less (word_order q e.0) (and_left (is_lt (word_order q e.0)) _ h)) ∙ word_below q es
    (and_right (is_lt (word_order q e.0)) _ h)

-- the first of some entries is found
pub found-first : (e : ℕ × ℕ) (es : Entries ℕ) → value_of word_order (e ∷ es) e.0 ≡ Some e.1
found-first e es = ap (λ t. cond t (Some e.1) (value_of word_order es e.0)) (word_itself e.0)

-- a head that is found is not found later
pub gone-after : (e : ℕ × ℕ) (l : Entries ℕ) (k : ℕ) → is_sorted word_order (e ∷ l) ≡ true → eq_by_cmp word_order k e.0 ≡ true → value_of word_order l k ≡ None
gone-after e l k h t = ap (value_of word_order l) (same_word k e.0 t) ∙ word_below e.0 l (rises-parts e l h).0

pub find-without : (l : Entries ℕ) (key s : ℕ) → value_of word_order (without_key word_order l key) s ≡ cond
    (eq_by_cmp word_order s key) None (value_of word_order l s)
find-without l key s =
    find-where_key word_order (λ x. not (eq_by_cmp word_order key x)) s (λ x e. ap (λ y. not (eq_by_cmp word_order key y))
    (sym (nat_cmp-IsAntisymmetric s x e))) l
    ∙ turned (eq_by_cmp word_order key s) (eq_by_cmp word_order s key) (value_of word_order l s)
    (elim (eq_by_cmp word_order s key) as (λ t. eq_by_cmp word_order s key ≡ t → eq_by_cmp word_order key s ≡ t) [
      | true ↦ λ e. word_is key s (sym (same_word s key e))
      | false ↦ λ e. word_other key s (λ i. not_true (sym e ∙ word_is s key (sym i)))
    ] refl)
  where
    turned : (t u : Bool) (o : Option ℕ) → t ≡ u → cond (not t) o None ≡ cond u None o
    turned true true o h = refl
    turned true false o h = absurd (not_true (sym h))
    turned false true o h = absurd (not_true h)
    turned false false o h = refl

pub rises-put : (k x : ℕ) (l : Entries ℕ) → is_sorted word_order l ≡ true → is_sorted word_order (with_entry word_order l k x) ≡ true
rises-put k x l h = from_T _ (is_sorted-put word_order nat_cmp_total k x l (to_T _ h))

pub rises-without : (k : ℕ) (l : Entries ℕ) → is_sorted word_order l ≡ true → is_sorted word_order (without_key word_order l k) ≡ true
rises-without k l h = from_T _ (is_sorted-where_key word_order (λ x. not (eq_by_cmp word_order k x)) l (to_T _ h))

-- rising lists with the same values for all keys are equal
pub same-found : (l m : Entries ℕ) → is_sorted word_order l ≡ true → is_sorted word_order m ≡ true
    → ((k : ℕ) → value_of word_order l k ≡ value_of word_order m k) → l ≡ m
same-found l m h k e = same_entries word_order nat_cmp_total nat_cmp-IsAntisymmetric l m (to_T _ h) (to_T _ k) e

-- ---- joins

unfoldable pub or_else : Option ℕ → Option ℕ → Option ℕ
or_else (Some x) o = Some x
or_else None o = o

find-both : (k : ℕ) (xs ys : Entries ℕ) → value_of word_order (xs ++ ys) k ≡ or_else (value_of word_order xs k) (value_of word_order ys k)
unfolding or_else
find-both k [] ys = refl
find-both k (x ∷ xs) ys = elim (eq_by_cmp word_order k x.0) as (λ t. cond t (Some x.1) (value_of word_order (xs ++ ys) k)
    ≡ or_else (cond t (Some x.1) (value_of word_order xs k)) (value_of word_order ys k)) [
      | true ↦ refl
      | false ↦ find-both k xs ys
    ]

pub or_none : (o : Option ℕ) → or_else o None ≡ o
unfolding or_else
or_none None = refl
or_none (Some x) = refl

pub none_or : (o : Option ℕ) → or_else None o ≡ o
unfolding or_else
none_or o = refl

pub joined-same : {A : Type 0} (f g : ℕ → List A) (cs : Entries ℕ) → Each (λ c. f c.1 ≡ g c.1) cs → joined f cs ≡ joined g cs
joined-same f g [] h = refl
joined-same f g (c ∷ cs) h = ap (λ l. l ++ joined f cs) h.0 ∙ ap (λ l. g c.1 ++ l) (joined-same f g cs h.1)

-- the items of the child of a byte, if there is one
abbrev pub kid : {A : Type 0} → (ℕ → List A) → Option ℕ → List A
kid f None = []
kid f (Some c) = f c

-- none of the keys has another head
pub none_there : (h : ℕ → ℕ) (head k : ℕ) (l : Entries ℕ) → Each (λ e. h e.0 ≡ head) l → h k ≢ head → value_of word_order l k ≡ None
none_there h head k [] a ne = refl
none_there h head k (e ∷ l) a ne =
    ap (λ t. cond t (Some e.1) (value_of word_order l k)) (word_other k e.0 (λ i. ne (ap h i ∙ a.0))) ∙ none_there h head k l a.1 ne

-- each child's keys have its byte
abbrev pub Heads : (ℕ → ℕ) → ℕ → (ℕ → Entries ℕ) → Entries ℕ → Type 0
Heads h base f cs = Each (λ c. Each (λ e. h e.0 ≡ base + c.0) (f c.1)) cs

-- a key is found in the child of its byte
pub find-joined : (h : ℕ → ℕ) (base : ℕ) (f : ℕ → Entries ℕ) (cs : Entries ℕ) (k x : ℕ) → is_sorted word_order cs ≡ true → Heads h base f cs → h k ≡ base + x
    → value_of word_order (joined f cs) k ≡ value_of word_order (kid f (value_of word_order cs x)) k
find-joined h base f [] k x s a e = refl
find-joined h base f (c ∷ cs) k x s a e =
    let r = find-joined h base f cs k x (rises-parts c cs s).1 a.1 e in
    find-both k (f c.1) (joined f cs) ∙
    elim (eq_by_cmp word_order x c.0) as (λ t. eq_by_cmp word_order x c.0 ≡ t → or_else (value_of word_order (f c.1) k)
    (value_of word_order (joined f cs) k) ≡ value_of word_order (kid f (cond t (Some c.1) (value_of word_order cs x))) k) [
      | true ↦ λ t. ap (or_else (value_of word_order (f c.1) k))
          (r ∙ ap (λ o. value_of word_order (kid f o) k) (gone-after c cs x s t)) ∙ or_none (value_of word_order (f c.1) k)
      | false ↦ λ t. ap (λ o. or_else o (value_of word_order (joined f cs) k))
          (none_there h (base + c.0) k (f c.1) a.0 (λ i. let n : x ≢ c.0 = other_word x c.0 t in n (omega arith)))
          ∙ none_or (value_of word_order (joined f cs) k) ∙ r
    ] refl

-- a key with no byte above the base is not found
pub find-outside : (h : ℕ → ℕ) (base : ℕ) (f : ℕ → Entries ℕ) (cs : Entries ℕ) (k : ℕ) → Heads h base f cs → h k < base
    → value_of word_order (joined f cs) k ≡ None
find-outside h base f [] k a e = refl
find-outside h base f (c ∷ cs) k a e =
    find-both k (f c.1) (joined f cs) ∙ ap (λ o. or_else o (value_of word_order (joined f cs) k))
    (none_there h (base + c.0) k (f c.1) a.0 (λ i. absurd (omega arith)))
    ∙ none_or (value_of word_order (joined f cs) k) ∙ find-outside h base f cs k a.1 e

below_both : (x : ℕ) (xs ys : Entries ℕ) → below_all word_order x xs ≡ true → below_all word_order x ys ≡ true → below_all word_order x (xs ++ ys) ≡ true
below_both x [] ys h k = k
below_both x (e ∷ xs) ys h k = and_from (is_lt (word_order x e.0)) _ (and_left (is_lt (word_order x e.0)) _ h)
    (below_both x xs ys (and_right (is_lt (word_order x e.0)) _ h) k)

below_each : (x : ℕ) (l : Entries ℕ) → Each (λ e. x < e.0) l → below_all word_order x l ≡ true
below_each x [] h = refl
below_each x (e ∷ l) h = and_from (is_lt (word_order x e.0)) (below_all word_order x l) (is_less x e.0 h.0) (below_each x l h.1)

pub each-below : (x : ℕ) (l : Entries ℕ) → below_all word_order x l ≡ true → Each (λ e. x < e.0) l
each-below x [] h = tt
each-below x (e ∷ l) h = (less_is x e.0 (and_left (is_lt (word_order x e.0)) _ h), each-below x l (and_right (is_lt (word_order x e.0)) _ h))

pub each-joined : {A : Type 0} (P : A → Type 0) (f : ℕ → List A) (cs : Entries ℕ) → Each (λ c. Each P (f c.1)) cs → Each P (joined f cs)
each-joined P f [] h = tt
each-joined P f (c ∷ cs) h = each-append P (f c.1) (joined f cs) h.0 (each-joined P f cs h.1)

rises-append : (xs ys : Entries ℕ) → is_sorted word_order xs ≡ true → is_sorted word_order ys ≡ true
    → Each (λ e. Each (λ d. e.0 < d.0) ys) xs → is_sorted word_order (xs ++ ys) ≡ true
rises-append [] ys h k a = k
rises-append (e ∷ xs) ys h k a = and_from (below_all word_order e.0 (xs ++ ys)) (is_sorted word_order (xs ++ ys))
    (below_both e.0 xs ys (rises-parts e xs h).0 (below_each e.0 ys a.0)) (rises-append xs ys (rises-parts e xs h).1 k a.1)

-- a join of rising parts rises
pub joined-rises : (h : ℕ → ℕ) (base : ℕ) (f : ℕ → Entries ℕ) (cs : Entries ℕ) → ((a b : ℕ) → h a < h b → a < b)
    → is_sorted word_order cs ≡ true → Heads h base f cs → Each (λ c. is_sorted word_order (f c.1) ≡ true) cs
    → is_sorted word_order (joined f cs) ≡ true
joined-rises h base f [] mono s a r = refl
joined-rises h base f (c ∷ cs) mono s a r =
    let p = rises-parts c cs s in
    rises-append (f c.1) (joined f cs) r.0 (joined-rises h base f cs mono p.1 a.1 r.1)
    (each-weaker (λ e. h e.0 ≡ base + c.0) (λ e. Each (λ d. e.0 < d.0) (joined f cs)) (f c.1)
    (λ e i. each-joined (λ d. e.0 < d.0) f cs (each-both (λ d. c.0 < d.0) (λ d. Each (λ x. h x.0 ≡ base + d.0) (f d.1)) (λ d. Each (λ x. e.0 < x.0) (f d.1)) cs
    (λ d less heads. each-weaker (λ x. h x.0 ≡ base + d.0) (λ x. e.0 < x.0) (f d.1) (λ x j. mono e.0 x.0 (omega arith)) heads)
    (each-below c.0 cs p.0) a.1)) a.0)

-- ---- sums over the children

abbrev pub total : (ℕ → ℕ) → Entries ℕ → ℕ
total g [] = 0
total g (c ∷ cs) = g c.1 + total g cs

abbrev pub some_of : (ℕ → ℕ) → Option ℕ → ℕ
some_of g None = 0
some_of g (Some c) = g c

-- a sum is the part of the child at a byte plus the parts of the others
pub total-split : (g : ℕ → ℕ) (cs : Entries ℕ) (x : ℕ) → is_sorted word_order cs ≡ true → total g cs ≡ some_of g
    (value_of word_order cs x) + total g (without_key word_order cs x)
total-split g [] x s = refl
total-split g (c ∷ cs) x s =
    let r = total-split g cs x (rises-parts c cs s).1 in
    elim (eq_by_cmp word_order x c.0) as (λ t. eq_by_cmp word_order x c.0 ≡ t → g c.1 + total g cs ≡ some_of g
    (cond t (Some c.1) (value_of word_order cs x)) + total g
    (cond (not t) (c ∷ without_key word_order cs x) (without_key word_order cs x))) [
      | true ↦ λ t. let z : some_of g (value_of word_order cs x) ≡ 0 = ap (some_of g) (gone-after c cs x s t) in omega arith
      | false ↦ λ t. omega arith
    ] refl

pub length-joined : {A : Type 0} (f : ℕ → List A) (cs : Entries ℕ) → length (joined f cs) ≡ total (λ c. length (f c)) cs
length-joined f [] = refl
length-joined f (c ∷ cs) = length-append (f c.1) (joined f cs) ∙ ap (λ n. length (f c.1) + n) (length-joined f cs)

-- ---- how often a number stands in a list

abbrev pub times : ℕ → List ℕ → ℕ
times q [] = 0
times q (n ∷ ns) = cond (q == n) 1 0 + times q ns

pub times-append : (q : ℕ) (xs ys : List ℕ) → times q (xs ++ ys) ≡ times q xs + times q ys
times-append q [] ys = omega arith
times-append q (x ∷ xs) ys = let r = times-append q xs ys in omega arith

pub times-joined : (q : ℕ) (f : ℕ → List ℕ) (cs : Entries ℕ) → times q (joined f cs) ≡ total (λ c. times q (f c)) cs
times-joined q f [] = refl
times-joined q f (c ∷ cs) = times-append q (f c.1) (joined f cs) ∙ ap (λ n. times q (f c.1) + n) (times-joined q f cs)

pub holds-times : (q : ℕ) (ns : List ℕ) → holds q ns ≡ nat_lt 0 (times q ns)
holds-times q [] = refl
holds-times q (n ∷ ns) =
    elim (q == n) as (λ t. (t || holds q ns) ≡ nat_lt 0 (cond t 1 0 + times q ns)) [
      | true ↦ sym (one_more (times q ns))
      | false ↦ holds-times q ns ∙ sym (ap (nat_lt 0) (no_more (times q ns)))
    ]
  where
    one_more : (n : ℕ) → nat_lt 0 (1 + n) ≡ true
    one_more n = grind (arith, nat_tests)

    no_more : (n : ℕ) → 0 + n ≡ n
    no_more n = omega arith

pub holds-some : (q : ℕ) (ns : List ℕ) → holds q ns ≡ true → 0 < times q ns
holds-some q ns h = from (times q ns) (sym (holds-times q ns) ∙ h)
  where
    from : (n : ℕ) → nat_lt 0 n ≡ true → 0 < n
    from n h = grind (arith, nat_tests)

pub some-holds : (q : ℕ) (ns : List ℕ) → 0 < times q ns → holds q ns ≡ true
some-holds q ns h = holds-times q ns ∙ to (times q ns) h
  where
    to : (n : ℕ) → 0 < n → nat_lt 0 n ≡ true
    to n h = grind (arith, nat_tests)

pub none-holds : (q : ℕ) (ns : List ℕ) → times q ns ≡ 0 → holds q ns ≡ false
none-holds q ns h = holds-times q ns ∙ ap (nat_lt 0) h

pub holds-none : (q : ℕ) (ns : List ℕ) → holds q ns ≡ false → times q ns ≡ 0
holds-none q ns h = from (times q ns) (sym (holds-times q ns) ∙ h)
  where
    from : (n : ℕ) → nat_lt 0 n ≡ false → n ≡ 0
    from n h = grind (arith, nat_tests)

-- a list of distinct numbers has no number twice
pub distinct-times : (ns : List ℕ) → are_distinct ns ≡ true → (q : ℕ) → times q ns ≤ 1
distinct-times [] h q = omega arith
distinct-times (n ∷ ns) h q =
    let r = distinct-times ns (and_right (not (holds n ns)) (are_distinct ns) h) q in
    elim (q == n) as (λ t. (q == n) ≡ t → cond t 1 0 + times q ns ≤ 1) [
      | true ↦ λ e.
          let i : q ≡ n = same e in
          let z : times q ns ≡ 0 = holds-none q ns
          (ap (λ x. holds x ns) i ∙ turned (holds n ns) (and_left (not (holds n ns)) (are_distinct ns) h)) in omega arith
      | false ↦ λ e. omega arith
    ] refl
  where
    same : {a b : ℕ} → (a == b) ≡ true → a ≡ b
    same e = grind (arith, nat_tests)

    turned : (t : Bool) → not t ≡ true → t ≡ false
    turned true h = absurd (not_true h)
    turned false h = refl

pub times-distinct : (ns : List ℕ) → ((q : ℕ) → times q ns ≤ 1) → are_distinct ns ≡ true
times-distinct [] h = refl
times-distinct (n ∷ ns) h =
    let z : times n ns ≡ 0 = let e : (n == n) ≡ true = itself n in
    let o : cond {A = ℕ} (n == n) 1 0 ≡ 1 = ap (λ t. cond {A = ℕ} t 1 0) e in
    let m : cond {A = ℕ} (n == n) 1 0 + times n ns ≤ 1 = h n in omega arith in
    and_from (not (holds n ns)) (are_distinct ns) (ap not (none-holds n ns z)) (times-distinct ns (λ q. let m = h q in omega arith))
  where
    itself : (n : ℕ) → (n == n) ≡ true
    itself n = grind (arith, nat_tests)
