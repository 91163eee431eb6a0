-- Byte keys behind their words: what they hold, and what comes next in their order.
use Rattle.std.proofs.Common.{◌≡◌, ◌∙◌, ◌∷◌, ◌+◌, ℕ, Bool, true, false, cond, List, [], Some, None, is_some, length, drop, refl, sym, ap, arith}
use Rattle.std.specs.Prelude.{filter}
use Rattle.std.proofs.lemmas.Option.{none-some}
use Rattle.std.specs.declared.cmp.Ordering.{Ordering}
use Rattle.std.specs.declared.cmp.Ordering.TheVariants.{Less, Equal, Greater}
use Rattle.std.specs.Ordering.{eq_by_cmp, is_gt, is_lt}
use Rattle.std.specs.Cmp.Lexicographic.{nat_list_cmp_total}
use Rattle.std.specs.FinMap.{is_sorted}
use Rattle.std.specs.FinMap.Entries.{below_all, find-put, is_sorted-put, length-put}
use Rattle.judy_model.specs.Contents.{Entries, string_order, head_of, next, value_of}
use Rattle.judy_model.specs.Walks.{by_hash, hashed_key}
use Rattle.judy_model.proofs.lemmas.EntryLemmas.{same_string, string_is}
use Rattle.judy_model.proofs.lemmas.TestLemmas.{and_left, and_right, from_T, not_both, to_T}

-- ---- what is held under a hashed key

-- keys under equal hashed keys are equal
same_behind : (a b : List ℕ) → hashed_key a ≡ hashed_key b → a ≡ b
same_behind a b e = ap (drop 1) e

-- a hashed key ties with another as their keys do
ties_alike : (a b : List ℕ) → eq_by_cmp string_order (hashed_key a) (hashed_key b) ≡ eq_by_cmp string_order a b
ties_alike a b = by (eq_by_cmp string_order a b) refl
  where
    by : (t : Bool) → eq_by_cmp string_order a b ≡ t → eq_by_cmp string_order (hashed_key a) (hashed_key b) ≡ t
    by true e = string_is (hashed_key a) (hashed_key b) (ap hashed_key (same_string a b e))
    by false e = test (eq_by_cmp string_order (hashed_key a) (hashed_key b)) refl
      where
        test : (u : Bool) → eq_by_cmp string_order (hashed_key a) (hashed_key b) ≡ u → u ≡ false
        test false h = refl
        test true h = absurd (not_both (eq_by_cmp string_order a b)
            (string_is a b (same_behind a b (same_string (hashed_key a) (hashed_key b) h))) e)

pub by_hash_rises : (l : Entries (List ℕ)) → is_sorted string_order (by_hash l) ≡ true
by_hash_rises [] = refl
by_hash_rises (e ∷ es) =
    from_T _ (is_sorted-put string_order nat_list_cmp_total (hashed_key e.0) e.1 (by_hash es) (to_T _ (by_hash_rises es)))

-- the value of a key stands under its hashed key
pub value_by_hash : (l : Entries (List ℕ)) (key : List ℕ) → value_of string_order (by_hash l) (hashed_key key) ≡ value_of string_order l key
value_by_hash [] key = refl
value_by_hash (e ∷ es) key =
    find-put string_order nat_list_cmp_total (hashed_key key) (hashed_key e.0) e.1 (by_hash es)
    ∙ ap (λ t. cond t (Some e.1) (value_of string_order (by_hash es) (hashed_key key))) (ties_alike key e.0)
    ∙ ap (cond (eq_by_cmp string_order key e.0) (Some e.1)) (value_by_hash es key)

-- whatever stands there is a key's
pub key_by_hash : (l : Entries (List ℕ)) (q : List ℕ) (v : ℕ) → value_of string_order (by_hash l) q ≡ Some v
    → (key : List ℕ) × (q ≡ hashed_key key) × (value_of string_order l key ≡ Some v)
key_by_hash l q v h = let (key, is) = named l q v h in (key, is, sym (value_by_hash l key) ∙ ap (value_of string_order (by_hash l)) (sym is) ∙ h)
  where
    named : (l : Entries (List ℕ)) (q : List ℕ) (v : ℕ) → value_of string_order (by_hash l) q ≡ Some v → (key : List ℕ) × (q ≡ hashed_key key)
    named [] q v h = absurd (none-some v h)
    named (e ∷ es) q v h = by (eq_by_cmp string_order q (hashed_key e.0)) refl
        (sym (find-put string_order nat_list_cmp_total q (hashed_key e.0) e.1 (by_hash es)) ∙ h) (λ f. named es q v f)
      where
        by : (t : Bool) → eq_by_cmp string_order q (hashed_key e.0) ≡ t → cond t (Some e.1) (value_of string_order (by_hash es) q) ≡ Some v
            → (value_of string_order (by_hash es) q ≡ Some v → (key : List ℕ) × (q ≡ hashed_key key)) → (key : List ℕ) × (q ≡ hashed_key key)
        by true is f rest = (e.0, same_string q (hashed_key e.0) is)
        by false is f rest = rest f

-- a key that rising keys are above is none of them
none_below : (x : List ℕ) (es : Entries (List ℕ)) → below_all string_order x es ≡ true → value_of string_order es x ≡ None
none_below x [] h = refl
none_below x (e ∷ es) h = by (string_order x e.0) refl (and_left (is_lt (string_order x e.0)) _ h)
    (none_below x es (and_right (is_lt (string_order x e.0)) _ h))
  where
    by : (o : Ordering) → string_order x e.0 ≡ o → is_lt o ≡ true → value_of string_order es x ≡ None → value_of string_order (e ∷ es) x ≡ None
    by Less is less rest = rw is rest
    by Equal is less rest = cc
    by Greater is less rest = cc

-- there are as many
pub length_by_hash : (l : Entries (List ℕ)) → is_sorted string_order l ≡ true → length (by_hash l) ≡ length l
length_by_hash [] rising = refl
length_by_hash (e ∷ es) rising =
    length-put string_order nat_list_cmp_total (hashed_key e.0) e.1 (by_hash es) (to_T _ (by_hash_rises es))
    ∙ ap (λ o. cond (is_some o) (length (by_hash es)) (length (by_hash es) + 1))
    (value_by_hash es e.0 ∙ none_below e.0 es (and_left (below_all string_order e.0 es) _ rising))
    ∙ (let more = length_by_hash es (and_right (below_all string_order e.0 es) _ rising) in omega (arith, more))

-- ---- what comes next

-- a key that has a value among keys above x is above x
above_all : (es : Entries (List ℕ)) (x k : List ℕ) (v : ℕ) → below_all string_order x es ≡ true → value_of string_order es k ≡ Some v
    → is_lt (string_order x k) ≡ true
above_all [] x k v h f = absurd (none-some v f)
above_all (e ∷ es) x k v h f = by (eq_by_cmp string_order k e.0) refl f (λ g. above_all es x k v (and_right (is_lt (string_order x e.0)) _ h) g)
  where
    by : (b : Bool) → eq_by_cmp string_order k e.0 ≡ b → cond b (Some e.1) (value_of string_order es k) ≡ Some v
        → (value_of string_order es k ≡ Some v → is_lt (string_order x k) ≡ true) → is_lt (string_order x k) ≡ true
    by true i g rest = ap (λ j. is_lt (string_order x j)) (same_string k e.0 i) ∙ and_left (is_lt (string_order x e.0)) _ h
    by false i g rest = rest g

-- Nothing is next if no key is above x.
pub none_next : (l : Entries (List ℕ)) (x : List ℕ)
    → ((k : List ℕ) (v : ℕ) → value_of string_order l k ≡ Some v → is_gt (string_order k x) ≡ false) → is_sorted string_order l ≡ true
    → next string_order l x ≡ None
none_next l x low rising = ap head_of (none l low rising)
  where
    behind : (e : List ℕ × ℕ) (es : Entries (List ℕ)) (k : List ℕ) (v : ℕ) → is_sorted string_order (e ∷ es) ≡ true
        → value_of string_order es k ≡ Some v → value_of string_order (e ∷ es) k ≡ Some v
    behind e es k v rising f = by (eq_by_cmp string_order k e.0) refl
      where
        by : (b : Bool) → eq_by_cmp string_order k e.0 ≡ b → cond b (Some e.1) (value_of string_order es k) ≡ Some v
        by false i = f
        by true i = absurd (none-some v (sym (none_below e.0 es (and_left (below_all string_order e.0 es) _ rising))
            ∙ ap (value_of string_order es) (sym (same_string k e.0 i)) ∙ f))

    none : (l : Entries (List ℕ)) → ((k : List ℕ) (v : ℕ) → value_of string_order l k ≡ Some v → is_gt (string_order k x) ≡ false)
        → is_sorted string_order l ≡ true → filter (λ e. is_gt (string_order e.0 x)) l ≡ []
    none [] low rising = refl
    none (e ∷ es) low rising =
        ap (λ b. cond b (e ∷ filter (λ e. is_gt (string_order e.0 x)) es) (filter (λ e. is_gt (string_order e.0 x)) es))
        (low e.0 e.1 (ap (λ b. cond b (Some e.1) (value_of string_order es e.0)) (string_is e.0 e.0 refl)))
        ∙ none es (λ k v f. low k v (behind e es k v rising f)) (and_right (below_all string_order e.0 es) _ rising)

-- An entry above x is next if no key above x is below its key.
pub least_next : (l : Entries (List ℕ)) (x k : List ℕ) (v : ℕ) → is_sorted string_order l ≡ true → value_of string_order l k ≡ Some v
    → is_gt (string_order k x) ≡ true
    → ((j : List ℕ) (u : ℕ) → value_of string_order l j ≡ Some u → is_gt (string_order j x) ≡ true → is_lt (string_order j k) ≡ false)
    → next string_order l x ≡ Some (k, v)
least_next [] x k v rising here above least = absurd (none-some v here)
least_next (e ∷ es) x k v rising here above least =
    by (eq_by_cmp string_order k e.0) refl here (λ f. least_next es x k v (and_right (below_all string_order e.0 es) _ rising) f above
    (λ j u g up. least j u (kept j u g) up))
  where
    itself : value_of string_order (e ∷ es) e.0 ≡ Some e.1
    itself = ap (λ b. cond b (Some e.1) (value_of string_order es e.0)) (string_is e.0 e.0 refl)

    kept : (j : List ℕ) (u : ℕ) → value_of string_order es j ≡ Some u → value_of string_order (e ∷ es) j ≡ Some u
    kept j u f = at (eq_by_cmp string_order j e.0) refl
      where
        at : (b : Bool) → eq_by_cmp string_order j e.0 ≡ b → cond b (Some e.1) (value_of string_order es j) ≡ Some u
        at false i = f
        at true i = absurd (none-some u (sym (none_below e.0 es (and_left (below_all string_order e.0 es) _ rising))
            ∙ ap (value_of string_order es) (sym (same_string j e.0 i)) ∙ f))

    by : (b : Bool) → eq_by_cmp string_order k e.0 ≡ b → cond b (Some e.1) (value_of string_order es k) ≡ Some v
        → (value_of string_order es k ≡ Some v → next string_order es x ≡ Some (k, v)) → next string_order (e ∷ es) x ≡ Some (k, v)
    by true i f rest =
        let same : k ≡ e.0 = same_string k e.0 i in
        let value : e.1 ≡ v = cc in
        ap (λ b. head_of (cond b (e ∷ filter (λ e. is_gt (string_order e.0 x)) es) (filter (λ e. is_gt (string_order e.0 x)) es)))
        (ap (λ j. is_gt (string_order j x)) (sym same) ∙ above)
        ∙ ap (λ j. Some (j, e.1)) (sym same) ∙ ap (λ w. Some (k, w)) value
    by false i f rest = pass (is_gt (string_order e.0 x)) refl
      where
        pass : (b : Bool) → is_gt (string_order e.0 x) ≡ b → next string_order (e ∷ es) x ≡ Some (k, v)
        pass true up = absurd (not_both (is_lt (string_order e.0 k))
            (above_all es e.0 k v (and_left (below_all string_order e.0 es) _ rising) f) (least e.0 e.1 itself up))
        pass false low = ap (λ b. head_of (cond b (e ∷ filter (λ e. is_gt (string_order e.0 x)) es) (filter (λ e. is_gt (string_order e.0 x)) es))) low ∙ rest f
