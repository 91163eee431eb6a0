-- A reply that says that a call changed nothing is right.
use Rattle.std.proofs.Common.{◌≡◌, ◌≤◌, ℕ, zero, suc, ◌+◌, ◌%◌, ◌^◌, arith, Bool, true, false, not, cond, ◌&&◌, [], ◌∷◌, refl, sym, ◌∙◌, ap, Option, Some, None}
use Rattle.std.specs.Prelude.{◌==◌, is_some, length, nat_lt}
use Rattle.std.specs.Cmp.{IsTotalOrder, nat_cmp_total}
use Rattle.std.specs.Cmp.Lexicographic.{nat_list_cmp_total}
use Rattle.std.specs.Ordering.{eq_by_cmp}
use Rattle.std.specs.FinMap.{find, is_sorted, IsAntisymmetric, nat_cmp-IsAntisymmetric}
use Rattle.std.specs.FinMap.Entries.{is_sorted-put, is_sorted-where_key, find-put, find-where_key, same_entries}
use Rattle.std.proofs.lemmas.Bool.{eqb-true}
use Rattle.std.proofs.lemmas.Bool.Decides.{nat_tests}
use Rattle.judy_model.specs.declared.calls.Call.{Call}
use Rattle.judy_model.specs.declared.calls.Call.TheVariants.{One, Long, Str, Bytes, Intersect, Names, Used}
use Rattle.judy_model.specs.declared.calls.Given.{Given}
use Rattle.judy_model.specs.declared.calls.Given.TheVariants.{Nothing, Value, Plus}
use Rattle.judy_model.specs.declared.quotas.Quota.{Quota}
use Rattle.judy_model.specs.declared.quotas.Right.TheVariants.{Change, Look, Frozen}
use Rattle.judy_model.specs.declared.replies.Reply.{Reply}
use Rattle.judy_model.specs.declared.replies.Reply.TheVariants as reply
use Rattle.judy_model.specs.Grammar.{are_bytes, is_string, is_byte_key}
use Rattle.judy_model.specs.Contents.{Order, Entries, word_order, string_order, value_of, has_key, with_entry, without_key}
use Rattle.judy_model.specs.Tenant.Effect.{Insert, Keep, Exchange, Remove, Take, RemoveIf, Pop, Cut, Fill, Free, Ask}
use Rattle.judy_model.specs.Tenant.Reports.{ReportsNew, ReportsValue}
use Rattle.judy_model.specs.Tenant.{keep_over, exchange_over, remove_over, value_or_null}
use Rattle.judy_model.specs.Tenant.{Effect, State, content_of, with_content, value_after, value_replied, insert_over, insert, delete, free}
use Rattle.judy_model.specs.Tenant.{effect_step, one_effect, long_effect, string_effect, bytes_effect, changes, has_room, allowed_step}
use Rattle.judy_model.specs.Tenant.{Lack, Shown, cut_from, fill_at, fill_over, pop_over, shown_reply}
use Rattle.judy_model.specs.Tenant.Shown.{AnIndex, AnEntry, AString}
use Rattle.judy_model.specs.Unchanged.{keeps, insertion_leaves, says_no, says_none, says_some, says_null, says_other, effect_leaves, leaves, UnchangedAreTold, says_nothing}
use Rattle.judy_model.specs.WellFormed.{is_word, is_one_entry, is_long_entry, is_string_entry, is_bytes_entry, is_content, IsWellFormed}
use Rattle.judy_model.proofs.lemmas.FormLemmas.{content_form, found_passes, names_apart, with_content_same}
use Rattle.judy_model.proofs.lemmas.StateLemmas.{and_left, and_right, is_Equal}
use Rattle.judy_model.proofs.lemmas.TestLemmas.{to_T}

-- ---- the content of an array

module _ {K : Type 0} (order : Order K) (total : IsTotalOrder order) (same : IsAntisymmetric order) where
  -- an entry that gets the value that it has
  put_same : (l : Entries K) (k : K) (v : ℕ) → is_sorted order l ≡ true → find order k l ≡ Some v → with_entry order l k v ≡ l
  put_same l k v rises is = same_entries order total same (with_entry order l k v) l
      (is_sorted-put order total k v l (to_T _ rises)) (to_T _ rises)
      (λ q. find-put order total q k v l ∙ by (eq_by_cmp order q k) q refl)
    where
      by : (b : Bool) (q : K) → eq_by_cmp order q k ≡ b → cond b (Some v) (find order q l) ≡ find order q l
      by true q tie = sym is ∙ ap (λ n. find order n l) (sym (same q k (is_Equal (order q k) tie)))
      by false q tie = refl

  -- a key that is not there is removed
  less_same : (l : Entries K) (k : K) → is_sorted order l ≡ true → has_key order l k ≡ false → without_key order l k ≡ l
  less_same l k rises lacks = same_entries order total same (without_key order l k) l
      (is_sorted-where_key order (λ n. not (eq_by_cmp order k n)) l (to_T _ rises)) (to_T _ rises)
      (λ q. find-where_key order (λ n. not (eq_by_cmp order k n)) q (λ x e. ap (λ n. not (eq_by_cmp order k n)) (sym (same q x e))) l
      ∙ by (eq_by_cmp order k q) q refl)
    where
      none : (had : Option ℕ) → find order k l ≡ had → is_some had ≡ false → find order k l ≡ None
      none (Some v) is h = cc
      none None is h = is

      by : (b : Bool) (q : K) → eq_by_cmp order k q ≡ b → cond (not b) (find order q l) None ≡ find order q l
      by true q tie = sym (none (find order k l) refl lacks) ∙ ap (λ n. find order n l) (same k q (is_Equal (order k q) tie))
      by false q tie = refl

  -- the value that an insertion leaves is the one that was there
  value_kept : (given : Given) (v : ℕ) → is_word v ≡ true → keeps given (value_replied given v) ≡ true → value_after given v ≡ v
  value_kept Nothing v word h = refl
  value_kept (Value w) v word h = eqb-true w v (and_right (nat_lt 0 v) _ h)
  value_kept (Plus n) v word h =
      let nothing : n ≡ 0 = eqb-true n 0 (and_right (nat_lt 0 ((v + n) % 2 ^ 64)) _ h) in
      ap (λ m. (v + m) % 2 ^ 64) nothing ∙ grind (arith, nat_tests, word)

  -- a new entry is no entry that was there
  new_told : (given : Given) → keeps given (value_replied given 0) ≡ false
  new_told Nothing = refl
  new_told (Value w) = refl
  new_told (Plus n) = by (n == 0) refl
    where
      by : (b : Bool) → (n == 0) ≡ b → (nat_lt 0 ((0 + n) % 2 ^ 64) && b) ≡ false
      by true is = ap (λ m. nat_lt 0 ((0 + m) % 2 ^ 64) && true) (eqb-true n 0 is)
      by false is = never (nat_lt 0 ((0 + n) % 2 ^ 64))
        where
          never : (c : Bool) → (c && false) ≡ false
          never true = refl
          never false = refl

  insert_left : (test : K × ℕ → Bool) → ((k : K) (v : ℕ) → test (k, v) ≡ true → is_word v ≡ true) → (room : Bool) (l : Entries K) (k : K) (given : Given)
      → is_content order test l ≡ true → insertion_leaves given (insert order room l k given ReportsValue).0 ≡ true
      → (insert order room l k given ReportsValue).1 ≡ l
  insert_left test words room l k given form h = by (find order k l) room refl h
    where
      rises : is_sorted order l ≡ true
      rises = and_left (is_sorted order l) _ form

      by : (had : Option ℕ) (r : Bool) → find order k l ≡ had → insertion_leaves given (insert_over order r l k given ReportsValue had).0 ≡ true
          → (insert_over order r l k given ReportsValue had).1 ≡ l
      by (Some v) r is e =
          let word = words k v (found_passes order same test k v l (and_right (is_sorted order l) _ form) is) in
          ap (with_entry order l k) (value_kept given v word e) ∙ put_same l k v rises is
      by None true is e = let no = sym (new_told given) ∙ e in cc
      by None false is e = cc

  -- a key that was there, and was given nothing
  present_left : (test : K × ℕ → Bool) (room : Bool) (l : Entries K) (k : K) → is_content order test l ≡ true
      → says_no (insert order room l k Nothing ReportsNew).0 ≡ true → (insert order room l k Nothing ReportsNew).1 ≡ l
  present_left test room l k form h = by (find order k l) room refl h
    where
      by : (had : Option ℕ) (r : Bool) → find order k l ≡ had → says_no (insert_over order r l k Nothing ReportsNew had).0 ≡ true
          → (insert_over order r l k Nothing ReportsNew had).1 ≡ l
      by (Some v) r is e = put_same l k v (and_left (is_sorted order l) _ form) is
      by None true is e = cc
      by None false is e = cc

  -- a key that was taken and was absent
  take_left : (test : K × ℕ → Bool) (l : Entries K) (k : K) → is_content order test l ≡ true
      → says_null (value_or_null (value_of order l k)) ≡ true → without_key order l k ≡ l
  take_left test l k form h = less_same l k (and_left (is_sorted order l) _ form) (by (value_of order l k) h)
    where
      by : (had : Option ℕ) → says_null (value_or_null had) ≡ true → is_some had ≡ false
      by (Some v) e = cc
      by None e = refl

  delete_left : (test : K × ℕ → Bool) (l : Entries K) (k : K) → is_content order test l ≡ true → says_no (delete order l k).0 ≡ true
      → (delete order l k).1 ≡ l
  delete_left test l k form h = by (has_key order l k) refl h
    where
      by : (b : Bool) → has_key order l k ≡ b → not b ≡ true → without_key order l k ≡ l
      by true is e = cc
      by false is e = less_same l k (and_left (is_sorted order l) _ form) is

-- a key that is kept and was there
keep_left : {K : Type 0} (order : Order K) (room : Bool) (l : Entries K) (k : K) (v : ℕ) (had : Option ℕ)
    → says_some (keep_over order room l k v had).0 ≡ true → (keep_over order room l k v had).1 ≡ l
keep_left order room l k v (Some w) h = refl
keep_left order true l k v None h = cc
keep_left order false l k v None h = cc

-- a key that was absent or had another value
exchange_left : {K : Type 0} (order : Order K) (l : Entries K) (k : K) (old new : ℕ) (had : Option ℕ)
    → says_other old (exchange_over order l k old new had).0 ≡ true → (exchange_over order l k old new had).1 ≡ l
exchange_left order l k old new None h = refl
exchange_left order l k old new (Some v) h = elim (v == old) as (λ b. not b ≡ true → cond b (with_entry order l k new) l ≡ l)
    [ true ↦ λ e. cc | false ↦ λ e. refl ] h

-- a key that is not removed
remove_left : {K : Type 0} (order : Order K) (l : Entries K) (k : K) (v : ℕ) (had : Option ℕ)
    → says_no (remove_over order l k v had).0 ≡ true → (remove_over order l k v had).1 ≡ l
remove_left order l k v None h = refl
remove_left order l k v (Some w) h = elim (w == v) as (λ b. not b ≡ true → cond b (without_key order l k) l ≡ l)
    [ true ↦ λ e. cc | false ↦ λ e. refl ] h

-- an entry that is popped is shown
pop_left : {K : Type 0} (order : Order K) (l : Entries K) (show : K × ℕ → Shown) (lack : Lack) (found : Option (K × ℕ))
    → says_nothing (pop_over order l show lack found).0 ≡ true → (pop_over order l show lack found).1 ≡ l
pop_left order l show lack None h = refl
pop_left order l show lack (Some e) h = absurd (by (show e) h)
  where
    by : (s : Shown) → says_nothing (shown_reply s) ≡ true → ⊥
    by (AnIndex i) h = cc
    by (AnEntry v i) h = cc
    by (AString v key) h = cc

-- each entry that is cut is counted
cut_counts : {K : Type 0} (order : Order K) (search : Entries K → Option (K × ℕ)) (count n : ℕ) (l : Entries K) (found : Option (K × ℕ))
    → count ≤ (cut_from order search count n l found).0
cut_counts order search count zero l found = omega arith
cut_counts order search count (suc n) l None = omega arith
cut_counts order search count (suc n) l (Some e) =
    let rest = without_key order l e.0 in
    let more = cut_counts order search (count + 1) n rest (search rest) in
    omega (arith, more)

cut_left : {K : Type 0} (order : Order K) (search : Entries K → Option (K × ℕ)) (n : ℕ) (l : Entries K) (found : Option (K × ℕ))
    → ((cut_from order search 0 n l found).0 == 0) ≡ true → (cut_from order search 0 n l found).1 ≡ l
cut_left order search zero l found h = refl
cut_left order search (suc n) l None h = refl
cut_left order search (suc n) l (Some e) h =
    let rest = without_key order l e.0 in
    let some = cut_counts order search 1 n rest (search rest) in
    let none = eqb-true (cut_from order search 1 n rest (search rest)).0 0 h in
    absurd (omega (arith, some, none))

-- a key that is filled is shown
fill_left : {K : Type 0} (order : Order K) (room : Bool) (l : Entries K) (index : K → ℕ) (v : ℕ) (found : Option K)
    → says_no (fill_over order room l index v found).0 ≡ true → (fill_over order room l index v found).1 ≡ l
fill_left order room l index v None h = refl
fill_left order room l index v (Some k) h = absurd (by (value_of order l k) room h)
  where
    by : (had : Option ℕ) (r : Bool) → says_no (fill_at order r l (index k) k v had).0 ≡ true → ⊥
    by (Some w) r h = cc
    by None true h = cc
    by None false h = cc

free_left : {K : Type 0} (l : Entries K) → says_none (free l).0 ≡ true → (free l).1 ≡ l
free_left [] h = refl
free_left (e ∷ es) h = let no = eqb-true (length (e ∷ es)) 0 h in absurd (omega (arith, no))

-- ---- the calls of each kind

-- an entry's value is a word
abbrev HasWords : {K : Type 0} → (K × ℕ → Bool) → Type 0
HasWords {K} test = (k : K) (v : ℕ) → test (k, v) ≡ true → is_word v ≡ true

word_in_one : HasWords is_one_entry
word_in_one k v h = ap is_word (eqb-true v 0 (and_right (is_word k) _ h))

word_in_long : HasWords is_long_entry
word_in_long k v h = and_right (is_word k) _ h

word_in_string : HasWords is_string_entry
word_in_string k v h = and_right (is_string k && are_bytes k) _ h

word_in_bytes : HasWords is_bytes_entry
word_in_bytes k v h = and_right (is_byte_key k && are_bytes k) _ h

effect_left : {K : Type 0} (order : Order K) (total : IsTotalOrder order) (same : IsAntisymmetric order) (test : K × ℕ → Bool) → HasWords test
    → (room : Bool) (l : Entries K) (effect : Effect K) → is_content order test l ≡ true → effect_leaves effect (effect_step order room l effect).0 ≡ true
    → (effect_step order room l effect).1 ≡ l
effect_left order total same test words room l (Insert k Nothing ReportsNew) form h = present_left order total same test room l k form h
effect_left order total same test words room l (Insert k (Value v) ReportsNew) form h = cc
effect_left order total same test words room l (Insert k (Plus n) ReportsNew) form h = cc
effect_left order total same test words room l (Insert k given ReportsValue) form h = insert_left order total same test words room l k given form h
effect_left order total same test words room l (Keep k v) form h = keep_left order room l k v (value_of order l k) h
effect_left order total same test words room l (Exchange k old new) form h = exchange_left order l k old new (value_of order l k) h
effect_left order total same test words room l (Take k) form h = take_left order total same test l k form h
effect_left order total same test words room l (RemoveIf k v) form h = remove_left order l k v (value_of order l k) h
effect_left order total same test words room l (Remove k) form h = delete_left order total same test l k form h
effect_left order total same test words room l (Pop find show lack) form h = pop_left order l show lack (find l) h
effect_left order total same test words room l (Cut find n) form h = cut_left order find n l (find l) h
effect_left order total same test words room l (Fill x find index v) form h = fill_left order room l index v (find l) h
effect_left order total same test words room l Free form h = free_left l h
effect_left order total same test words room l (Ask answer) form h = refl

-- ---- a call of a tenant

allowed_left : (quota : Quota) (s : State) (call : Call) → IsWellFormed s → leaves call (allowed_step quota s call).0 ≡ true
    → (allowed_step quota s call).1 ≡ s
allowed_left quota s (One name c) h e =
    ap (λ l. record s { one = with_content s.one name l })
    (effect_left word_order nat_cmp_total nat_cmp-IsAntisymmetric is_one_entry word_in_one (has_room quota s (One name c)) (content_of s.one name) (one_effect c)
    (content_form word_order is_one_entry s.one name h.one) e)
    ∙ ap (λ arrays. record s { one = arrays }) (with_content_same word_order is_one_entry s.one name h.one)
allowed_left quota s (Long name c) h e =
    ap (λ l. record s { long = with_content s.long name l })
    (effect_left word_order nat_cmp_total nat_cmp-IsAntisymmetric is_long_entry word_in_long (has_room quota s (Long name c)) (content_of s.long name) (long_effect c)
    (content_form word_order is_long_entry s.long name h.long) e)
    ∙ ap (λ arrays. record s { long = arrays }) (with_content_same word_order is_long_entry s.long name h.long)
allowed_left quota s (Str name c) h e =
    ap (λ l. record s { string = with_content s.string name l })
    (effect_left string_order nat_list_cmp_total names_apart is_string_entry word_in_string (has_room quota s (Str name c)) (content_of s.string name) (string_effect c)
    (content_form string_order is_string_entry s.string name h.string) e)
    ∙ ap (λ arrays. record s { string = arrays }) (with_content_same string_order is_string_entry s.string name h.string)
allowed_left quota s (Bytes name c) h e =
    ap (λ l. record s { bytes = with_content s.bytes name l })
    (effect_left string_order nat_list_cmp_total names_apart is_bytes_entry word_in_bytes (has_room quota s (Bytes name c)) (content_of s.bytes name) (bytes_effect c)
    (content_form string_order is_bytes_entry s.bytes name h.bytes) e)
    ∙ ap (λ arrays. record s { bytes = arrays }) (with_content_same string_order is_bytes_entry s.bytes name h.bytes)
allowed_left quota s (Intersect name other i n) h e = refl
allowed_left quota s (Names from n) h e = refl
allowed_left quota s Used h e = refl

-- under a right that forbids each change
forbidden_left : (r : Reply) (quota : Quota) (s : State) (call : Call) → IsWellFormed s
    → leaves call (cond {A = Reply × State} (changes call) (r, s) (allowed_step quota s call)).0 ≡ true
    → (cond {A = Reply × State} (changes call) (r, s) (allowed_step quota s call)).1 ≡ s
forbidden_left r quota s call h = by (changes call)
  where
    by : (b : Bool) → leaves call (cond {A = Reply × State} b (r, s) (allowed_step quota s call)).0 ≡ true
        → (cond {A = Reply × State} b (r, s) (allowed_step quota s call)).1 ≡ s
    by true e = refl
    by false e = allowed_left quota s call h e

pub unchanged_are_told : UnchangedAreTold
unchanged_are_told Change quota s call h e = allowed_left quota s call h e
unchanged_are_told Look quota s call h e = forbidden_left reply.ReadOnly quota s call h e
unchanged_are_told Frozen quota s call h e = forbidden_left reply.Frozen quota s call h e
