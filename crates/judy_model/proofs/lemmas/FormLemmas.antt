-- A call keeps a tenant's arrays well-formed.
use Rattle.std.proofs.Common.{◌≡◌, ℕ, zero, suc, ◌+◌, ◌%◌, ◌^◌, arith, Bool, true, false, not, cond, ◌&&◌, List, [], ◌∷◌, refl, sym, ◌∙◌, ap, subst, Option, Some, None}
use Rattle.std.specs.Prelude.{IsTrue, ◌==◌, filter, if◌then◌else◌, nat_le, unwrap_or}
use Rattle.std.specs.List.{list_all}
use Rattle.std.specs.declared.cmp.Ordering.{Ordering}
use Rattle.std.specs.declared.cmp.Ordering.TheVariants.{Less, Equal, Greater}
use Rattle.std.specs.Ordering.{eq_by_cmp}
use Rattle.std.specs.Cmp.{IsTotalOrder, nat_cmp_total}
use Rattle.std.specs.Cmp.Lexicographic.{nat_list_cmp_total}
use Rattle.std.specs.FinMap.{find, put, is_sorted, IsAntisymmetric, slice_cmp-IsAntisymmetric, nat_cmp-IsAntisymmetric}
use Rattle.std.specs.FinMap.Entries.{by_order, is_sorted-put, is_sorted-where_key, find-put, find-where_key, same_entries}
use Rattle.std.proofs.lemmas.Bool.{and_from}
use Rattle.std.proofs.lemmas.Bool.Decides.{nat_tests}
use Rattle.std.proofs.lemmas.Nat.{mod_below}
use Rattle.judy_model.specs.declared.calls.Call.{Call}
use Rattle.judy_model.specs.declared.calls.Call.TheVariants.{One, Long, Str, Bytes, Intersect, Names, Used}
use Rattle.judy_model.specs.declared.calls.OneCall.{OneCall}
use Rattle.judy_model.specs.declared.calls.OneCall.TheVariants as one
use Rattle.judy_model.specs.declared.calls.LongCall.{LongCall}
use Rattle.judy_model.specs.declared.calls.LongCall.TheVariants as long
use Rattle.judy_model.specs.declared.calls.StrCall.{StrCall}
use Rattle.judy_model.specs.declared.calls.StrCall.TheVariants as str
use Rattle.judy_model.specs.declared.calls.BytesCall.{BytesCall}
use Rattle.judy_model.specs.declared.calls.BytesCall.TheVariants as bytes
use Rattle.judy_model.specs.declared.calls.Given.{Given}
use Rattle.judy_model.specs.declared.calls.Given.TheVariants.{Nothing, Value, Plus}
use Rattle.judy_model.specs.declared.quotas.Quota.{Quota}
use Rattle.judy_model.specs.declared.replies.Reply.{Reply}
use Rattle.judy_model.specs.Grammar.{are_bytes, is_string, is_byte_key}
use Rattle.judy_model.specs.Contents.{Order, Entries, max_word, word_order, string_order, value_of, with_entry, without_key}
use Rattle.judy_model.specs.Gaps.{end_of_run, first_empty}
use Rattle.judy_model.specs.Tenant.Effect.{Insert, Keep, Exchange, Remove, Take, RemoveIf, Pop, Cut, Fill, Free, Ask}
use Rattle.judy_model.specs.Tenant.{keep_over, exchange_over, remove_over}
use Rattle.judy_model.specs.Tenant.{Effect, Reports, effect_step, one_effect, long_effect, string_effect, bytes_effect}
use Rattle.judy_model.specs.Tenant.{Arrays, State, content_of, with_content, value_after, insert_over, insert, one_step}
use Rattle.judy_model.specs.Tenant.{long_step, string_step, bytes_step, has_room, allowed_step, is_read_only, refusal_of}
use Rattle.judy_model.specs.Tenant.{Lack, Shown, cut_from, fill_at, fill_over, pop_over}
use Rattle.judy_model.specs.WellFormed.{is_word, is_one_entry, is_long_entry, is_string_entry, is_bytes_entry, is_content}
use Rattle.judy_model.specs.WellFormed.{has_entries, are_arrays, IsWellFormed, effect_writes, writes_entry, StepKeepsForm}
use Rattle.judy_model.proofs.lemmas.TestLemmas.{to_T, from_T}
use Rattle.judy_model.proofs.lemmas.StateLemmas.{and_left, and_right, is_Equal, equal_names}

-- ---- entries in a list

-- a filter keeps what holds of all entries
all_filter : {A : Type 0} (p q : A → Bool) (xs : List A) → list_all p xs ≡ true → list_all p (filter q xs) ≡ true
all_filter p q [] h = refl
all_filter p q (x ∷ xs) h = by (q x) (all_filter p q xs (and_right (p x) _ h))
  where
    by : (b : Bool) → list_all p (filter q xs) ≡ true → list_all p (cond b (x ∷ filter q xs) (filter q xs)) ≡ true
    by true rest = and_from (p x) _ (and_left (p x) _ h) rest
    by false rest = rest

module _ {K X : Type 0} (order : Order K) (same : IsAntisymmetric order) (test : K × X → Bool) where
  -- an entry that passes, inserted into entries that pass
  pub all_put : (k : K) (v : X) (es : List (K × X)) → test (k, v) ≡ true → list_all test es ≡ true → list_all test (put order k v es) ≡ true
  all_put k v [] f h = and_from (test (k, v)) true f refl
  all_put k v (e ∷ es) f h = by (order k e.0) refl (all_put k v es f (and_right (test e) _ h))
    where
      by : (r : Ordering) → order k e.0 ≡ r → list_all test (put order k v es) ≡ true
          → list_all test (by_order r ((k, v) ∷ e ∷ es) ((e.0, v) ∷ es) (e ∷ put order k v es)) ≡ true
      by Less is rest = and_from (test (k, v)) _ f h
      by Equal is rest = and_from (test (e.0, v)) _ (subst (λ x. test (x, v) ≡ true) (same k e.0 is) f) (and_right (test e) _ h)
      by Greater is rest = and_from (test e) _ (and_left (test e) _ h) rest

  -- what is found passes
  pub found_passes : (k : K) (v : X) (es : List (K × X)) → list_all test es ≡ true → find order k es ≡ Some v → test (k, v) ≡ true
  found_passes k v [] h is = cc
  found_passes k v (e ∷ es) h is = by (eq_by_cmp order k e.0) refl is (found_passes k v es (and_right (test e) _ h))
    where
      by : (b : Bool) → eq_by_cmp order k e.0 ≡ b → cond b (Some e.1) (find order k es) ≡ Some v
          → (find order k es ≡ Some v → test (k, v) ≡ true) → test (k, v) ≡ true
      by true tie got rest =
          let key : k ≡ e.0 = same k e.0 (is_Equal (order k e.0) tie) in
          let value : e.1 ≡ v = cc in
          subst (λ x. test (k, x) ≡ true) value (subst (λ x. test (x, e.1) ≡ true) (sym key) (and_left (test e) _ h))
      by false tie got rest = rest got

-- ---- the content of an array

-- a sum modulo 2^64 is a word
sum_is_word : (n : ℕ) → is_word (n % 2 ^ 64) ≡ true
sum_is_word n = let small = mod_below n (2 ^ 64) (omega arith) in grind (arith, nat_tests)

module _ {K : Type 0} (order : Order K) (total : IsTotalOrder order) (same : IsAntisymmetric order) where
  module _ (test : K × ℕ → Bool) where
    content_put : (l : Entries K) (k : K) (v : ℕ) → test (k, v) ≡ true → is_content order test l ≡ true → is_content order test (with_entry order l k v) ≡ true
    content_put l k v f h =
        and_from (is_sorted order (put order k v l)) _
        (from_T _ (is_sorted-put order total k v l (to_T _ (and_left (is_sorted order l) _ h))))
        (all_put order same test k v l f (and_right (is_sorted order l) _ h))

    content_less : (l : Entries K) (k : K) → is_content order test l ≡ true → is_content order test (without_key order l k) ≡ true
    content_less l k h =
        and_from (is_sorted order (without_key order l k)) _
        (from_T _ (is_sorted-where_key order (λ x. not (eq_by_cmp order k x)) l (to_T _ (and_left (is_sorted order l) _ h))))
        (all_filter test (λ e. not (eq_by_cmp order k e.0)) l (and_right (is_sorted order l) _ h))

    -- a test that passes an entry with one value and with a word as its value
    abbrev TakesWords : Type 0
    TakesWords = (k : K) (v w : ℕ) → test (k, v) ≡ true → is_word w ≡ true → test (k, w) ≡ true

    -- a test that passes what is found with a value if it passes the key at which the search begins
    abbrev Finds : K → (Entries K → Option K) → ℕ → Type 0
    Finds x find v = (l : Entries K) (k : K) → find l ≡ Some k → test (x, v) ≡ true → test (k, v) ≡ true

    -- an addition needs the first, and a key that is filled the second
    abbrev Suits : Effect K → Type 0
    Suits (Insert k (Plus n) reports) = TakesWords
    Suits (Fill x find index v) = Finds x find v
    Suits _ = Unit {0}

    insert_form : (room : Bool) (l : Entries K) (k : K) (given : Given) (reports : Reports) → Suits (Insert k given reports) → is_content order test l ≡ true
        → test (k, value_after given 0) ≡ true → is_content order test (insert order room l k given reports).1 ≡ true
    insert_form room l k given reports suits h f = by (find order k l) refl given suits f
      where
        by : (had : Option ℕ) → find order k l ≡ had → (given : Given) → Suits (Insert k given reports) → test (k, value_after given 0) ≡ true
            → is_content order test (insert_over order room l k given reports had).1 ≡ true
        by (Some v) is (Value w) suits f = content_put l k w f h
        by (Some v) is (Plus n) suits f =
            content_put l k ((v + n) % 2 ^ 64) (suits k ((0 + n) % 2 ^ 64) ((v + n) % 2 ^ 64) f (sum_is_word (v + n))) h
        by (Some v) is Nothing suits f = content_put l k v (found_passes order same test k v l (and_right (is_sorted order l) _ h) is) h
        by None is given suits f = elim room as (λ r. is_content order test (insert_over order r l k given reports None).1 ≡ true)
            [ true ↦ content_put l k (value_after given 0) f h | false ↦ h ]

    keep_form : (room : Bool) (l : Entries K) (k : K) (v : ℕ) → is_content order test l ≡ true → test (k, v) ≡ true
        → (had : Option ℕ) → is_content order test (keep_over order room l k v had).1 ≡ true
    keep_form room l k v h f (Some w) = h
    keep_form true l k v h f None = content_put l k v f h
    keep_form false l k v h f None = h

    exchange_form : (l : Entries K) (k : K) (old new : ℕ) → is_content order test l ≡ true → test (k, new) ≡ true
        → (had : Option ℕ) → is_content order test (exchange_over order l k old new had).1 ≡ true
    exchange_form l k old new h f None = h
    exchange_form l k old new h f (Some v) = elim (v == old) as (λ b. is_content order test (cond b (with_entry order l k new) l) ≡ true)
        [ true ↦ content_put l k new f h | false ↦ h ]

    remove_form : (l : Entries K) (k : K) (v : ℕ) → is_content order test l ≡ true
        → (had : Option ℕ) → is_content order test (remove_over order l k v had).1 ≡ true
    remove_form l k v h None = h
    remove_form l k v h (Some w) = elim (w == v) as (λ b. is_content order test (cond b (without_key order l k) l) ≡ true)
        [ true ↦ content_less l k h | false ↦ h ]

    pop_form : (l : Entries K) (show : K × ℕ → Shown) (lack : Lack) → is_content order test l ≡ true
        → (found : Option (K × ℕ)) → is_content order test (pop_over order l show lack found).1 ≡ true
    pop_form l show lack h None = h
    pop_form l show lack h (Some e) = content_less l e.0 h

    cut_form : (search : Entries K → Option (K × ℕ)) (count n : ℕ) (l : Entries K) (found : Option (K × ℕ)) → is_content order test l ≡ true
        → is_content order test (cut_from order search count n l found).1 ≡ true
    cut_form search count zero l found h = h
    cut_form search count (suc n) l None h = h
    cut_form search count (suc n) l (Some e) h =
        let rest = without_key order l e.0 in
        cut_form search (count + 1) n rest (search rest) (content_less l e.0 h)

    fill_form : (room : Bool) (l : Entries K) (x : K) (find : Entries K → Option K) (index : K → ℕ) (v : ℕ) → Finds x find v
        → is_content order test l ≡ true → test (x, v) ≡ true → (found : Option K) → find l ≡ found
        → is_content order test (fill_over order room l index v found).1 ≡ true
    fill_form room l x find index v suits h f None is = h
    fill_form room l x find index v suits h f (Some k) is = by (value_of order l k) room
      where
        by : (had : Option ℕ) (r : Bool) → is_content order test (fill_at order r l (index k) k v had).1 ≡ true
        by (Some w) r = h
        by None true = content_put l k v (suits l k is f) h
        by None false = h

    -- a call keeps the content well-formed
    effect_form : (room : Bool) (l : Entries K) (effect : Effect K) → Suits effect → is_content order test l ≡ true → IsTrue (effect_writes test effect)
        → is_content order test (effect_step order room l effect).1 ≡ true
    effect_form room l (Insert k given reports) suits h w = insert_form room l k given reports suits h w
    effect_form room l (Keep k v) suits h w = keep_form room l k v h w (value_of order l k)
    effect_form room l (Exchange k old new) suits h w = exchange_form l k old new h w (value_of order l k)
    effect_form room l (Remove k) suits h w = content_less l k h
    effect_form room l (Take k) suits h w = content_less l k h
    effect_form room l (RemoveIf k v) suits h w = remove_form l k v h (value_of order l k)
    effect_form room l (Pop find show lack) suits h w = pop_form l show lack h (find l)
    effect_form room l (Cut find n) suits h w = cut_form find 0 n l (find l) h
    effect_form room l (Fill x find index v) suits h w = fill_form room l x find index v suits h w (find l) refl
    effect_form room l Free suits h w = refl
    effect_form room l (Ask answer) suits h w = h

-- ---- the arrays of a kind

-- names that tie are equal
pub names_apart : IsAntisymmetric string_order
names_apart = slice_cmp-IsAntisymmetric nat_cmp-IsAntisymmetric

module _ {K : Type 0} (order : Order K) (test : K × ℕ → Bool) where
  -- a well-formed array
  abbrev is_good : List ℕ × Entries K → Bool
  is_good a = has_entries a.1 && is_content order test a.1

  -- the well-formed arrays of a kind
  abbrev AreArrays : Arrays K → Type 0
  AreArrays arrays = are_arrays order test arrays ≡ true

  -- their names are strictly increasing
  pub names_rise : (arrays : Arrays K) → AreArrays arrays → is_sorted string_order arrays ≡ true
  names_rise arrays h = and_left (is_sorted string_order arrays) _ h

  -- each of them is well-formed
  each_good : (arrays : Arrays K) → AreArrays arrays → list_all is_good arrays ≡ true
  each_good arrays h = and_right (is_sorted string_order arrays) _ h

  -- the content of a well-formed array is well-formed
  pub content_form : (arrays : Arrays K) (name : List ℕ) → AreArrays arrays → is_content order test (content_of arrays name) ≡ true
  content_form arrays name h = by (find string_order name arrays) refl
    where
      by : (had : Option (Entries K)) → find string_order name arrays ≡ had → is_content order test (unwrap_or had []) ≡ true
      by (Some l) is = and_right (has_entries l) _ (found_passes string_order names_apart is_good name l arrays (each_good arrays h) is)
      by None is = refl

  -- the arrays stay well-formed after one of them is written
  arrays_form : (arrays : Arrays K) (name : List ℕ) (l : Entries K) → AreArrays arrays → is_content order test l ≡ true → AreArrays (with_content arrays name l)
  arrays_form arrays name [] h k =
      and_from (is_sorted string_order (with_content arrays name [])) _
      (from_T _ (is_sorted-where_key string_order (λ n. not (eq_by_cmp string_order name n)) arrays (to_T _ (names_rise arrays h))))
      (all_filter is_good (λ a. not (eq_by_cmp string_order name a.0)) arrays (each_good arrays h))
  arrays_form arrays name (e ∷ es) h k =
      and_from (is_sorted string_order (with_content arrays name (e ∷ es))) _
      (from_T _ (is_sorted-put string_order nat_list_cmp_total name (e ∷ es) arrays (to_T _ (names_rise arrays h))))
      (all_put string_order names_apart is_good name (e ∷ es) arrays k (each_good arrays h))

  -- writing an array's own content changes nothing
  pub with_content_same : (arrays : Arrays K) (name : List ℕ) → AreArrays arrays → with_content arrays name (content_of arrays name) ≡ arrays
  with_content_same arrays name h =
      same_entries string_order nat_list_cmp_total names_apart (with_content arrays name (content_of arrays name)) arrays
      (to_T _ (names_rise (with_content arrays name (content_of arrays name)) (arrays_form arrays name (content_of arrays name) h
      (content_form arrays name h))))
      (to_T _ (names_rise arrays h))
      (λ q. by (find string_order name arrays) refl q)
    where
      other : (b : Bool) (q : List ℕ) (o : Option (Entries K)) → eq_by_cmp string_order q name ≡ b → o ≡ find string_order name
          arrays → cond b o (find string_order q arrays) ≡ find string_order q arrays
      other true q o tie is = is ∙ ap (λ n. find string_order n arrays) (sym (equal_names q name (is_Equal (string_order q name) tie)))
      other false q o tie is = refl

      gone : (b : Bool) (q : List ℕ) → eq_by_cmp string_order name q ≡ b → find string_order name arrays ≡ None → cond (not b)
          (find string_order q arrays) None ≡ find string_order q arrays
      gone true q tie is = sym is ∙ ap (λ n. find string_order n arrays) (equal_names name q (is_Equal (string_order name q) tie))
      gone false q tie is = refl

      by : (had : Option (Entries K)) → find string_order name arrays ≡ had → (q : List ℕ) → find string_order q
          (with_content arrays name (unwrap_or had [])) ≡ find string_order q arrays
      by (Some (e ∷ es)) is q = find-put string_order nat_list_cmp_total q name (e ∷ es) arrays
          ∙ other (eq_by_cmp string_order q name) q (Some (e ∷ es)) refl (sym is)
      by (Some []) is q = absurd (let f : is_good (name, []) ≡ true = found_passes string_order names_apart is_good name [] arrays
          (each_good arrays h) is in let g : false ≡ true = f in cc)
      by None is q =
          find-where_key string_order (λ n. not (eq_by_cmp string_order name n)) q
          (λ x e. ap (λ n. not (eq_by_cmp string_order name n)) (sym (equal_names q x e))) arrays
          ∙ gone (eq_by_cmp string_order name q) q refl is

-- ---- the calls of each kind

-- an absent word that is found is a word
found_word : (l : Entries ℕ) (x k : ℕ) → first_empty l x ≡ Some k → is_word k ≡ true
found_word l x k is = by (end_of_run x (filter (λ e. nat_le x e.0) l)) (nat_le (end_of_run x (filter (λ e. nat_le x e.0) l)) max_word) refl is
  where
    by : (e : ℕ) (b : Bool) → nat_le e max_word ≡ b → (if b then Some e else None) ≡ Some k → is_word k ≡ true
    by e true fits is =
        let same : e ≡ k = cc in
        ap is_word (sym same) ∙ fits
    by e false fits is = cc

-- a set has no additions, and fills words
one_suits : (c : OneCall) → Suits word_order nat_cmp_total nat_cmp-IsAntisymmetric is_one_entry (one_effect c)
one_suits (one.Fill x) = λ l k is f. and_from (is_word k) _ (found_word l x k is) refl
one_suits (one.Set x) = tt
one_suits _ = tt

-- what a call needs of its test to fill a key
abbrev Fills : {K : Type 0} → (K × ℕ → Bool) → Effect K → Type 0
Fills {K} test (Fill x find index v) = (l : Entries K) (k : K) → find l ≡ Some k → test (x, v) ≡ true → test (k, v) ≡ true
Fills test _ = Unit {0}

-- the calls of a map of words have it
long_fills : (c : LongCall) → Fills is_long_entry (long_effect c)
long_fills (long.Fill x v) = λ l k is f. and_from (is_word k) _ (found_word l x k is) (and_right (is_word x) _ f)
long_fills (long.Get x) = tt
long_fills _ = tt

-- no call of a map of strings or of byte arrays fills
string_fills : (c : StrCall) → Fills is_string_entry (string_effect c)
string_fills (str.Get x) = tt
string_fills _ = tt

bytes_fills : (c : BytesCall) → Fills is_bytes_entry (bytes_effect c)
bytes_fills (bytes.Get x) = tt
bytes_fills _ = tt

-- a test that takes words as values suits each call
suits_all : {K : Type 0} (order : Order K) (total : IsTotalOrder order) (same : IsAntisymmetric order) (test : K × ℕ → Bool)
    → TakesWords order total same test → (effect : Effect K) → Fills test effect → Suits order total same test effect
suits_all order total same test takes (Insert k (Plus n) reports) fills = takes
suits_all order total same test takes (Insert k Nothing reports) fills = tt
suits_all order total same test takes (Insert k (Value v) reports) fills = tt
suits_all order total same test takes (Keep k v) fills = tt
suits_all order total same test takes (Exchange k old new) fills = tt
suits_all order total same test takes (Remove k) fills = tt
suits_all order total same test takes (Take k) fills = tt
suits_all order total same test takes (RemoveIf k v) fills = tt
suits_all order total same test takes (Pop find show lack) fills = tt
suits_all order total same test takes (Cut find n) fills = tt
suits_all order total same test takes (Fill x find index v) fills = fills
suits_all order total same test takes Free fills = tt
suits_all order total same test takes (Ask answer) fills = tt

-- a call of a set keeps its content well-formed
one_form : (room : Bool) (l : Entries ℕ) (c : OneCall) → is_content word_order is_one_entry l ≡ true → IsTrue (effect_writes is_one_entry (one_effect c))
    → is_content word_order is_one_entry (one_step room l c).1 ≡ true
one_form room l c h w = effect_form word_order nat_cmp_total nat_cmp-IsAntisymmetric is_one_entry room l (one_effect c) (one_suits c) h w

-- of a JudyL
long_form : (room : Bool) (l : Entries ℕ) (effect : Effect ℕ) → Fills is_long_entry effect → is_content word_order is_long_entry l ≡ true → IsTrue (effect_writes is_long_entry effect)
    → is_content word_order is_long_entry (effect_step word_order room l effect).1 ≡ true
long_form room l effect fills h w = effect_form word_order nat_cmp_total nat_cmp-IsAntisymmetric is_long_entry room l effect
    (suits_all word_order nat_cmp_total nat_cmp-IsAntisymmetric is_long_entry
    (λ x v u f g. and_from (is_word x) _ (and_left (is_word x) _ f) g) effect fills) h w

-- of a JudySL
string_form : (room : Bool) (l : Entries (List ℕ)) (effect : Effect (List ℕ)) → Fills is_string_entry effect → is_content string_order is_string_entry l ≡ true
    → IsTrue (effect_writes is_string_entry effect)
    → is_content string_order is_string_entry (effect_step string_order room l effect).1 ≡ true
string_form room l effect fills h w = effect_form string_order nat_list_cmp_total names_apart is_string_entry room l effect
    (suits_all string_order nat_list_cmp_total names_apart is_string_entry
    (λ x v u f g. and_from (is_string x && are_bytes x) _ (and_left (is_string x && are_bytes x) _ f) g) effect fills) h w

-- of a JudyHS
byte_form : (room : Bool) (l : Entries (List ℕ)) (effect : Effect (List ℕ)) → Fills is_bytes_entry effect → is_content string_order is_bytes_entry l ≡ true
    → IsTrue (effect_writes is_bytes_entry effect)
    → is_content string_order is_bytes_entry (effect_step string_order room l effect).1 ≡ true
byte_form room l effect fills h w = effect_form string_order nat_list_cmp_total names_apart is_bytes_entry room l effect
    (suits_all string_order nat_list_cmp_total names_apart is_bytes_entry
    (λ x v u f g. and_from (is_byte_key x && are_bytes x) _ (and_left (is_byte_key x && are_bytes x) _ f) g) effect fills) h w

-- a call that its right allows keeps the arrays well-formed
allowed_keeps_form : (quota : Quota) (s : State) (call : Call) → IsWellFormed s → IsTrue (writes_entry call) → IsWellFormed (allowed_step quota s call).1
allowed_keeps_form quota s (One name c) h w = record {
  long = h.long;
  string = h.string;
  bytes = h.bytes;
  one = let room = has_room quota s (One name c) in
      arrays_form word_order is_one_entry s.one name (one_step room (content_of s.one name) c).1 h.one
      (one_form room (content_of s.one name) c (content_form word_order is_one_entry s.one name h.one) w);
}
allowed_keeps_form quota s (Long name c) h w = record {
  one = h.one;
  string = h.string;
  bytes = h.bytes;
  long = let room = has_room quota s (Long name c) in
      arrays_form word_order is_long_entry s.long name (long_step room (content_of s.long name) c).1 h.long
      (long_form room (content_of s.long name) (long_effect c) (long_fills c) (content_form word_order is_long_entry s.long name h.long) w);
}
allowed_keeps_form quota s (Str name c) h w = record {
  one = h.one;
  long = h.long;
  bytes = h.bytes;
  string = let room = has_room quota s (Str name c) in
      arrays_form string_order is_string_entry s.string name (string_step room (content_of s.string name) c).1 h.string
      (string_form room (content_of s.string name) (string_effect c) (string_fills c) (content_form string_order is_string_entry s.string name h.string) w);
}
allowed_keeps_form quota s (Bytes name c) h w = record {
  one = h.one;
  long = h.long;
  string = h.string;
  bytes = let room = has_room quota s (Bytes name c) in
      arrays_form string_order is_bytes_entry s.bytes name (bytes_step room (content_of s.bytes name) c).1 h.bytes
      (byte_form room (content_of s.bytes name) (bytes_effect c) (bytes_fills c) (content_form string_order is_bytes_entry s.bytes name h.bytes) w);
}
allowed_keeps_form quota s (Intersect name other i n) h w = h
allowed_keeps_form quota s (Names from n) h w = h
allowed_keeps_form quota s Used h w = h

-- each call keeps them well-formed
pub step_keeps_form : StepKeepsForm
step_keeps_form right quota s call h w = by (is_read_only right call)
  where
    by : (b : Bool) → IsWellFormed (cond {A = Reply × State} b (refusal_of right, s) (allowed_step quota s call)).1
    by true = h
    by false = allowed_keeps_form quota s call h w

-- ---- the word arrays of a well-formed state

-- what holds of all entries holds by a weaker test
weaker_test : {A : Type 0} (p q : A → Bool) → ((x : A) → p x ≡ true → q x ≡ true) → (xs : List A) → list_all p xs ≡ true → list_all q xs ≡ true
weaker_test p q h [] all = refl
weaker_test p q h (x ∷ xs) all = and_from (q x) _ (h x (and_left (p x) _ all)) (weaker_test p q h xs (and_right (p x) _ all))
