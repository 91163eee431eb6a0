-- The numbers of entries and pieces of an array after a call.
use Rattle.std.proofs.Common.{◌≡◌, ℕ, zero, suc, ◌+◌, ◌≤◌, Bool, true, false, not, cond, [], length, refl, sym, ◌∙◌, ap, subst, arith, Option, Some, None}
use Rattle.std.specs.Prelude.{is_some, ◌==◌}
use Rattle.std.specs.Cmp.{IsTotalOrder}
use Rattle.std.specs.Ordering.{eq_by_cmp}
use Rattle.std.specs.FinMap.{find, is_sorted, IsAntisymmetric}
use Rattle.std.specs.FinMap.Entries.{is_sorted-where_key, length-put, length_without}
use Rattle.judy_model.specs.declared.calls.Given.{Given}
use Rattle.judy_model.specs.Contents.{Order, Entries, value_of, has_key, with_entry, without_key}
use Rattle.judy_model.specs.Pieces.{pieces_of, string_pieces, word_pieces}
use Rattle.judy_model.specs.Tenant.Effect.{Insert, Keep, Exchange, Remove, Take, RemoveIf, Pop, Cut, Fill, Free, Ask}
use Rattle.judy_model.specs.Tenant.{keep_over, exchange_over, remove_over}
use Rattle.judy_model.specs.Tenant.{Effect, Reports, value_after, insert_over, insert, effect_step, effect_asks_for_new, effect_pieces}
use Rattle.judy_model.specs.Tenant.{bytes_effect, string_effect}
use Rattle.judy_model.specs.declared.calls.BytesCall.{BytesCall}
use Rattle.judy_model.specs.declared.calls.BytesCall.TheVariants as bytes
use Rattle.judy_model.specs.declared.calls.StrCall.{StrCall}
use Rattle.judy_model.specs.declared.calls.StrCall.TheVariants as str
use Rattle.judy_model.specs.Tenant.{Lack, Shown, cut_from, fill_at, fill_over, lacks, pop_over}
use Rattle.judy_model.specs.WellFormed.{Grows}
use Rattle.judy_model.proofs.lemmas.PieceLemmas.{pieces_of-with_entry, pieces_of-without_key}
use Rattle.judy_model.proofs.lemmas.TestLemmas.{from_T, to_T}

-- a measure of contents that adds up over keys: no entries have 0, a new key adds its weight, and
-- removing keys adds nothing
pub record Measure {K : Type 0} (order : Order K) (size : Entries K → ℕ) (weight : K → ℕ) : Type 0 where
  pub none : size [] ≡ 0
  pub put : (l : Entries K) (k : K) (v : ℕ) → is_sorted order l ≡ true → size (with_entry order l k v) ≡ cond (has_key order l k) (size l) (size l + weight k)
  pub less : (l : Entries K) (k : K) → is_sorted order l ≡ true → size (without_key order l k) ≤ size l

-- the number of entries is such a measure
pub lengths : {K : Type 0} (order : Order K) → IsTotalOrder order → Measure order length (λ k. 1)
lengths order o = record {
  none = refl;
  put = λ l k v h. length-put order o k v l (to_T _ h);
  less = λ l k h. let e = length_without order o k l (to_T _ h) in omega (arith, e);
}

-- the number of pieces is such a measure
pub sizes : {K : Type 0} (order : Order K) → IsTotalOrder order → IsAntisymmetric order → (size : K → ℕ) → Measure order (pieces_of size) size
sizes order o same size = record {
  none = refl;
  put = pieces_of-with_entry order o same size;
  less = λ l k h. let e = pieces_of-without_key order o same size l k h in omega (arith, e);
}

-- ---- a call of an array

-- n is the weight of the key that a call would insert
abbrev pub Weighs : {K : Type 0} → (K → ℕ) → Effect K → ℕ → Type 0
Weighs weight (Insert k given reports) n = n ≡ weight k
Weighs weight (Keep k v) n = n ≡ weight k
Weighs {K} weight (Fill x find index v) n = (k : K) → n ≡ weight k
Weighs weight _ n = Unit {0}

-- each key counts as 1
pub one_each : {K : Type 0} (effect : Effect K) → Weighs (λ k. 1) effect 1
one_each (Insert k given reports) = refl
one_each (Keep k v) = refl
one_each (Exchange k old new) = tt
one_each (Remove k) = tt
one_each (Take k) = tt
one_each (RemoveIf k v) = tt
one_each (Pop find show lack) = tt
one_each (Cut find n) = tt
one_each (Fill x find index v) = λ k. refl
one_each Free = tt
one_each (Ask answer) = tt

-- keys are filled only where each has the same size
abbrev pub FillsAlike : {K : Type 0} → (K → ℕ) → Effect K → Type 0
FillsAlike {K} size (Fill x find index v) = (k : K) → size x ≡ size k
FillsAlike size _ = Unit {0}

-- so it is of words
pub words_alike : (effect : Effect ℕ) → FillsAlike word_pieces effect
words_alike (Insert k given reports) = tt
words_alike (Keep k v) = tt
words_alike (Exchange k old new) = tt
words_alike (Remove k) = tt
words_alike (Take k) = tt
words_alike (RemoveIf k v) = tt
words_alike (Pop find show lack) = tt
words_alike (Cut find n) = tt
words_alike (Fill x find index v) = λ k. refl
words_alike Free = tt
words_alike (Ask answer) = tt

-- and no call of strings or of byte arrays fills
pub strings_alike : (c : StrCall) → FillsAlike string_pieces (string_effect c)
strings_alike (str.Get k) = tt
strings_alike _ = tt

pub bytes_alike : (c : BytesCall) → FillsAlike string_pieces (bytes_effect c)
bytes_alike (bytes.Get k) = tt
bytes_alike _ = tt

-- a key counts as its size
pub its_size : {K : Type 0} (size : K → ℕ) (effect : Effect K) → FillsAlike size effect → Weighs size effect (effect_pieces size effect)
its_size size (Insert k given reports) alike = refl
its_size size (Keep k v) alike = refl
its_size size (Exchange k old new) alike = tt
its_size size (Remove k) alike = tt
its_size size (Take k) alike = tt
its_size size (RemoveIf k v) alike = tt
its_size size (Pop find show lack) alike = tt
its_size size (Cut find n) alike = tt
its_size size (Fill x find index v) alike = alike
its_size size Free alike = tt
its_size size (Ask answer) alike = tt

module _ {K : Type 0} (order : Order K) (size : Entries K → ℕ) (weight : K → ℕ) (m : Measure order size weight) where
  -- an insert grows it by the weight of a new key
  insert_grows : (room : Bool) (l : Entries K) (k : K) (given : Given) (reports : Reports) → is_sorted order l ≡ true
      → Grows (not (has_key order l k)) room (weight k) (size l) (size (insert order room l k given reports).1)
  insert_grows room l k given reports h = by (find order k l) refl
    where
      by : (had : Option ℕ) → find order k l ≡ had
          → Grows (not (is_some had)) room (weight k) (size l) (size (insert_over order room l k given reports had).1)
      by (Some v) is = let e = m.put l k (value_after given v) h ∙ ap (λ o. cond (is_some o) (size l) (size l + weight k)) is in omega (arith, e)
      by None is = elim room as (λ r. Grows true r (weight k) (size l) (size (insert_over order r l k given reports None).1)) [
        | true ↦ m.put l k (value_after given 0) h ∙ ap (λ o. cond (is_some o) (size l) (size l + weight k)) is
        | false ↦ refl
      ]

  -- so does a key that is kept
  keep_grows : (room : Bool) (l : Entries K) (k : K) (v : ℕ) → is_sorted order l ≡ true
      → Grows (not (has_key order l k)) room (weight k) (size l) (size (keep_over order room l k v (value_of order l k)).1)
  keep_grows room l k v h = by (find order k l) refl
    where
      by : (had : Option ℕ) → find order k l ≡ had → Grows (not (is_some had)) room (weight k) (size l) (size (keep_over order room l k v had).1)
      by (Some w) is = omega arith
      by None is = elim room as (λ r. Grows true r (weight k) (size l) (size (keep_over order r l k v None).1)) [
        | true ↦ m.put l k v h ∙ ap (λ o. cond (is_some o) (size l) (size l + weight k)) is
        | false ↦ refl
      ]

  -- another value of a present key adds nothing
  exchange_grows : (l : Entries K) (k : K) (old new : ℕ) → is_sorted order l ≡ true
      → size (exchange_over order l k old new (value_of order l k)).1 ≤ size l
  exchange_grows l k old new h = by (find order k l) refl
    where
      by : (had : Option ℕ) → find order k l ≡ had → size (exchange_over order l k old new had).1 ≤ size l
      by None is = omega arith
      by (Some v) is = elim (v == old) as (λ b. size (cond b (with_entry order l k new) l) ≤ size l) [
        | true ↦ let e = m.put l k new h ∙ ap (λ o. cond (is_some o) (size l) (size l + weight k)) is in omega (arith, e)
        | false ↦ omega arith
      ]

  -- nor does a removal
  remove_grows : (l : Entries K) (k : K) (v : ℕ) → is_sorted order l ≡ true → size (remove_over order l k v (value_of order l k)).1 ≤ size l
  remove_grows l k v h = by (find order k l)
    where
      by : (had : Option ℕ) → size (remove_over order l k v had).1 ≤ size l
      by None = omega arith
      by (Some w) = elim (w == v) as (λ b. size (cond b (without_key order l k) l) ≤ size l) [ true ↦ m.less l k h | false ↦ omega arith ]

  pop_grows : (l : Entries K) (show : K × ℕ → Shown) (lack : Lack) → is_sorted order l ≡ true
      → (found : Option (K × ℕ)) → size (pop_over order l show lack found).1 ≤ size l
  pop_grows l show lack h None = omega arith
  pop_grows l show lack h (Some e) = m.less l e.0 h

  -- nor removals one after another
  cut_grows : (search : Entries K → Option (K × ℕ)) (count n : ℕ) (l : Entries K) (found : Option (K × ℕ)) → is_sorted order l ≡ true
      → size (cut_from order search count n l found).1 ≤ size l
  cut_grows search count zero l found h = omega arith
  cut_grows search count (suc n) l None h = omega arith
  cut_grows search count (suc n) l (Some e) h =
      let rest = without_key order l e.0 in
      let one = m.less l e.0 h in
      let more = cut_grows search (count + 1) n rest (search rest)
      (from_T _ (is_sorted-where_key order (λ x. not (eq_by_cmp order e.0 x)) l (to_T _ h))) in
      omega (arith, one, more)

  -- a key that is found and absent counts as each does
  fill_grows : (room : Bool) (l : Entries K) (index : K → ℕ) (v n : ℕ) (found : Option K) → is_sorted order l ≡ true → ((k : K) → n ≡ weight k)
      → Grows (lacks order l found) room n (size l) (size (fill_over order room l index v found).1)
  fill_grows room l index v n None h w = omega arith
  fill_grows room l index v n (Some k) h w =
      subst (λ z. Grows (not (has_key order l k)) room z (size l) (size (fill_over order room l index v (Some k)).1)) (sym (w k)) (by (value_of order l k) refl)
    where
      by : (had : Option ℕ) → value_of order l k ≡ had → Grows (not (is_some had)) room (weight k) (size l) (size (fill_at order room l (index k) k v had).1)
      by (Some w) is = omega arith
      by None is = elim room as (λ r. Grows true r (weight k) (size l) (size (fill_at order r l (index k) k v None).1)) [
        | true ↦ m.put l k v h ∙ ap (λ o. cond (is_some o) (size l) (size l + weight k)) is
        | false ↦ refl
      ]

  -- a call grows it by the weight of a key that it asks for
  pub effect_grows : (room : Bool) (l : Entries K) (effect : Effect K) (n : ℕ) → is_sorted order l ≡ true → Weighs weight effect n
      → Grows (effect_asks_for_new order l effect) room n (size l) (size (effect_step order room l effect).1)
  effect_grows room l (Insert k given reports) n h w =
      subst (λ z. Grows (not (has_key order l k)) room z (size l) (size (insert order room l k given reports).1))
      (sym w) (insert_grows room l k given reports h)
  effect_grows room l (Keep k v) n h w =
      subst (λ z. Grows (not (has_key order l k)) room z (size l) (size (keep_over order room l k v (value_of order l k)).1))
      (sym w) (keep_grows room l k v h)
  effect_grows room l (Exchange k old new) n h w = exchange_grows l k old new h
  effect_grows room l (Remove k) n h w = m.less l k h
  effect_grows room l (Take k) n h w = m.less l k h
  effect_grows room l (RemoveIf k v) n h w = remove_grows l k v h
  effect_grows room l (Pop find show lack) n h w = pop_grows l show lack h (find l)
  effect_grows room l (Cut find most) n h w = cut_grows find 0 most l (find l) h
  effect_grows room l (Fill x find index v) n h w = fill_grows room l index v n (find l) h w
  effect_grows room l Free n h w = omega (arith, m.none)
  effect_grows room l (Ask answer) n h w = omega arith

-- what holds of one array holds of the whole tenant
pub lifted : (asks room : Bool) (w n m before after : ℕ) → after + n ≡ before + m → Grows asks room w n m → Grows asks room w before after
lifted true true w n m before after e h = omega (arith, e, h)
lifted true false w n m before after e h = omega (arith, e, h)
lifted false room w n m before after e h = omega (arith, e, h)
