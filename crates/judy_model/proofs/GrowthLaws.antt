-- A call adds an entry and its pieces only if it asks for a new entry and the quota has room.
use Rattle.std.proofs.Common.{◌≡◌, ℕ, ◌+◌, ◌≤◌, Bool, true, false, List, length, refl, ap, arith}
use Rattle.std.specs.Prelude.{nat_lt}
use Rattle.std.specs.Cmp.{nat_cmp_total}
use Rattle.std.specs.Cmp.Lexicographic.{nat_list_cmp_total}
use Rattle.std.specs.FinMap.{is_sorted, nat_cmp-IsAntisymmetric}
use Rattle.std.proofs.lemmas.Bool.Decides.{nat_tests}
use Rattle.judy_model.specs.declared.calls.Call.{Call}
use Rattle.judy_model.specs.declared.calls.Call.TheVariants.{One, Long, Str, Bytes, Intersect, Names, Used}
use Rattle.judy_model.specs.declared.quotas.Quota.{Quota}
use Rattle.judy_model.specs.declared.quotas.Right.{Right}
use Rattle.judy_model.specs.declared.quotas.Right.TheVariants.{Change, Look, Frozen}
use Rattle.judy_model.specs.Contents.{Entries, word_order, string_order}
use Rattle.judy_model.specs.Pieces.{word_pieces, string_pieces, pieces_of}
use Rattle.judy_model.specs.Tenant.{State, content_of, used, pieces, one_step, long_step, string_step, bytes_step}
use Rattle.judy_model.specs.Tenant.{one_effect, long_effect, string_effect, bytes_effect}
use Rattle.judy_model.specs.Tenant.{one_asks_for_new, long_asks_for_new, string_asks_for_new, bytes_asks_for_new}
use Rattle.judy_model.specs.Tenant.{asks_for_new, new_pieces, has_room, allowed_step, step}
use Rattle.judy_model.specs.WellFormed.{is_one_entry, is_long_entry, is_string_entry, is_bytes_entry, IsWellFormed, Grows, IsWithin, StepKeepsQuota}
use Rattle.judy_model.proofs.lemmas.StateLemmas.{total, total-with_content}
use Rattle.judy_model.proofs.lemmas.FormLemmas.{names_apart, names_rise, content_form}
use Rattle.judy_model.proofs.RefusalLaws.{look_keeps, frozen_keeps}
use Rattle.judy_model.proofs.lemmas.TestLemmas.{and_left, and_right}
use Rattle.judy_model.proofs.lemmas.GrowthLemmas.{Measure, Weighs, lengths, sizes, one_each, its_size, words_alike, strings_alike, bytes_alike, effect_grows, lifted}
use Rattle.judy_model.proofs.lemmas.GapLemmas.{le_of}

-- ---- a call of a tenant

module _ (words : Entries ℕ → ℕ) (word : ℕ → ℕ) (of_words : Measure word_order words word) (texts : Entries (List ℕ) → ℕ)
    (text : List ℕ → ℕ) (of_texts : Measure string_order texts text) where
  -- the measure of all arrays
  abbrev whole : State → ℕ
  whole s = total words of_words.none s.one + total words of_words.none s.long + total texts of_texts.none s.string + total texts of_texts.none s.bytes

  -- n is the weight of the key that the call would insert
  abbrev WeighsIn : Call → ℕ → Type 0
  WeighsIn (One name c) n = Weighs word (one_effect c) n
  WeighsIn (Long name c) n = Weighs word (long_effect c) n
  WeighsIn (Str name c) n = Weighs text (string_effect c) n
  WeighsIn (Bytes name c) n = Weighs text (bytes_effect c) n
  WeighsIn (Intersect name other i k) n = Unit {0}
  WeighsIn (Names from k) n = Unit {0}
  WeighsIn Used n = Unit {0}

  -- a call that its right allows
  allowed_grows : (quota : Quota) (s : State) (call : Call) (n : ℕ) → IsWellFormed s → WeighsIn call n
      → Grows (asks_for_new Change s call) (has_room quota s call) n (whole s) (whole (allowed_step quota s call).1)
  allowed_grows quota s (One name c) n h w =
      let room = has_room quota s (One name c) in
      let l = content_of s.one name in
      let m = (one_step room l c).1 in
      let e = total-with_content words of_words.none s.one name m (names_rise word_order is_one_entry s.one h.one) in
      lifted (one_asks_for_new l c) room n (words l) (words m) (whole s) (whole (allowed_step quota s (One name c)).1) (omega (arith, e))
      (effect_grows word_order words word of_words room l (one_effect c) n (and_left (is_sorted word_order l) _ (content_form word_order is_one_entry s.one name h.one)) w)
  allowed_grows quota s (Long name c) n h w =
      let room = has_room quota s (Long name c) in
      let l = content_of s.long name in
      let m = (long_step room l c).1 in
      let e = total-with_content words of_words.none s.long name m (names_rise word_order is_long_entry s.long h.long) in
      lifted (long_asks_for_new l c) room n (words l) (words m) (whole s) (whole (allowed_step quota s (Long name c)).1) (omega (arith, e))
      (effect_grows word_order words word of_words room l (long_effect c) n (and_left (is_sorted word_order l) _ (content_form word_order is_long_entry s.long name h.long)) w)
  allowed_grows quota s (Str name c) n h w =
      let room = has_room quota s (Str name c) in
      let l = content_of s.string name in
      let m = (string_step room l c).1 in
      let e = total-with_content texts of_texts.none s.string name m (names_rise string_order is_string_entry s.string h.string) in
      lifted (string_asks_for_new l c) room n (texts l) (texts m) (whole s) (whole (allowed_step quota s (Str name c)).1) (omega (arith, e))
      (effect_grows string_order texts text of_texts room l (string_effect c) n
      (and_left (is_sorted string_order l) _ (content_form string_order is_string_entry s.string name h.string)) w)
  allowed_grows quota s (Bytes name c) n h w =
      let room = has_room quota s (Bytes name c) in
      let l = content_of s.bytes name in
      let m = (bytes_step room l c).1 in
      let e = total-with_content texts of_texts.none s.bytes name m (names_rise string_order is_bytes_entry s.bytes h.bytes) in
      lifted (bytes_asks_for_new l c) room n (texts l) (texts m) (whole s) (whole (allowed_step quota s (Bytes name c)).1) (omega (arith, e))
      (effect_grows string_order texts text of_texts room l (bytes_effect c) n
      (and_left (is_sorted string_order l) _ (content_form string_order is_bytes_entry s.bytes name h.bytes)) w)
  allowed_grows quota s (Intersect name other i k) n h w = omega arith
  allowed_grows quota s (Names from k) n h w = omega arith
  allowed_grows quota s Used n h w = omega arith

  -- a call of any right
  step_grows : (right : Right) (quota : Quota) (s : State) (call : Call) (n : ℕ) → IsWellFormed s → WeighsIn call n
      → Grows (asks_for_new right s call) (has_room quota s call) n (whole s) (whole (step right quota s call).1)
  step_grows Change quota s call n h w = allowed_grows quota s call n h w
  step_grows Look quota s call n h w = let e = ap whole (look_keeps quota s call h) in omega (arith, e)
  step_grows Frozen quota s call n h w = let e = ap whole (frozen_keeps quota s call h) in omega (arith, e)

-- ---- entries and pieces, each

used_grows : (right : Right) (quota : Quota) (s : State) (call : Call) → IsWellFormed s
    → Grows (asks_for_new right s call) (has_room quota s call) 1 (used s) (used (step right quota s call).1)
used_grows right quota s call h =
    step_grows length (λ k. 1) (lengths word_order nat_cmp_total) length (λ k. 1) (lengths string_order nat_list_cmp_total) right
    quota s call 1 h (each call)
  where
    each : (c : Call) → WeighsIn length (λ k. 1) (lengths word_order nat_cmp_total) length (λ k. 1) (lengths string_order nat_list_cmp_total) c 1
    each (One name c) = one_each (one_effect c)
    each (Long name c) = one_each (long_effect c)
    each (Str name c) = one_each (string_effect c)
    each (Bytes name c) = one_each (bytes_effect c)
    each (Intersect name other i n) = tt
    each (Names from n) = tt
    each Used = tt

pieces_grow : (right : Right) (quota : Quota) (s : State) (call : Call) → IsWellFormed s
    → Grows (asks_for_new right s call) (has_room quota s call) (new_pieces call) (pieces s) (pieces (step right quota s call).1)
pieces_grow right quota s call h =
    step_grows (pieces_of word_pieces) word_pieces (sizes word_order nat_cmp_total nat_cmp-IsAntisymmetric word_pieces)
    (pieces_of string_pieces) string_pieces (sizes string_order nat_list_cmp_total names_apart string_pieces) right quota s call
    (new_pieces call) h (its_own call)
  where
    its_own : (c : Call) → WeighsIn (pieces_of word_pieces) word_pieces (sizes word_order nat_cmp_total nat_cmp-IsAntisymmetric word_pieces)
        (pieces_of string_pieces) string_pieces (sizes string_order nat_list_cmp_total names_apart string_pieces) c (new_pieces c)
    its_own (One name c) = its_size word_pieces (one_effect c) (words_alike (one_effect c))
    its_own (Long name c) = its_size word_pieces (long_effect c) (words_alike (long_effect c))
    its_own (Str name c) = its_size string_pieces (string_effect c) (strings_alike c)
    its_own (Bytes name c) = its_size string_pieces (bytes_effect c) (bytes_alike c)
    its_own (Intersect name other i n) = tt
    its_own (Names from n) = tt
    its_own Used = tt

-- what grows only if there is room stays within the quota
bounded : (asks room : Bool) (n most before after : ℕ) → Grows asks room n before after → (room ≡ true → before + n ≤ most) → before ≤ most → after ≤ most
bounded true true n most before after h fits k = omega (arith, h, fits refl)
bounded true false n most before after h fits k = omega (arith, h)
bounded false room n most before after h fits k = omega (arith, h)

-- the meaning of room
below : (a b : ℕ) → nat_lt a b ≡ true → a + 1 ≤ b
below a b h = grind (arith, nat_tests)

-- so entries and pieces stay within the quota
stays_within : (asks : Bool) (quota : Quota) (s new : State) (call : Call) → Grows asks (has_room quota s call) 1 (used s) (used new)
    → Grows asks (has_room quota s call) (new_pieces call) (pieces s) (pieces new) → IsWithin quota s → IsWithin quota new
stays_within asks quota s new call entries sizes (few, small) = (
  bounded asks (has_room quota s call) 1 quota.entries (used s) (used new) entries
      (λ r. below (used s) quota.entries (and_left (nat_lt (used s) quota.entries) _ r)) few,
  bounded asks (has_room quota s call) (new_pieces call) quota.pieces (pieces s) (pieces new) sizes
      (λ r. le_of (pieces s + new_pieces call) quota.pieces (and_right (nat_lt (used s) quota.entries) _ r)) small,
)

-- and the quota holds
pub step_keeps_quota : StepKeepsQuota
step_keeps_quota right quota s call h = (
  used_grows right quota s call h,
  pieces_grow right quota s call h,
  stays_within (asks_for_new right s call) quota s (step right quota s call).1 call (used_grows right quota s call h) (pieces_grow right quota s call h),
)
