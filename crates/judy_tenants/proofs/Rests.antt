-- A call that is no insertion leaves an empty array empty.
use Rattle.std.proofs.Common.{◌≡◌, ◌+◌, ℕ, zero, suc, List, [], true, false, Option, Some, None, is_some, ◌==◌, ◌&&◌, ap, sym, ◌∙◌, refl}
use Rattle.std.specs.Prelude.{unwrap_or}
use Rattle.std.proofs.lemmas.Bool.{and_parts, eqb-true}
use Rattle.judy_arena.specs.Blocks.{Blocks}
use Rattle.judy_directory.specs.Places.{Stand, nothing}
use Rattle.judy_model.specs.declared.calls.Call.{Call}
use Rattle.judy_model.specs.declared.calls.Call.TheVariants as call
use Rattle.judy_model.specs.declared.replies.Reply.{Reply}
use Rattle.judy_model.specs.Contents.{Order, Entries, word_order, string_order}
use Rattle.judy_model.specs.Tenant.Effect.{Insert, Keep, Exchange, Remove, Take, RemoveIf, Pop, Cut, Fill, Free, Ask}
use Rattle.judy_model.specs.Tenant.{Effect, effect_step, effect_inserts, inserts, one_effect, long_effect, string_effect, bytes_effect, cut_from, pop_over}
use Rattle.judy_model.specs.Tenant.{one_step, long_step, string_step, bytes_step}
use Rattle.judy_words.specs.OneArrays.{one_in}
use Rattle.judy_words.specs.LongArrays.{long_in}
use Rattle.judy_string.specs.StringArrays.{string_in}
use Rattle.judy_bytes.specs.BytesArrays.{bytes_in}
use Rattle.judy_kinds.specs.Kinds.{IsArrayOf}
use Rattle.judy_kinds.specs.Calls.{kind_of_call, AnswersAt}
use Rattle.judy_kinds.specs.Laws.{OnlyNothingIsEmpty}

-- nothing is cut from an empty array
cut_rests : {K : Type 0} (order : Order K) (search : Entries K → Option (K × ℕ)) (done n : ℕ) (found : Option (K × ℕ))
    → (cut_from order search done n [] found).1 ≡ []
cut_rests order search done zero found = refl
cut_rests order search done (suc n) None = refl
cut_rests order search done (suc n) (Some e) = cut_rests order search (done + 1) n (search [])

-- a call that is no insertion leaves an empty array empty
effect_rests : {K : Type 0} (order : Order K) (effect : Effect K) → effect_inserts effect ≡ false → (effect_step order true [] effect).1 ≡ []
effect_rests order (Insert k given reports) h = cc
effect_rests order (Keep k v) h = cc
effect_rests order (Exchange k old new) h = refl
effect_rests order (Remove k) h = refl
effect_rests order (Take k) h = refl
effect_rests order (RemoveIf k v) h = refl
effect_rests {K} order (Pop find show lack) h = by (find [])
  where
    by : (found : Option (K × ℕ)) → (pop_over order [] show lack found).1 ≡ []
    by (Some e) = refl
    by None = refl
effect_rests order (Cut find n) h = cut_rests order find 0 n (find [])
effect_rests order (Fill x find index v) h = cc
effect_rests order Free h = refl
effect_rests order (Ask answer) h = refl

-- the content after a step that begins and ends with no entries
left : {K : Type 0} (step : Entries K → Reply × Entries K) (before after : Entries K) (r : Reply) → before ≡ [] → (step []).1 ≡ []
    → step before ≡ (r, after) → after ≡ []
left step before after r none rests e = sym (ap (λ z. z.1) e) ∙ ap (λ l. (step l).1) none ∙ rests

-- a call that is no insertion leaves an empty array empty
pub nothing-rests : (H : List ℕ → ℕ) → OnlyNothingIsEmpty → (a b : Blocks) (c : Call) (r : Reply) (x : ℕ) → inserts c ≡ false
    → AnswersAt a 0 c r b x → IsArrayOf H (kind_of_call c) b x → x ≡ 0
nothing-rests H empties a b (call.One name c) r x h e s =
    ((empties H b).1 x).set s (left (λ l. one_step true l c) (one_in a 0) (one_in b x) r (empties H a).0.set (effect_rests word_order (one_effect c) h) e)
nothing-rests H empties a b (call.Long name c) r x h e s =
    ((empties H b).1 x).map s (left (λ l. long_step true l c) (long_in a 0) (long_in b x) r (empties H a).0.map (effect_rests word_order (long_effect c) h) e)
nothing-rests H empties a b (call.Str name c) r x h e s =
    ((empties H b).1 x).string s (left (λ l. string_step true l c) (string_in a 0) (string_in b x) r (empties H a).0.string (effect_rests string_order (string_effect c) h) e)
nothing-rests H empties a b (call.Bytes name c) r x h e s =
    ((empties H b).1 x).bytes s (left (λ l. bytes_step true l c) (bytes_in a 0) (bytes_in b x) r (empties H a).0.bytes (effect_rests string_order (bytes_effect c) h) e)
nothing-rests H empties a b (call.Intersect name other i n) r x h e s = absurd e
nothing-rests H empties a b (call.Names from n) r x h e s = absurd e
nothing-rests H empties a b call.Used r x h e s = absurd e

-- without a place there is nothing
pub no_stand : (o : Option Stand) → is_some o ≡ false → unwrap_or o nothing ≡ nothing
no_stand None e = refl
no_stand (Some p) e = cc

-- places with equal numbers are equal
pub same-stand : (p q : Stand) → (p.root == q.root && (p.entries == q.entries && p.pieces == q.pieces)) ≡ true → p ≡ q
same-stand p q e =
    let first = and_parts (p.root == q.root) (p.entries == q.entries && p.pieces == q.pieces) e in
    let second = and_parts (p.entries == q.entries) (p.pieces == q.pieces) first.1 in
    let root : p.root ≡ q.root = eqb-true p.root q.root first.0 in
    let entries : p.entries ≡ q.entries = eqb-true p.entries q.entries second.0 in
    let pieces : p.pieces ≡ q.pieces = eqb-true p.pieces q.pieces second.1 in
    λ i. record { root = root i; entries = entries i; pieces = pieces i }
