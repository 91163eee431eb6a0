-- When the arena refuses no call any more: once more words were taken from the machine than 128 for
-- each word that the quotas of the tables so far allow to be live. A request is refused only while every run of 512 words
-- has a live block, and there are never that many. Counters saturate; a service whose count of
-- refusals is saturated is left out.
--     HasEnough held    so many words were taken from the machine
--     enough-for-call   a call of such a service is not refused by the arena
--     enough-stays      and the service is one of these for ever
--     enough-for-run    so in any run of calls each `ERR MEMORY` is for a name without a place
--     HasRoom held      there is room for more names than the quotas allow pieces
--     room-for-run      with both, no call of any run is refused for memory
use Rattle.std.proofs.Common.{◌≡◌, ◌⊎◌, inl, inr, ℕ, ◌-◌, ◌*◌, ◌^◌, ◌<◌, ◌≤◌, List, [], ◌∷◌, length, ap, sym, ◌∙◌, subst, refl, arith}
use Rattle.std.specs.Prelude.{MatchBool, IsTrue}
use Rattle.std.proofs.Common.{Bool, true, false, cond, zero, suc}
use Rattle.std.proofs.lemmas.List.Sums.{sum_by-cons}
use Rattle.judy_model.specs.declared.replies.Reply.{Reply}
use Rattle.judy_model.specs.Solo.{is_memory}
use Rattle.judy_model.specs.Speakers.{Event}
use Rattle.judy_model.specs.Contents.{Entries}
use Rattle.judy_model.specs.Pieces.{pieces_of, word_pieces, string_pieces}
use Rattle.judy_model.specs.Service.{Quotas, States}
use Rattle.judy_model.specs.Tenant.{Arrays, State, pieces, pieces_in}
use Rattle.judy_model.specs.WellFormed.{has_entries}
use Rattle.judy_tenants.specs.Held.{Held, IsQuiet, IsShortService, IsUnplaced, IsSoundService, IsCallOf}
use Rattle.judy_tenants.specs.Held.{all_arrays, all_quotas, arrays_in, filled_in, quotas_of, states_of}
use Rattle.judy_tenants.specs.Runs.{AreCallsOf, AreForNames, NoneForMemory}

-- more words were taken from the machine than 128 for each that the quotas of the tables so far allow
-- to be live
abbrev pub HasEnough : Held → Type 0
HasEnough held = 128 * held.granted < held.region

module _ (old : Held) (event : Event) (r : Reply) (new : Held) (call_of : IsCallOf old event r new) (enough : HasEnough old) where
  -- the arena refused nothing
  pub enough-for-call : new.refusals ≡ old.refusals
  enough-for-call = by call_of.keeps.memory.refused
    where
      by : (new.refusals ≡ old.refusals) ⊎ (old.region ≤ 128 * new.peak) → new.refusals ≡ old.refusals
      by (inl same) = same
      by (inr tight) = let peak = call_of.sound.peak in let same = call_of.keeps.granted in absurd (omega (arith, enough, tight, peak, same))

  -- so it will refuse nothing later
  pub enough-stays : HasEnough new
  enough-stays = let kept = call_of.keeps.memory.kept in let same = call_of.keeps.granted in omega (arith, enough, kept, same)

  -- and a reply `ERR MEMORY` is for a name without a place
  pub enough-names : old.refusals < 2 ^ 64 - 1 → IsTrue (is_memory r) → IsUnplaced event old new
  enough-names low e = by (subst (λ b. MatchBool b (IsShortService old new ⊎ IsUnplaced event old new) (IsQuiet old new)) e call_of.cause)
    where
      by : IsShortService old new ⊎ IsUnplaced event old new → IsUnplaced event old new
      by (inl short) = let up = short.refusals in let same = enough-for-call in absurd (omega (arith, up, same, low))
      by (inr names) = names

-- any calls of such a service, one after another
pub enough-for-run : (old : Held) (ps : List (Event × Reply)) (new : Held) → HasEnough old → old.refusals < 2 ^ 64 - 1 → AreCallsOf old ps new
    → AreForNames old ps new × HasEnough new × (new.refusals ≡ old.refusals)
enough-for-run old [] new enough low run = (run, subst HasEnough (sym run) enough, ap (λ (h : Held). h.refusals) run)
enough-for-run old (p ∷ ps) new enough low (mid, one, run) =
    let same = enough-for-call old p.0 p.1 mid one enough in
    let (names, last, rest) = enough-for-run mid ps new (enough-stays old p.0 p.1 mid one enough) (omega (arith, same, low)) run in
    ((mid, one, enough-names old p.0 p.1 mid one enough low, names), last, rest ∙ same)

-- ---- names

-- an array with entries has a piece
some-piece : {K : Type 0} (size : K → ℕ) → ((k : K) → 1 ≤ size k) → (l : Entries K) → cond {A = ℕ} (has_entries l) 1 0 ≤ pieces_of size l
some-piece size some [] = omega arith
some-piece size some (e ∷ es) = let all = sum_by-cons (λ x. size x.0) e es in let one = some e.0 in omega (arith, all, one)

-- there are at most as many arrays of a kind as pieces of it
few-filled : {K : Type 0} (size : K → ℕ) → ((k : K) → 1 ≤ size k) → (arrays : Arrays K) → filled_in arrays ≤ pieces_in size arrays
few-filled size some [] = omega arith
few-filled {K} size some (a ∷ arrays) =
    let counted = sum_by-cons (λ (x : List ℕ × Entries K). cond {A = ℕ} (has_entries x.1) 1 0) a arrays in
    let summed = sum_by-cons (λ (x : List ℕ × Entries K). pieces_of size x.1) a arrays in
    let first = some-piece size some a.1 in let rest = few-filled size some arrays in omega (arith, counted, summed, first, rest)

few-arrays : (s : State) → arrays_in s ≤ pieces s
few-arrays s =
    let one = few-filled word_pieces (λ k. omega arith) s.one in let long = few-filled word_pieces (λ k. omega arith) s.long in
    let string = few-filled string_pieces (λ k. omega arith) s.string in let bytes = few-filled string_pieces (λ k. omega arith) s.bytes in
    omega (arith, one, long, string, bytes)

few-names : (n : ℕ) (states : States) (quotas : Quotas) → ((t : ℕ) → pieces (states t) ≤ (quotas t).pieces) → all_arrays n states ≤ all_quotas n quotas
few-names zero states quotas h = omega arith
few-names (suc n) states quotas h =
    let rest = few-names n states quotas h in let here = h n in let few = few-arrays (states n) in omega (arith, rest, here, few)

-- there is room for more names than the quotas allow pieces
abbrev pub HasRoom : Held → Type 0
HasRoom held = all_quotas (length held.tenants) (quotas_of held.tenants) < held.room

-- so no name is without a place
pub room-for-names : (old : Held) (event : Event) (new : Held) → IsSoundService old → HasRoom old → IsUnplaced event old new → ⊥
room-for-names old event new sound room u =
    let few = few-names (length old.tenants) (states_of old) (quotas_of old.tenants) (λ t. (sound.within t).1) in
    let names = sound.names in let many = u.many in omega (arith, few, names, many, room)

-- and there is room for ever
pub room-stays : (old : Held) (event : Event) (r : Reply) (new : Held) → IsCallOf old event r new → HasRoom old → HasRoom new
room-stays old event r new call_of room =
    let bound = ap (λ ts. all_quotas (length ts) (quotas_of ts)) call_of.keeps.tenants in let same = call_of.keeps.room in omega (arith, bound, same, room)

-- with enough words and room, no call is refused for memory
pub room-for-call : (old : Held) (event : Event) (r : Reply) (new : Held) → IsSoundService old → HasEnough old → HasRoom old
    → old.refusals < 2 ^ 64 - 1 → IsCallOf old event r new → is_memory r ≡ false
room-for-call old event r new sound enough room low call_of = by (is_memory r) refl
  where
    by : (b : Bool) → is_memory r ≡ b → is_memory r ≡ false
    by false e = e
    by true e = absurd (room-for-names old event new sound room (enough-names old event r new call_of enough low e))

-- nor is any call of a run, whatever is called
pub room-for-run : (old : Held) (ps : List (Event × Reply)) (new : Held) → IsSoundService old → HasEnough old → HasRoom old
    → old.refusals < 2 ^ 64 - 1 → AreCallsOf old ps new → NoneForMemory ps
room-for-run old [] new sound enough room low run = tt
room-for-run old (p ∷ ps) new sound enough room low (mid, one, run) =
    let same = enough-for-call old p.0 p.1 mid one enough in (
      room-for-call old p.0 p.1 mid sound enough room low one,
      room-for-run mid ps new one.sound (enough-stays old p.0 p.1 mid one enough) (room-stays old p.0 p.1 mid one room) (omega (arith, same, low)) run,
    )
