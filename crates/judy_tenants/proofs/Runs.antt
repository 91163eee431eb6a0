-- Many calls of a service, one after another.
use Rattle.std.proofs.Common.{sym, ◌∙◌, ◌≡◌, ◌<◌, ◌+◌, ◌-◌, ◌^◌, ℕ, Bool, true, false, cond, List, [], ◌∷◌, ◌++◌, length, map}
use Rattle.std.proofs.Common.{ap, refl, subst, arith, inl, inr, ◌⊎◌}
use Rattle.std.specs.List.{list_all}
use Rattle.std.proofs.Math.ListN.{get_or}
use Rattle.std.proofs.lemmas.List.Folds.{list_all_at}
use Rattle.std.specs.Prelude.{zip, MatchBool}
use Rattle.judy_arena.specs.Blocks.{count_up}
use Rattle.judy_model.specs.declared.replies.Reply.{Reply}
use Rattle.judy_model.specs.Solo.{is_memory}
use Rattle.judy_model.specs.Service.{Quotas, States, IsServed, AreServed, ServingIsStepwise, ServingGoesOn}
use Rattle.judy_model.specs.Speakers.{Event as Told}
use Rattle.judy_tenants.specs.Held.{Held, HasCause, IsCallOf, IsQuiet, IsShortService, IsUnplaced}
use Rattle.judy_tenants.specs.Runs.{AreCallsOf, memories, AreCounted}

-- one call more
pub served-more : ServingIsStepwise → ServingGoesOn → (quotas : Quotas) (before mid after : States) (events : List Told)
    (event : Told) (replies : List Reply) (reply : Reply)
    → AreServed quotas before events replies mid → IsServed quotas mid event reply after → AreServed quotas before
    (events ++ event ∷ []) (replies ++ reply ∷ []) after
served-more one on quotas before mid after events event replies reply h g =
    (on quotas before after events (event ∷ []) replies (reply ∷ []) h.count).1 (mid, h, (one quotas mid after event reply).0 g)

pub calls-more : (old mid new : Held) (ps : List (Told × Reply)) (event : Told) (reply : Reply) → AreCallsOf old ps mid
    → IsCallOf mid event reply new → AreCallsOf old (ps ++ (event, reply) ∷ []) new
calls-more old mid new [] event reply h g = (new, subst (λ (m : Held). IsCallOf m event reply new) h g, refl)
calls-more old mid new (p ∷ ps) event reply h g = (h.0, h.1, calls-more h.0 mid new ps event reply h.2 g)

-- two lists zipped, with one more element in each
pub zip-more : {A B : Type 0} (xs : List A) (ys : List B) (x : A) (y : B) → length ys ≡ length xs → zip (xs ++ x ∷ []) (ys ++ y ∷ []) ≡ zip xs ys ++ (x, y) ∷ []
zip-more [] [] x y e = refl
zip-more [] (b ∷ ys) x y e = cc
zip-more (a ∷ xs) [] x y e = cc
zip-more (a ∷ xs) (b ∷ ys) x y e = let same : length ys ≡ length xs = omega (arith, e) in ap (λ l. (a, b) ∷ l) (zip-more xs ys x y same)

-- ---- how many replies are `ERR MEMORY`

-- a counter that is not saturated went up by one
counted_up : (n m : ℕ) → m ≡ count_up n → m < 2 ^ 64 - 1 → m ≡ n + 1
counted_up n m e h = omega (arith, e, h)

-- the two counts after one call
abbrev total : Held → ℕ
total h = h.refusals + h.unplaced

abbrev IsLow : Held → Type 0
IsLow h = (h.refusals < 2 ^ 64 - 1) × (h.unplaced < 2 ^ 64 - 1)

one_counted : (event : Told) (old mid : Held) (r : Reply) (b : Bool) → is_memory r ≡ b → HasCause event old r mid → IsLow mid
    → IsLow old × (total old + cond b 1 0 ≡ total mid)
one_counted event old mid r b e h low = by b (subst (λ a. MatchBool a (IsShortService old mid ⊎ IsUnplaced event old mid) (IsQuiet old mid)) e h)
  where
    by : (b : Bool) → MatchBool b (IsShortService old mid ⊎ IsUnplaced event old mid) (IsQuiet old mid) → IsLow old × (total old + cond b 1 0 ≡ total mid)
    by true (inl h) =
        let up : mid.refusals ≡ old.refusals + 1 = counted_up old.refusals mid.refusals h.refusals low.0 in
        let same : mid.unplaced ≡ old.unplaced = h.unplaced in
        let a = low.0 in let c = low.1 in
        ((omega (arith, up, a), omega (arith, same, c)), omega (arith, up, same))
    by true (inr h) =
        let up : mid.unplaced ≡ old.unplaced + 1 = counted_up old.unplaced mid.unplaced h.unplaced low.1 in
        let same : mid.refusals ≡ old.refusals = h.refusals in
        let a = low.0 in let c = low.1 in
        ((omega (arith, same, a), omega (arith, up, c)), omega (arith, up, same))
    by false h =
        let first : mid.refusals ≡ old.refusals = h.refusals in
        let second : mid.unplaced ≡ old.unplaced = h.unplaced in
        let a = low.0 in let c = low.1 in
        ((omega (arith, first, a), omega (arith, second, c)), omega (arith, first, second))

all_counted : (old new : Held) (ps : List (Told × Reply)) → AreCallsOf old ps new → IsLow new → IsLow old
    × (total old + memories (map (λ (p : Told × Reply). p.1) ps) ≡ total new)
all_counted old new [] h low = let e : total new ≡ total old = ap total h in (subst IsLow h low, omega (arith, e))
all_counted old new (p ∷ ps) h low =
    let rest = all_counted h.0 new ps h.2 low in
    let first = one_counted p.0 old h.0 p.1 (is_memory p.1) refl h.1.cause rest.0 in
    let a : total old + cond (is_memory p.1) 1 0 ≡ total h.0 = first.1 in
    let b : total h.0 + memories (map (λ (p : Told × Reply). p.1) ps) ≡ total new = rest.1 in
    (first.0, omega (arith, a, b))

-- the replies of a run
replies_of-zip : (events : List Told) (replies : List Reply) → length replies ≡ length events → map (λ (p : Told × Reply). p.1) (zip events replies) ≡ replies
replies_of-zip [] [] e = refl
replies_of-zip [] (r ∷ replies) e = cc
replies_of-zip (a ∷ events) [] e = cc
replies_of-zip (a ∷ events) (r ∷ replies) e = let same : length replies ≡ length events = omega (arith, e) in ap (λ l. r ∷ l)
    (replies_of-zip events replies same)

-- there are as many replies `ERR MEMORY` as refused requests
pub are-counted : (old new : Held) (events : List Told) (replies : List Reply) → length replies ≡ length events → AreCallsOf old
    (zip events replies) new → AreCounted old replies new
are-counted old new events replies e h low low' =
    subst (λ l. total old + memories l ≡ total new) (replies_of-zip events replies e) (all_counted old new (zip events replies) h (low, low')).1

-- what holds of all elements holds of each
pub all-at : {X : Type 0} (p : X → Bool) (xs : List X) (i : ℕ) (d : X) → i < length xs → list_all p xs ≡ true → p (get_or xs i d) ≡ true
all-at p xs i d h all = elim (p (get_or xs i d)) as (λ b. p (get_or xs i d) ≡ b → b ≡ true) [
  | true ↦ λ e. refl
  | false ↦ λ e. absurd (unlike (sym (list_all_at p xs i d h e) ∙ all))
] refl
  where
    unlike : false ≡ true → ⊥
    unlike e = cc
