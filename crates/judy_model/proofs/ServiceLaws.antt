-- Runs of a service of many tenants: they join, they are determined, and tenants that make no call
-- keep their arrays.
use Rattle.std.proofs.Common.{◌≡◌, ◌≢◌, ℕ, Bool, true, false, cond, List, [], ◌∷◌, ◌++◌, length, refl, sym, ◌∙◌, ap, subst}
use Rattle.std.proofs.Common.{map, arith, eqb-true, ne_eqb, length-append}
use Rattle.std.proofs.lemmas.Bool.{eqb-false, eq-eqb}
use Rattle.std.specs.Prelude.{filter, zip, ◌==◌}
use Rattle.std.proofs.lemmas.List.Elements.{filter-append}
use Rattle.judy_model.specs.declared.replies.Reply.{Reply}
use Rattle.judy_model.specs.Tenant.{State, Attempt}
use Rattle.judy_model.specs.Speakers.{Event, attempt_of}
use Rattle.judy_model.specs.Solo.{IsAnswered, AreAnswered, IsSolo}
use Rattle.judy_model.specs.Service.{States, own, events_by, IsServed, AreServed, ServingIsStepwise, ServingGoesOn, ServingIsDetermined, IdleTenantsRest}
use Rattle.judy_model.proofs.SoloLemmas.{AreAnswered-IsSolo, IsSolo-AreAnswered, solo_is_determined, solo_goes_on}

-- the pairs of a ++ b
zip-append : (es fs : List Event) (rs ss : List Reply) → length rs ≡ length es → zip (es ++ fs) (rs ++ ss) ≡ zip es rs ++ zip fs ss
zip-append [] fs [] ss h = refl
zip-append [] fs (r ∷ rs) ss h = absurd (omega arith)
zip-append (e ∷ es) fs [] ss h = absurd (omega arith)
zip-append (e ∷ es) fs (r ∷ rs) ss h = ap (λ z. (e, r) ∷ z) (zip-append es fs rs ss (omega arith))

-- a list changed in two parts
map-append : {A B : Type 0} (f : A → B) (xs ys : List A) → map f (xs ++ ys) ≡ map f xs ++ map f ys
map-append f [] ys = refl
map-append f (x ∷ xs) ys = ap (λ z. f x ∷ z) (map-append f xs ys)

-- the tenant of a pair
abbrev is_of : ℕ → Event × Reply → Bool
is_of tenant p = p.0.speaker.tenant == tenant

-- the attempt with its reply
abbrev exchange : Event × Reply → Attempt × Reply
exchange p = (attempt_of p.0, p.1)

-- the tenant's own exchanges of a ++ b
own-append : (tenant : ℕ) (es fs : List Event) (rs ss : List Reply) → length rs ≡ length es
    → own tenant (zip (es ++ fs) (rs ++ ss)) ≡ own tenant (zip es rs) ++ own tenant (zip fs ss)
own-append tenant es fs rs ss h =
    ap (λ z. map exchange (filter (is_of tenant) z)) (zip-append es fs rs ss h)
    ∙ ap (map exchange) (filter-append (is_of tenant) (zip es rs) (zip fs ss))
    ∙ map-append exchange (filter (is_of tenant) (zip es rs)) (filter (is_of tenant) (zip fs ss))

-- one event belongs to its tenant
own_mine : (tenant : ℕ) (e : Event) (r : Reply) → e.speaker.tenant ≡ tenant → own tenant (zip (e ∷ []) (r ∷ [])) ≡ (attempt_of e, r) ∷ []
own_mine tenant e r is = subst (λ t. own t (zip (e ∷ []) (r ∷ [])) ≡ (attempt_of e, r) ∷ []) is
    (ap (λ b. map exchange (cond b ((e, r) ∷ []) [])) (eq-eqb e.speaker.tenant e.speaker.tenant refl))

-- and to no other tenant
own_other : (tenant : ℕ) (e : Event) (r : Reply) → (e.speaker.tenant == tenant) ≡ false → own tenant (zip (e ∷ []) (r ∷ [])) ≡ []
own_other tenant e r is = ap (λ b. map exchange (cond b ((e, r) ∷ []) [])) is

-- a run of one call is that call
pub serving_is_stepwise : ServingIsStepwise
serving_is_stepwise quotas before after event reply = (there, back)
  where
    there : IsServed quotas before event reply after → AreServed quotas before (event ∷ []) (reply ∷ []) after
    there h = record {
      count = refl;
      solo = λ t. AreAnswered-IsSolo (quotas t) (before t) (own t (zip (event ∷ []) (reply ∷ [])))
          (after t) (by t (event.speaker.tenant == t) refl);
    }
      where
        by : (t : ℕ) (b : Bool) → (event.speaker.tenant == t) ≡ b → AreAnswered (quotas t) (before t) (own t (zip (event ∷ []) (reply ∷ []))) (after t)
        by t true is =
            let mine : event.speaker.tenant ≡ t = eqb-true event.speaker.tenant t is in
            subst (λ pairs. AreAnswered (quotas t) (before t) pairs (after t)) (sym (own_mine t event reply mine))
            (after t, subst (λ u. IsAnswered (quotas u) (before u) (attempt_of event) reply (after u)) mine h.answered, refl)
        by t false is =
            subst (λ pairs. AreAnswered (quotas t) (before t) pairs (after t)) (sym (own_other t event reply is))
            (h.others t (λ e. eqb-false event.speaker.tenant t is (sym e)))

    back : AreServed quotas before (event ∷ []) (reply ∷ []) after → IsServed quotas before event reply after
    back h = record { answered = mine; others = rest }
      where
        mine : IsAnswered (quotas event.speaker.tenant) (before event.speaker.tenant) (attempt_of event) reply (after event.speaker.tenant)
        mine =
            let u = event.speaker.tenant in
            let run = subst (λ pairs. AreAnswered (quotas u) (before u) pairs (after u)) (own_mine u event reply refl)
            (IsSolo-AreAnswered (quotas u) (before u) (own u (zip (event ∷ []) (reply ∷ []))) (after u) (h.solo u)) in
            subst (λ s. IsAnswered (quotas u) (before u) (attempt_of event) reply s) (sym run.2) run.1

        rest : (tenant : ℕ) → tenant ≢ event.speaker.tenant → after tenant ≡ before tenant
        rest u other =
            subst (λ pairs. AreAnswered (quotas u) (before u) pairs (after u)) (own_other u event reply (apart u other))
            (IsSolo-AreAnswered (quotas u) (before u) (own u (zip (event ∷ []) (reply ∷ []))) (after u) (h.solo u))
          where
            apart : (u : ℕ) → u ≢ event.speaker.tenant → (event.speaker.tenant == u) ≡ false
            apart u other = ne_eqb event.speaker.tenant u (λ e. other (sym e))

-- consecutive runs
pub serving_goes_on : ServingGoesOn
serving_goes_on quotas before last events more replies others long = (cut, join)
  where
    parts : (t : ℕ) → own t (zip (events ++ more) (replies ++ others)) ≡ own t (zip events replies) ++ own t (zip more others)
    parts t = own-append t events more replies others long

    cut : AreServed quotas before (events ++ more) (replies ++ others) last
        → (mid : States) × AreServed quotas before events replies mid × AreServed quotas mid more others last
    cut h =
        let each : (t : ℕ) → (mid : State) × IsSolo (quotas t) (before t) (own t (zip events replies)) mid × IsSolo (quotas t) mid
        (own t (zip more others)) (last t)
        = λ t. (solo_goes_on (quotas t) (before t) (own t (zip events replies)) (own t (zip more others)) (last t)).0
        (subst (λ pairs. IsSolo (quotas t) (before t) pairs (last t)) (parts t) (h.solo t)) in (
          λ t. (each t).0,
          record { count = long; solo = λ t. (each t).1 },
          record { count = omega (arith, h.count, length-append replies others, length-append events more, long); solo = λ t. (each t).2 },
        )

    join : ((mid : States) × AreServed quotas before events replies mid × AreServed quotas mid more others last)
        → AreServed quotas before (events ++ more) (replies ++ others) last
    join (mid, h, k) = record {
      count = omega (arith, h.count, k.count, length-append replies others, length-append events more);
      solo = λ t. subst (λ pairs. IsSolo (quotas t) (before t) pairs (last t)) (sym (parts t))
          ((solo_goes_on (quotas t) (before t) (own t (zip events replies)) (own t (zip more others)) (last t)).1 (mid t, h.solo t, k.solo t));
    }

-- two services answer a tenant equally
pub serving_is_determined : ServingIsDetermined
serving_is_determined quotas quotas' before before' after after' events events' replies replies' here there t u quota state calls marks =
    solo_is_determined (quotas t) (before t) (own t (zip events replies)) (own u (zip events' replies')) (after t) (after' u)
    (here.solo t)
    (subst (λ q. IsSolo q (before t) (own u (zip events' replies')) (after' u)) (sym quota)
    (subst (λ s. IsSolo (quotas' u) s (own u (zip events' replies')) (after' u)) (sym state) (there.solo u)))
    calls marks

-- a tenant with no events has no exchanges
own_none : (tenant : ℕ) (events : List Event) (replies : List Reply) → events_by tenant events ≡ [] → own tenant (zip events replies) ≡ []
own_none tenant [] replies h = refl
own_none tenant (e ∷ es) [] h = refl
own_none tenant (e ∷ es) (r ∷ rs) h = by (e.speaker.tenant == tenant) h (own_none tenant es rs)
  where
    by : (b : Bool) → cond b (e ∷ events_by tenant es) (events_by tenant es) ≡ [] → (events_by tenant es ≡ [] → own tenant (zip es rs) ≡ [])
        → map exchange (cond b ((e, r) ∷ filter (is_of tenant) (zip es rs)) (filter (is_of tenant) (zip es rs))) ≡ []
    by true none more = cc
    by false none more = more none

-- and keeps its arrays
pub idle_tenants_rest : IdleTenantsRest
idle_tenants_rest quotas before after events replies tenant served none =
    IsSolo-AreAnswered (quotas tenant) (before tenant) [] (after tenant)
    (subst (λ pairs. IsSolo (quotas tenant) (before tenant) pairs (after tenant)) (own_none tenant events replies none) (served.solo tenant))
