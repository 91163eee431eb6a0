-- Runs of lines, and the changes of the table that join them.
--     runs_alone      between changes each tenant's replies are those that it would get alone
--     kept_alone      so they are over all lines, for a tenant that each change kept
use Rattle.std.proofs.Common.{◌≡◌, ℕ, Bool, true, false, List, [], ◌∷◌, ◌++◌, ◌+◌, length, sym, ◌∙◌, ap, subst, refl}
use Rattle.std.specs.Prelude.{◌==◌, map, zip}
use Rattle.std.proofs.lemmas.List.{map-append}
use Rattle.std.proofs.lemmas.List.Elements.{filter-append}
use Rattle.std.proofs.lemmas.List.{length-append}
use Rattle.judy_model.specs.Service.{ServingGoesOn, ServingIsStepwise, own}
use Rattle.judy_model.specs.Solo.{IsSolo, SoloGoesOn, SoloIsDetermined}
use Rattle.judy_model.specs.Speakers.{Event, attempt_of}
use Rattle.judy_model.specs.declared.replies.Reply.{Reply}
use Rattle.judy_model.specs.Worlds.{served-worlds}
use Rattle.judy_protocol.specs.Services.{AreMade, Seen}
use Rattle.judy_protocol.proofs.Ending.{are_served}
use Rattle.judy_protocol.proofs.Talking.{AreMade-append, zip-append}
use Rattle.std.proofs.Common.{append_assoc}
use Rattle.judy_many.specs.Changes.{AreGone, Chain, HasChanged, IsAlone, IsAloneFor, IsChange, exchanges}
use Rattle.judy_many.specs.Nets.{Act, Acts}
use Rattle.judy_many.specs.Rules.{Rules}
use Rattle.judy_many.specs.Sessions.{Turn, calls_of, events_in, replies_in}
use Rattle.judy_many.specs.Statuses.{Keeps, Passes}
use Rattle.judy_many.specs.Stories.{Story, first_with, runs_in, turns_in}
use Rattle.judy_many.specs.Stories.Moment.{Changed, Did, Ran}
use Rattle.judy_many.proofs.Seeing.{Called, IsUnseen, KeepsApart, turns_seen}

-- a new table keeps or empties each tenant's arrays
abbrev pub Stays : {S : Type 0} → Rules S → Type 0
Stays {S} rules = (before after : S) (text : List ℕ) → rules.changed before text after → IsChange (rules.seen before) (rules.seen after)

-- nothing was changed
pub unchanged_service : {S : Type 0} (rules : Rules S) (keep changed : Bool) (left : List (List ℕ)) (log log' : Acts) (before after : S)
    → HasChanged rules keep changed left log log' before after → changed ≡ false → (after ≡ before) × (left ≡ [])
unchanged_service rules keep true left log log' before after h e = absurd (never e)
  where
    never : true ≡ false → ⊥
    never e = cc
unchanged_service rules keep false left log log' before after h e = (h.0, h.1)

pub gone_then : (a b : List Act) → AreGone a → AreGone b → AreGone (a ++ b)
gone_then [] b h k = k
gone_then (x ∷ a) b h k = (h.0, gone_then a b h.1 k)

-- the calls of these lines were made
pub record AreCalled (before : Seen) (turns : List Turn) (after : Seen) : Type 0 where
  pub count : length (replies_in turns) ≡ length (events_in turns)
  pub calls : AreMade Called before (zip (events_in turns) (replies_in turns)) after

pub events_in-append : (ts us : List Turn) → events_in (ts ++ us) ≡ events_in ts ++ events_in us
events_in-append [] us = refl
events_in-append (t ∷ ts) us = ap (λ v. calls_of t ++ v) (events_in-append ts us) ∙ sym (append_assoc (calls_of t) (events_in ts) (events_in us))

pub replies_in-append : (ts us : List Turn) → replies_in (ts ++ us) ≡ replies_in ts ++ replies_in us
replies_in-append [] us = refl
replies_in-append (t ∷ ts) us = ap (λ v. t.replies ++ v) (replies_in-append ts us) ∙ sym (append_assoc t.replies (replies_in ts) (replies_in us))

called_then : (a b c : Seen) (ts us : List Turn) → AreCalled a ts b → AreCalled b us c → AreCalled a (ts ++ us) c
called_then a b c ts us h k =
    let es = events_in ts in
    let fs = events_in us in
    let rs = replies_in ts in
    let ss = replies_in us in
    record {
      count = ap length (replies_in-append ts us) ∙ length-append rs ss ∙ ap (λ n. n + length ss) h.count ∙ ap (λ n. length es + n) k.count
          ∙ sym (ap length (events_in-append ts us) ∙ length-append es fs);
      calls = subst (λ v. AreMade Called a (zip v (replies_in (ts ++ us))) c) (sym (events_in-append ts us))
          (subst (λ v. AreMade Called a (zip (es ++ fs) v) c) (sym (replies_in-append ts us))
          (subst (λ ps. AreMade Called a ps c) (sym (zip-append es fs rs ss h.count)) (AreMade-append Called a b c (zip es rs) (zip fs ss) h.calls k.calls)));
    }

-- lines before a chain
chain_with : (a b c : Seen) (ts : List Turn) (runs : List (List Turn)) → AreCalled a ts b → Chain AreCalled b runs c → Chain AreCalled a (first_with ts runs) c
chain_with a b c ts [] h k = absurd k
chain_with a b c ts (run ∷ []) h k = called_then a b c ts run h k
chain_with a b c ts (run ∷ more ∷ runs) h (mid, next, one, change, rest) = (mid, next, called_then a b mid ts run h one, change, rest)

-- the calls of a tenant among lines, and among others after them
calls-append : (t : ℕ) (es fs : List Event) (rs ss : List Reply) → length rs ≡ length es
    → own t (zip (es ++ fs) (rs ++ ss)) ≡ own t (zip es rs) ++ own t (zip fs ss)
calls-append t es fs rs ss h =
    ap (own t) (zip-append es fs rs ss h)
    ∙ ap (map (λ p. (attempt_of p.0, p.1))) (filter-append (λ p. p.0.speaker.tenant == t) (zip es rs) (zip fs ss))
    ∙ map-append (λ p. (attempt_of p.0, p.1)) _ _

exchanges-append : (t : ℕ) (ts us : List Turn) → length (replies_in ts) ≡ length (events_in ts) → exchanges t (ts ++ us) ≡ exchanges t ts ++ exchanges t us
exchanges-append t ts us count =
    ap (λ es. own t (zip es (replies_in (ts ++ us)))) (events_in-append ts us)
    ∙ ap (λ rs. own t (zip (events_in ts ++ events_in us) rs)) (replies_in-append ts us)
    ∙ calls-append t (events_in ts) (events_in us) (replies_in ts) (replies_in us) count

-- a change, and then a chain
chain_after : (a b c : Seen) (runs : List (List Turn)) → IsChange a b → Chain AreCalled b runs c → Chain AreCalled a ([] ∷ runs) c
chain_after a b c [] change k = absurd k
chain_after a b c (run ∷ runs) change k = (a, b, record { count = refl; calls = refl }, change, k)

chain_as : (P Q : Seen → List Turn → Seen → Type 0) → ((a b : Seen) (ts : List Turn) → P a ts b → Q a ts b)
    → (a c : Seen) (runs : List (List Turn)) → Chain P a runs c → Chain Q a runs c
chain_as P Q to a c [] h = absurd h
chain_as P Q to a c (run ∷ []) h = to a c run h
chain_as P Q to a c (run ∷ more ∷ runs) (mid, next, one, change, rest) = (mid, next, to a mid run one, change, chain_as P Q to next c (more ∷ runs) rest)

module _ {S : Type 0} (rules : Rules S) (apart : KeepsApart rules) (unseen : IsUnseen rules) (stays : Stays rules) where
  runs_called : (past : Story) (before after : S) (story : Story) → Passes rules past before story after → Chain AreCalled (rules.seen before) (runs_in story) (rules.seen after)
  runs_called past before after [] h = record { count = refl; calls = ap rules.seen h }
  runs_called past before after (Did a ∷ story) h = runs_called (past ++ Did a ∷ []) before after story h.1
  runs_called past before after (Ran n turns ∷ story) (mid, first, rest) =
      let seen = turns_seen rules apart unseen before mid turns first in
      chain_with (rules.seen before) (rules.seen mid) (rules.seen after) turns (runs_in story) (record { count = seen.0; calls = seen.1 }) (runs_called (past ++ Ran n turns ∷ []) mid after story rest)
  runs_called past before after (Changed text left ∷ story) (mid, step, rest) =
      chain_after (rules.seen before) (rules.seen mid) (rules.seen after) (runs_in story) (stays before mid text step) (runs_called (past ++ Changed text left ∷ []) mid after story rest)

  module _ (goes_on : ServingGoesOn) (one : ServingIsStepwise) (equal : SoloIsDetermined) where
    alone : (a b : Seen) (ts : List Turn) → AreCalled a ts b → IsAlone a ts b
    alone a b ts h =
        let (run, quotas, logins) = are_served Called (λ s. s) (λ before after event reply h. h) goes_on one equal a b (events_in ts) (replies_in ts) h.count h.calls in
        record { solo = run; worlds = served-worlds equal a.quotas a.states (events_in ts) (replies_in ts) b.states run; quotas = quotas }

    pub runs_alone : (past : Story) (before after : S) (story : Story) → Passes rules past before story after → Chain IsAlone (rules.seen before) (runs_in story) (rules.seen after)
    runs_alone past before after story h = chain_as AreCalled IsAlone alone (rules.seen before) (rules.seen after) (runs_in story) (runs_called past before after story h)

    solo_of : SoloGoesOn → (t : ℕ) (past : Story) (before after : S) (story : Story) (h : Passes rules past before story after) → Keeps rules t past before story after h
        → IsSolo ((rules.seen before).quotas t) ((rules.seen before).states t) (exchanges t (turns_in story)) ((rules.seen after).states t)
    solo_of steps t past before after [] h k = (alone (rules.seen before) (rules.seen after) [] (record { count = refl; calls = ap rules.seen h })).solo.solo t
    solo_of steps t past before after (Did a ∷ story) h k = solo_of steps t (past ++ Did a ∷ []) before after story h.1 k
    solo_of steps t past before after (Ran n turns ∷ story) (mid, first, rest) k =
        let seen = turns_seen rules apart unseen before mid turns first in
        let here : IsAlone (rules.seen before) turns (rules.seen mid) = alone (rules.seen before) (rules.seen mid) turns (record { count = seen.0; calls = seen.1 }) in
        let quota = (rules.seen before).quotas t in
        let state = (rules.seen before).states t in
        let last = (rules.seen after).states t in
        let later : IsSolo quota ((rules.seen mid).states t) (exchanges t (turns_in story)) last
        = subst (λ q. IsSolo q ((rules.seen mid).states t) (exchanges t (turns_in story)) last) (ap (λ q. q t) here.quotas) (solo_of steps t (past ++ Ran n turns ∷ []) mid after story rest k) in
        subst (λ p. IsSolo quota state p last) (sym (exchanges-append t turns (turns_in story) seen.0))
        ((steps quota state (exchanges t turns) (exchanges t (turns_in story)) last).1 ((rules.seen mid).states t, here.solo.solo t, later))
    solo_of steps t past before after (Changed text left ∷ story) (mid, step, rest) (quota, state, k) =
        subst (λ s. IsSolo ((rules.seen before).quotas t) s (exchanges t (turns_in story)) ((rules.seen after).states t)) state
        (subst (λ q. IsSolo q ((rules.seen mid).states t) (exchanges t (turns_in story)) ((rules.seen after).states t)) quota (solo_of steps t (past ++ Changed text left ∷ []) mid after story rest k))

    pub kept_alone : SoloGoesOn → (past : Story) (before after : S) (story : Story) (h : Passes rules past before story after) (t : ℕ) → Keeps rules t past before story after h
        → IsAloneFor t (rules.seen before) (turns_in story) (rules.seen after)
    kept_alone steps past before after story h t k =
        let solo = solo_of steps t past before after story h k in record {
          solo = solo;
          worlds = λ pairs last there calls marks.
              equal ((rules.seen before).quotas t) ((rules.seen before).states t) pairs (exchanges t (turns_in story)) last ((rules.seen after).states t) there solo calls marks;
        }
