use Rattle.std.proofs.Common.{◌≡◌, ◌<◌, ◌≤◌, ◌+◌, ◌++◌, ◌∷◌, [], true, nat_lt, List, length, take, map, ap, sym, ◌∙◌, subst, arith, take_all, length-set}
use Rattle.std.specs.Prelude.{zip}
use Rattle.std.proofs.lemmas.List.{take_more, take_more_set, map-append}
use Rattle.std.proofs.lemmas.Bool.{and_parts, ltb-true}
use Rattle.std.proofs.Math.ListN.{set}
use Rattle.judy_model.specs.declared.replies.Reply.{Reply}
use Rattle.judy_model.specs.Service.{IsServed, AreServed}
use Rattle.judy_model.specs.Speakers.{Event as Told}
use Rattle.judy_model.specs.Worlds.{served-worlds}
use Rattle.judy_table.specs.declared.tenant.Tenant.{Tenant}
use Rattle.judy_tenants.specs.declared.replay.Event.{Event}
use Rattle.judy_tenants.specs.Held.{states_of, quotas_of, IsCallOf}
use Rattle.judy_tenants.specs.Runs.{told_event, is_answerable, AreCallsOf}
use Rattle.judy_tenants.proofs.Runs.{all-at, served-more, calls-more, zip-more, are-counted}
use Rattle.judy_tenants.proofs.service.Service.replay.Goals as goal

-- the next call can be answered
answerable-here : (g : _) (c : goal.After-found-1 g) → is_answerable c.args.self.now.tenants c.index-events-i.result ≡ true
answerable-here g c =
    subst (λ (e : Event). is_answerable c.args.self.now.tenants e ≡ true) (sym c.index-events-i.is)
    (all-at (is_answerable c.args.self.now.tenants) c.args.events.now c.loop-i.i c.index-events-i.result c.loop-i-test.true c.requires.answerable)

pub call-requires-clause-known : goal.call-requires-clause-known
call-requires-clause-known g c =
    subst (λ (ts : List Tenant). c.index-events-i.result.speaker.tenant < length ts) (sym c.loop-i.invariant.tenants)
    (ltb-true c.index-events-i.result.speaker.tenant (length c.args.self.now.tenants) (and_parts _ _ (answerable-here g c)).0)

pub call-requires-clause-string : goal.call-requires-clause-string
call-requires-clause-string g c =
    (and_parts (nat_lt c.index-events-i.result.speaker.tenant (length c.args.self.now.tenants)) _ (answerable-here g c)).1

pub loop-i-preserved : goal.loop-i-preserved
loop-i-preserved g c =
    let events : map told_event (take (c.loop-i.i + 1) c.args.events.now) ≡ map told_event (take c.loop-i.i c.args.events.now)
    ++ told_event c.index-events-i.result ∷ []
    = ap (map told_event) (take_more c.args.events.now c.loop-i.i c.index-events-i.result c.loop-i-test.true
    ∙ ap (λ (e : Event). take c.loop-i.i c.args.events.now ++ e ∷ []) (sym c.index-events-i.is))
    ∙ map-append told_event (take c.loop-i.i c.args.events.now) (c.index-events-i.result ∷ []) in
    let below : c.loop-i.i < length c.loop-i.replies = subst (λ n. c.loop-i.i < n) c.loop-i.invariant.long c.loop-i-test.true in
    let replies : take (c.loop-i.i + 1) (set c.loop-i.replies c.loop-i.i c.of.result) ≡ take c.loop-i.i c.loop-i.replies ++ c.call.result ∷ []
    = take_more_set c.loop-i.replies c.loop-i.i c.of.result below ∙ ap (λ (r : Reply). take c.loop-i.i c.loop-i.replies ++ r ∷ []) c.of.ensures in
    let served = subst (λ (ts : List Tenant). IsServed (quotas_of ts) (states_of c.loop-i.self) (told_event c.index-events-i.result)
    c.call.result (states_of c.call.new.self))
    c.loop-i.invariant.tenants c.call.ensures.served in
    let call : IsCallOf c.loop-i.self (told_event c.index-events-i.result) c.call.result c.call.new.self
    = record { served = c.call.ensures.served; cause = c.call.ensures.cause; keeps = c.call.ensures.keeps; sound = c.call.ensures.sound } in
    record {
      long = c.loop-i.invariant.long ∙ sym (length-set c.loop-i.replies c.loop-i.i c.of.result);
      tenants = c.call.ensures.tenants ∙ c.loop-i.invariant.tenants;
      served = subst (λ (es : List Told). AreServed (quotas_of c.args.self.now.tenants) (states_of c.args.self.now) es
          (take (c.loop-i.i + 1) (set c.loop-i.replies c.loop-i.i c.of.result)) (states_of c.call.new.self)) (sym events)
          (subst (λ (rs : List Reply). AreServed (quotas_of c.args.self.now.tenants) (states_of c.args.self.now)
          (map told_event (take c.loop-i.i c.args.events.now) ++ told_event c.index-events-i.result ∷ []) rs (states_of c.call.new.self)) (sym replies)
          (served-more c.one_call_is_a_run.ensures c.served_runs_go_on.ensures (quotas_of c.args.self.now.tenants)
          (states_of c.args.self.now) (states_of c.loop-i.self) (states_of c.call.new.self)
          (map told_event (take c.loop-i.i c.args.events.now)) (told_event c.index-events-i.result) (take c.loop-i.i c.loop-i.replies)
          c.call.result c.loop-i.invariant.served served));
      causes = subst
          (λ (es : List Told). AreCallsOf c.args.self.now
          (zip es (take (c.loop-i.i + 1) (set c.loop-i.replies c.loop-i.i c.of.result))) c.call.new.self) (sym events)
          (subst (λ (rs : List Reply). AreCallsOf c.args.self.now
          (zip (map told_event (take c.loop-i.i c.args.events.now) ++ told_event c.index-events-i.result ∷ []) rs) c.call.new.self)
          (sym replies)
          (subst (λ (ps : List (Told × Reply)). AreCallsOf c.args.self.now ps c.call.new.self)
          (sym (zip-more (map told_event (take c.loop-i.i c.args.events.now)) (take c.loop-i.i c.loop-i.replies)
          (told_event c.index-events-i.result) c.call.result c.loop-i.invariant.served.count))
          (calls-more c.args.self.now c.loop-i.self c.call.new.self (zip (map told_event (take c.loop-i.i c.args.events.now))
          (take c.loop-i.i c.loop-i.replies)) (told_event c.index-events-i.result) c.call.result
          c.loop-i.invariant.causes call)));
    }

-- at the end all events are answered
served-end : (g : _) (c : goal.After-loop-i g) → AreServed (quotas_of c.args.self.now.tenants) (states_of c.args.self.now)
    (map told_event c.args.events.now) c.loop-i.replies (states_of c.loop-i.self)
served-end g c =
    let past : length c.args.events.now ≤ c.loop-i.i = omega arith in
    let past_replies : length c.loop-i.replies ≤ c.loop-i.i = subst (λ n. n ≤ c.loop-i.i) c.loop-i.invariant.long past in
    subst (λ (es : List Event). AreServed (quotas_of c.args.self.now.tenants) (states_of c.args.self.now) (map told_event es)
    c.loop-i.replies (states_of c.loop-i.self)) (take_all c.loop-i.i c.args.events.now past)
    (subst (λ (rs : List Reply). AreServed (quotas_of c.args.self.now.tenants) (states_of c.args.self.now)
    (map told_event (take c.loop-i.i c.args.events.now)) rs (states_of c.loop-i.self))
    (take_all c.loop-i.i c.loop-i.replies past_replies) c.loop-i.invariant.served)

causes-end : (g : _) (c : goal.After-loop-i g) → AreCallsOf c.args.self.now (zip (map told_event c.args.events.now) c.loop-i.replies) c.loop-i.self
causes-end g c =
    let past : length c.args.events.now ≤ c.loop-i.i = omega arith in
    let past_replies : length c.loop-i.replies ≤ c.loop-i.i = subst (λ n. n ≤ c.loop-i.i) c.loop-i.invariant.long past in
    subst (λ (es : List Event). AreCallsOf c.args.self.now (zip (map told_event es) c.loop-i.replies) c.loop-i.self)
    (take_all c.loop-i.i c.args.events.now past)
    (subst (λ (rs : List Reply). AreCallsOf c.args.self.now (zip (map told_event (take c.loop-i.i c.args.events.now)) rs) c.loop-i.self)
    (take_all c.loop-i.i c.loop-i.replies past_replies) c.loop-i.invariant.causes)

pub returns-clause-worlds : goal.returns-clause-worlds
returns-clause-worlds g c = served-worlds c.tenants_are_answered_equally.ensures (quotas_of c.args.self.now.tenants) (states_of c.args.self.now)
    (map told_event c.args.events.now) c.loop-i.replies (states_of c.loop-i.self) (served-end g c)

pub returns-clause-count : goal.returns-clause-count
returns-clause-count g c = are-counted c.args.self.now c.loop-i.self (map told_event c.args.events.now) c.loop-i.replies (served-end g c).count (causes-end g c)
