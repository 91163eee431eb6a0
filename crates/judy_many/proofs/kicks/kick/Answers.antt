use Rattle.std.proofs.Common.{◌≡◌, ◌∙◌, [], ◌∷◌, ◌++◌, ap, length, map, subst, sym}
use Rattle.std.specs.Prelude.{option_map}
use Rattle.judy_many.specs.Crowds.{at_stage}
use Rattle.judy_many.specs.Kicks.{HasName, after_kick, kick_acts, kick_reply, speaks_as}
use Rattle.judy_many.specs.Lives.{view_of}
use Rattle.judy_many.specs.Nets.{DidLog}
use Rattle.judy_many.specs.Nets.Act.{Named, Replied}
use Rattle.judy_many.specs.Questions.{Stage}
use Rattle.judy_many.specs.Rules.{rules_of}
use Rattle.judy_many.specs.Stories.Phase.{Sweeps}
use Rattle.judy_many.specs.Watches.{nobody}
use Rattle.judy_many.proofs.Crowding.{has_answered, has_named}
use Rattle.judy_many.proofs.Living.{then_log}
use Rattle.judy_many.proofs.kicks.kick.Goals as goal

pub returns-clause-crowd : goal.returns-clause-crowd
returns-clause-crowd g c = λ limits first now start past e asked settled h.
    has_answered (λ b. view_of g.S.Served.who g.N.Network.number b.value) (rules_of g.S.Served.made g.S.Served.seen g.S.Shows.noted g.S.Shows.status g.S.Shows.changed g.S.Shows.caps g.S.Shows.leavers) limits first start Sweeps (nobody c.close_all-count.new.clients.queue) (at_stage Stage.Chosen past) _ _ _ _ now _ e tt settled c.reply.ensures
    (c.close_all-count.ensures.crowd limits first now start (at_stage Stage.Chosen past) e
    (has_named (λ b. view_of g.S.Served.who g.N.Network.number b.value) (rules_of g.S.Served.made g.S.Served.seen g.S.Shows.noted g.S.Shows.status g.S.Shows.changed g.S.Shows.caps g.S.Shows.leavers) limits first start Sweeps (nobody c.args.clients.now.queue) past _ _ _ _ now _ e asked c.named-name.ensures h))

pub returns-clause-kicked : goal.returns-clause-kicked
returns-clause-kicked g c = record {
  name = c.named-name.result;
  has = c.has-has.result;
  yes = λ e. subst (HasName (g.S.Served.seen c.args.service.now).names) c.as_bytes-2.ensures.value (c.has-has.ensures.yes e);
  no = λ e k. sym c.as_bytes-2.ensures.value ∙ c.has-has.ensures.no e (subst (HasName (g.S.Served.seen c.args.service.now).names) (sym c.as_bytes-2.ensures.value) k);
  closed = subst (λ n. map (option_map (λ b. view_of g.S.Served.who g.N.Network.number b.value)) c.close_all-count.new.clients.slots.items ≡ map (after_kick (speaks_as (g.S.Served.seen c.args.service.now).names n)) (map (option_map (λ b. view_of g.S.Served.who g.N.Network.number b.value)) c.args.clients.now.slots.items))
      c.as_bytes.ensures.value c.close_all-count.ensures.slots;
  logged = then_log _ _ _ (Named c.named-name.result ∷ []) (kick_acts (speaks_as (g.S.Served.seen c.args.service.now).names c.named-name.result) (map (option_map (λ b. view_of g.S.Served.who g.N.Network.number b.value)) c.args.clients.now.slots.items) ++ Replied (kick_reply c.has-has.result (length (kick_acts (speaks_as (g.S.Served.seen c.args.service.now).names c.named-name.result) (map (option_map (λ b. view_of g.S.Served.who g.N.Network.number b.value)) c.args.clients.now.slots.items)))) ∷ []) c.named-name.ensures
      (then_log _ _ _ (kick_acts (speaks_as (g.S.Served.seen c.args.service.now).names c.named-name.result) (map (option_map (λ b. view_of g.S.Served.who g.N.Network.number b.value)) c.args.clients.now.slots.items)) (Replied (kick_reply c.has-has.result (length (kick_acts (speaks_as (g.S.Served.seen c.args.service.now).names c.named-name.result) (map (option_map (λ b. view_of g.S.Served.who g.N.Network.number b.value)) c.args.clients.now.slots.items)))) ∷ []) closes
      (subst (λ text. DidLog (g.N.Network.log c.close_all-count.new.network) (Replied text ∷ []) (g.N.Network.log c.reply.new.self)) said c.reply.ensures));
}
  where
    closes : DidLog (g.N.Network.log c.named-name.new.self) (kick_acts (speaks_as (g.S.Served.seen c.args.service.now).names c.named-name.result) (map (option_map (λ b. view_of g.S.Served.who g.N.Network.number b.value)) c.args.clients.now.slots.items)) (g.N.Network.log c.close_all-count.new.network)
    closes = subst (λ n. DidLog (g.N.Network.log c.named-name.new.self) (kick_acts (speaks_as (g.S.Served.seen c.args.service.now).names n) (map (option_map (λ b. view_of g.S.Served.who g.N.Network.number b.value)) c.args.clients.now.slots.items)) (g.N.Network.log c.close_all-count.new.network))
        c.as_bytes.ensures.value c.close_all-count.ensures.closed

    counted : c.close_all-count.result ≡ length (kick_acts (speaks_as (g.S.Served.seen c.args.service.now).names c.named-name.result) (map (option_map (λ b. view_of g.S.Served.who g.N.Network.number b.value)) c.args.clients.now.slots.items))
    counted = subst (λ n. c.close_all-count.result ≡ length (kick_acts (speaks_as (g.S.Served.seen c.args.service.now).names n) (map (option_map (λ b. view_of g.S.Served.who g.N.Network.number b.value)) c.args.clients.now.slots.items))) c.as_bytes.ensures.value c.close_all-count.ensures.count

    said : c.as_slice.result.now ≡ kick_reply c.has-has.result (length (kick_acts (speaks_as (g.S.Served.seen c.args.service.now).names c.named-name.result) (map (option_map (λ b. view_of g.S.Served.who g.N.Network.number b.value)) c.args.clients.now.slots.items)))
    said = c.as_slice.ensures.value ∙ c.reply_line.ensures ∙ ap (kick_reply c.has-has.result) counted
