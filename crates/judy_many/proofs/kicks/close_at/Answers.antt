use Rattle.std.proofs.Common.{◌≡◌, [], ◌∷◌, ◌∙◌, ap, refl, subst, sym, true}
use Rattle.std.specs.Prelude.{option_map}
use Rattle.judy_many.specs.Kicks.{kick_act, speaks_as}
use Rattle.judy_many.specs.Lives.{view_of}
use Rattle.judy_many.specs.Nets.{DidLog}
use Rattle.judy_many.specs.Nets.Act.{Closed}
use Rattle.judy_many.specs.Stories.Phase.{Sweeps}
use Rattle.judy_many.specs.Stories.Moment.{Did}
use Rattle.judy_many.specs.declared.network.How.TheVariants as how
use Rattle.judy_many.proofs.Kicking.{kick_one, some_speaker}
use Rattle.judy_many.proofs.Looking.{closed_left}
use Rattle.judy_many.proofs.OneSlot.{did_kicked}
use Rattle.judy_many.proofs.kicks.close_at.Goals as goal

pub returns-then-speaks_as-clause-did : goal.returns-then-speaks_as-clause-did
returns-then-speaks_as-clause-did g c = (
  Did (Closed (g.N.Network.number c.in-Some.client.value.connection) how.Kicked) ∷ [],
  subst (λ n. DidLog (g.N.Network.log c.args.network.now) (Closed n how.Kicked ∷ []) (g.N.Network.log c.close.new.self))
      (ap (λ x. g.N.Network.number x.connection) c.deref_mut.ensures.value) c.close.ensures,
  refl,
  sym (kick_one (speaks_as (g.S.Served.seen c.args.service.now).names c.args.name.now) (view_of g.S.Served.who g.N.Network.number c.in-Some.client.value) speaks)
      ∙ ap (λ s. kick_act (speaks_as (g.S.Served.seen c.args.service.now).names c.args.name.now) (option_map (λ b. view_of g.S.Served.who g.N.Network.number b.value) s)) c.in-Some.ensures.value,
  λ limits e.
      let (who, is) = some_speaker (g.S.Served.seen c.args.service.now).names c.args.name.now (option_map g.S.Served.who c.in-Some.client.value.session.speaker) speaks in
      did_kicked (λ b. view_of g.S.Served.who g.N.Network.number b.value) limits Sweeps c.args.slot.now c.take.new.self c.in-Some.client who is e c.in-Some.ensures.value c.take.ensures.after,
  closed_left (λ b. view_of g.S.Served.who g.N.Network.number b.value) c.args.slot.now c.take.new.self (Did (Closed (g.N.Network.number c.in-Some.client.value.connection) how.Kicked) ∷ []) c.take.ensures.after,
)
  where
    speaks : (speaks_as (g.S.Served.seen c.args.service.now).names c.args.name.now) (option_map g.S.Served.who c.in-Some.client.value.session.speaker) ≡ true
    speaks = ap (λ x. (speaks_as (g.S.Served.seen c.args.service.now).names c.args.name.now) (option_map g.S.Served.who x.session.speaker)) (sym c.deref.ensures) ∙ sym c.speaks_as.ensures ∙ c.if-speaks_as.true
