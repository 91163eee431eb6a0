use Rattle.std.proofs.Common.{arith, [], ◌∷◌, ◌∙◌, ap, refl, subst, sym}
use Rattle.std.specs.Prelude.{option_map}
use Rattle.judy_many.specs.Lives.{view_of}
use Rattle.judy_many.specs.Nets.{DidLog}
use Rattle.judy_many.specs.Nets.Act.{Closed}
use Rattle.judy_many.specs.Stories.Phase.{Sweeps}
use Rattle.judy_many.specs.Stories.Moment.{Did}
use Rattle.judy_many.specs.declared.network.How.TheVariants as how
use Rattle.judy_many.proofs.OneSlot.{did_idle, did_none, did_silent, did_stay}
use Rattle.judy_many.proofs.Looking.{closed_left, open_none, open_stay}
use Rattle.judy_many.proofs.Living.{no_log}
use Rattle.judy_many.proofs.Telling.{piece_none, stays_none}
use Rattle.judy_many.proofs.sweeps.sweep_at.Goals as goal

pub returns-in_default-clause-did : goal.returns-in_default-clause-did
returns-in_default-clause-did g c = (
  [],
  no_log _,
  refl,
  refl,
  did_none (λ b. view_of g.S.Served.who g.N.Network.number b.value) c.args.limits Sweeps c.args.slot.now c.take.new.self (sym c.take.ensures.value ∙ c.in_default.is) c.take.ensures.after,
  open_none (λ b. view_of g.S.Served.who g.N.Network.number b.value) c.args.slot.now c.take.new.self (sym c.take.ensures.value ∙ c.in_default.is) c.take.ensures.after,
)

pub returns-then-is_late-clause-did : goal.returns-then-is_late-clause-did
returns-then-is_late-clause-did g c = (
  Did (Closed (g.N.Network.number c.in-Some.client.value.connection) how.Login) ∷ [],
  subst (λ n. DidLog (g.N.Network.log c.args.network.now) (Closed n how.Login ∷ []) (g.N.Network.log c.close.new.self))
      (ap (λ x. g.N.Network.number x.connection) c.deref_mut.ensures.value) c.close.ensures,
  refl,
  refl,
  did_silent (λ b. view_of g.S.Served.who g.N.Network.number b.value) c.args.limits Sweeps c.args.slot.now c.take.new.self c.in-Some.client
      (ap (λ x. option_map g.S.Served.who x.session.speaker) (sym c.deref.ensures) ∙ c.is_late.ensures.silent c.if-is_late.true)
      (c.is_late.ensures.allowed c.if-is_late.true) c.in-Some.ensures.value c.take.ensures.after,
  closed_left (λ b. view_of g.S.Served.who g.N.Network.number b.value) c.args.slot.now c.take.new.self (Did (Closed (g.N.Network.number c.in-Some.client.value.connection) how.Login) ∷ []) c.take.ensures.after,
)

pub returns-in-Some-overdue-clause-did : goal.returns-in-Some-overdue-clause-did
returns-in-Some-overdue-clause-did g c = (
  Did (Closed (g.N.Network.number c.in-Some.client.value.connection) c.in-Some-overdue.how) ∷ [],
  subst (λ n. DidLog (g.N.Network.log c.args.network.now) (Closed n c.in-Some-overdue.how ∷ []) (g.N.Network.log c.close-in-Some-overdue.new.self))
      (ap (λ x. g.N.Network.number x.connection) c.deref_mut-in-Some-overdue.ensures.value) c.close-in-Some-overdue.ensures,
  refl,
  (let e = c.in-Some-overdue.ensures.stay in omega (arith, e)),
  did_idle (λ b. view_of g.S.Served.who g.N.Network.number b.value) c.args.limits Sweeps c.in-Some-overdue.how c.args.slot.now c.take.new.self c.in-Some.client
      c.in-Some-overdue.ensures.disorderly c.in-Some-overdue.ensures.reason c.in-Some-overdue.ensures.allowed c.in-Some.ensures.value c.take.ensures.after,
  closed_left (λ b. view_of g.S.Served.who g.N.Network.number b.value) c.args.slot.now c.take.new.self (Did (Closed (g.N.Network.number c.in-Some.client.value.connection) c.in-Some-overdue.how) ∷ []) c.take.ensures.after,
)

pub returns-clause-did : goal.returns-clause-did
returns-clause-did g c = (
  [],
  no_log _,
  refl,
  refl,
  did_stay (λ b. view_of g.S.Served.who g.N.Network.number b.value) c.args.limits Sweeps c.args.slot.now c.in-Some.client (view_of g.S.Served.who g.N.Network.number c.in-Some.client.value) [] c.in-Some.ensures.value refl
      (piece_none _ Sweeps) (stays_none _),
  open_stay (λ b. view_of g.S.Served.who g.N.Network.number b.value) c.args.slot.now c.in-Some.client c.in-Some.ensures.value,
)
