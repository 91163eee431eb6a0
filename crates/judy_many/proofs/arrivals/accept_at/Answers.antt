use Rattle.std.proofs.Common.{[], ◌∷◌, ◌∙◌, ap, subst, sym}
use Rattle.std.specs.Prelude.{option_map}
use Rattle.judy_protocol.specs.Talks.{Holds}
use Rattle.judy_many.specs.Lives.{view_of}
use Rattle.judy_many.specs.Nets.{DidLog}
use Rattle.judy_many.specs.Nets.Act.{Came, Closed, Refused}
use Rattle.judy_many.specs.Stories.Moment.{Did}
use Rattle.judy_many.specs.declared.network.How.TheVariants as how
use Rattle.judy_many.proofs.OneSlot.{came_in_slot, came_not, dropped, refused}
use Rattle.judy_many.proofs.Living.{then_log}
use Rattle.judy_many.proofs.arrivals.accept_at.Goals as goal

pub returns-in-Ok-clause-arrives : goal.returns-in-Ok-clause-arrives
returns-in-Ok-clause-arrives g c =
    let e = c.in-Ok.ensures.ok in (
      Did (Came c.args.id c.args.at) ∷ [],
      c.in-Came.ensures.1,
      came_in_slot (view_of g.S.Served.who g.N.Network.number c.in-Ok.client.value) c.args.id c.args.at
          (ap (λ x. g.N.Network.number x.connection) e ∙ ap g.N.Network.number c.new.ensures.connection ∙ c.in-Came.ensures.0)
          (subst (λ x. Holds [] x.session.held) (sym e) c.new.ensures.held)
          (ap (λ x. option_map g.S.Served.who x.session.speaker) e ∙ ap (option_map g.S.Served.who) c.new.ensures.speaker)
          (ap (λ x. x.input.waiting) e ∙ c.new.ensures.waiting)
          (ap (λ x. x.answers) e ∙ c.new.ensures.answers)
          (ap (λ x. x.quits) e ∙ c.new.ensures.quits),
    )

pub returns-in-Err-clause-arrives : goal.returns-in-Err-clause-arrives
returns-in-Err-clause-arrives g c =
    let id = ap (λ x. g.N.Network.number x.connection) c.in-Err.ensures.value_returned ∙ ap g.N.Network.number c.new.ensures.connection ∙ c.in-Came.ensures.0 in (
      Did (Came c.args.id c.args.at) ∷ Did (Closed c.args.id how.Memory) ∷ [],
      then_log _ _ _ (Came c.args.id c.args.at ∷ []) (Closed c.args.id how.Memory ∷ []) c.in-Came.ensures.1
          (subst (λ n. DidLog (g.N.Network.log c.accept.new.self) (Closed n how.Memory ∷ []) (g.N.Network.log c.close.new.self)) id c.close.ensures),
      dropped (λ b. view_of g.S.Served.who g.N.Network.number b.value) c.args.slot.now c.args.id c.args.at c.requires,
    )

pub returns-in-Nothing-clause-arrives : goal.returns-in-Nothing-clause-arrives
returns-in-Nothing-clause-arrives g c = ([], c.in-Nothing.ensures, came_not (λ b. view_of g.S.Served.who g.N.Network.number b.value) c.args.slot.now c.args.id c.args.at c.requires)

pub returns-in-Later-clause-arrives : goal.returns-in-Later-clause-arrives
returns-in-Later-clause-arrives g c = (Did Refused ∷ [], c.in-Later.ensures, refused (λ b. view_of g.S.Served.who g.N.Network.number b.value) c.args.slot.now c.args.id c.args.at c.requires)

pub returns-in-Fault-clause-arrives : goal.returns-in-Fault-clause-arrives
returns-in-Fault-clause-arrives g c = ([], c.in-Fault.ensures, came_not (λ b. view_of g.S.Served.who g.N.Network.number b.value) c.args.slot.now c.args.id c.args.at c.requires)
