use Rattle.std.proofs.Common.{[], Some, ◌∷◌, ◌++◌, ◌∙◌, append-nil, ap, refl, subst, sym}
use Rattle.judy_many.specs.Fates.{Leaves, Stays}
use Rattle.judy_many.specs.Lives.{view_of}
use Rattle.judy_many.specs.Nets.{DidLog}
use Rattle.judy_many.specs.Nets.Act.{Closed}
use Rattle.judy_many.specs.Stories.{IsPiece, acts_in}
use Rattle.judy_many.specs.Stories.Phase.{Writes}
use Rattle.judy_many.specs.Stories.Moment.{Did}
use Rattle.judy_many.proofs.OneSlot.{did_left, did_none, did_stay}
use Rattle.judy_many.specs.declared.queue.Left.TheVariants as left
use Rattle.std.specs.Prelude.{option_map}
use Rattle.judy_many.specs.Watches.{LeftTells, SlotTells}
use Rattle.judy_many.proofs.Looking.{tells_left, tells_none, tells_stay}
use Rattle.judy_many.proofs.Hearing.{tells_more}
use Rattle.judy_many.proofs.Living.{no_log, then_log}
use Rattle.judy_many.proofs.Telling.{acts_in-append, turns_in-append}
use Rattle.judy_many.proofs.rounds.tell_at.Goals as goal
use Rattle.judy_many.proofs.rounds.tell_at.Goals.{in-Ready, in-Drained, in-Blocked}

pub returns-in_default-clause-did : goal.returns-in_default-clause-did
returns-in_default-clause-did g c = (
  [],
  no_log _,
  refl,
  λ limits. did_none (λ b. view_of g.S.Served.who g.N.Network.number b.value) limits Writes c.args.slot.now c.take.new.self (sym c.take.ensures.value ∙ c.in_default.is) c.take.ensures.after,
  tells_none (λ b. view_of g.S.Served.who g.N.Network.number b.value) left.Blocked c.args.slot.now _ [] (sym c.take.ensures.value ∙ c.in_default.is),
)

pub returns-in-Ends-clause-did : goal.returns-in-Ends-clause-did
returns-in-Ends-clause-did g c =
    let (more, log, piece, none, ends, looks) = c.in-Ends.ensures.goes in
    let n = g.N.Network.number c.in-Some.client.value.connection in
    let first = ap (λ x. g.N.Network.number x.connection) c.deref_mut.ensures.value in
    let back = ap (λ x. g.N.Network.number x.connection) c.deref_mut-in-Ends.ensures.value ∙ c.in-Ends.ensures.same ∙ first in
    let last = subst (λ n. DidLog (g.N.Network.log c.tell.new.network) (Closed n c.in-Ends.how ∷ []) (g.N.Network.log c.close.new.self)) back c.close.ensures in (
      more ++ Did (Closed n c.in-Ends.how) ∷ [],
      subst (λ a. DidLog (g.N.Network.log c.args.network.now) a (g.N.Network.log c.close.new.self)) (sym (acts_in-append more (Did (Closed n c.in-Ends.how) ∷ [])))
          (then_log _ _ _ (acts_in more) _ log last),
      turns_in-append more (Did (Closed n c.in-Ends.how) ∷ []) ∙ append-nil _ ∙ none,
      λ limits. did_left (λ b. view_of g.S.Served.who g.N.Network.number b.value) limits Writes c.in-Ends.how c.args.slot.now c.take.new.self c.in-Some.client more
          c.in-Some.ensures.value c.take.ensures.after (subst (λ n. IsPiece n Writes more) first piece) (ends.0 limits)
          (subst (λ x. Leaves c.in-Ends.how (view_of g.S.Served.who g.N.Network.number x) more)
          c.deref_mut.ensures.value ends.1),
      tells_left (λ b. view_of g.S.Served.who g.N.Network.number b.value) left.Closed c.args.slot.now c.take.new.self c.in-Some.client _ c.in-Some.ensures.value c.take.ensures.after,
    )

pub returns-clause-did : goal.returns-clause-did
returns-clause-did g c = elim c.match-tell.branch [
  | in-Ready w ↦
      let (more, log, piece, none, stays, looks) = w.in-Ready.ensures.goes in
      let first = ap (λ x. g.N.Network.number x.connection) c.deref_mut.ensures.value in (
        more,
        log,
        none,
        λ limits. did_stay (λ b. view_of g.S.Served.who g.N.Network.number b.value) limits Writes c.args.slot.now c.in-Some.client (view_of g.S.Served.who g.N.Network.number c.tell.new.client) more
            c.in-Some.ensures.value (c.tell.ensures.same ∙ first) (subst (λ n. IsPiece n Writes more) first piece)
            (subst (λ x. Stays (view_of g.S.Served.who g.N.Network.number x) (view_of g.S.Served.who g.N.Network.number c.tell.new.client) more)
            c.deref_mut.ensures.value stays),
        subst (λ l. SlotTells l (option_map (λ b. view_of g.S.Served.who g.N.Network.number b.value) c.args.slot.now) (Some (view_of g.S.Served.who g.N.Network.number c.tell.new.client)) more) (sym w.left-is)
            (tells_stay (λ b. view_of g.S.Served.who g.N.Network.number b.value) w.goes_on-left.result c.args.slot.now c.in-Some.client (view_of g.S.Served.who g.N.Network.number c.tell.new.client) more c.in-Some.ensures.value
            (tells_more w.goes_on-left.result _ _ more w.goes_on-left.ensures (subst (λ x. LeftTells left.More (view_of g.S.Served.who g.N.Network.number x) (view_of g.S.Served.who g.N.Network.number c.tell.new.client) more) c.deref_mut.ensures.value looks))),
      )
  | in-Drained w ↦
      let (more, log, piece, none, stays, looks) = w.in-Drained.ensures.goes in
      let first = ap (λ x. g.N.Network.number x.connection) c.deref_mut.ensures.value in (
        more,
        log,
        none,
        λ limits. did_stay (λ b. view_of g.S.Served.who g.N.Network.number b.value) limits Writes c.args.slot.now c.in-Some.client (view_of g.S.Served.who g.N.Network.number c.tell.new.client) more
            c.in-Some.ensures.value (c.tell.ensures.same ∙ first) (subst (λ n. IsPiece n Writes more) first piece)
            (subst (λ x. Stays (view_of g.S.Served.who g.N.Network.number x) (view_of g.S.Served.who g.N.Network.number c.tell.new.client) more)
            c.deref_mut.ensures.value stays),
        subst (λ l. SlotTells l (option_map (λ b. view_of g.S.Served.who g.N.Network.number b.value) c.args.slot.now) (Some (view_of g.S.Served.who g.N.Network.number c.tell.new.client)) more) (sym w.left-is)
            (tells_stay (λ b. view_of g.S.Served.who g.N.Network.number b.value) left.Nothing c.args.slot.now c.in-Some.client (view_of g.S.Served.who g.N.Network.number c.tell.new.client) more c.in-Some.ensures.value
            (subst (λ x. LeftTells left.Nothing (view_of g.S.Served.who g.N.Network.number x) (view_of g.S.Served.who g.N.Network.number c.tell.new.client) more) c.deref_mut.ensures.value looks)),
      )
  | in-Blocked w ↦
      let (more, log, piece, none, stays, looks) = w.in-Blocked.ensures.goes in
      let first = ap (λ x. g.N.Network.number x.connection) c.deref_mut.ensures.value in (
        more,
        log,
        none,
        λ limits. did_stay (λ b. view_of g.S.Served.who g.N.Network.number b.value) limits Writes c.args.slot.now c.in-Some.client (view_of g.S.Served.who g.N.Network.number c.tell.new.client) more
            c.in-Some.ensures.value (c.tell.ensures.same ∙ first) (subst (λ n. IsPiece n Writes more) first piece)
            (subst (λ x. Stays (view_of g.S.Served.who g.N.Network.number x) (view_of g.S.Served.who g.N.Network.number c.tell.new.client) more)
            c.deref_mut.ensures.value stays),
        subst (λ l. SlotTells l (option_map (λ b. view_of g.S.Served.who g.N.Network.number b.value) c.args.slot.now) (Some (view_of g.S.Served.who g.N.Network.number c.tell.new.client)) more) (sym w.left-is)
            (tells_stay (λ b. view_of g.S.Served.who g.N.Network.number b.value) left.Blocked c.args.slot.now c.in-Some.client (view_of g.S.Served.who g.N.Network.number c.tell.new.client) more c.in-Some.ensures.value
            (subst (λ x. LeftTells left.Blocked (view_of g.S.Served.who g.N.Network.number x) (view_of g.S.Served.who g.N.Network.number c.tell.new.client) more) c.deref_mut.ensures.value looks)),
      )
]
