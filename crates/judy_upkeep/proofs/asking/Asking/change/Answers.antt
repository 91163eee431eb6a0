use Rattle.std.proofs.Common.{rules, ◌≡◌, ◌∙◌, ap, sym, inl, Some, Ok, Err, slice_get}
use Rattle.judy_upkeep.proofs.Asked.{gives, spoken}
use Rattle.judy_upkeep.proofs.asking.Asking.change.Goals as goal

pub returns-in-Ok-clause-changed : goal.returns-in-Ok-clause-changed
returns-in-Ok-clause-changed g c =
    let lookup = c.in-Some.ensures.lookup in
    let speaks : slice_get c.args.self.now.speakers.items c.args.tenant ≡ Some c.in-Some.speaker.now =
    spoken c.args.self.now.speakers.items c.deref.result.now c.args.tenant c.in-Some.speaker.now c.deref.ensures.value lookup.3.0 lookup.1 in
    record {
      came = c.in-Ok.field-0;
      given = gives g.S.Served.who g.S.Served.made c.args.self.now.speakers.items c.args.tenant c.args.line.now (Ok c.in-Ok.field-0)
          c.args.self.now.service c.call-reply.new.self c.in-Some.speaker.now c.in-Ok-Call.call c.call-reply.result speaks
          (c.in-Ok-Call.ensures.spelled ∙ ap Some c.in-Ok-Call.field-0-is) c.call-reply.ensures c.in-Ok.ensures;
      alters = sym c.if-not-changes.ensures;
    }

pub returns-in-Err-clause-changed : goal.returns-in-Err-clause-changed
returns-in-Err-clause-changed g c =
    let lookup = c.in-Some.ensures.lookup in
    let speaks : slice_get c.args.self.now.speakers.items c.args.tenant ≡ Some c.in-Some.speaker.now =
    spoken c.args.self.now.speakers.items c.deref.result.now c.args.tenant c.in-Some.speaker.now c.deref.ensures.value lookup.3.0 lookup.1 in
    inl
    (gives g.S.Served.who g.S.Served.made c.args.self.now.speakers.items c.args.tenant c.args.line.now (Err c.in-Err.why)
    c.args.self.now.service c.call-reply.new.self c.in-Some.speaker.now c.in-Ok-Call.call c.call-reply.result speaks
    (c.in-Ok-Call.ensures.spelled ∙ ap Some c.in-Ok-Call.field-0-is) c.call-reply.ensures c.in-Err.ensures)

pub invariant_of-self-2 : goal.invariant_of-self-2
invariant_of-self-2 g c =
    let same = (g.met.S.Served.apart c.args.self.now.service c.call-reply.new.self _ _ c.call-reply.ensures).speakers in
    record { known = λ k d h. search rules }
