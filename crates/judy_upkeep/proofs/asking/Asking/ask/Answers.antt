use Rattle.std.proofs.Common.{◌≡◌, ◌∙◌, ap, Some, slice_get}
use Rattle.judy_upkeep.proofs.Asked.{asked, gives, spoken}
use Rattle.judy_upkeep.proofs.asking.Asking.ask.Goals as goal

pub returns-clause-asked : goal.returns-clause-asked
returns-clause-asked g c =
    let lookup = c.in-Some.ensures.lookup in
    let speaks : slice_get c.args.self.now.speakers.items c.args.tenant ≡ Some c.in-Some.speaker.now =
    spoken c.args.self.now.speakers.items c.deref.result.now c.args.tenant c.in-Some.speaker.now c.deref.ensures.value lookup.3.0 lookup.1 in
    asked g.S.Served.who g.S.Served.made c.args.self.now.speakers.items c.args.tenant c.args.line.now c.came_of.result
    c.args.self.now.last.items c.keep_key.new.last.items c.args.self.now.service c.call-reply.new.self
    (gives g.S.Served.who g.S.Served.made c.args.self.now.speakers.items c.args.tenant c.args.line.now c.came_of.result
    c.args.self.now.service c.call-reply.new.self c.in-Some.speaker.now c.in-Ok-Call.call c.call-reply.result speaks
    (c.in-Ok-Call.ensures.spelled ∙ ap Some c.in-Ok-Call.field-0-is) c.call-reply.ensures c.came_of.ensures)
    c.keep_key.ensures
