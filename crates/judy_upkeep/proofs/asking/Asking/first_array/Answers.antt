use Rattle.std.proofs.Common.{rules, ◌≡◌, Some, codes, refl, slice_get}
use Rattle.judy_upkeep.proofs.Asked.{spoken, told}
use Rattle.judy_upkeep.proofs.asking.Asking.first_array.Goals as goal

pub call-reply-requires-clause-asked : goal.call-reply-requires-clause-asked
call-reply-requires-clause-asked g c = (codes "NAMES 1", refl)

pub returns-clause-told : goal.returns-clause-told
returns-clause-told g c =
    let lookup = c.in-Some.ensures.lookup in
    let speaks : slice_get c.args.self.now.speakers.items c.args.tenant ≡ Some c.in-Some.speaker.now =
    spoken c.args.self.now.speakers.items c.deref.result.now c.args.tenant c.in-Some.speaker.now c.deref.ensures.value lookup.3.0 lookup.1 in
    told g.S.Served.who g.S.Served.made c.args.self.now.speakers.items c.args.tenant c.array_of.result c.args.self.now.service
    c.call-reply.new.self c.in-Some.speaker.now c.call-reply.result speaks c.call-reply.ensures c.array_of.ensures

pub invariant_of-self-2 : goal.invariant_of-self-2
invariant_of-self-2 g c =
    let same = (g.met.S.Served.apart c.args.self.now.service c.call-reply.new.self _ _ c.call-reply.ensures).speakers in
    record { known = λ k d h. search rules }
