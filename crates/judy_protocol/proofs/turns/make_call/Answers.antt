use Rattle.judy_protocol.proofs.Turned.{called}
use Rattle.judy_protocol.proofs.turns.make_call.Goals as goal

pub returns-in-Some-clause-turn : goal.returns-in-Some-clause-turn
returns-in-Some-clause-turn g c = called _ _ _ _ _ _ c.call-reply.result _ _ _ _ c.in-Some.is c.call-reply.ensures c.write_reply.ensures c.counts.ensures
