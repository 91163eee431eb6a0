use Rattle.std.proofs.Common.{◌<◌, length, subst, sym}
use Rattle.judy_table.specs.Shown.{seen}
use Rattle.judy_server.specs.Tally.{Tallied}
use Rattle.judy_server.proofs.Asked.{asked_string, known_tenant}
use Rattle.judy_server.proofs.server.ServerServed.call.Goals as goal

pub call-requires-clause-known : goal.call-requires-clause-known
call-requires-clause-known g c =
    subst (λ (t : Tallied). c.args.speaker.tenant < length t.held.tenants) (sym c.self.view_is)
    (known_tenant c.args.self.now.held.tenants (seen c.args.speaker) c.requires.known)

pub call-requires-clause-string : goal.call-requires-clause-string
call-requires-clause-string g c = asked_string c.args.call.now c.requires.asked
