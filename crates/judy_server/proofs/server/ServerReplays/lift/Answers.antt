use Rattle.std.proofs.Common.{subst}
use Rattle.std.proofs.lemmas.Option.{IfSome_then}
use Rattle.judy_server.specs.Limits.{IsLifted}
use Rattle.judy_server.specs.Tally.{Tallied, tallied}
use Rattle.judy_server.proofs.server.ServerReplays.lift.Goals as goal

pub returns : goal.returns
returns g c = IfSome_then c.lift.result c.lift.ensures (λ table h.
    subst (λ (s : Tallied). IsLifted s table (tallied c.lift.new.service c.self.inside.tally)) c.self.view_is (h c.self.inside.tally))
