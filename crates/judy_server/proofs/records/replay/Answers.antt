use Rattle.std.proofs.Common.{Option, sym, subst}
use Rattle.judy_journal.specs.Leaving.{gone_in}
use Rattle.judy_journal.specs.Replays.{Told}
use Rattle.judy_server.specs.Replays.{PlaysAs}
use Rattle.judy_server.specs.Tally.{tallied}
use Rattle.judy_server.proofs.records.replay.Goals as goal

pub returns-in-Some : goal.returns-in-Some
returns-in-Some g c =
    subst (λ (o : Option Told). PlaysAs o (gone_in c.args.bytes.now) (tallied c.args.service.now c.args.tally.now) c.play_change.result
    (tallied c.play_change.new.service c.play_change.new.tally)) (sym c.in-Some.ensures.told) c.play_change.ensures

pub returns-in-None : goal.returns-in-None
returns-in-None g c =
    subst (λ (o : Option Told). PlaysAs o (gone_in c.args.bytes.now) (tallied c.args.service.now c.args.tally.now) c.play_leaving.result
    (tallied c.play_leaving.new.service c.play_leaving.new.tally)) (sym c.in-None.ensures.told) c.play_leaving.ensures
