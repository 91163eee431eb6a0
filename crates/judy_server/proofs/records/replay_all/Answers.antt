use Rattle.judy_server.specs.Tally.{tallied}
use Rattle.judy_server.proofs.Replaying.{played_all, played_more, played_until}
use Rattle.judy_server.proofs.records.replay_all.Goals as goal

pub returns-in-Err : goal.returns-in-Err
returns-in-Err g c =
    played_until c.args.text.now c.loop-record.rest.now c.in-Some.record.now c.in-Some.after.now c.loop-record.played c.in-Err.why
    (tallied c.args.service.now c.args.tally.now) (tallied c.loop-record.service c.loop-record.tally) (tallied c.replay.new.service c.replay.new.tally)
    c.loop-record.invariant c.in-Some.ensures.0 c.in-Some.ensures.1 c.in-Err.ensures

pub loop-record-preserved : goal.loop-record-preserved
loop-record-preserved g c =
    played_more c.args.text.now c.loop-record.rest.now c.in-Some.record.now c.in-Some.after.now c.loop-record.played
    (tallied c.args.service.now c.args.tally.now) (tallied c.loop-record.service c.loop-record.tally) (tallied c.replay.new.service c.replay.new.tally)
    c.loop-record.invariant c.in-Some.ensures.0 c.in-Some.ensures.1 c.in_default-replay.ensures

pub returns : goal.returns
returns g c =
    played_all c.args.text.now c.loop-record.rest.now c.loop-record.played (tallied c.args.service.now c.args.tally.now)
    (tallied c.loop-record.service c.loop-record.tally) c.loop-record.invariant c.in_default.ensures
