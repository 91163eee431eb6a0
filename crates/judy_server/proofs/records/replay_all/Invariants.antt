use Rattle.std.proofs.Common.{length}
use Rattle.judy_server.specs.Tally.{tallied}
use Rattle.judy_server.proofs.Replaying.{HasPlayed}
use Rattle.judy_server.proofs.records.replay_all.Given as goal

abbrev pub invariant-loop-record : goal.invariant-loop-record
invariant-loop-record g l = HasPlayed l.fn.text l.rest l.played (tallied l.fn.service l.fn.tally) (tallied l.service l.tally)

abbrev pub decreases-loop-record : goal.decreases-loop-record
decreases-loop-record g l = length l.rest
