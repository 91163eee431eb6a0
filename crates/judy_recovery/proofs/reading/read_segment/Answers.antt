use Rattle.judy_recovery.proofs.Chaining.{segment_read}
use Rattle.judy_recovery.proofs.reading.read_segment.Goals as goal

pub returns : goal.returns
returns g c =
    segment_read g.P.Player.plays g.F.File.Read.remaining c.args.number c.size_in-size.result c.saturating_sub.result
    c.in-Ok.file c.in_ok-read_rest.ensures.0 c.args.recovery.now c.read_rest.new.recovery c.args.player.now c.read_rest.new.player
    c.position-position.result c.in_ok-read_rest.ensures.1 (record { here = c.size_in-size.ensures.here; none = c.size_in-size.ensures.none })
    c.position-position.ensures
