use Rattle.judy_recovery.proofs.Chaining.{last_read}
use Rattle.judy_recovery.proofs.reading.read_last_segment.Goals as goal

pub returns : goal.returns
returns g c =
    last_read g.P.Player.plays g.F.File.Read.remaining c.args.number c.size_in-size.result c.saturating_sub.result
    c.in-Ok.file c.in_ok-found.ensures.0 c.in_ok-found.found c.args.recovery.now c.read_end.new.recovery c.args.player.now c.read_end.new.player
    c.new-notes.result c.read_end.new.notes c.position-position.result c.in_ok-found.ensures.1 c.new-notes.ensures.seen
    (record { here = c.size_in-size.ensures.here; none = c.size_in-size.ensures.none }) c.position-position.ensures c.in_default.ensures.torn
