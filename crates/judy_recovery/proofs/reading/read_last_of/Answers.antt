use Rattle.judy_recovery.proofs.Chaining.{if_last}
use Rattle.judy_recovery.proofs.reading.read_last_of.Goals as goal

pub returns-then-closed : goal.returns-then-closed
returns-then-closed g c =
    if_last g.P.Player.plays g.F.File.Read.remaining c.args.number c.args.recovery.now c.read_segment.new.recovery c.args.player.now c.read_segment.new.player
    c.read_segment.result c.read_segment.ensures
