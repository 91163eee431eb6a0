use Rattle.std.proofs.KnownBytes.{Consumes-nil}
use Rattle.std.proofs.Common.{[], take}
use Rattle.judy_recovery.proofs.Playing.{gives_more, reads_none}
use Rattle.judy_recovery.proofs.pieces.read_file.Goals as goal

pub loop-init : goal.loop-init
loop-init g c = (
  [],
  Consumes-nil (g.R.Source.source.left c.args.file.now),
  reads_none g.P.Player.plays (record { rests = g.met.P.Player.rests; joins = g.met.P.Player.joins }) c.args.recovery.now c.args.player.now,
)

pub loop-preserved : goal.loop-preserved
loop-preserved g c =
    gives_more g.P.Player.plays (record { rests = g.met.P.Player.rests; joins = g.met.P.Player.joins })
    (g.R.Source.source.left c.args.file.now) (g.R.Source.source.left c.loop.file) (g.R.Source.source.left c.pull.new.self) (take c.in-Bytes.n c.pull.new.buf)
    c.args.recovery.now c.loop.recovery c.read_piece.new.recovery c.args.player.now c.loop.player c.read_piece.new.player
    c.loop.invariant c.in-Bytes.ensures.bytes.2 c.in_ok-read_piece-in-Bytes.ensures.read
