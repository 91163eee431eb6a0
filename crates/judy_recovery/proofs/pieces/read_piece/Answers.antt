use Rattle.std.proofs.Common.{[], refl}
use Rattle.judy_recovery.proofs.Playing.{comes_broken, comes_last, comes_more, reads_none}
use Rattle.judy_recovery.proofs.pieces.read_piece.Goals as goal

pub loop-rest-init : goal.loop-rest-init
loop-rest-init g c = (
  [],
  refl,
  reads_none g.P.Player.plays (record { rests = g.met.P.Player.rests; joins = g.met.P.Player.joins })
      c.args.recovery.now c.args.player.now,
)

pub returns-in-Ok-More-clause-read : goal.returns-in-Ok-More-clause-read
returns-in-Ok-More-clause-read g c =
    comes_last g.P.Player.plays (record { rests = g.met.P.Player.rests; joins = g.met.P.Player.joins })
    c.args.bytes.now c.loop-rest.rest.now c.args.recovery.now c.loop-rest.recovery c.read.new.self c.args.player.now c.loop-rest.player
    c.loop-rest.invariant c.in-Ok-More.field-0 c.in-Ok-More.field-0-is c.in-Ok-More.ensures.read c.in-Ok-More.ensures.snapshot

pub loop-rest-preserved : goal.loop-rest-preserved
loop-rest-preserved g c =
    comes_more g.P.Player.plays (record { rests = g.met.P.Player.rests; joins = g.met.P.Player.joins })
    c.args.bytes.now c.loop-rest.rest.now c.split_at.result.1.now c.in-Ok-Whole.left
    c.args.recovery.now c.loop-rest.recovery c.read.new.self c.args.player.now c.loop-rest.player c.play.new.player
    c.loop-rest.invariant c.split_at.ensures.back c.in-Ok-Whole.field-0 c.in-Ok-Whole.field-0-is c.in-Ok-Whole.ensures.read c.in-Ok-Whole.ensures.snapshot
    c.in_ok-play-in-Ok-Whole.ensures.played

pub returns-in-Err-clause-broken : goal.returns-in-Err-clause-broken
returns-in-Err-clause-broken g c =
    comes_broken g.P.Player.plays (record { rests = g.met.P.Player.rests; joins = g.met.P.Player.joins })
    c.args.bytes.now c.loop-rest.rest.now c.args.recovery.now c.loop-rest.recovery c.read.new.self c.args.player.now c.loop-rest.player
    c.in-Err.damage c.stop_at.result c.loop-rest.invariant c.in-Err.ensures.read c.in-Err.ensures.halted c.stop_at.ensures
