use Rattle.std.proofs.Common.{◌≡◌, ◌-◌, ◌+◌, arith, subst}
use Rattle.judy_recovery.specs.Whole.{ReadsFiles}
use Rattle.judy_recovery.proofs.Chaining.{files_more, files_none}
use Rattle.judy_recovery.proofs.reading.read_closed.Goals as goal

pub loop-number-init : goal.loop-number-init
loop-number-init g c =
    files_none g.P.Player.plays g.F.File.Read.remaining (record { rests = g.met.P.Player.rests; joins = g.met.P.Player.joins })
    c.args.first c.args.recovery.now c.args.player.now

pub loop-number-preserved : goal.loop-number-preserved
loop-number-preserved g c =
    files_more g.P.Player.plays g.F.File.Read.remaining (record { rests = g.met.P.Player.rests; joins = g.met.P.Player.joins })
    (c.loop-number.number - c.args.first) (c.loop-number.number + 1 - c.args.first) c.loop-number.number
    c.args.recovery.now c.loop-number.recovery c.read_segment.new.recovery c.next_file.new.self
    c.args.player.now c.loop-number.player c.read_segment.new.player c.in_ok-here.here
    c.loop-number.invariant c.in_ok-here.ensures c.in-Ok.ensures (omega (arith, c.loop-number.auto.number))

pub returns : goal.returns
returns g c ordered =
    let all : c.loop-number.number - c.args.first ≡ c.args.last - c.args.first =
    omega (arith, c.loop-number.auto.number, c.loop-number.auto.number-end, c.loop-number-test.false, ordered) in
    subst (λ n. ReadsFiles g.P.Player.plays g.F.File.Read.remaining n c.args.recovery.now c.args.player.now c.loop-number.recovery c.loop-number.player)
    all c.loop-number.invariant
