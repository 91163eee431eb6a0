use Rattle.std.proofs.Common.{◌≤◌, ◌<◌, ◌^◌, refl, rules, sym, subst, arith}
use Rattle.judy_recovery.specs.Whole.{HasStarted, ReadsLast}
use Rattle.judy_recovery.proofs.Chaining.{recovered_all}
use Rattle.judy_recovery.proofs.reading.read_files.Goals as goal

pub returns : goal.returns
returns g c =
    let small : c.args.last < 2 ^ 64 = search rules in
    let ordered : c.first_after-first.result ≤ c.args.last = omega (arith, c.if-last-first.false) in (
      c.args.last,
      refl,
      recovered_all g.P.Player.plays g.F.File.Read.remaining (record { rests = g.met.P.Player.rests; joins = g.met.P.Player.joins })
          c.what_is_recovered_is_found.ensures c.what_is_recovered_is_whole.ensures
          c.args.snapshot c.first_after-first.result c.args.last
          c.deref_mut.result.now c.read_closed.new.recovery c.read_last_of.new.recovery
          c.args.player.now c.begin.new.player c.read_closed.new.player c.read_last_of.new.player c.in_ok-end.end
          (subst (λ r. HasStarted g.P.Player.plays g.F.File.Read.remaining c.args.snapshot c.args.player.now r c.begin.new.player)
          (sym c.deref_mut.ensures.value) c.in_ok-recovery.ensures.started)
          (c.in_ok-read_closed.ensures ordered)
          (subst (λ r. ReadsLast g.P.Player.plays g.F.File.Read.remaining c.args.last r c.read_closed.new.player c.in_ok-end.end
          c.read_last_of.new.recovery c.read_last_of.new.player)
          c.deref_mut-2.ensures.value c.in_ok-end.ensures)
          (c.first_after-first.ensures.follows c.in_ok-recovery.ensures.follows) ordered small,
    )
