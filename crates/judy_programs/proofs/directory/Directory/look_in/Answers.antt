use Rattle.judy_recovery.proofs.Standing.{journal_played, kept_by}
use Rattle.judy_programs.proofs.directory.Directory.look_in.Goals as goal

pub returns : goal.returns
returns g c = (
  kept_by g.P.Player.plays g.F.File.Read.remaining c.in_ok-found.found.snapshot c.in_ok-found.found.last
      c.args.player.now c.in_ok-recover.field-0 c.recover.new.player c.in_ok-recover.ensures,
  c.recover.new.player,
  journal_played g.P.Player.plays g.F.File.Read.remaining c.in_ok-found.found.snapshot c.in_ok-found.found.last
      c.args.player.now c.in_ok-recover.field-0 c.recover.new.player c.in_ok-recover.ensures,
  c.in_ok-ready.ensures,
)
