use Rattle.judy_recovery.proofs.Standing.{journal_resumed, kept_by}
use Rattle.judy_programs.proofs.directory.Directory.resume_in.Goals as goal

pub returns : goal.returns
returns g c = (
  kept_by g.P.Player.plays g.F.File.Read.remaining c.args.found.now.snapshot c.args.found.now.last
      c.args.player.now c.in_ok-end.end c.recover.new.player c.in_ok-end.ensures,
  c.recover.new.player,
  journal_resumed g.P.Player.plays g.F.File.Read.remaining c.args.found.now.snapshot c.args.found.now.last
      c.args.player.now c.in_ok-end.end c.in-Ok.ready.0 c.recover.new.player
      c.in_ok-end.ensures c.in-Ok.ensures.at,
  c.in_ok-ready.ensures,
)
