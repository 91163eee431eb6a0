use Rattle.std.proofs.Common.{inr, subst}
use Rattle.judy_programs.specs.Asking.{Log}
use Rattle.judy_programs.specs.Journaled.{HasMade, HasNoWriter, replay_of}
use Rattle.judy_programs.proofs.Resuming.{gone-on}
use Rattle.judy_programs.proofs.journaled.play_on.Goals as goal

pub returns-in-Ok-clause-made : goal.returns-in-Ok-clause-made
returns-in-Ok-clause-made g c fresh rows has lifted =
    let at = c.in-Some.at in
    let P : Log → Type 0 = λ log. HasMade at c.in-Ok.writer.value log (g.H.Network.log c.writer_at.new.system) in
    let (kept, read, played, resumed, readied) = c.in-Some.ensures.played in (
      kept,
      at,
      read,
      gone-on (replay_of g.S.Replays.lifted g.S.Replays.replayed g.S.Replays.limited) (λ p. p.service) (λ p. p.table) kept fresh
          c.args.playing played c.resume.new.player rows has lifted readied at resumed,
      subst P c.resume.ensures.log c.in-Ok.ensures.made,
    )

pub returns-in-Err-clause-none : goal.returns-in-Err-clause-none
returns-in-Err-clause-none g c fresh rows has lifted =
    let at = c.in-Some.at in
    let P : Log → Type 0 = λ log. HasNoWriter at c.in-Err.hosted log (g.H.Network.log c.writer_at.new.system) in
    let (kept, read, played, resumed, readied) = c.in-Some.ensures.played in inr (
      kept,
      at,
      c.resume.new.player.service,
      read,
      gone-on (replay_of g.S.Replays.lifted g.S.Replays.replayed g.S.Replays.limited) (λ p. p.service) (λ p. p.table) kept fresh
          c.args.playing played c.resume.new.player rows has lifted readied at resumed,
      subst P c.resume.ensures.log c.in-Err.ensures.none,
    )
