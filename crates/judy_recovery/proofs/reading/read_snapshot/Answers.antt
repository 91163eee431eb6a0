use Rattle.std.proofs.Common.{◌≡◌, [], length, rules, subst, sym, ◌∙◌}
use Rattle.judy_journal.specs.Recovered.{IsUnpacked}
use Rattle.judy_recovery.specs.Played.{ReadsAll}
use Rattle.judy_recovery.proofs.Chaining.{snapshot_started}
use Rattle.judy_recovery.proofs.reading.read_snapshot.Goals as goal

pub returns-in-Ok-end_snapshot-clause-started : goal.returns-in-Ok-end_snapshot-clause-started
returns-in-Ok-end_snapshot-clause-started g c =
    let was : IsUnpacked c.args.number c.in_ok-sum.sum [] [] c.deref_mut.result.now =
    subst (IsUnpacked c.args.number c.in_ok-sum.sum [] []) (sym (c.deref_mut.ensures.value ∙ c.in_ok-recovery.ensures)) c.snapshot.ensures in
    let len : length c.in_ok-sum.sum ≡ 16 = search rules in
    let left-of = g.F.File.Read.remaining in
    let left = c.in_ok-read_rest.ensures.0 in
    snapshot_started g.P.Player.plays g.F.File.Read.remaining c.args.number c.in_ok-sum.sum c.read_first_line.new.file left
    c.deref_mut.result.now c.deref_mut-2.result.now c.end_snapshot.new.self c.args.player.now c.read_rest.new.player
    c.in_ok-sum.ensures len was
    (subst (λ r. ReadsAll g.P.Player.plays (left-of c.read_first_line.new.file) left c.deref_mut.result.now c.args.player.now r c.read_rest.new.player)
    (sym c.deref_mut-2.ensures.value) c.in_ok-read_rest.ensures.1)
    c.in-Ok-end_snapshot.ensures.ended
