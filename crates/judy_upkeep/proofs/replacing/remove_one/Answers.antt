use Rattle.std.proofs.Common.{sym, ◌∙◌}
use Rattle.judy_upkeep.proofs.Removing.{removed_one}
use Rattle.judy_upkeep.proofs.replacing.remove_one.Goals as goal

pub returns-then-is_stale : goal.returns-then-is_stale
returns-then-is_stale g c =
    removed_one c.args.upto c.args.place c.remove.result (g.D.Replaces.log c.args.directory.now) (g.D.Replaces.log c.remove.new.self)
    (sym c.is_stale.ensures ∙ c.if-is_stale.true) c.remove.ensures
