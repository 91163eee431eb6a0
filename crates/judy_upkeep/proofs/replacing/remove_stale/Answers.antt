use Rattle.std.proofs.Common.{Ok, Err}
use Rattle.judy_upkeep.proofs.Removing.{removed_then}
use Rattle.judy_upkeep.proofs.replacing.remove_stale.Goals as goal

pub returns-in-Err-remove_snapshot : goal.returns-in-Err-remove_snapshot
returns-in-Err-remove_snapshot g c =
    removed_then c.args.upto (Err c.in-Err-remove_snapshot.fault) (g.D.Replaces.log c.args.directory.now)
    (g.D.Replaces.log c.remove_places.new.directory) (g.D.Replaces.log c.remove_snapshot.new.directory)
    c.in_default.ensures c.in-Err-remove_snapshot.ensures

pub returns : goal.returns
returns g c =
    removed_then c.args.upto c.remove_segments.result (g.D.Replaces.log c.args.directory.now)
    (g.D.Replaces.log c.remove_snapshot.new.directory) (g.D.Replaces.log c.remove_segments.new.directory)
    (removed_then c.args.upto (Ok tt) (g.D.Replaces.log c.args.directory.now)
    (g.D.Replaces.log c.remove_places.new.directory) (g.D.Replaces.log c.remove_snapshot.new.directory)
    c.in_default.ensures c.in_default-remove_snapshot.ensures)
    c.remove_segments.ensures
