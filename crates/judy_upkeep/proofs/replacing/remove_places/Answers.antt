use Rattle.std.proofs.Common.{Ok, Err}
use Rattle.judy_upkeep.proofs.Removing.{removed_none, removed_then}
use Rattle.judy_upkeep.proofs.replacing.remove_places.Goals as goal

pub loop-place-init : goal.loop-place-init
loop-place-init g c = removed_none c.args.upto (g.D.Replaces.log c.args.directory.now)

pub returns-in-Err : goal.returns-in-Err
returns-in-Err g c =
    removed_then c.args.upto (Err c.in-Err.fault) (g.D.Replaces.log c.args.directory.now) (g.D.Replaces.log c.loop-place.directory)
    (g.D.Replaces.log c.remove_one.new.directory) c.loop-place.invariant c.in-Err.ensures

pub loop-place-preserved : goal.loop-place-preserved
loop-place-preserved g c =
    removed_then c.args.upto (Ok tt) (g.D.Replaces.log c.args.directory.now) (g.D.Replaces.log c.loop-place.directory)
    (g.D.Replaces.log c.remove_one.new.directory) c.loop-place.invariant c.in_default.ensures
