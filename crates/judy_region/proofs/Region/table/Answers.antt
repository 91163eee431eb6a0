use Rattle.std.proofs.Common.{arith}
use Rattle.judy_region.proofs.Places.{few-chunks}
use Rattle.judy_region.proofs.Region.table.Goals as goal

pub returns : goal.returns
returns c =
    let n = few-chunks c.self.inside.chunks.items c.args.self.now c.self.invariant.0 c.self.view_is in
    let t = c.self.invariant.1 in let e = c.capacity.ensures in omega (arith, n, t, e)
