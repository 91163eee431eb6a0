use Rattle.std.proofs.Common.{arith}
use Rattle.judy_disk.proofs.Sums.{all_added}
use Rattle.judy_disk.proofs.spent.Spent.of.Goals as goal

pub returns : goal.returns
returns c =
    let end = c.loop-share-test.false in
    all_added _ c.args.self.now.shares.items c.loop-share.share-index c.loop-share.sum (omega (arith, end)) c.loop-share.invariant.0
    c.loop-share.invariant.1
