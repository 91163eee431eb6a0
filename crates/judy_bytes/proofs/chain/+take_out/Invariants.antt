use Rattle.std.proofs.Common.{length}
use Rattle.judy_bytes.specs.Chains.{chain}
use Rattle.judy_bytes.proofs.chain.+take_out.Given as goal

abbrev pub decreases-take_out : goal.decreases-take_out
decreases-take_out l = length (chain l.arena.now.blocks l.first)
