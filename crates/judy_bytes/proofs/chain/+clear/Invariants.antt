use Rattle.std.proofs.Common.{length}
use Rattle.judy_bytes.specs.Chains.{chain}
use Rattle.judy_bytes.proofs.chain.+clear.Given as goal

abbrev pub decreases-clear : goal.decreases-clear
decreases-clear l = length (chain l.arena.now.blocks l.first)
