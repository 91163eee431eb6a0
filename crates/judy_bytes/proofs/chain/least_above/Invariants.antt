use Rattle.std.proofs.Common.{length}
use Rattle.std.specs.Prelude.{option_map}
use Rattle.judy_bytes.specs.Chains.{IsBucketChain, chain, chain_entries}
use Rattle.judy_bytes.specs.Walks.{is_above}
use Rattle.judy_bytes.proofs.Leasts.{Sought}
use Rattle.judy_bytes.proofs.chain.least_above.Given as goal

abbrev pub invariant-loop-block : goal.invariant-loop-block
invariant-loop-block l = record {
  sound : IsBucketChain l.arena.blocks l.rest;
  sought : Sought (chain_entries l.arena.blocks l.fn.first) (chain_entries l.arena.blocks l.rest)
      (is_above (option_map (λ k. k.now) l.bound)) l.found l.buffer.items;
}

abbrev pub decreases-loop-block : goal.decreases-loop-block
decreases-loop-block l = length (chain l.arena.blocks l.rest)
