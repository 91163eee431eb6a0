use Rattle.std.proofs.Common.{◌≡◌, ℕ, true, length}
use Rattle.judy_arena.specs.Frame.{holds}
use Rattle.judy_model.specs.Contents.{string_order, value_of}
use Rattle.judy_bytes.specs.Chains.{IsBucketChain, chain, bucket_entries}
use Rattle.judy_bytes.proofs.chain.find.Given as goal

abbrev pub invariant-loop-block : goal.invariant-loop-block
invariant-loop-block l = record {
  sound : IsBucketChain l.arena.blocks l.at;
  same : value_of string_order (bucket_entries l.arena.blocks (chain l.arena.blocks l.fn.first)) l.key ≡ value_of string_order
      (bucket_entries l.arena.blocks (chain l.arena.blocks l.at)) l.key;
  within : (q : ℕ) → holds q (chain l.arena.blocks l.at) ≡ true → holds q (chain l.arena.blocks l.fn.first) ≡ true;
}

abbrev pub decreases-loop-block : goal.decreases-loop-block
decreases-loop-block l = length (chain l.arena.blocks l.at)
