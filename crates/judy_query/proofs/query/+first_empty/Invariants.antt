use Rattle.std.proofs.Common.{◌≡◌, ℕ, Option, ◌-◌, ◌+◌, ◌≤◌}
use Rattle.judy_model.specs.Contents.{max_word}
use Rattle.judy_model.specs.Gaps.{first_empty}
use Rattle.judy_branch.specs.Branch.{branch_view}
use Rattle.judy_tree.specs.Nodes.{depth, head_at}
use Rattle.judy_tree.specs.Root.{entries}
use Rattle.judy_query.proofs.query.+first_empty.Given as goal

abbrev pub decreases-first_empty : goal.decreases-first_empty
decreases-first_empty l = 8 - depth l.arena.now.blocks l.node

-- the word has the byte at the branch, and the first absent word from it on is that from the first
-- word on
abbrev pub invariant-loop-at : goal.invariant-loop-at
invariant-loop-at l = record {
  head : head_at (branch_view l.fn.arena.blocks l.fn.node).level l.from ≡ head_at (branch_view l.fn.arena.blocks l.fn.node).level
      (branch_view l.fn.arena.blocks l.fn.node).prefix + (l.byte + l.at);
  fits : l.from ≤ max_word;
  after : (r : Option ℕ) → r ≡ first_empty (entries l.fn.values l.fn.arena.blocks l.fn.node) l.from → r ≡ first_empty
      (entries l.fn.values l.fn.arena.blocks l.fn.node) l.fn.x;
}
