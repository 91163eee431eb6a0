use Rattle.std.proofs.Common.{◌≡◌, ℕ, Option, ◌-◌, ◌+◌}
use Rattle.judy_model.specs.Gaps.{last_empty}
use Rattle.judy_branch.specs.Branch.{branch_view}
use Rattle.judy_tree.specs.Nodes.{depth, head_at}
use Rattle.judy_tree.specs.Root.{entries}
use Rattle.judy_query.proofs.query.+last_empty.Given as goal

abbrev pub decreases-last_empty : goal.decreases-last_empty
decreases-last_empty l = 8 - depth l.arena.now.blocks l.node

-- the word has the byte at the branch, and the last absent word from it down is that from the first
-- word down
abbrev pub invariant-loop-down : goal.invariant-loop-down
invariant-loop-down l = record {
  head : head_at (branch_view l.fn.arena.blocks l.fn.node).level l.from + l.down ≡ head_at
      (branch_view l.fn.arena.blocks l.fn.node).level (branch_view l.fn.arena.blocks l.fn.node).prefix + l.byte;
  after : (r : Option ℕ) → r ≡ last_empty (entries l.fn.values l.fn.arena.blocks l.fn.node) l.from → r ≡ last_empty
      (entries l.fn.values l.fn.arena.blocks l.fn.node) l.fn.x;
}
