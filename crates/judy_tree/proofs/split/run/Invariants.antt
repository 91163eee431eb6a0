use Rattle.std.proofs.Common.{◌≡◌, ◌<◌, ◌≤◌, ℕ}
use Rattle.judy_leaf.specs.Leaf.{leaf_entries}
use Rattle.judy_tree.specs.Calls.{entry_at}
use Rattle.judy_tree.specs.Nodes.{head_at}
use Rattle.judy_tree.proofs.split.run.Given as goal

abbrev pub invariant-loop-next : goal.invariant-loop-next
invariant-loop-next l = (i : ℕ) → l.fn.place ≤ i → i < l.next → head_at l.fn.level
    (entry_at (leaf_entries l.fn.values l.fn.arena.blocks l.fn.leaf) i).0 ≡ head_at l.fn.level
    (entry_at (leaf_entries l.fn.values l.fn.arena.blocks l.fn.leaf) l.fn.place).0
