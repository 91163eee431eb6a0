use Rattle.std.proofs.Common.{◌≡◌, ℕ, Some, ◌-◌}
use Rattle.judy_model.specs.Contents.{word_order, first, last}
use Rattle.judy_tree.specs.Nodes.{depth}
use Rattle.judy_tree.specs.Root.{IsRoot, entries}
use Rattle.judy_query.proofs.near.leaf_of.Given as goal

-- what the node that was come to has next to the word, the first node has next to it
abbrev pub invariant-loop-at : goal.invariant-loop-at
invariant-loop-at l = record {
  sound : IsRoot l.values l.arena.blocks l.at;
  from : (e : ℕ × ℕ) → first word_order (entries l.values l.arena.blocks l.at) l.x ≡ Some e → first word_order
      (entries l.values l.arena.blocks l.fn.node) l.x ≡ Some e;
  upto : (e : ℕ × ℕ) → last word_order (entries l.values l.arena.blocks l.at) l.x ≡ Some e → last word_order
      (entries l.values l.arena.blocks l.fn.node) l.x ≡ Some e;
}

abbrev pub decreases-loop-at : goal.decreases-loop-at
decreases-loop-at l = 8 - depth l.arena.blocks l.at
