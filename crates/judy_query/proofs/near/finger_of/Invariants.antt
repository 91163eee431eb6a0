use Rattle.std.proofs.Common.{◌≡◌, ℕ, Some, ◌-◌}
use Rattle.judy_model.specs.Contents.{word_order, value_of}
use Rattle.judy_tree.specs.Nodes.{depth}
use Rattle.judy_tree.specs.Root.{IsRoot, entries}
use Rattle.judy_query.specs.Fingers.{IsBetween}
use Rattle.judy_query.proofs.near.finger_of.Given as goal

-- the word has the same value below the node that was come to, and if it is there, its neighbours
-- are there or beside
abbrev pub invariant-loop-above : goal.invariant-loop-above
invariant-loop-above l = record {
  sound : IsRoot l.values l.arena.blocks l.at;
  same : value_of word_order (entries l.values l.arena.blocks l.fn.node) l.x ≡ value_of word_order (entries l.values l.arena.blocks l.at) l.x;
  near : (u : ℕ) → value_of word_order (entries l.values l.arena.blocks l.at) l.x ≡ Some u → IsBetween l.values l.arena.blocks l.fn.node l.x l.above l.at;
}

abbrev pub decreases-loop-above : goal.decreases-loop-above
decreases-loop-above l = 8 - depth l.arena.blocks l.at
