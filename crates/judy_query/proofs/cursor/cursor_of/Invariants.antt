use Rattle.std.proofs.Common.{◌≡◌, ◌≢◌, ℕ, true, Some, ◌-◌}
use Rattle.judy_model.specs.Contents.{word_order, has_key, value_of}
use Rattle.judy_tree.specs.Nodes.{depth}
use Rattle.judy_tree.specs.Root.{IsRoot, entries}
use Rattle.judy_query.specs.Cursors.{AreBetween}
use Rattle.judy_query.specs.Fingers.{IsBetween}
use Rattle.judy_query.proofs.cursor.cursor_of.Given as goal

-- the word is below the node that was come to, and the neighbours of all words there are there or beside
abbrev pub invariant-loop-above : goal.invariant-loop-above
invariant-loop-above l = record {
  sound : IsRoot l.values l.arena.blocks l.at;
  here : has_key word_order (entries l.values l.arena.blocks l.at) l.x ≡ true;
  near : (y z : ℕ) → value_of word_order (entries l.values l.arena.blocks l.at) y ≡ Some z → IsBetween l.values l.arena.blocks l.fn.node y l.above l.at;
  kids : l.above ≢ 0 → AreBetween l.values l.arena.blocks l.fn.node l.above;
}

abbrev pub decreases-loop-above : goal.decreases-loop-above
decreases-loop-above l = 8 - depth l.arena.blocks l.at
