use Rattle.std.proofs.Common.{◌≡◌, ◌-◌}
use Rattle.judy_model.specs.Contents.{word_order, value_of}
use Rattle.judy_tree.specs.Nodes.{depth}
use Rattle.judy_tree.specs.Root.{IsRoot, entries}
use Rattle.judy_tree.proofs.node.get.Given as goal

-- the key has the same value below the node that was come to
abbrev pub invariant-loop-at : goal.invariant-loop-at
invariant-loop-at l = record {
  sound : IsRoot l.values l.arena.blocks l.at;
  same : value_of word_order (entries l.values l.arena.blocks l.fn.node) l.key ≡ value_of word_order (entries l.values l.arena.blocks l.at) l.key;
}

abbrev pub decreases-loop-at : goal.decreases-loop-at
decreases-loop-at l = 8 - depth l.arena.blocks l.at
