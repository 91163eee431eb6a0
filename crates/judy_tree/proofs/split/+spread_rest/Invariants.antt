use Rattle.std.proofs.Common.{◌-◌, length}
use Rattle.judy_leaf.specs.Leaf.{leaf_entries}
use Rattle.judy_tree.proofs.split.+spread_rest.Given as goal

abbrev pub decreases-spread_rest : goal.decreases-spread_rest
decreases-spread_rest l = length (leaf_entries l.values l.arena.now.blocks l.leaf) - l.place
