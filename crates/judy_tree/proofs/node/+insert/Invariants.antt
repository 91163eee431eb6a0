use Rattle.std.proofs.Common.{◌+◌, ◌*◌, cond, length}
use Rattle.judy_tree.specs.Nodes.{is_branch}
use Rattle.judy_tree.specs.Root.{entries}
use Rattle.judy_tree.proofs.node.+insert.Given as goal

abbrev pub decreases-insert : goal.decreases-insert
decreases-insert l = 2 * length (entries l.values l.arena.now.blocks l.node) + cond (is_branch l.node) 0 1
