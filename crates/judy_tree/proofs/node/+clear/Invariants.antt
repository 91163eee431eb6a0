-- the parts so far are released
use Rattle.std.proofs.Common.{◌+◌, ◌-◌, ◌*◌, ◌≤◌, cond, length}
use Rattle.judy_arena.specs.Takes.{TakesNothing}
use Rattle.judy_tree.specs.Nodes.{is_branch}
use Rattle.judy_tree.specs.Root.{entries}
use Rattle.judy_tree.proofs.Clears.{IsPartly}
use Rattle.judy_tree.proofs.node.+clear.Given as goal

abbrev pub invariant-loop-part : goal.invariant-loop-part
invariant-loop-part l = record {
  partly : IsPartly l.values l.fn.arena.blocks l.root l.arena.blocks l.low;
  memory : TakesNothing l.fn.arena l.arena;
  low : l.low ≤ 256;
}

abbrev pub decreases-clear : goal.decreases-clear
decreases-clear l = 2 * length (entries l.values l.arena.now.blocks l.root) + cond (is_branch l.root) 0 1

abbrev pub decreases-loop-part : goal.decreases-loop-part
decreases-loop-part l = 256 - l.low
