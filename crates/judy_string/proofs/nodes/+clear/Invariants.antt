use Rattle.std.proofs.Common.{◌≡◌, ◌+◌, ◌-◌, ◌*◌, ◌≤◌, true}
use Rattle.std.specs.Prelude.{slice_get}
use Rattle.judy_arena.specs.Takes.{TakesNothing}
use Rattle.judy_tree.specs.Nodes.{depth}
use Rattle.judy_tree.specs.Root.{entries}
use Rattle.judy_string.proofs.Clears.{IsCleared}
use Rattle.judy_string.proofs.Parts.{IsPartly}
use Rattle.judy_string.proofs.nodes.+clear.Given as goal

abbrev pub decreases-clear : goal.decreases-clear
decreases-clear l = 20 * l.room + 2 * (8 - depth l.arena.now.blocks l.node) + 2

abbrev pub decreases-clear_parts : goal.decreases-clear_parts
decreases-clear_parts l = 20 * l.room + 2 * (8 - depth l.arena.now.blocks l.node) + 1

abbrev pub decreases-clear_entry : goal.decreases-clear_entry
decreases-clear_entry l = 20 * l.room

abbrev pub invariant-clear-loop-place : goal.invariant-clear-loop-place
invariant-clear-loop-place l = record {
  words : l.words ≡ l.fn.node;
  found : l.found ≡ slice_get (entries true l.fn.arena.blocks l.fn.node) l.place;
  cleared : IsCleared l.room l.fn.arena.blocks l.arena.blocks l.fn.node l.place l.count;
  memory : TakesNothing l.fn.arena l.arena;
}

abbrev pub invariant-clear_parts-loop-part : goal.invariant-clear_parts-loop-part
invariant-clear_parts-loop-part l = record {
  partly : IsPartly l.room l.fn.arena.blocks l.fn.node l.arena.blocks l.low l.count;
  memory : TakesNothing l.fn.arena l.arena;
  low : l.low ≤ 256;
}

abbrev pub decreases-clear_parts-loop-part : goal.decreases-clear_parts-loop-part
decreases-clear_parts-loop-part l = 256 - l.low
