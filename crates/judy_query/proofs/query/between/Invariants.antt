use Rattle.std.proofs.Common.{◌≡◌, ◌+◌, drop, length}
use Rattle.judy_branch.specs.Slots.{some_words}
use Rattle.judy_tree.specs.Root.{entries}
use Rattle.judy_query.specs.Parts.{entries_below}
use Rattle.judy_query.proofs.Words.{over}
use Rattle.judy_query.proofs.query.between.Given as goal

-- the keys of the words so far and of those that are left are all
abbrev pub invariant-loop-i : goal.invariant-loop-i
invariant-loop-i l = length (entries_below l.fn.values l.fn.arena.blocks l.fn.node l.fn.from l.fn.high) ≡ l.count + length
    (over (entries l.fn.values l.fn.arena.blocks) (some_words (drop l.i l.span)))
