use Rattle.std.proofs.Common.{◌≡◌, drop}
use Rattle.judy_model.specs.Contents.{nth}
use Rattle.judy_branch.specs.Slots.{some_words}
use Rattle.judy_tree.specs.Root.{entries}
use Rattle.judy_query.proofs.Words.{over}
use Rattle.judy_query.proofs.query.place_up.Given as goal

-- what is left is the number among the keys of the words that are left
abbrev pub invariant-loop-i : goal.invariant-loop-i
invariant-loop-i l = nth (entries l.fn.values l.fn.arena.blocks l.fn.node) l.fn.n ≡ nth
    (over (entries l.fn.values l.fn.arena.blocks) (some_words (drop l.i l.slots))) l.left
