use Rattle.std.proofs.Common.{◌≡◌, ◌-◌, ◌≤◌, take, length}
use Rattle.judy_model.specs.Contents.{nth}
use Rattle.judy_branch.specs.Slots.{some_words}
use Rattle.judy_tree.specs.Root.{entries}
use Rattle.judy_query.proofs.Words.{over}
use Rattle.judy_query.proofs.query.place_down.Given as goal

-- what is left is the number of keys after the one looked for, among the keys of the words that are left
abbrev pub invariant-loop-i : goal.invariant-loop-i
invariant-loop-i l = nth (entries l.fn.values l.fn.arena.blocks l.fn.node) l.fn.n ≡ nth
    (over (entries l.fn.values l.fn.arena.blocks) (some_words (take l.i l.slots)))
    (length (over (entries l.fn.values l.fn.arena.blocks) (some_words (take l.i l.slots))) - l.after)
    × (l.after ≤ length (over (entries l.fn.values l.fn.arena.blocks) (some_words (take l.i l.slots))))
