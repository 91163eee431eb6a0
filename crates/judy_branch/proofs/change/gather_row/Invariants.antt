use Rattle.std.proofs.Common.{◌≡◌, take}
use Rattle.judy_branch.specs.declared.shape.Shape.TheVariants.{Linear}
use Rattle.judy_branch.specs.Children.{children_in}
use Rattle.judy_branch.proofs.change.gather_row.Given as goal

abbrev pub invariant-loop-at : goal.invariant-loop-at
invariant-loop-at l = take l.at l.list ≡ take l.at (children_in Linear l.words)
