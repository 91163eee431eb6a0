use Rattle.std.proofs.Common.{◌≡◌, take}
use Rattle.judy_branch.specs.declared.shape.Shape.TheVariants.{Bitmap}
use Rattle.judy_branch.specs.Children.{children_in, child_bytes}
use Rattle.judy_branch.specs.Found.{IsPlace}
use Rattle.judy_branch.proofs.change.gather_bits.Given as goal

abbrev pub invariant-loop-at : goal.invariant-loop-at
invariant-loop-at l = record {
  all : take l.at l.list ≡ take l.at (children_in Bitmap l.words);
  place : IsPlace (child_bytes Bitmap l.words) l.from l.at;
}
