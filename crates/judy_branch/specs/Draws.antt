-- What the calls that put children ask of the arena.
--     branch_size b w    how many words the branch's block has
--     HasRoom b w        the block has room for one more child
use Rattle.std.specs.Prelude.{ℕ, List, length, Option, Some, None}
use Rattle.judy_arena.specs.Blocks.{Blocks}
use Rattle.judy_branch.specs.declared.shape.Shape.{Shape}
use Rattle.judy_branch.specs.Children.{shape_of, HasChildRoom}
use Rattle.judy_branch.specs.Branch.{branch_words}

abbrev pub branch_size : Blocks → ℕ → ℕ
branch_size b w = length (branch_words b w)

abbrev pub HasRoomBy : Option Shape → List ℕ → Type 0
HasRoomBy None ws = ⊥
HasRoomBy (Some shape) ws = HasChildRoom shape ws

unfoldable pub HasRoom : Blocks → ℕ → Type 0
HasRoom b w = HasRoomBy (shape_of w) (branch_words b w)
