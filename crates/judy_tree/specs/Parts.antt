-- The parts of an array whose root is a branch: the arrays under its children.
--     parts b w      each part, with its byte
--     from low cs    the parts with bytes from low on
--     root_number w  the number of the branch's own block
use Rattle.std.specs.Prelude.{ℕ, nat_le, filter}
use Rattle.judy_arena.specs.Blocks.{Blocks}
use Rattle.judy_branch.specs.Branch.{branch_view, branch_number}
use Rattle.judy_model.specs.Contents.{Entries}

-- the parts, each with its byte
abbrev pub parts : Blocks → ℕ → Entries ℕ
parts b w = (branch_view b w).children

-- the children with bytes from low on
abbrev pub from : ℕ → Entries ℕ → Entries ℕ
from low cs = filter (λ c. nat_le low c.0) cs

-- the number of the branch's own block
abbrev pub root_number : ℕ → ℕ
root_number w = branch_number w
