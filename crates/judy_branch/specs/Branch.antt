-- What a reference to a branch leads to. Its children are references as words; the branch does not
-- look at what they lead to.
--     IsBranch b w              the reference w leads to a sound branch
--     branch_view b w           its View
--     IsBranchOf b w view       it leads to a sound branch with this view
--     branch_number w           the number of its block
use Rattle.std.specs.Prelude.{◌≡◌, ℕ, List, [], Option, Some, None}
use Rattle.judy_arena.specs.Blocks.{Blocks, words_of}
use Rattle.judy_refs.specs.References.{number_of}
use Rattle.judy_model.specs.Contents.{Entries, word_order, with_entry, without_key}
use Rattle.judy_branch.specs.declared.shape.Shape.{Shape}
use Rattle.judy_branch.specs.Children.{shape_of, children_in, level_in, prefix_in, population_in, IsShaped}

-- the view of a branch: the byte by which it chooses, the bytes before that one (the others are 0),
-- the number of keys below, and
-- its children, each a byte with the word of a reference, in rising order of the bytes
pub record View : Type 0 where
  pub level : ℕ
  pub prefix : ℕ
  pub population : ℕ
  pub children : Entries ℕ

-- the view with this child at the byte, and this population
abbrev pub with_child : View → ℕ → ℕ → ℕ → View
with_child v byte child n = record { level = v.level; prefix = v.prefix; population = n; children = with_entry word_order v.children byte child }

-- the view without the child of the byte, and with this population
abbrev pub without_child : View → ℕ → ℕ → View
without_child v byte n = record { level = v.level; prefix = v.prefix; population = n; children = without_key word_order v.children byte }

-- the words of the branch's block
abbrev pub branch_words : Blocks → ℕ → List ℕ
branch_words b w = words_of b (number_of w)

-- the view of the words of a branch of this shape
abbrev pub view_in : Shape → List ℕ → View
view_in shape ws = record { level = level_in ws; prefix = prefix_in ws; population = population_in ws; children = children_in shape ws }

abbrev pub IsShapedBy : Option Shape → List ℕ → Type 0
IsShapedBy None ws = ⊥
IsShapedBy (Some shape) ws = IsShaped shape ws

abbrev pub children_by : Option Shape → List ℕ → Entries ℕ
children_by None ws = []
children_by (Some shape) ws = children_in shape ws

unfoldable pub IsBranch : Blocks → ℕ → Type 0
IsBranch b w = IsShapedBy (shape_of w) (branch_words b w)

unfoldable pub branch_view : Blocks → ℕ → View
branch_view b w = record {
  level = level_in (branch_words b w);
  prefix = prefix_in (branch_words b w);
  population = population_in (branch_words b w);
  children = children_by (shape_of w) (branch_words b w);
}

abbrev pub branch_number : ℕ → ℕ
branch_number w = number_of w

-- the reference leads to a sound branch with this view
pub record IsBranchOf (b : Blocks) (w : ℕ) (v : View) : Type 0 where
  pub branch : IsBranch b w
  pub view : branch_view b w ≡ v
