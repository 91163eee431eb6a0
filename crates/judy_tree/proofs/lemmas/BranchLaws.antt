-- What is known of a branch, by the laws of branches.
use Rattle.std.proofs.Common.{◌≡◌, ◌≢◌, ℕ, ◌-◌, ◌*◌, ◌<◌, ◌≤◌, ◌%◌, ◌^◌, Bool, true, false, [], ◌∷◌, length, refl, arith}
use Rattle.std.specs.Prelude.{nat_lt, IsTrue}
use Rattle.judy_arena.specs.Blocks.{Blocks, block, is_live, words_of}
use Rattle.judy_refs.specs.References.{kind_part, is_reference}
use Rattle.judy_model.specs.Contents.{word_order, IsRising}
use Rattle.std.specs.Prelude.{not, ◌&&◌, ◌==◌}
use Rattle.std.specs.List.{list_all}
use Rattle.std.proofs.lemmas.Bool.Decides.{nat_tests}
use Rattle.judy_model.specs.Contents.{Entries}
use Rattle.judy_branch.specs.Children.{is_child, is_child_entry}
use Rattle.judy_branch.proofs.lemmas.BranchLaws.{branch-stays, branches-are-sound}
use Rattle.judy_tree.specs.Each.{Each}
use Rattle.judy_branch.specs.Branch.{IsBranch, View, branch_view, branch_number}

-- a byte with a reference to something
pub record IsPlace (c : ℕ × ℕ) : Type 0 where
  pub byte : c.0 < 256
  pub reference : IsTrue (is_reference c.1)
  pub some : c.1 ≢ 0

-- what the view of a branch may be
pub record IsView (t : View) : Type 0 where
  pub level : t.level ≤ 6
  pub prefix : t.prefix % 2 ^ (64 - 8 * t.level) ≡ 0
  pub rising : IsRising word_order t.children
  pub many : 2 ≤ length t.children
  pub places : Each IsPlace t.children

pub branch-sound : (b : Blocks) (w : ℕ) → IsBranch b w → IsView (branch_view b w)
branch-sound b w h =
    let s = branches-are-sound b w h in
    record { level = s.level; prefix = s.prefix; rising = s.rising; many = s.two; places = places (branch_view b w).children s.children }
  where
    left : (a b : Bool) → (a && b) ≡ true → a ≡ true
    left true b h = refl
    left false b h = h

    right : (a b : Bool) → (a && b) ≡ true → b ≡ true
    right true b h = h
    right false b h = cc

    less : (n : ℕ) → nat_lt n 256 ≡ true → n < 256
    less n h = grind (arith, nat_tests)

    not_zero : (n : ℕ) → not (n == 0) ≡ true → n ≢ 0
    not_zero n h e = grind (arith, nat_tests)

    place : (c : ℕ × ℕ) → is_child_entry c ≡ true → IsPlace c
    place c h =
        let child = right (nat_lt c.0 256) (is_child c.1) h in
        record {
          byte = less c.0 (left (nat_lt c.0 256) (is_child c.1) h);
          reference = right (not (c.1 == 0)) (is_reference c.1)
              child;
          some = not_zero c.1 (left (not (c.1 == 0)) (is_reference c.1) child);
        }

    places : (l : Entries ℕ) → list_all is_child_entry l ≡ true → Each IsPlace l
    places [] h = tt
    places (c ∷ l) h = (place c (left (is_child_entry c) (list_all is_child_entry l) h), places l (right (is_child_entry c) (list_all is_child_entry l) h))

-- a branch of which the block did not change
pub record Kept (a b : Blocks) (w : ℕ) : Type 0 where
  pub branch : IsBranch b w
  pub view : branch_view b w ≡ branch_view a w

pub branch-kept : (a b : Blocks) (w : ℕ) → IsBranch a w → block b (branch_number w) ≡ block a (branch_number w) → Kept a b w
branch-kept a b w h same = let k = branch-stays a b w same h in record { branch = k.branch; view = k.view }

pub branch-live : (b : Blocks) (w : ℕ) → IsBranch b w → is_live b (branch_number w) ≡ true
branch-live b w h = (branches-are-sound b w h).live

-- its reference is not a leaf's
pub branch-kind : (b : Blocks) (w : ℕ) → IsBranch b w → nat_lt 3 (kind_part w) ≡ true
branch-kind b w h = (branches-are-sound b w h).kind

pub branch-most : (b : Blocks) (w : ℕ) → IsBranch b w → kind_part w ≤ 6
branch-most b w h = (branches-are-sound b w h).known

-- the bound on the words of its block
pub branch-space : (b : Blocks) (w : ℕ) → IsBranch b w → length (words_of b (branch_number w)) ≤ 4 * length (branch_view b w).children
branch-space b w h = (branches-are-sound b w h).words

pub branch-least : (b : Blocks) (w : ℕ) → IsBranch b w → 4 ≤ length (words_of b (branch_number w))
branch-least b w h = (branches-are-sound b w h).some_words
