-- A branch of a tree is taken apart.
use Rattle.std.proofs.Common.{◌≡◌, ℕ, suc, ◌+◌, ◌*◌, ◌<◌, ◌≤◌, Bool, true, false, ◌||◌, cond, ◌∷◌, [], Some, None, length, ap, sym, ◌∙◌, subst, arith}
use Rattle.judy_arena.specs.Blocks.{Blocks}
use Rattle.judy_arena.specs.Frame.{Frame}
use Rattle.judy_arena.proofs.lemmas.BlockLaws.{itself}
use Rattle.judy_arena.proofs.lemmas.FrameLaws.{frame-stays}
use Rattle.judy_model.specs.Contents.{word_order, value_of, head_of}
use Rattle.judy_branch.specs.Branch.{branch_view, branch_number}
use Rattle.judy_tree.specs.Nodes.{is_branch}
use Rattle.judy_tree.specs.Parts.{from}
use Rattle.judy_tree.specs.Root.{entries, numbers, IsRoot}
use Rattle.judy_tree.proofs.lemmas.BranchLaws.{branch-kept, Kept as BranchKept, branch-live, IsPlace}
use Rattle.judy_tree.proofs.lemmas.Joins.{each-found}
use Rattle.judy_tree.proofs.lemmas.Clearing.{IsCleared, cleared-start, cleared-next, cleared-end, child-apart, own-not-gone, next-from, found-from}
use Rattle.judy_tree.proofs.lemmas.Trees.{Top, root-top, root-framed, Kept}
use Rattle.judy_tree.proofs.Steps.{kid-of, kid-falls}

-- the parts of the branch below low are released
abbrev pub IsPartly : Bool → Blocks → ℕ → Blocks → ℕ → Type 0
IsPartly v a w b low = IsCleared (numbers a) (branch_number w ∷ []) (branch_view a w).children a b low

module _ (v : Bool) (a : Blocks) (w : ℕ) (is : is_branch w ≡ true) (node : IsRoot v a w) where
  top : Top v a w
  top = root-top v a w is node

  pub partly-start : IsPartly v a w a 0
  partly-start = cleared-start (numbers a) (branch_number w ∷ []) (branch_view a w).children a top.over.once

  module _ (b : Blocks) (low : ℕ) (h : IsPartly v a w b low) where
    -- the branch is as it was
    pub own-here : BranchKept a b w
    own-here = branch-kept a b w top.branch
        (frame-stays a b h.gone [] (branch_number w) h.frame (branch-live a w top.branch)
        (own-not-gone (numbers a) (branch_number w ∷ []) (branch_view a w).children a b low h (branch_number w)
        (ap (λ t. t || false) (itself (branch_number w))))).1

    pub partly-end : (d : Blocks) → head_of (from low (branch_view b w).children) ≡ None → Frame b d (branch_number w ∷ []) [] → Frame a d (numbers a w) []
    partly-end d e g = subst (λ l. Frame a d l []) (sym top.blocks)
        (cleared-end (numbers a) (branch_number w ∷ []) (branch_view a w).children a b d low
        (ap (λ z. head_of (from low z.children)) (sym own-here.view) ∙ e) h g)

    module _ (x c : ℕ) (e : head_of (from low (branch_view b w).children) ≡ Some (x, c)) where
      there : head_of (from low (branch_view a w).children) ≡ Some (x, c)
      there = ap (λ z. head_of (from low z.children)) (sym own-here.view) ∙ e

      found : value_of word_order (branch_view a w).children x ≡ Some c
      found = found-from low (branch_view a w).children (x, c) top.view.rising there

      -- the part is as it was
      pub part-here : Kept v a b c
      part-here = (root-framed v a b h.gone [] c h.frame (kid-of v a w x is node c found).sound
          (child-apart (numbers a) (branch_number w ∷ []) (branch_view a w).children a b b low x c top.view.rising there h)).kept

      -- its byte is from low on
      pub part-above : low ≤ x
      part-above = (next-from low (branch_view a w).children (x, c) top.view.rising there).0

      pub part-byte : x < 256
      part-byte = (each-found IsPlace x c (branch_view a w).children top.view.places found).byte

      -- it has fewer entries
      pub part-falls : 2 * length (entries v b c) + cond (is_branch c) 0 1 < 2 * length (entries v a w) + cond (is_branch w) 0 1
      part-falls =
          let f = kid-falls v a w x is node c found in
          let k = ap length part-here.content in
          omega (arith, f, k)

      -- and it is released
      pub partly-next : (d : Blocks) (low' : ℕ) → low' ≡ x + 1 → Frame b d (numbers b c) [] → IsPartly v a w d low'
      partly-next d low' n g = subst (IsPartly v a w d) (let m : suc x ≡ low' = omega (arith, n) in m)
          (cleared-next (numbers a) (branch_number w ∷ []) (branch_view a w).children a b d low x c top.view.rising there h
          (subst (λ l. Frame b d l []) part-here.blocks g))
