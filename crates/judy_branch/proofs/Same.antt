-- A child that is put in again.
use Rattle.std.proofs.Common.{◌≡◌, ◌<◌, ℕ, true, Option, Some, None, ap, sym, ◌∙◌, refl, subst, arith, set, length, length-set}
use Rattle.std.specs.Prelude.{IsSome}
use Rattle.std.specs.FinMap.{is_sorted}
use Rattle.judy_arena.specs.Blocks.{Blocks, words_of, put}
use Rattle.judy_refs.specs.References.{number_of}
use Rattle.judy_arena.proofs.lemmas.BlockLaws.{words-at}
use Rattle.judy_model.specs.Contents.{word_order}
use Rattle.judy_branch.specs.declared.shape.Shape.{Shape}
use Rattle.judy_branch.specs.Children.{shape_of, children_in, count_in}
use Rattle.judy_branch.specs.Branch.{IsBranch, IsBranchOf, View, branch_view}
use Rattle.judy_branch.proofs.Branches.{has-shape, no_some}
use Rattle.judy_branch.proofs.Lists.{used-some}
use Rattle.judy_branch.proofs.Changes.{own-shaped, own-view, own-children, own-branch, with-population}

module _ (a : Blocks) (w : ℕ) (h : IsBranch a w) where
  -- the children of a branch rise
  pub children-rise : is_sorted word_order (branch_view a w).children ≡ true
  children-rise = by_shape (shape_of w) refl
    where
      by_shape : (o : Option Shape) → shape_of w ≡ o → is_sorted word_order (branch_view a w).children ≡ true
      by_shape None e = absurd (no_some (subst (λ o. IsSome o) e (has-shape a w h)))
      by_shape (Some s) e = ap (is_sorted word_order) (own-children a w (number_of w) s h e refl) ∙ (own-shaped a w (number_of w) s h e refl).laid.rising

  -- a branch of which the population was written
  pub recounted : (b : Blocks) (n m : ℕ) → n ≡ number_of w → b ≡ put a n (set (words_of a n) 2 m)
      → IsBranchOf b w (record { level = (branch_view a w).level; prefix = (branch_view a w).prefix; population = m; children = (branch_view a w).children })
  recounted b n m own e = by_shape (shape_of w) refl
    where
      by_shape : (o : Option Shape) → shape_of w ≡ o
          → IsBranchOf b w
          (record {
            level = (branch_view a w).level;
            prefix = (branch_view a w).prefix;
            population = m;
            children =
                (branch_view a w).children;
          })
      by_shape None f = absurd (no_some (subst (λ o. IsSome o) f (has-shape a w h)))
      by_shape (Some s) f =
          let shaped = own-shaped a w n s h f own in
          let long : 2 < length (words_of a n) = let r = shaped.laid.room in let u = used-some s (count_in (words_of a n)) in omega arith in
          subst (λ (v : View). IsBranchOf b w
          (record { level = v.level; prefix = v.prefix; population = m; children = v.children }))
          (sym (own-view a w n s h f own))
          (own-branch a w n s h f own (set (words_of a n) 2 m) b m (children_in s (words_of a n)) (words-at a b n (set (words_of a n) 2 m) e)
          (with-population (words_of a n) m s long shaped.laid) (length-set (words_of a n) 2 m) (omega arith))
