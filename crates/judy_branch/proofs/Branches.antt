-- What a reference to a branch leads to.
use Rattle.std.proofs.Common.{◌≡◌, ◌≢◌, ℕ, ◌<◌, ◌≤◌, List, length, Option, Some, None, ap, sym, ◌∙◌, refl, subst, arith, eqb, true}
use Rattle.std.proofs.lemmas.Bool.Decides.{nat_tests}
use Rattle.std.specs.Prelude.{IsSome, IfSome, IsTrue, not, ◌==◌}
use Rattle.judy_refs.specs.References.{is_reference, kind_part, kind_of_number}
use Rattle.judy_arena.specs.Blocks.{Blocks}
use Rattle.judy_model.specs.Contents.{word_order, value_of}
use Rattle.judy_model.proofs.lemmas.TestLemmas.{and_right}
use Rattle.judy_branch.specs.declared.shape.Shape.{Shape}
use Rattle.judy_branch.specs.declared.shape.Shape.TheVariants.{Full}
use Rattle.judy_branch.specs.Children.{shape_of, shape_by, count_in, children_in, level_in, prefix_in, population_in, IsLaid, IsShaped, is_child}
use Rattle.judy_branch.specs.Branch.{IsBranch, View, IsShapedBy, children_by, branch_words, branch_view, view_in}
use Rattle.judy_branch.proofs.Shapes.{found-sound}
use Rattle.judy_branch.proofs.Lists.{laid-count, used-some}

same_kind : (k n : ℕ) → eqb k n ≡ true → k ≡ n
same_kind k n h = grind (arith, nat_tests)

some_shape : (o : Option Shape) (ws : List ℕ) → IsShapedBy o ws → IsSome o
some_shape None ws h = absurd h
some_shape (Some s) ws h = refl

pub no_some : IsSome {T = Shape} None → ⊥
no_some h = cc

module _ (b : Blocks) (w : ℕ) (h : IsBranch b w) where
  pub has-shape : IsSome (shape_of w)
  unfolding IsBranch
  has-shape = some_shape (shape_of w) (branch_words b w) h

  -- its words by its shape
  pub is-shaped : (s : Shape) → shape_of w ≡ Some s → IsShaped s (branch_words b w)
  unfolding IsBranch
  is-shaped s e = subst (λ o. IsShapedBy o (branch_words b w)) e h

  pub some-room : 3 < length (branch_words b w)
  some-room = by_shape (shape_of w) refl
    where
      by_shape : (o : Option Shape) → shape_of w ≡ o → 3 < length (branch_words b w)
      by_shape None e = absurd (no_some (subst (λ o. IsSome o) e has-shape))
      by_shape (Some s) e = let r = (is-shaped s e).laid.room in let f = used-some s (count_in (branch_words b w)) in omega arith

  pub small-level : level_in (branch_words b w) ≤ 6
  small-level = by_shape (shape_of w) refl
    where
      by_shape : (o : Option Shape) → shape_of w ≡ o → level_in (branch_words b w) ≤ 6
      by_shape None e = absurd (no_some (subst (λ o. IsSome o) e has-shape))
      by_shape (Some s) e = (is-shaped s e).level

no_shape : (w : ℕ) → w ≡ 0 → shape_of w ≡ None
unfolding shape_of
no_shape w e = ap shape_of e

-- a reference to a branch refers to a block
pub is-some : (b : Blocks) (w : ℕ) → IsBranch b w → w ≢ 0
is-some b w h e = no_some (subst (λ o. IsSome o) (no_shape w e) (has-shape b w h))

-- what is seen of it, by its shape
pub view-is : (b : Blocks) (w : ℕ) (s : Shape) → shape_of w ≡ Some s → branch_view b w ≡ view_in s (branch_words b w)
unfolding branch_view
view-is b w s e = ap (λ o. record {
  level = level_in (branch_words b w);
  prefix = prefix_in (branch_words b w);
  population = population_in (branch_words b w);
  children = children_by o (branch_words b w);
}) e

-- its children by its shape
pub children-are : (b : Blocks) (w : ℕ) (s : Shape) → shape_of w ≡ Some s → (branch_view b w).children ≡ children_in s (branch_words b w)
children-are b w s e = ap (λ (v : View). v.children) (view-is b w s e)

-- a reference to a full branch has that shape
pub full-shape : (w : ℕ) → eqb (kind_part w) 6 ≡ true → shape_of w ≡ Some Full
unfolding shape_of
full-shape w h = ap (λ k. shape_by (kind_of_number k)) (same_kind (kind_part w) 6 h)

-- a child that was found is a reference
pub found-reference : (s : Shape) (ws : List ℕ) (k w : ℕ) → IsLaid s ws → value_of word_order (children_in s ws) k ≡ Some w → IsTrue (is_child w)
found-reference s ws k w laid e = subst (λ o. IfSome o (λ w. IsTrue (is_child w))) e (found-sound (children_in s ws) k laid.sound)

pub child-reference : (w : ℕ) → IsTrue (is_child w) → IsTrue (is_reference w)
child-reference w h = and_right (not (w == 0)) (is_reference w) h

-- the words that were read, as a branch
module _ (b : Blocks) (w : ℕ) (s : Shape) (ws : List ℕ) (e : shape_of w ≡ Some s) (f : ws ≡ branch_words b w) where
  pub laid-words : IsBranch b w → IsLaid s ws
  laid-words h = subst (IsLaid s) (sym f) (is-shaped b w h s e).laid

  pub children-words : (branch_view b w).children ≡ children_in s ws
  children-words = children-are b w s e ∙ ap (children_in s) (sym f)

  -- the child of a byte is among them, and is a reference
  pub child-words : (k : ℕ) → value_of word_order (branch_view b w).children k ≡ value_of word_order (children_in s ws) k
  child-words k = ap (λ l. value_of word_order l k) children-words

  pub found-some : IsBranch b w → (k : ℕ) → IfSome (value_of word_order (children_in s ws) k) (λ r. IsTrue (is_reference r))
  found-some h k = weaker (value_of word_order (children_in s ws) k) (found-sound (children_in s ws) k (laid-words h).sound)
    where
      weaker : (o : Option ℕ) → IfSome o (λ r. IsTrue (is_child r)) → IfSome o (λ r. IsTrue (is_reference r))
      weaker None i = i
      weaker (Some r) i = child-reference r i

-- the count is that of the children
pub count-is : (b : Blocks) (w : ℕ) → IsBranch b w → length (branch_view b w).children ≡ count_in (branch_words b w)
count-is b w h = by_shape (shape_of w) refl
  where
    by_shape : (o : Option Shape) → shape_of w ≡ o → length (branch_view b w).children ≡ count_in (branch_words b w)
    by_shape None e = absurd (no_some (subst (λ o. IsSome o) e (has-shape b w h)))
    by_shape (Some s) e = ap length (children-are b w s e) ∙ laid-count s (branch_words b w) (is-shaped b w h s e).laid
