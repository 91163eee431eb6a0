-- What is known of a branch's block after a child was removed from it, and after the rest were laid out for their number.
use Rattle.std.proofs.Common.{◌≡◌, ℕ, ◌+◌, ◌<◌, ◌≤◌, true, List, take, length, Some, ap, sym, ◌∙◌, subst, arith}
use Rattle.judy_arena.specs.Blocks.{Blocks, words_of, put}
use Rattle.judy_refs.specs.References.{number_of}
use Rattle.judy_arena.specs.LendingBlocks.{written_over}
use Rattle.judy_arena.specs.Room.{room}
use Rattle.judy_model.specs.Contents.{word_order, has_key, without_key}
use Rattle.judy_branch.specs.declared.shape.Shape.{Shape}
use Rattle.judy_branch.specs.Children.{IsShaped, IsBuilt, IsRoom, used_words, least, count_in, children_in, level_in, prefix_in, shape_of}
use Rattle.judy_branch.specs.Branch.{IsBranch, IsBranchOf, branch_view, without_child}
use Rattle.judy_branch.specs.Written.{IsMoved}
use Rattle.judy_branch.proofs.Changes.{own-shaped, own-live, own-children, lent-words, fewer, cut-some, cut-within, cut-room, taken-branch}

-- the blocks after one was lent, and these words were left in it
abbrev pub lent : Blocks → ℕ → List ℕ → Blocks
lent a n g = put a n (written_over (words_of a n) g)

-- the child of k is gone: g is what the block of the branch w holds
pub record Removed (a : Blocks) (w n : ℕ) (s : Shape) (g : List ℕ) (k m : ℕ) : Type 0 where
  pub branch : IsBranch a w
  pub shape : shape_of w ≡ Some s
  pub number : n ≡ number_of w
  pub shaped : IsShaped s (words_of a n)
  pub live : 0 < length (words_of a n)
  pub own : (branch_view a w).children ≡ children_in s (words_of a n)
  pub there : has_key word_order (children_in s (words_of a n)) k ≡ true
  pub less : IsBuilt s g (level_in (words_of a n)) (prefix_in (words_of a n)) m (without_key word_order (children_in s (words_of a n)) k)
  pub size : length g ≡ length (words_of a n)
  pub at : words_of (lent a n g) n ≡ g
  pub fewer : count_in g + 1 ≡ count_in (words_of a n)

pub removed : {a : Blocks} {w n : ℕ} {s : Shape} {g ws : List ℕ} {k m : ℕ} → IsBranch a w → shape_of w ≡ Some s → n ≡ number_of w
    → has_key word_order (branch_view a w).children k ≡ true → ws ≡ words_of a n
    → IsBuilt s g (level_in ws) (prefix_in ws) m (without_key word_order (children_in s ws) k) → length g ≡ length ws → Removed a w n s g k m
removed {a} {w} {n} {s} {g} {ws} {k} {m} h e number has f built words =
    let own = own-children a w n s h e number in
    let there : has_key word_order (children_in s (words_of a n)) k ≡ true = ap (λ es. has_key word_order es k) (sym own) ∙ has in
    let less = subst (λ l. IsBuilt s g (level_in l) (prefix_in l) m (without_key word_order (children_in s l) k)) f built in
    let size : length g ≡ length (words_of a n) = words ∙ ap length f in
    record {
      branch = h;
      shape = e;
      number = number;
      shaped = own-shaped a w n s h e number;
      live = own-live a w n s h e number;
      own = own;
      there = there;
      less = less;
      size = size;
      at = lent-words a n g size;
      fewer = fewer a w n s h e number g k m there less;
    }

-- the children are laid out for their number: u is what the block holds, and it is cut to len words
pub record Settled (a : Blocks) (w n : ℕ) (g : List ℕ) (k m : ℕ) (t : Shape) (u : List ℕ) (len : ℕ) : Type 0 where
  pub some : 4 < len
  pub within : len ≤ length (words_of (lent (lent a n g) n u) n)
  pub sized : IsRoom (length (words_of (lent (lent a n g) n u) n))
  pub taken : (b : Blocks) (r : ℕ) → words_of b n ≡ take (room len) (words_of (lent (lent a n g) n u) n) → shape_of r ≡ Some t
      → number_of r ≡ n → IsBranchOf b r (without_child (branch_view a w) k m)

pub settled : {a : Blocks} {w n : ℕ} {s t : Shape} {g u vs : List ℕ} {k m left len : ℕ} → Removed a w n s g k m
    → left ≡ count_in g → vs ≡ words_of (lent a n g) n → IsMoved s t vs u → least t ≤ count_in vs → length u ≡ length vs
    → len ≡ used_words t left → Settled a w n g k m t u len
settled {a} {w} {n} {s} {t} {g} {u} {vs} {k} {m} {left} {len} r count value moved_vs some_vs words is_left =
    let to_g : vs ≡ g = value ∙ r.at in
    let moved = subst (λ l. IsMoved s t l u) to_g moved_vs in
    let some = subst (λ l. least t ≤ count_in l) to_g some_vs in
    let size : length u ≡ length (words_of a n) = words ∙ ap length to_g ∙ r.size in
    let is : len ≡ used_words t (count_in g) = is_left ∙ ap (used_words t) count in
    let at : words_of (lent (lent a n g) n u) n ≡ u = lent-words (lent a n g) n u (words ∙ ap length value) in
    record {
      some = cut-some a w n s r.branch r.shape r.number g k m r.there r.less t u moved some size len is;
      within =
          let fits = cut-within a w n s r.branch r.shape r.number g k m r.there r.less t u moved some size len is in
          omega (arith, fits, ap length at);
      sized = subst IsRoom (sym (ap length at)) (cut-room a w n s r.branch r.shape r.number g k m r.there r.less t u moved some size len is);
      taken = λ b v cut shape number. taken-branch a w n s r.branch r.shape r.number g k m r.there r.less t u moved some size len is b v
          (cut ∙ ap (take (room len)) at) shape number;
    }
