-- What a leaf answers, or the child beside it, as the answer of the node above.
use Rattle.std.proofs.Common.{◌≡◌, ℕ, ◌+◌, Bool, true, false, Option, Some, None, is_some, ap, sym, ◌∙◌, arith}
use Rattle.std.proofs.lemmas.Bool.{false≢true as not_true}
use Rattle.judy_arena.specs.Blocks.{Blocks}
use Rattle.judy_model.specs.Contents.{word_order, value_of, first, last}
use Rattle.judy_branch.specs.Branch.{branch_view}
use Rattle.judy_tree.specs.Nodes.{is_branch}
use Rattle.judy_tree.specs.Root.{IsRoot, entries}
use Rattle.judy_leaf.proofs.lemmas.OwnBlock.{only_nothing}
use Rattle.judy_tree.proofs.lemmas.Finds.{kid-at}
use Rattle.judy_tree.proofs.lemmas.Trees.{root-leaf, leaf-content, root-top}
use Rattle.judy_query.specs.Parts.{head_in, own_head, IsNear}
use Rattle.judy_query.proofs.Besides.{beside-after, beside-before}
use Rattle.judy_query.proofs.Queries.{some_same}
use Rattle.judy_query.proofs.Searches as up
use Rattle.judy_query.proofs.Lasts as down

none-some : (c : ℕ) → None ≡ Some c → ⊥
none-some c h = not_true (ap is_some h)

pub some-same : (a c : ℕ) → Some a ≡ Some c → a ≡ c
some-same a c h = cc

-- a branch on the way to the word, at which it has this byte
module _ (v : Bool) (b : Blocks) (root w : ℕ) (is : is_branch w ≡ true) (sound : IsRoot v b w) (x byte : ℕ) (at : head_in b w x ≡ own_head b w + byte)
    (from : (e : ℕ × ℕ) → first word_order (entries v b w) x ≡ Some e → first word_order (entries v b root) x ≡ Some e)
    (upto : (e : ℕ × ℕ) → last word_order (entries v b w) x ≡ Some e → last word_order (entries v b root) x ≡ Some e) where
  -- a word has one byte there
  there-too : (y : ℕ) → head_in b w x ≡ own_head b w + y → (o : Option ℕ) → value_of word_order (branch_view b w).children byte
      ≡ o → value_of word_order (branch_view b w).children y ≡ o
  there-too y h o there = let same : y ≡ byte = omega arith in ap (value_of word_order (branch_view b w).children) same ∙ there

  -- with no child there
  pub near-none : value_of word_order (branch_view b w).children byte ≡ None → IsNear v b root x w 0
  near-none there = record {
    sound = (only_nothing.nothing v b).0;
    from = λ e h. absurd (not_true (sym (ap is_some (sym h ∙ ap (λ l. first word_order l x) (only_nothing.nothing v b).1))));
    upto = λ e h. absurd (not_true (sym (ap is_some (sym h ∙ ap (λ l. last word_order l x) (only_nothing.nothing v b).1))));
    over = (root-top v b w is sound).branch;
    after = λ n k a. beside-after v b w is sound x a.byte a.at _ from None (there-too a.byte a.at None there) (λ c i. absurd (none-some c i)) k a.next;
    before = λ n k a. beside-before v b w is sound x a.byte a.at _ upto None (there-too a.byte a.at None there) (λ c i. absurd (none-some c i)) k a.next;
  }

  -- with a leaf there
  pub near-leaf : (leaf : ℕ) → is_branch leaf ≡ false → value_of word_order (branch_view b w).children byte ≡ Some leaf → IsNear v b root x w leaf
  near-leaf leaf low there =
      let same = leaf-content v b leaf low in
      record {
        sound = root-leaf v b leaf low (kid-at v b w x is sound byte leaf there).sound;
        from = λ e h. from e (up.entry-child v b w is sound x byte leaf at there e (ap (λ l. first word_order l x) same ∙ h));
        upto = λ e h. upto e (down.entry-child v b w is sound x byte leaf at there e (ap (λ l. last word_order l x) same ∙ h));
        over = (root-top v b w is sound).branch;
        after = λ n k a. beside-after v b w is sound x a.byte a.at _ from (Some leaf) (there-too a.byte a.at (Some leaf) there)
            (λ c i. ap (λ c. first word_order (entries v b c) x) (sym (some_same leaf c i)) ∙ ap (λ l. first word_order l x) same
            ∙ n) k a.next;
        before = λ n k a. beside-before v b w is sound x a.byte a.at _ upto (Some leaf) (there-too a.byte a.at (Some leaf) there)
            (λ c i. ap (λ c. last word_order (entries v b c) x) (sym (some_same leaf c i)) ∙ ap (λ l. last word_order l x) same ∙ n) k a.next;
      }
