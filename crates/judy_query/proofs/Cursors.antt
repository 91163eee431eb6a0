-- The cursor of a word that is present.
use Rattle.std.proofs.Common.{◌≡◌, ◌≢◌, ◌+◌, ℕ, Bool, true, false, [], ◌∷◌, Option, Some, None, is_some, ap, sym, ◌∙◌, refl}
use Rattle.std.proofs.lemmas.Bool.{false≢true as not_true}
use Rattle.std.specs.Prelude.{IfSome, nat_le, nat_lt}
use Rattle.judy_arena.specs.Blocks.{Blocks}
use Rattle.judy_model.specs.Contents.{Entries, IsRising, word_order, value_of, first, last, prev}
use Rattle.judy_model.specs.Walks.{found_by}
use Rattle.judy_model.specs.declared.calls.Search.{Search}
use Rattle.judy_model.specs.declared.calls.Search.TheVariants.{First, Next, Last, Prev}
use Rattle.judy_model.proofs.lemmas.WordLemmas.{first-words, last-words, prev-words}
use Rattle.judy_model.proofs.lemmas.EntryLemmas.{later, tail, here}
use Rattle.judy_leaf.specs.Leaf.{IsLeaf}
use Rattle.judy_branch.specs.Branch.{IsBranch, branch_view}
use Rattle.judy_tree.specs.Nodes.{is_branch}
use Rattle.judy_tree.specs.Root.{IsRoot, entries}
use Rattle.judy_tree.proofs.lemmas.Finds.{find-in}
use Rattle.judy_tree.specs.Each.{Each}
use Rattle.judy_tree.proofs.lemmas.Joins as joins
use Rattle.judy_tree.proofs.lemmas.Joins.{each-weaker}
use Rattle.judy_tree.proofs.lemmas.BranchLaws.{branch-sound}
use Rattle.judy_tree.proofs.lemmas.Trees.{leaf-root, root-words}
use Rattle.judy_query.specs.Fingers.{IsBetween}
use Rattle.judy_query.specs.Cursors.{AreBetween, IsCursor}
use Rattle.judy_query.specs.Parts.{IsAfter, IsBefore}
use Rattle.judy_query.specs.declared.cursor.Cursor.{Cursor}
use Rattle.judy_query.proofs.Betweens as betweens
use Rattle.judy_query.proofs.Lasts as down
use Rattle.judy_query.proofs.Places.{next-first}
use Rattle.judy_query.proofs.Searches as up

-- a word that is there has a value
pub value-there : (o : Option ℕ) → is_some o ≡ true → (u : ℕ) × (o ≡ Some u)
value-there None h = absurd (not_true h)
value-there (Some u) h = (u, refl)

-- each entry is there
own-values : (l : Entries ℕ) → IsRising word_order l → Each (λ e. value_of word_order l e.0 ≡ Some e.1) l
own-values [] h = tt
own-values (e ∷ es) h = (
  here e es,
  each-weaker (λ d. value_of word_order es d.0 ≡ Some d.1) (λ d. value_of word_order (e ∷ es) d.0 ≡ Some d.1)
      es (λ d i. later e es (Some d) h i) (own-values es (tail e es h)),
)

-- what a search finds is there
module _ (l : Entries ℕ) (x : ℕ) (e : ℕ × ℕ) (rising : IsRising word_order l) where
  pub first-there : first word_order l x ≡ Some e → value_of word_order l e.0 ≡ Some e.1
  first-there found = up.each-first (λ e. value_of word_order l e.0 ≡ Some e.1) (λ e. nat_le x e.0) l e (own-values l rising)
      (sym (first-words l x) ∙ found)

  pub last-there : last word_order l x ≡ Some e → value_of word_order l e.0 ≡ Some e.1
  last-there found = (down.each-last (λ e. value_of word_order l e.0 ≡ Some e.1) (λ e. nat_le e.0 x) l e (own-values l rising)
      (sym (last-words l x) ∙ found)).0

  pub prev-there : prev word_order l x ≡ Some e → value_of word_order l e.0 ≡ Some e.1
  prev-there found = (down.each-last (λ e. value_of word_order l e.0 ≡ Some e.1) (λ e. nat_lt e.0 x) l e (own-values l rising)
      (sym (prev-words l x) ∙ found)).0

pub found-there : (l : Entries ℕ) (search : Search) (x : ℕ) (e : ℕ × ℕ) → IsRising word_order l → found_by word_order l search x ≡ Some e
    → value_of word_order l e.0 ≡ Some e.1
found-there l First x e rising found = first-there l x e rising found
found-there l Next x e rising found = first-there l (x + 1) e rising (sym (next-first l x) ∙ found)
found-there l Last x e rising found = last-there l x e rising found
found-there l Prev x e rising found = prev-there l x e rising found

-- the words below a child of a branch are the branch's, and so are their neighbours
module _ (v : Bool) (b : Blocks) (w : ℕ) (is : is_branch w ≡ true) (root : IsRoot v b w) where
  above : (byte c y z : ℕ) → value_of word_order (branch_view b w).children byte ≡ Some c → value_of word_order (entries v b c) y ≡ Some z
      → value_of word_order (entries v b w) y ≡ Some z
  above byte c y z there has = find-in v b w y is root byte (betweens.at v b w is root y byte c z there has)
      ∙ ap (λ o. value_of word_order (joins.kid (entries v b) o) y) there ∙ has

  pub all-between : (top over : ℕ) → ((y z : ℕ) → value_of word_order (entries v b w) y ≡ Some z → IsBetween v b top y over w)
      → AreBetween v b top w
  all-between top over near byte c y z there has =
      betweens.between-below v b w is root y byte c z there has top over (near y z (above byte c y z there has))

-- ---- a cursor moves

-- to an entry of its leaf
pub cursor-moves : (v : Bool) (b : Blocks) (w x : ℕ) (c : Cursor) → IsCursor v b w x c → (e : ℕ × ℕ)
    → value_of word_order (entries v b c.leaf) e.0 ≡ Some e.1 → IsCursor v b w e.0 c
cursor-moves v b w x c old e there = record {
  leaf = old.leaf;
  low = old.low;
  here = ap is_some there;
  near = old.near;
  kids = old.kids;
}

pub leaf-rising : (v : Bool) (b : Blocks) (w : ℕ) → IsLeaf v b w → IsRising word_order (entries v b w)
leaf-rising v b w leaf = (root-words v b w (leaf-root v b w leaf)).0

-- to an entry of another leaf below the branch
pub cursor-beside : (v : Bool) (b : Blocks) (w x : ℕ) (c : Cursor) → IsCursor v b w x c → c.branch ≢ 0
    → (k : ℕ × ℕ) → value_of word_order (branch_view b c.branch).children k.0 ≡ Some k.1 → is_branch k.1 ≡ false → IsLeaf v b k.1
    → (o : Option (ℕ × ℕ)) → ((e : ℕ × ℕ) → o ≡ Some e → value_of word_order (entries v b k.1) e.0 ≡ Some e.1)
    → IfSome o (λ e. IsCursor v b w e.0 (record { leaf = k.1; branch = c.branch }))
cursor-beside v b w x c old branch k below low leaf None there = tt
cursor-beside v b w x c old branch k below low leaf (Some e) there = record {
  leaf = leaf;
  low = low;
  here = ap is_some (there e refl);
  near = λ y z h. old.kids branch k.0 k.1 y z below h;
  kids = old.kids;
}

-- the child after a word's byte is a child, and so is the one before it
module _ (b : Blocks) (w x : ℕ) (over : IsBranch b w) (k : ℕ × ℕ) where
  pub after-below : IsAfter b w x k → value_of word_order (branch_view b w).children k.0 ≡ Some k.1
  after-below a = first-there (branch_view b w).children (a.byte + 1) k (branch-sound b w over).rising a.next

  pub before-below : IsBefore b w x k → value_of word_order (branch_view b w).children k.0 ≡ Some k.1
  before-below a = prev-there (branch_view b w).children a.byte k (branch-sound b w over).rising a.next
