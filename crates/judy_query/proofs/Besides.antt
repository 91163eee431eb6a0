-- The child beside that of a word's byte: where the child of the byte has no answer, or is not
-- there, the one beside has it.
use Rattle.std.proofs.Common.{◌≡◌, ℕ, ◌+◌, ◌<◌, ◌≤◌, Bool, true, [], ◌∷◌, length, Option, Some, None, is_some, ap, sym, ◌∙◌, refl, arith}
use Rattle.std.specs.Prelude.{find, nat_le, nat_lt}
use Rattle.std.proofs.lemmas.Bool.{false≢true as not_true}
use Rattle.judy_arena.specs.Blocks.{Blocks}
use Rattle.judy_model.specs.Contents.{Entries, word_order, value_of, first, last, prev}
use Rattle.judy_model.proofs.lemmas.WordLemmas.{first-words, last-words, prev-words, le-test}
use Rattle.judy_model.proofs.lemmas.GapLemmas.{le_of}
use Rattle.judy_model.proofs.lemmas.EntryLemmas.{lt_of}
use Rattle.judy_tree.specs.Each.{Each}
use Rattle.judy_branch.specs.Branch.{branch_view}
use Rattle.judy_tree.specs.Nodes.{is_branch, IsKid, depth}
use Rattle.judy_tree.specs.Root.{IsRoot, entries}
use Rattle.judy_tree.proofs.lemmas.Heads.{head-less}
use Rattle.judy_tree.proofs.lemmas.Joins.{each-weaker}
use Rattle.judy_tree.proofs.lemmas.Trees.{root-top}
use Rattle.judy_query.specs.Parts.{head_in, own_head, IsBeside}
use Rattle.judy_query.proofs.Queries.{or_else, kid_of, find-passes, next-here, next-later, else-other}
use Rattle.judy_query.proofs.Searches as up
use Rattle.judy_query.proofs.Lasts as down

-- where all entries are from x on there is a first
pub find-all : (x : ℕ) (l : Entries ℕ) → Each (λ e. x ≤ e.0) l → 0 < length l → is_some (find (λ e. nat_le x e.0) l) ≡ true
find-all x [] a s = absurd (omega arith)
find-all x (e ∷ l) a s = rw (le-test x e.0 a.0) refl

pub else-here : (o p : Option (ℕ × ℕ)) → is_some o ≡ true → or_else o p ≡ o
else-here None p h = absurd (not_true h)
else-here (Some e) p h = refl

-- an answer that there is goes up
pub goes-up : (here own whole : Option (ℕ × ℕ)) → is_some here ≡ true → own ≡ here → ((e : ℕ × ℕ) → own ≡ Some e → whole ≡ Some e) → here ≡ whole
goes-up None own whole h same up = absurd (not_true h)
goes-up (Some e) own whole h same up = sym (up e same)

module _ (v : Bool) (b : Blocks) (w : ℕ) (is : is_branch w ≡ true) (root : IsRoot v b w) (x byte : ℕ) (at : head_in b w x ≡ own_head b w + byte) where
  -- the child after the byte has entries from x on alone
  after-some : (k : ℕ × ℕ) → first word_order (branch_view b w).children (byte + 1) ≡ Some k → is_some (first word_order (entries v b k.1) x) ≡ true
  after-some k e =
      let i = up.kid-first v b w is root (byte + 1) k e in
      let more = le_of (byte + 1) k.0 (find-passes (λ c. nat_le (byte + 1) c.0) (branch_view b w).children k
      (sym (first-words (branch_view b w).children (byte + 1)) ∙ e)) in
      ap is_some (first-words (entries v b k.1) x)
      ∙ find-all x (entries v b k.1) (each-weaker (λ e. head_in b w e.0 ≡ own_head b w + k.0) (λ e. x ≤ e.0) (entries v b k.1)
      (λ e h. let m = head-less (branch_view b w).level x e.0 (omega arith) in omega arith) i.heads) i.filled

  -- it has the branch's answer, where the byte's own child has none
  after-child : (o : Option ℕ) → value_of word_order (branch_view b w).children byte ≡ o
      → ((c : ℕ) → o ≡ Some c → first word_order (entries v b c) x ≡ None) → (k : ℕ × ℕ) → first word_order
      (branch_view b w).children (byte + 1) ≡ Some k
      → first word_order (entries v b w) x ≡ first word_order (entries v b k.1) x
  after-child (Some c) there miss k e =
      up.entry-branch v b w is root x byte (λ g. at) (byte, c) (omega arith) (first-words (branch_view b w).children byte
      ∙ next-here (branch_view b w).children byte c (up.rising v b w is root) there)
      ∙ else-other (first word_order (entries v b c) x) _ (miss c refl) ∙ ap (λ o. first word_order (kid_of (entries v b) o) x) e
  after-child None there miss k e =
      up.entry-branch v b w is root x byte (λ g. at) k (omega arith) (first-words (branch_view b w).children byte
      ∙ next-later (branch_view b w).children byte there ∙ sym (first-words (branch_view b w).children (byte + 1)) ∙ e)
      ∙ else-here (first word_order (entries v b k.1) x) _ (after-some k e)

  pub beside-after : (whole : Option (ℕ × ℕ)) → ((e : ℕ × ℕ) → first word_order (entries v b w) x ≡ Some e → whole ≡ Some e)
      → (o : Option ℕ) → value_of word_order (branch_view b w).children byte ≡ o
      → ((c : ℕ) → o ≡ Some c → first word_order (entries v b c) x ≡ None) → (k : ℕ × ℕ) → first word_order
      (branch_view b w).children (byte + 1) ≡ Some k → IsBeside v b k.1 (first word_order (entries v b k.1) x) whole
  beside-after whole from o there miss k e = record {
    sound = (up.kid-first v b w is root (byte + 1) k e).sound;
    same = goes-up _ _ whole (after-some k e) (after-child o there miss k e) from;
  }

  -- the same before the byte
  kid-before : (k : ℕ × ℕ) → prev word_order (branch_view b w).children byte ≡ Some k → IsKid (branch_view b w).level
      (own_head b w + k.0) (IsRoot v b) (entries v b) (depth b) k.1 × (nat_lt k.0 byte ≡ true)
  kid-before k e = down.each-last (λ c. IsKid (branch_view b w).level (own_head b w + c.0) (IsRoot v b) (entries v b) (depth b)
      c.1) (λ c. nat_lt c.0 byte) (branch_view b w).children k
      (root-top v b w is root).over.kids (sym (prev-words (branch_view b w).children byte) ∙ e)

  before-some : (k : ℕ × ℕ) → prev word_order (branch_view b w).children byte ≡ Some k → is_some (last word_order (entries v b k.1) x) ≡ true
  before-some k e =
      let i = kid-before k e in
      let less = lt_of k.0 byte i.1 in
      ap is_some (last-words (entries v b k.1) x)
      ∙ down.some-pass (λ e. nat_le e.0 x) (entries v b k.1) (each-weaker (λ e. head_in b w e.0 ≡ own_head b w + k.0)
      (λ e. nat_le e.0 x ≡ true) (entries v b k.1)
      (λ e h. le-test e.0 x (let m = head-less (branch_view b w).level e.0 x (omega arith) in omega arith)) i.0.heads) i.0.filled

  before-child : (o : Option ℕ) → value_of word_order (branch_view b w).children byte ≡ o
      → ((c : ℕ) → o ≡ Some c → last word_order (entries v b c) x ≡ None) → (k : ℕ × ℕ) → prev word_order (branch_view b w).children
      byte ≡ Some k
      → last word_order (entries v b w) x ≡ last word_order (entries v b k.1) x
  before-child (Some c) there miss k e =
      down.entry-branch v b w is root x byte (λ g. at) (byte, c) (omega arith) (last-words (branch_view b w).children byte
      ∙ down.prev-here (branch_view b w).children byte c (up.rising v b w is root) there)
      ∙ else-other (last word_order (entries v b c) x) _ (miss c refl) ∙ ap (λ o. last word_order (kid_of (entries v b) o) x) e
  before-child None there miss k e =
      down.entry-branch v b w is root x byte (λ g. at) k (omega arith) (last-words (branch_view b w).children byte
      ∙ down.prev-later (branch_view b w).children byte there ∙ sym (prev-words (branch_view b w).children byte) ∙ e)
      ∙ else-here (last word_order (entries v b k.1) x) _ (before-some k e)

  pub beside-before : (whole : Option (ℕ × ℕ)) → ((e : ℕ × ℕ) → last word_order (entries v b w) x ≡ Some e → whole ≡ Some e)
      → (o : Option ℕ) → value_of word_order (branch_view b w).children byte ≡ o
      → ((c : ℕ) → o ≡ Some c → last word_order (entries v b c) x ≡ None) → (k : ℕ × ℕ) → prev word_order
      (branch_view b w).children byte ≡ Some k → IsBeside v b k.1 (last word_order (entries v b k.1) x) whole
  beside-before whole upto o there miss k e = record {
    sound = (kid-before k e).0.sound;
    same = goes-up _ _ whole (before-some k e) (before-child o there miss k e) upto;
  }
