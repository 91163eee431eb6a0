-- The neighbours of a word that is present: in the node that has it, or else in the child beside.
use Rattle.std.proofs.Common.{◌≡◌, ℕ, ◌+◌, ◌-◌, ◌*◌, ◌/◌, ◌^◌, ◌<◌, ◌≤◌, inl, inr, Bool, true, false, [], ◌∷◌, Option, Some}
use Rattle.std.proofs.Common.{None, is_some, ap, sym, ◌∙◌, refl, arith}
use Rattle.std.specs.Prelude.{nat_le, nat_lt, is_none}
use Rattle.std.proofs.Math.Nat.{div-mul-le_self, div-lt_iff_lt-mul, lt-div-mul-add}
use Rattle.std.proofs.lemmas.Nat.{pow_pos, le-div}
use Rattle.std.proofs.lemmas.Bool.{cases_eq, false≢true as not_true}
use Rattle.judy_arena.specs.Blocks.{Blocks}
use Rattle.judy_model.specs.Contents.{Entries, word_order, value_of, first, last, prev}
use Rattle.judy_model.proofs.lemmas.WordLemmas.{first-words, last-words, prev-words, le-test}
use Rattle.judy_model.proofs.lemmas.GapLemmas.{le_of}
use Rattle.judy_model.proofs.lemmas.EntryLemmas.{lt_of}
use Rattle.judy_branch.specs.Branch.{branch_view}
use Rattle.judy_tree.specs.Each.{Each}
use Rattle.judy_tree.specs.Nodes.{head_at, is_branch, IsKid, depth}
use Rattle.judy_tree.specs.Root.{IsRoot, entries}
use Rattle.judy_tree.proofs.lemmas.Heads.{head-less}
use Rattle.judy_tree.proofs.lemmas.Joins.{each-weaker, each-found}
use Rattle.judy_tree.proofs.lemmas.Finds.{kid-at}
use Rattle.judy_tree.proofs.lemmas.Trees.{root-top}
use Rattle.judy_query.specs.Parts.{head_in, own_head, IsBeside, IsAfter, IsBefore}
use Rattle.judy_query.specs.Fingers.{IsBetween}
use Rattle.judy_query.proofs.Queries.{find-passes}
use Rattle.judy_query.proofs.Places.{prev-last}
use Rattle.judy_query.proofs.Besides.{find-all, else-here, goes-up, beside-after, beside-before}
use Rattle.judy_query.proofs.Nears.{some-same}
use Rattle.judy_query.proofs.Searches as up
use Rattle.judy_query.proofs.Lasts as down

-- a word that is there
pub is-there : (o : Option ℕ) → is_none o ≡ false → (u : ℕ) × (o ≡ Some u)
is-there None h = absurd (not_true (sym h))
is-there (Some u) h = (u, refl)

units : (l : Entries ℕ) → Each (λ c. Unit {0}) l
units [] = tt
units (c ∷ l) = (tt, units l)

-- ---- heads of a word and of those next to it

head-more : (l a b : ℕ) → a ≤ b → head_at l a ≤ head_at l b
unfolding head_at
head-more l a b h =
    let p : ℕ = 2 ^ (56 - 8 * l) in
    let e : a / p * p ≤ a = div-mul-le_self a p in
    le-div (a / p) b p (pow_pos (56 - 8 * l)) (omega (arith, e, h))

head-next : (l x : ℕ) → head_at l (x + 1) ≤ head_at l x + 1
unfolding head_at
head-next l x =
    let p : ℕ = 2 ^ (56 - 8 * l) in
    let pos : 0 < p = pow_pos (56 - 8 * l) in
    let a : x < x / p * p + p = lt-div-mul-add pos in
    let e : (x / p + 2) * p ≡ x / p * p + p + p = two (x / p) p in
    let b : (x + 1) / p < x / p + 2 = (div-lt_iff_lt-mul pos).1 (omega (arith, a, e, pos)) in
    omega (arith, b)
  where
    two : (a p : ℕ) → (a + 2) * p ≡ a * p + p + p
    two a p = grind arith

-- ---- a branch w, whose child c at this byte has the word x

module _ (v : Bool) (b : Blocks) (w : ℕ) (is : is_branch w ≡ true) (root : IsRoot v b w) (x byte c u : ℕ)
    (there : value_of word_order (branch_view b w).children byte ≡ Some c) (has : value_of word_order (entries v b c) x ≡ Some u) where
  kid : IsKid (branch_view b w).level (own_head b w + byte) (IsRoot v b) (entries v b) (depth b) c
  kid = kid-at v b w x is root byte c there

  -- the word has the branch's prefix
  pub at : head_in b w x ≡ own_head b w + byte
  at = each-found (λ e. head_in b w e.0 ≡ own_head b w + byte) x u (entries v b c) kid.heads has

  miss-there : (f : ℕ → Option (ℕ × ℕ)) → f c ≡ None → (d : ℕ) → Some c ≡ Some d → f d ≡ None
  miss-there f miss d i = ap f (sym (some-same c d i)) ∙ miss

  -- what the child has above the word comes next in the branch
  pub next-in : (e : ℕ × ℕ) → first word_order (entries v b c) (x + 1) ≡ Some e → first word_order (entries v b w) (x + 1) ≡ Some e
  next-in e h =
      let f = sym (first-words (entries v b c) (x + 1)) ∙ h in
      let same : head_in b w e.0 ≡ own_head b w + byte =
      up.each-first (λ e. head_in b w e.0 ≡ own_head b w + byte) (λ e. nat_le (x + 1) e.0) (entries v b c) e kid.heads f in
      let more : x + 1 ≤ e.0 = le_of (x + 1) e.0 (find-passes (λ e. nat_le (x + 1) e.0) (entries v b c) e f) in
      let low = head-more (branch_view b w).level x (x + 1) (omega arith) in
      let high = head-more (branch_view b w).level (x + 1) e.0 more in
      let word = at in
      up.entry-child v b w is root (x + 1) byte c (omega (arith, same, low, high, word)) there e h

  -- the child after has entries above the word alone
  after-some : (k : ℕ × ℕ) → first word_order (branch_view b w).children (byte + 1) ≡ Some k → is_some (first word_order (entries v b k.1) (x + 1)) ≡ true
  after-some k e =
      let i = up.kid-first v b w is root (byte + 1) k e in
      let more = le_of (byte + 1) k.0 (find-passes (λ c. nat_le (byte + 1) c.0) (branch_view b w).children k
      (sym (first-words (branch_view b w).children (byte + 1)) ∙ e)) in
      let word = at in
      ap is_some (first-words (entries v b k.1) (x + 1))
      ∙ find-all (x + 1) (entries v b k.1) (each-weaker (λ e. head_in b w e.0 ≡ own_head b w + k.0) (λ e. x + 1 ≤ e.0) (entries v b k.1)
      (λ e h. let m = head-less (branch_view b w).level x e.0 (omega (arith, h, more, word)) in omega (arith, m)) i.heads) i.filled

  -- where the child has nothing above the word, the child after has what comes next
  pub after-in : (whole : Option (ℕ × ℕ)) → ((e : ℕ × ℕ) → first word_order (entries v b w) (x + 1) ≡ Some e → whole ≡ Some e)
      → first word_order (entries v b c) (x + 1) ≡ None → (k : ℕ × ℕ) → IsAfter b w x k
      → IsBeside v b k.1 (first word_order (entries v b k.1) (x + 1)) whole
  after-in whole from miss k a =
      let word = at in
      let other = a.at in
      let same : byte ≡ a.byte = omega (arith, word, other) in
      let next = ap (λ y. first word_order (branch_view b w).children (y + 1)) same ∙ a.next in
      elim (cases_eq (head_in b w (x + 1)) (own_head b w + byte)) [
        | inl e ↦ beside-after v b w is root (x + 1) byte e whole from (Some c) there
            (miss-there (λ d. first word_order (entries v b d) (x + 1)) miss) k next
        | inr n ↦
            let low = head-more (branch_view b w).level x (x + 1) (omega arith) in
            let high = head-next (branch_view b w).level x in
            let beyond : head_in b w (x + 1) ≡ own_head b w + (byte + 1) = omega (arith, low, high, word, n) in
            record {
              sound = (up.kid-first v b w is root (byte + 1) k next).sound;
              same = goes-up _ _ whole (after-some k next) (up.entry-branch v b w is root (x + 1) (byte + 1) (λ g. beyond) k
                  (omega (arith, beyond)) next ∙ else-here (first word_order (entries v b k.1) (x + 1)) _ (after-some k next)) from;
            }
      ]

  -- the same below the word
  module _ (some : 0 < x) where
    back : x - 1 + 1 ≡ x
    back = omega (arith, some)

    pub prev-in : (e : ℕ × ℕ) → last word_order (entries v b c) (x - 1) ≡ Some e → last word_order (entries v b w) (x - 1) ≡ Some e
    prev-in e h =
        let f = down.each-last (λ e. head_in b w e.0 ≡ own_head b w + byte) (λ e. nat_le e.0 (x - 1)) (entries v b c) e kid.heads
        (sym (last-words (entries v b c) (x - 1)) ∙ h) in
        let same : head_in b w e.0 ≡ own_head b w + byte = f.0 in
        let less : e.0 ≤ x - 1 = le_of e.0 (x - 1) f.1 in
        let low = head-more (branch_view b w).level e.0 (x - 1) less in
        let high = head-more (branch_view b w).level (x - 1) x (omega arith) in
        let word = at in
        down.entry-child v b w is root (x - 1) byte c (omega (arith, same, low, high, word)) there e h

    before-some : (k : ℕ × ℕ) → prev word_order (branch_view b w).children byte ≡ Some k → is_some (last word_order (entries v b k.1) (x - 1)) ≡ true
    before-some k e =
        let e' = sym (prev-words (branch_view b w).children byte) ∙ e in
        let i = down.kid-last v b w is root (λ c. nat_lt c.0 byte) k e' in
        let less = lt_of k.0 byte (down.each-last (λ c. Unit {0}) (λ c. nat_lt c.0 byte) (branch_view b w).children k
        (units (branch_view b w).children) e').1 in
        let word = at in
        ap is_some (last-words (entries v b k.1) (x - 1))
        ∙ down.some-pass (λ e. nat_le e.0 (x - 1)) (entries v b k.1) (each-weaker (λ e. head_in b w e.0 ≡ own_head b w + k.0)
        (λ e. nat_le e.0 (x - 1) ≡ true) (entries v b k.1)
        (λ e h. le-test e.0 (x - 1) (let m = head-less (branch_view b w).level e.0 x (omega (arith, h, less, word)) in omega (arith, m, some)))
        i.heads) i.filled

    pub before-in : (whole : Option (ℕ × ℕ)) → ((e : ℕ × ℕ) → last word_order (entries v b w) (x - 1) ≡ Some e → whole ≡ Some e)
        → last word_order (entries v b c) (x - 1) ≡ None → (k : ℕ × ℕ) → IsBefore b w x k
        → IsBeside v b k.1 (last word_order (entries v b k.1) (x - 1)) whole
    before-in whole upto miss k a =
        let word = at in
        let other = a.at in
        let same : byte ≡ a.byte = omega (arith, word, other) in
        let next = ap (prev word_order (branch_view b w).children) same ∙ a.next in
        let e' = sym (prev-words (branch_view b w).children byte) ∙ next in
        elim (cases_eq (head_in b w (x - 1)) (own_head b w + byte)) [
          | inl e ↦ beside-before v b w is root (x - 1) byte e whole upto (Some c) there
              (miss-there (λ d. last word_order (entries v b d) (x - 1)) miss) k next
          | inr n ↦
              let low = ap (head_at (branch_view b w).level) back in
              let high = head-next (branch_view b w).level (x - 1) in
              let under = head-more (branch_view b w).level (x - 1) x (omega arith) in
              let less = lt_of k.0 byte (down.each-last (λ c. Unit {0}) (λ c. nat_lt c.0 byte) (branch_view b w).children k
              (units (branch_view b w).children) e').1 in
              let beyond : head_in b w (x - 1) ≡ own_head b w + (byte - 1) = omega (arith, low, high, under, word, n, less) in
              record {
                sound = (down.kid-last v b w is root (λ c. nat_lt c.0 byte) k e').sound;
                same = goes-up _ _ whole (before-some k next) (down.entry-branch v b w is root (x - 1) (byte - 1) (λ g. beyond) k
                    (omega (arith, beyond)) (sym (prev-last (branch_view b w).children byte (omega (arith, less))) ∙ next)
                    ∙ else-here (last word_order (entries v b k.1) (x - 1)) _ (before-some k next)) upto;
              }
        ]

  -- one step down
  pub between-below : (top above : ℕ) → IsBetween v b top x above w → IsBetween v b top x w c
  between-below top above old = record {
    from = λ e h. old.from e (next-in e h);
    upto = λ some e h. old.upto some e (prev-in some e h);
    whole = λ z. absurd (not_true (sym (ap is_branch z) ∙ is));
    over = λ n. (root-top v b w is root).branch;
    after = λ n miss k a. after-in (first word_order (entries v b top) (x + 1)) old.from miss k a;
    before = λ n some miss k a. before-in some (last word_order (entries v b top) (x - 1)) (old.upto some) miss k a;
  }

-- the array itself has its results
pub between-top : (v : Bool) (b : Blocks) (w x : ℕ) → IsBetween v b w x 0 w
between-top v b w x = record {
  from = λ e h. h;
  upto = λ some e h. h;
  whole = λ z. refl;
  over = λ n. absurd (n refl);
  after = λ n. absurd (n refl);
  before = λ n. absurd (n refl);
}
