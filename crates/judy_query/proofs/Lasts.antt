-- The greatest key up to a word, in a join of children.
use Rattle.std.proofs.Common.{◌≡◌, ◌≢◌, ℕ, ◌+◌, ◌<◌, ◌≤◌, Bool, true, false, cond, [], ◌∷◌, ◌++◌, length, Option, Some, None}
use Rattle.std.proofs.Common.{is_some, ap, sym, ◌∙◌, refl, subst, arith}
use Rattle.std.specs.Prelude.{filter, nat_lt, nat_le}
use Rattle.std.specs.Ordering.{eq_by_cmp}
use Rattle.std.proofs.lemmas.Bool.Decides.{nat_tests}
use Rattle.std.proofs.lemmas.Bool.{false≢true as not_true}
use Rattle.std.proofs.lemmas.Option.{none-some, none-some as not_some}
use Rattle.judy_arena.specs.Blocks.{Blocks}
use Rattle.judy_model.specs.Contents.{Entries, word_order, value_of, last, prev, last_of}
use Rattle.judy_model.proofs.lemmas.GapLemmas.{AtLeast, Rising, weaker, le_of}
use Rattle.judy_model.proofs.lemmas.WordLemmas.{last-words, prev-words, le-test, le-not, lt-test, lt-not}
use Rattle.judy_model.proofs.lemmas.EntryLemmas.{same_word, lt_of, above_of}
use Rattle.judy_tree.specs.Each.{Each}
use Rattle.judy_branch.specs.Branch.{branch_view}
use Rattle.judy_tree.proofs.lemmas.BranchLaws.{IsPlace}
use Rattle.judy_tree.specs.Nodes.{joined, head_at, is_branch, IsKid, depth}
use Rattle.judy_tree.specs.Root.{IsRoot, entries}
use Rattle.judy_tree.proofs.lemmas.Heads.{head-less}
use Rattle.judy_tree.proofs.lemmas.Joins.{Heads, each-weaker, other_word}
use Rattle.judy_query.proofs.Queries.{or_else, kid_of, some_same, else-found}
use Rattle.judy_query.proofs.Searches.{heads, filled, rising}
use Rattle.judy_tree.proofs.lemmas.Trees.{root-top}

-- the greatest up to a word, and the greatest below it
abbrev pub upto : ℕ → Entries ℕ → Option (ℕ × ℕ)
upto z l = last_of (filter (λ e. nat_le e.0 z) l)

abbrev pub before : ℕ → Entries ℕ → Option (ℕ × ℕ)
before z l = last_of (filter (λ e. nat_lt e.0 z) l)

one : Bool → (ℕ × ℕ) → Option (ℕ × ℕ)
one t c = cond t (Some c) None

last-cons : (x : ℕ × ℕ) (xs : Entries ℕ) → last_of (x ∷ xs) ≡ or_else (last_of xs) (Some x)
last-cons x [] = refl
last-cons x (y ∷ xs) = found (last_of (y ∷ xs)) (last-is y xs)
  where
    last-is : (z : ℕ × ℕ) (xs : Entries ℕ) → is_some (last_of (z ∷ xs)) ≡ true
    last-is z [] = refl
    last-is z (x ∷ xs) = last-is x xs

    found : (o : Option (ℕ × ℕ)) → is_some o ≡ true → o ≡ or_else o (Some x)
    found None h = absurd (not_true h)
    found (Some k) h = refl

else-none : (o : Option (ℕ × ℕ)) → o ≡ or_else o None
else-none None = refl
else-none (Some k) = refl

else-assoc : (a b c : Option (ℕ × ℕ)) → or_else (or_else a b) c ≡ or_else a (or_else b c)
else-assoc None b c = refl
else-assoc (Some k) b c = refl

-- one entry before others
pub step : (p : ℕ × ℕ → Bool) (c : ℕ × ℕ) (l : Entries ℕ) → last_of (filter p (c ∷ l)) ≡ or_else (last_of (filter p l)) (cond (p c) (Some c) None)
step p c l = elim (p c) as (λ t. last_of (cond t (c ∷ filter p l) (filter p l)) ≡ or_else (last_of (filter p l))
    (cond t (Some c) None)) [ true ↦ last-cons c (filter p l) | false ↦ else-none (last_of (filter p l)) ]

pub both : (p : ℕ × ℕ → Bool) (xs ys : Entries ℕ) → last_of (filter p (xs ++ ys)) ≡ or_else (last_of (filter p ys)) (last_of (filter p xs))
both p [] ys = else-none (last_of (filter p ys))
both p (x ∷ xs) ys =
    step p x (xs ++ ys) ∙ ap (λ o. or_else o (cond (p x) (Some x) None)) (both p xs ys) ∙ else-assoc (last_of (filter p ys))
    (last_of (filter p xs)) (cond (p x) (Some x) None)
    ∙ ap (λ o. or_else (last_of (filter p ys)) o) (sym (step p x xs))

none-pass : (p : ℕ × ℕ → Bool) (l : Entries ℕ) → Each (λ e. p e ≡ false) l → last_of (filter p l) ≡ None
none-pass p [] h = refl
none-pass p (e ∷ l) h = rw h.0 (none-pass p l h.1)

pub some-pass : (p : ℕ × ℕ → Bool) (l : Entries ℕ) → Each (λ e. p e ≡ true) l → 0 < length l → is_some (last_of (filter p l)) ≡ true
some-pass p [] h s = absurd (omega arith)
some-pass p (e ∷ []) h s = rw h.0 refl
some-pass p (e ∷ d ∷ l) h s = ap is_some (step p e (d ∷ l)) ∙ more (last_of (filter p (d ∷ l))) (cond (p e) (Some e) None)
    (some-pass p (d ∷ l) h.1 (omega arith))
  where
    more : (o q : Option (ℕ × ℕ)) → is_some o ≡ true → is_some (or_else o q) ≡ true
    more None q h = absurd (not_true h)
    more (Some k) q h = refl

-- a fact of all holds of the last that passes, which passes
pub each-last : (P : ℕ × ℕ → Type 0) (p : ℕ × ℕ → Bool) (l : Entries ℕ) (k : ℕ × ℕ) → Each P l → last_of (filter p l) ≡ Some k → P k × (p k ≡ true)
each-last P p [] k h e = absurd (none-some k e)
each-last P p (d ∷ l) k h e = by (last_of (filter p l)) (p d) refl refl (sym (step p d l) ∙ e) (λ i. each-last P p l k h.1 i)
  where
    by : (o : Option (ℕ × ℕ)) (t : Bool) → last_of (filter p l) ≡ o → p d ≡ t → or_else o (cond t (Some d) None) ≡ Some k
        → (last_of (filter p l) ≡ Some k → P k × (p k ≡ true)) → P k × (p k ≡ true)
    by (Some j) t i q e rest = rest (i ∙ e)
    by None true i q e rest = subst (λ z. P z × (p z ≡ true)) (some_same d k e) (h.0, q)
    by None false i q e rest = absurd (none-some k e)

before-none : (z : ℕ) (l : Entries ℕ) → AtLeast z l → before z l ≡ None
before-none z [] h = refl
before-none z (e ∷ l) h = rw (lt-not e.0 z h.0) (before-none z l h.1)

upto-none : (z : ℕ) (l : Entries ℕ) → AtLeast (z + 1) l → upto z l ≡ None
upto-none z [] h = refl
upto-none z (e ∷ l) h = rw (le-not e.0 z (omega (arith, h.0))) (upto-none z l h.1)

each-above : (z : ℕ) (l : Entries ℕ) → AtLeast z l → Each (λ e. z ≤ e.0) l
each-above z [] h = tt
each-above z (e ∷ l) h = (h.0, each-above z l h.1)

-- ---- children of bytes

-- the child of a byte is the last up to it
pub prev-here : (cs : Entries ℕ) (y c : ℕ) → Rising cs → value_of word_order cs y ≡ Some c → upto y cs ≡ Some (y, c)
prev-here [] y c r h = absurd (not_some c h)
prev-here (k ∷ cs) y c r h =
    elim (eq_by_cmp word_order y k.0) as (λ t. eq_by_cmp word_order y k.0 ≡ t → cond t (Some k.1) (value_of word_order cs y)
    ≡ Some c → upto y (k ∷ cs) ≡ Some (y, c)) [
      | true ↦ λ t i.
          let e : y ≡ k.0 = same_word y k.0 t in
          let none : upto y cs ≡ None = upto-none y cs (weaker (y + 1) (k.0 + 1) cs (omega arith) r.0) in
          step (λ e. nat_le e.0 y) k cs ∙ ap (λ o. or_else o (cond (nat_le k.0 y) (Some k) None)) none
          ∙ ap (λ t. cond t (Some k) None) (le-test k.0 y (omega arith))
          ∙ ap (λ z. Some (z, k.1)) (sym e) ∙ ap (λ z. Some (y, z)) (some_one k.1 c i)
      | false ↦ λ t i. step (λ e. nat_le e.0 y) k cs ∙ ap (λ o. or_else o (cond (nat_le k.0 y) (Some k) None)) (prev-here cs y c r.1 i)
    ] refl h
  where
    some_one : (x a : ℕ) → Some x ≡ Some a → x ≡ a
    some_one x a i = cc

-- where a byte has none, the last up to it is the last before it
pub prev-later : (cs : Entries ℕ) (y : ℕ) → value_of word_order cs y ≡ None → upto y cs ≡ before y cs
prev-later [] y h = refl
prev-later (k ∷ cs) y h =
    elim (eq_by_cmp word_order y k.0) as (λ t. eq_by_cmp word_order y k.0 ≡ t → cond t (Some k.1) (value_of word_order cs y)
    ≡ None → upto y (k ∷ cs) ≡ before y (k ∷ cs)) [
      | true ↦ λ t i. absurd (not_some k.1 (sym i))
      | false ↦ λ t i.
          step (λ e. nat_le e.0 y) k cs ∙ ap (λ o. or_else o (cond (nat_le k.0 y) (Some k) None)) (prev-later cs y i)
          ∙ ap (λ b. or_else (before y cs) (cond b (Some k) None)) (same y k.0 (other_word y k.0 t)) ∙ sym (step (λ e. nat_lt e.0 y) k cs)
    ] refl h
  where
    same : (a b : ℕ) → a ≢ b → nat_le b a ≡ nat_lt b a
    same a b n = elim (nat_lt b a) as (λ t. nat_lt b a ≡ t → nat_le b a ≡ t) [
      | true ↦ λ e. le-test b a (up b a e)
      | false ↦ λ e.
          le-not b a (less b a n e)
    ] refl
      where
        up : (b a : ℕ) → nat_lt b a ≡ true → b ≤ a
        up b a e = let i = lt_of b a e in omega arith

        less : (b a : ℕ) → a ≢ b → nat_lt b a ≡ false → a < b
        less b a n e = let i : a ≤ b = ge b a e in strict a b i n
          where
            ge : (b a : ℕ) → nat_lt b a ≡ false → a ≤ b
            ge b a e = grind (arith, nat_tests)

            strict : (a m : ℕ) → a ≤ m → a ≢ m → a < m
            strict a m i n = grind arith

-- ---- the greatest key of a join

module _ (h : ℕ → ℕ) (base : ℕ) (f : ℕ → Entries ℕ) (mono : (a b : ℕ) → h a < h b → a < b) (x y : ℕ) (exact : y < 255 → h x ≡ base + y) where
  -- a child after the byte has no key up to x
  high-none : (c : ℕ × ℕ) → y < c.0 → c.0 < 256 → Each (λ e. h e.0 ≡ base + c.0) (f c.1) → upto x (f c.1) ≡ None
  high-none c more small a = none-pass (λ e. nat_le e.0 x) (f c.1)
      (each-weaker (λ e. h e.0 ≡ base + c.0) (λ e. nat_le e.0 x ≡ false) (f c.1)
      (λ e i. le-not e.0 x (mono x e.0 (let g = exact (omega arith) in omega arith))) a)

  -- a child before it has only such keys
  low-some : (c : ℕ × ℕ) → base + y ≤ h x → c.0 < y → Each (λ e. h e.0 ≡ base + c.0) (f c.1) → 0 < length (f c.1) → is_some (upto x (f c.1)) ≡ true
  low-some c high less a s = some-pass (λ e. nat_le e.0 x) (f c.1)
      (each-weaker (λ e. h e.0 ≡ base + c.0) (λ e. nat_le e.0 x ≡ true) (f c.1)
      (λ e i. le-test e.0 x (let m = mono e.0 x (omega arith) in omega arith)) a) s

  pub last-none : (cs : Entries ℕ) → Heads h base f cs → Each IsPlace cs → upto y cs ≡ None → upto x (joined f cs) ≡ None
  last-none [] a p n = refl
  last-none (c ∷ cs) a p n = by (upto y cs) (nat_le c.0 y) refl refl (sym (step (λ e. nat_le e.0 y) c cs) ∙ n) (λ i. last-none cs a.1 p.1 i)
    where
      by : (o : Option (ℕ × ℕ)) (t : Bool) → upto y cs ≡ o → nat_le c.0 y ≡ t → or_else o (cond t (Some c) None) ≡ None
          → (upto y cs ≡ None → upto x (joined f cs) ≡ None) → upto x (f c.1 ++ joined f cs) ≡ None
      by (Some k) t i q e rest = absurd (none-some k (sym e))
      by None true i q e rest = absurd (none-some c (sym e))
      by None false i q e rest = both (λ e. nat_le e.0 x) (f c.1) (joined f cs) ∙ ap (λ o. or_else o (upto x (f c.1))) (rest i)
          ∙ high-none c (above_of c.0 y q) p.0.byte a.0

  -- the child up to the byte has the answer, or else the one before it
  pub last-some : (cs : Entries ℕ) (k : ℕ × ℕ) → base + y ≤ h x → Rising cs → Heads h base f cs → Each IsPlace cs
      → Each (λ c. 0 < length (f c.1)) cs → upto y cs ≡ Some k
      → upto x (joined f cs) ≡ or_else (upto x (f k.1)) (upto x (kid_of f (before k.0 cs)))
  last-some [] k high r a p s n = absurd (none-some k n)
  last-some (c ∷ cs) k high r a p s n = by (upto y cs) (nat_le c.0 y) refl refl (sym (step (λ e. nat_le e.0 y) c cs) ∙ n)
      (λ i. last-some cs k high r.1 a.1 p.1 s.1 i) (λ i. last-none cs a.1 p.1 i)
    where
      -- what stands before the child is a child, or c itself
      earlier : c.0 < k.0 → k.0 ≤ y → upto x (kid_of f (before k.0 (c ∷ cs))) ≡ or_else (upto x (kid_of f (before k.0 cs))) (upto x (f c.1))
      earlier l m = ap (λ o. upto x (kid_of f o))
          (step (λ e. nat_lt e.0 k.0) c cs ∙ ap (λ t. or_else (before k.0 cs) (cond t (Some c) None)) (lt-test c.0 k.0 l))
          ∙ known (before k.0 cs) refl
        where
          found : (o q : Option (ℕ × ℕ)) → is_some o ≡ true → o ≡ or_else o q
          found None q h = absurd (not_true h)
          found (Some j) q h = refl

          known : (o : Option (ℕ × ℕ)) → before k.0 cs ≡ o → upto x (kid_of f (or_else o (Some c))) ≡ or_else (upto x (kid_of f o)) (upto x (f c.1))
          known None i = refl
          known (Some d) i =
              let facts = each-last (λ c. Each (λ e. h e.0 ≡ base + c.0) (f c.1)) (λ e. nat_lt e.0 k.0) cs d a.1 i in
              let full = each-last (λ c. 0 < length (f c.1)) (λ e. nat_lt e.0 k.0) cs d s.1 i in
              found (upto x (f d.1)) (upto x (f c.1)) (low-some d high (let q = lt_of d.0 k.0 facts.1 in omega arith) facts.0 full.0)

      by : (o : Option (ℕ × ℕ)) (t : Bool) → upto y cs ≡ o → nat_le c.0 y ≡ t → or_else o (cond t (Some c) None) ≡ Some k
          → (upto y cs ≡ Some k → upto x (joined f cs) ≡ or_else (upto x (f k.1)) (upto x (kid_of f (before k.0 cs))))
          → (upto y cs ≡ None → upto x (joined f cs) ≡ None)
          → upto x (f c.1 ++ joined f cs) ≡ or_else (upto x (f k.1)) (upto x (kid_of f (before k.0 (c ∷ cs))))
      by (Some j) t i q e rest none =
          let at : upto y cs ≡ Some k = i ∙ e in
          let facts = each-last (λ d. c.0 + 1 ≤ d.0) (λ e. nat_le e.0 y) cs k (each-above (c.0 + 1) cs r.0) at in
          both (λ e. nat_le e.0 x) (f c.1) (joined f cs) ∙ ap (λ o. or_else o (upto x (f c.1))) (rest at)
          ∙ else-assoc (upto x (f k.1)) (upto x (kid_of f (before k.0 cs))) (upto x (f c.1))
          ∙ ap (λ o. or_else (upto x (f k.1)) o) (sym (earlier (let g = facts.0 in omega arith) (le_of k.0 y facts.1)))
      by None true i q e rest none =
          let same : c ≡ k = some_same c k e in
          subst (λ k. upto x (f c.1 ++ joined f cs) ≡ or_else (upto x (f k.1)) (upto x (kid_of f (before k.0 (c ∷ cs))))) same
          (both (λ e. nat_le e.0 x) (f c.1) (joined f cs) ∙ ap (λ o. or_else o (upto x (f c.1))) (none i) ∙ else-none (upto x (f c.1))
          ∙ ap (λ o. or_else (upto x (f c.1)) (upto x (kid_of f o))) (sym (before-none c.0 (c ∷ cs) (omega arith, weaker c.0 (c.0 + 1) cs (omega arith) r.0))))
      by None false i q e rest none = absurd (none-some k e)

-- ---- the greatest key of a branch

module _ (v : Bool) (b : Blocks) (w : ℕ) (is : is_branch w ≡ true) (root : IsRoot v b w) where
  -- the last child up to a byte is below
  pub kid-last : (p : ℕ × ℕ → Bool) (k : ℕ × ℕ) → last_of (filter p (branch_view b w).children) ≡ Some k
      → IsKid (branch_view b w).level (head_at (branch_view b w).level (branch_view b w).prefix + k.0) (IsRoot v b) (entries v b) (depth b) k.1
  kid-last p k e = (each-last (λ c. IsKid (branch_view b w).level (head_at (branch_view b w).level (branch_view b w).prefix + c.0)
      (IsRoot v b) (entries v b) (depth b) c.1) p (branch_view b w).children k (root-top v b w is root).over.kids e).0

  pub entry-below : (x : ℕ) → head_at (branch_view b w).level x < head_at (branch_view b w).level (branch_view b w).prefix
      → last word_order (entries v b w) x ≡ None
  entry-below x less = last-words (entries v b w) x ∙ ap (upto x) (root-top v b w is root).content ∙ none (branch_view b w).children (heads v b w is root)
    where
      none : (cs : Entries ℕ) → Heads (head_at (branch_view b w).level) (head_at (branch_view b w).level (branch_view b w).prefix)
          (entries v b) cs → upto x (joined (entries v b) cs) ≡ None
      none [] a = refl
      none (c ∷ cs) a = both (λ e. nat_le e.0 x) (entries v b c.1) (joined (entries v b) cs) ∙ ap (λ o. or_else o (upto x (entries v b c.1))) (none cs a.1)
          ∙ none-pass (λ e. nat_le e.0 x) (entries v b c.1)
          (each-weaker (λ e. head_at (branch_view b w).level e.0 ≡ head_at (branch_view b w).level (branch_view b w).prefix
          + c.0) (λ e. nat_le e.0 x ≡ false) (entries v b c.1)
          (λ e i. le-not e.0 x (head-less (branch_view b w).level x e.0 (omega arith))) a.0)

  module _ (x y : ℕ) (exact : y < 255 → head_at (branch_view b w).level x ≡ head_at (branch_view b w).level (branch_view b w).prefix + y) where
    pub entry-nothing : last word_order (branch_view b w).children y ≡ None → last word_order (entries v b w) x ≡ None
    entry-nothing n = last-words (entries v b w) x ∙ ap (upto x) (root-top v b w is root).content
        ∙ last-none (head_at (branch_view b w).level) (head_at (branch_view b w).level (branch_view b w).prefix) (entries v b)
        (head-less (branch_view b w).level) x y exact (branch_view b w).children (heads v b w is root)
        (root-top v b w is root).view.places (sym (last-words (branch_view b w).children y) ∙ n)

    pub entry-branch : (k : ℕ × ℕ) → head_at (branch_view b w).level (branch_view b w).prefix + y ≤ head_at
        (branch_view b w).level x → last word_order (branch_view b w).children y ≡ Some k
        → last word_order (entries v b w) x ≡ or_else (last word_order (entries v b k.1) x)
        (last word_order (kid_of (entries v b) (prev word_order (branch_view b w).children k.0)) x)
    entry-branch k high e =
        last-words (entries v b w) x ∙ ap (upto x) (root-top v b w is root).content
        ∙ last-some (head_at (branch_view b w).level) (head_at (branch_view b w).level (branch_view b w).prefix) (entries v b)
        (head-less (branch_view b w).level) x y exact (branch_view b w).children k high (rising v b w is root)
        (heads v b w is root)
        (root-top v b w is root).view.places (filled v b w is root) (sym (last-words (branch_view b w).children y) ∙ e)
        ∙ ap (λ o. or_else o (upto x (kid_of (entries v b) (before k.0 (branch_view b w).children)))) (sym (last-words (entries v b k.1) x))
        ∙ ap (λ o. or_else (last word_order (entries v b k.1) x) (upto x (kid_of (entries v b) o))) (sym (prev-words (branch_view b w).children k.0))
        ∙ ap (λ o. or_else (last word_order (entries v b k.1) x) o) (sym (last-words (kid_of (entries v b) (prev word_order (branch_view b w).children k.0)) x))

  -- what the child of a word's byte has up to the word comes last in the node
  pub entry-child : (x byte c : ℕ) → head_at (branch_view b w).level x ≡ head_at (branch_view b w).level (branch_view b w).prefix
      + byte → value_of word_order (branch_view b w).children byte ≡ Some c
      → (e : ℕ × ℕ) → last word_order (entries v b c) x ≡ Some e → last word_order (entries v b w) x ≡ Some e
  entry-child x byte c at there e h =
      entry-branch x byte (λ g. at) (byte, c) (omega arith) (last-words (branch_view b w).children byte
      ∙ prev-here (branch_view b w).children byte c (rising v b w is root) there)
      ∙ else-found (last word_order (entries v b c) x) _ e h
