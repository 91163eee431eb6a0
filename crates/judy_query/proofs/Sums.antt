-- How many keys of a join of children are between two words.
use Rattle.std.proofs.Common.{◌≡◌, ◌≢◌, ℕ, suc, ◌+◌, ◌<◌, ◌≤◌, Bool, true, false, cond, ◌&&◌, [], ◌∷◌, ◌++◌, length, Some, ap}
use Rattle.std.proofs.Common.{sym, ◌∙◌, refl, arith, length-append}
use Rattle.std.specs.Prelude.{filter, nat_lt, nat_le}
use Rattle.std.specs.Ordering.{eq_by_cmp}
use Rattle.std.specs.FinMap.{is_sorted}
use Rattle.std.proofs.lemmas.Bool.Decides.{nat_tests}
use Rattle.judy_arena.specs.Blocks.{Blocks}
use Rattle.std.specs.List.{list_all}
use Rattle.std.proofs.lemmas.Bool.{and_right as and_no}
use Rattle.judy_model.specs.Contents.{Entries, word_order, value_of, count, max_word}
use Rattle.judy_model.proofs.lemmas.TestLemmas.{and_left, and_right}
use Rattle.judy_model.proofs.lemmas.WordLemmas.{le-test, le-not, lt-test}
use Rattle.judy_model.proofs.lemmas.EntryLemmas.{same_word, above_of}
use Rattle.judy_model.proofs.lemmas.GapLemmas.{le_of}
use Rattle.judy_tree.specs.Each.{Each}
use Rattle.judy_branch.specs.Branch.{branch_view}
use Rattle.judy_tree.proofs.lemmas.BranchLaws.{IsPlace}
use Rattle.judy_tree.specs.Nodes.{joined, head_at, is_branch, IsKid, depth}
use Rattle.judy_tree.specs.Root.{IsRoot, entries}
use Rattle.judy_tree.proofs.lemmas.Counts.{root-few}
use Rattle.judy_tree.proofs.lemmas.Heads.{head-less}
use Rattle.judy_tree.proofs.lemmas.Joins.{each-weaker, each-both, each-joined, total, some_of, gone-after, rises-parts, other_word}
use Rattle.judy_tree.proofs.lemmas.Trees.{root-top, root-words}

-- ---- the children from a byte to above_of another

abbrev pub part : ℕ → ℕ → Entries ℕ → Entries ℕ
part z high cs = filter (λ c. nat_le z c.0 && nat_lt c.0 high) cs

-- a part has no more keys than all
pub part-less : (f : ℕ → Entries ℕ) (p : ℕ × ℕ → Bool) (cs : Entries ℕ) → length (joined f (filter p cs)) ≤ length (joined f cs)
part-less f p [] = omega arith
part-less f p (c ∷ cs) =
    let r = part-less f p cs in
    let n = length-append (f c.1) (joined f cs) in
    elim (p c) as (λ t. length (joined f (cond t (c ∷ filter p cs) (filter p cs))) ≤ length (f c.1 ++ joined f cs)) [
      | true ↦ let m = length-append (f c.1) (joined f (filter p cs)) in omega arith
      | false ↦ omega arith
    ]

-- ---- counts of lists

filter-append : (p : ℕ × ℕ → Bool) (xs ys : Entries ℕ) → filter p (xs ++ ys) ≡ filter p xs ++ filter p ys
filter-append p [] ys = refl
filter-append p (x ∷ xs) ys = elim (p x) as (λ t. cond t (x ∷ filter p (xs ++ ys)) (filter p (xs ++ ys)) ≡ cond t
    (x ∷ filter p xs) (filter p xs) ++ filter p ys) [ true ↦ ap (λ l. x ∷ l) (filter-append p xs ys) | false ↦ filter-append p xs ys ]

pub count-joined : (f : ℕ → Entries ℕ) (cs : Entries ℕ) (a b : ℕ) → count (joined f cs) a b ≡ total (λ c. count (f c) a b) cs
count-joined f [] a b = refl
count-joined f (c ∷ cs) a b =
    ap length (filter-append (λ e. nat_le a e.0 && nat_le e.0 b) (f c.1) (joined f cs))
    ∙ length-append (filter (λ e. nat_le a e.0 && nat_le e.0 b) (f c.1)) (filter (λ e. nat_le a e.0 && nat_le e.0 b) (joined f cs))
    ∙ ap (λ n. count (f c.1) a b + n) (count-joined f cs a b)

pub count-low : (l : Entries ℕ) (a b : ℕ) → Each (λ e. e.0 < a) l → count l a b ≡ 0
count-low [] a b h = refl
count-low (e ∷ l) a b h = rw (le-not a e.0 h.0) (count-low l a b h.1)

pub count-high : (l : Entries ℕ) (a b : ℕ) → Each (λ e. b < e.0) l → count l a b ≡ 0
count-high [] a b h = refl
count-high (e ∷ l) a b h = rw (and_no (nat_le a e.0) (nat_le e.0 b) (le-not e.0 b h.0)) (count-high l a b h.1)

pub count-all : (l : Entries ℕ) (a b : ℕ) → Each (λ e. (a ≤ e.0) × (e.0 ≤ b)) l → count l a b ≡ length l
count-all [] a b h = refl
count-all (e ∷ l) a b h = rw (le-test a e.0 h.0.0, le-test e.0 b h.0.1) (ap suc (count-all l a b h.1))

pub total-none : (g : ℕ → ℕ) (cs : Entries ℕ) → Each (λ c. g c.1 ≡ 0) cs → total g cs ≡ 0
total-none g [] h = refl
total-none g (c ∷ cs) h = let z = h.0 in let r = total-none g cs h.1 in omega arith

pub total-one : (g : ℕ → ℕ) (low : ℕ) (cs : Entries ℕ) → is_sorted word_order cs ≡ true → Each (λ c. c.0 ≢ low → g c.1 ≡ 0) cs
    → total g cs ≡ some_of g (value_of word_order cs low)
total-one g low [] s h = refl
total-one g low (c ∷ cs) s h =
    let r = total-one g low cs (rises-parts c cs s).1 h.1 in
    elim (eq_by_cmp word_order low c.0) as (λ t. eq_by_cmp word_order low c.0 ≡ t → g c.1 + total g cs ≡ some_of g
    (cond t (Some c.1) (value_of word_order cs low))) [
      | true ↦ λ t. let z : some_of g (value_of word_order cs low) ≡ 0 = ap (some_of g) (gone-after c cs low s t) in omega arith
      | false ↦ λ t. let z = h.0 (λ i. other_word low c.0 t (sym i)) in omega arith
    ] refl

-- what is known of the count of one child
pub record Part (g : ℕ → ℕ) (f : ℕ → Entries ℕ) (low high : ℕ) (c : ℕ × ℕ) : Type 0 where
  pub before : c.0 < low → g c.1 ≡ 0
  pub after : high < c.0 → g c.1 ≡ 0
  pub inside : low < c.0 → c.0 < high → g c.1 ≡ length (f c.1)

pub total-three : (g : ℕ → ℕ) (f : ℕ → Entries ℕ) (low high : ℕ) (cs : Entries ℕ) → low < high → is_sorted word_order cs ≡ true → Each (Part g f low high) cs
    → total g cs ≡ some_of g (value_of word_order cs low) + length (joined f (part (low + 1) high cs)) + some_of g (value_of word_order cs high)
total-three g f low high [] o s h = refl
total-three g f low high (c ∷ cs) o s h = by (eq_by_cmp word_order low c.0) (eq_by_cmp word_order high c.0)
    (nat_le (low + 1) c.0 && nat_lt c.0 high) refl refl refl (total-three g f low high cs o (rises-parts c cs s).1 h.1)
  where
    inner : (a m b : ℕ) → (nat_le (a + 1) m && nat_lt m b) ≡ true → (a < m) × (m < b)
    inner a m b e = (grind (arith, nat_tests), grind (arith, nat_tests))

    outer : (a m b : ℕ) → (nat_le (a + 1) m && nat_lt m b) ≡ false → a < m → b ≤ m
    outer a m b e i = grind (arith, nat_tests)

    by : (s' t u : Bool) → eq_by_cmp word_order low c.0 ≡ s' → eq_by_cmp word_order high c.0 ≡ t → (nat_le (low + 1) c.0 && nat_lt c.0 high) ≡ u
        → total g cs ≡ some_of g (value_of word_order cs low) + length (joined f (part (low + 1) high cs)) + some_of g (value_of word_order cs high)
        → g c.1 + total g cs ≡ some_of g (cond s' (Some c.1) (value_of word_order cs low)) + length
        (joined f (cond u (c ∷ part (low + 1) high cs) (part (low + 1) high cs))) + some_of g
        (cond t (Some c.1) (value_of word_order cs high))
    by true true u i j k r = absurd (let e = same_word low c.0 i in let d = same_word high c.0 j in omega arith)
    by true false true i j k r = absurd (let e = same_word low c.0 i in let d = (inner low c.0 high k).0 in omega arith)
    by true false false i j k r =
        let z : some_of g (value_of word_order cs low) ≡ 0 = ap (some_of g) (gone-after c cs low s i) in omega arith
    by false true true i j k r = absurd (let e = same_word high c.0 j in let d = (inner low c.0 high k).1 in omega arith)
    by false true false i j k r =
        let z : some_of g (value_of word_order cs high) ≡ 0 = ap (some_of g) (gone-after c cs high s j) in omega arith
    by false false true i j k r =
        let d = inner low c.0 high k in
        let z = h.0.inside d.0 d.1 in
        let n = length-append (f c.1) (joined f (part (low + 1) high cs)) in omega arith
    by false false false i j k r =
        let z : g c.1 ≡ 0 = elim (nat_le (low + 1) c.0) as (λ t. nat_le (low + 1) c.0 ≡ t → g c.1 ≡ 0) [
          | true ↦ λ e. h.0.after (let d = outer low c.0 high k (let m = le_of (low + 1) c.0 e in omega arith) in
              let n : high ≢ c.0 = other_word high c.0 j in strict high c.0 d n)
          | false ↦ λ e. h.0.before (let m = above_of (low + 1) c.0 e in
              let n : low ≢ c.0 = other_word low c.0 i in strict c.0 low (omega arith) (λ q. n (sym q)))
        ] refl in omega arith
      where
        strict : (a m : ℕ) → a ≤ m → a ≢ m → a < m
        strict a m i n = grind arith

-- keys that are words
small-each : (l : Entries ℕ) → list_all (λ e. nat_le e.0 max_word) l ≡ true → Each (λ e. e.0 < 18446744073709551616) l
small-each [] h = tt
small-each (e ∷ l) h = (
  small e.0 (and_left (nat_le e.0 max_word) (list_all (λ e. nat_le e.0 max_word) l) h),
  small-each l
      (and_right (nat_le e.0 max_word) (list_all (λ e. nat_le e.0 max_word) l) h),
)
  where
    small : (n : ℕ) → nat_le n max_word ≡ true → n < 18446744073709551616
    small n h = grind (arith, nat_tests)

-- the children before a byte, from it to above_of another, and from that one on are all of them
pub parts-are-all : (f : ℕ → Entries ℕ) (from high : ℕ) (cs : Entries ℕ) → from ≤ high → Each IsPlace cs
    → length (joined f cs) ≡ length (joined f (part 0 from cs)) + length (joined f (part from high cs)) + length (joined f (part high 256 cs))
parts-are-all f from high [] h p = refl
parts-are-all f from high (c ∷ cs) h p =
    let i = parts-are-all f from high cs h p.1 in
    let s = p.0.byte in
    let n = length-append (f c.1) (joined f cs) in
    elim (nat_lt c.0 from) as (λ t. nat_lt c.0 from ≡ t → length (joined f (c ∷ cs)) ≡ length (joined f (part 0 from (c ∷ cs)))
    + length (joined f (part from high (c ∷ cs))) + length (joined f (part high 256 (c ∷ cs)))) [
      | true ↦ λ e.
          let l = is-less c.0 from e in
          let m = length-append (f c.1) (joined f (part 0 from cs)) in
          rw (le-test 0 c.0 (omega arith), e, le-not from c.0 l, le-not high c.0 (omega arith)) (omega arith)
      | false ↦ λ e.
          let l = is-most c.0 from e in
          elim (nat_lt c.0 high) as (λ t. nat_lt c.0 high ≡ t → length (joined f (c ∷ cs)) ≡ length
          (joined f (part 0 from (c ∷ cs))) + length (joined f (part from high (c ∷ cs))) + length
          (joined f (part high 256 (c ∷ cs)))) [
            | true ↦ λ d.
                let k = is-less c.0 high d in
                let m = length-append (f c.1) (joined f (part from high cs)) in
                rw (le-test 0 c.0 (omega arith), e, le-test from c.0 l, d, le-not high c.0 k) (omega arith)
            | false ↦ λ d.
                let k = is-most c.0 high d in
                let m = length-append (f c.1) (joined f (part high 256 cs)) in
                rw (le-test 0 c.0 (omega arith), e, le-test from c.0 l, d, le-test high c.0 k, lt-test c.0 256 s) (omega arith)
          ] refl
    ] refl
  where
    is-less : (a b : ℕ) → nat_lt a b ≡ true → a < b
    is-less a b h = grind (arith, nat_tests)

    is-most : (a b : ℕ) → nat_lt a b ≡ false → b ≤ a
    is-most a b h = grind (arith, nat_tests)

-- ---- counts of a branch

module _ (v : Bool) (b : Blocks) (w : ℕ) (is : is_branch w ≡ true) (root : IsRoot v b w) (x y : ℕ) where
  kids : Each (λ c. IsKid (branch_view b w).level (head_at (branch_view b w).level (branch_view b w).prefix + c.0) (IsRoot v b)
      (entries v b) (depth b) c.1) (branch_view b w).children
  kids = (root-top v b w is root).over.kids

  counted : count (entries v b w) x y ≡ total (λ c. count (entries v b c) x y) (branch_view b w).children
  counted = ap (λ l. count l x y) (root-top v b w is root).content ∙ count-joined (entries v b) (branch_view b w).children x y

  -- all keys lie above_of x, or above y
  pub count-below : head_at (branch_view b w).level (branch_view b w).prefix + 255 < head_at (branch_view b w).level x → count (entries v b w) x y ≡ 0
  count-below h = counted ∙ total-none (λ c. count (entries v b c) x y) (branch_view b w).children
      (each-both (λ c. IsKid (branch_view b w).level (head_at (branch_view b w).level (branch_view b w).prefix + c.0) (IsRoot v b)
      (entries v b) (depth b) c.1) IsPlace (λ c. count (entries v b c.1) x y ≡ 0) (branch_view b w).children
      (λ c i p. count-low (entries v b c.1) x y
      (each-weaker (λ e. head_at (branch_view b w).level e.0 ≡ head_at (branch_view b w).level (branch_view b w).prefix + c.0)
      (λ e. e.0 < x) (entries v b c.1)
      (λ e j. head-less (branch_view b w).level e.0 x (let q = p.byte in omega arith)) i.heads)) kids (root-top v b w is root).view.places)

  pub count-above : head_at (branch_view b w).level y < head_at (branch_view b w).level (branch_view b w).prefix → count (entries v b w) x y ≡ 0
  count-above h = counted ∙ total-none (λ c. count (entries v b c) x y) (branch_view b w).children
      (each-weaker (λ c. IsKid (branch_view b w).level (head_at (branch_view b w).level (branch_view b w).prefix + c.0)
      (IsRoot v b) (entries v b) (depth b) c.1) (λ c. count (entries v b c.1) x y ≡ 0) (branch_view b w).children
      (λ c i. count-high (entries v b c.1) x y
      (each-weaker (λ e. head_at (branch_view b w).level e.0 ≡ head_at (branch_view b w).level (branch_view b w).prefix + c.0)
      (λ e. y < e.0) (entries v b c.1)
      (λ e j. head-less (branch_view b w).level y e.0 (omega arith)) i.heads)) kids)

  -- all keys lie between x and y
  pub count-inside : ((k : ℕ) → head_at (branch_view b w).level (branch_view b w).prefix ≤ head_at (branch_view b w).level k → x ≤ k)
      → ((k : ℕ) → k < 18446744073709551616 → head_at (branch_view b w).level k ≤ head_at (branch_view b w).level (branch_view b w).prefix + 255 → k ≤ y)
      → (branch_view b w).population ≡ count (entries v b w) x y
  count-inside above under = (root-top v b w is root).over.population ∙ sym (ap (λ l. count l x y) (root-top v b w is root).content
      ∙ count-all (joined (entries v b) (branch_view b w).children) x y (each-joined (λ e. (x ≤ e.0) × (e.0 ≤ y)) (entries v b) (branch_view b w).children
      (each-both (λ c. IsKid (branch_view b w).level (head_at (branch_view b w).level (branch_view b w).prefix + c.0) (IsRoot v b)
      (entries v b) (depth b) c.1) IsPlace (λ c. Each (λ e. (x ≤ e.0) × (e.0 ≤ y)) (entries v b c.1)) (branch_view b w).children
      (λ c i p. each-both (λ e. head_at (branch_view b w).level e.0 ≡ head_at (branch_view b w).level (branch_view b w).prefix
      + c.0) (λ e. e.0 < 18446744073709551616) (λ e. (x ≤ e.0) × (e.0 ≤ y)) (entries v b c.1)
      (λ e j s. (above e.0 (omega arith), under e.0 s (let q = p.byte in omega arith))) i.heads (small-each (entries v b c.1) (root-words v b c.1 i.sound).1))
      kids (root-top v b w is root).view.places)))

  module _ (low high : ℕ)
      (xlow : head_at (branch_view b w).level x ≤ head_at (branch_view b w).level (branch_view b w).prefix + low)
      (xat : 0 < low → head_at (branch_view b w).level x ≡ head_at (branch_view b w).level (branch_view b w).prefix + low)
      (yhigh : head_at (branch_view b w).level (branch_view b w).prefix + high ≤ head_at (branch_view b w).level y)
      (yat : high < 255 → head_at (branch_view b w).level y ≡ head_at (branch_view b w).level (branch_view b w).prefix
      + high) where
    parts : Each (Part (λ c. count (entries v b c) x y) (entries v b) low high) (branch_view b w).children
    parts = each-both (λ c. IsKid (branch_view b w).level (head_at (branch_view b w).level (branch_view b w).prefix + c.0)
        (IsRoot v b) (entries v b) (depth b) c.1) IsPlace (Part (λ c. count (entries v b c) x y) (entries v b) low high)
        (branch_view b w).children
        (λ c i p. record {
          before = λ h. count-low (entries v b c.1) x y
              (each-weaker (λ e. head_at (branch_view b w).level e.0 ≡ head_at (branch_view b w).level (branch_view b w).prefix
              + c.0) (λ e. e.0 < x) (entries v b c.1)
              (λ e j. head-less (branch_view b w).level e.0 x (let q = xat (omega arith) in omega arith)) i.heads);
          after = λ h. count-high (entries v b c.1) x y
              (each-weaker (λ e. head_at (branch_view b w).level e.0 ≡ head_at (branch_view b w).level (branch_view b w).prefix
              + c.0) (λ e. y < e.0) (entries v b c.1)
              (λ e j. head-less (branch_view b w).level y e.0 (let s = p.byte in let q = yat (omega arith) in omega arith)) i.heads);
          inside = λ h k. count-all (entries v b c.1) x y
              (each-weaker (λ e. head_at (branch_view b w).level e.0 ≡ head_at (branch_view b w).level (branch_view b w).prefix
              + c.0) (λ e. (x ≤ e.0) × (e.0 ≤ y)) (entries v b c.1)
              (λ e j. (
                let m = head-less (branch_view b w).level x e.0 (omega arith) in omega arith,
                let m = head-less
                    (branch_view b w).level e.0 y (omega arith) in omega arith,
              )) i.heads);
        }) kids (root-top v b w is root).view.places

    sorted : is_sorted word_order (branch_view b w).children ≡ true
    sorted = (root-top v b w is root).view.rising

    -- the ends turned, at one child, and apart
    pub count-turned : high < low → count (entries v b w) x y ≡ 0
    count-turned h = counted ∙ total-none (λ c. count (entries v b c) x y) (branch_view b w).children
        (each-weaker (Part (λ c. count (entries v b c) x y) (entries v b) low high) (λ c. count (entries v b c.1) x y ≡ 0) (branch_view b w).children
        (λ c p. elim (nat_le low c.0) as (λ t. nat_le low c.0 ≡ t → count (entries v b c.1) x y ≡ 0)
        [ true ↦ λ e. p.after (let u = le_of low c.0 e in omega arith) | false ↦ λ e. p.before (above_of low c.0 e) ] refl) parts)

    pub count-one : low ≡ high → count (entries v b w) x y ≡ some_of (λ c. count (entries v b c) x y) (value_of word_order (branch_view b w).children low)
    count-one h = counted ∙ total-one (λ c. count (entries v b c) x y) low (branch_view b w).children sorted
        (each-weaker (Part (λ c. count (entries v b c) x y) (entries v b) low high)
        (λ c. c.0 ≢ low → count (entries v b c.1) x y ≡ 0) (branch_view b w).children
        (λ c p n. elim (nat_le low c.0) as (λ t. nat_le low c.0 ≡ t → count (entries v b c.1) x y ≡ 0) [
          | true ↦ λ e. p.after (let u = le_of low c.0 e in let s = strict low c.0 u (λ q. n (sym q)) in omega arith)
          | false ↦ λ e. p.before (above_of low c.0 e)
        ] refl) parts)
      where
        strict : (a m : ℕ) → a ≤ m → a ≢ m → a < m
        strict a m i n = grind arith

    pub count-apart : low < high → count (entries v b w) x y
        ≡ some_of (λ c. count (entries v b c) x y) (value_of word_order (branch_view b w).children low) + length
        (joined (entries v b) (part (low + 1) high (branch_view b w).children)) + some_of (λ c. count (entries v b c) x y)
        (value_of word_order (branch_view b w).children high)
    count-apart h = counted ∙ total-three (λ c. count (entries v b c) x y) (entries v b) low high (branch_view b w).children h sorted parts

  -- and a count fits a word
  pub count-fits : count (entries v b w) x y < 1152921504606846976
  count-fits = let n = filter-less (λ e. nat_le x e.0 && nat_le e.0 y) (entries v b w) in let m = root-few v b w root in omega arith
    where
      filter-less : (p : ℕ × ℕ → Bool) (l : Entries ℕ) → length (filter p l) ≤ length l
      filter-less p [] = omega arith
      filter-less p (e ∷ l) = let r = filter-less p l in elim (p e) as (λ t. length (cond t (e ∷ filter p l) (filter p l)) ≤ suc
          (length l)) [ true ↦ omega arith | false ↦ omega arith ]

-- a part fits a word
pub part-fits : (v : Bool) (b : Blocks) (w : ℕ) → is_branch w ≡ true → IsRoot v b w → (z high : ℕ)
    → length (joined (entries v b) (part z high (branch_view b w).children)) < 1152921504606846976
part-fits v b w is root z high =
    let n = part-less (entries v b) (λ c. nat_le z c.0 && nat_lt c.0 high) (branch_view b w).children in
    let m = root-few v b w root in
    let e = ap length (root-top v b w is root).content in omega arith
