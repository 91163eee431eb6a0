-- Queries over a join of children: the least key from a word on, the greatest up to it, and how
-- many are between.
use Rattle.std.proofs.Common.{◌≡◌, ◌≢◌, ℕ, ◌+◌, ◌<◌, ◌≤◌, Bool, true, false, cond, List, [], ◌∷◌, ◌++◌, length, Option, Some}
use Rattle.std.proofs.Common.{None, is_some, ap, sym, ◌∙◌, refl, subst, arith}
use Rattle.std.specs.Prelude.{find, nat_le}
use Rattle.std.proofs.lemmas.Bool.Decides.{nat_tests}
use Rattle.judy_model.specs.Contents.{Entries, word_order, value_of}
use Rattle.judy_model.proofs.lemmas.GapLemmas.{AtLeast, Rising, weaker, absent_below}
use Rattle.judy_model.proofs.lemmas.WordLemmas.{le-test, le-not}
use Rattle.judy_model.proofs.lemmas.EntryLemmas.{same_word}
use Rattle.judy_tree.specs.Each.{Each}
use Rattle.std.specs.Ordering.{eq_by_cmp}
use Rattle.std.proofs.lemmas.Bool.{false≢true as not_true}
use Rattle.std.proofs.lemmas.Option.{none-some}
use Rattle.judy_tree.proofs.lemmas.BranchLaws.{IsPlace}
use Rattle.judy_tree.specs.Nodes.{joined}
use Rattle.judy_tree.proofs.lemmas.Joins.{Heads, each-weaker, other_word}

-- the first answer, or else the other
abbrev pub or_else : {A : Type 0} → Option A → Option A → Option A
or_else (Some x) o = Some x
or_else None o = o

-- what the child spells that was found, if one was
abbrev pub kid_of : {A : Type 0} → (ℕ → List A) → Option (ℕ × ℕ) → List A
kid_of f None = []
kid_of f (Some c) = f c.1

pub find-append : {A : Type 0} (p : A → Bool) (xs ys : List A) → find p (xs ++ ys) ≡ or_else (find p xs) (find p ys)
find-append p [] ys = refl
find-append p (x ∷ xs) ys = elim (p x) as (λ b. cond b (Some x) (find p (xs ++ ys)) ≡ or_else (cond b (Some x) (find p xs))
    (find p ys)) [ true ↦ refl | false ↦ find-append p xs ys ]

find-none : {A : Type 0} (p : A → Bool) (xs : List A) → Each (λ x. p x ≡ false) xs → find p xs ≡ None
find-none p [] h = refl
find-none p (x ∷ xs) h = rw h.0 (find-none p xs h.1)

pub find-passes : {A : Type 0} (p : A → Bool) (xs : List A) (a : A) → find p xs ≡ Some a → p a ≡ true
find-passes p [] a h = absurd (nothing h)
  where
    nothing : None ≡ Some a → ⊥
    nothing h = not_true (ap is_some h)
find-passes p (x ∷ xs) a h =
    elim (p x) as (λ b. p x ≡ b → cond b (Some x) (find p xs) ≡ Some a → p a ≡ true) [
      | true ↦ λ e i. subst (λ z. p z ≡ true) (same i) e
      | false ↦ λ e i. find-passes p xs a i
    ] refl h
  where
    same : Some x ≡ Some a → x ≡ a
    same i = cc

pub some_same : {A : Type 0} (x a : A) → Some x ≡ Some a → x ≡ a
some_same x a i = cc

-- the children of a branch, each with keys that begin as its byte says, and a word that begins with
-- the byte y, or lies before all of them
module _ (h : ℕ → ℕ) (base : ℕ) (f : ℕ → Entries ℕ) (mono : (a b : ℕ) → h a < h b → a < b) (x y : ℕ) where
  -- the least key from x on in a list, the first child from a byte on
  abbrev pub from : ℕ → Entries ℕ → Option (ℕ × ℕ)
  from z l = find (λ e. nat_le z e.0) l

  -- a child before the byte has no key from x on
  low-none : (c : ℕ × ℕ) → (0 < y → h x ≡ base + y) → c.0 < y → Each (λ e. h e.0 ≡ base + c.0) (f c.1) → from x (f c.1) ≡ None
  low-none c exact less heads = find-none (λ e. nat_le x e.0) (f c.1)
      (each-weaker (λ e. h e.0 ≡ base + c.0) (λ e. nat_le x e.0 ≡ false) (f c.1)
      (λ e i. le-not x e.0 (mono e.0 x (let g = exact (omega arith) in omega arith))) heads)

  -- a child after the byte has only such keys
  high-some : (c : ℕ × ℕ) (l r : Entries ℕ) → h x ≤ base + y → y < c.0 → Each (λ e. h e.0 ≡ base + c.0) l → 0 < length l → from x (l ++ r) ≡ from x l
  high-some c [] r low more heads some = absurd (omega arith)
  high-some c (e ∷ l) r low more heads some =
      let p : nat_le x e.0 ≡ true = le-test x e.0 (let m = mono x e.0 (let g = heads.0 in omega arith) in omega arith) in rw p refl

  module _ (exact : 0 < y → h x ≡ base + y) where
    pub first-none : (cs : Entries ℕ) → Heads h base f cs → from y cs ≡ None → from x (joined f cs) ≡ None
    first-none [] a n = refl
    first-none (c ∷ cs) a n =
        elim (nat_le y c.0) as (λ b. nat_le y c.0 ≡ b → cond b (Some c) (from y cs) ≡ None → from x (f c.1 ++ joined f cs) ≡ None) [
          | true ↦ λ e i. absurd (not_true (sym (ap is_some i)))
          | false ↦ λ e i. find-append (λ e. nat_le x e.0) (f c.1) (joined f cs) ∙ ap (λ o. or_else o (from x (joined f cs)))
              (low-none c exact (below y c.0 e) a.0) ∙ first-none cs a.1 i
        ] refl n
      where
        below : (a b : ℕ) → nat_le a b ≡ false → b < a
        below a b h = grind (arith, nat_tests)

    module _ (low : h x ≤ base + y) where
      -- where all children come after the byte, the first has the answer
      from-high : (z : ℕ) (cs : Entries ℕ) → y < z → AtLeast z cs → Heads h base f cs → Each (λ c. 0 < length (f c.1)) cs
          → from x (joined f cs) ≡ from x (kid_of f (from z cs))
      from-high z [] m b a s = refl
      from-high z (c ∷ cs) m b a s = high-some c (f c.1) (joined f cs) low (omega (arith, b.0)) a.0 s.0
          ∙ ap (λ t. from x (kid_of f (cond t (Some c) (from z cs)))) (sym (le-test z c.0 b.0))

      -- the child from the byte on has the answer, or else the one after it
      pub first-some : (cs : Entries ℕ) (k : ℕ × ℕ) → Rising cs → Heads h base f cs → Each (λ c. 0 < length (f c.1)) cs → from y cs ≡ Some k
          → from x (joined f cs) ≡ or_else (from x (f k.1)) (from x (kid_of f (from (k.0 + 1) cs)))
      first-some [] k r a s n = absurd (not_true (ap is_some n))
      first-some (c ∷ cs) k r a s n =
          elim (nat_le y c.0) as (λ b. nat_le y c.0 ≡ b → cond b (Some c) (from y cs) ≡ Some k → from x (f c.1 ++ joined f cs)
          ≡ or_else (from x (f k.1)) (from x (kid_of f (cond (nat_le (k.0 + 1) c.0) (Some c) (from (k.0 + 1) cs))))) [
            | true ↦ λ e i.
                let same : c ≡ k = some_same c k i in
                subst (λ k. from x (f c.1 ++ joined f cs) ≡ or_else (from x (f k.1))
                (from x (kid_of f (cond (nat_le (k.0 + 1) c.0) (Some c) (from (k.0 + 1) cs))))) same
                (find-append (λ e. nat_le x e.0) (f c.1) (joined f cs)
                ∙ ap (λ o. or_else (from x (f c.1)) o) (from-high (c.0 + 1) cs (let m = upto y c.0 e in omega arith) r.0 a.1 s.1
                ∙ ap (λ t. from x (kid_of f (cond t (Some c) (from (c.0 + 1) cs)))) (sym (le-not (c.0 + 1) c.0 (omega arith)))))
            | false ↦ λ e i.
                let l = below y c.0 e in
                let m = upto y k.0 (find-passes (λ d. nat_le y d.0) cs k i) in
                find-append (λ e. nat_le x e.0) (f c.1) (joined f cs) ∙ ap (λ o. or_else o (from x (joined f cs))) (low-none c exact l a.0)
                ∙ first-some cs k r.1 a.1 s.1 i
                ∙ ap (λ t. or_else (from x (f k.1)) (from x (kid_of f (cond t (Some c) (from (k.0 + 1) cs)))))
                (sym (le-not (k.0 + 1) c.0 (omega arith)))
          ] refl n
        where
          below : (a b : ℕ) → nat_le a b ≡ false → b < a
          below a b h = grind (arith, nat_tests)

          upto : (a b : ℕ) → nat_le a b ≡ true → a ≤ b
          upto a b h = grind (arith, nat_tests)

-- the child of a byte is the first from it on
pub next-here : (cs : Entries ℕ) (y c : ℕ) → Rising cs → value_of word_order cs y ≡ Some c → find (λ k. nat_le y k.0) cs ≡ Some (y, c)
next-here [] y c r h = absurd (none-some c h)
next-here (k ∷ cs) y c r h =
    elim (eq_by_cmp word_order y k.0) as (λ t. eq_by_cmp word_order y k.0 ≡ t → cond t (Some k.1) (value_of word_order cs y)
    ≡ Some c → cond (nat_le y k.0) (Some k) (find (λ k. nat_le y k.0) cs) ≡ Some (y, c)) [
      | true ↦ λ t i.
          let e : y ≡ k.0 = same_word y k.0 t in
          let p : nat_le y k.0 ≡ true = le-test y k.0 (omega arith) in
          rw p (ap (λ z. Some (z, k.1)) (sym e) ∙ ap (λ z. Some (y, z)) (some_same k.1 c i))
      | false ↦ λ t i.
          elim (nat_le y k.0) as (λ b. nat_le y k.0 ≡ b → cond b (Some k) (find (λ k. nat_le y k.0) cs) ≡ Some (y, c)) [
            | true ↦ λ b.
                let u : y ≤ k.0 = upto y k.0 b in
                absurd (not_true (sym (absent_below y cs (weaker (y + 1) (k.0 + 1) cs (omega arith) r.0)) ∙ ap is_some i))
            | false ↦ λ b. next-here cs y c r.1 i
          ] refl
    ] refl h
  where
    upto : (a b : ℕ) → nat_le a b ≡ true → a ≤ b
    upto a b h = grind (arith, nat_tests)

-- where a byte has none, the first from it on is the first after it
pub next-later : (cs : Entries ℕ) (y : ℕ) → value_of word_order cs y ≡ None → find (λ k. nat_le y k.0) cs ≡ find (λ k. nat_le (y + 1) k.0) cs
next-later [] y h = refl
next-later (k ∷ cs) y h =
    elim (eq_by_cmp word_order y k.0) as (λ t. eq_by_cmp word_order y k.0 ≡ t → cond t (Some k.1) (value_of word_order cs y)
    ≡ None → cond (nat_le y k.0) (Some k) (find (λ k. nat_le y k.0) cs) ≡ cond (nat_le (y + 1) k.0) (Some k)
    (find (λ k. nat_le (y + 1) k.0) cs)) [
      | true ↦ λ t i. absurd (none-some k.1 (sym i))
      | false ↦ λ t i.
          ap (λ b. cond b (Some k) (find (λ k. nat_le y k.0) cs)) (same y k.0 (other_word y k.0 t))
          ∙ ap (λ o. cond (nat_le (y + 1) k.0) (Some k) o) (next-later cs y i)
    ] refl h
  where
    same : (a b : ℕ) → a ≢ b → nat_le a b ≡ nat_le (a + 1) b
    same a b n = elim (nat_le (a + 1) b) as (λ t. nat_le (a + 1) b ≡ t → nat_le a b ≡ t)
        [ true ↦ λ e. le-test a b (up a b e) | false ↦ λ e. le-not a b (less a b n e) ] refl
      where
        up : (a b : ℕ) → nat_le (a + 1) b ≡ true → a ≤ b
        up a b e = grind (arith, nat_tests)

        less : (a b : ℕ) → a ≢ b → nat_le (a + 1) b ≡ false → b < a
        less a b n e = grind (arith, nat_tests)

-- no child has a byte from 256 on
pub next-end : (cs : Entries ℕ) → Each IsPlace cs → find (λ k. nat_le 256 k.0) cs ≡ None
next-end cs h = find-none (λ k. nat_le 256 k.0) cs (each-weaker IsPlace (λ k. nat_le 256 k.0 ≡ false) cs (λ k p. le-not 256 k.0 p.byte) h)

-- which of two answers counts
pub else-found : {A : Type 0} (s o : Option A) (x : A) → s ≡ Some x → or_else s o ≡ Some x
else-found s o x h = ap (λ s. or_else s o) h

pub else-other : {A : Type 0} (s o : Option A) → s ≡ None → or_else s o ≡ o
else-other s o h = ap (λ s. or_else s o) h
