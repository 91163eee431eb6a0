-- A branch is taken apart: the blocks under its children are released in rising order of their bytes.
--     next-from, found-from     the first child from a byte on, and the others
--     IsCleared f own cs a b low     the blocks under the children below low were released
--     cleared-start, cleared-next, cleared-end     before the first child, after one more, after all
use Rattle.std.proofs.Common.{◌≡◌, ℕ, suc, ◌<◌, ◌≤◌, Bool, true, false, cond, not, ◌||◌, ◌&&◌, ◌==◌, List, [], ◌∷◌, ◌++◌}
use Rattle.std.proofs.Common.{Some, None, ap, sym, ◌∙◌, refl, subst, arith, ◌⊎◌, inl, inr}
use Rattle.std.specs.Prelude.{nat_le}
use Rattle.std.proofs.lemmas.Bool.{false≢true as not_true}
use Rattle.std.proofs.lemmas.Bool.Decides.{nat_tests}
use Rattle.std.specs.Ordering.{is_lt}
use Rattle.std.specs.FinMap.{is_sorted}
use Rattle.std.specs.FinMap.Entries.{below_all}
use Rattle.judy_arena.specs.Blocks.{Blocks}
use Rattle.judy_arena.specs.Frame.{holds, Frame}
use Rattle.judy_arena.specs.Totals.{are_distinct}
use Rattle.judy_arena.proofs.lemmas.BlockLaws.{itself}
use Rattle.judy_arena.proofs.lemmas.FrameLaws.{frame-none, frame-then, holds-append, in-either, joint}
use Rattle.std.proofs.Math.Bool.{or-true}
use Rattle.judy_model.specs.Contents.{Entries, word_order, value_of, head_of}
use Rattle.judy_model.proofs.lemmas.TestLemmas.{and_right, and_left}
use Rattle.judy_tree.specs.Each.{Each}
use Rattle.judy_tree.specs.Nodes.{joined}
use Rattle.judy_tree.specs.Parts.{from}
use Rattle.judy_tree.proofs.lemmas.Joins.{less_is, rises-parts, word_other, found-first}

at_least : (a b : ℕ) → nat_le a b ≡ true → a ≤ b
at_least a b h = grind (arith, nat_tests)

is_at_least : (a b : ℕ) → a ≤ b → nat_le a b ≡ true
is_at_least a b h = grind (arith, nat_tests)

below_it : (a b : ℕ) → nat_le a b ≡ false → b < a
below_it a b h = grind (arith, nat_tests)

is_below_it : (a b : ℕ) → b < a → nat_le a b ≡ false
is_below_it a b h = grind (arith, nat_tests)

-- all of them, if each byte is at least low
pub from-all : (low k : ℕ) (cs : Entries ℕ) → low ≤ suc k → below_all word_order k cs ≡ true → from low cs ≡ cs
from-all low k [] h s = refl
from-all low k (c ∷ cs) h s =
    let above : k < c.0 = less_is k c.0 (and_left (is_lt (word_order k c.0)) (below_all word_order k cs) s) in
    let rest = from-all low k cs h (and_right (is_lt (word_order k c.0)) (below_all word_order k cs) s) in
    ap (λ b. cond b (c ∷ from low cs) (from low cs)) (is_at_least low c.0 (omega (arith, above, h)))
    ∙ ap (λ l. c ∷ l) rest

pub from-zero : (cs : Entries ℕ) → from 0 cs ≡ cs
from-zero [] = refl
from-zero (c ∷ cs) = ap (λ b. cond b (c ∷ from 0 cs) (from 0 cs)) (is_at_least 0 c.0 (omega arith)) ∙ ap (λ l. c ∷ l) (from-zero cs)

-- the first of them has a byte from low on, and the others have greater ones
pub next-from : (low : ℕ) (cs : Entries ℕ) (d : ℕ × ℕ) → is_sorted word_order cs ≡ true → head_of (from low cs) ≡ Some d
    → (low ≤ d.0) × (from low cs ≡ d ∷ from (suc d.0) cs)
next-from low [] d s h = absurd (nothing h)
  where
    nothing : None ≡ Some d → ⊥
    nothing e = cc
next-from low (c ∷ cs) d s h = by (nat_le low c.0) refl h (next-from low cs d (rises-parts c cs s).1)
  where
    first : (x : ℕ × ℕ) → Some c ≡ Some x → c ≡ x
    first x e = cc

    by : (b : Bool) → nat_le low c.0 ≡ b → head_of (cond b (c ∷ from low cs) (from low cs)) ≡ Some d
        → (head_of (from low cs) ≡ Some d → (low ≤ d.0) × (from low cs ≡ d ∷ from (suc d.0) cs))
        → (low ≤ d.0) × (cond b (c ∷ from low cs) (from low cs) ≡ d ∷ cond (nat_le (suc d.0) c.0) (c ∷ from (suc d.0) cs) (from (suc d.0) cs))
    by true e g rest =
        let is : c ≡ d = first d g in
        let below = (rises-parts c cs s).0 in
        let least : low ≤ c.0 = at_least low c.0 e in
        subst (λ x. (low ≤ x.0) × (c ∷ from low cs ≡ x ∷ cond (nat_le (suc x.0) c.0) (c ∷ from (suc x.0) cs) (from (suc x.0) cs))) is (
          least,
          ap (λ l. c ∷ l) (from-all low c.0 cs (omega (arith, least)) below
              ∙ sym (from-all (suc c.0) c.0 cs (omega arith) below)
              ∙ sym (ap (λ b. cond b (c ∷ from (suc c.0) cs) (from (suc c.0) cs)) (is_below_it (suc c.0) c.0 (omega arith)))),
        )
    by false e g rest =
        let r = rest g in
        let lower : c.0 < low = below_it low c.0 e in
        let least : low ≤ d.0 = r.0 in (
          least,
          r.1 ∙ ap (λ l. d ∷ l) (sym (ap (λ b. cond b (c ∷ from (suc d.0) cs) (from (suc d.0) cs))
              (is_below_it (suc d.0) c.0 (omega (arith, lower, least))))),
        )

-- and it is found at its byte
pub found-from : (low : ℕ) (cs : Entries ℕ) (d : ℕ × ℕ) → is_sorted word_order cs ≡ true → head_of (from low cs) ≡ Some d → value_of word_order cs d.0 ≡ Some d.1
found-from low [] d s h = absurd (nothing h)
  where
    nothing : None ≡ Some d → ⊥
    nothing e = cc
found-from low (c ∷ cs) d s h = by (nat_le low c.0) refl h (found-from low cs d (rises-parts c cs s).1) (next-from low cs d (rises-parts c cs s).1)
  where
    first : (x : ℕ × ℕ) → Some c ≡ Some x → c ≡ x
    first x e = cc

    by : (b : Bool) → nat_le low c.0 ≡ b → head_of (cond b (c ∷ from low cs) (from low cs)) ≡ Some d
        → (head_of (from low cs) ≡ Some d → value_of word_order cs d.0 ≡ Some d.1)
        → (head_of (from low cs) ≡ Some d → (low ≤ d.0) × (from low cs ≡ d ∷ from (suc d.0) cs))
        → value_of word_order (c ∷ cs) d.0 ≡ Some d.1
    by true e g rest parts = subst (λ x. value_of word_order (c ∷ cs) x.0 ≡ Some x.1) (first d g) (found-first c cs)
    by false e g rest parts =
        let least = (parts g).0 in
        let lower : c.0 < low = below_it low c.0 e in
        ap (λ t. cond t (Some c.1) (value_of word_order cs d.0)) (word_other d.0 c.0 (λ i. let j : d.0 ≡ c.0 = i in omega (arith, least, lower, j))) ∙ rest g

-- none of them from 256 on
pub from-past : (low : ℕ) (cs : Entries ℕ) → 256 ≤ low → Each (λ c. c.0 < 256) cs → from low cs ≡ []
from-past low [] h s = refl
from-past low (c ∷ cs) h s =
    let small = s.0 in
    ap (λ b. cond b (c ∷ from low cs) (from low cs)) (is_below_it low c.0 (omega (arith, h, small))) ∙ from-past low cs h s.1

-- ---- numbers that are no more than once in two lists

pub record Apart (ns rest : List ℕ) : Type 0 where
  pub first : are_distinct ns ≡ true
  pub once : are_distinct rest ≡ true
  pub apart : (q : ℕ) → holds q ns ≡ true → holds q rest ≡ false

same_number : (a b : ℕ) → (a == b) ≡ true → a ≡ b
same_number a b h = grind (arith, nat_tests)

not_held : (b : Bool) → not b ≡ true → b ≡ false
not_held true h = absurd (not_true h)
not_held false h = refl

left_none : (a b : Bool) → (a || b) ≡ false → a ≡ false
left_none true b h = absurd (not_true (sym h))
left_none false b h = refl

right_none : (a b : Bool) → (a || b) ≡ false → b ≡ false
right_none true b h = absurd (not_true (sym h))
right_none false b h = h

both_none : (a b : Bool) → a ≡ false → b ≡ false → (a || b) ≡ false
both_none true b h k = absurd (not_true (sym h))
both_none false b h k = k

both_true : (a b : Bool) → a ≡ false → b ≡ true → (not a && b) ≡ true
both_true true b h k = absurd (not_true (sym h))
both_true false b h k = k

pub apart-of : (ns rest : List ℕ) → are_distinct (ns ++ rest) ≡ true → Apart ns rest
apart-of [] rest h = record { first = refl; once = h; apart = λ q k. absurd (not_true k) }
apart-of (n ∷ ns) rest h =
    let r = apart-of ns rest (and_right (not (holds n (ns ++ rest))) (are_distinct (ns ++ rest)) h) in
    let none : (holds n ns || holds n rest) ≡ false = sym (holds-append n ns rest)
    ∙ not_held (holds n (ns ++ rest)) (and_left (not (holds n (ns ++ rest))) (are_distinct (ns ++ rest)) h) in
    record {
      first = both_true (holds n ns) (are_distinct ns) (left_none (holds n ns) (holds n rest) none) r.first;
      once = r.once;
      apart = λ q. by q (right_none (holds n ns) (holds n rest) none) r.apart (q == n) refl;
    }
  where
    by : (q : ℕ) → holds n rest ≡ false → ((q : ℕ) → holds q ns ≡ true → holds q rest ≡ false) → (b : Bool) → (q == n) ≡ b
        → (b || holds q ns) ≡ true → holds q rest ≡ false
    by q none f true e k = ap (λ x. holds x rest) (same_number q n e) ∙ none
    by q none f false e k = f q k

pub of-apart : (ns rest : List ℕ) → Apart ns rest → are_distinct (ns ++ rest) ≡ true
of-apart [] rest h = h.once
of-apart (n ∷ ns) rest h =
    both_true (holds n (ns ++ rest)) (are_distinct (ns ++ rest))
    (holds-append n ns rest ∙ both_none (holds n ns) (holds n rest)
    (not_held (holds n ns) (and_left (not (holds n ns)) (are_distinct ns) h.first))
    (h.apart n (ap (λ t. t || holds n ns) (itself n))))
    (of-apart ns rest (record {
      first = and_right (not (holds n ns)) (are_distinct ns) h.first;
      once = h.once;
      apart = λ q k. h.apart q (ap (λ t. (q == n) || t) k ∙ or-true (q == n));
    }))

-- ---- the children below a byte are gone

one_frame : (s t : Bool) → (s || t) ≡ joint s false t
one_frame true t = refl
one_frame false true = refl
one_frame false false = refl

or_three : (s t u : Bool) → (s || (t || u)) ≡ ((s || t) || u)
or_three true t u = refl
or_three false t u = refl

turned : (s t : Bool) → (s || (t || false)) ≡ joint t false s
turned true true = refl
turned true false = refl
turned false true = refl
turned false false = refl

module _ (f : ℕ → List ℕ) (own : List ℕ) (cs : Entries ℕ) (a : Blocks) where
  -- the blocks under the children below low were released; `f` gives the numbers under a child, and
  -- `own` are the numbers of the blocks above them
  pub record IsCleared (b : Blocks) (low : ℕ) : Type 0 where
    pub gone : List ℕ
    pub frame : Frame a b gone []
    pub parts : (q : ℕ) → holds q (joined f cs) ≡ (holds q gone || holds q (joined f (from low cs)))
    pub apart : (q : ℕ) → holds q gone ≡ true → holds q (own ++ joined f (from low cs)) ≡ false
    pub once : are_distinct (own ++ joined f (from low cs)) ≡ true

  -- before the first child
  pub cleared-start : are_distinct (own ++ joined f cs) ≡ true → IsCleared a 0
  cleared-start h = record {
    gone = [];
    frame = frame-none a;
    parts = λ q. ap (λ l. holds q (joined f l)) (sym (from-zero cs));
    apart = λ q k. absurd (not_true k);
    once = ap (λ l. are_distinct (own ++ joined f l)) (from-zero cs) ∙ h;
  }

  module _ (b c : Blocks) (low x w : ℕ) (s : is_sorted word_order cs ≡ true) (is : head_of (from low cs) ≡ Some (x, w)) (h : IsCleared b low) where
    abbrev rest : List ℕ
    rest = joined f (from (suc x) cs)

    split : joined f (from low cs) ≡ f w ++ rest
    split = ap (joined f) (next-from low cs (x, w) s is).1

    above : Apart own (f w ++ rest)
    above = apart-of own (f w ++ rest) (ap (λ l. are_distinct (own ++ l)) (sym split) ∙ h.once)

    others : Apart (f w) rest
    others = apart-of (f w) rest above.once

    gone-apart : (q : ℕ) → holds q h.gone ≡ true → (holds q own || (holds q (f w) || holds q rest)) ≡ false
    gone-apart q k =
        ap (λ t. holds q own || t) (sym (holds-append q (f w) rest)) ∙ sym (holds-append q own (f w ++ rest))
        ∙ ap (λ l. holds q (own ++ l)) (sym split) ∙ h.apart q k

    -- the numbers under the child are not gone yet
    pub child-apart : (q : ℕ) → holds q (f w) ≡ true → holds q h.gone ≡ false
    child-apart q k = by (holds q h.gone) refl
      where
        by : (t : Bool) → holds q h.gone ≡ t → t ≡ false
        by true e = absurd (not_true (sym (left_none (holds q (f w)) (holds q rest)
            (right_none (holds q own) (holds q (f w) || holds q rest) (gone-apart q e))) ∙ k))
        by false e = refl

    not-own : (q : ℕ) → holds q (f w) ≡ true → holds q own ≡ false
    not-own q k = by (holds q own) refl
      where
        by : (t : Bool) → holds q own ≡ t → t ≡ false
        by true e = absurd (not_true (sym (left_none (holds q (f w)) (holds q rest) (sym (holds-append q (f w) rest) ∙ above.apart q e)) ∙ k))
        by false e = refl

    not-left : (q : ℕ) → (holds q h.gone ≡ true) ⊎ (holds q (f w) ≡ true) → (holds q own || holds q rest) ≡ false
    not-left q (inl e) = both_none (holds q own) (holds q rest)
        (left_none (holds q own) (holds q (f w) || holds q rest) (gone-apart q e))
        (right_none (holds q (f w)) (holds q rest) (right_none (holds q own) (holds q (f w) || holds q rest) (gone-apart q e)))
    not-left q (inr e) = both_none (holds q own) (holds q rest) (not-own q e) (others.apart q e)

    -- after one more child
    pub cleared-next : Frame b c (f w) [] → IsCleared c (suc x)
    cleared-next g = record {
      gone = h.gone ++ f w;
      frame = frame-then a b c h.gone [] (f w) [] (h.gone ++ f w) [] h.frame g
          (λ q. holds-append q h.gone (f w) ∙ one_frame (holds q h.gone) (holds q (f w))) (λ q. refl);
      parts = λ q. h.parts q ∙ ap (λ l. holds q h.gone || holds q l) split
          ∙ ap (λ t. holds q h.gone || t) (holds-append q (f w) rest)
          ∙ or_three (holds q h.gone) (holds q (f w)) (holds q rest)
          ∙ ap (λ t. t || holds q rest) (sym (holds-append q h.gone (f w)));
      apart = λ q k. holds-append q own rest ∙ not-left q (in-either q h.gone (f w) k);
      once = of-apart own rest (record {
        first = above.first;
        once = others.once;
        apart = λ q k. right_none (holds q (f w)) (holds q rest) (sym (holds-append q (f w) rest) ∙ above.apart q k);
      });
    }

  -- after all children and the blocks above them
  pub cleared-end : (b d : Blocks) (low : ℕ) → head_of (from low cs) ≡ None → IsCleared b low → Frame b d own [] → Frame a d (own ++ joined f cs) []
  cleared-end b d low is h g =
      frame-then a b d h.gone [] own [] (own ++ joined f cs) [] h.frame g
      (λ q. holds-append q own (joined f cs)
      ∙ ap (λ t. holds q own || t) (h.parts q ∙ ap (λ l. holds q h.gone || holds q (joined f l)) (none (from low cs) is))
      ∙ turned (holds q own) (holds q h.gone)) (λ q. refl)
    where
      none : (l : Entries ℕ) → head_of l ≡ None → l ≡ []
      none [] e = refl
      none (c ∷ l) e = cc

  -- the blocks above the children are not gone
  pub own-not-gone : (b : Blocks) (low : ℕ) (h : IsCleared b low) (q : ℕ) → holds q own ≡ true → holds q h.gone ≡ false
  own-not-gone b low h q k = by (holds q h.gone) refl
    where
      by : (t : Bool) → holds q h.gone ≡ t → t ≡ false
      by true e = absurd (not_true (sym (left_none (holds q own) (holds q (joined f (from low cs)))
          (sym (holds-append q own (joined f (from low cs))) ∙ h.apart q e)) ∙ k))
      by false e = refl
