-- No word is lost: the words of the live blocks and those of the blocks in the lists of free blocks
-- are all words.
use Rattle.std.proofs.Common.{◌≡◌, ◌≢◌, ℕ, zero, suc, ◌+◌, ◌-◌, ◌*◌, ◌<◌, ◌≤◌, Bool, true, false, cond, nat_lt, ◌==◌, List, [], ◌∷◌, length, get_or, take}
use Rattle.std.proofs.Common.{replicate, refl, sym, ap, subst, ◌∙◌, arith, inl, inr, add-one}
use Rattle.std.proofs.lemmas.Bool.Decides.{nat_tests}
use Rattle.std.proofs.lemmas.List.{take_all}
use Rattle.judy_arena.specs.Blocks.{total_words}
use Rattle.judy_arena.specs.Free.{followed, free_words}
use Rattle.judy_arena.specs.Ready.{greatest}
use Rattle.judy_arena.specs.Layout.{marks_live, span, size_of, blocks_of, IsIn, IsChain, IsLaidOut, IsSound}
use Rattle.judy_arena.proofs.lemmas.BlockLaws.{apart as differ}
use Rattle.judy_arena.proofs.SizeLaws.{total-none}
use Rattle.judy_arena.proofs.Chains.{by_lt, by_eq, chain-marked}
use Rattle.judy_arena.proofs.LaidOut.{span-pos, span-freed, live-below}
use Rattle.judy_arena.proofs.Cuts.{by_class}
use Rattle.judy_arena.proofs.Seen.{blocks-none}
use Rattle.judy_arena.proofs.ReadyLaws.{greatest-class}
use Rattle.judy_arena.proofs.BoundLaws.{first, total-live, total-dead}
use Rattle.judy_arena.proofs.Areas.{next-begins, part-long, free-class}

-- ---- how many numbers of a list are below another number
abbrev pub one : Bool → ℕ
one test = cond test 1 0

abbrev below : ℕ → List ℕ → ℕ
below b [] = 0
below b (p ∷ ps) = one (nat_lt p b) + below b ps

below-none : (ps : List ℕ) → below 0 ps ≡ 0
below-none [] = refl
below-none (p ∷ ps) = let i = below-none ps in let e : nat_lt p 0 ≡ false = grind (arith, nat_tests) in let f = ap one e in omega (arith, i, f)

below-all : (n : ℕ) (ps : List ℕ) → ((q : ℕ) → IsIn q ps → q < n) → below n ps ≡ length ps
below-all n [] all = refl
below-all n (p ∷ ps) all =
    let i = below-all n ps (λ q j. all q (inr j)) in let l = all p (inl refl) in
    let e : nat_lt p n ≡ true = grind (arith, nat_tests, l) in let f = ap one e in omega (arith, i, f)

-- a number counts alike below b and below the next one, unless it is b
same-count : (p b : ℕ) → p ≢ b → nat_lt p (suc b) ≡ nat_lt p b
same-count p b d = by_lt p b
    (λ l. let e : nat_lt p (suc b) ≡ true = grind (arith, nat_tests, l) in let f : nat_lt p b ≡ true = grind (arith, nat_tests, l) in e ∙ sym f)
    (λ l. let m : b < p = omega (arith, l, d) in
    let e : nat_lt p (suc b) ≡ false = grind (arith, nat_tests, m) in let f : nat_lt p b ≡ false = grind (arith, nat_tests, l) in e ∙ sym f)

below-other : (b : ℕ) (ps : List ℕ) → (IsIn b ps → ⊥) → below (suc b) ps ≡ below b ps
below-other b [] none = refl
below-other b (p ∷ ps) none =
    let i = below-other b ps (λ j. none (inr j)) in let e = ap one (same-count p b (λ s. none (inl (sym s)))) in omega (arith, i, e)

in-rest : (q p : ℕ) (ps : List ℕ) → p ≢ q → IsIn q (p ∷ ps) → IsIn q ps
in-rest q p ps d (inl e) = absurd (d (sym e))
in-rest q p ps d (inr i) = i

-- a chain has each of its blocks once
below-here : (marks words : List ℕ) (k q b h : ℕ) (ps : List ℕ) → IsChain marks words k b h ps → IsIn q ps → below (suc q) ps ≡ below q ps + 1
below-here marks words k q b h [] c i = absurd i
below-here marks words k q b h (p ∷ ps) c i = by_eq p q
    (λ e.
    let r = below-other q ps (λ j. c.3 (subst (λ v. IsIn v ps) (sym e) j)) in
    let f : nat_lt p (suc q) ≡ true = grind (arith, nat_tests, e) in let g : nat_lt p q ≡ false = grind (arith, nat_tests, e) in
    let x = ap one f in let y = ap one g in omega (arith, r, x, y))
    (λ d.
    let r = below-here marks words k q (suc p) (get_or words (p * 4) 0) ps c.5 (in-rest q p ps d i) in
    let e = ap one (same-count p q d) in omega (arith, r, e))

-- the blocks that a head leads to are those of its chain
chain-followed : (marks words : List ℕ) (k b h : ℕ) (ps : List ℕ) (most : ℕ) → IsChain marks words k b h ps → length ps ≤ most → followed words h most ≡ ps
chain-followed marks words k b h [] most c l = ap (λ j. followed words j most) c
chain-followed marks words k b h (p ∷ ps) zero c l = absurd (omega (arith, l))
chain-followed marks words k b h (p ∷ ps) (suc most) c l =
    ap (λ j. followed words j (suc most)) c.0
    ∙ ap (λ v. p ∷ v) (chain-followed marks words k (suc p) (get_or words (p * 4) 0) ps most c.5 (omega (arith, l)))

-- ---- the words of a free block, by its mark
unfoldable pub weight : ℕ → ℕ
weight m =
    4 * one (m == 9) + 8 * one (m == 10) + 16 * one (m == 11) + 32 * one (m == 12) + 64 * one (m == 13) + 128 * one (m == 14)
    + 256 * one (m == 15) + 512 * one (m == 16)

weight-is : (m : ℕ) → weight m ≡ (
    4 * one (m == 9) + 8 * one (m == 10) + 16 * one (m == 11) + 32 * one (m == 12) + 64 * one (m == 13) + 128 * one (m == 14)
    + 256 * one (m == 15) + 512 * one (m == 16))
unfolding weight
weight-is m = refl

weight-free : (j : ℕ) → j < 8 → weight (j + 9) ≡ size_of j
unfolding weight span
weight-free j l = by_class (λ j. weight (j + 9) ≡ size_of j) refl refl refl refl refl refl refl refl j l

weight-live : (m : ℕ) → m < 9 → weight m ≡ 0
unfolding weight
weight-live m l = by_lt m 8
    (λ o. by_class (λ m. weight m ≡ 0) refl refl refl refl refl refl refl refl m o)
    (λ o. let e : 8 ≡ m = omega (arith, l, o) in subst (λ m. weight m ≡ 0) e refl)

-- the words of the free blocks at the first b marks
abbrev pub freed : List ℕ → ℕ → ℕ
freed marks zero = 0
freed marks (suc b) = freed marks b + weight (get_or marks b 0)

-- ---- the words of the blocks that the eight heads lead to
abbrev long : List ℕ → ℕ → ℕ
long words h = length (followed words h (length words))

abbrev in_eight : (ℕ → ℕ) → ℕ
in_eight n = 4 * n 0 + 8 * n 1 + 16 * n 2 + 32 * n 3 + 64 * n 4 + 128 * n 5 + 256 * n 6 + 512 * n 7

free-is : (words heads : List ℕ) → length heads ≡ 8 → free_words words heads ≡ in_eight (λ k. long words (get_or heads k 0))
unfolding free_words
free-is words [] eight = absurd (omega (arith, eight))
free-is words (a ∷ []) eight = absurd (omega (arith, eight))
free-is words (a ∷ b ∷ []) eight = absurd (omega (arith, eight))
free-is words (a ∷ b ∷ c ∷ []) eight = absurd (omega (arith, eight))
free-is words (a ∷ b ∷ c ∷ d ∷ []) eight = absurd (omega (arith, eight))
free-is words (a ∷ b ∷ c ∷ d ∷ e ∷ []) eight = absurd (omega (arith, eight))
free-is words (a ∷ b ∷ c ∷ d ∷ e ∷ f ∷ []) eight = absurd (omega (arith, eight))
free-is words (a ∷ b ∷ c ∷ d ∷ e ∷ f ∷ g ∷ []) eight = absurd (omega (arith, eight))
free-is words (a ∷ b ∷ c ∷ d ∷ e ∷ f ∷ g ∷ h ∷ []) eight = omega arith
free-is words (a ∷ b ∷ c ∷ d ∷ e ∷ f ∷ g ∷ h ∷ i ∷ is) eight = absurd (omega (arith, eight))

-- empty lists have no words
pub free-none : (words : List ℕ) → free_words words (replicate 8 0) ≡ 0
unfolding free_words
free-none words = refl

is-zero : 0 < 8
is-zero = omega arith

is-one : 1 < 8
is-one = omega arith

is-two : 2 < 8
is-two = omega arith

is-three : 3 < 8
is-three = omega arith

is-four : 4 < 8
is-four = omega arith

is-five : 5 < 8
is-five = omega arith

is-six : 6 < 8
is-six = omega arith

is-seven : 7 < 8
is-seven = omega arith

module _ (marks words heads : List ℕ) (laid : IsLaidOut marks words heads) where
  abbrev mark : ℕ → ℕ
  mark q = get_or marks q 0

  -- the free blocks of a class
  abbrev of_class : (k : ℕ) → k < 8 → List ℕ
  of_class k l = (laid.free k l).0

  counted : (k : ℕ) (l : k < 8) (b : ℕ) → below (suc b) (of_class k l) ≡ below b (of_class k l) + one (mark b == k + 9)
  counted k l b = by_eq (mark b) (k + 9)
      (λ e. let f = laid.free k l in
      let r = below-here marks words k b 0 (get_or heads k 0) (of_class k l) f.1 (f.2 b e) in
      let t : (mark b == k + 9) ≡ true = grind (arith, nat_tests, e) in let o = ap one t in omega (arith, r, o))
      (λ d. let f = laid.free k l in
      let r = below-other b (of_class k l) (λ j. d (chain-marked marks words k 0 (get_or heads k 0) (of_class k l) f.1 b j).1) in
      let o = ap one (differ (mark b) (k + 9) d) in omega (arith, r, o))

  at-most-one : (t : Bool) → one t ≤ 1
  at-most-one true = omega arith
  at-most-one false = omega arith

  below-most : (k : ℕ) (l : k < 8) (b : ℕ) → below b (of_class k l) ≤ b
  below-most k l zero = let z = below-none (of_class k l) in omega (arith, z)
  below-most k l (suc b) = let i = below-most k l b in let s = counted k l b in let o = at-most-one (mark b == k + 9) in omega (arith, i, s, o)

  -- the list of a class, from its head on, has all of them
  all-of : (k : ℕ) (l : k < 8) → long words (get_or heads k 0) ≡ below (length marks) (of_class k l)
  all-of k l =
      let f = laid.free k l in
      let a = below-all (length marks) (of_class k l) (λ q j. (chain-marked marks words k 0 (get_or heads k 0) (of_class k l) f.1 q j).0) in
      let m = below-most k l (length marks) in let s = laid.sized in
      ap length (chain-followed marks words k 0 (get_or heads k 0) (of_class k l) (length words) f.1 (omega (arith, a, m, s))) ∙ sym a

  -- the words of the free blocks of all classes that begin at the first b marks
  abbrev in_lists : ℕ → ℕ
  in_lists b =
      4 * below b (of_class 0 is-zero) + 8 * below b (of_class 1 is-one) + 16 * below b (of_class 2 is-two) + 32 * below b (of_class 3 is-three)
      + 64 * below b (of_class 4 is-four) + 128 * below b (of_class 5 is-five) + 256 * below b (of_class 6 is-six) + 512 * below b (of_class 7 is-seven)

  lists-freed : (b : ℕ) → in_lists b ≡ freed marks b
  lists-freed zero =
      let s0 = below-none (of_class 0 is-zero) in let s1 = below-none (of_class 1 is-one) in let s2 = below-none (of_class 2 is-two) in
      let s3 = below-none (of_class 3 is-three) in let s4 = below-none (of_class 4 is-four) in let s5 = below-none (of_class 5 is-five) in
      let s6 = below-none (of_class 6 is-six) in let s7 = below-none (of_class 7 is-seven) in
      omega (arith, s0, s1, s2, s3, s4, s5, s6, s7)
  lists-freed (suc b) =
      let i = lists-freed b in let w = weight-is (mark b) in
      let s0 = counted 0 is-zero b in let s1 = counted 1 is-one b in let s2 = counted 2 is-two b in let s3 = counted 3 is-three b in
      let s4 = counted 4 is-four b in let s5 = counted 5 is-five b in let s6 = counted 6 is-six b in let s7 = counted 7 is-seven b in
      omega (arith, i, w, s0, s1, s2, s3, s4, s5, s6, s7)

  module _ (eight : length heads ≡ 8) where
    -- the words of the free blocks are those that the marks say
    pub free-marked : free_words words heads ≡ freed marks (length marks)
    free-marked =
        let e = free-is words heads eight in let i = lists-freed (length marks) in
        let s0 = all-of 0 is-zero in let s1 = all-of 1 is-one in let s2 = all-of 2 is-two in let s3 = all-of 3 is-three in
        let s4 = all-of 4 is-four in let s5 = all-of 5 is-five in let s6 = all-of 6 is-six in let s7 = all-of 7 is-seven in
        omega (arith, e, i, s0, s1, s2, s3, s4, s5, s6, s7)

    -- a head leads to a block
    some-of : (k : ℕ) → k < 8 → 0 < get_or heads k 0 → 1 ≤ long words (get_or heads k 0)
    some-of k l some =
        let f = laid.free k l in let m = below-most k l (length marks) in let s = laid.sized in
        let a = below-all (length marks) (of_class k l) (λ q j. (chain-marked marks words k 0 (get_or heads k 0) (of_class k l) f.1 q j).0) in
        let e = ap length (chain-followed marks words k 0 (get_or heads k 0) (of_class k l) (length words) f.1 (omega (arith, a, m, s))) in
        let n = begun (of_class k l) f.1 in omega (arith, e, n)
      where
        begun : (ps : List ℕ) → IsChain marks words k 0 (get_or heads k 0) ps → 1 ≤ length ps
        begun [] c = absurd (omega (arith, c, some))
        begun (p ∷ ps) c = omega arith

    one-of : (n : ℕ → ℕ) (k : ℕ) → k < 8 → 1 ≤ n k → size_of k ≤ in_eight n
    unfolding span
    one-of n k l = by_class (λ k. 1 ≤ n k → size_of k ≤ in_eight n) (λ o. omega (arith, o)) (λ o. omega (arith, o)) (λ o. omega (arith, o)) (λ o. omega (arith, o))
        (λ o. omega (arith, o)) (λ o. omega (arith, o)) (λ o. omega (arith, o)) (λ o. omega (arith, o)) k l

    -- what is ready is free
    pub ready-free : greatest heads ≤ free_words words heads
    ready-free = by_lt 0 (greatest heads)
        (λ some.
        let g = greatest-class heads eight some in let is = g.1.1.1 in let e = free-is words heads eight in
        let o = one-of (λ k. long words (get_or heads k 0)) g.0 g.1.0 (some-of g.0 g.1.0 g.1.1.0) in omega (arith, is, e, o))
        (λ none. omega (arith, none))

  -- ---- the words of the blocks at the first b marks, live and free
  abbrev so_far : ℕ → ℕ
  so_far b = total_words (first marks words b) + freed marks b

  one-more : (b : ℕ) → total_words (first marks words (suc b)) ≡ total_words (first marks words (b + 1))
  one-more b = ap (λ i. total_words (first marks words i)) (sym (add-one b))

  -- where no block begins they stay
  no-more : (b : ℕ) → mark b ≡ 0 → so_far (suc b) ≡ so_far b
  no-more b z =
      let o = one-more b in let t = total-dead marks words b (subst (λ m. marks_live m ≡ false) (sym z) refl) in
      let w = weight-live (mark b) (omega (arith, z)) in omega (arith, o, t, w)

  -- a block brings its words
  brings : (b : ℕ) → mark b ≢ 0 → so_far (suc b) ≡ so_far b + span (mark b) * 4
  brings b some = elim (marks_live (mark b)) as (λ v. marks_live (mark b) ≡ v → so_far (suc b) ≡ so_far b + span (mark b) * 4) [
    | true ↦ λ e.
        let o = one-more b in let t = total-live marks words b e in let p = part-long marks words heads laid b some in
        let w = weight-live (mark b) (live-below (mark b) e) in omega (arith, o, t, p, w)
    | false ↦ λ e.
        let o = one-more b in let t = total-dead marks words b e in let f = free-class (mark b) some (laid.known b) e in
        let w = ap weight f.2 ∙ weight-free f.0 f.1 in let s = ap span f.2 ∙ span-freed f.0 f.1 in omega (arith, o, t, w, s)
  ] refl

  rests : (d b : ℕ) → ((q : ℕ) → b ≤ q → q < b + d → mark q ≡ 0) → so_far (b + d) ≡ so_far b
  rests zero b none = let e : b + 0 ≡ b = omega arith in ap (λ i. so_far i) e
  rests (suc d) b none =
      let i = rests d b (λ q l m. none q l (omega (arith, m))) in let s = no-more (b + d) (none (b + d) (omega arith) (omega arith)) in
      let e : b + suc d ≡ suc (b + d) = omega arith in ap (λ i. so_far i) e ∙ s ∙ i

  to-next : (b : ℕ) → mark b ≢ 0 → so_far (b + span (mark b)) ≡ so_far b + span (mark b) * 4
  to-next b some =
      let p = span-pos (mark b) in
      let e : b + span (mark b) ≡ suc b + (span (mark b) - 1) = omega (arith, p) in
      ap (λ i. so_far i) e ∙ rests (span (mark b) - 1) (suc b) (λ q l m. laid.apart b q some (omega (arith, l)) (omega (arith, m, p))) ∙ brings b some

  -- from block to block
  goes : (d b : ℕ) → length marks ≤ b + d → b ≤ length marks → (b < length marks → mark b ≢ 0) → so_far b ≡ b * 4 → so_far (length marks) ≡ length marks * 4
  goes zero b most le begins have = subst (λ i. so_far i ≡ i * 4) (omega (arith, most, le)) have
  goes (suc d) b most le begins have = by_lt b (length marks)
      (λ o.
      let some = begins o in let s = to-next b some in let p = span-pos (mark b) in
      goes d (b + span (mark b)) (omega (arith, most, p)) (laid.inside b some) (λ q. next-begins marks words heads laid b some q) (omega (arith, s, have)))
      (λ o. subst (λ i. so_far i ≡ i * 4) (omega (arith, o, le)) have)

  none-yet : so_far 0 ≡ 0
  none-yet = let e : total_words (first marks words 0) ≡ 0 = ap total_words (blocks-none (take 0 marks) words refl) ∙ total-none in omega (arith, e)

  pub all-words : total_words (blocks_of marks words) + freed marks (length marks) ≡ length marks * 4
  all-words =
      let z = none-yet in
      let g = goes (length marks) 0 (omega arith) (omega arith)
      (λ o. let c = laid.covered 0 o in let le = c.2 in subst (λ i. mark i ≢ 0) (omega (arith, le)) c.1) (omega (arith, z)) in
      let e = ap (λ ms. total_words (blocks_of ms words)) (take_all (length marks) marks (omega arith)) in omega (arith, g, e)

-- live and free words are all words
pub whole : (marks words heads : List ℕ) → IsSound marks words heads → total_words (blocks_of marks words) + free_words words heads ≡ length marks * 4
whole marks words heads sound =
    let a = all-words marks words heads sound.0 in let f = free-marked marks words heads sound.0 sound.1 in omega (arith, a, f)

-- the free words are those that the marks say, and so they stay where the marks do
pub same-free : (marks words words' heads : List ℕ) → IsSound marks words heads → IsSound marks words' heads → free_words words' heads ≡ free_words words heads
same-free marks words words' heads before after =
    free-marked marks words' heads after.0 after.1 ∙ sym (free-marked marks words heads before.0 before.1)
