-- The last absent word of a branch: in the child of its byte, or before all the child's words.
use Rattle.std.proofs.Common.{◌≡◌, ◌≢◌, ℕ, ◌+◌, ◌-◌, ◌*◌, ◌/◌, ◌%◌, ◌<◌, ◌≤◌, ◌^◌, Bool, true, false, length, Option, Some}
use Rattle.std.proofs.Common.{None, is_some, ap, sym, ◌∙◌, refl, subst, arith}
use Rattle.std.specs.Prelude.{nat_le, IfSome, IfNone}
use Rattle.std.proofs.lemmas.Bool.Decides.{nat_tests}
use Rattle.std.proofs.Math.Nat.{div-mul-le_self, div-lt_iff_lt-mul}
use Rattle.std.proofs.lemmas.Nat.{pow_pos}
use Rattle.judy_arena.specs.Blocks.{Blocks}
use Rattle.judy_model.specs.Contents.{Entries, IsRising, word_order, has_key, value_of}
use Rattle.judy_model.specs.Gaps.{last_empty}
use Rattle.judy_model.proofs.lemmas.GapLemmas.{Rising, rising_of}
use Rattle.judy_tree.specs.Each.{Each}
use Rattle.judy_branch.specs.Branch.{branch_view}
use Rattle.judy_tree.specs.Nodes.{head_at, is_branch, IsKid, depth}
use Rattle.judy_tree.specs.Root.{IsRoot, entries}
use Rattle.judy_query.proofs.BranchGaps.{present-head, at-least, head-step}
use Rattle.judy_tree.proofs.lemmas.Finds.{find-in, find-none, kid-at}
use Rattle.judy_query.proofs.Falls.{Fall, down_of, answer-fall, fall-answer}
use Rattle.judy_query.proofs.Gaps.{full}
use Rattle.judy_tree.proofs.lemmas.Joins.{kid, each-weaker}
use Rattle.judy_tree.proofs.lemmas.Trees.{root-words}

-- a child that has as many keys as words begin as its do has them all
full-fall : (lv x n : ℕ) (l : Entries ℕ) → Rising l → head_at lv x ≡ n → Each (λ e. head_at lv e.0 ≡ n) l → length l ≡ 2 ^
    (56 - 8 * lv) → Fall l x (x / 2 ^ (56 - 8 * lv) * 2 ^ (56 - 8 * lv))
unfolding head_at
full-fall lv x n l r at heads size =
    let u : ℕ = 2 ^ (56 - 8 * lv) in
    let over : x < (x / u + 1) * u = (div-lt_iff_lt-mul (pow_pos (56 - 8 * lv))).0 (omega arith) in
    let under : x / u * u ≤ x = div-mul-le_self x u in
    let step : (x / u + 1) * u ≡ x / u * u + u = more (x / u) u in
    record {
      upto = omega arith;
      run = λ y h k. full l (x / u * u) ((x / u + 1) * u) y r
          (at-least (x / u * u) l (each-weaker (λ e. head_at lv e.0 ≡ n) (λ e. x / u * u ≤ e.0) l
          (λ e i. let s : x / u ≡ e.0 / u = at ∙ sym i in let m = div-mul-le_self e.0 u in
          let z : x / u * u ≡ e.0 / u * u = ap (λ k. k * u) s in omega arith) heads))
          (each-weaker (λ e. head_at lv e.0 ≡ n) (λ e. e.0 < (x / u + 1) * u) l
          (λ e i. (div-lt_iff_lt-mul (pow_pos (56 - 8 * lv))).0 (let s : x / u ≡ e.0 / u = at ∙ sym i in omega arith)) heads)
          (omega arith) h (omega arith);
      absent = λ e i. elim (has_key word_order l e) as (λ t. has_key word_order l e ≡ t → t ≡ false) [
        | true ↦ λ t. absurd (let s : x / u ≡ e / u = at ∙ sym (present-head (head_at lv) n l e heads t) in
            let m = div-mul-le_self e u in let z : x / u * u ≡ e / u * u = ap (λ k. k * u) s in omega arith)
        | false ↦ λ t. refl
      ] refl;
    }
  where
    more : (a u : ℕ) → (a + 1) * u ≡ a * u + u
    more a u = grind arith

-- a word without its rest
without-rest : (x u : ℕ) → 0 < u → x - x % u ≡ x / u * u
without-rest x u h = let e : x ≡ x / u * u + x % u = parts x u h in omega arith
  where
    parts : (x u : ℕ) → 0 < u → x ≡ x / u * u + x % u
    parts x u h = grind arith

module _ (v : Bool) (b : Blocks) (w : ℕ) (is : is_branch w ≡ true) (root : IsRoot v b w) (x : ℕ) where
  rises : IsRising word_order (entries v b w)
  rises = (root-words v b w root).0

  at-once : has_key word_order (entries v b w) x ≡ false → Some x ≡ last_empty (entries v b w) x
  at-once h = fall-answer (entries v b w) x (Some x) rises
      (record {
        upto = omega arith;
        run = λ y i j. absurd (omega arith);
        absent = λ e i. subst
            (λ z. has_key word_order (entries v b w) z ≡ false) (let s : x ≡ e = omega arith in s) h;
      })

  -- a word that does not begin as the branch's keys do, and one that begins as none of a child
  pub fall-outside : ((z : ℕ) → z < 256 → head_at (branch_view b w).level x ≢ head_at (branch_view b w).level
      (branch_view b w).prefix + z) → Some x ≡ last_empty (entries v b w) x
  fall-outside out = at-once (ap is_some (find-none v b w x is root out))

  module _ (byte : ℕ) (at : head_at (branch_view b w).level x ≡ head_at (branch_view b w).level (branch_view b w).prefix + byte) where
    pub fall-between : value_of word_order (branch_view b w).children byte ≡ None → Some x ≡ last_empty (entries v b w) x
    fall-between n = at-once (ap is_some (find-in v b w x is root byte at ∙ ap (λ o. value_of word_order (kid (entries v b) o) x) n))

    module _ (c : ℕ) (there : value_of word_order (branch_view b w).children byte ≡ Some c) where
      below : IsKid (branch_view b w).level (head_at (branch_view b w).level (branch_view b w).prefix + byte) (IsRoot v b) (entries v b) (depth b) c
      below = kid-at v b w x is root byte c there

      pub kid-answer : (o : Option ℕ) → o ≡ last_empty (entries v b c) x → Fall (entries v b c) x (down_of o)
      kid-answer o h = answer-fall (entries v b c) x o (root-words v b c below.sound).0 h

      pub kid-full : (o : Option ℕ) (size : ℕ) → size ≡ 2 ^ (56 - 8 * (branch_view b w).level) → length (entries v b c) ≡ size
          → IfSome o (λ e. e + 1 ≡ x - x % size) → IfNone o (x - x % size ≡ 0) → Fall (entries v b c) x (down_of o)
      kid-full o size is_size all some none =
          let g = full-fall (branch_view b w).level x (head_at (branch_view b w).level (branch_view b w).prefix + byte)
          (entries v b c) (rising_of (entries v b c) (root-words v b c below.sound).0) at below.heads (all ∙ is_size) in
          let e : x - x % size ≡ x / 2 ^ (56 - 8 * (branch_view b w).level) * 2 ^ (56 - 8 * (branch_view b w).level) =
          ap (λ z. x - x % z) is_size ∙ without-rest x (2 ^ (56 - 8 * (branch_view b w).level))
          (pow_pos (56 - 8 * (branch_view b w).level)) in
          subst (Fall (entries v b c) x) (sym e ∙ by o (x - x % size) some none) g
        where
          by : (o : Option ℕ) (n : ℕ) → IfSome o (λ e. e + 1 ≡ n) → IfNone o (n ≡ 0) → n ≡ down_of o
          by None n some none = none
          by (Some d) n some none = sym some

      module _ (o : Option ℕ) (known : Fall (entries v b c) x (down_of o)) where
        -- the words down to the child's gap are present
        run : (y : ℕ) → down_of o ≤ y → y ≤ x → has_key word_order (entries v b w) y ≡ true
        run y h k =
            let p = known.run y h k in
            let e = present-head (head_at (branch_view b w).level) (head_at (branch_view b w).level (branch_view b w).prefix
            + byte) (entries v b c) y below.heads p in
            ap is_some (find-in v b w y is root byte e ∙ ap (λ o. value_of word_order (kid (entries v b) o) y) there) ∙ p

        pub fall-top : o ≡ None → None ≡ last_empty (entries v b w) x
        fall-top n =
            let top : down_of o ≡ 0 = ap down_of n in
            fall-answer (entries v b w) x None rises (record { upto = omega arith; run = λ y h k. run y (omega arith) k; absent = λ e i. absurd (omega arith) })

        module _ (g : ℕ) (is_g : o ≡ Some g) where
          here : down_of o ≡ g + 1
          here = ap down_of is_g

          pub fall-inside : head_at (branch_view b w).level g ≡ head_at (branch_view b w).level x → Some g ≡ last_empty (entries v b w) x
          fall-inside same =
              let e = here in
              fall-answer (entries v b w) x (Some g) rises
              (record {
                upto = let f = known.upto in omega arith;
                run = λ y h k. run y (omega arith) k;
                absent = λ d i. subst (λ z. has_key word_order (entries v b w) z ≡ false) (let s : g ≡ d = omega arith in s)
                    (ap is_some (find-in v b w g is root byte (same ∙ at) ∙ ap (λ o. value_of word_order (kid (entries v b) o) g) there) ∙ known.absent g e);
              })

          pub fall-later : (g ≡ x → ⊥) → g < x
          fall-later n = let e = here in let f = known.upto in strict g x (omega arith) n
            where
              strict : (a m : ℕ) → a ≤ m → a ≢ m → a < m
              strict a m i n = grind arith

          -- it begins as the words of the child before
          pub fall-head : (head_at (branch_view b w).level g ≡ head_at (branch_view b w).level x → ⊥)
              → head_at (branch_view b w).level g + 1 ≡ head_at (branch_view b w).level x
          fall-head n =
              let e = here in
              let under : g < x = fall-later (λ i. n (ap (head_at (branch_view b w).level) i)) in
              let p : has_key word_order (entries v b c) (g + 1) ≡ true = known.run (g + 1) (omega arith) (omega arith) in
              let same : head_at (branch_view b w).level (g + 1) ≡ head_at (branch_view b w).level x =
              present-head (head_at (branch_view b w).level) (head_at (branch_view b w).level (branch_view b w).prefix + byte)
              (entries v b c) (g + 1) below.heads p ∙ sym at in
              sym (head-step (branch_view b w).level g (λ i. n (sym i ∙ same))) ∙ same

          -- the branch's gap from there down is its gap from x down
          pub fall-after : (r : Option ℕ) → r ≡ last_empty (entries v b w) g → r ≡ last_empty (entries v b w) x
          fall-after r h =
              let e = here in
              let f = known.upto in
              let next = answer-fall (entries v b w) g r rises h in
              fall-answer (entries v b w) x r rises
              (record {
                upto = let n = next.upto in omega arith;
                run = λ y i k. elim (nat_le y g) as (λ t. nat_le y g ≡ t → has_key word_order (entries v b w) y ≡ true)
                    [ true ↦ λ t. next.run y i (less y g t) | false ↦ λ t. run y (let m = more y g t in omega arith) k ] refl;
                absent = next.absent;
              })
            where
              less : (a b : ℕ) → nat_le a b ≡ true → a ≤ b
              less a b h = grind (arith, nat_tests)

              more : (a b : ℕ) → nat_le a b ≡ false → b < a
              more a b h = grind (arith, nat_tests)
