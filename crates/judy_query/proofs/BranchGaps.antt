-- The first absent word of a branch: in the child of its byte, or after all the child's words.
use Rattle.std.proofs.Common.{◌≡◌, ◌≢◌, ℕ, zero, suc, ◌+◌, ◌-◌, ◌*◌, ◌/◌, ◌%◌, ◌<◌, ◌≤◌, ◌^◌, Bool, true, false, cond, List}
use Rattle.std.proofs.Common.{[], ◌∷◌, length, Option, Some, None, is_some, ap, sym, ◌∙◌, refl, subst, arith, inl, inr}
use Rattle.std.specs.Prelude.{nat_lt, IfSome, IfNone}
use Rattle.std.specs.Ordering.{eq_by_cmp}
use Rattle.std.proofs.lemmas.Bool.Decides.{nat_tests}
use Rattle.std.proofs.Math.Nat.{div-mul-le_self, div-lt_iff_lt-mul, mul-le-mul_right, mul-div_cancel}
use Rattle.std.proofs.lemmas.Nat.{pow-add, pow_pos}
use Rattle.std.proofs.lemmas.Bool.{false≢true as not_true}
use Rattle.judy_arena.specs.Blocks.{Blocks}
use Rattle.judy_model.specs.Contents.{Entries, word_order, max_word, has_key, value_of}
use Rattle.judy_model.specs.Gaps.{first_empty}
use Rattle.judy_model.proofs.lemmas.GapLemmas.{AtLeast, Rising, rising_of}
use Rattle.judy_model.proofs.lemmas.EntryLemmas.{same_word}
use Rattle.judy_tree.specs.Each.{Each}
use Rattle.judy_branch.specs.Branch.{branch_view}
use Rattle.judy_branch.specs.Rows.{IsChildRow}
use Rattle.std.proofs.lemmas.Bool.{cases_lt}
use Rattle.judy_tree.specs.Nodes.{head_at, is_branch, IsKid, depth}
use Rattle.judy_tree.specs.Root.{IsRoot, entries}
use Rattle.judy_tree.proofs.lemmas.Finds.{find-in, find-none, kid-at, low-branch}
use Rattle.judy_query.proofs.Gaps.{Gap, gap_of, answer-gap, answer-word, gap-answer, past-words, words-most, full}
use Rattle.judy_tree.proofs.lemmas.Joins.{kid, each-weaker}
use Rattle.judy_tree.proofs.lemmas.Trees.{root-words}

-- a key that is present has the head that all have
pub present-head : (h : ℕ → ℕ) (n : ℕ) (l : Entries ℕ) (y : ℕ) → Each (λ e. h e.0 ≡ n) l → has_key word_order l y ≡ true → h y ≡ n
present-head h n [] y a p = absurd (not_true p)
present-head h n (e ∷ l) y a p =
    elim (eq_by_cmp word_order y e.0) as (λ t. eq_by_cmp word_order y e.0 ≡ t → is_some (cond t (Some e.1) (value_of word_order l y)) ≡ true → h y ≡ n) [
      | true ↦ λ t i. ap h (same_word y e.0 t) ∙ a.0
      | false ↦ λ t i. present-head h n l y a.1 i
    ] refl p

pub at-least : (n : ℕ) (l : Entries ℕ) → Each (λ e. n ≤ e.0) l → AtLeast n l
at-least n [] h = tt
at-least n (e ∷ l) h = (h.0, at-least n l h.1)

-- a child that has as many keys as words begin as its do has them all
pub full-gap : (lv x n : ℕ) (l : Entries ℕ) → Rising l → head_at lv x ≡ n → Each (λ e. head_at lv e.0 ≡ n) l → length l ≡ 2 ^
    (56 - 8 * lv) → Gap l x ((head_at lv x + 1) * 2 ^ (56 - 8 * lv))
unfolding head_at
full-gap lv x n l r at heads size =
    let u : ℕ = 2 ^ (56 - 8 * lv) in
    let over : x < (x / u + 1) * u = (div-lt_iff_lt-mul (pow_pos (56 - 8 * lv))).0 (omega arith) in
    let under : x / u * u ≤ x = div-mul-le_self x u in
    let step : (x / u + 1) * u ≡ x / u * u + u = more (x / u) u in
    record {
      from = omega arith;
      absent = elim (has_key word_order l ((x / u + 1) * u)) as (λ t. has_key word_order l ((x / u + 1) * u) ≡ t → t ≡ false) [
        | true ↦ λ t. absurd (let p = present-head (head_at lv) n l ((x / u + 1) * u) heads t in
            let q : (x / u + 1) * u / u ≡ x / u + 1 = mul-div_cancel (x / u + 1) (pow_pos (56 - 8 * lv)) in omega arith)
        | false ↦ λ t. refl
      ] refl;
      run = λ y h k. full l (x / u * u) ((x / u + 1) * u) y r
          (at-least (x / u * u) l (each-weaker (λ e. head_at lv e.0 ≡ n) (λ e. x / u * u ≤ e.0) l
          (λ e i. let s : x / u ≡ e.0 / u = at ∙ sym i in let m = div-mul-le_self e.0 u in
          let z : x / u * u ≡ e.0 / u * u = ap (λ k. k * u) s in omega arith) heads))
          (each-weaker (λ e. head_at lv e.0 ≡ n) (λ e. e.0 < (x / u + 1) * u) l
          (λ e i. (div-lt_iff_lt-mul (pow_pos (56 - 8 * lv))).0 (let s : x / u ≡ e.0 / u = at ∙ sym i in omega arith)) heads)
          (omega arith) (omega arith) k;
    }
  where
    more : (a u : ℕ) → (a + 1) * u ≡ a * u + u
    more a u = grind arith

-- the word after them begins otherwise
pub past-head : (lv x e : ℕ) → e ≡ (head_at lv x + 1) * 2 ^ (56 - 8 * lv) → head_at lv e ≡ head_at lv x → ⊥
unfolding head_at
past-head lv x e is same =
    let u : ℕ = 2 ^ (56 - 8 * lv) in
    let q : (x / u + 1) * u / u ≡ x / u + 1 = mul-div_cancel (x / u + 1) (pow_pos (56 - 8 * lv)) in
    let r : e / u ≡ (x / u + 1) * u / u = ap (λ n. n / u) is in
    omega arith

-- the words that begin as a word does end at most at the greatest
range-top : (lv x : ℕ) → lv ≤ 6 → x < 18446744073709551616 → (head_at lv x + 1) * 2 ^ (56 - 8 * lv) ≤ 18446744073709551616
unfolding head_at
range-top lv x h s =
    let u : ℕ = 2 ^ (56 - 8 * lv) in
    let v : ℕ = 2 ^ (8 + 8 * lv) in
    let e : (8 + 8 * lv) + (56 - 8 * lv) ≡ 64 = omega arith in
    let m : v * u ≡ 18446744073709551616 = sym (pow-add 2 (8 + 8 * lv) (56 - 8 * lv)) ∙ ap (λ n. 2 ^ n) e in
    let less : x / u < v = (div-lt_iff_lt-mul (pow_pos (56 - 8 * lv))).1 (omega arith) in
    let up : (x / u + 1) * u ≤ v * u = mul-le-mul_right u (omega arith) in
    omega arith

-- the next word begins as a word does, or one above
pub head-step : (lv y : ℕ) → (head_at lv (y + 1) ≡ head_at lv y → ⊥) → head_at lv (y + 1) ≡ head_at lv y + 1
unfolding head_at
head-step lv y n =
    let u : ℕ = 2 ^ (56 - 8 * lv) in
    let some : 0 < u = pow_pos (56 - 8 * lv) in
    let over : y < (y / u + 1) * u = (div-lt_iff_lt-mul (pow_pos (56 - 8 * lv))).0 (omega arith) in
    let under : y / u * u ≤ y = div-mul-le_self y u in
    let two : (y / u + 2) * u ≡ (y / u + 1) * u + u = more (y / u) u in
    let high : (y + 1) / u < y / u + 2 = (div-lt_iff_lt-mul (pow_pos (56 - 8 * lv))).1 (omega arith) in
    let low : (y + 1) / u < y / u → ⊥ = λ i. let k : y + 1 < y / u * u = (div-lt_iff_lt-mul (pow_pos (56 - 8 * lv))).0 i in omega arith in
    between ((y + 1) / u) (y / u) high low n
  where
    more : (a u : ℕ) → (a + 2) * u ≡ (a + 1) * u + u
    more a u = grind arith

    between : (a b : ℕ) → a < b + 2 → (a < b → ⊥) → (a ≡ b → ⊥) → a ≡ b + 1
    between a b h l n = grind arith

-- the number of words below one byte, as the code computes it
pub shifted : (l : ℕ) → l ≤ 6 → (1 * 2 ^ (56 - 8 * l)) % 18446744073709551616 ≡ 2 ^ (56 - 8 * l)
shifted zero h = refl
shifted (suc zero) h = refl
shifted (suc (suc zero)) h = refl
shifted (suc (suc (suc zero))) h = refl
shifted (suc (suc (suc (suc zero)))) h = refl
shifted (suc (suc (suc (suc (suc zero))))) h = refl
shifted (suc (suc (suc (suc (suc (suc zero)))))) h = refl
shifted (suc (suc (suc (suc (suc (suc (suc l))))))) h = absurd (omega arith)

module _ (v : Bool) (b : Blocks) (w : ℕ) (is : is_branch w ≡ true) (root : IsRoot v b w) (x : ℕ) (small : x ≤ max_word) where
  rises : Rising (entries v b w)
  rises = rising_of (entries v b w) (root-words v b w root).0

  word : (n : ℕ) → n ≤ max_word → (e : ℕ) → Some n ≡ Some e → e ≤ max_word
  word n h e i = subst (λ z. z ≤ max_word) (same n e i) h
    where
      same : (n e : ℕ) → Some n ≡ Some e → n ≡ e
      same n e i = cc

  at-once : has_key word_order (entries v b w) x ≡ false → Some x ≡ first_empty (entries v b w) x
  at-once h = gap-answer (entries v b w) x (Some x) rises (word x small) (record { from = omega arith; absent = h; run = λ y i j. absurd (omega arith) })

  -- a word that does not begin as the branch's keys do, and one that begins as none of a child
  pub gap-outside : ((z : ℕ) → z < 256 → head_at (branch_view b w).level x ≢ head_at (branch_view b w).level
      (branch_view b w).prefix + z) → Some x ≡ first_empty (entries v b w) x
  gap-outside out = at-once (ap is_some (find-none v b w x is root out))

  -- a word that begins as the byte after a row
  pub gap-end : (k : ℕ) (ws : List ℕ) → IsChildRow (branch_view b w).children k ws → head_at (branch_view b w).level x ≡ head_at
      (branch_view b w).level (branch_view b w).prefix + (k + length ws) → Some x ≡ first_empty (entries v b w) x
  gap-end k ws row at = elim (cases_lt (k + length ws) 256) [
    | inl lt ↦ at-once (ap is_some (find-in v b w x is root (k + length ws) at ∙ ap (λ o. value_of word_order (kid (entries v b) o) x) (row.after lt)))
    | inr ge ↦ gap-outside (λ z s e. absurd (omega arith))
  ]

  module _ (byte : ℕ) (at : head_at (branch_view b w).level x ≡ head_at (branch_view b w).level (branch_view b w).prefix + byte) where
    pub gap-between : value_of word_order (branch_view b w).children byte ≡ None → Some x ≡ first_empty (entries v b w) x
    gap-between n = at-once (ap is_some (find-in v b w x is root byte at ∙ ap (λ o. value_of word_order (kid (entries v b) o) x) n))

    module _ (c : ℕ) (there : value_of word_order (branch_view b w).children byte ≡ Some c) where
      -- what is known of the first absent word of the child
      pub record KidGap (o : Option ℕ) : Type 0 where
        pub gap : Gap (entries v b c) x (gap_of o)
        pub word : (e : ℕ) → o ≡ Some e → e ≤ max_word

      below : IsKid (branch_view b w).level (head_at (branch_view b w).level (branch_view b w).prefix + byte) (IsRoot v b) (entries v b) (depth b) c
      below = kid-at v b w x is root byte c there

      pub kid-answer : (o : Option ℕ) → o ≡ first_empty (entries v b c) x → KidGap o
      kid-answer o h = record {
        gap = answer-gap (entries v b c) x o (root-words v b c below.sound) small h;
        word = λ e i.
            answer-word (entries v b c) x e (sym h ∙ i);
      }

      pub kid-full : (o : Option ℕ) (lv : ℕ) → lv ≡ (branch_view b w).level → length (entries v b c) ≡ (1 * 2 ^ (56 - 8 * lv)) % 18446744073709551616
          → IfSome o (λ e. e ≡ (head_at lv x + 1) * 2 ^ (56 - 8 * lv)) → IfSome o (λ e. e < 2 ^ 64)
          → IfNone o (2 ^ 64 ≤ (head_at lv x + 1) * 2 ^ (56 - 8 * lv)) → KidGap o
      kid-full o lv is_level size some fits none =
          let low = low-branch v b w x is root in
          let g = full-gap (branch_view b w).level x (head_at (branch_view b w).level (branch_view b w).prefix + byte)
          (entries v b c) (rising_of (entries v b c) (root-words v b c below.sound).0) at below.heads
          (size ∙ ap (λ z. (1 * 2 ^ (56 - 8 * z)) % 18446744073709551616) is_level ∙ shifted (branch_view b w).level low) in
          let t = range-top (branch_view b w).level x low (omega arith) in
          let n : (head_at (branch_view b w).level x + 1) * 2 ^ (56 - 8 * (branch_view b w).level) ≡ (head_at lv x + 1) * 2 ^
          (56 - 8 * lv) = ap (λ z. (head_at z x + 1) * 2 ^ (56 - 8 * z)) (sym is_level) in
          by o ((head_at lv x + 1) * 2 ^ (56 - 8 * lv)) (subst (Gap (entries v b c) x) n g) (subst (λ z. z ≤ 18446744073709551616) n t) some fits none
        where
          by : (o : Option ℕ) (n : ℕ) → Gap (entries v b c) x n → n ≤ 18446744073709551616 → IfSome o (λ e. e ≡ n)
              → IfSome o (λ e. e < 2 ^ 64) → IfNone o (2 ^ 64 ≤ n) → KidGap o
          by None n g t some fits none = record { gap = subst (Gap (entries v b c) x) (omega arith) g; word = λ e i. absurd (nothing e i) }
            where
              nothing : (e : ℕ) → None ≡ Some e → ⊥
              nothing e i = not_true (ap is_some i)
          by (Some d) n g t some fits none = record { gap = subst (Gap (entries v b c) x) (sym some) g; word = word d (omega arith) }

      module _ (o : Option ℕ) (known : KidGap o) where
        -- the words up to the child's gap are present
        run : (y : ℕ) → x ≤ y → y < gap_of o → has_key word_order (entries v b w) y ≡ true
        run y h k =
            let p = known.gap.run y h k in
            let e = present-head (head_at (branch_view b w).level) (head_at (branch_view b w).level (branch_view b w).prefix
            + byte) (entries v b c) y below.heads p in
            ap is_some (find-in v b w y is root byte e ∙ ap (λ o. value_of word_order (kid (entries v b) o) y) there) ∙ p

        pub gap-top : o ≡ None → None ≡ first_empty (entries v b w) x
        gap-top n =
            let top : gap_of o ≡ 18446744073709551616 = ap gap_of n in
            gap-answer (entries v b w) x None rises (λ e i. absurd (not_true (ap is_some i)))
            (record {
              from = omega arith;
              absent = past-words (entries v b w) 18446744073709551616
                  (words-most (entries v b w) (root-words v b w root)) (omega arith);
              run = λ y h k. run y h (omega arith);
            })

        module _ (g : ℕ) (is_g : o ≡ Some g) where
          here : gap_of o ≡ g
          here = ap gap_of is_g

          pub gap-inside : head_at (branch_view b w).level g ≡ head_at (branch_view b w).level x → Some g ≡ first_empty (entries v b w) x
          gap-inside same =
              let e = here in
              gap-answer (entries v b w) x (Some g) rises (word g (known.word g is_g))
              (record {
                from = let f = known.gap.from in omega arith;
                absent = ap is_some (find-in v b w g is root byte (same ∙ at)
                    ∙ ap (λ o. value_of word_order (kid (entries v b) o) g) there)
                    ∙ subst (λ z. has_key word_order (entries v b c) z ≡ false) e known.gap.absent;
                run = λ y h k. run y h (omega arith);
              })

          pub gap-later : (g ≡ x → ⊥) → x < g
          gap-later n = let e = here in let f = known.gap.from in strict x g (omega arith) (λ i. n (sym i))
            where
              strict : (a m : ℕ) → a ≤ m → a ≢ m → a < m
              strict a m i n = grind arith

          -- it begins as the next child's words
          pub gap-head : (head_at (branch_view b w).level g ≡ head_at (branch_view b w).level x → ⊥)
              → head_at (branch_view b w).level g ≡ head_at (branch_view b w).level x + 1
          gap-head n =
              let e = here in
              let over : x < g = gap-later (λ i. n (ap (head_at (branch_view b w).level) i)) in
              let y : ℕ = g - 1 in
              let last : y + 1 ≡ g = omega arith in
              let p : has_key word_order (entries v b c) y ≡ true = known.gap.run y (omega arith) (omega arith) in
              let same : head_at (branch_view b w).level y ≡ head_at (branch_view b w).level x =
              present-head (head_at (branch_view b w).level) (head_at (branch_view b w).level (branch_view b w).prefix + byte)
              (entries v b c) y below.heads p ∙ sym at in
              ap (head_at (branch_view b w).level) (sym last)
              ∙ head-step (branch_view b w).level y (λ i. n (ap (head_at (branch_view b w).level) (sym last) ∙ i ∙ same)) ∙ ap (λ h. h + 1) same

          -- the branch's gap from there on is its gap from x on
          pub gap-after : (r : Option ℕ) → r ≡ first_empty (entries v b w) g → r ≡ first_empty (entries v b w) x
          gap-after r h =
              let e = here in
              let f = known.gap.from in
              let next = answer-gap (entries v b w) g r (root-words v b w root) (known.word g is_g) h in
              gap-answer (entries v b w) x r rises (λ d i. answer-word (entries v b w) g d (sym h ∙ i))
              (record {
                from = let n = next.from in omega arith;
                absent = next.absent;
                run = λ y i k. elim (nat_lt y g) as (λ t. nat_lt y g ≡ t → has_key word_order (entries v b w) y ≡ true)
                    [ true ↦ λ t. run y i (let l = less y g t in omega arith) | false ↦ λ t. next.run y (more y g t) k ] refl;
              })
            where
              less : (a b : ℕ) → nat_lt a b ≡ true → a < b
              less a b h = grind (arith, nat_tests)

              more : (a b : ℕ) → nat_lt a b ≡ false → b ≤ a
              more a b h = grind (arith, nat_tests)
