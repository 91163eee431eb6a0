-- A live block and its free buddy become one block: the arithmetic of buddies, and what a caller sees.
use Rattle.std.proofs.Common.{◌≡◌, ◌≢◌, ℕ, ◌+◌, ◌-◌, ◌/◌, ◌%◌, ◌^◌, ◌<◌, ◌≤◌, min, max, true, false, cond, ◌==◌, List, length}
use Rattle.std.proofs.Common.{get_or, set, refl, sym, ap, subst, ◌∙◌, arith, length-set, Some, None, ◌⊎◌, inl, inr, Bool}
use Rattle.std.proofs.lemmas.List.{get_or-set_same, get_or-set_other}
use Rattle.judy_arena.specs.Blocks.{block, is_live, put, without, words_of}
use Rattle.judy_arena.specs.Layout.{span, blocks_of, block_at, AreBuddies, IsAlone, IsLaidOut, IsSound}
use Rattle.judy_arena.proofs.lemmas.BlockLaws.{same_blocks, block-put, block-without, none_live, itself, apart}
use Rattle.judy_arena.proofs.Chains.{by_eq}
use Rattle.judy_arena.proofs.Cuts.{by_lower, aligned-half, laid-join, is-joined, length-joined, block_at-join}
use Rattle.judy_arena.proofs.Seen.{block-is}
use Rattle.judy_arena.proofs.Pools.{live-there}

-- ---- which half a block is
abbrev Sides : ℕ → Type 0
Sides k = (n : ℕ) → n % span (k + 1) ≡ 0
    → (n / 2 ^ k % 2 ≡ 0 → n % span (k + 2) ≡ 0) × (n / 2 ^ k % 2 ≢ 0 → ((n - span (k + 1)) % span (k + 2) ≡ 0) × (span (k + 1) ≤ n))

sides : (k : ℕ) → k < 7 → Sides k
unfolding span
sides k l = by_lower Sides
    (λ n a. (λ e. omega (arith, a, e), λ d. (omega (arith, a, d), omega (arith, a, d))))
    (λ n a. (λ e. omega (arith, a, e), λ d. (omega (arith, a, d), omega (arith, a, d))))
    (λ n a. (λ e. omega (arith, a, e), λ d. (omega (arith, a, d), omega (arith, a, d))))
    (λ n a. (λ e. omega (arith, a, e), λ d. (omega (arith, a, d), omega (arith, a, d))))
    (λ n a. (λ e. omega (arith, a, e), λ d. (omega (arith, a, d), omega (arith, a, d))))
    (λ n a. (λ e. omega (arith, a, e), λ d. (omega (arith, a, d), omega (arith, a, d))))
    (λ n a. (λ e. omega (arith, a, e), λ d. (omega (arith, a, d), omega (arith, a, d)))) k l

pub upper-buddy : (k n b : ℕ) → k < 7 → n % span (k + 1) ≡ 0 → n / 2 ^ k % 2 ≡ 0 → b ≡ n + span (k + 1) → AreBuddies k n b
upper-buddy k n b l a e is = inl ((sides k l n a).0 e, is)

pub lower-buddy : (k n b : ℕ) → k < 7 → n % span (k + 1) ≡ 0 → n / 2 ^ k % 2 ≢ 0 → b ≡ n - span (k + 1) → AreBuddies k n b
lower-buddy k n b l a d is = let s = (sides k l n a).1 d in let m = s.1 in
    inr (subst (λ j. j % span (k + 2) ≡ 0) (sym is) s.0, omega (arith, is, m))

abbrev Within : ℕ → Type 0
Within k = (n len : ℕ) → len % 128 ≡ 0 → n < len → n % span (k + 2) ≡ 0 → n + span (k + 1) < len

within : (k : ℕ) → k < 7 → Within k
unfolding span
within k l = by_lower Within (λ n len r o a. omega (arith, r, o, a)) (λ n len r o a. omega (arith, r, o, a)) (λ n len r o a. omega (arith, r, o, a))
    (λ n len r o a. omega (arith, r, o, a)) (λ n len r o a. omega (arith, r, o, a)) (λ n len r o a. omega (arith, r, o, a))
    (λ n len r o a. omega (arith, r, o, a)) k l

-- a buddy has a mark
pub buddy-there : (k n b len : ℕ) → k < 7 → AreBuddies k n b → len % 128 ≡ 0 → n < len → b < len
buddy-there k n b len l (inl h) runs o = let w = within k l n len runs o h.0 in let e = h.1 in omega (arith, w, e)
buddy-there k n b len l (inr h) runs o = let e = h.1 in omega (arith, e, o)

-- a block whose buddy has another mark
pub alone-by : (marks : List ℕ) (k n b : ℕ) → k < 7 → AreBuddies k n b → get_or marks b 0 ≢ k + 9 → IsAlone marks n k
alone-by marks k n b l (inl h) d = record {
  upper = λ _ _ e. d (ap (λ j. get_or marks j 0) h.1 ∙ e);
  lower = λ _ a m e _. (aligned-half k l a m).2 (subst (λ j. j % span (k + 2) ≡ 0) (sym e) h.0);
}
alone-by marks k n b l (inr h) d = record {
  upper = λ _ m _. (aligned-half k l b h.0).2 (subst (λ j. j % span (k + 2) ≡ 0) h.1 m);
  lower = λ _ a m e f. d (ap (λ j. get_or marks j 0) (let g = h.1 in omega (arith, g, e)) ∙ f);
}

-- ---- the block n of class k is live; its buddy b was free and is live too
module _ (marks words words' heads' : List ℕ) (n b k : ℕ) (ws : List ℕ) (class : k < 7)
    (live : get_or marks n 0 ≡ k + 1) (free : get_or marks b 0 ≡ k + 9) (there : b < length marks)
    (laid : IsLaidOut (set marks b (k + 1)) words' heads')
    (view : blocks_of (set marks b (k + 1)) words' ≡ put (blocks_of marks words) b ws)
    (fresh : is_live (blocks_of marks words) b ≡ false) where
  abbrev both : List ℕ
  both = set marks b (k + 1)

  abbrev pub merged : ℕ → ℕ → List ℕ
  merged low high = set (set both low (k + 2)) high 0

  pub record Joined (low high : ℕ) : Type 0 where
    pub layout : IsLaidOut (merged low high) words' heads'
    pub used : get_or (merged low high) low 0 ≡ k + 2
    pub long : length (merged low high) ≡ length marks
    pub blocks : without (blocks_of (merged low high) words') low ≡ without (blocks_of marks words) n

  at_n : get_or both n 0 ≡ k + 1
  at_n = get_or-set_other marks b n (k + 1) 0 (λ e. let f : get_or marks n 0 ≡ k + 9 = ap (λ j. get_or marks j 0) e ∙ free in omega (arith, f, live)) ∙ live

  at_b : get_or both b 0 ≡ k + 1
  at_b = get_or-set_same marks b (k + 1) 0 there

  nothing : (t : Bool) → cond t None (block (blocks_of marks words) b) ≡ None
  nothing true = refl
  nothing false = none_live (block (blocks_of marks words) b) fresh

  -- neither of the two is left
  gone : (q : ℕ) → (q ≡ n) ⊎ (q ≡ b) → block (without (blocks_of marks words) n) q ≡ None
  gone q (inl e) = block-without (blocks_of marks words) n q ∙ ap (λ t. cond t None (block (blocks_of marks words) q)) (ap (λ j. j == n) e ∙ itself n)
  gone q (inr e) = block-without (blocks_of marks words) n q ∙ ap (λ j. cond (j == n) None (block (blocks_of marks words) j)) e ∙ nothing (b == n)

  join : (low high : ℕ) → low % span (k + 2) ≡ 0 → high ≡ low + span (k + 1) → (low ≡ n) ⊎ (low ≡ b) → (high ≡ n) ⊎ (high ≡ b)
      → ((q : ℕ) → q ≢ low → q ≢ high → (q ≢ n) × (q ≢ b)) → Joined low high
  join low high first is in_low in_high others =
      let lower : get_or both low 0 ≡ k + 1 = one low in_low in
      let upper : get_or both (low + span (k + 1)) 0 ≡ k + 1 = ap (λ j. get_or both j 0) (sym is) ∙ one high in_high in
      let F : ℕ → List ℕ = λ j. set (set both low (k + 2)) j 0 in
      record {
        layout = subst (λ j. IsLaidOut (F j) words' heads') (sym is) (laid-join both words' heads' laid low k class first lower upper);
        used = subst (λ j. get_or (F j) low 0 ≡ k + 2) (sym is) (is-joined both words' heads' laid low k class first lower upper);
        long = subst (λ j. length (F j) ≡ length both) (sym is) (length-joined both words' heads' laid low k class first lower upper) ∙ length-set marks b (k + 1);
        blocks = same_blocks _ _ (λ q. block-without (blocks_of (F high) words') low q ∙ by_eq q low
            (λ e. ap (λ t. cond t None (block (blocks_of (F high) words') q)) (ap (λ j. j == low) e ∙ itself low) ∙ sym (gone q (put_in e in_low)))
            (λ d. ap (λ t. cond t None (block (blocks_of (F high) words') q)) (apart q low d) ∙ block-is (F high) words' q
            ∙ subst (λ j. block_at (F j) words' q ≡ cond (q == j) None (block_at both words' q)) (sym is)
            (block_at-join both words' heads' laid low k class first lower upper q d)
            ∙ by_eq q high
            (λ e. ap (λ t. cond t None (block_at both words' q)) (ap (λ j. j == high) e ∙ itself high) ∙ sym (gone q (put_in e in_high)))
            (λ f. let o = others q d f in
            ap (λ t. cond t None (block_at both words' q)) (apart q high f) ∙ sym (block-is both words' q) ∙ ap (λ x. block x q) view
            ∙ block-put (blocks_of marks words) b ws q ∙ ap (λ t. cond t (Some ws) (block (blocks_of marks words) q)) (apart q b o.1)
            ∙ sym (block-without (blocks_of marks words) n q ∙ ap (λ t. cond t None (block (blocks_of marks words) q)) (apart q n o.0)))));
      }
    where
      one : (q : ℕ) → (q ≡ n) ⊎ (q ≡ b) → get_or both q 0 ≡ k + 1
      one q (inl e) = ap (λ j. get_or both j 0) e ∙ at_n
      one q (inr e) = ap (λ j. get_or both j 0) e ∙ at_b

      put_in : {q j : ℕ} → q ≡ j → (j ≡ n) ⊎ (j ≡ b) → (q ≡ n) ⊎ (q ≡ b)
      put_in e (inl f) = inl (e ∙ f)
      put_in e (inr f) = inr (e ∙ f)

  pub joined-by : AreBuddies k n b → Joined (min n b) (max n b)
  joined-by (inl h) =
      let e = h.1 in
      let low : min n b ≡ n = omega (arith, e) in let high : max n b ≡ b = omega (arith, e) in
      subst (λ j. Joined j (max n b)) (sym low) (subst (λ j. Joined n j) (sym high)
      (join n b h.0 e (inl refl) (inr refl) (λ q d f. (d, f))))
  joined-by (inr h) =
      let e = h.1 in
      let low : min n b ≡ b = omega (arith, e) in let high : max n b ≡ n = omega (arith, e) in
      subst (λ j. Joined j (max n b)) (sym low) (subst (λ j. Joined b j) (sym high)
      (join b n h.0 e (inr refl) (inl refl) (λ q d f. (f, d))))

-- ---- the step of `give_back`, told of the values that its calls left
pub record Merges (marks words marks2 words1 heads1 : List ℕ) (n k low : ℕ) : Type 0 where
  pub sound : IsSound marks2 words1 heads1
  pub used : get_or marks2 low 0 ≡ k + 1 + 1
  pub long : length marks2 ≡ length marks
  pub blocks : without (blocks_of marks2 words1) low ≡ without (blocks_of marks words) n

pub merges : (marks words heads marks1 words1 heads1 marks2 : List ℕ) (n b k low : ℕ) → IsSound marks words heads → get_or marks n 0 ≡ k + 1
    → (k < 7) × (get_or marks b 0 ≡ k + 9) × AreBuddies k n b → IsSound marks1 words1 heads1 → marks1 ≡ set marks b (k + 1)
    → blocks_of marks1 words1 ≡ put (blocks_of marks words) b (words_of (blocks_of marks1 words1) b) → is_live (blocks_of marks words) b ≡ false
    → low ≡ min n b → marks2 ≡ set (set marks1 (min n b) (k + 2)) (max n b) 0 → Merges marks words marks2 words1 heads1 n k low
merges marks words heads marks1 words1 heads1 marks2 n b k low sound live buddy sound1 is1 view fresh is_low is2 =
    let there = buddy-there k n b (length marks) buddy.0 buddy.2 sound.3 (live-there marks words heads sound.0 n k live) in
    let ws : List ℕ = words_of (blocks_of marks1 words1) b in
    let j = joined-by marks words words1 heads1 n b k ws buddy.0 live buddy.1 there (subst (λ ms. IsLaidOut ms words1 heads1) is1 sound1.0)
    (subst (λ ms. blocks_of ms words1 ≡ put (blocks_of marks words) b ws) is1 view) fresh buddy.2 in
    let F : List ℕ → ℕ → Type 0 = λ ms l. Merges marks words ms words1 heads1 n k l in
    let m = sound.2 in let r = sound.3 in let l = j.long in
    subst (λ ms. F ms low) (sym (is2 ∙ ap (λ ms. set (set ms (min n b) (k + 2)) (max n b) 0) is1))
    (subst (λ i. F (set (set (set marks b (k + 1)) (min n b) (k + 2)) (max n b) 0) i) (sym is_low) (record {
      sound = (j.layout, sound1.1, omega (arith, l, m), omega (arith, l, r));
      used = let u = j.used in omega (arith, u);
      long = l;
      blocks = j.blocks;
    }))
