-- What the steps on the layout are to a caller, who sees a map.
use Rattle.std.proofs.Common.{◌≡◌, ◌≢◌, ℕ, zero, suc, ◌+◌, ◌-◌, ◌*◌, ◌%◌, ◌<◌, ◌≤◌, true, false, cond, ◌==◌, List, [], ◌∷◌}
use Rattle.std.proofs.Common.{length, get_or, set, take, drop, min, refl, sym, ap, subst, ◌∙◌, arith, Some, None, unwrap_or}
use Rattle.std.proofs.Common.{is_some}
use Rattle.std.proofs.lemmas.List.{length-take, length-drop, get_or-take, get_or-drop, drop-take}
use Rattle.std.proofs.lemmas.Grind.{get_or_default_zero}
use lib.Seq.{paste}
use Rattle.judy_arena.specs.Blocks.{Blocks, block, is_live, words_of, put, without, no_blocks}
use Rattle.judy_arena.specs.Layout.{marks_live, span, size_of, block_at, blocks_of, IsLaidOut, linked}
use Rattle.judy_arena.proofs.lemmas.BlockLaws.{same_blocks, block-put, block-without}
use Rattle.judy_arena.proofs.Swaps.{Swapped, swap-set, swap-paste}
use Rattle.judy_arena.proofs.Chains.{length-linked}
use Rattle.judy_arena.proofs.Cuts.{aligned-fits}
use Rattle.judy_arena.proofs.LaidOut.{at_p, ends, live-above, live-below, span-pos, first-free}
use Rattle.judy_arena.proofs.LaidOut.{laid-within, laid-first, laid-middle, get-blocks_of, block_at-within, block_at-release, block_at-first}
use Rattle.judy_arena.proofs.LaidOut.{block_at-middle, fresh-take, take-take_le}

pub block-is : (marks words : List ℕ) (n : ℕ) → block (blocks_of marks words) n ≡ block_at marks words n
unfolding block
block-is marks words n = get-blocks_of marks words n

-- no mark, no block
pub blocks-none : (marks words : List ℕ) → marks ≡ [] → blocks_of marks words ≡ no_blocks
unfolding blocks_of
blocks-none marks words e = ap (λ ms. blocks_of ms words) e

module _ (marks words heads : List ℕ) (laid : IsLaidOut marks words heads) where
  abbrev pub seen : Blocks
  seen = blocks_of marks words

  pub inserted : (m' w' : List ℕ) (n : ℕ) (v : List ℕ)
      → ((q : ℕ) → block_at m' w' q ≡ cond (q == n) (Some v) (block_at marks words q)) → blocks_of m' w' ≡ put seen n v
  inserted m' w' n v is = same_blocks _ _ (λ q. block-is m' w' q ∙ is q ∙ sym (block-put seen n v q ∙ ap (cond (q == n) (Some v)) (block-is marks words q)))

  removed : (m' w' : List ℕ) (n : ℕ) → ((q : ℕ) → block_at m' w' q ≡ cond (q == n) None (block_at marks words q)) → blocks_of m' w' ≡ without seen n
  removed m' w' n is = same_blocks _ _ (λ q. block-is m' w' q ∙ is q ∙ sym (block-without seen n q ∙ ap (cond (q == n) None) (block-is marks words q)))

  abbrev mark : ℕ → ℕ
  mark n = get_or marks n 0

  -- the words of a live block, and where they lie
  pub record Held (n : ℕ) : Type 0 where
    pub live : marks_live (mark n) ≡ true
    pub above : 0 < mark n
    pub below : mark n < 9
    pub marked : n < length marks
    pub ends : n * 4 + span (mark n) * 4 ≤ length words
    pub fits : n % 16384 + span (mark n) ≤ 16384
    pub is : words_of seen n ≡ take (span (mark n) * 4) (drop (n * 4) words)
    pub size : length (words_of seen n) ≡ span (mark n) * 4

  pub held : (n : ℕ) → 0 < length (words_of seen n) → Held n
  held n l =
      let W : List ℕ = take (span (mark n) * 4) (drop (n * 4) words) in
      let e : block seen n ≡ block_at marks words n = block-is marks words n in
      let l' : 0 < length (unwrap_or (block_at marks words n) []) = subst (λ o. 0 < length (unwrap_or o [])) e l in
      elim (marks_live (mark n)) as (λ v. marks_live (mark n) ≡ v → 0 < length (unwrap_or (cond v (Some W) None) []) → Held n) [
        | true ↦ λ v k.
            let a : 0 < mark n = live-above (mark n) v in
            let i = laid.inside n (λ z. omega (arith, z, a)) in
            let s = laid.sized in
            let p = span-pos (mark n) in
            let t : length W ≡ min (span (mark n) * 4) (length (drop (n * 4) words)) = length-take (span (mark n) * 4) (drop (n * 4) words) in
            let d = length-drop (n * 4) words in
            let is : words_of seen n ≡ W = ap (λ o. unwrap_or o []) (e ∙ ap (λ b. cond b (Some W) None) v) in
            let len = ap length is in
            record {
              live = v;
              above = a;
              below = live-below (mark n) v;
              marked = omega (arith, i, p);
              ends = omega (arith, i, s);
              fits = aligned-fits (mark n) n (laid.aligned n (λ z. omega (arith, z, a)));
              is = is;
              size = omega (arith, len, t, d, i, s);
            }
        | false ↦ λ v k. absurd (omega (arith, k))
      ] refl l'

  -- how many words a block has, by its mark
  pub size-live : (n : ℕ) → marks_live (mark n) ≡ true → length (words_of seen n) ≡ span (mark n) * 4
  size-live n v =
      let W : List ℕ = take (span (mark n) * 4) (drop (n * 4) words) in
      let a : 0 < mark n = live-above (mark n) v in
      let i = laid.inside n (λ z. omega (arith, z, a)) in let s = laid.sized in
      let t = length-take (span (mark n) * 4) (drop (n * 4) words) in let d = length-drop (n * 4) words in
      let is : words_of seen n ≡ W = ap (λ o. unwrap_or o []) (block-is marks words n ∙ ap (λ b. cond b (Some W) None) v) in
      let len = ap length is in omega (arith, len, t, d, i, s)

  pub size-dead : (n : ℕ) → marks_live (mark n) ≡ false → length (words_of seen n) ≡ 0
  size-dead n v = ap (λ o. length (unwrap_or o [])) (block-is marks words n ∙ ap (λ b. cond b (Some (take (span (mark n) * 4) (drop (n * 4) words))) None) v)

  -- a write inside a live block
  pub record Wrote (w' : List ℕ) (n : ℕ) (v : List ℕ) : Type 0 where
    pub after : IsLaidOut marks w' heads
    pub view : blocks_of marks w' ≡ put seen n v

  wrote : (n : ℕ) → Held n → (w' v : List ℕ) (there : n * 4 + span (mark n) * 4 ≤ length words) → Swapped words (n * 4)
      (span (mark n) * 4) there w' v → Wrote w' n v
  wrote n h w' v there swap = record {
    after = laid-within marks words heads laid n h.live w' swap.outside;
    view = inserted marks w' n v (λ q. block_at-within marks words heads laid n h.live w' swap.outside q
        ∙ ap (λ b. cond (q == n) (Some b) (block_at marks words q)) swap.inside);
  }

  pub wrote-set : (n i w : ℕ) → i < length (words_of seen n) → Wrote (set words (n * 4 + i) w) n (set (words_of seen n) i w)
  wrote-set n i w l =
      let h = held n (omega (arith, l)) in let s = h.size in
      subst (λ v. Wrote (set words (n * 4 + i) w) n (set v i w)) (sym h.is)
      (wrote n h _ _ h.ends (swap-set words (n * 4) (span (mark n) * 4) h.ends i w (omega (arith, l, s))))

  pub wrote-paste : (n i k : ℕ) (s : List ℕ) → 0 < length (words_of seen n) → i + k ≤ length (words_of seen n) → k ≤ length s
      → Wrote (paste words (n * 4 + i) s k) n (paste (words_of seen n) i s k)
  wrote-paste n i k s o l m =
      let h = held n o in let z = h.size in
      subst (λ v. Wrote (paste words (n * 4 + i) s k) n (paste v i s k)) (sym h.is)
      (wrote n h _ _ h.ends (swap-paste words (n * 4) (span (mark n) * 4) h.ends i k s (omega (arith, l, z)) m))

  pub get-seen : (n i : ℕ) → i < length (words_of seen n) → get_or words (n * 4 + i) 0 ≡ get_or (words_of seen n) i 0
  get-seen n i l =
      let h = held n (omega (arith, l)) in let s = h.size in
      sym (ap (λ ws. get_or ws i 0) h.is ∙ get_or-take (span (mark n) * 4) (drop (n * 4) words) i 0 (omega (arith, l, s)) ∙ get_or-drop (n * 4) words i 0)

  -- a part of a live block's words
  pub part-seen : (n i k : ℕ) → 0 < length (words_of seen n) → i + k ≤ length (words_of seen n) → take k (drop (n * 4 + i) words)
      ≡ take k (drop i (words_of seen n))
  part-seen n i k o l =
      let h = held n o in let s = h.size in
      let e : span (mark n) * 4 ≡ i + (span (mark n) * 4 - i) = omega (arith, l, s) in
      sym (ap (λ v. take k (drop i v)) h.is
      ∙ ap (λ j. take k (drop i (take j (drop (n * 4) words)))) e ∙ ap (take k) (drop-take i (span (mark n) * 4 - i) (drop (n * 4) words))
      ∙ take-take_le k (span (mark n) * 4 - i) (drop i (drop (n * 4) words)) (omega (arith, l, s)) ∙ ap (take k) (drop-drop (n * 4) i words))
    where
      drop-drop : (a b : ℕ) (xs : List ℕ) → drop b (drop a xs) ≡ drop (a + b) xs
      drop-drop zero b xs = ap (λ k. drop k xs) (omega arith)
      drop-drop (suc a) zero [] = let e : suc a + 0 ≡ suc a = omega arith in ap (λ k. drop k []) (sym e)
      drop-drop (suc a) (suc b) [] = let e : suc a + suc b ≡ suc (a + suc b) = omega arith in ap (λ k. drop k []) (sym e)
      drop-drop (suc a) b (x ∷ xs) = let e : suc a + b ≡ suc (a + b) = omega arith in drop-drop a b xs ∙ ap (λ k. drop k (x ∷ xs)) (sym e)

  module _ (eight : length heads ≡ 8) where
    pub release-seen : (n k : ℕ) → mark n ≡ k + 1 → k < 8 → blocks_of (set marks n (k + 9)) (linked words n (get_or heads k 0)) ≡ without seen n
    release-seen n k u c = removed (set marks n (k + 9)) (linked words n (get_or heads k 0)) n (block_at-release marks words heads laid eight n k u c)

    -- what is known when the free block p of class k becomes live
    pub record Takes (k p : ℕ) (words' heads' : List ℕ) : Type 0 where
      pub marked : p < length marks
      pub after : IsLaidOut (set marks p (k + 1)) words' heads'
      pub view : blocks_of (set marks p (k + 1)) words' ≡ put seen p (take (size_of k) (drop (p * 4) words'))
      pub fresh : is_live seen p ≡ false
      pub size : length (take (size_of k) (drop (p * 4) words')) ≡ size_of k

    -- it is the first of its list
    pub takes-first : (k p : ℕ) → k < 8 → get_or heads k 0 ≡ suc p → Takes k p words (set heads k (get_or words (p * 4) 0))
    takes-first k p class is =
        let free = (first-free marks words heads laid k class p is).1 in
        let there = ends marks words heads laid eight k class p free in
        let t = length-take (size_of k) (drop (p * 4) words) in
        let d = length-drop (p * 4) words in
        record {
          marked = at_p marks words heads laid eight k class p free;
          after = laid-first marks words heads laid eight k class p free is;
          view = inserted (set marks p (k + 1)) words p (take (size_of k) (drop (p * 4) words)) (block_at-first marks words heads laid eight k class p free is);
          fresh = ap is_some (block-is marks words p ∙ fresh-take marks words heads laid eight k class p free);
          size = omega (arith, t, d, there);
        }

    -- it is another one, and a is the one before it
    pub takes-middle : (k p a : ℕ) → k < 8 → mark p ≡ k + 9 → get_or heads k 0 ≢ suc p → get_or words (p * 4 + 1) 0 ≡ suc a
        → Takes k p (linked words a (get_or words (p * 4) 0)) heads
    takes-middle k p a class free not_first back =
        let words' : List ℕ = linked words a (get_or words (p * 4) 0) in
        let there = ends marks words heads laid eight k class p free in
        let long = length-linked words a (get_or words (p * 4) 0) in
        let t = length-take (size_of k) (drop (p * 4) words') in
        let d = length-drop (p * 4) words' in
        record {
          marked = at_p marks words heads laid eight k class p free;
          after = laid-middle marks words heads laid eight k class p free not_first a back;
          view = inserted (set marks p (k + 1)) words' p (take (size_of k) (drop (p * 4) words'))
              (block_at-middle marks words heads laid eight k class p free not_first a back);
          fresh = ap is_some (block-is marks words p ∙ fresh-take marks words heads laid eight k class p free);
          size = omega (arith, t, d, there, long);
        }

-- the class that a mark says, read of the marks as r
pub record Class (marks : List ℕ) (n r : ℕ) : Type 0 where
  pub positive : 1 ≤ r
  pub class : r - 1 < 8
  pub is : get_or marks n 0 ≡ r - 1 + 1

pub class_of : (marks words heads : List ℕ) (laid : IsLaidOut marks words heads) (n r : ℕ) → r ≡ get_or marks n r
    → Held marks words heads laid n → Class marks n r
class_of marks words heads laid n r e h =
    let m = h.marked in let a = h.above in let b = h.below in
    let z : r ≡ get_or marks n 0 = e ∙ get_or_default_zero marks n r m in
    record { positive = omega (arith, z, a); class = omega (arith, z, b); is = omega (arith, z, a) }
