-- What the calls of a pool know of its fields.
use Rattle.std.proofs.Common.{◌≡◌, ℕ, suc, ◌+◌, ◌-◌, ◌*◌, ◌<◌, ◌≤◌, List, length, length-set, get_or, set, take, drop, sym, ap, subst, ◌∙◌, arith, refl, ◌++◌}
use Rattle.std.proofs.lemmas.List.{length-drop, take_all, drop_all, append-nil}
use lib.Seq.{paste, paste-zero}
use Rattle.judy_region.specs.Flat as region
use Rattle.judy_region.specs.Flat.{IsInOne}
use Rattle.judy_region.specs.Parts.{with_part}
use Rattle.judy_region.proofs.lemmas.Parts.{with_part_paste}
use Rattle.judy_region.proofs.lemmas.Flat.{length-zeros as region-length}
use Rattle.std.specs.List.{refill, length_refill}
use Rattle.judy_arena.specs.Blocks.{Blocks, words_of, put, zeros}
use Rattle.judy_arena.specs.Free.{free_words}
use Rattle.judy_arena.specs.Layout.{span, blocks_of, IsLaidOut, IsAlone, IsSound, Pooled, linked}
use Rattle.judy_arena.proofs.lemmas.BlockLaws.{put-there, block-words}
use Rattle.judy_arena.proofs.Chains.{by_eq}
use Rattle.judy_arena.proofs.LaidOut.{first-free, span-pos, laid-release}
use Rattle.judy_arena.proofs.Seen.{Held, held, Class, class_of, Wrote, wrote-paste, part-seen}
use Rattle.judy_arena.proofs.Whole.{same-free}

-- a pool of these blocks, of these heads of free lists, of these words and free words, and of these
-- fields
abbrev pub pooled : Blocks → List ℕ → ℕ → ℕ → Pooled
pooled b hs r f = record { blocks = b; heads = hs; region = r; free = f }

abbrev pub seen : List ℕ → List ℕ → List ℕ → Pooled
seen marks words heads = pooled (blocks_of marks words) heads (length marks * 4) (free_words words heads)

-- the head of a list of free blocks is the number of a block plus 1, or 0
pub head-fits : (marks words heads : List ℕ) → IsSound marks words heads → (k : ℕ) → k < 8
    → (get_or heads k 0 ≤ 4294967296) × (get_or heads k 0 * 4 ≤ length words)
head-fits marks words heads sound k class = by_eq (get_or heads k 0) 0
    (λ z. (omega (arith, z), omega (arith, z)))
    (λ some. let e : get_or heads k 0 ≡ suc (get_or heads k 0 - 1) = omega (arith, some) in
    let f = (first-free marks words heads sound.0 k class (get_or heads k 0 - 1) e).0 in
    let s = sound.0.sized in let m = sound.2 in (omega (arith, f, m, e), omega (arith, f, s, e)))

-- a live block has a mark
pub live-there : (marks words heads : List ℕ) → IsLaidOut marks words heads → (n k : ℕ) → get_or marks n 0 ≡ k + 1 → n < length marks
live-there marks words heads laid n k used =
    let i = laid.inside n (λ e. omega (arith, e, used)) in let s = span-pos (get_or marks n 0) in omega (arith, i, s)

-- a live block becomes free
pub after-release : (marks words heads : List ℕ) → IsSound marks words heads → (n k : ℕ) → get_or marks n 0 ≡ k + 1 → k < 8 → IsAlone marks n k
    → IsSound (set marks n (k + 9)) (linked words n (get_or heads k 0)) (set heads k (n + 1))
after-release marks words heads sound n k used class alone =
    let l = length-set marks n (k + 9) in let m = sound.2 in let r = sound.3 in (
      laid-release marks words heads sound.0 sound.1 n k used class alone,
      length-set heads k (n + 1) ∙ sound.1,
      omega (arith, l, m),
      omega (arith, l, r),
    )

-- the zeros of a region are those of an arena
pub same-zeros : (n : ℕ) → region.zeros n ≡ zeros n
unfolding region.zeros zeros
same-zeros n = refl

-- to paste over the whole leaves what is pasted
paste-whole : (xs s : List ℕ) (k : ℕ) → k ≡ length xs → length s ≡ k → paste xs 0 s k ≡ s
paste-whole xs s k e f =
    ap (λ v. v ++ drop (0 + k) xs) (take_all k s (omega (arith, f))) ∙ ap (λ v. s ++ v) (drop_all (0 + k) xs (omega (arith, e))) ∙ append-nil s

-- to paste nothing changes nothing
pub paste-none : (xs : List ℕ) (i : ℕ) (s : List ℕ) (k : ℕ) → k ≡ 0 → paste xs i s k ≡ xs
paste-none xs i s k e = ap (paste xs i s) e ∙ sym (paste-zero xs i s)

module _ (marks words heads : List ℕ) (sound : IsSound marks words heads) (b : Blocks) (view : blocks_of marks words ≡ b) where
  pub at : (n : ℕ) → 0 < length (words_of b n) → Held marks words heads sound.0 n
  at n l = held marks words heads sound.0 n (subst (λ x. 0 < length (words_of x n)) (sym view) l)

  pub size : (n : ℕ) → 0 < length (words_of b n) → length (words_of b n) ≡ span (get_or marks n 0) * 4
  size n l = let h = at n l in let s = h.size in let e = ap (λ x. length (words_of x n)) view in omega (arith, s, e)

  pub class : (n r : ℕ) → r ≡ get_or marks n r → 0 < length (words_of b n) → Class marks n r
  class n r e l = class_of marks words heads sound.0 n r e (at n l)

  -- a part of a live block is in one chunk
  pub in-one : (n i k : ℕ) → 0 < length (words_of b n) → 0 < k → i + k ≤ length (words_of b n) → IsInOne words (n * 4 + i) k
  in-one n i k l some ends =
      let h = at n l in let s = size n l in let e = h.ends in let f = h.fits in
      record { some = some; there = omega (arith, e, s, ends); one = omega (arith, f, s, ends, some) }

  pub in-whole : (n k : ℕ) → 0 < length (words_of b n) → k ≡ length (words_of b n) → IsInOne words (n * 4) k
  in-whole n k l e = let z : n * 4 + 0 ≡ n * 4 = omega arith in rw z at (in-one n 0 k l (omega (arith, l, e)) (omega (arith, e)))

  -- the place of a word does not leave the range of a usize
  pub place-fits : (n i : ℕ) → i < length (words_of b n) → n * 4 + i < length words
  place-fits n i l = let h = at n (omega (arith, l)) in let s = size n (omega (arith, l)) in let e = h.ends in omega (arith, e, s, l)

  pub few : length words ≤ 17179869184
  few = let s = sound.0.sized in let m = sound.2 in omega (arith, s, m)

  -- what a write leaves
  pub record Written (w' : List ℕ) (n : ℕ) (v : List ℕ) : Type 0 where
    pub after : IsSound marks w' heads
    pub blocks : blocks_of marks w' ≡ put b n v
    pub free : free_words w' heads ≡ free_words words heads

  pub written : (w' : List ℕ) (n : ℕ) (v : List ℕ) → Wrote marks words heads sound.0 w' n v → Written w' n v
  written w' n v w =
      let after : IsSound marks w' heads = (w.after, sound.1, sound.2, sound.3) in
      record { after = after; blocks = w.view ∙ ap (λ x. put x n v) view; free = same-free marks words w' heads sound after }

  pub pasted : (w' : List ℕ) (n i k : ℕ) (s : List ℕ) → w' ≡ paste words (n * 4 + i) s k → 0 < length (words_of b n)
      → i + k ≤ length (words_of b n) → k ≤ length s → Written w' n (paste (words_of b n) i s k)
  pasted w' n i k s e l ends enough =
      let E : words_of (blocks_of marks words) n ≡ words_of b n = ap (λ x. words_of x n) view in
      let z = ap length E in
      subst (λ v. Written w' n (paste v i s k)) E
      (subst (λ t. Written t n (paste (words_of (blocks_of marks words) n) i s k)) (sym e)
      (written (paste words (n * 4 + i) s k) n (paste (words_of (blocks_of marks words) n) i s k)
      (wrote-paste marks words heads sound.0 n i k s (omega (arith, l, z)) (omega (arith, ends, z)) enough)))

  -- the whole block is written
  pub cleared : (w' : List ℕ) (n k : ℕ) → w' ≡ paste words (n * 4) (region.zeros k) k → 0 < length (words_of b n)
      → k ≡ length (words_of b n) → Written w' n (zeros k)
  cleared w' n k e l whole =
      let z : n * 4 ≡ n * 4 + 0 = omega arith in
      let q = region-length k in
      subst (Written w' n) (paste-whole (words_of b n) (region.zeros k) k whole q ∙ same-zeros k)
      (pasted w' n 0 k (region.zeros k) (e ∙ ap (λ j. paste words j (region.zeros k) k) z) l (omega (arith, whole))
      (omega (arith, q)))

  -- the words of a live block, as they lie in the region
  pub lies : (n : ℕ) → 0 < length (words_of b n) → take (length (words_of b n)) (drop (n * 4) words) ≡ words_of b n
  lies n l =
      let E : words_of (blocks_of marks words) n ≡ words_of b n = ap (λ x. words_of x n) view in
      let z : n * 4 ≡ n * 4 + 0 = omega arith in let k = ap length E in
      ap (λ j. take (length (words_of b n)) (drop j words)) z ∙ part-seen marks words heads sound.0 n 0 (length (words_of b n))
      (omega (arith, l, k)) (omega (arith, k))
      ∙ ap (take (length (words_of b n))) E ∙ take_all (length (words_of b n)) (words_of b n) (omega arith)

  -- the whole block was lent, and these words were left behind
  pub lent : (n k : ℕ) (v : List ℕ) → 0 < length (words_of b n) → k ≡ length (words_of b n)
      → Written (with_part words (n * 4) k v) n (refill (length (words_of b n)) (words_of b n) v)
  lent n k v l whole =
      let old : List ℕ = words_of b n in
      let h = at n l in let e = h.ends in let f = size n l in
      let within : n * 4 + k ≤ length words = omega (arith, e, f, whole) in
      let same : take k (drop (n * 4) words) ≡ old = ap (λ j. take j (drop (n * 4) words)) whole ∙ lies n l in
      let s : List ℕ = refill k old v in
      let long = length_refill k old v whole in
      let z : n * 4 ≡ n * 4 + 0 = omega arith in
      let is = with_part_paste words (n * 4) k v within ∙ ap (λ u. paste words (n * 4) (refill k u v) k) same ∙ ap (λ j. paste words j s k) z in
      let w = pasted (with_part words (n * 4) k v) n 0 k s is l (omega (arith, whole)) (omega (arith, long)) in
      subst (Written (with_part words (n * 4) k v) n) (paste-whole old s k whole (sym long) ∙ ap (λ j. refill j old v) whole) w

  -- words that are copied from one live block into one
  pub copied : (w' : List ℕ) (from i to at' k : ℕ) → w' ≡ paste words (to * 4 + at') (drop (from * 4 + i) words) k
      → 0 < length (words_of b from) → 0 < length (words_of b to) → i + k ≤ length (words_of b from) → at' + k ≤ length
      (words_of b to)
      → Written w' to (paste (words_of b to) at' (drop i (words_of b from)) k)
  copied w' from i to at' k e lf lt source target =
      let E : words_of (blocks_of marks words) from ≡ words_of b from = ap (λ x. words_of x from) view in
      let z = ap length E in
      let p : take k (drop (from * 4 + i) words) ≡ take k (drop i (words_of b from)) = part-seen marks words heads sound.0 from i
      k (omega (arith, lf, z)) (omega (arith, source, z)) ∙ ap (λ v. take k (drop i v)) E in
      let d = length-drop i (words_of b from) in
      let e' : w' ≡ paste words (to * 4 + at') (drop i (words_of b from)) k = e ∙ ap (λ v. take (to * 4 + at') words ++ v ++ drop (to * 4 + at' + k) words) p in
      pasted w' to at' k (drop i (words_of b from)) e' lt target (omega (arith, d, source))

  -- nothing is written
  pub nothing : (n : ℕ) (v : List ℕ) → 0 < length (words_of b n) → v ≡ words_of b n → b ≡ put b n v
  nothing n v l e = sym (ap (put b n) e ∙ put-there b n (words_of b n) (block-words b n l))

-- the same, as the arena sees the pool
pub seen-with : (marks words heads w' : List ℕ) (n : ℕ) (v : List ℕ) (old : Pooled) → seen marks words heads ≡ old → blocks_of marks w' ≡ put
    old.blocks n v → free_words w' heads ≡ free_words words heads → seen marks w' heads ≡ record old { blocks = put old.blocks n v }
seen-with marks words heads w' n v old e h f =
    ap (λ x. pooled x heads (length marks * 4) (free_words w' heads)) h ∙ ap (pooled (put old.blocks n v) heads (length marks * 4)) f
    ∙ ap (λ p. pooled (put old.blocks n v) p.heads p.region p.free) e
