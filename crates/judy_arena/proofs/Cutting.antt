-- A live block is cut in halves until it has the size that is wanted.
use Rattle.std.proofs.Common.{◌≡◌, ℕ, zero, suc, ◌+◌, ◌-◌, ◌/◌, ◌<◌, ◌≤◌, List, length, take, sym, ap, ◌∙◌, arith}
use Rattle.std.proofs.lemmas.List.{length-take, take_all}
use Rattle.judy_arena.specs.Blocks.{Blocks, words_of, put}
use Rattle.judy_arena.specs.Layout.{size_of}
use Rattle.judy_arena.proofs.lemmas.BlockLaws.{put-there, put-put, block-words, words-at}
use Rattle.judy_arena.proofs.LaidOut.{take-take_le}
use Rattle.judy_arena.proofs.Classes.{size-pos, size-half}

-- the class above the one below
pub back : (k : ℕ) → 0 < k → k - 1 + 1 ≡ k
back k l = omega (arith, l)

-- no class is smaller than one below it
size-up : (d j : ℕ) → j + d < 8 → size_of j ≤ size_of (j + d)
size-up zero j l = let e : j + 0 ≡ j = omega arith in let s = ap size_of e in omega (arith, s)
size-up (suc d) j l =
    let i = size-up d j (omega (arith, l)) in let h = size-half (j + d) (omega (arith, l)) in
    let e : j + suc d ≡ j + d + 1 = omega arith in let s = ap size_of e in omega (arith, i, h, s)

pub size-le : (j k : ℕ) → j ≤ k → k < 8 → size_of j ≤ size_of k
size-le j k l m = let e : j + (k - j) ≡ k = omega (arith, l) in let u = size-up (k - j) j (omega (arith, e, m)) in let s = ap size_of e in omega (arith, u, s)

module _ (old : Blocks) (n from : ℕ) (size : length (words_of old n) ≡ size_of from) where
  abbrev ws : List ℕ
  ws = words_of old n

  pub begun : old ≡ put old n (take (size_of from) ws)
  begun = let p = size-pos from in sym (ap (put old n) (take_all (size_of from) ws (omega (arith, size))) ∙ put-there old n ws
      (block-words old n (omega (arith, size, p))))

module _ (old cur : Blocks) (n from k : ℕ) (size : length (words_of old n) ≡ size_of from) (down : k + 1 ≤ from)
    (class : from < 8) (is : cur ≡ put old n (take (size_of (k + 1)) (words_of old n))) where
  abbrev words : List ℕ
  words = words_of old n

  now : words_of cur n ≡ take (size_of (k + 1)) words
  now = words-at old cur n (take (size_of (k + 1)) words) is

  pub now_size : length (words_of cur n) ≡ size_of k + size_of k
  now_size =
      let t = length-take (size_of (k + 1)) words in let m = size-le (k + 1) from down class in let h = size-half k (omega (arith, down, class)) in
      let e = ap length now in omega (arith, t, m, h, e, size)

  pub half-size : length (words_of cur n) / 2 ≡ size_of k
  half-size = let s = now_size in omega (arith, s)

  pub cut-some : 4 < length (words_of cur n)
  cut-some = let s = now_size in let p = size-pos k in omega (arith, s, p)

module _ (old cur new : Blocks) (n from k : ℕ) (size : length (words_of old n) ≡ size_of from) (down : k + 1 ≤ from)
    (class : from < 8) (is : cur ≡ put old n (take (size_of (k + 1)) (words_of old n))) where
  pub cut-more : new ≡ put cur n (take (length (words_of cur n) / 2) (words_of cur n)) → new ≡ put old n (take (size_of k) (words_of old n))
  cut-more e =
      let half = half-size old cur n from k size down class is in
      let h = size-half k (omega (arith, down, class)) in
      e ∙ ap (λ j. put cur n (take j (words_of cur n))) half ∙ ap (λ v. put cur n (take (size_of k) v)) (now old cur n from k size down class is)
      ∙ ap (put cur n) (take-take_le (size_of k) (size_of (k + 1)) (words_of old n) (omega (arith, h)))
      ∙ ap (λ x. put x n (take (size_of k) (words_of old n))) is ∙ put-put old n _ _

-- nothing is cut yet
pub whole-size : (old cur : Blocks) (n from now : ℕ) → length (words_of old n) ≡ size_of from → now ≡ from → cur ≡ put old n
    (take (size_of now) (words_of old n)) → length (words_of cur n) ≡ size_of from
whole-size old cur n from now size e is =
    let w = ap length (words-at old cur n (take (size_of now) (words_of old n)) is) in
    let t = length-take (size_of now) (words_of old n) in let s = ap size_of e in omega (arith, w, t, s, size)
