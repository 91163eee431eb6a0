-- A part of the marks of the size of a class, where no live block lies, is in one free block. So if no
-- block of this size is free, each such part has at least 4 live words.
use Rattle.std.proofs.Common.{◌≡◌, ◌≢◌, ℕ, zero, suc, ◌+◌, ◌-◌, ◌*◌, ◌%◌, ◌<◌, ◌≤◌, true, false, List, [], ◌∷◌, length, get_or, drop}
use Rattle.std.proofs.Common.{refl, ap, subst, ◌∙◌, arith, ◌⊎◌, inl, inr}
use Rattle.std.proofs.lemmas.List.{length-take, length-drop, take_all}
use Rattle.judy_arena.specs.Blocks.{total_words}
use Rattle.judy_arena.specs.Ready.{greatest}
use Rattle.judy_arena.specs.Layout.{marks_live, span, size_of, blocks_of, IsIn, IsChain, IsLaidOut}
use Rattle.judy_arena.proofs.Chains.{by_lt, by_eq}
use Rattle.judy_arena.proofs.LaidOut.{span-pos, span-freed, live-above}
use Rattle.judy_arena.proofs.Cuts.{span-half, aligned-half, by_span}
use Rattle.judy_arena.proofs.Classes.{size-half}
use Rattle.judy_arena.proofs.Cutting.{size-le}
use Rattle.judy_arena.proofs.ReadyLaws.{ready-some}
use Rattle.judy_arena.proofs.BoundLaws.{first, part, total-step, total-live}

-- which class a size is of
class-of : (j k : ℕ) → j < 8 → k < 7 → span (k + 1) ≤ span (j + 1) → span (j + 1) < span (k + 2) → j ≡ k
class-of j k l m low high = by_lt j k
    (λ o. absurd (let s = size-le (j + 1) k (omega (arith, o)) (omega (arith, m)) in let h = size-half j (omega (arith, o, m)) in let p = span-pos (j + 1) in omega (arith, s, h, low, p)))
    (λ o. by_lt k j (λ p. absurd (let s = size-le (k + 1) j (omega (arith, p)) l in let e : k + 1 + 1 ≡ k + 2 = omega arith in let f = ap span e in omega (arith, s, high, f))) (λ p. omega (arith, o, p)))

-- a multiple of a size is one of each smaller size
divides : (d k n : ℕ) → k + d < 8 → n % span (k + d + 1) ≡ 0 → n % span (k + 1) ≡ 0
divides zero k n l a = let e : k + 0 + 1 ≡ k + 1 = omega arith in subst (λ i. n % span i ≡ 0) e a
divides (suc d) k n l a =
    let e : k + suc d + 1 ≡ k + d + 2 = omega arith in
    divides d k n (omega (arith, l)) (aligned-half (k + d) (omega (arith, l)) n (subst (λ i. n % span i ≡ 0) e a)).0

pub divides-le : (j k n : ℕ) → k ≤ j → j < 8 → n % span (j + 1) ≡ 0 → n % span (k + 1) ≡ 0
divides-le j k n o l a =
    let e : j ≡ k + (j - k) = omega (arith, o) in
    divides (j - k) k n (omega (arith, l, e)) (subst (λ i. n % span (i + 1) ≡ 0) e a)

span-first : span (0 + 1) ≡ 1
unfolding span
span-first = refl

span-run : span (7 + 1) ≡ 128
unfolding span
span-run = refl

-- what the last class says, in numbers
pub filled-last : (region total ready : ℕ) → ((k : ℕ) → k < 8 → ready < size_of k → region ≤ span (k + 1) * total) → ready < 512 → region ≤ 128 * total
filled-last region total ready law none =
    let s = span-run in
    subst (λ n. region ≤ n * total) s (law 7 (omega arith) (omega (arith, none, s)))

-- a live block among the marks from b on, or none
abbrev pub Lives : List ℕ → ℕ → ℕ → Type 0
Lives marks b n = (q : ℕ) × (b ≤ q) × (q < b + n) × (marks_live (get_or marks q 0) ≡ true)

abbrev pub Dead : List ℕ → ℕ → ℕ → Type 0
Dead marks b n = (q : ℕ) → b ≤ q → q < b + n → marks_live (get_or marks q 0) ≡ false

find : (marks : List ℕ) (b n : ℕ) → Lives marks b n ⊎ Dead marks b n
find marks b zero = inr (λ q l m. absurd (omega (arith, l, m)))
find marks b (suc n) =
    elim (marks_live (get_or marks (b + n) 0)) as (λ v. marks_live (get_or marks (b + n) 0) ≡ v → Lives marks b (suc n) ⊎ Dead marks b (suc n)) [
      | true ↦ λ e. inl (b + n, omega arith, omega arith, e)
      | false ↦ λ e. elim (find marks b n) as (λ _. Lives marks b (suc n) ⊎ Dead marks b (suc n)) [
        | inl l ↦ inl (l.0, l.1, (let o = l.2 in omega (arith, o)), l.3)
        | inr d ↦ inr (λ q l m. by_eq q (b + n) (λ i. ap (λ j. marks_live (get_or marks j 0)) i ∙ e) (λ o. d q l (omega (arith, m, o))))
      ]
    ] refl

-- a mark of a block that is not live is the mark of a free block
pub free-class : (m : ℕ) → m ≢ 0 → m ≤ 16 → marks_live m ≡ false → (j : ℕ) × (j < 8) × (m ≡ j + 9)
free-class m some most dead = by_lt m 9
    (λ l. absurd (no m some l dead))
    (λ l. (m - 9, omega (arith, most), omega (arith, l)))
  where
    no : (m : ℕ) → m ≢ 0 → m < 9 → marks_live m ≡ false → ⊥
    no m some l dead = grind (arith, some, l, dead)

-- the class that a mark says
class-at : (m : ℕ) → m ≢ 0 → m ≤ 16 → (j : ℕ) × (j < 8) × (span m ≡ span (j + 1))
class-at m some most = by_lt m 9
    (λ l. (m - 1, omega (arith, some, l), ap span (omega (arith, some))))
    (λ l. (m - 9, omega (arith, most, l), ap span (omega (arith, l)) ∙ span-freed (m - 9) (omega (arith, most, l))))

-- a greater size is of a greater class
class-le : (k j : ℕ) → k < 8 → j < 8 → span (k + 1) ≤ span (j + 1) → k ≤ j
class-le k j l m low = by_lt j k
    (λ o. absurd (let s = size-le (j + 1) k (omega (arith, o)) l in let h = size-half j (omega (arith, o, l)) in let p = span-pos (j + 1) in omega (arith, s, h, low, p)))
    (λ o. o)

-- multiples of a size
zero-multiple : (m : ℕ) → 0 % span m ≡ 0
zero-multiple m = by_span (λ s. 0 % s ≡ 0) (omega arith) (omega arith) (omega arith) (omega arith) (omega arith) (omega arith) (omega arith) (omega arith) m

multiple-next : (m b : ℕ) → b % span m ≡ 0 → (b + span m) % span m ≡ 0
multiple-next m b = by_span (λ s. b % s ≡ 0 → (b + s) % s ≡ 0) (λ a. omega (arith, a)) (λ a. omega (arith, a)) (λ a. omega (arith, a)) (λ a. omega (arith, a))
    (λ a. omega (arith, a)) (λ a. omega (arith, a)) (λ a. omega (arith, a)) (λ a. omega (arith, a)) m

abbrev Below : ℕ → ℕ → ℕ → Type 0
Below q b s = q % s ≡ 0 → b % s ≡ 0 → q < b + s → q ≤ b

multiple-below : (m q b : ℕ) → q % span m ≡ 0 → b % span m ≡ 0 → q < b + span m → q ≤ b
multiple-below m q b = by_span (Below q b) (λ x y z. omega (arith, x, y, z)) (λ x y z. omega (arith, x, y, z)) (λ x y z. omega (arith, x, y, z))
    (λ x y z. omega (arith, x, y, z)) (λ x y z. omega (arith, x, y, z)) (λ x y z. omega (arith, x, y, z)) (λ x y z. omega (arith, x, y, z))
    (λ x y z. omega (arith, x, y, z)) m

abbrev Inside : ℕ → ℕ → ℕ → Type 0
Inside q b s = q % s ≡ 0 → b % s ≡ 0 → q ≤ b → b < q + s → q ≡ b

multiple-in : (m q b : ℕ) → q % span m ≡ 0 → b % span m ≡ 0 → q ≤ b → b < q + span m → q ≡ b
multiple-in m q b = by_span (Inside q b) (λ x y z w. omega (arith, x, y, z, w)) (λ x y z w. omega (arith, x, y, z, w)) (λ x y z w. omega (arith, x, y, z, w))
    (λ x y z w. omega (arith, x, y, z, w)) (λ x y z w. omega (arith, x, y, z, w)) (λ x y z w. omega (arith, x, y, z, w)) (λ x y z w. omega (arith, x, y, z, w))
    (λ x y z w. omega (arith, x, y, z, w)) m

abbrev Ends : ℕ → ℕ → ℕ → Type 0
Ends b len s = b % s ≡ 0 → b < len → b + s ≤ len

part-ends : (m b len : ℕ) → len % 128 ≡ 0 → b % span m ≡ 0 → b < len → b + span m ≤ len
part-ends m b len runs = by_span (Ends b len) (λ x y. omega (arith, runs, x, y)) (λ x y. omega (arith, runs, x, y)) (λ x y. omega (arith, runs, x, y))
    (λ x y. omega (arith, runs, x, y)) (λ x y. omega (arith, runs, x, y)) (λ x y. omega (arith, runs, x, y)) (λ x y. omega (arith, runs, x, y))
    (λ x y. omega (arith, runs, x, y)) m

abbrev MoreBig : ℕ → ℕ → ℕ → ℕ → ℕ → Type 0
MoreBig t u b x s = t + x * 4 ≤ u → 4 * b ≤ s * t → 4 * (b + x) ≤ s * u

more-big : (m t u b x : ℕ) → t + x * 4 ≤ u → 4 * b ≤ span m * t → 4 * (b + x) ≤ span m * u
more-big m t u b x = by_span (MoreBig t u b x) (λ y z. omega (arith, y, z)) (λ y z. omega (arith, y, z)) (λ y z. omega (arith, y, z)) (λ y z. omega (arith, y, z))
    (λ y z. omega (arith, y, z)) (λ y z. omega (arith, y, z)) (λ y z. omega (arith, y, z)) (λ y z. omega (arith, y, z)) m

abbrev MoreSmall : ℕ → ℕ → ℕ → ℕ → Type 0
MoreSmall t u b s = t + 4 ≤ u → 4 * b ≤ s * t → 4 * (b + s) ≤ s * u

more-small : (m t u b : ℕ) → t + 4 ≤ u → 4 * b ≤ span m * t → 4 * (b + span m) ≤ span m * u
more-small m t u b = by_span (MoreSmall t u b) (λ y z. omega (arith, y, z)) (λ y z. omega (arith, y, z)) (λ y z. omega (arith, y, z)) (λ y z. omega (arith, y, z))
    (λ y z. omega (arith, y, z)) (λ y z. omega (arith, y, z)) (λ y z. omega (arith, y, z)) (λ y z. omega (arith, y, z)) m

module _ (marks words heads : List ℕ) (laid : IsLaidOut marks words heads) where
  abbrev mark : ℕ → ℕ
  mark q = get_or marks q 0

  -- the place after a block is the begin of a block
  pub next-begins : (b : ℕ) → mark b ≢ 0 → b + span (mark b) < length marks → mark (b + span (mark b)) ≢ 0
  next-begins b some l z =
      let u : ℕ = b + span (mark b) in
      let s = span-pos (mark b) in
      let c = laid.covered u l in let le = c.2 in let lt = c.3 in
      by_eq c.0 u (λ e. c.1 (ap (λ j. get_or marks j 0) e ∙ z))
      (λ d. by_lt c.0 b
      (λ o. some (laid.apart c.0 b c.1 o (omega (arith, lt, s))))
      (λ o. by_eq c.0 b
      (λ e. let f = ap (λ j. span (get_or marks j 0)) e in omega (arith, lt, e, f))
      (λ f. c.1 (laid.apart b c.0 some (omega (arith, o, f)) (omega (arith, le, d))))))

  -- where no live block starts in a part, and a block starts at its begin, this one is as large as the part
  wide : (k b : ℕ) → k < 8 → b % span (k + 1) ≡ 0 → b + span (k + 1) ≤ length marks → mark b ≢ 0 → Dead marks b (span (k + 1)) → span (k + 1) ≤ span (mark b)
  wide zero b l a ends some dead = let e : span (0 + 1) ≡ 1 = span-first in let s = span-pos (mark b) in omega (arith, e, s)
  wide (suc k) b l a ends some dead =
      let e : suc k + 1 ≡ k + 2 = omega arith in
      let w : span (suc k + 1) ≡ span (k + 2) = ap span e in
      let class : k < 7 = omega (arith, l) in
      let h = span-half k class in let p = span-pos (k + 1) in
      let a2 : b % span (k + 2) ≡ 0 = subst (λ i. b % span i ≡ 0) e a in
      let al = aligned-half k class b a2 in
      let low = wide k b (omega (arith, l)) al.0 (omega (arith, ends, w, h)) some (λ q m o. dead q m (omega (arith, o, w, h))) in
      by_lt (span (mark b)) (span (suc k + 1))
      (λ less.
      let f = free-class (mark b) some (laid.known b) (dead b (omega arith) (omega (arith, w, h, p))) in
      let fs : span (mark b) ≡ span (f.0 + 1) = ap span f.2 ∙ span-freed f.0 f.1 in
      let j : f.0 ≡ k = class-of f.0 k f.1 class (omega (arith, low, fs)) (omega (arith, less, fs, w)) in
      let m : mark b ≡ k + 9 = omega (arith, f.2, j) in
      let ms : span (mark b) ≡ span (k + 1) = fs ∙ ap (λ i. span (i + 1)) j in
      let u : ℕ = b + span (k + 1) in
      let u_some : mark u ≢ 0 = subst (λ i. mark (b + i) ≢ 0) ms (next-begins b some (omega (arith, ends, w, h, ms, p))) in
      let u_low = wide k u (omega (arith, l)) al.1 (omega (arith, ends, w, h)) u_some (λ q n o. dead q (omega (arith, n)) (omega (arith, o, w, h))) in
      let g = free-class (mark u) u_some (laid.known u) (dead u (omega arith) (omega (arith, w, h, p))) in
      let gs : span (mark u) ≡ span (g.0 + 1) = ap span g.2 ∙ span-freed g.0 g.1 in
      let ua : u % span (g.0 + 1) ≡ 0 = subst (λ i. u % i ≡ 0) gs (laid.aligned u u_some) in
      let u_less : span (g.0 + 1) < span (k + 2) = by_lt g.0 (k + 1)
      (λ o. let s = size-le g.0 k (omega (arith, o)) (omega (arith, l)) in omega (arith, s, h, p))
      (λ o. absurd (al.2 (subst (λ i. u % span i ≡ 0) (omega arith) (divides-le g.0 (k + 1) u o g.1 ua)))) in
      let i : g.0 ≡ k = class-of g.0 k g.1 class (omega (arith, u_low, gs)) u_less in
      let n : mark u ≡ k + 9 = let x = g.2 in omega (arith, x, i) in
      absurd (laid.lone b k class a2 m n))
      (λ more. more)

  -- a free block of class j makes its size ready
  free-ready : (j q : ℕ) → j < 8 → mark q ≡ j + 9 → size_of j ≤ greatest heads
  free-ready j q l m = let c = laid.free j l in ready-some heads j l (starts c.0 c.1 (c.2 q m))
    where
      starts : (ps : List ℕ) → IsChain marks words j 0 (get_or heads j 0) ps → IsIn q ps → 0 < get_or heads j 0
      starts [] c i = absurd i
      starts (x ∷ ps) c i = let e = c.0 in omega (arith, e)

  -- more marks bring no less
  risen : (d k : ℕ) → total_words (first marks words k) ≤ total_words (first marks words (k + d))
  risen zero k = let e : k + 0 ≡ k = omega arith in let s = ap (λ i. total_words (first marks words i)) e in omega (arith, s)
  risen (suc d) k =
      let i = risen d k in let s = total-step marks words (k + d) in
      let e : k + d + 1 ≡ k + suc d = omega arith in let f = ap (λ i. total_words (first marks words i)) e in omega (arith, i, s, f)

  risen-to : (k n : ℕ) → k ≤ n → total_words (first marks words k) ≤ total_words (first marks words n)
  risen-to k n l = let e : k + (n - k) ≡ n = omega (arith, l) in let f = ap (λ i. total_words (first marks words i)) e in let r = risen (n - k) k in omega (arith, f, r)

  pub part-long : (q : ℕ) → mark q ≢ 0 → length (part marks words q) ≡ span (mark q) * 4
  part-long q some =
      let i = laid.inside q some in let s = laid.sized in
      let t = length-take (span (mark q) * 4) (drop (q * 4) words) in let d = length-drop (q * 4) words in omega (arith, i, s, t, d)

  module _ (k : ℕ) (l : k < 8) (none : greatest heads < size_of k) (runs : length marks % 128 ≡ 0) where
    abbrev n : ℕ
    n = span (k + 1)

    abbrev T : ℕ → ℕ
    T b = total_words (first marks words b)

    -- the part after one whose first block is no larger begins with a block
    part-begins : (b : ℕ) → b % n ≡ 0 → mark b ≢ 0 → span (mark b) ≤ n → b + n < length marks → mark (b + n) ≢ 0
    part-begins b a some small o =
        let c = laid.covered (b + n) o in let le = c.2 in let lt = c.3 in let m : ℕ = c.0 in
        let j = class-at (mark m) c.1 (laid.known m) in
        let ma : m % span (j.0 + 1) ≡ 0 = subst (λ s. m % s ≡ 0) j.2 (laid.aligned m c.1) in
        let mt : b + n < m + span (j.0 + 1) = (let e = j.2 in omega (arith, lt, e)) in
        let same : m ≡ b + n = by_lt k j.0
        (λ big.
        let mn = divides-le j.0 k m (omega (arith, big)) j.1 ma in
        let below : m < b + n → m ≤ b = λ x. multiple-below (k + 1) m b mn a x in
        by_lt m (b + n)
        (λ x. by_lt m b
        (λ y. absurd (some (laid.apart m b c.1 y (let p = span-pos (k + 1) in omega (arith, lt, p)))))
        (λ y. absurd (let z = below x in let e : m ≡ b = omega (arith, y, z) in let f = ap (λ i. span (mark i)) e in omega (arith, e, f, lt, small))))
        (λ x. omega (arith, x, le)))
        (λ not_big. multiple-in (j.0 + 1) m (b + n) ma (divides-le k j.0 (b + n) not_big l (multiple-next (k + 1) b a)) le mt) in
        subst (λ i. mark i ≢ 0) same c.1

    -- a part whose first block is no live block of this size or more has a live block
    part-live : (b : ℕ) → b % n ≡ 0 → b + n ≤ length marks → mark b ≢ 0 → (marks_live (mark b) ≡ true → span (mark b) < n) → Lives marks b n
    part-live b a ends some small = elim (find marks b n) as (λ _. Lives marks b n) [
      | inl live ↦ live
      | inr dead ↦ absurd (
          let w = wide k b l a ends some dead in
          let p = span-pos (k + 1) in
          let f = free-class (mark b) some (laid.known b) (dead b (omega arith) (omega (arith, p))) in
          let fs : span (mark b) ≡ span (f.0 + 1) = ap span f.2 ∙ span-freed f.0 f.1 in
          let r = free-ready f.0 b f.1 f.2 in omega (arith, r, none, fs, w)
          )
    ]

    -- from a part on that begins with a block, where the parts before have enough live words
    walk : (d b : ℕ) → length marks ≤ b + d → b ≤ length marks → b % n ≡ 0 → (b < length marks → mark b ≢ 0) → 4 * b ≤ n * T b
        → 4 * length marks ≤ n * T (length marks)
    walk zero b most le a begins have = subst (λ i. 4 * i ≤ n * T i) (omega (arith, most, le)) have
    walk (suc d) b most le a begins have = by_lt b (length marks)
        (λ o.
        let some = begins o in
        let ends = part-ends (k + 1) b (length marks) runs a o in
        let p = span-pos (k + 1) in
        let small : (marks_live (mark b) ≡ true → span (mark b) < n) → span (mark b) ≤ n → 4 * length marks ≤ n * T (length marks) = λ s t.
        let v = part-live b a ends some s in let lo = v.1 in let hi = v.2 in
        let up = risen-to b v.0 lo in let here = total-live marks words v.0 v.3 in
        let long = part-long v.0 (λ z. let q = live-above (mark v.0) v.3 in omega (arith, z, q)) in let sp = span-pos (mark v.0) in
        let on = risen-to (v.0 + 1) (b + n) (omega (arith, hi)) in
        walk d (b + n) (omega (arith, most, p)) ends (multiple-next (k + 1) b a) (λ q. part-begins b a some t q)
        (more-small (k + 1) (T b) (T (b + n)) b (omega (arith, up, here, long, sp, on)) have) in
        let j = class-at (mark b) some (laid.known b) in
        let e : span (mark b) ≡ span (j.0 + 1) = j.2 in
        elim (marks_live (mark b)) as (λ v. marks_live (mark b) ≡ v → 4 * length marks ≤ n * T (length marks)) [
          | true ↦ λ live. by_lt (span (mark b)) n
              (λ less. small (λ _. less) (omega (arith, less)))
              (λ more.
              let here = total-live marks words b live in let long = part-long b some in
              let on = risen-to (b + 1) (b + span (mark b)) (let sp = span-pos (mark b) in omega (arith, sp)) in
              let inside = laid.inside b some in let sp = span-pos (mark b) in
              let kj : k ≤ j.0 = class-le k j.0 l j.1 (omega (arith, more, e)) in
              let al : (b + span (mark b)) % n ≡ 0 = divides-le j.0 k (b + span (mark b)) kj j.1
              (subst (λ s. (b + span (mark b)) % s ≡ 0) e (multiple-next (mark b) b (laid.aligned b some))) in
              walk d (b + span (mark b)) (omega (arith, most, sp)) inside al (λ q. next-begins b some q)
              (more-big (k + 1) (T b) (T (b + span (mark b))) b (span (mark b)) (omega (arith, here, long, on)) have))
          | false ↦ λ dead.
              let f = free-class (mark b) some (laid.known b) dead in
              let fs : span (mark b) ≡ span (f.0 + 1) = ap span f.2 ∙ span-freed f.0 f.1 in
              let r = free-ready f.0 b f.1 f.2 in
              small (λ _. omega (arith, r, none, fs)) (omega (arith, r, none, fs))
        ] refl)
        (λ o. subst (λ i. 4 * i ≤ n * T i) (omega (arith, o, le)) have)

    -- the words taken from the machine are at most so many times those in live blocks
    pub fills : length marks * 4 ≤ n * total_words (blocks_of marks words)
    fills =
        let w = walk (length marks) 0 (omega arith) (omega arith) (zero-multiple (k + 1))
        (λ o. let c = laid.covered 0 o in let le = c.2 in subst (λ i. mark i ≢ 0) (omega (arith, le)) c.1) (omega arith) in
        let whole = ap (λ ms. total_words (blocks_of ms words)) (take_all (length marks) marks (omega arith)) in
        subst (λ t. length marks * 4 ≤ n * t) whole (omega (arith, w))
