-- What the crates above may use of the size of a block, and the class of a size.
use Rattle.std.proofs.Common.{◌≡◌, ℕ, ◌≤◌, ◌<◌, ◌*◌, length, arith, leb, sym, subst, Bool, true, false, cond, ap, ◌∙◌, refl}
use Rattle.std.proofs.Common.{◌+◌, ◌-◌, ◌^◌, zero, suc, ◌&&◌, ◌||◌, ◌/◌}
use lib.Count.{count_leading_zeros}
use Rattle.judy_arena.proofs.Chains.{by_eq, by_lt}
use Rattle.judy_arena.proofs.ReadyLaws.{size-pow}
use Rattle.judy_arena.proofs.Cutting.{size-le}
use Rattle.judy_arena.proofs.Cuts.{by_class}
use Rattle.std.proofs.lemmas.Bool.Decides.{nat_tests}
use Rattle.std.proofs.lemmas.List.{length-replicate}
use Rattle.std.proofs.lemmas.Bool.{and_parts}
use Rattle.judy_arena.specs.Blocks.{zeros}
use Rattle.judy_arena.specs.Layout.{span, size_of}
use Rattle.judy_arena.specs.Room.{room, room_is, RoomCovers, RoomIsLeast, RoomIsTight}

-- one of two sizes
choice : (len k other : ℕ) → len ≤ other → len ≤ cond (leb len k) k other
choice len k other h = elim (leb len k) as (λ b. leb len k ≡ b → len ≤ cond b k other) [ true ↦ λ e. grind (arith, nat_tests, e) | false ↦ λ e. h ] refl

-- a block has at least the words that were asked for: all that callers may know of `room`
pub room-covers : RoomCovers
room-covers len = rw (room_is len)
    (choice len 4 _
    (choice len 8 _
    (choice len 16 _
    (choice len 32 _ (choice len 64 _ (choice len 128 _ (choice len 256 _ (choice len 512 len (omega arith)))))))))

-- this many zeros are this many words
pub length-zeros : (n : ℕ) → length (zeros n) ≡ n
unfolding zeros
length-zeros n = length-replicate n 0

-- the size of each class
pub sizes : (size_of 0 ≡ 4) × (size_of 1 ≡ 8) × (size_of 2 ≡ 16) × (size_of 3 ≡ 32) × (size_of 4 ≡ 64) × (size_of 5 ≡ 128)
    × (size_of 6 ≡ 256) × (size_of 7 ≡ 512)
unfolding span
sizes = (refl, refl, refl, refl, refl, refl, refl, refl)

-- a size that is too small, and one that holds the words
above : (len k other : ℕ) → k < len → cond (leb len k) k other ≡ other
above len k other h = elim (leb len k) as (λ b. leb len k ≡ b → cond b k other ≡ other)
    [ true ↦ λ e. absurd (let l : len ≤ k = grind (arith, nat_tests, e) in omega (arith, l, h)) | false ↦ λ e. refl ] refl

within : (len k other : ℕ) → len ≤ k → cond (leb len k) k other ≡ k
within len k other h = elim (leb len k) as (λ b. leb len k ≡ b → cond b k other ≡ k)
    [ true ↦ λ e. refl | false ↦ λ e. absurd (let l : k < len = grind (arith, nat_tests, e) in omega (arith, l, h)) ] refl

-- the size for this many words is that of the least class that holds them
abbrev IsRoomOf : ℕ → ℕ → Type 0
IsRoomOf len r = len ≤ size_of r → (0 < r → size_of (r - 1) < len) → room len ≡ size_of r

module _ (len : ℕ) where
  abbrev r512 : ℕ
  r512 = cond (leb len 512) 512 len

  abbrev r256 : ℕ
  r256 = cond (leb len 256) 256 r512

  abbrev r128 : ℕ
  r128 = cond (leb len 128) 128 r256

  abbrev r64 : ℕ
  r64 = cond (leb len 64) 64 r128

  abbrev r32 : ℕ
  r32 = cond (leb len 32) 32 r64

  abbrev r16 : ℕ
  r16 = cond (leb len 16) 16 r32

  abbrev r8 : ℕ
  r8 = cond (leb len 8) 8 r16

  to8 : 4 < len → room len ≡ r8
  to8 h = room_is len ∙ above len 4 r8 h

  to16 : 8 < len → room len ≡ r16
  to16 h = to8 (omega (arith, h)) ∙ above len 8 r16 h

  to32 : 16 < len → room len ≡ r32
  to32 h = to16 (omega (arith, h)) ∙ above len 16 r32 h

  to64 : 32 < len → room len ≡ r64
  to64 h = to32 (omega (arith, h)) ∙ above len 32 r64 h

  to128 : 64 < len → room len ≡ r128
  to128 h = to64 (omega (arith, h)) ∙ above len 64 r128 h

  to256 : 128 < len → room len ≡ r256
  to256 h = to128 (omega (arith, h)) ∙ above len 128 r256 h

  to512 : 256 < len → room len ≡ r512
  to512 h = to256 (omega (arith, h)) ∙ above len 256 r512 h

  pub room-at : (r : ℕ) → r < 8 → IsRoomOf len r
  unfolding span
  room-at r l = by_class (IsRoomOf len)
      (λ h o. room_is len ∙ within len 4 r8 h)
      (λ h o. to8 (o (omega arith)) ∙ within len 8 r16 h)
      (λ h o. to16 (o (omega arith)) ∙ within len 16 r32 h)
      (λ h o. to32 (o (omega arith)) ∙ within len 32 r64 h)
      (λ h o. to64 (o (omega arith)) ∙ within len 64 r128 h)
      (λ h o. to128 (o (omega arith)) ∙ within len 128 r256 h)
      (λ h o. to256 (o (omega arith)) ∙ within len 256 r512 h)
      (λ h o. to512 (o (omega arith)) ∙ within len 512 len h) r l

-- a test of each number below a bound
every : (ℕ → Bool) → ℕ → Bool
every p zero = true
every p (suc n) = p n && every p n

every-at : (p : ℕ → Bool) (n : ℕ) → every p n ≡ true → (k : ℕ) → k < n → p k ≡ true
unfolding every
every-at p zero e k l = absurd (omega (arith, l))
every-at p (suc n) e k l = by_eq k n (λ i. ap p i ∙ both-first (p n) (every p n) e)
    (λ d. every-at p n (both-second (p n) (every p n) e) k (omega (arith, l, d)))
  where
    both-first : (a b : Bool) → (a && b) ≡ true → a ≡ true
    both-first true b h = refl
    both-first false b h = h

    both-second : (a b : Bool) → (a && b) ≡ true → b ≡ true
    both-second true b h = h
    both-second false b h = cc

-- the class for 4 x + 1 to 4 x + 4 words
abbrev pub class_at : ℕ → ℕ
class_at x = 8 - count_leading_zeros 8 x

abbrev fits : ℕ → Bool
fits x = leb (class_at x + 1) 8 && (leb (4 * x + 4) (4 * 2 ^ class_at x) && (leb (class_at x) 0 || leb (4 * 2 ^ (class_at x - 1)) (4 * x)))

all_fit : every fits 128 ≡ true
unfolding every count_leading_zeros
all_fit = refl

pub record ClassAt (x r : ℕ) : Type 0 where
  pub below : r < 8
  pub holds : 4 * x + 4 ≤ size_of r
  pub least : 0 < r → size_of (r - 1) ≤ 4 * x

-- one of two tests
either : {P : Type 0} (a b : Bool) → (a || b) ≡ true → (a ≡ true → P) → (b ≡ true → P) → P
either true b h f g = f refl
either false b h f g = g h

-- a test of an order
at-most : (a b : ℕ) → leb a b ≡ true → a ≤ b
at-most a b e = grind (arith, nat_tests, e)

-- what the test says
class-by : (x r : ℕ) → (leb (r + 1) 8 && (leb (4 * x + 4) (4 * 2 ^ r) && (leb r 0 || leb (4 * 2 ^ (r - 1)) (4 * x)))) ≡ true → ClassAt x r
class-by x r e =
    let t = and_parts (leb (r + 1) 8) _ e in
    let u = and_parts (leb (4 * x + 4) (4 * 2 ^ r)) _ t.1 in
    let b = at-most (r + 1) 8 t.0 in
    let below : r < 8 = omega (arith, b) in
    let h = at-most (4 * x + 4) (4 * 2 ^ r) u.0 in
    let s = size-pow r below in
    record {
      below = below;
      holds = omega (arith, h, s);
      least = λ p. either (leb r 0) _ u.1 (λ z. let y = at-most r 0 z in absurd (omega (arith, y, p)))
          (λ z. let y = at-most (4 * 2 ^ (r - 1)) (4 * x) z in
          let q = size-pow (r - 1) (omega (arith, below)) in omega (arith, y, q));
    }

pub class-at : (x r : ℕ) → x < 128 → r ≡ class_at x → ClassAt x r
class-at x r l e = class-by x r (rw e (every-at fits 128 all_fit x l))

-- the class for this many words
pub record ClassFor (len r : ℕ) : Type 0 where
  pub below : r < 8
  pub is : room len ≡ size_of r
  pub holds : len ≤ size_of r
  pub least : (k : ℕ) → k < 8 → len ≤ size_of k → r ≤ k

pub class-for : (len r : ℕ) → 1 ≤ len → len ≤ 512 → r ≡ class_at ((len - 1) / 4) → ClassFor len r
class-for len r some most e =
    let c = class-at ((len - 1) / 4) r (omega (arith, most)) e in
    let h = c.holds in
    let holds : len ≤ size_of r = omega (arith, h, some) in
    let short : 0 < r → size_of (r - 1) < len = λ p. (let l = c.least p in omega (arith, l, some)) in
    record {
      below = c.below;
      is = room-at len r c.below holds short;
      holds = holds;
      least = λ k l m. by_lt k r (λ o. let s = short (omega (arith, o)) in let b = c.below in
          let t = size-le k (r - 1) (omega (arith, o)) (omega (arith, b)) in absurd (omega (arith, s, t, m))) (λ o. o);
    }

-- one of two sizes is no more than a bound
either_most : (b : Bool) (k other m : ℕ) → k ≤ m → other ≤ m → cond b k other ≤ m
either_most true k other m l r = l
either_most false k other m l r = r

-- a size is one of the eight
abbrev IsSize : ℕ → Type 0
IsSize s = (k : ℕ) × ((k < 8) × (s ≡ 4 * 2 ^ k))

either_size : (b : Bool) (s other : ℕ) → IsSize s → IsSize other → IsSize (cond b s other)
either_size true s other l r = l
either_size false s other l r = r

class-of : (len : ℕ) → len ≤ 512 → IsSize (room len)
class-of len h =
    subst IsSize (sym (room_is len)) (either_size (leb len 4) 4 (r8 len) (0, (omega arith, refl))
    (either_size (leb len 8) 8 (r16 len) (1, (omega arith, refl))
    (either_size (leb len 16) 16 (r32 len) (2, (omega arith, refl))
    (either_size (leb len 32) 32 (r64 len) (3, (omega arith, refl))
    (either_size (leb len 64) 64 (r128 len) (4, (omega arith, refl))
    (either_size (leb len 128) 128 (r256 len) (5, (omega arith, refl))
    (either_size (leb len 256) 256 (r512 len) (6, (omega arith, refl)) (7, (omega arith, within len 512 len h)))))))))

-- no size that holds this many words is below
least-of : (len k : ℕ) → len ≤ 4 * 2 ^ k → k < 8 → room len ≤ 4 * 2 ^ k
least-of len k h l = by_class (λ k. len ≤ 4 * 2 ^ k → room len ≤ 4 * 2 ^ k)
    (λ h. let e = room_is len in let w = within len 4 (r8 len) h in omega (arith, e, w))
    (λ h. let e = room_is len in let w = within len 8 (r16 len) h in
    let u = either_most (leb len 4) 4 (r8 len) 8 (omega arith) (omega (arith, w)) in omega (arith, e, u))
    (λ h. let e = room_is len in let w = within len 16 (r32 len) h in
    let u = either_most (leb len 4) 4 (r8 len) 16 (omega arith) (either_most (leb len 8) 8 (r16 len) 16 (omega arith)
    (omega (arith, w))) in omega (arith, e, u))
    (λ h. let e = room_is len in let w = within len 32 (r64 len) h in
    let u = either_most (leb len 4) 4 (r8 len) 32 (omega arith) (either_most (leb len 8) 8 (r16 len) 32 (omega arith)
    (either_most (leb len 16) 16 (r32 len) 32 (omega arith) (omega (arith, w)))) in omega (arith, e, u))
    (λ h. let e = room_is len in let w = within len 64 (r128 len) h in
    let u = either_most (leb len 4) 4 (r8 len) 64 (omega arith) (either_most (leb len 8) 8 (r16 len) 64 (omega arith)
    (either_most (leb len 16) 16 (r32 len) 64 (omega arith) (either_most (leb len 32) 32 (r64 len) 64 (omega arith)
    (omega (arith, w))))) in omega (arith, e, u))
    (λ h. let e = room_is len in let w = within len 128 (r256 len) h in
    let u = either_most (leb len 4) 4 (r8 len) 128 (omega arith) (either_most (leb len 8) 8 (r16 len) 128 (omega arith)
    (either_most (leb len 16) 16 (r32 len) 128 (omega arith) (either_most (leb len 32) 32 (r64 len) 128 (omega arith)
    (either_most (leb len 64) 64 (r128 len) 128 (omega arith) (omega (arith, w)))))) in omega (arith, e, u))
    (λ h. let e = room_is len in let w = within len 256 (r512 len) h in
    let u = either_most (leb len 4) 4 (r8 len) 256 (omega arith) (either_most (leb len 8) 8 (r16 len) 256 (omega arith)
    (either_most (leb len 16) 16 (r32 len) 256 (omega arith) (either_most (leb len 32) 32 (r64 len) 256 (omega arith)
    (either_most (leb len 64) 64 (r128 len) 256 (omega arith) (either_most (leb len 128) 128 (r256 len) 256 (omega arith)
    (omega (arith, w))))))) in omega (arith, e, u))
    (λ h. let e = room_is len in let w = within len 512 len h in
    let u = either_most (leb len 4) 4 (r8 len) 512 (omega arith) (either_most (leb len 8) 8 (r16 len) 512 (omega arith)
    (either_most (leb len 16) 16 (r32 len) 512 (omega arith) (either_most (leb len 32) 32 (r64 len) 512 (omega arith)
    (either_most (leb len 64) 64 (r128 len) 512 (omega arith) (either_most (leb len 128) 128 (r256 len) 512 (omega arith)
    (either_most (leb len 256) 256 (r512 len) 512 (omega arith) (omega (arith, w)))))))) in omega (arith, e, u))
    k l h

pub room-least : RoomIsLeast
room-least = record { class = class-of; least = least-of }

-- above the greatest size nothing is added
whole : (len : ℕ) → 512 < len → room len ≡ len
whole len h = to512 len (omega (arith, h)) ∙ above len 512 len h

-- a size that is more than half too large is not taken
double : (len k other : ℕ) → k ≤ 2 * len → (k < len → other ≤ 2 * len) → cond (leb len k) k other ≤ 2 * len
double len k other h next = elim (leb len k) as (λ b. leb len k ≡ b → cond b k other ≤ 2 * len)
    [ true ↦ λ e. h | false ↦ λ e. next (let l : k < len = grind (arith, nat_tests, e) in omega (arith, l)) ] refl

room-twice : (len : ℕ) → 4 ≤ len → room len ≤ 2 * len
room-twice len h =
    let e = room_is len in
    let u = double len 4 (r8 len) (omega (arith, h))
    (λ a. double len 8 (r16 len) (omega (arith, a)) (λ b. double len 16 (r32 len) (omega (arith, b))
    (λ c. double len 32 (r64 len) (omega (arith, c))
    (λ d. double len 64 (r128 len) (omega (arith, d)) (λ f. double len 128 (r256 len) (omega (arith, f))
    (λ g. double len 256 (r512 len) (omega (arith, g)) (λ i. double len 512 len (omega (arith, i)) (λ j. omega arith)))))))) in
    omega (arith, e, u)

room-most : (len : ℕ) → len ≤ 512 → room len ≤ 512
room-most len h = let l = least-of len 7 h (omega arith) in omega (arith, l)

room-rises : (len more : ℕ) → len ≤ more → room len ≤ room more
room-rises len more h = by_lt 512 more
    (λ big. let e = whole more big in by_lt 512 len
    (λ and_parts. let f = whole len and_parts in omega (arith, e, f, h))
    (λ small. let m = room-most len small in omega (arith, e, m, big)))
    (λ small. let c = class-of more small in let r = room-covers more in let i = c.1.1 in
    let l = least-of len c.0 (omega (arith, h, r, i)) c.1.0 in omega (arith, l, i))

room-again : (len : ℕ) → room (room len) ≡ room len
room-again len = by_lt 512 len
    (λ big. ap room (whole len big))
    (λ small. let c = class-of len small in let r = room-covers (room len) in let i = c.1.1 in
    let l = least-of (room len) c.0 (omega (arith, i)) c.1.0 in omega (arith, r, l, i))

pub room-tight : RoomIsTight
room-tight = record { small = λ len h. room_is len ∙ within len 4 (r8 len) h; twice = room-twice; most = room-most; rises = room-rises; again = room-again }

-- more words need no smaller block
pub room-mono : (m n : ℕ) → m ≤ n → room m ≤ room n
room-mono m n h = room-tight.rises m n h
