-- How large the blocks of leaves are.
use Rattle.std.proofs.Common.{◌≡◌, ◌⊎◌, inl, inr, ℕ, zero, suc, ◌+◌, ◌*◌, ◌<◌, ◌≤◌, ◌^◌, Bool, true, false, cond, List, length}
use Rattle.std.proofs.Common.{take, ap, sym, ◌∙◌, subst, arith}
use Rattle.std.proofs.lemmas.Bool.{cases_lt}
use lib.ListN.{length-take}
use Rattle.std.proofs.lemmas.List.{length-replicate}
use Rattle.judy_arena.specs.Blocks.{zeros}
use Rattle.judy_arena.specs.Room.{room}
use Rattle.judy_arena.proofs.lemmas.RoomLaws.{room-covers, room-least, room-tight}
use Rattle.judy_leaf.specs.Linear.{linear_size, leaf_count}
use Rattle.judy_leaf.specs.Bytes.{bitmap_size}
use Rattle.judy_leaf.specs.Leaf.{IsSized}

pub covers : (n : ℕ) → n ≤ room n
covers n = room-covers n

-- more words that the block still holds leave its size
pub stays : (m n : ℕ) → m ≤ n → n ≤ room m → room m ≡ room n
stays m n h k = let a = room-tight.rises m n h in let b = room-tight.rises n (room m) k in let c = room-tight.again m in omega (arith, a, b, c)

-- the sizes above 4 and above 8
above4 : (k r : ℕ) → r ≡ 4 * 2 ^ k → 4 < r → 8 ≤ r
above4 zero r e h = absurd (omega (arith, e, h))
above4 (suc k) r e h = let p : 4 * 2 ^ suc k ≡ 8 * 2 ^ k = omega arith in let q : 1 ≤ 2 ^ k = power k in omega (arith, p, q, e)
  where
    power : (k : ℕ) → 1 ≤ 2 ^ k
    power zero = omega arith
    power (suc k) = let h = power k in omega (arith, h)

above8 : (k r : ℕ) → r ≡ 4 * 2 ^ k → 8 < r → 16 ≤ r
above8 zero r e h = absurd (omega (arith, e, h))
above8 (suc zero) r e h = absurd (omega (arith, e, h))
above8 (suc (suc k)) r e h = let p : 4 * 2 ^ suc (suc k) ≡ 16 * 2 ^ k = omega arith in let q : 1 ≤ 2 ^ k = power k in omega (arith, p, q, e)
  where
    power : (k : ℕ) → 1 ≤ 2 ^ k
    power zero = omega arith
    power (suc k) = let h = power k in omega (arith, h)

at_least8 : (n : ℕ) → 5 ≤ n → n ≤ 512 → 8 ≤ room n
at_least8 n h most = let c = room-least.class n most in let r = covers n in above4 c.0 (room n) c.1.1 (omega (arith, r, h))

at_least16 : (n : ℕ) → 9 ≤ n → n ≤ 512 → 16 ≤ room n
at_least16 n h most = let c = room-least.class n most in let r = covers n in above8 c.0 (room n) c.1.1 (omega (arith, r, h))

-- a bitmap leaf has room for the linear leaf of 7 keys that it may become
pub backed : (v : Bool) (n : ℕ) → 8 ≤ n → n ≤ 257 → cond v 15 8 ≤ room (bitmap_size v n)
backed true n h most = let r = at_least16 (6 + n) (omega (arith, h)) (omega (arith, most)) in omega (arith, r)
backed false n h most = at_least8 6 (omega arith) (omega arith)

-- and the linear leaf of 7 keys has a block no larger
pub seven : (v : Bool) → room (linear_size v 7) ≤ room (bitmap_size v 8)
seven true = let r = at_least16 14 (omega arith) (omega arith) in let l = room-least.least 15 2 (omega arith) (omega arith) in omega (arith, r, l)
seven false = let r = at_least8 6 (omega arith) (omega arith) in let l = room-least.least 8 1 (omega arith) (omega arith) in omega (arith, r, l)

-- a bitmap leaf of 32 keys has a block no larger than a linear one of 31
pub fewer_words : (v : Bool) → bitmap_size v 32 ≤ linear_size v 31
fewer_words true = omega arith
fewer_words false = omega arith

-- a block that is cut to the size for fewer words
pub cut-size : (m n : ℕ) (ws : List ℕ) → length ws ≡ room n → room m ≤ room n → length (take (room m) ws) ≡ room m
cut-size m n ws e h = let l = length-take (room m) ws in omega (arith, l, e, h)

-- one key more in the block that there is
pub still-sized : (g : ℕ → ℕ) (f x w : List ℕ) (len : ℕ) → g (leaf_count f) ≤ g (leaf_count f + 1) → IsSized (g (leaf_count f)) f
    → x ≡ f → length w ≡ length f → leaf_count w ≡ leaf_count f + 1
    → len ≡ g (leaf_count x + 1) → len ≤ length x → IsSized (g (leaf_count w)) w
still-sized g f x w len more sized is size count len_is fits =
    let k : len ≡ g (leaf_count f + 1) = len_is ∙ ap (λ y. g (leaf_count y + 1)) is in
    let fit : g (leaf_count f + 1) ≤ room (g (leaf_count f)) = subst (λ m. m ≤ room (g (leaf_count f))) k (subst (λ m. len ≤ m) (ap length is ∙ sized) fits) in
    size ∙ sized ∙ stays (g (leaf_count f)) (g (leaf_count f + 1)) more fit ∙ ap (λ m. room (g m)) (sym count)

-- one key more in a block that was taken for it
pub newly-sized : (g : ℕ → ℕ) (f x w new : List ℕ) (len : ℕ) → x ≡ f → length w ≡ length new → length new ≡ room len
    → leaf_count w ≡ leaf_count f + 1 → len ≡ g (leaf_count x + 1) → IsSized (g (leaf_count w)) w
newly-sized g f x w new len is size sized count len_is =
    size ∙ sized ∙ ap room (len_is ∙ ap (λ y. g (leaf_count y + 1)) is ∙ ap g (sym count))

-- a block that was cut
pub cut-sized : (g : ℕ → ℕ) (s n : ℕ) (w : List ℕ) → length w ≡ room n → room s ≤ room n → s ≡ g (leaf_count w)
    → leaf_count (take (room s) w) ≡ leaf_count w → IsSized (g (leaf_count (take (room s) w))) (take (room s) w)
cut-sized g s n w e less is same = cut-size s n w e less ∙ ap room (is ∙ ap g (sym same))

-- a block that was just taken
pub taken-sized : (g : ℕ → ℕ) (len : ℕ) (w : List ℕ) → length w ≡ length (zeros (room len)) → len ≡ g (leaf_count w) → IsSized (g (leaf_count w)) w
unfolding zeros
taken-sized g len w size is = size ∙ length-replicate (room len) 0 ∙ ap room is

-- a key more takes no fewer words
pub bitmap-more : (v : Bool) (n : ℕ) → bitmap_size v n ≤ bitmap_size v (n + 1)
bitmap-more true n = omega arith
bitmap-more false n = omega arith

pub bitmap-less : (v : Bool) (m n : ℕ) → m ≤ n → bitmap_size v m ≤ bitmap_size v n
bitmap-less true m n h = omega (arith, h)
bitmap-less false m n h = omega arith

pub bitmap-most : (v : Bool) (n : ℕ) → n ≤ 257 → bitmap_size v n ≤ 512
bitmap-most true n h = omega (arith, h)
bitmap-most false n h = omega arith

-- at most 4 words a key
module _ (len n : ℕ) where
  at_most : (k : ℕ) → k < 8 → len ≤ 4 * 2 ^ k → 4 * 2 ^ k ≤ 4 * n → room len ≤ 4 * n
  at_most k small holds few = let l = room-least.least len k holds small in omega (arith, l, few)

pub linear-spare : (v : Bool) (n : ℕ) → 0 < n → n ≤ 31 → room (linear_size v n) ≤ 4 * n
linear-spare v n some few = by v (cases_lt n 2) (cases_lt n 4) (cases_lt n 8) (cases_lt n 16)
  where
    by : (v : Bool) → (n < 2) ⊎ (2 ≤ n) → (n < 4) ⊎ (4 ≤ n) → (n < 8) ⊎ (8 ≤ n) → (n < 16) ⊎ (16 ≤ n) → room (linear_size v n) ≤ 4 * n
    by true (inl a) b c d = at_most (1 + 2 * n) n 0 (omega arith) (omega (arith, a)) (omega (arith, some))
    by true (inr a) (inl b) c d = at_most (1 + 2 * n) n 1 (omega arith) (omega (arith, b)) (omega (arith, a))
    by true (inr a) (inr b) (inl c) d = at_most (1 + 2 * n) n 2 (omega arith) (omega (arith, c)) (omega (arith, b))
    by true (inr a) (inr b) (inr c) (inl d) = at_most (1 + 2 * n) n 3 (omega arith) (omega (arith, d)) (omega (arith, c))
    by true (inr a) (inr b) (inr c) (inr d) = at_most (1 + 2 * n) n 4 (omega arith) (omega (arith, few)) (omega (arith, d))
    by false (inl a) b c d = at_most (1 + n) n 0 (omega arith) (omega (arith, a)) (omega (arith, some))
    by false (inr a) (inl b) c d = at_most (1 + n) n 1 (omega arith) (omega (arith, b)) (omega (arith, a))
    by false (inr a) (inr b) (inl c) d = at_most (1 + n) n 2 (omega arith) (omega (arith, c)) (omega (arith, b))
    by false (inr a) (inr b) (inr c) (inl d) = at_most (1 + n) n 3 (omega arith) (omega (arith, d)) (omega (arith, c))
    by false (inr a) (inr b) (inr c) (inr d) = at_most (1 + n) n 4 (omega arith) (omega (arith, few)) (omega (arith, d))

pub bitmap-spare : (v : Bool) (n : ℕ) → 8 ≤ n → n ≤ 256 → room (bitmap_size v n) ≤ 4 * n
bitmap-spare false n some few = at_most 6 n 1 (omega arith) (omega arith) (omega (arith, some))
bitmap-spare true n some few = by (cases_lt n 11) (cases_lt n 27) (cases_lt n 59) (cases_lt n 123) (cases_lt n 251)
  where
    by : (n < 11) ⊎ (11 ≤ n) → (n < 27) ⊎ (27 ≤ n) → (n < 59) ⊎ (59 ≤ n) → (n < 123) ⊎ (123 ≤ n) → (n < 251) ⊎ (251 ≤ n) → room (6 + n) ≤ 4 * n
    by (inl a) b c d e = at_most (6 + n) n 2 (omega arith) (omega (arith, a)) (omega (arith, some))
    by (inr a) (inl b) c d e = at_most (6 + n) n 3 (omega arith) (omega (arith, b)) (omega (arith, a))
    by (inr a) (inr b) (inl c) d e = at_most (6 + n) n 4 (omega arith) (omega (arith, c)) (omega (arith, b))
    by (inr a) (inr b) (inr c) (inl d) e = at_most (6 + n) n 5 (omega arith) (omega (arith, d)) (omega (arith, c))
    by (inr a) (inr b) (inr c) (inr d) (inl e) = at_most (6 + n) n 6 (omega arith) (omega (arith, e)) (omega (arith, d))
    by (inr a) (inr b) (inr c) (inr d) (inr e) = at_most (6 + n) n 7 (omega arith) (omega (arith, few)) (omega (arith, e))

-- a block of the size for this many words holds them
pub holds_len : (len : ℕ) (ws : List ℕ) → length ws ≡ room len → len ≤ length ws
holds_len len ws e = subst (λ m. len ≤ m) (sym e) (covers len)
