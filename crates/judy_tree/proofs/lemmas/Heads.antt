-- The bytes of a key up to one level, as a number.
use Rattle.std.proofs.Common.{◌≡◌, ◌≢◌, ℕ, zero, suc, ◌+◌, ◌-◌, ◌*◌, ◌/◌, ◌%◌, ◌^◌, ◌<◌, ◌≤◌, ap, sym, ◌∙◌, refl, arith}
use lib.Pow.{pow_mono}
use Rattle.std.proofs.Math.Nat.{mul-le-mul_left, div-mul-le_self, div-lt_iff_lt-mul, div-div-eq-div-mul, mul-le-mul_right, mod-eq_of_lt, mul-div_cancel, mul-mod_left}
use Rattle.std.proofs.lemmas.Nat.{pow-add, pow_pos, mod-pow-add}
use Rattle.judy_tree.specs.Nodes.{head_at}

-- a key with a lower head is lower
pub head-less : (l x k : ℕ) → head_at l x < head_at l k → x < k
unfolding head_at
head-less l x k h =
    let p : ℕ = 2 ^ (56 - 8 * l) in
    let a : x < k / p * p = (div-lt_iff_lt-mul (pow_pos (56 - 8 * l))).0 h in
    let b : k / p * p ≤ k = div-mul-le_self k p in
    omega (arith, a, b)

-- a key has at most seven bytes before the last one
pub head-small : (l k : ℕ) → l ≤ 6 → k < 18446744073709551616 → head_at l k < 72057594037927936
unfolding head_at
head-small l k low fits =
    let p : ℕ = 2 ^ (56 - 8 * l) in
    let wide : 2 ^ 8 ≤ p = pow_mono {i = 8} {j = 56 - 8 * l} (omega arith) in
    let more : 72057594037927936 * 2 ^ 8 ≤ 72057594037927936 * p = mul-le-mul_left 72057594037927936 wide in
    (div-lt_iff_lt-mul (pow_pos (56 - 8 * l))).1 (omega arith)

-- the head at an earlier level
pub head-of-head : (m l k : ℕ) → m ≤ l → l ≤ 7 → head_at m k ≡ head_at l k / 2 ^ (8 * l - 8 * m)
unfolding head_at
head-of-head m l k h s =
    let e : 56 - 8 * m ≡ (56 - 8 * l) + (8 * l - 8 * m) = omega arith in
    ap (λ n. k / 2 ^ n) e ∙ ap (λ n. k / n) (pow-add 2 (56 - 8 * l) (8 * l - 8 * m)) ∙ sym (div-div-eq-div-mul k (2 ^ (56 - 8 * l)) (2 ^ (8 * l - 8 * m)))

-- keys that agree up to a level agree up to an earlier one
pub head-earlier : (m l x k : ℕ) → m ≤ l → l ≤ 7 → head_at l x ≡ head_at l k → head_at m x ≡ head_at m k
head-earlier m l x k h s e = head-of-head m l x h s ∙ ap (λ n. n / 2 ^ (8 * l - 8 * m)) e ∙ sym (head-of-head m l k h s)

-- the prefix of a branch has no byte at its level
pub prefix-head : (l p : ℕ) → l ≤ 6 → p % 2 ^ (64 - 8 * l) ≡ 0 → head_at l p % 256 ≡ 0
unfolding head_at
prefix-head l p s z =
    let e : 64 - 8 * l ≡ 8 + (56 - 8 * l) = omega arith in
    let u : ℕ = 2 ^ (56 - 8 * l) in
    let m : p % 2 ^ (8 + (56 - 8 * l)) ≡ (p / u % 256) * u + p % u = mod-pow-add p 8 (56 - 8 * l) in
    let n : (p / u % 256) * u + p % u ≡ 0 = sym m ∙ ap (λ n. p % 2 ^ n) (sym e) ∙ z in
    product (p / u % 256) u (pow_pos (56 - 8 * l)) (omega arith)
  where
    product : (a u : ℕ) → 0 < u → a * u ≡ 0 → a ≡ 0
    product zero u h e = refl
    product (suc a) u h e = absurd (let x : suc a * u ≡ a * u + u = more a u in omega arith)
      where
        more : (a u : ℕ) → suc a * u ≡ a * u + u
        more a u = grind arith

-- keys below a branch have its prefix
pub prefix-earlier : (m l k p x : ℕ) → m < l → l ≤ 6 → x < 256 → p % 2 ^ (64 - 8 * l) ≡ 0 → head_at l k ≡ head_at l p + x → head_at m k ≡ head_at m p
prefix-earlier m l k p x h s b z e =
    let t = prefix-head l p s z in
    let last : head_at (l - 1) k ≡ head_at (l - 1) p =
    head-of-head (l - 1) l k (omega arith) (omega arith) ∙ ap (λ n. head_at l k / 2 ^ n) (eight l (omega arith))
    ∙ ap (λ n. n / 256) e ∙ same (head_at l p) x t b
    ∙ sym (head-of-head (l - 1) l p (omega arith) (omega arith) ∙ ap (λ n. head_at l p / 2 ^ n) (eight l (omega arith))) in
    head-earlier m (l - 1) k p (omega arith) (omega arith) last
  where
    eight : (l : ℕ) → 0 < l → 8 * l - 8 * (l - 1) ≡ 8
    eight l h = omega arith

    same : (a x : ℕ) → a % 256 ≡ 0 → x < 256 → (a + x) / 256 ≡ a / 256
    same a x h b = omega arith

-- the bytes of a key before the level, as the code computes them
pub prefix-made : (l k p : ℕ) → l ≤ 6 → k < 18446744073709551616 → p ≡ (k / 2 ^ (56 - 8 * l) - k / 2 ^ (56 - 8 * l) % 256) * 2 ^
    (56 - 8 * l) % 18446744073709551616 → (p % 2 ^ (64 - 8 * l) ≡ 0) × (head_at l p + head_at l k % 256 ≡ head_at l k)
unfolding head_at
prefix-made l k p s small is =
    let u : ℕ = 2 ^ (56 - 8 * l) in
    let q : ℕ = k / u - k / u % 256 in
    let a : q * u ≤ k / u * u = mul-le-mul_right u (omega arith) in
    let b : k / u * u ≤ k = div-mul-le_self k u in
    let e : p ≡ q * u = is ∙ mod-eq_of_lt (omega arith) in
    let d : p / u ≡ q = ap (λ n. n / u) e ∙ mul-div_cancel q (pow_pos (56 - 8 * l)) in
    let m : p % u ≡ 0 = ap (λ n. n % u) e ∙ mul-mod_left q u in
    let w : 64 - 8 * l ≡ 8 + (56 - 8 * l) = omega arith in
    let r : q % 256 ≡ 0 = omega arith in (
      ap (λ n. p % 2 ^ n) w ∙ mod-pow-add p 8 (56 - 8 * l) ∙ ap (λ n. (n % 256) * u + p % u) d ∙ ap (λ n. n * u + p % u) r ∙ ap (λ n. 0 * u + n) m ∙ none u,
      omega arith,
    )
  where
    none : (u : ℕ) → 0 * u + 0 ≡ 0
    none u = omega arith

first_small : (k : ℕ) → k < 18446744073709551616 → head_at 0 k / 256 ≡ 0
unfolding head_at
first_small k h = small (k / 72057594037927936) (omega arith)
  where
    small : (n : ℕ) → n < 256 → n / 256 ≡ 0
    small n h = omega arith

-- keys that agree before a level agree above their bytes there
pub same-above : (l a b : ℕ) → l ≤ 7 → a < 18446744073709551616 → b < 18446744073709551616
    → ((m : ℕ) → m < l → head_at m a ≡ head_at m b) → head_at l a / 256 ≡ head_at l b / 256
same-above zero a b s x y h = first_small a x ∙ sym (first_small b y)
same-above (suc l) a b s x y h = above l a (omega arith) ∙ h l (omega arith) ∙ sym (above l b (omega arith))
  where
    above : (l k : ℕ) → suc l ≤ 7 → head_at (suc l) k / 256 ≡ head_at l k
    above l k s = sym (head-of-head l (suc l) k (omega arith) s ∙ ap (λ n. head_at (suc l) k / 2 ^ n) (eight l))
      where
        eight : (l : ℕ) → 8 * suc l - 8 * l ≡ 8
        eight l = omega arith

-- keys with the same last head are equal
pub last-head : (a b : ℕ) → head_at 7 a ≡ head_at 7 b → a ≡ b
unfolding head_at
last-head a b e = let h : a / 1 ≡ b / 1 = e in omega arith

-- what is known of a key at a branch's level and prefix is known at its view's
pub at-view : (n l q p key x : ℕ) → l ≡ n → p ≡ q → head_at l key ≡ head_at l p + x → head_at n key ≡ head_at n q + x
at-view n l q p key x a b h = sym (ap (λ m. head_at m key) a) ∙ h ∙ ap (λ m. head_at m p + x) a ∙ ap (λ m. head_at n m + x) b

pub out-view : (n l q p key : ℕ) → l ≡ n → p ≡ q → ((x : ℕ) → x < 256 → head_at l key ≢ head_at l p + x) → (x : ℕ) → x < 256 → head_at n key ≢ head_at n q + x
out-view n l q p key a b out x s e = out x s (at-view l n p q key x (sym a) (sym b) e)
