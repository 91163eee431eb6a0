-- Rising keys before and from a place.
use Rattle.std.proofs.Common.{◌≡◌, ◌≢◌, ℕ, ◌+◌, ◌-◌, ◌*◌, ◌<◌, ◌≤◌, List, length, get_or, take, drop, arith}
use Rattle.std.specs.Prelude.{filter, nat_lt, nat_le}
use Rattle.std.specs.List.Sorted.{IsStrictlyIncreasing}
use Rattle.judy_leaf.specs.Linear.{leaf_count, linear_keys, IsLinear, StandsAt, GoesTo}
use Rattle.judy_leaf.proofs.Rising.{far}
use Rattle.judy_leaf.proofs.Cuts.{filter-front, filter-back}
use Rattle.judy_leaf.proofs.LinearLaws.{keys-count, key-at}
use Rattle.std.proofs.Common.{subst, sym, ◌∙◌, Bool}
use Rattle.judy_model.proofs.lemmas.WordLemmas.{lt-not, lt-test, le-not, le-test}

-- keys up to one that is below the word are below it
pub stepped : (ks : List ℕ) (x s i : ℕ) → IsStrictlyIncreasing ks → 4 * s + 3 < length ks → get_or ks (4 * s + 3) 0 < x → i < 4 * (s + 1) → get_or ks i 0 < x
stepped ks x s i up h low less = let f = far ks up (4 * s + 3 - i) i (4 * s + 3) (omega (arith, less)) h in omega (arith, f, low)

-- keys from one that is not below the word on are not
later : (ks : List ℕ) (x r i : ℕ) → IsStrictlyIncreasing ks → (r < length ks → x ≤ get_or ks r 0) → r ≤ i → i < length ks → x ≤ get_or ks i 0
later ks x r i up over from h = let f = far ks up (i - r) r i (omega (arith, from)) h in let o = over (omega (arith, from, h)) in omega (arith, f, o)

-- a place that parts the keys below x from the others
pub parted-below : (ks : List ℕ) (x r : ℕ) → IsStrictlyIncreasing ks → r ≤ length ks → ((i : ℕ) → i < r → get_or ks i 0 < x)
    → (r < length ks → x ≤ get_or ks r 0)
    → (filter (λ k. nat_lt k x) ks ≡ take r ks) × (filter (λ k. nat_le x k) ks ≡ drop r ks)
parted-below ks x r up h under over = (
  filter-front (λ k. nat_lt k x) ks r h (λ i l. lt-test _ x (under i l)) (λ i l m. lt-not _ x (later ks x r i up over l m)),
  filter-back (λ k. nat_le x k) ks r h (λ i l. le-not x _ (under i l)) (λ i l m. le-test x _ (later ks x r i up over l m)),
)

-- a place that parts the keys up to x from the others
pub parted-upto : (ks : List ℕ) (x r : ℕ) → IsStrictlyIncreasing ks → r ≤ length ks → ((i : ℕ) → i < r → get_or ks i 0 < x + 1)
    → (r < length ks → x + 1 ≤ get_or ks r 0)
    → (filter (λ k. nat_le k x) ks ≡ take r ks) × (filter (λ k. nat_lt x k) ks ≡ drop r ks)
parted-upto ks x r up h under over = (
  filter-front (λ k. nat_le k x) ks r h (λ i l. let u = under i l in le-test _ x (omega (arith, u)))
      (λ i l m. let o = later ks (x + 1) r i up over l m in le-not _ x (omega (arith, o))),
  filter-back (λ k. nat_lt x k) ks r h (λ i l. let u = under i l in lt-not x _ (omega (arith, u)))
      (λ i l m. let o = later ks (x + 1) r i up over l m in lt-test x _ (omega (arith, o))),
)

-- a key that was found by its rank stands there
pub placed : (v : Bool) (f : List ℕ) → IsLinear v f → (p key : ℕ) → p < length (linear_keys f) → get_or (linear_keys f) p 0 ≡ key → StandsAt f key p
placed v f leaf p key h e =
    let size = keys-count v f leaf.room in
    let n : p < leaf_count f = omega (arith, size, h) in
    (n, sym (key-at v f leaf.room p n) ∙ e)

-- and one that was not goes there
pub missed : (v : Bool) (f : List ℕ) → IsLinear v f → (p key : ℕ) → p ≤ length (linear_keys f)
    → ((i : ℕ) → i < p → get_or (linear_keys f) i 0 < key) → (p < length (linear_keys f) → key ≤ get_or (linear_keys f) p 0)
    → (p < length (linear_keys f) → get_or (linear_keys f) p 0 ≢ key) → GoesTo f key p
missed v f leaf p key h under over other =
    let size = keys-count v f leaf.room in (
      omega (arith, size, h),
      λ i less. subst (λ x. x < key) (key-at v f leaf.room i (omega (arith, size, h, less))) (under i less),
      λ less.
          let n : p < length (linear_keys f) = omega (arith, size, less) in
          let o = over n in
          let d = other n in
          let strict : key < get_or (linear_keys f) p 0 = omega (arith, o, d) in
          subst (λ x. key < x) (key-at v f leaf.room p less) strict,
    )

-- the same, told of a list that is that of the keys
module _ (v : Bool) (f ks : List ℕ) (leaf : IsLinear v f) (is : ks ≡ linear_keys f) (p key : ℕ) where
  pub placed-in : p < length ks → get_or ks p 0 ≡ key → StandsAt f key p
  placed-in h e = placed v f leaf p key (subst (λ l. p < length l) is h) (subst (λ l. get_or l p 0 ≡ key) is e)

  pub missed-in : p ≤ length ks → ((i : ℕ) → i < p → get_or ks i 0 < key) → (p < length ks → key ≤ get_or ks p 0)
      → (p < length ks → get_or ks p 0 ≢ key) → GoesTo f key p
  missed-in h under over other =
      missed v f leaf p key (subst (λ l. p ≤ length l) is h) (λ i less. subst (λ l. get_or l i 0 < key) is (under i less))
      (λ n. subst (λ l. key ≤ get_or l p 0) is (over (subst (λ l. p < length l) (sym is) n)))
      (λ n. subst (λ l. get_or l p 0 ≢ key) is (other (subst (λ l. p < length l) (sym is) n)))
