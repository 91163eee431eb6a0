-- What the heads of the lists of free blocks say of the sizes that are ready.
use Rattle.std.proofs.Common.{◌≡◌, ℕ, zero, suc, ◌+◌, ◌*◌, ◌^◌, ◌<◌, ◌≤◌, Bool, true, false, cond, nat_lt, max, List, [], ◌∷◌}
use Rattle.std.proofs.Common.{length, set, get_or, get_or-set_same, refl, sym, ◌∙◌, arith, Option, Some, None, is_some, IfSome}
use Rattle.std.proofs.Common.{IfNone, IsTrue, replicate}
use Rattle.judy_arena.specs.Ready.{greatest, greatest_from}
use Rattle.judy_arena.specs.Layout.{span, size_of}
use Rattle.judy_arena.proofs.Cuts.{by_class}
use Rattle.judy_arena.proofs.Chains.{by_lt}
use Rattle.judy_arena.proofs.Cutting.{size-le}

-- the size of a class as a power
pub size-pow : (k : ℕ) → k < 8 → 4 * 2 ^ k ≡ size_of k
unfolding span
size-pow k l = by_class (λ k. 4 * 2 ^ k ≡ size_of k) refl refl refl refl refl refl refl refl k l

pub span-pow : (k : ℕ) → k < 8 → span (k + 1) ≡ 2 ^ k
unfolding span
span-pow k l = by_class (λ k. span (k + 1) ≡ 2 ^ k) refl refl refl refl refl refl refl refl k l

-- the size of class k, where the first class has this size
abbrev pub size_at : ℕ → ℕ → ℕ
size_at first zero = first
size_at first (suc k) = size_at (2 * first) k

pub size-at : (k : ℕ) → k < 8 → size_at 4 k ≡ size_of k
unfolding span
size-at k l = by_class (λ k. size_at 4 k ≡ size_of k) refl refl refl refl refl refl refl refl k l

-- the first size is the least
size-least : (k first : ℕ) → first ≤ size_at first k
size-least zero first = omega arith
size-least (suc k) first = let i = size-least k (2 * first) in omega (arith, i)

some-from : (cs : List ℕ) (first j : ℕ) → 0 < get_or cs j 0 → size_at first j ≤ greatest_from first cs
some-from [] first j l = absurd (omega (arith, l))
some-from (c ∷ cs) first zero l = let e : nat_lt 0 c ≡ true = grind (arith, l) in rw e (omega arith)
some-from (c ∷ cs) first (suc j) l = let i = some-from cs (2 * first) j l in omega (arith, i)

-- a class that has a free block is ready
pub ready-some : (free : List ℕ) (j : ℕ) → j < 8 → 0 < get_or free j 0 → size_of j ≤ greatest free
unfolding greatest
ready-some free j l h = let s = some-from free 4 j h in let p = size-at j l in omega (arith, s, p)

-- no free block, nothing ready
pub greatest-none : greatest (replicate 8 0) ≡ 0
unfolding greatest
greatest-none = refl

-- where no class has a free block nothing is ready
all-none : (cs : List ℕ) (first : ℕ) → ((k : ℕ) → get_or cs k 0 ≡ 0) → greatest_from first cs ≡ 0
all-none [] first none = refl
all-none (c ∷ cs) first none =
    let i = all-none cs (2 * first) (λ k. none (suc k)) in let z : c ≡ 0 = none 0 in let e : nat_lt 0 c ≡ false = grind (arith, z) in rw e (omega (arith, i))

none-from : (cs : List ℕ) (first j : ℕ) → 0 < first → ((k : ℕ) → j ≤ k → get_or cs k 0 ≡ 0) → greatest_from first cs < size_at first j
none-from [] first j p none = let s = size-least j first in omega (arith, s, p)
none-from (c ∷ cs) first zero p none = let z = all-none (c ∷ cs) first (λ k. none k (omega arith)) in omega (arith, z, p)
none-from (c ∷ cs) first (suc j) p none =
    let i = none-from cs (2 * first) j (omega (arith, p)) (λ k l. none (suc k) (omega (arith, l))) in let s = size-least j (2 * first) in
    elim (nat_lt 0 c) as (λ b. max (cond b first 0) (greatest_from (2 * first) cs) < size_at (2 * first) j)
    [ true ↦ omega (arith, i, s, p) | false ↦ omega (arith, i) ]

-- where no class from this one on has a free block, its size is not ready
pub ready-none : (free : List ℕ) (j : ℕ) → j < 8 → ((k : ℕ) → j ≤ k → get_or free k 0 ≡ 0) → greatest free < size_of j
unfolding greatest
ready-none free j l none = let n = none-from free 4 j (omega arith) none in let q = size-at j l in omega (arith, n, q)

-- whether there is a first class with a free block tells what is ready
pub first-tells : (free : List ℕ) (r : Option ℕ) (k size ready : ℕ) (b : Bool) → k < 8 → size ≡ size_of k → greatest free ≡ ready → b ≡ is_some r
    → IfSome r (λ j. (k ≤ j) × (j < 8) × (0 < get_or free j 0)) → IfNone r ((j : ℕ) → k ≤ j → get_or free j 0 ≡ 0)
    → (IsTrue b → size ≤ ready) × (size ≤ ready → IsTrue b)
first-tells free (Some j) k size ready b l s v e some none =
    let h = ready-some free j some.1 some.2 in let m = size-le k j some.0 some.1 in (λ _. omega (arith, h, m, s, v), λ _. e)
first-tells free None k size ready b l s v e some none =
    let h = ready-none free k l none in (λ t. absurd (not_true (sym e ∙ t)), λ t. absurd (omega (arith, h, s, v, t)))
  where
    not_true : false ≡ true → ⊥
    not_true x = cc

more-from : (cs : List ℕ) (first k v : ℕ) → 0 < v → greatest_from first cs ≤ greatest_from first (set cs k v)
more-from [] first k v p = omega arith
more-from (c ∷ cs) first zero v p =
    let r = greatest_from (2 * first) cs in let e : nat_lt 0 v ≡ true = grind (arith, p) in
    rw e (elim (nat_lt 0 c) as (λ b. max (cond b first 0) r ≤ max first r) [ true ↦ omega arith | false ↦ omega arith ])
more-from (c ∷ cs) first (suc k) v p = let i = more-from cs (2 * first) k v p in omega (arith, i)

-- with a free block more no less is ready
pub ready-more : (free : List ℕ) (k v : ℕ) → 0 < v → greatest free ≤ greatest (set free k v)
unfolding greatest
ready-more free k v some = more-from free 4 k v some

-- a class that gets a free block is ready
pub ready-put : (free : List ℕ) (k v : ℕ) → k < 8 → length free ≡ 8 → 0 < v → size_of k ≤ greatest (set free k v)
ready-put free k v l eight some = ready-some (set free k v) k l (let e = get_or-set_same free k v 0 (omega (arith, l, eight)) in omega (arith, e, some))

-- where the list of one class changes, no more is lost than its size
ready-but : (cs : List ℕ) (first k v : ℕ) → greatest_from first cs ≤ max (greatest_from first (set cs k v)) (size_at first k)
ready-but [] first k v = omega arith
ready-but (c ∷ cs) first zero v =
    let r = greatest_from (2 * first) cs in
    elim (nat_lt 0 c) as (λ b. max (cond b first 0) r ≤ max (max (cond (nat_lt 0 v) first 0) r) first) [ true ↦ omega arith | false ↦ omega arith ]
ready-but (c ∷ cs) first (suc k) v = let i = ready-but cs (2 * first) k v in omega (arith, i)

pub ready-less : (free : List ℕ) (k v : ℕ) → k < 8 → greatest free ≤ max (greatest (set free k v)) (size_of k)
unfolding greatest
ready-less free k v l = let b = ready-but free 4 k v in let s = size-at k l in omega (arith, b, s)

-- what is too small for a size has no free block of a class of this size on
pub none-ready : (free : List ℕ) (j k : ℕ) → greatest free < size_of j → j ≤ k → k < 8 → get_or free k 0 ≡ 0
none-ready free j k less from l = by_lt 0 (get_or free k 0)
    (λ some. absurd (let r = ready-some free k l some in let s = size-le j k from l in omega (arith, r, s, less)))
    (λ none. omega (arith, none))

-- the greatest size that is ready is that of a class with a free block
greatest-at : (cs : List ℕ) (first : ℕ) → 0 < first → 0 < greatest_from first cs → (j : ℕ) × ((0 < get_or cs j 0) × (greatest_from first cs ≡ size_at first j))
greatest-at [] first p l = absurd (omega (arith, l))
greatest-at (c ∷ cs) first p l =
    elim (nat_lt 0 c) as (λ b. nat_lt 0 c ≡ b → 0 < max (cond b first 0) (greatest_from (2 * first) cs)
    → (j : ℕ) × ((0 < get_or (c ∷ cs) j 0) × (max (cond b first 0) (greatest_from (2 * first) cs) ≡ size_at first j))) [
      | true ↦ λ e some. by_lt (greatest_from (2 * first) cs) first
          (λ less. (0, (grind (arith, e), omega (arith, less))))
          (λ most. let r = greatest-at cs (2 * first) (omega (arith, p)) (omega (arith, most, p)) in
          let is = r.1.1 in (suc r.0, (r.1.0, omega (arith, most, is))))
      | false ↦ λ e some. let r = greatest-at cs (2 * first) (omega (arith, p)) (omega (arith, some)) in let is = r.1.1 in (suc r.0, (r.1.0, omega (arith, is)))
    ] refl l

-- a place past the end of a list has nothing
in-list : (cs : List ℕ) (j : ℕ) → 0 < get_or cs j 0 → j < length cs
in-list [] j l = absurd (omega (arith, l))
in-list (c ∷ cs) zero l = omega arith
in-list (c ∷ cs) (suc j) l = let i = in-list cs j l in omega (arith, i)

pub greatest-class : (free : List ℕ) → length free ≡ 8 → 0 < greatest free → (j : ℕ) × ((j < 8) × ((0 < get_or free j 0) × (greatest free ≡ size_of j)))
unfolding greatest
greatest-class free eight l =
    let r = greatest-at free 4 (omega arith) l in let i = in-list free r.0 r.1.0 in let few : r.0 < 8 = omega (arith, i, eight) in
    let q = size-at r.0 few in let is = r.1.1 in (r.0, (few, (r.1.0, omega (arith, is, q))))
