-- Where a place of a row of chunks lies, and what a write there does. Each chunk is whole, of n
-- words, except for the last.
use Rattle.std.proofs.Common.{◌≡◌, ℕ, zero, suc, ◌+◌, ◌-◌, ◌*◌, ◌/◌, ◌%◌, ◌<◌, ◌≤◌, List, [], ◌∷◌, ◌++◌, length, get_or, set}
use Rattle.std.proofs.Common.{take, drop, refl, sym, ap, subst, ◌∙◌, arith, append_assoc, append-nil, zero-add, replicate}
use Rattle.std.proofs.Common.{Bool, true, cond}
use Rattle.std.proofs.Math.Seq.{drop-append-add}
use Rattle.std.proofs.Math.Nat.{div-add-mod', mod-lt, suc-mul}
use Rattle.std.proofs.lemmas.List.{get_or-append-add, get_or_append_left, set-append_left, drop-append-le, take-append-le, length-drop, length-append}
use Rattle.std.proofs.lemmas.List.{length-replicate, take_all}
use lib.Seq.{paste}
use Rattle.std.proofs.Math.Seq.{take-append-add}
use Rattle.judy_region.specs.Flat.{flat_by, IsChunkRow, IsRuns, AreRuns, zeros}

pub length-zeros : (n : ℕ) → length (zeros n) ≡ n
unfolding zeros
length-zeros n = length-replicate n 0

-- the zeros of `replicate` are those of `zeros`
pub zeros-replicate : (m n : ℕ) → m ≡ n → replicate m 0 ≡ zeros n
unfolding zeros
zeros-replicate m n e = ap (λ k. replicate k 0) e

pub grown : (was now : List ℕ) (n k len : ℕ) (ok : Bool) → now ≡ cond ok (take n was ++ replicate (n - len) 0) was → ok ≡ true
    → len ≡ length was → n ≡ len + k → now ≡ was ++ zeros k
grown was now n k len ok e t l s =
    e ∙ ap (λ b. cond b (take n was ++ replicate (n - len) 0) was) t ∙ ap (λ v. v ++ replicate (n - len) 0)
    (take_all n was (omega (arith, s, l))) ∙ ap (λ v. was ++ v) (zeros-replicate (n - len) k (omega (arith, s)))

-- the default does not matter for a place inside the list
pub sure : {X : Type 0} (xs : List X) (i : ℕ) (d e : X) → i < length xs → get_or xs i d ≡ get_or xs i e
sure [] i d e l = absurd (omega (arith, l))
sure (x ∷ xs) zero d e l = refl
sure (x ∷ xs) (suc i) d e l = sure xs i d e (omega (arith, l))

zero-at : (n r : ℕ) → 0 * n + r ≡ r
zero-at n r = omega arith

suc-add : (a b : ℕ) → suc a + b ≡ suc (a + b)
suc-add a b = omega arith

pub set-append_right : (xs ys : List ℕ) (k w : ℕ) → set (xs ++ ys) (length xs + k) w ≡ xs ++ set ys k w
set-append_right [] ys k w = ap (λ j. set ys j w) (zero-add k)
set-append_right (x ∷ xs) ys k w = ap (λ j. set (x ∷ (xs ++ ys)) j w) (suc-add (length xs) k) ∙ ap (λ l. x ∷ l) (set-append_right xs ys k w)

-- a write past the first of two parts, or inside it
pub paste-right : (xs ys : List ℕ) (r : ℕ) (s : List ℕ) (k : ℕ) → paste (xs ++ ys) (length xs + r) s k ≡ xs ++ paste ys r s k
paste-right xs ys r s k =
    let e : length xs + r + k ≡ length xs + (r + k) = omega arith in
    ap (λ t. t ++ take k s ++ drop (length xs + r + k) (xs ++ ys)) (take-append-add xs ys r)
    ∙ ap (λ t. xs ++ take r ys ++ take k s ++ t) (ap (λ j. drop j (xs ++ ys)) e ∙ drop-append-add xs ys (r + k))
    ∙ ap (λ t. t ++ drop (r + k) ys) (append_assoc xs (take r ys) (take k s))
    ∙ append_assoc xs (take r ys ++ take k s) (drop (r + k) ys)

pub paste-left : (xs ys : List ℕ) (r : ℕ) (s : List ℕ) (k : ℕ) → r + k ≤ length xs → paste (xs ++ ys) r s k ≡ paste xs r s k ++ ys
paste-left xs ys r s k l =
    ap (λ t. t ++ take k s ++ drop (r + k) (xs ++ ys)) (take-append-le r xs ys (omega (arith, l)))
    ∙ ap (λ t. take r xs ++ take k s ++ t) (drop-append-le (r + k) xs ys l)
    ∙ sym (append_assoc (take r xs ++ take k s) (drop (r + k) xs) ys)

module _ {X : Type 0} (f : X → List ℕ) (n : ℕ) where
  abbrev size : X → ℕ
  size x = length (f x)

  -- a chunk that is not the last is whole
  pub whole : (x : X) (xs : List X) → IsChunkRow size n (x ∷ xs) → 0 < length xs → length (f x) ≡ n
  whole x [] row l = absurd (omega arith)
  whole x (y ∷ ys) row l = row.0

  pub rest : (x : X) (xs : List X) → IsChunkRow size n (x ∷ xs) → IsChunkRow size n xs
  rest x [] row = tt
  rest x (y ∷ ys) row = row.1

  pub short : (x : X) (xs : List X) → IsChunkRow size n (x ∷ xs) → length (f x) ≤ n
  short x [] row = row
  short x (y ∷ ys) row = let e = row.0 in omega (arith, e)

  -- past the first chunk
  past : (x : X) (q r : ℕ) → length (f x) ≡ n → suc q * n + r ≡ length (f x) + (q * n + r)
  past x q r e = ap (λ k. k + r) (suc-mul q n) ∙ omega (arith, e)

  -- a place lies in an existing chunk
  pub record Lies (xs : List X) (q r : ℕ) (d : X) : Type 0 where
    pub chunk : q < length xs
    pub place : r < length (f (get_or xs q d))

  pub lies : (xs : List X) (q r : ℕ) (d : X) → IsChunkRow size n xs → r < n → q * n + r < length (flat_by f xs) → Lies xs q r d
  lies [] q r d row m l = absurd (omega (arith, l))
  lies (x ∷ xs) zero r d row m l = record { chunk = omega arith; place = first xs row l }
    where
      first : (ys : List X) → IsChunkRow size n (x ∷ ys) → 0 * n + r < length (flat_by f (x ∷ ys)) → r < length (f x)
      first [] row' l' = let e : length (f x ++ []) ≡ length (f x) = ap length (append-nil (f x)) in let z = zero-at n r in omega (arith, l', e, z)
      first (y ∷ ys) row' l' = let e = row'.0 in omega (arith, e, m)
  lies (x ∷ []) (suc q) r d row m l =
      let e : length (f x ++ []) ≡ length (f x) = ap length (append-nil (f x)) in
      let p : suc q * n ≡ n + q * n = suc-mul q n ∙ omega arith in
      absurd (omega (arith, e, row, l, p))
  lies (x ∷ y ∷ ys) (suc q) r d row m l =
      let p = past x q r row.0 in
      let e : length (f x ++ flat_by f (y ∷ ys)) ≡ length (f x) + length (flat_by f (y ∷ ys)) = length-append (f x) (flat_by f (y ∷ ys)) in
      let t = lies (y ∷ ys) q r d row.1 m (omega (arith, p, e, l)) in
      let c = t.chunk in
      record { chunk = omega (arith, c); place = t.place }

  pub get-flat : (xs : List X) (q r : ℕ) (d : X) → IsChunkRow size n xs → Lies xs q r d → get_or (flat_by f xs) (q * n + r) 0 ≡ get_or (f (get_or xs q d)) r 0
  get-flat [] q r d row l = let c = l.chunk in absurd (omega (arith, c))
  get-flat (x ∷ xs) zero r d row l = ap (λ k. get_or (f x ++ flat_by f xs) k 0) (zero-at n r) ∙ get_or_append_left (f x) (flat_by f xs) 0 r l.place
  get-flat (x ∷ xs) (suc q) r d row l =
      let c = l.chunk in
      ap (λ k. get_or (flat_by f (x ∷ xs)) k 0) (past x q r (whole x xs row (omega (arith, c))))
      ∙ get_or-append-add (f x) (flat_by f xs) (q * n + r) 0
      ∙ get-flat xs q r d (rest x xs row) (record { chunk = omega (arith, c); place = l.place })

  pub set-flat : (xs : List X) (q r w : ℕ) (d y : X) → IsChunkRow size n xs → Lies xs q r d → f y ≡ set (f (get_or xs q d)) r w
      → flat_by f (set xs q y) ≡ set (flat_by f xs) (q * n + r) w
  set-flat [] q r w d y row l e = let c = l.chunk in absurd (omega (arith, c))
  set-flat (x ∷ xs) zero r w d y row l e =
      ap (λ k. k ++ flat_by f xs) e ∙ sym (set-append_left (f x) (flat_by f xs) r w l.place) ∙ ap (λ k. set (f x ++ flat_by f xs) k w) (sym (zero-at n r))
  set-flat (x ∷ xs) (suc q) r w d y row l e =
      let c = l.chunk in
      ap (λ k. f x ++ k) (set-flat xs q r w d y (rest x xs row) (record { chunk = omega (arith, c); place = l.place }) e)
      ∙ sym (set-append_right (f x) (flat_by f xs) (q * n + r) w)
      ∙ ap (λ k. set (flat_by f (x ∷ xs)) k w) (sym (past x q r (whole x xs row (omega (arith, c)))))

  pub part-flat : (xs : List X) (q r k : ℕ) (d : X) → IsChunkRow size n xs → q < length xs → r + k ≤ length (f (get_or xs q d))
      → take k (drop (q * n + r) (flat_by f xs)) ≡ take k (drop r (f (get_or xs q d)))
  part-flat [] q r k d row l m = absurd (omega (arith, l))
  part-flat (x ∷ xs) zero r k d row l m =
      ap (λ j. take k (drop j (f x ++ flat_by f xs))) (zero-at n r) ∙ ap (take k) (drop-append-le r (f x) (flat_by f xs) (omega (arith, m)))
      ∙ take-append-le k (drop r (f x)) (flat_by f xs) (let e = length-drop r (f x) in omega (arith, e, m))
  part-flat (x ∷ xs) (suc q) r k d row l m =
      ap (λ j. take k (drop j (flat_by f (x ∷ xs)))) (past x q r (whole x xs row (omega (arith, l))))
      ∙ ap (take k) (drop-append-add (f x) (flat_by f xs) (q * n + r))
      ∙ part-flat xs q r k d (rest x xs row) (omega (arith, l)) m

  -- a part that lies in one chunk ends there
  pub ends : (xs : List X) (q r k : ℕ) (d : X) → IsChunkRow size n xs → 0 < k → r + k ≤ n → q * n + r + k ≤ length (flat_by f xs)
      → (q < length xs) × (r + k ≤ length (f (get_or xs q d)))
  ends xs q r k d row some m l =
      let e : q * n + (r + (k - 1)) ≡ q * n + r + k - 1 = omega (arith, some) in
      let t = lies xs q (r + (k - 1)) d row (omega (arith, some, m)) (omega (arith, some, l, e)) in
      let p = t.place in (t.chunk, omega (arith, p, some))

  pub paste-flat : (xs : List X) (q r k : ℕ) (s : List ℕ) (d y : X) → IsChunkRow size n xs → q < length xs → r + k ≤ length
      (f (get_or xs q d)) → f y ≡ paste (f (get_or xs q d)) r s k
      → flat_by f (set xs q y) ≡ paste (flat_by f xs) (q * n + r) s k
  paste-flat [] q r k s d y row l m e = absurd (omega (arith, l))
  paste-flat (x ∷ xs) zero r k s d y row l m e =
      ap (λ t. t ++ flat_by f xs) e ∙ sym (paste-left (f x) (flat_by f xs) r s k m) ∙ ap (λ j. paste (f x ++ flat_by f xs) j s k) (sym (zero-at n r))
  paste-flat (x ∷ xs) (suc q) r k s d y row l m e =
      ap (λ t. f x ++ t) (paste-flat xs q r k s d y (rest x xs row) (omega (arith, l)) m e)
      ∙ sym (paste-right (f x) (flat_by f xs) (q * n + r) s k)
      ∙ ap (λ j. paste (flat_by f (x ∷ xs)) j s k) (sym (past x q r (whole x xs row (omega (arith, l)))))

  -- a chunk that is written keeps its size
  pub row-set : (xs : List X) (q : ℕ) (d y : X) → IsChunkRow size n xs → length (f y) ≡ length (f (get_or xs q d)) → IsChunkRow size n (set xs q y)
  row-set [] q d y row e = row
  row-set (x ∷ []) zero d y row e = omega (arith, row, e)
  row-set (x ∷ []) (suc q) d y row e = row
  row-set (x ∷ z ∷ zs) zero d y row e = (e ∙ row.0, row.1)
  row-set (x ∷ z ∷ zs) (suc zero) d y row e = (row.0, row-set (z ∷ zs) zero d y row.1 e)
  row-set (x ∷ z ∷ zs) (suc (suc q)) d y row e = (row.0, row-set (z ∷ zs) (suc q) d y row.1 e)

  pub runs-set : (xs : List X) (q : ℕ) (d y : X) → AreRuns size xs → q < length xs → IsRuns (length (f y)) → AreRuns size (set xs q y)
  runs-set [] q d y runs l e = runs
  runs-set (x ∷ xs) zero d y runs l e = (e, runs.1)
  runs-set (x ∷ xs) (suc q) d y runs l e = (runs.0, runs-set xs q d y runs.1 (omega (arith, l)) e)

  pub runs-at : (xs : List X) (q : ℕ) (d : X) → AreRuns size xs → q < length xs → IsRuns (length (f (get_or xs q d)))
  runs-at [] q d runs l = absurd (omega (arith, l))
  runs-at (x ∷ xs) zero d runs l = runs.0
  runs-at (x ∷ xs) (suc q) d runs l = runs-at xs q d runs.1 (omega (arith, l))

  pub short-at : (xs : List X) (q : ℕ) (d : X) → IsChunkRow size n xs → q < length xs → length (f (get_or xs q d)) ≤ n
  short-at [] q d row l = absurd (omega (arith, l))
  short-at (x ∷ xs) zero d row l = short x xs row
  short-at (x ∷ xs) (suc q) d row l = short-at xs q d (rest x xs row) (omega (arith, l))

  -- the last chunk grows
  pub flat-last : (xs : List X) (q : ℕ) (d y : X) (s : List ℕ) → suc q ≡ length xs → f y ≡ f (get_or xs q d) ++ s → flat_by f (set xs q y) ≡ flat_by f xs ++ s
  flat-last [] q d y s l e = absurd (omega (arith, l))
  flat-last (x ∷ []) zero d y s l e = append-nil (f y) ∙ e ∙ ap (λ t. t ++ s) (sym (append-nil (f x)))
  flat-last (x ∷ []) (suc q) d y s l e = absurd (omega (arith, l))
  flat-last (x ∷ z ∷ zs) zero d y s l e = absurd (omega (arith, l))
  flat-last (x ∷ z ∷ zs) (suc q) d y s l e = ap (λ t. f x ++ t) (flat-last (z ∷ zs) q d y s (omega (arith, l)) e)
      ∙ sym (append_assoc (f x) (flat_by f (z ∷ zs)) s)

  pub row-last : (xs : List X) (q : ℕ) (y : X) → suc q ≡ length xs → IsChunkRow size n xs → length (f y) ≤ n → IsChunkRow size n (set xs q y)
  row-last [] q y e row l = row
  row-last (x ∷ []) zero y e row l = l
  row-last (x ∷ []) (suc q) y e row l = row
  row-last (x ∷ z ∷ zs) zero y e row l = absurd (omega (arith, e))
  row-last (x ∷ z ∷ zs) (suc zero) y e row l = (row.0, row-last (z ∷ zs) zero y (omega (arith, e)) row.1 l)
  row-last (x ∷ z ∷ zs) (suc (suc q)) y e row l = (row.0, row-last (z ∷ zs) (suc q) y (omega (arith, e)) row.1 l)

  -- a new chunk comes after the last one
  pub flat-push : (xs : List X) (y : X) → flat_by f (xs ++ y ∷ []) ≡ flat_by f xs ++ f y
  flat-push [] y = append-nil (f y)
  flat-push (x ∷ xs) y = ap (λ t. f x ++ t) (flat-push xs y) ∙ sym (append_assoc (f x) (flat_by f xs) (f y))

  pub row-push : (xs : List X) (d y : X) → IsChunkRow size n xs → ((q : ℕ) → suc q ≡ length xs → length (f (get_or xs q d)) ≡ n)
      → length (f y) ≤ n → IsChunkRow size n (xs ++ y ∷ [])
  row-push [] d y row full l = l
  row-push (x ∷ []) d y row full l = (full 0 refl, l)
  row-push (x ∷ z ∷ zs) d y row full l = (row.0, row-push (z ∷ zs) d y row.1 (λ q e. full (suc q) (omega (arith, e))) l)

  pub runs-push : (xs : List X) (y : X) → AreRuns size xs → IsRuns (length (f y)) → AreRuns size (xs ++ y ∷ [])
  runs-push [] y runs e = (e, tt)
  runs-push (x ∷ xs) y runs e = (runs.0, runs-push xs y runs.1 e)

  module _ (some : 0 < n) (xs : List X) (p : ℕ) (row : IsChunkRow size n xs) where
    split : p / n * n + p % n ≡ p
    split = div-add-mod' p n

    pub found : (d : X) → p < length (flat_by f xs) → Lies xs (p / n) (p % n) d
    found d l = lies xs (p / n) (p % n) d row (mod-lt p some) (subst (λ k. k < length (flat_by f xs)) (sym split) l)

    pub place-get : (d : X) → p < length (flat_by f xs) → get_or (flat_by f xs) p 0 ≡ get_or (f (get_or xs (p / n) d)) (p % n) 0
    place-get d l = ap (λ k. get_or (flat_by f xs) k 0) (sym split) ∙ get-flat xs (p / n) (p % n) d row (found d l)

    pub place-set : (w : ℕ) (d y : X) → p < length (flat_by f xs) → f y ≡ set (f (get_or xs (p / n) d)) (p % n) w
        → flat_by f (set xs (p / n) y) ≡ set (flat_by f xs) p w
    place-set w d y l e = set-flat xs (p / n) (p % n) w d y row (found d l) e ∙ ap (λ k. set (flat_by f xs) k w) split

    -- a part that lies in one chunk
    pub part : (k : ℕ) (d : X) → 0 < k → p + k ≤ length (flat_by f xs) → p % n + k ≤ n → (p / n < length xs) × (p % n + k ≤ length (f (get_or xs (p / n) d)))
    part k d o l m = ends xs (p / n) (p % n) k d row o m (subst (λ j. j + k ≤ length (flat_by f xs)) (sym split) l)

    pub place-part : (k : ℕ) (d : X) → p / n < length xs → p % n + k ≤ length (f (get_or xs (p / n) d))
        → take k (drop p (flat_by f xs)) ≡ take k (drop (p % n) (f (get_or xs (p / n) d)))
    place-part k d l m = ap (λ j. take k (drop j (flat_by f xs))) (sym split) ∙ part-flat xs (p / n) (p % n) k d row l m

    pub place-paste : (k : ℕ) (s : List ℕ) (d y : X) → p / n < length xs → p % n + k ≤ length (f (get_or xs (p / n) d))
        → f y ≡ paste (f (get_or xs (p / n) d)) (p % n) s k → flat_by f (set xs (p / n) y) ≡ paste (flat_by f xs) p s k
    place-paste k s d y l m e = paste-flat xs (p / n) (p % n) k s d y row l m e ∙ ap (λ j. paste (flat_by f xs) j s k) split
