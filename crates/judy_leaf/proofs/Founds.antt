-- What searches find are entries.
use Rattle.std.proofs.Common.{◌≡◌, ℕ, zero, suc, ◌+◌, ◌-◌, ◌<◌, ◌≤◌, Bool, true, false, cond, List, [], ◌∷◌, map, take, drop}
use Rattle.std.proofs.Common.{length, get_or, Option, Some, None, refl, ap, sym, ◌∙◌, subst, arith, leb-true, ltb-true}
use Rattle.std.specs.Prelude.{filter, find, nat_le, nat_lt, slice_get}
use Rattle.std.specs.Ordering.{is_le, is_ge}
use Rattle.std.proofs.lemmas.List.{get_or-take, get_or-drop, length-take-le}
use Rattle.std.proofs.lemmas.Option.{none-some}
use Rattle.judy_model.specs.Contents.{Entries, IsRising, word_order, value_of, head_of, last_of, first, last, IsFound}
use Rattle.judy_model.proofs.lemmas.WordLemmas.{first-words, last-words, le-test, le-not}
use Rattle.judy_model.proofs.lemmas.EntryLemmas.{later, tail, here}
use Rattle.judy_leaf.specs.Keys.{keys_of, key_found}
use Rattle.judy_leaf.proofs.Cuts.{filter-passes}

-- the first of those that pass is an entry
head-found : (p : ℕ × ℕ → Bool) (l : Entries ℕ) → IsRising word_order l → IsFound l (head_of (filter p l))
head-found p [] h = tt
head-found p (e ∷ es) h =
    elim (p e) as (λ b. IsFound (e ∷ es) (head_of (cond b (e ∷ filter p es) (filter p es)))) [
      | true ↦ here e es
      | false ↦ later e es (head_of (filter p es)) h (head-found p es (tail e es h))
    ]

-- and so is the last
last-found : (p : ℕ × ℕ → Bool) (l : Entries ℕ) → IsRising word_order l → IsFound l (last_of (filter p l))
last-found p [] h = tt
last-found p (e ∷ es) h =
    elim (p e) as (λ b. IsFound (e ∷ es) (last_of (cond b (e ∷ filter p es) (filter p es)))) [
      | true ↦ behind (filter p es) (last-found p es (tail e es h))
      | false ↦ later e es (last_of (filter p es)) h (last-found p es (tail e es h))
    ]
  where
    behind : (xs : Entries ℕ) → IsFound es (last_of xs) → IsFound (e ∷ es) (last_of (e ∷ xs))
    behind [] f = here e es
    behind (x ∷ xs) f = later e es (last_of (x ∷ xs)) h f

some_same : (x a : ℕ) → Some x ≡ Some a → x ≡ a
some_same x a i = cc

-- a key with its value is the entry that has the key
module _ (l : Entries ℕ) where
  no-entry : (o : Option (ℕ × ℕ)) → None ≡ key_found o → None ≡ o
  no-entry None e = refl
  no-entry (Some d) e = absurd (none-some d.0 e)

  its-value : (o : Option (ℕ × ℕ)) → IsFound l o → (k : ℕ) → Some k ≡ key_found o → value_of word_order l k ≡ None → ⊥
  its-value None f k e n = none-some k (sym e)
  its-value (Some d) f k e n = none-some d.1 (sym n ∙ ap (value_of word_order l) (some_same k d.0 e) ∙ f)

  its-entry : (o : Option (ℕ × ℕ)) → IsFound l o → (k v : ℕ) → Some k ≡ key_found o → value_of word_order l k ≡ Some v → Some (k, v) ≡ o
  its-entry None f k v e g = absurd (none-some k (sym e))
  its-entry (Some d) f k v e g =
      let s : k ≡ d.0 = some_same k d.0 e in
      let w : v ≡ d.1 = some_same v d.1 (sym g ∙ ap (value_of word_order l) s ∙ f) in
      ap (λ a. Some (a, v)) s ∙ ap (λ b. Some (d.0, b)) w

  module _ (x : ℕ) (rising : IsRising word_order l) where
    pub no-first : None ≡ key_found (first word_order l x) → None ≡ first word_order l x
    no-first e = no-entry (first word_order l x) e

    pub first-value : (k : ℕ) → Some k ≡ key_found (first word_order l x) → value_of word_order l k ≡ None → ⊥
    first-value k e n = its-value (first word_order l x) (head-found (λ e. is_ge (word_order e.0 x)) l rising) k e n

    pub first-entry : (k v : ℕ) → Some k ≡ key_found (first word_order l x) → value_of word_order l k ≡ Some v → Some (k, v) ≡ first word_order l x
    first-entry k v e g = its-entry (first word_order l x) (head-found (λ e. is_ge (word_order e.0 x)) l rising) k v e g

    pub no-last : None ≡ key_found (last word_order l x) → None ≡ last word_order l x
    no-last e = no-entry (last word_order l x) e

    pub last-value : (k : ℕ) → Some k ≡ key_found (last word_order l x) → value_of word_order l k ≡ None → ⊥
    last-value k e n = its-value (last word_order l x) (last-found (λ e. is_le (word_order e.0 x)) l rising) k e n

    pub last-entry : (k v : ℕ) → Some k ≡ key_found (last word_order l x) → value_of word_order l k ≡ Some v → Some (k, v) ≡ last word_order l x
    last-entry k v e g = its-entry (last word_order l x) (last-found (λ e. is_le (word_order e.0 x)) l rising) k v e g

-- ---- entries by the place of a key

-- the keys before the place are below the word, and the one at it is not
first-at : (l : Entries ℕ) (x r : ℕ) → r ≤ length (keys_of l) → ((i : ℕ) → i < r → get_or (keys_of l) i 0 < x)
    → (r < length (keys_of l) → x ≤ get_or (keys_of l) r 0) → first word_order l x ≡ slice_get l r
first-at l x r h under over = first-words l x ∙ at l r h under over
  where
    at : (l : Entries ℕ) (r : ℕ) → r ≤ length (keys_of l) → ((i : ℕ) → i < r → get_or (keys_of l) i 0 < x)
        → (r < length (keys_of l) → x ≤ get_or (keys_of l) r 0) → find (λ e. nat_le x e.0) l ≡ slice_get l r
    at [] r h under over = refl
    at (e ∷ l) zero h under over = rw (le-test x e.0 (over (omega arith))) refl
    at (e ∷ l) (suc r) h under over = rw (le-not x e.0 (under 0 (omega arith)))
        (at l r (omega arith) (λ i j. under (suc i) (omega arith)) (λ j. over (omega arith)))

-- the same, told of a list that is that of the keys
pub first-in : (l : Entries ℕ) (ks : List ℕ) → keys_of l ≡ ks → (x r : ℕ) → r ≤ length ks
    → ((i : ℕ) → i < r → get_or ks i 0 < x) → (r < length ks → x ≤ get_or ks r 0) → first word_order l x ≡ slice_get l r
first-in l ks is =
    subst (λ ks. (x r : ℕ) → r ≤ length ks → ((i : ℕ) → i < r → get_or ks i 0 < x) → (r < length ks → x ≤ get_or ks r 0)
    → first word_order l x ≡ slice_get l r) is (first-at l)

-- past the last place there is nothing
pub first-end : (l : Entries ℕ) (r : ℕ) → r ≡ length (keys_of l) → None ≡ slice_get l r
first-end [] r h = refl
first-end (e ∷ l) zero h = absurd (omega arith)
first-end (e ∷ l) (suc r) h = first-end l r (omega arith)

-- the key and the value at a place
pub entry-at : (l : Entries ℕ) (i k v : ℕ) → slice_get (keys_of l) i ≡ Some k → slice_get (map (λ e. e.1) l) i ≡ Some v → slice_get l i ≡ Some (k, v)
entry-at [] i k v e f = absurd (none-some k e)
entry-at (d ∷ l) zero k v e f = let s : d.0 ≡ k = some_same d.0 k e in
    let t : d.1 ≡ v = some_same d.1 v f in ap (λ a. Some (a, d.1)) s ∙ ap (λ b. Some (k, b)) t
entry-at (d ∷ l) (suc i) k v e f = entry-at l i k v e f

-- the keys before the place are at most the word, and those from it on are above
front : (l : Entries ℕ) (x r : ℕ) → r ≤ length (keys_of l) → ((i : ℕ) → i < r → get_or (keys_of l) i 0 ≤ x)
    → ((i : ℕ) → r ≤ i → i < length (keys_of l) → x < get_or (keys_of l) i 0) → filter (λ e. nat_le e.0 x) l ≡ take r l
front [] x zero h a b = refl
front [] x (suc r) h a b = absurd (omega arith)
front (e ∷ l) x zero h a b = rw (le-not e.0 x (b 0 (omega arith) (omega arith)))
    (front l x zero (omega arith) (λ i j. absurd (omega arith)) (λ i j m. b (suc i) (omega arith) (omega arith)))
front (e ∷ l) x (suc r) h a b = rw (le-test e.0 x (a 0 (omega arith)))
    (ap (λ z. e ∷ z) (front l x r (omega arith) (λ i j. a (suc i) (omega arith))
    (λ i j m. b (suc i) (omega arith) (omega arith))))

last-take : (l : Entries ℕ) (r : ℕ) → r < length (keys_of l) → last_of (take (suc r) l) ≡ slice_get l r
last-take [] r h = absurd (omega arith)
last-take (e ∷ l) zero h = refl
last-take (e ∷ []) (suc r) h = absurd (omega arith)
last-take (e ∷ d ∷ l) (suc r) h = last-take (d ∷ l) r (omega arith)

module _ (l : Entries ℕ) (ks : List ℕ) (is : keys_of l ≡ ks) (x r : ℕ) (within : r ≤ length ks)
    (upto : filter (λ k. nat_le k x) ks ≡ take r ks) (past : filter (λ k. nat_lt x k) ks ≡ drop r ks) where
  below-it : (i : ℕ) → i < r → get_or ks i 0 ≤ x
  below-it i h =
      let n : length (take r ks) ≡ r = length-take-le r ks within in
      leb-true _ x (subst (λ k. nat_le k x ≡ true) (get_or-take r ks i 0 h) (subst (λ z. nat_le (get_or z i 0) x ≡ true) upto
      (filter-passes (λ k. nat_le k x) ks i (subst (λ z. i < length z) (sym upto) (omega arith)))))

  above-it : (i : ℕ) → r ≤ i → i < length ks → x < get_or ks i 0
  above-it i h m =
      let j : ℕ = i - r in
      let e : r + j ≡ i = omega arith in
      let n : length (drop r ks) ≡ length ks - r = dropped r ks in
      subst (λ i. x < get_or ks i 0) e
      (ltb-true x _ (subst (λ k. nat_lt x k ≡ true) (get_or-drop r ks j 0) (subst (λ z. nat_lt x (get_or z j 0) ≡ true) past
      (filter-passes (λ k. nat_lt x k) ks j (subst (λ z. j < length z) (sym past) (omega arith))))))
    where
      dropped : (r : ℕ) (ks : List ℕ) → length (drop r ks) ≡ length ks - r
      dropped zero ks = omega arith
      dropped (suc r) [] = omega arith
      dropped (suc r) (k ∷ ks) = let d = dropped r ks in omega arith

  cut : filter (λ e. nat_le e.0 x) l ≡ take r l
  cut = front l x r (subst (λ z. r ≤ length z) (sym is) within) (subst (λ z. (i : ℕ) → i < r → get_or z i 0 ≤ x) (sym is)
      below-it) (subst (λ z. (i : ℕ) → r ≤ i → i < length z → x < get_or z i 0) (sym is) above-it)

  pub last-none : r ≡ 0 → None ≡ last word_order l x
  last-none z = sym (last-words l x ∙ ap last_of (cut ∙ ap (λ n. take n l) z))

  pub last-at : 0 < r → last word_order l x ≡ slice_get l (r - 1)
  last-at h =
      let e : r ≡ suc (r - 1) = omega arith in
      let n : length (keys_of l) ≡ length ks = ap length is in
      last-words l x ∙ ap last_of (cut ∙ ap (λ n. take n l) e) ∙ last-take l (r - 1) (omega arith)
