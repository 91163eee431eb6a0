-- Lists of children, taken from the front.
use Rattle.std.proofs.Common.{◌≡◌, ℕ, zero, suc, ◌+◌, ◌<◌, ◌≤◌, true, false, cond, nat_lt, List, [], ◌∷◌, ◌++◌, take, length}
use Rattle.std.proofs.Common.{get_or, Some, None, ap, sym, ◌∙◌, refl, arith, lt-ltb, le-ltb, inl, inr}
use Rattle.std.specs.Prelude.{filter, is_some}
use Rattle.std.specs.List.{list_all}
use Rattle.std.proofs.lemmas.List.{take_more}
use Rattle.std.proofs.lemmas.Bool.{cases_lt, cases_eq, and_from}
use Rattle.std.specs.Ordering.{nat_cmp, is_eq, is_lt}
use Rattle.std.specs.FinMap.{is_sorted}
use Rattle.std.specs.FinMap.Entries.{by_order, below_all}
use Rattle.judy_model.specs.Contents.{Entries, word_order, value_of, has_key, with_entry, pairs}
use Rattle.judy_model.proofs.lemmas.TestLemmas.{and_right, and_left}
use Rattle.judy_model.proofs.lemmas.EntryLemmas.{past, less, greater, equal, from_less}
use Rattle.judy_branch.specs.declared.shape.Shape.{Shape}
use Rattle.judy_branch.specs.declared.shape.Shape.TheVariants.{Linear, Bitmap, Full}
use Rattle.judy_branch.specs.Children.{count_in, child_bytes, refs_in, children_in, used_words, IsLaid, is_child, is_child_entry}
use Rattle.judy_branch.specs.Written.{BranchBecomes}
use Rattle.judy_branch.proofs.Shapes.{IsPaired, linear-paired, bitmap-paired}

-- an item within a list is the same whatever stands past the end
pub any-default : (xs : Entries ℕ) (i : ℕ) (d e : ℕ × ℕ) → i < length xs → get_or xs i d ≡ get_or xs i e
any-default [] i d e h = absurd (omega arith)
any-default (x ∷ xs) zero d e h = refl
any-default (x ∷ xs) (suc i) d e h = any-default xs i d e (omega arith)

below_take : (x n : ℕ) (xs : Entries ℕ) → below_all word_order x xs ≡ true → below_all word_order x (take n xs) ≡ true
below_take x zero xs h = refl
below_take x (suc n) [] h = refl
below_take x (suc n) (e ∷ xs) h = and_from (is_lt (nat_cmp x e.0)) _ (and_left (is_lt (nat_cmp x e.0)) _ h)
    (below_take x n xs (and_right (is_lt (nat_cmp x e.0)) _ h))

pub sorted_take : (n : ℕ) (xs : Entries ℕ) → is_sorted word_order xs ≡ true → is_sorted word_order (take n xs) ≡ true
sorted_take zero xs h = refl
sorted_take (suc n) [] h = refl
sorted_take (suc n) (e ∷ xs) h = and_from (below_all word_order e.0 (take n xs)) _
    (below_take e.0 n xs (and_left (below_all word_order e.0 xs) _ h))
    (sorted_take n xs (and_right (below_all word_order e.0 xs) _ h))

below_last : (x : ℕ) (xs : Entries ℕ) (e : ℕ × ℕ) → below_all word_order x (xs ++ e ∷ []) ≡ true → x < e.0
below_last x [] e h = from_less x e.0 (and_left (is_lt (nat_cmp x e.0)) _ h)
below_last x (y ∷ xs) e h = below_last x xs e (and_right (is_lt (nat_cmp x y.0)) _ h)

-- an entry put behind all others
pub put-last : (xs : Entries ℕ) (e : ℕ × ℕ) → is_sorted word_order (xs ++ e ∷ []) ≡ true
    → (with_entry word_order xs e.0 e.1 ≡ xs ++ e ∷ []) × (value_of word_order xs e.0 ≡ None)
put-last [] e h = (refl, refl)
put-last (y ∷ xs) e h =
    let lt = below_last y.0 xs e (and_left (below_all word_order y.0 (xs ++ e ∷ [])) _ h) in
    let r = put-last xs e (and_right (below_all word_order y.0 (xs ++ e ∷ [])) _ h) in (
      ap (λ o. by_order o ((e.0, e.1) ∷ y ∷ xs) ((y.0, e.1) ∷ xs) (y ∷ with_entry word_order xs e.0 e.1)) (greater e.0 y.0 lt) ∙ ap (λ l. y ∷ l) r.0,
      ap (λ o. cond (is_eq o) (Some y.1) (value_of word_order xs e.0)) (greater e.0 y.0 lt) ∙ r.1,
    )

-- the next child of a list
pub next-put : (xs : Entries ℕ) (i : ℕ) (d e : ℕ × ℕ) → i < length xs → is_sorted word_order xs ≡ true
    → (with_entry word_order (take i xs) (get_or xs i d).0 (get_or xs i e).1 ≡ take (i + 1) xs) × (has_key word_order (take i xs) (get_or xs i d).0 ≡ false)
next-put xs i d e h s =
    let m : take (i + 1) xs ≡ take i xs ++ get_or xs i d ∷ [] = take_more xs i d h in
    let r = put-last (take i xs) (get_or xs i d) (ap (is_sorted word_order) (sym m) ∙ sorted_take (i + 1) xs s) in
    (ap (λ y. with_entry word_order (take i xs) (get_or xs i d).0 y.1) (any-default xs i e d h) ∙ r.0 ∙ sym m, ap is_some r.1)

pub sound-at : (xs : Entries ℕ) (i : ℕ) (d : ℕ × ℕ) → i < length xs → list_all is_child_entry xs ≡ true → is_child_entry (get_or xs i d) ≡ true
sound-at [] i d h s = absurd (omega arith)
sound-at (x ∷ xs) zero d h s = and_left (is_child_entry x) _ s
sound-at (x ∷ xs) (suc i) d h s = sound-at xs i d (omega arith) (and_right (is_child_entry x) _ s)

pub length-pairs : (ks vs : List ℕ) → length vs ≡ length ks → length (pairs ks vs) ≡ length ks
length-pairs [] vs e = refl
length-pairs (k ∷ ks) [] e = absurd (omega arith)
length-pairs (k ∷ ks) (v ∷ vs) e = ap suc (length-pairs ks vs (omega arith))

paired-count : (s : Shape) (ws : List ℕ) → IsPaired s ws → length (children_in s ws) ≡ count_in ws
paired-count s ws p = ap length p.are ∙ length-pairs (child_bytes s ws) (refs_in s ws) (p.same ∙ sym p.many) ∙ p.many

-- the count is that of the children
pub laid-count : (s : Shape) (ws : List ℕ) → IsLaid s ws → length (children_in s ws) ≡ count_in ws
laid-count Linear ws laid = paired-count Linear ws (linear-paired ws laid)
laid-count Bitmap ws laid = paired-count Bitmap ws (bitmap-paired ws laid)
laid-count Full ws laid = laid.counted

-- more children use no fewer words
pub used-mono : (s : Shape) (m n : ℕ) → m ≤ n → used_words s m ≤ used_words s n
used-mono Linear m n h = omega arith
used-mono Bitmap m n h = omega arith
used-mono Full m n h = omega arith

pub used-some : (s : Shape) (n : ℕ) → 3 < used_words s n
used-some Linear n = omega arith
used-some Bitmap n = omega arith
used-some Full n = omega arith

pub becomes-same : (s : Shape) (ws : List ℕ) (l : Entries ℕ) → IsLaid s ws → children_in s ws ≡ l → BranchBecomes s ws ws l
becomes-same s ws l laid e = record { laid = laid; children = e; head = record { level = refl; prefix = refl; population = refl }; size = refl }

pub becomes-then : (s : Shape) (a b c : List ℕ) (l m : Entries ℕ) → BranchBecomes s a b l → BranchBecomes s b c m → BranchBecomes s a c m
becomes-then s a b c l m p q = record {
  laid = q.laid;
  children = q.children;
  head = record { level = q.head.level ∙ p.head.level; prefix = q.head.prefix ∙ p.head.prefix; population = q.head.population ∙ p.head.population };
  size = q.size ∙ p.size;
}

pub none_under : (x k : ℕ) (es : Entries ℕ) → below_all word_order x es ≡ true → k ≤ x + 1 → filter (λ e. nat_lt e.0 k) es ≡ []
none_under x k [] h le = refl
none_under x k (e ∷ es) h le =
    let lt = from_less x e.0 (and_left (is_lt (nat_cmp x e.0)) _ h) in
    ap (λ t. cond t (e ∷ filter (λ e. nat_lt e.0 k) es) (filter (λ e. nat_lt e.0 k) es)) (le-ltb e.0 k (omega arith))
    ∙ none_under x k es (and_right (is_lt (nat_cmp x e.0)) _ h) le

-- the children below a byte, and one more
pub below-more : (es : Entries ℕ) (k w : ℕ) → is_sorted word_order es ≡ true → value_of word_order es k ≡ Some w
    → filter (λ e. nat_lt e.0 (k + 1)) es ≡ filter (λ e. nat_lt e.0 k) es ++ (k, w) ∷ []
below-more [] k w s h = absurd (let f : None ≡ Some w = h in cc)
below-more (e ∷ es) k w s h =
    let rest = and_right (below_all word_order e.0 es) _ s in
    elim (cases_lt e.0 k) [
      | inl lt ↦
          let after : value_of word_order es k ≡ Some w = sym (ap (λ o. cond (is_eq o) (Some e.1) (value_of word_order es k)) (greater k e.0 lt)) ∙ h in
          ap (λ t. cond t (e ∷ filter (λ e. nat_lt e.0 (k + 1)) es) (filter (λ e. nat_lt e.0 (k + 1)) es)) (lt-ltb e.0 (k + 1) (omega arith))
          ∙ ap (λ l. e ∷ l) (below-more es k w rest after)
          ∙ sym (ap (λ t. cond t (e ∷ filter (λ e. nat_lt e.0 k) es) (filter (λ e. nat_lt e.0 k) es) ++ (k, w) ∷ []) (lt-ltb e.0 k lt))
      | inr ge ↦ elim (cases_eq e.0 k) [
        | inl same ↦
            let under = and_left (below_all word_order e.0 es) _ s in
            let here : Some e.1 ≡ Some w = sym (ap (λ o. cond (is_eq o) (Some e.1) (value_of word_order es k)) (equal k e.0 (sym same))) ∙ h in
            let value : e.1 ≡ w = some_same e.1 w here in
            ap (λ t. cond t (e ∷ filter (λ e. nat_lt e.0 (k + 1)) es) (filter (λ e. nat_lt e.0 (k + 1)) es)) (lt-ltb e.0 (k + 1) (omega arith))
            ∙ ap (λ l. e ∷ l) (none_under e.0 (k + 1) es under (omega arith)) ∙ ap (λ x. (x, e.1) ∷ []) same ∙ ap (λ y. (k, y) ∷ []) value
            ∙ sym (ap (λ t. cond t (e ∷ filter (λ e. nat_lt e.0 k) es) (filter (λ e. nat_lt e.0 k) es) ++ (k, w) ∷ []) (le-ltb e.0 k ge)
            ∙ ap (λ l. l ++ (k, w) ∷ []) (none_under e.0 k es under (omega arith)))
        | inr other ↦ absurd (let lt : k < e.0 = omega arith in
            let none : value_of word_order (e ∷ es) k ≡ None = ap (λ o. cond (is_eq o) (Some e.1) (value_of word_order es k))
            (less k e.0 lt) ∙ (past es e.0 k (omega arith) (and_left (below_all word_order e.0 es) _ s)).0 in
            let f : None ≡ Some w = sym none ∙ h in cc)
      ]
    ]
  where
    some_same : (a b : ℕ) → Some a ≡ Some b → a ≡ b
    some_same a b h = cc

-- and none more
pub below-same : (es : Entries ℕ) (k : ℕ) → value_of word_order es k ≡ None → filter (λ e. nat_lt e.0 (k + 1)) es ≡ filter (λ e. nat_lt e.0 k) es
below-same [] k h = refl
below-same (e ∷ es) k h =
    elim (cases_lt e.0 k) [
      | inl lt ↦
          let after : value_of word_order es k ≡ None = sym (ap (λ o. cond (is_eq o) (Some e.1) (value_of word_order es k)) (greater k e.0 lt)) ∙ h in
          ap (λ t. cond t (e ∷ filter (λ e. nat_lt e.0 (k + 1)) es) (filter (λ e. nat_lt e.0 (k + 1)) es)) (lt-ltb e.0 (k + 1) (omega arith))
          ∙ ap (λ l. e ∷ l) (below-same es k after)
          ∙ sym (ap (λ t. cond t (e ∷ filter (λ e. nat_lt e.0 k) es) (filter (λ e. nat_lt e.0 k) es)) (lt-ltb e.0 k lt))
      | inr ge ↦ elim (cases_eq e.0 k) [
        | inl same ↦ absurd (let here : Some e.1 ≡ None = sym (ap (λ o. cond (is_eq o) (Some e.1) (value_of word_order es k))
            (equal k e.0 (sym same))) ∙ h in cc)
        | inr other ↦
            let lt : k < e.0 = omega arith in
            let after : value_of word_order es k ≡ None = sym (ap (λ o. cond (is_eq o) (Some e.1) (value_of word_order es k)) (less k e.0 lt)) ∙ h in
            ap (λ t. cond t (e ∷ filter (λ e. nat_lt e.0 (k + 1)) es) (filter (λ e. nat_lt e.0 (k + 1)) es)) (le-ltb e.0 (k + 1) (omega arith))
            ∙ below-same es k after ∙ sym (ap (λ t. cond t (e ∷ filter (λ e. nat_lt e.0 k) es) (filter (λ e. nat_lt e.0 k) es)) (le-ltb e.0 k ge))
      ]
    ]

pub none-below : (es : Entries ℕ) → filter (λ e. nat_lt e.0 0) es ≡ []
none-below [] = refl
none-below (e ∷ es) = ap (λ t. cond t (e ∷ filter (λ e. nat_lt e.0 0) es) (filter (λ e. nat_lt e.0 0) es)) (le-ltb e.0 0 (omega arith)) ∙ none-below es

pub all-below : (es : Entries ℕ) → list_all is_child_entry es ≡ true → filter (λ e. nat_lt e.0 256) es ≡ es
all-below [] h = refl
all-below (e ∷ es) h =
    ap (λ t. cond t (e ∷ filter (λ e. nat_lt e.0 256) es) (filter (λ e. nat_lt e.0 256) es))
    (and_left (nat_lt e.0 256) (is_child e.1) (and_left (is_child_entry e) _ h))
    ∙ ap (λ l. e ∷ l) (all-below es (and_right (is_child_entry e) _ h))

pub few-below : (es : Entries ℕ) (k : ℕ) → length (filter (λ e. nat_lt e.0 k) es) ≤ length es
few-below [] k = omega arith
few-below (e ∷ es) k =
    let rest = few-below es k in
    elim (nat_lt e.0 k) as (λ t. length (cond t (e ∷ filter (λ e. nat_lt e.0 k) es) (filter (λ e. nat_lt e.0 k) es)) ≤ suc
    (length es)) [ true ↦ omega arith | false ↦ omega arith ]
