-- A walk, which goes from each entry to the next by a search, is the first n entries that its search looks among.
use Rattle.std.proofs.Common.{◌≡◌, ◌∙◌, ◌∷◌, ◌&&◌, ℕ, zero, suc, Bool, true, false, cond, List, [], Option, Some, None, map, take, drop, reverse, refl, sym, ap, subst}
use Rattle.std.specs.Prelude.{filter, option_map}
use mathlib.Core.List.{reverse_aux}
use Rattle.std.specs.declared.cmp.Ordering.{Ordering}
use Rattle.std.specs.declared.cmp.Ordering.TheVariants.{Less, Equal, Greater}
use Rattle.std.specs.Ordering.{ordering_reverse, is_ge, is_gt, is_le, is_lt}
use Rattle.std.specs.Cmp.{IsTotalOrder, nat_cmp_total, tied_itself}
use Rattle.std.specs.Cmp.Lexicographic.{nat_list_cmp_total}
use Rattle.std.specs.FinMap.{is_sorted}
use Rattle.std.specs.FinMap.Entries.{below_all}
use Rattle.judy_model.specs.declared.calls.Search.{Search}
use Rattle.judy_model.specs.declared.calls.Search.TheVariants.{First, Next, Last, Prev}
use Rattle.judy_model.specs.Contents.{Order, Entries, word_order, string_order, head_of, last_of}
use Rattle.judy_model.specs.Walks.{ByteWalksAreWhole, WalksAreTakes, by_hash, found_by, in_direction, search_on, walk, walk_from}
use Rattle.judy_model.proofs.lemmas.ByteLemmas.{by_hash_rises, length_by_hash, value_by_hash}
use Rattle.judy_model.proofs.lemmas.TestLemmas.{and_left, and_right, is_Less}

-- ---- comparisons

less_not_greater : (o : Ordering) → is_lt o ≡ true → is_gt o ≡ false
less_not_greater Less h = refl
less_not_greater Equal h = cc
less_not_greater Greater h = cc

turned_less : (o : Ordering) → is_lt o ≡ true → is_gt (ordering_reverse o) ≡ true
turned_less Less h = refl
turned_less Equal h = cc
turned_less Greater h = cc

turned_greater : (o : Ordering) → is_gt o ≡ true → is_lt (ordering_reverse o) ≡ true
turned_greater Less h = cc
turned_greater Equal h = cc
turned_greater Greater h = refl

-- ---- the front of a list

abbrev front : {A : Type 0} → List A → List A
front [] = []
front (x ∷ []) = []
front (x ∷ y ∷ ys) = x ∷ front (y ∷ ys)

nothing_last : {A : Type 0} (xs : List A) → last_of xs ≡ None → xs ≡ []
nothing_last [] h = refl
nothing_last (x ∷ []) h = cc
nothing_last (x ∷ y ∷ ys) h = absurd (nil (nothing_last (y ∷ ys) h))
  where
    nil : y ∷ ys ≡ [] → ⊥
    nil e = cc

turned : {A : Type 0} (xs acc : List A) (x : A) → last_of xs ≡ Some x → reverse_aux xs acc ≡ x ∷ reverse_aux (front xs) acc
turned [] acc x h = cc
turned (y ∷ []) acc x h = cc
turned (y ∷ z ∷ zs) acc x h = turned (z ∷ zs) (y ∷ acc) x h

-- what is found may be mapped first or last
mapped : {A B : Type 0} (f : A → B) (on : B → Option A) (n : ℕ) (found : Option A)
    → walk_from (λ b. option_map f (on b)) n (option_map f found) ≡ map f (walk_from (λ a. on (f a)) n found)
mapped f on zero found = refl
mapped f on (suc n) None = refl
mapped f on (suc n) (Some a) = ap (λ t. f a ∷ t) (mapped f on n (on (f a)))

module _ {K : Type 0} (order : Order K) (total : IsTotalOrder order) where
  -- the keys above one, and below one
  abbrev above : K → K × ℕ → Bool
  above k e = is_gt (order e.0 k)

  abbrev under : K → K × ℕ → Bool
  under k e = is_lt (order e.0 k)

  is_above : (a b : K) → is_lt (order a b) ≡ true → is_gt (order b a) ≡ true
  is_above a b h = ap is_gt (total.antisymm b a) ∙ turned_less (order a b) h

  is_under : (a b : K) → is_gt (order a b) ≡ true → is_lt (order b a) ≡ true
  is_under a b h = ap is_lt (total.antisymm b a) ∙ turned_greater (order a b) h

  not_above_itself : (k : K) → is_gt (order k k) ≡ false
  not_above_itself k = ap is_gt (tied_itself total k)

  not_under_itself : (k : K) → is_lt (order k k) ≡ false
  not_under_itself k = ap is_lt (tied_itself total k)

  goes_up : (x e f : K) → is_ge (order e x) ≡ true → is_lt (order e f) ≡ true → is_gt (order f x) ≡ true
  goes_up x e f h less = is_above x f (by (order e x) refl h)
    where
      by : (o : Ordering) → order e x ≡ o → is_ge o ≡ true → is_lt (order x f) ≡ true
      by Less is h = cc
      by Equal is h = ap is_lt (sym (total.congr e x f is)) ∙ less
      by Greater is h = ap is_lt (total.trans x e f (is_Less (order x e) (is_under e x (ap is_gt is))) (is_Less (order e f) less))

  goes_down : (x e f : K) → is_le (order e x) ≡ true → is_lt (order f e) ≡ true → is_lt (order f x) ≡ true
  goes_down x e f h less = by (order e x) refl h
    where
      by : (o : Ordering) → order e x ≡ o → is_le o ≡ true → is_lt (order f x) ≡ true
      by Less is h = ap is_lt (total.trans f e x (is_Less (order f e) less) is)
      by Equal is h = is_under x f (ap is_gt (sym (total.congr e x f is)) ∙ is_above f e less)
      by Greater is h = cc

  -- ---- upwards

  abbrev IsUp : (K × ℕ → Bool) → Type 0
  IsUp p = (e f : K × ℕ) → is_lt (order e.0 f.0) ≡ true → p e ≡ true → p f ≡ true

  kept : (p : K × ℕ → Bool) (k : K) (es : Entries K) → ((f : K × ℕ) → is_lt (order k f.0) ≡ true → p f ≡ true)
      → below_all order k es ≡ true → filter p es ≡ es
  kept p k [] h below = refl
  kept p k (f ∷ fs) h below =
      ap (λ b. cond b (f ∷ filter p fs) (filter p fs)) (h f (and_left (is_lt (order k f.0)) _ below))
      ∙ ap (λ t. f ∷ t) (kept p k fs h (and_right (is_lt (order k f.0)) _ below))

  left_out : (p : K × ℕ → Bool) (k : K) (es : Entries K) → ((f : K × ℕ) → is_lt (order k f.0) ≡ true → p f ≡ false)
      → below_all order k es ≡ true → filter p es ≡ []
  left_out p k [] h below = refl
  left_out p k (f ∷ fs) h below =
      ap (λ b. cond b (f ∷ filter p fs) (filter p fs)) (h f (and_left (is_lt (order k f.0)) _ below))
      ∙ left_out p k fs h (and_right (is_lt (order k f.0)) _ below)

  -- what passes a test among keys above k is above k
  below_filter : (p : K × ℕ → Bool) (k : K) (es : Entries K) → below_all order k es ≡ true → below_all order k (filter p es) ≡ true
  below_filter p k [] below = refl
  below_filter p k (f ∷ fs) below = by (p f) (and_left (is_lt (order k f.0)) _ below) (below_filter p k fs (and_right (is_lt (order k f.0)) _ below))
    where
      by : (b : Bool) → is_lt (order k f.0) ≡ true → below_all order k (filter p fs) ≡ true
          → below_all order k (cond b (f ∷ filter p fs) (filter p fs)) ≡ true
      by true less rest = ap (λ b. b && below_all order k (filter p fs)) less ∙ rest
      by false less rest = rest

  last_above : (k : K) (es : Entries K) (e : K × ℕ) → below_all order k es ≡ true → last_of es ≡ Some e → is_lt (order k e.0) ≡ true
  last_above k [] e below is = cc
  last_above k (f ∷ []) e below is = subst (λ g. is_lt (order k g.0) ≡ true) (same f e is) (and_left (is_lt (order k f.0)) _ below)
    where
      same : (f e : K × ℕ) → Some f ≡ Some e → f ≡ e
      same f e h = cc
  last_above k (f ∷ g ∷ gs) e below is = last_above k (g ∷ gs) e (and_right (is_lt (order k f.0)) _ below) is

  head_above : (k : K) (es rest : Entries K) (e : K × ℕ) → below_all order k es ≡ true → es ≡ e ∷ rest → is_lt (order k e.0) ≡ true
  head_above k es rest e below is = and_left (is_lt (order k e.0)) _ (ap (below_all order k) (sym is) ∙ below)

  -- behind the first that passes are the keys above it
  behind : (p : K × ℕ → Bool) (l rest : Entries K) (e : K × ℕ) → IsUp p → is_sorted order l ≡ true → filter p l ≡ e ∷ rest
      → filter (above e.0) l ≡ rest
  behind p [] rest e up rising is = cc
  behind p (f ∷ fs) rest e up rising is = by (p f) refl is (λ passed. behind p fs rest e up (and_right (below_all order f.0 fs) _ rising) passed)
    where
      below : below_all order f.0 fs ≡ true
      below = and_left (below_all order f.0 fs) _ rising

      by : (b : Bool) → p f ≡ b → cond b (f ∷ filter p fs) (filter p fs) ≡ e ∷ rest → (filter p fs ≡ e ∷ rest → filter (above e.0) fs ≡ rest)
          → filter (above e.0) (f ∷ fs) ≡ rest
      by true holds is later =
          let same : e ≡ f = cc in
          let tail : filter p fs ≡ rest = cc in
          ap (λ k. filter (above k.0) (f ∷ fs)) same
          ∙ ap (λ b. cond b (f ∷ filter (above f.0) fs) (filter (above f.0) fs)) (not_above_itself f.0)
          ∙ kept (above f.0) f.0 fs (λ g less. is_above f.0 g.0 less) below
          ∙ sym (kept p f.0 fs (λ g less. up f g less holds) below)
          ∙ tail
      by false holds is later =
          let less = head_above f.0 (filter p fs) rest e (below_filter p f.0 fs below) is in
          ap (λ b. cond b (f ∷ filter (above e.0) fs) (filter (above e.0) fs)) (less_not_greater (order f.0 e.0) less)
          ∙ later is

  up_above : (k : K) → IsUp (above k)
  up_above k e f less h = goes_up k e.0 f.0 (at_least (order e.0 k) h) less
    where
      at_least : (o : Ordering) → is_gt o ≡ true → is_ge o ≡ true
      at_least Less h = cc
      at_least Equal h = refl
      at_least Greater h = refl

  up_from : (k : K) → IsUp (λ e. is_ge (order e.0 k))
  up_from k e f less h = at_least (order f.0 k) (goes_up k e.0 f.0 h less)
    where
      at_least : (o : Ordering) → is_gt o ≡ true → is_ge o ≡ true
      at_least Less h = cc
      at_least Equal h = refl
      at_least Greater h = refl

  walk_up : (n : ℕ) (p : K × ℕ → Bool) (l : Entries K) → IsUp p → is_sorted order l ≡ true
      → walk_from (λ e. head_of (filter (above e.0) l)) n (head_of (filter p l)) ≡ take n (filter p l)
  walk_up zero p l up rising = refl
  walk_up (suc n) p l up rising = by (filter p l) refl (λ e. walk_up n (above e.0) l (up_above e.0) rising)
    where
      by : (es : Entries K) → filter p l ≡ es
          → ((e : K × ℕ) → walk_from (λ e. head_of (filter (above e.0) l)) n (head_of (filter (above e.0) l)) ≡ take n (filter (above e.0) l))
          → walk_from (λ e. head_of (filter (above e.0) l)) (suc n) (head_of es) ≡ take (suc n) es
      by [] is later = refl
      by (e ∷ es) is later = ap (λ t. e ∷ t) (later e ∙ ap (take n) (behind p l es e up rising is))

  -- ---- downwards

  abbrev IsDown : (K × ℕ → Bool) → Type 0
  IsDown p = (e f : K × ℕ) → is_lt (order f.0 e.0) ≡ true → p e ≡ true → p f ≡ true

  -- before the last that passes are the keys below it
  before : (p : K × ℕ → Bool) (l : Entries K) (e : K × ℕ) → IsDown p → is_sorted order l ≡ true → last_of (filter p l) ≡ Some e
      → filter (under e.0) l ≡ front (filter p l)
  before p [] e down rising is = cc
  before p (f ∷ fs) e down rising is = by (p f) refl is (before p fs e down (and_right (below_all order f.0 fs) _ rising))
    where
      below : below_all order f.0 fs ≡ true
      below = and_left (below_all order f.0 fs) _ rising

      fails : p f ≡ false → (g : K × ℕ) → is_lt (order f.0 g.0) ≡ true → p g ≡ false
      fails h g less = test (p g) refl
        where
          test : (b : Bool) → p g ≡ b → b ≡ false
          test true is = let has = down g f less is in cc
          test false is = refl

      more : (gs : Entries K) → filter p fs ≡ gs → last_of (f ∷ gs) ≡ Some e
          → (last_of (filter p fs) ≡ Some e → filter (under e.0) fs ≡ front (filter p fs)) → filter (under e.0) (f ∷ fs) ≡ front (f ∷ gs)
      more [] none is earlier =
          let same : e ≡ f = cc in
          ap (λ k. filter (under k.0) (f ∷ fs)) same
          ∙ ap (λ b. cond b (f ∷ filter (under f.0) fs) (filter (under f.0) fs)) (not_under_itself f.0)
          ∙ left_out (under f.0) f.0 fs (λ g less. not_less (order g.0 f.0) (is_above f.0 g.0 less)) below
        where
          not_less : (o : Ordering) → is_gt o ≡ true → is_lt o ≡ false
          not_less Less h = cc
          not_less Equal h = refl
          not_less Greater h = refl
      more (g ∷ gs) some is earlier =
          let less = last_above f.0 (g ∷ gs) e (ap (below_all order f.0) (sym some) ∙ below_filter p f.0 fs below) is in
          ap (λ b. cond b (f ∷ filter (under e.0) fs) (filter (under e.0) fs)) less
          ∙ ap (λ t. f ∷ t) (earlier (ap last_of some ∙ is) ∙ ap front some)

      by : (b : Bool) → p f ≡ b → last_of (cond b (f ∷ filter p fs) (filter p fs)) ≡ Some e
          → (last_of (filter p fs) ≡ Some e → filter (under e.0) fs ≡ front (filter p fs))
          → filter (under e.0) (f ∷ fs) ≡ front (cond b (f ∷ filter p fs) (filter p fs))
      by true holds is earlier = more (filter p fs) refl is earlier
      by false fails' is earlier =
          let none = left_out p f.0 fs (fails fails') below in
          absurd (nothing (ap last_of (sym none) ∙ is))
        where
          nothing : None ≡ Some e → ⊥
          nothing h = cc

  down_under : (k : K) → IsDown (under k)
  down_under k e f less h = goes_down k e.0 f.0 (at_most (order e.0 k) h) less
    where
      at_most : (o : Ordering) → is_lt o ≡ true → is_le o ≡ true
      at_most Less h = refl
      at_most Equal h = refl
      at_most Greater h = cc

  down_to : (k : K) → IsDown (λ e. is_le (order e.0 k))
  down_to k e f less h = at_most (order f.0 k) (goes_down k e.0 f.0 h less)
    where
      at_most : (o : Ordering) → is_lt o ≡ true → is_le o ≡ true
      at_most Less h = refl
      at_most Equal h = refl
      at_most Greater h = cc

  walk_down : (n : ℕ) (p : K × ℕ → Bool) (l : Entries K) → IsDown p → is_sorted order l ≡ true
      → walk_from (λ e. last_of (filter (under e.0) l)) n (last_of (filter p l)) ≡ take n (reverse (filter p l))
  walk_down zero p l down rising = refl
  walk_down (suc n) p l down rising = by (last_of (filter p l)) refl (λ e. walk_down n (under e.0) l (down_under e.0) rising)
    where
      by : (found : Option (K × ℕ)) → last_of (filter p l) ≡ found
          → ((e : K × ℕ) → walk_from (λ e. last_of (filter (under e.0) l)) n (last_of (filter (under e.0) l)) ≡ take n (reverse (filter (under e.0) l)))
          → walk_from (λ e. last_of (filter (under e.0) l)) (suc n) found ≡ take (suc n) (reverse (filter p l))
      by None is later = sym (ap (λ es. take (suc n) (reverse es)) (nothing_last (filter p l) is))
      by (Some e) is later =
          ap (λ t. e ∷ t) (later e ∙ ap (λ es. take n (reverse es)) (before p l e down rising is))
          ∙ sym (ap (take (suc n)) (turned (filter p l) [] e is))

  -- ---- each search

  pub walks : (l : Entries K) (search : Search) (x : K) (n : ℕ) → is_sorted order l ≡ true → walk order l search x n ≡ take n (in_direction order l search x)
  walks l First x n rising = walk_up n (λ e. is_ge (order e.0 x)) l (up_from x) rising
  walks l Next x n rising = walk_up n (above x) l (up_above x) rising
  walks l Last x n rising = walk_down n (λ e. is_le (order e.0 x)) l (down_to x) rising
  walks l Prev x n rising = walk_down n (under x) l (down_under x) rising

pub walks_are_takes : WalksAreTakes
walks_are_takes = (
  λ l search x n rising. walks word_order nat_cmp_total l search x n rising,
  λ l search x n rising. mapped (λ e. e.0) (λ y. found_by word_order l (search_on search) y) n (found_by word_order l search x)
      ∙ ap (map (λ e. e.0)) (walks word_order nat_cmp_total l search x n rising),
  λ l search x n rising. walks string_order nat_list_cmp_total l search x n rising,
)

pub byte_walks_are_whole : ByteWalksAreWhole
byte_walks_are_whole l rising = (
  by_hash_rises l,
  length_by_hash l rising,
  λ key. value_by_hash l key,
  λ from n. ap (map (λ e. (drop 1 e.0, e.1))) (walks string_order nat_list_cmp_total (by_hash l) Next from n (by_hash_rises l)),
)
