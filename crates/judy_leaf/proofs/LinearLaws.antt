-- The words of a linear leaf: how they are read, and what a key more or less makes of them.
use Rattle.std.proofs.Common.{◌≡◌, ◌≢◌, ℕ, zero, suc, ◌+◌, ◌-◌, ◌*◌, ◌<◌, ◌≤◌, ◌^◌, Bool, true, false, cond, List, [], ◌∷◌}
use Rattle.std.proofs.Common.{◌++◌, take, drop, set, length, get_or, replicate, Some, None, is_some, ap, sym, ◌∙◌, refl, subst}
use Rattle.std.proofs.Common.{arith, length-append, length-drop, length-set, append-nil, add-one}
use Rattle.std.specs.Prelude.{map, slice_get, nat_le, ◌&&◌}
use Rattle.std.specs.FinMap.{is_sorted}
use Rattle.std.specs.FinMap.Entries.{below_all}
use Rattle.std.specs.Ordering.{is_lt}
use Rattle.std.specs.List.{list_all}
use Rattle.std.specs.List.{insert, remove}
use Rattle.std.proofs.lemmas.List.{length-take-le, length-replicate, get_or-take, get_or-drop, take-take, drop-take}
use Rattle.std.proofs.lemmas.List.Edits.{length-insert, length-remove, insert-append_left, insert-append_right, remove-append_left, remove-append_right}
use lib.Seq.{get_or-set_other, drop-set-add, take-set-le, paste, take-paste, length-paste, take-length, take-add, take-set-lt}
use lib.Seq.{take-append_seam, drop-append_seam}
use Rattle.std.proofs.lemmas.Grind.{get_or_after_one}
use Rattle.std.proofs.lemmas.Bool.Decides.{nat_tests}
use Rattle.judy_model.specs.Contents.{word_order, value_of, has_key, with_entry, without_key, IsWordArray, pairs, HasWordValues}
use Rattle.judy_model.proofs.lemmas.EntryLemmas.{place-new, place-gone, place-old, find-not, find-there, keys-rise}
use Rattle.judy_leaf.specs.Entries.{rank_of}
use Rattle.judy_leaf.proofs.Zipped.{zip-keys}
use Rattle.std.specs.Prelude.{filter, nat_lt}
use Rattle.std.proofs.lemmas.Bool.{and_parts}
use Rattle.judy_leaf.specs.Linear.{leaf_count, linear_size, linear_key, linear_keys, linear_values, linear_entries, IsLinear, StandsAt, GoesTo}
use Rattle.judy_leaf.proofs.Places.{place-counts, words-with, words-without, values-with, values-without}

-- what a linear leaf begins with
abbrev pub layout : Bool → ℕ → List ℕ → List ℕ → List ℕ
layout v n ks vs = n ∷ (ks ++ cond v vs [])

-- words read as a linear leaf of these keys and values
pub record Reads (v : Bool) (ws ks vs : List ℕ) : Type 0 where
  pub count : leaf_count ws ≡ length ks
  pub keys : linear_keys ws ≡ ks
  pub values : linear_values v ws ≡ cond v vs (replicate (length ks) 0)
  pub room : linear_size v (length ks) ≤ length ws

front_keys : (t ks r : List ℕ) → take (length (ks ++ r)) t ≡ ks ++ r → take (length ks) t ≡ ks
front_keys t ks r h = let n = length-append ks r in sym (take-take (length ks) (length (ks ++ r)) t (omega arith))
    ∙ ap (take (length ks)) h ∙ take-append_seam ks r

front_values : (t ks vs : List ℕ) → take (length (ks ++ vs)) t ≡ ks ++ vs → take (length vs) (drop (length ks) t) ≡ vs
front_values t ks vs h = sym (drop-take (length ks) (length vs) t) ∙ ap (λ n. drop (length ks) (take n t))
    (sym (length-append ks vs)) ∙ ap (drop (length ks)) h ∙ drop-append_seam ks vs

few_taken : (n : ℕ) (s : List ℕ) → length (take n s) ≤ length s
few_taken zero s = omega arith
few_taken (suc n) [] = omega arith
few_taken (suc n) (x ∷ s) = let h = few_taken n s in omega arith

one-add : (n : ℕ) → 1 + n ≡ suc n
one-add n = omega arith

-- words that begin so read so
pub reads : (v : Bool) (ws ks vs : List ℕ) (n : ℕ) → n ≡ length (layout v (length ks) ks vs) → take n ws ≡ layout v (length ks) ks
    vs → length vs ≡ length ks → Reads v ws ks vs
unfolding linear_keys linear_values
reads v [] ks vs zero long h same = absurd (let e : 0 ≡ suc (length (ks ++ cond v vs [])) = ap length h in omega arith)
reads v [] ks vs (suc n) long h same = absurd (let e : 0 ≡ suc (length (ks ++ cond v vs [])) = ap length h in omega arith)
reads v (x ∷ t) ks vs zero long h same = absurd (omega arith)
reads true (x ∷ t) ks vs (suc n) long h same =
    let first : x ≡ length ks = ap (λ l. get_or l 0 0) h in
    let e : n ≡ length (ks ++ vs) = omega (arith, long) in
    let rest : take (length (ks ++ vs)) t ≡ ks ++ vs = ap (λ m. take m t) (sym e) ∙ ap (λ l. drop 1 l) h in
    let many = few_taken (length (ks ++ vs)) t in
    record {
      count = first;
      keys = ap (λ n. take n t) first ∙ front_keys t ks vs rest;
      values = ap (λ n. take n (drop (1 + n) (x ∷ t))) first ∙ ap (λ m. take (length ks) (drop m (x ∷ t))) (one-add (length ks))
          ∙ ap (λ n. take n (drop (length ks) t)) (sym same) ∙ front_values t ks vs rest;
      room = omega (arith, ap length rest, length-append ks vs, many);
    }
reads false (x ∷ t) ks vs (suc n) long h same =
    let first : x ≡ length ks = ap (λ l. get_or l 0 0) h in
    let e : n ≡ length (ks ++ []) = omega (arith, long) in
    let rest : take (length (ks ++ [])) t ≡ ks ++ [] = ap (λ m. take m t) (sym e) ∙ ap (λ l. drop 1 l) h in
    let many = few_taken (length (ks ++ [])) t in
    record {
      count = first;
      keys = ap (λ n. take n t) first ∙ front_keys t ks [] rest;
      values = ap (λ n. replicate n 0) first;
      room = omega (arith, ap length rest, length-append {A = ℕ} ks [], many);
    }

-- the entries that words read so spell
pub entries-read : (v : Bool) (ws ks vs : List ℕ) → Reads v ws ks vs → linear_entries v ws ≡ pairs ks (cond v vs (replicate (length ks) 0))
unfolding linear_entries
entries-read v ws ks vs r = ap (λ k. pairs k (linear_values v ws)) r.keys ∙ ap (pairs ks) r.values

-- ---- a word put into the layout, and one taken out

insert-key : (x : ℕ) (ks r : List ℕ) (p y : ℕ) → p ≤ length ks → insert (x ∷ (ks ++ r)) (1 + p) y ≡ x ∷ (insert ks p y ++ r)
insert-key x ks r p y h = ap (λ i. insert (x ∷ (ks ++ r)) i y) (one-add p) ∙ ap (λ l. x ∷ l) (insert-append_left ks r p y h)

insert-value : (x : ℕ) (ks vs : List ℕ) (n p y : ℕ) → length ks ≡ n → insert (x ∷ (ks ++ vs)) (1 + n + p) y ≡ x ∷ (ks ++ insert vs p y)
insert-value x ks vs n p y e =
    let i : 1 + n + p ≡ suc (n + p) = omega arith in
    let j : n + p - n ≡ p = omega arith in
    ap (λ i. insert (x ∷ (ks ++ vs)) i y) i ∙ ap (λ l. x ∷ l) (insert-append_right ks vs n (n + p) y e (omega arith)) ∙ ap (λ i. x ∷ (ks ++ insert vs i y)) j

remove-key : (x : ℕ) (ks r : List ℕ) (p : ℕ) → p < length ks → remove (x ∷ (ks ++ r)) (1 + p) ≡ x ∷ (remove ks p ++ r)
remove-key x ks r p h = ap (λ i. remove (x ∷ (ks ++ r)) i) (one-add p) ∙ ap (λ l. x ∷ l) (remove-append_left ks r p h)

remove-value : (x : ℕ) (ks vs : List ℕ) (n p : ℕ) → length ks ≡ n → remove (x ∷ (ks ++ vs)) (1 + n + p) ≡ x ∷ (ks ++ remove vs p)
remove-value x ks vs n p e =
    let i : 1 + n + p ≡ suc (n + p) = omega arith in
    let j : n + p - n ≡ p = omega arith in
    ap (λ i. remove (x ∷ (ks ++ vs)) i) i ∙ ap (λ l. x ∷ l) (remove-append_right ks vs n (n + p) e (omega arith)) ∙ ap (λ i. x ∷ (ks ++ remove vs i)) j

-- the first word written
count-written : (ws xs : List ℕ) (n x y : ℕ) → 0 < n → take n ws ≡ x ∷ xs → take n (set ws 0 y) ≡ y ∷ xs
count-written ws xs n x y h e = take-set-lt n ws 0 y h ∙ ap (λ l. set l 0 y) e

pub zeros_insert : (n p : ℕ) → p ≤ n → insert {X = ℕ} (replicate n 0) p 0 ≡ replicate (suc n) 0
zeros_insert n zero h = refl
zeros_insert zero (suc p) h = absurd (omega arith)
zeros_insert (suc n) (suc p) h = ap (λ l. 0 ∷ l) (zeros_insert n p (omega arith))

pub zeros_remove : (n p : ℕ) → p < n → remove {X = ℕ} (replicate n 0) p ≡ replicate (n - 1) 0
zeros_remove zero p h = absurd (omega arith)
zeros_remove (suc n) zero h = let e : n ≡ suc n - 1 = omega arith in ap (λ m. replicate m 0) e
zeros_remove (suc (suc n)) (suc p) h = ap (λ l. 0 ∷ l) (zeros_remove (suc n) p (omega arith)) ∙ ap (λ m. replicate m 0)
    (let e : suc (suc n - 1) ≡ suc (suc n) - 1 = omega arith in e)
zeros_remove (suc zero) (suc p) h = absurd (omega arith)

pub zero_at : (n p : ℕ) → get_or {A = ℕ} (replicate n 0) p 0 ≡ 0
zero_at zero p = refl
zero_at (suc n) zero = refl
zero_at (suc n) (suc p) = zero_at n p

-- a leaf has more words than keys
pub size-more : (v : Bool) (n l : ℕ) → linear_size v n ≤ l → n < l
size-more true n l h = omega arith
size-more false n l h = omega arith

-- ---- the parts of a leaf

module _ (v : Bool) (f : List ℕ) (room : linear_size v (leaf_count f) ≤ length f) where
  pub keys-are : linear_keys f ≡ take (leaf_count f) (drop 1 f)
  unfolding linear_keys
  keys-are = refl

  -- a leaf has as many keys as it says
  pub keys-count : length (linear_keys f) ≡ leaf_count f
  keys-count = ap length keys-are ∙ length-take-le (leaf_count f) (drop 1 f) (omega (arith, length-drop 1 f, size-more v (leaf_count f) (length f) room))

  -- a leaf has as many values as keys
  pub values-count : length (linear_values v f) ≡ length (linear_keys f)
  unfolding linear_values
  values-count = count v room ∙ sym keys-count
    where
      count : (v : Bool) → linear_size v (leaf_count f) ≤ length f
          → length (cond v (take (leaf_count f) (drop (1 + leaf_count f) f)) (replicate (leaf_count f) 0)) ≡ leaf_count f
      count true room = length-take-le (leaf_count f) (drop (1 + leaf_count f) f) (omega (arith, length-drop (1 + leaf_count f) f))
      count false room = length-replicate {A = ℕ} (leaf_count f) 0

  -- the key at a place
  pub key-at : (i : ℕ) → i < leaf_count f → get_or (linear_keys f) i 0 ≡ linear_key f i
  unfolding linear_keys
  key-at i h = get_or-take (leaf_count f) (drop 1 f) i 0 h ∙ get_or_after_one f i 0 ∙ ap (λ k. get_or f k 0) (omega arith)

  -- the entries of a leaf are its keys and values
  pub entries-are : linear_entries v f ≡ pairs (linear_keys f) (linear_values v f)
  unfolding linear_entries
  entries-are = refl

-- the front of a list in two parts
take-parts : (m n : ℕ) (f : List ℕ) → take (m + n) f ≡ take m f ++ take n (drop m f)
take-parts m n f = take-add m n f

-- the words that a leaf uses
pub front : (v : Bool) (f : List ℕ) → linear_size v (leaf_count f) ≤ length f → take (linear_size v (leaf_count f)) f ≡ layout v
    (leaf_count f) (linear_keys f) (linear_values v f)
unfolding linear_keys linear_values
front true [] room = absurd (omega arith)
front false [] room = absurd (omega arith)
front true (x ∷ f) room =
    let e : 1 + 2 * x ≡ suc (x + x) = omega arith in
    let g : 1 + x ≡ suc x = omega arith in
    ap (λ m. take m (x ∷ f)) e ∙ ap (λ l. x ∷ l) (take-parts x x f) ∙ ap (λ m. x ∷ (take x f ++ take x (drop m (x ∷ f)))) (sym g)
front false (x ∷ f) room =
    let e : 1 + x ≡ suc x = omega arith in
    ap (λ m. take m (x ∷ f)) e ∙ ap (λ l. x ∷ l) (sym (append-nil (take x f)))

no-values : (f : List ℕ) → linear_values false f ≡ replicate (leaf_count f) 0
unfolding linear_values
no-values f = refl

-- the words with one key more
pub more-map : (v : Bool) (f : List ℕ) → linear_size v (leaf_count f) ≤ length f → (p key y : ℕ) (a b : List ℕ) → v ≡ true → p ≤ leaf_count f
    → take (linear_size v (leaf_count f) + 1) a ≡ insert (take (linear_size v (leaf_count f)) f) (1 + leaf_count f + p) y
    → take (linear_size v (leaf_count f) + 1 + 1) b ≡ insert (take (linear_size v (leaf_count f) + 1) a) (1 + p) key
    → (leaf_count (set b 0 (leaf_count f + 1)) ≡ leaf_count f + 1)
    × (linear_entries v (set b 0 (leaf_count f + 1)) ≡ pairs (insert (linear_keys f) p key) (insert (linear_values v f) p y))
more-map false f room p key y a b t h one two = cc
more-map true f room p key y a b t h one two =
    let n : ℕ = leaf_count f in
    let ks : List ℕ = linear_keys f in
    let vs : List ℕ = linear_values true f in
    let kc : length ks ≡ n = keys-count true f room in
    let vc : length vs ≡ length ks = values-count true f room in
    let fr : take (1 + 2 * n) f ≡ n ∷ (ks ++ vs) = front true f room in
    let a1 : take (1 + 2 * n + 1) a ≡ n ∷ (ks ++ insert vs p y) = one ∙ ap (λ l. insert l (1 + n + p) y) fr ∙ insert-value n ks vs n p y kc in
    let b1 : take (1 + 2 * n + 1 + 1) b ≡ n ∷ (insert ks p key ++ insert vs p y) = two ∙ ap (λ l. insert l (1 + p) key) a1
    ∙ insert-key n ks (insert vs p y) p key (omega arith) in
    let c1 = count-written b (insert ks p key ++ insert vs p y) (1 + 2 * n + 1 + 1) n (n + 1) (omega arith) b1 in
    let ki : length (insert ks p key) ≡ n + 1 = length-insert ks p key (omega arith) ∙ ap (λ m. m + 1) kc in
    let vi : length (insert vs p y) ≡ length (insert ks p key) = length-insert vs p y (omega arith) ∙ ap (λ m. m + 1) (vc ∙ kc) ∙ sym ki in
    let r = reads true (set b 0 (n + 1)) (insert ks p key) (insert vs p y) (1 + 2 * n + 1 + 1)
    (omega (arith, length-append (insert ks p key) (insert vs p y))) (c1 ∙ ap (λ m. m ∷ (insert ks p key ++ insert vs p y))
    (sym ki)) vi in
    (r.count ∙ ki, entries-read true _ _ _ r)

pub more-set : (v : Bool) (f : List ℕ) → linear_size v (leaf_count f) ≤ length f → (p key : ℕ) (a : List ℕ) → v ≡ false → p ≤ leaf_count f
    → take (linear_size v (leaf_count f) + 1) a ≡ insert (take (linear_size v (leaf_count f)) f) (1 + p) key
    → (leaf_count (set a 0 (leaf_count f + 1)) ≡ leaf_count f + 1)
    × (linear_entries v (set a 0 (leaf_count f + 1)) ≡ pairs (insert (linear_keys f) p key) (insert (linear_values v f) p 0))
more-set true f room p key a t h one = cc
more-set false f room p key a t h one =
    let n : ℕ = leaf_count f in
    let ks : List ℕ = linear_keys f in
    let kc : length ks ≡ n = keys-count false f room in
    let fr : take (1 + n) f ≡ n ∷ (ks ++ []) = front false f room in
    let a1 : take (1 + n + 1) a ≡ n ∷ (insert ks p key ++ []) = one ∙ ap (λ l. insert l (1 + p) key) fr ∙ insert-key n ks [] p key (omega arith) in
    let c1 = count-written a (insert ks p key ++ []) (1 + n + 1) n (n + 1) (omega arith) a1 in
    let ki : length (insert ks p key) ≡ n + 1 = length-insert ks p key (omega arith) ∙ ap (λ m. m + 1) kc in
    let r = reads false (set a 0 (n + 1)) (insert ks p key) (insert ks p key) (1 + n + 1)
    (omega (arith, length-append {A = ℕ} (insert ks p key) [])) (c1 ∙ ap (λ m. m ∷ (insert ks p key ++ [])) (sym ki)) refl in
    let zs : replicate (length (insert ks p key)) 0 ≡ insert (linear_values false f) p 0 = ap (λ m. replicate m 0)
    (ki ∙ add-one n) ∙ sym (zeros_insert n p h) ∙ ap (λ l. insert l p 0) (sym (no-values f)) in
    (r.count ∙ ki, entries-read false _ _ _ r ∙ ap (pairs (insert ks p key)) zs)

-- the words with one key less
pub less-map : (v : Bool) (f : List ℕ) → linear_size v (leaf_count f) ≤ length f → (p : ℕ) (a b : List ℕ) → v ≡ true → p < leaf_count f
    → take (linear_size v (leaf_count f) - 1) a ≡ remove (take (linear_size v (leaf_count f)) f) (1 + leaf_count f + p)
    → take (linear_size v (leaf_count f) - 1 - 1) b ≡ remove (take (linear_size v (leaf_count f) - 1) a) (1 + p)
    → (leaf_count (set b 0 (leaf_count f - 1)) + 1 ≡ leaf_count f)
    × (linear_entries v (set b 0 (leaf_count f - 1)) ≡ pairs (remove (linear_keys f) p) (remove (linear_values v f) p))
less-map false f room p a b t h one two = cc
less-map true f room p a b t h one two =
    let n : ℕ = leaf_count f in
    let ks : List ℕ = linear_keys f in
    let vs : List ℕ = linear_values true f in
    let kc : length ks ≡ n = keys-count true f room in
    let vc : length vs ≡ length ks = values-count true f room in
    let fr : take (1 + 2 * n) f ≡ n ∷ (ks ++ vs) = front true f room in
    let a1 : take (1 + 2 * n - 1) a ≡ n ∷ (ks ++ remove vs p) = one ∙ ap (λ l. remove l (1 + n + p)) fr ∙ remove-value n ks vs n p kc in
    let b1 : take (1 + 2 * n - 1 - 1) b ≡ n ∷ (remove ks p ++ remove vs p) = two ∙ ap (λ l. remove l (1 + p)) a1 ∙ remove-key n ks
    (remove vs p) p (omega arith) in
    let c1 = count-written b (remove ks p ++ remove vs p) (1 + 2 * n - 1 - 1) n (n - 1) (omega arith) b1 in
    let ki : length (remove ks p) + 1 ≡ n = length-remove ks p (omega arith) ∙ kc in
    let vi : length (remove vs p) + 1 ≡ n = length-remove vs p (omega arith) ∙ vc ∙ kc in
    let kn : n - 1 ≡ length (remove ks p) = omega arith in
    let r = reads true (set b 0 (n - 1)) (remove ks p) (remove vs p) (1 + 2 * n - 1 - 1)
    (omega (arith, length-append (remove ks p) (remove vs p))) (c1 ∙ ap (λ m. m ∷ (remove ks p ++ remove vs p)) kn)
    (omega arith) in
    (ap (λ m. m + 1) r.count ∙ ki, entries-read true _ _ _ r)

pub less-set : (v : Bool) (f : List ℕ) → linear_size v (leaf_count f) ≤ length f → (p : ℕ) (a : List ℕ) → v ≡ false → p < leaf_count f
    → take (linear_size v (leaf_count f) - 1) a ≡ remove (take (linear_size v (leaf_count f)) f) (1 + p)
    → (leaf_count (set a 0 (leaf_count f - 1)) + 1 ≡ leaf_count f)
    × (linear_entries v (set a 0 (leaf_count f - 1)) ≡ pairs (remove (linear_keys f) p) (remove (linear_values v f) p))
less-set true f room p a t h one = cc
less-set false f room p a t h one =
    let n : ℕ = leaf_count f in
    let ks : List ℕ = linear_keys f in
    let kc : length ks ≡ n = keys-count false f room in
    let fr : take (1 + n) f ≡ n ∷ (ks ++ []) = front false f room in
    let a1 : take (1 + n - 1) a ≡ n ∷ (remove ks p ++ []) = one ∙ ap (λ l. remove l (1 + p)) fr ∙ remove-key n ks [] p (omega arith) in
    let c1 = count-written a (remove ks p ++ []) (1 + n - 1) n (n - 1) (omega arith) a1 in
    let ki : length (remove ks p) + 1 ≡ n = length-remove ks p (omega arith) ∙ kc in
    let kn : n - 1 ≡ length (remove ks p) = omega arith in
    let r = reads false (set a 0 (n - 1)) (remove ks p) (remove ks p) (1 + n - 1)
    (omega (arith, length-append {A = ℕ} (remove ks p) [])) (c1 ∙ ap (λ m. m ∷ (remove ks p ++ [])) kn) refl in
    let zs : replicate (length (remove ks p)) 0 ≡ remove (linear_values false f) p = ap (λ m. replicate m 0) (sym kn)
    ∙ sym (zeros_remove n p h) ∙ ap (λ l. remove l p) (sym (no-values f)) in
    (ap (λ m. m + 1) r.count ∙ ki, entries-read false _ _ _ r ∙ ap (pairs (remove ks p)) zs)

-- ---- a sound leaf

module _ (v : Bool) (f : List ℕ) (leaf : IsLinear v f) where
  pub sorted-pairs : is_sorted word_order (pairs (linear_keys f) (linear_values v f)) ≡ true
  sorted-pairs = subst (λ l. is_sorted word_order l ≡ true) (entries-are v f leaf.room) leaf.keys.0

  -- a later key is greater
  pub linear-rise : (i j : ℕ) → i < j → j < length (linear_keys f) → get_or (linear_keys f) i 0 < get_or (linear_keys f) j 0
  linear-rise i j h n = keys-rise (linear_keys f) (linear_values v f) i j sorted-pairs (values-count v f leaf.room) h n

  -- what stands at the place of a key
  pub look-there : (p key : ℕ) → StandsAt f key p → value_of word_order (linear_entries v f) key ≡ Some (get_or (linear_values v f) p 0)
  look-there p key h =
      let size = keys-count v f leaf.room in
      ap (λ l. value_of word_order l key) (entries-are v f leaf.room) ∙ find-there (linear_keys f) (linear_values v f) p key
      (values-count v f leaf.room) (omega (arith, h.0))
      (λ i less. let r = keys-rise (linear_keys f) (linear_values v f) i p sorted-pairs (values-count v f leaf.room) less
      (omega (arith, h.0)) in subst (λ x. get_or (linear_keys f) i 0 < x) (key-at v f leaf.room p h.0 ∙ h.1) r)
      (key-at v f leaf.room p h.0 ∙ h.1)

  -- a key with a place to go to is absent
  pub look-other : (p key : ℕ) → GoesTo f key p → value_of word_order (linear_entries v f) key ≡ None
  look-other p key h =
      let size = keys-count v f leaf.room in
      ap (λ l. value_of word_order l key) (entries-are v f leaf.room) ∙ find-not (linear_keys f) (linear_values v f) p key
      sorted-pairs (values-count v f leaf.room) (omega (arith, h.0))
      (λ i less. subst (λ x. x < key) (sym (key-at v f leaf.room i (omega (arith, h.0)))) (h.1 i less))
      (λ less. let n : p < leaf_count f = omega arith in subst (λ x. key < x) (sym (key-at v f leaf.room p n)) (h.2 n))

  -- a leaf with one key more is sound
  pub grown : (p key y : ℕ) (g : List ℕ) → GoesTo f key p → key < 2 ^ 64 → y < 2 ^ 64 → leaf_count f < 31 → leaf_count g
      ≡ leaf_count f + 1 → linear_entries v g ≡ pairs (insert (linear_keys f) p key) (insert (linear_values v f) p y)
      → linear_size v (leaf_count f + 1) ≤ length g → IsLinear v g × (linear_entries v g ≡ with_entry word_order (linear_entries v f) key y)
  grown p key y g h small word few count is sized =
      let size = keys-count v f leaf.room in
      let e : linear_entries v g ≡ with_entry word_order (linear_entries v f) key y = is
      ∙ sym (ap (λ l. with_entry word_order l key y) (entries-are v f leaf.room) ∙ place-new (linear_keys f) (linear_values v f)
      p key y (values-count v f leaf.room) (omega (arith, h.0))
      (λ i less. subst (λ x. x < key) (sym (key-at v f leaf.room i (omega (arith, h.0)))) (h.1 i less))
      (λ less. let n : p < leaf_count f = omega arith in subst (λ x. key < x) (sym (key-at v f leaf.room p n)) (h.2 n))) in (
        record {
          some = omega arith;
          few = omega arith;
          room = subst (λ m. linear_size v m ≤ length g) (sym count) sized;
          keys = subst IsWordArray (sym e) (words-with key y (linear_entries v f) small leaf.keys);
          values = subst HasWordValues (sym e) (values-with key y (linear_entries v f) word leaf.values);
        },
        e,
      )

  -- a leaf with one key less is sound
  pub shrunk : (p key : ℕ) (g : List ℕ) → StandsAt f key p → 1 < leaf_count f → leaf_count g + 1 ≡ leaf_count f → linear_entries v
      g ≡ pairs (remove (linear_keys f) p) (remove (linear_values v f) p)
      → length g ≡ length f → IsLinear v g × (linear_entries v g ≡ without_key word_order (linear_entries v f) key)
  shrunk p key g h more count is sized =
      let size = keys-count v f leaf.room in
      let e : linear_entries v g ≡ without_key word_order (linear_entries v f) key = is
      ∙ sym (ap (λ l. without_key word_order l key) (entries-are v f leaf.room)
      ∙ place-gone (linear_keys f) (linear_values v f) p key sorted-pairs (values-count v f leaf.room) (omega (arith, h.0))
      (λ i less. let r = keys-rise (linear_keys f) (linear_values v f) i p sorted-pairs (values-count v f leaf.room) less
      (omega (arith, h.0)) in subst (λ x. get_or (linear_keys f) i 0 < x) (key-at v f leaf.room p h.0 ∙ h.1) r)
      (key-at v f leaf.room p h.0 ∙ h.1)) in
      let fw = leaf.few in (
        record {
          some = omega arith;
          few = omega arith;
          room = room_less v (leaf_count g) (leaf_count f) (length f) (length g) (omega arith) leaf.room sized;
          keys = subst IsWordArray (sym e) (words-without key (linear_entries v f) leaf.keys);
          values = subst HasWordValues (sym e) (values-without key (linear_entries v f) leaf.values);
        },
        e,
      )
    where
      room_less : (v : Bool) (m n l k : ℕ) → m ≤ n → linear_size v n ≤ l → k ≡ l → linear_size v m ≤ k
      room_less true m n l k h r e = omega arith
      room_less false m n l k h r e = omega arith

  -- the value at a place
  pub value-there : (p x : ℕ) → p < leaf_count f → x ≡ get_or (linear_values v f) p 0 → slice_get (map (λ (e : ℕ × ℕ). e.1) (linear_entries v f)) p ≡ Some x
  value-there p x h e =
      let size = keys-count v f leaf.room in
      ap (λ l. slice_get (map (λ (e : ℕ × ℕ). e.1) l) p) (entries-are v f leaf.room) ∙ second (linear_keys f) (linear_values v f)
      p (values-count v f leaf.room) (omega arith) ∙ ap Some (sym e)
    where
      second : (ks vs : List ℕ) (p : ℕ) → length vs ≡ length ks → p < length ks → slice_get (map (λ (e : ℕ × ℕ). e.1) (pairs ks vs)) p ≡ Some (get_or vs p 0)
      second [] vs p e h = absurd (omega arith)
      second (k ∷ ks) [] p e h = absurd (omega arith)
      second (k ∷ ks) (x ∷ vs) zero e h = refl
      second (k ∷ ks) (x ∷ vs) (suc p) e h = second ks vs p (omega arith) (omega arith)

-- the value at a place, where there are values
pub value-true : (v : Bool) (f : List ℕ) (p : ℕ) → v ≡ true → p < leaf_count f → get_or (linear_values v f) p 0 ≡ get_or f (1 + leaf_count f + p) 0
unfolding linear_values
value-true true f p e h = get_or-take (leaf_count f) (drop (1 + leaf_count f) f) p 0 h ∙ get_or-drop (1 + leaf_count f) f p 0
value-true false f p e h = cc

-- the value at a place of a set
pub value-false : (v : Bool) (f : List ℕ) (p : ℕ) → v ≡ false → get_or (linear_values v f) p 0 ≡ 0
unfolding linear_values
value-false true f p e = cc
value-false false f p e = zero_at (leaf_count f) p

-- ---- what an insertion and a removal in the words leave, as the code tells of it

module _ (v : Bool) (f : List ℕ) (leaf : IsLinear v f) (p key u : ℕ) (size : u ≡ linear_size v (leaf_count f)) where
  pub inserted-map : (y : ℕ) (a b : List ℕ) → v ≡ true → GoesTo f key p → key < 2 ^ 64 → y < 2 ^ 64 → leaf_count f < 31
      → linear_size v (leaf_count f + 1) ≤ length f → length a ≡ length f → length b ≡ length a
      → take (u + 1) a ≡ insert (take u f) (1 + leaf_count f + p) y → take (u + 1 + 1) b ≡ insert (take (u + 1) a) (1 + p) key
      → IsLinear v (set b 0 (leaf_count f + 1)) × (linear_entries v (set b 0 (leaf_count f + 1)) ≡ with_entry word_order
      (linear_entries v f) key y) × (leaf_count (set b 0 (leaf_count f + 1)) ≡ leaf_count f + 1)
  inserted-map y a b t h small word few room la lb one two =
      let r = more-map v f leaf.room p key y a b t h.0 (subst (λ m. take (m + 1) a ≡ insert (take m f) (1 + leaf_count f + p) y)
      size one) (subst (λ m. take (m + 1 + 1) b ≡ insert (take (m + 1) a) (1 + p) key) size two) in
      let s = grown v f leaf p key y (set b 0 (leaf_count f + 1)) h small word few r.0 r.1
      (subst (λ m. linear_size v (leaf_count f + 1) ≤ m) (sym (length-set b 0 (leaf_count f + 1) ∙ lb ∙ la)) room) in
      (s.0, s.1, r.0)

  pub inserted-set : (y : ℕ) (a : List ℕ) → v ≡ false → (v ≡ false → y ≡ 0) → GoesTo f key p → key < 2 ^ 64 → leaf_count f < 31
      → linear_size v (leaf_count f + 1) ≤ length f → length a ≡ length f
      → take (u + 1) a ≡ insert (take u f) (1 + p) key
      → IsLinear v (set a 0 (leaf_count f + 1)) × (linear_entries v (set a 0 (leaf_count f + 1)) ≡ with_entry word_order
      (linear_entries v f) key y) × (leaf_count (set a 0 (leaf_count f + 1)) ≡ leaf_count f + 1)
  inserted-set y a t plain h small few room la one =
      let r = more-set v f leaf.room p key a t h.0 (subst (λ m. take (m + 1) a ≡ insert (take m f) (1 + p) key) size one) in
      let s = grown v f leaf p key 0 (set a 0 (leaf_count f + 1)) h small (omega arith) few r.0 r.1
      (subst (λ m. linear_size v (leaf_count f + 1) ≤ m) (sym (length-set a 0 (leaf_count f + 1) ∙ la)) room) in
      (s.0, s.1 ∙ ap (with_entry word_order (linear_entries v f) key) (sym (plain t)), r.0)

  pub removed-map : (a b : List ℕ) → v ≡ true → StandsAt f key p → 1 < leaf_count f → length a ≡ length f → length b ≡ length a
      → take (u - 1) a ≡ remove (take u f) (1 + leaf_count f + p) → take (u - 1 - 1) b ≡ remove (take (u - 1) a) (1 + p)
      → IsLinear v (set b 0 (leaf_count f - 1)) × (linear_entries v (set b 0 (leaf_count f - 1)) ≡ without_key word_order
      (linear_entries v f) key) × (leaf_count (set b 0 (leaf_count f - 1)) + 1 ≡ leaf_count f)
  removed-map a b t h more la lb one two =
      let r = less-map v f leaf.room p a b t h.0 (subst (λ m. take (m - 1) a ≡ remove (take m f) (1 + leaf_count f + p)) size one)
      (subst (λ m. take (m - 1 - 1) b ≡ remove (take (m - 1) a) (1 + p)) size two) in
      let s = shrunk v f leaf p key (set b 0 (leaf_count f - 1)) h more r.0 r.1 (length-set b 0 (leaf_count f - 1) ∙ lb ∙ la) in
      (s.0, s.1, r.0)

  pub removed-set : (a : List ℕ) → v ≡ false → StandsAt f key p → 1 < leaf_count f → length a ≡ length f
      → take (u - 1) a ≡ remove (take u f) (1 + p)
      → IsLinear v (set a 0 (leaf_count f - 1)) × (linear_entries v (set a 0 (leaf_count f - 1)) ≡ without_key word_order
      (linear_entries v f) key) × (leaf_count (set a 0 (leaf_count f - 1)) + 1 ≡ leaf_count f)
  removed-set a t h more la one =
      let r = less-set v f leaf.room p a t h.0 (subst (λ m. take (m - 1) a ≡ remove (take m f) (1 + p)) size one) in
      let s = shrunk v f leaf p key (set a 0 (leaf_count f - 1)) h more r.0 r.1 (length-set a 0 (leaf_count f - 1) ∙ la) in
      (s.0, s.1, r.0)

-- ---- a leaf is told by the words that it uses

-- two blocks that begin alike hold the same leaf
pub record SameLeaf (v : Bool) (f g : List ℕ) : Type 0 where
  pub leaf : IsLinear v g
  pub entries : linear_entries v g ≡ linear_entries v f
  pub count : leaf_count g ≡ leaf_count f
  pub keys : linear_keys g ≡ linear_keys f

pub same-front : (v : Bool) (f g : List ℕ) → IsLinear v f → take (linear_size v (leaf_count f)) g ≡ take
    (linear_size v (leaf_count f)) f → linear_size v (leaf_count f) ≤ length g → SameLeaf v f g
same-front v f g leaf same room =
    let n : ℕ = leaf_count f in
    let ks : List ℕ = linear_keys f in
    let vs : List ℕ = linear_values v f in
    let kc = keys-count v f leaf.room in
    let vc = values-count v f leaf.room in
    let at : take (linear_size v n) g ≡ layout v (length ks) ks vs = same ∙ front v f leaf.room ∙ ap (λ m. layout v m ks vs) (sym kc) in
    let r = reads v g ks vs (linear_size v n) (sized v n ks vs kc vc) at vc in
    let e : linear_entries v g ≡ linear_entries v f = entries-read v g ks vs r ∙ ap (pairs ks) (chosen v f kc) ∙ sym (entries-are v f leaf.room) in
    let count : leaf_count g ≡ n = r.count ∙ kc in
    record {
      leaf = record {
        some = subst (λ m. 0 < m) (sym count) leaf.some;
        few = subst (λ m. m ≤ 31) (sym count) leaf.few;
        room = subst (λ m. linear_size v m ≤ length g) (sym count) room;
        keys = subst IsWordArray (sym e) leaf.keys;
        values = subst HasWordValues (sym e) leaf.values;
      };
      entries = e;
      count = count;
      keys = r.keys;
    }
  where
    sized : (v : Bool) (n : ℕ) (ks vs : List ℕ) → length ks ≡ n → length vs ≡ length ks → linear_size v n ≡ length (layout v (length ks) ks vs)
    sized true n ks vs e h = let k = length-append ks vs in omega arith
    sized false n ks vs e h = let k = length-append {A = ℕ} ks [] in omega arith

    chosen : (v : Bool) (f : List ℕ) → length (linear_keys f) ≡ leaf_count f → cond v (linear_values v f)
        (replicate (length (linear_keys f)) 0) ≡ linear_values v f
    chosen true f e = refl
    chosen false f e = ap (λ m. replicate m 0) e ∙ sym (no-values f)

-- a key goes to the same place in the same leaf
pub same-place : (v : Bool) (f g : List ℕ) (key p : ℕ) → IsLinear v f → SameLeaf v f g → GoesTo f key p → GoesTo g key p
same-place v f g key p leaf s h = (
  omega (arith, h.0, s.count),
  λ i less. let n : i < leaf_count g = omega (arith, h.0, s.count) in subst (λ x. x < key) (at i n) (h.1 i less),
  λ less. let n : p < leaf_count f = omega (arith, s.count) in subst (λ x. key < x) (at p less) (h.2 n),
)
  where
    at : (i : ℕ) → i < leaf_count g → linear_key f i ≡ linear_key g i
    at i n = sym (key-at v f leaf.room i (omega (arith, s.count))) ∙ ap (λ l. get_or l i 0) (sym s.keys) ∙ key-at v g s.leaf.room i n

pub size-less : (v : Bool) (m n : ℕ) → m ≤ n → linear_size v m ≤ linear_size v n
size-less true m n h = omega arith
size-less false m n h = omega arith

-- the leaf in a block that was taken for one key more
pub moved : (v : Bool) (f g x : List ℕ) (u len : ℕ) → IsLinear v f → x ≡ f → u ≡ linear_size v (leaf_count x) → len ≡ linear_size
    v (leaf_count x + 1) → take u g ≡ take u f → len ≤ length g → SameLeaf v f g
moved v f g x u len leaf is used more same room =
    let e : u ≡ linear_size v (leaf_count f) = used ∙ ap (λ y. linear_size v (leaf_count y)) is in
    let k : len ≡ linear_size v (leaf_count f + 1) = more ∙ ap (λ y. linear_size v (leaf_count y + 1)) is in
    same-front v f g leaf (subst (λ m. take m g ≡ take m f) e same) (omega (arith, size-less v (leaf_count f) (leaf_count f + 1) (omega arith)))

-- the leaf in a block that was cut
pub cut : (v : Bool) (f : List ℕ) (m : ℕ) → IsLinear v f → linear_size v (leaf_count f) ≤ m → SameLeaf v f (take m f)
cut v f m leaf h = same-front v f (take m f) leaf (take-take (linear_size v (leaf_count f)) m f h) (short (linear_size v (leaf_count f)) m f h leaf.room)
  where
    short : (k m : ℕ) (f : List ℕ) → k ≤ m → k ≤ length f → k ≤ length (take m f)
    short zero m f h r = omega arith
    short (suc k) zero f h r = absurd (omega arith)
    short (suc k) (suc m) [] h r = absurd (omega arith)
    short (suc k) (suc m) (x ∷ f) h r = let i = short k m f (omega arith) (omega arith) in omega arith

-- a leaf has words
pub linear-live : (v : Bool) (f : List ℕ) → IsLinear v f → 0 < length f
linear-live v f leaf = let h = size-more v (leaf_count f) (length f) leaf.room in omega arith

pairs_size : (ks vs : List ℕ) → length vs ≡ length ks → length (pairs ks vs) ≡ length ks
pairs_size [] vs e = refl
pairs_size (k ∷ ks) [] e = absurd (omega arith)
pairs_size (k ∷ ks) (v ∷ vs) e = let h = pairs_size ks vs (omega arith) in omega arith

-- a leaf has as many entries as it says
pub linear-length : (v : Bool) (ws : List ℕ) → IsLinear v ws → length (linear_entries v ws) ≡ leaf_count ws
linear-length v ws leaf = ap length (entries-are v ws leaf.room) ∙ pairs_size (linear_keys ws) (linear_values v ws)
    (values-count v ws leaf.room) ∙ keys-count v ws leaf.room

-- the value of a key, read at its place
pub value-found : (v : Bool) (f : List ℕ) (leaf : IsLinear v f) (p key x : ℕ) → StandsAt f key p
    → slice_get (map (λ (e : ℕ × ℕ). e.1) (linear_entries v f)) p ≡ Some x → value_of word_order (linear_entries v f) key ≡ Some x
value-found v f leaf p key x h e = look-there v f leaf p key h ∙ sym (value-there v f leaf p (get_or (linear_values v f) p 0) h.0 refl) ∙ e

small_test : (k : ℕ) → k < 18446744073709551616 → nat_le k 18446744073709551615 ≡ true
small_test k h = grind (arith, nat_tests)

-- a count, a key and its value are the leaf of that key
pub single-map : (v : Bool) (z : List ℕ) (key y : ℕ) → v ≡ true → key < 2 ^ 64 → y < 2 ^ 64 → linear_size v 1 ≤ length z
    → IsLinear v (set (set (set z 0 1) 1 key) 2 y) × (linear_entries v (set (set (set z 0 1) 1 key) 2 y) ≡ (key, y) ∷ [])
    × (leaf_count (set (set (set z 0 1) 1 key) 2 y) ≡ 1)
unfolding linear_entries linear_keys linear_values
single-map false z key y t small word room = cc
single-map true [] key y t small word room = absurd (omega arith)
single-map true (a ∷ []) key y t small word room = absurd (omega arith)
single-map true (a ∷ b ∷ []) key y t small word room = absurd (omega arith)
single-map true (a ∷ b ∷ x ∷ z) key y t small word room = (
  record {
    some = omega arith;
    few = omega arith;
    room = omega arith;
    keys = (refl, ap (λ t. t && true) (small_test key small));
    values = ap (λ t. t && true) (small_test y word);
  },
  refl,
  refl,
)

-- in a set there is no value
pub single-set : (v : Bool) (z : List ℕ) (key y : ℕ) → v ≡ false → y ≡ 0 → key < 2 ^ 64 → linear_size v 1 ≤ length z
    → IsLinear v (set (set z 0 1) 1 key) × (linear_entries v (set (set z 0 1) 1 key) ≡ (key, y) ∷ []) × (leaf_count (set (set z 0 1) 1 key) ≡ 1)
unfolding linear_entries linear_keys linear_values
single-set true z key y t e small room = cc
single-set false [] key y t e small room = absurd (omega arith)
single-set false (a ∷ []) key y t e small room = absurd (omega arith)
single-set false (a ∷ b ∷ z) key y t e small room = (
  record { some = omega arith; few = omega arith; room = omega arith; keys = (refl, ap (λ t. t && true) (small_test key small)); values = refl },
  ap (λ m. (key, m) ∷ []) (sym e),
  refl,
)

-- how many keys are below one that stands at a place
pub rank-there : (v : Bool) (f : List ℕ) (leaf : IsLinear v f) (p key : ℕ) → StandsAt f key p → Some p ≡ rank_of (linear_entries v f) key
rank-there v f leaf p key h =
    let size = keys-count v f leaf.room in
    let at : get_or (linear_keys f) p 0 ≡ key = key-at v f leaf.room p h.0 ∙ h.1 in
    let n : length (filter (λ e. nat_lt e.0 key) (linear_entries v f)) ≡ p =
    ap (λ l. length (filter (λ e. nat_lt e.0 key) l)) (entries-are v f leaf.room) ∙ place-counts (linear_keys f)
    (linear_values v f) p key (sorted-pairs v f leaf) (values-count v f leaf.room) (omega (arith, h.0))
    (λ i less. subst (λ x. get_or (linear_keys f) i 0 < x) at (linear-rise v f leaf i p less (omega (arith, h.0)))) (λ less. omega (arith, at)) in
    ap Some (sym n) ∙ sym (ap (λ t. cond t (Some (length (filter (λ e. nat_lt e.0 key) (linear_entries v f)))) None) (ap is_some (look-there v f leaf p key h)))

pub rank-other : (v : Bool) (f : List ℕ) (leaf : IsLinear v f) (p key : ℕ) → GoesTo f key p → None ≡ rank_of (linear_entries v f) key
rank-other v f leaf p key h = sym (ap (λ t. cond t (Some (length (filter (λ e. nat_lt e.0 key) (linear_entries v f)))) None)
    (ap is_some (look-other v f leaf p key h)))

-- the keys of the entries
pub keys-of : (v : Bool) (f : List ℕ) → IsLinear v f → map (λ (e : ℕ × ℕ). e.0) (linear_entries v f) ≡ linear_keys f
keys-of v f leaf = ap (map (λ (e : ℕ × ℕ). e.0)) (entries-are v f leaf.room) ∙ zip-keys (linear_keys f) (linear_values v f) (values-count v f leaf.room)

-- ---- a leaf of given keys and values

below_any : (x : ℕ) (ks vs us : List ℕ) → length vs ≡ length ks → length us ≡ length ks → below_all word_order x (pairs ks vs)
    ≡ true → below_all word_order x (pairs ks us) ≡ true
below_any x [] vs us e g h = refl
below_any x (k ∷ ks) [] us e g h = absurd (omega arith)
below_any x (k ∷ ks) (v ∷ vs) [] e g h = absurd (omega arith)
below_any x (k ∷ ks) (v ∷ vs) (u ∷ us) e g h =
    let t = and_parts (is_lt (word_order x k)) _ h in ap (λ b. b && below_all word_order x (pairs ks us)) t.0 ∙ below_any x ks vs
    us (omega arith) (omega arith) t.1

-- whether keys rise does not hang on the values
sorted_any : (ks vs us : List ℕ) → length vs ≡ length ks → length us ≡ length ks → is_sorted word_order (pairs ks vs) ≡ true
    → is_sorted word_order (pairs ks us) ≡ true
sorted_any [] vs us e g h = refl
sorted_any (k ∷ ks) [] us e g h = absurd (omega arith)
sorted_any (k ∷ ks) (v ∷ vs) [] e g h = absurd (omega arith)
sorted_any (k ∷ ks) (v ∷ vs) (u ∷ us) e g h =
    let t = and_parts (below_all word_order k (pairs ks vs)) _ h in
    ap (λ b. b && is_sorted word_order (pairs ks us)) (below_any k ks vs us (omega arith) (omega arith) t.0) ∙ sorted_any ks vs us
    (omega arith) (omega arith) t.1

firsts_fit : (ks vs : List ℕ) → ((i : ℕ) → get_or ks i 0 < 2 ^ 64) → list_all (λ (e : ℕ × ℕ). nat_le e.0 18446744073709551615) (pairs ks vs) ≡ true
firsts_fit [] vs h = refl
firsts_fit (k ∷ ks) [] h = refl
firsts_fit (k ∷ ks) (v ∷ vs) h = ap (λ b. b && list_all (λ (e : ℕ × ℕ). nat_le e.0 18446744073709551615) (pairs ks vs))
    (small_test k (h 0)) ∙ firsts_fit ks vs (λ i. h (suc i))

seconds_fit : (ks vs : List ℕ) → ((i : ℕ) → get_or vs i 0 < 2 ^ 64) → list_all (λ (e : ℕ × ℕ). nat_le e.1 18446744073709551615) (pairs ks vs) ≡ true
seconds_fit [] vs h = refl
seconds_fit (k ∷ ks) [] h = refl
seconds_fit (k ∷ ks) (v ∷ vs) h = ap (λ b. b && list_all (λ (e : ℕ × ℕ). nat_le e.1 18446744073709551615) (pairs ks vs))
    (small_test v (h 0)) ∙ seconds_fit ks vs (λ i. h (suc i))

-- words that begin so are such a leaf
pub made : (v : Bool) (g ks vs : List ℕ) (n : ℕ) → 0 < length ks → length ks ≤ 31 → length vs ≡ length ks → is_sorted word_order (pairs ks vs) ≡ true
    → ((i : ℕ) → get_or ks i 0 < 2 ^ 64) → ((i : ℕ) → get_or vs i 0 < 2 ^ 64)
    → n ≡ linear_size v (length ks) → take n g ≡ layout v (length ks) ks vs
    → IsLinear v g × (linear_entries v g ≡ pairs ks (cond v vs (replicate (length ks) 0))) × (leaf_count g ≡ length ks)
made v g ks vs n some few same rise kf vf size begins =
    let us : List ℕ = cond v vs (replicate (length ks) 0) in
    let r = reads v g ks vs n (size ∙ sized v ks vs same) begins same in
    let e : linear_entries v g ≡ pairs ks us = entries-read v g ks vs r in (
      record {
        some = subst (λ m. 0 < m) (sym r.count) some;
        few = subst (λ m. m ≤ 31) (sym r.count) few;
        room = subst (λ m. linear_size v m ≤ length g) (sym r.count) r.room;
        keys = subst IsWordArray (sym e) (sorted_any ks vs us same (long v same) rise, firsts_fit ks us kf);
        values = subst HasWordValues (sym e) (seconds_fit ks us (fits v));
      },
      e,
      r.count,
    )
  where
    sized : (v : Bool) (ks vs : List ℕ) → length vs ≡ length ks → linear_size v (length ks) ≡ length (layout v (length ks) ks vs)
    sized true ks vs h = let k = length-append ks vs in omega arith
    sized false ks vs h = let k = length-append {A = ℕ} ks [] in omega arith

    long : (v : Bool) → length vs ≡ length ks → length (cond v vs (replicate (length ks) 0)) ≡ length ks
    long true h = h
    long false h = length-replicate {A = ℕ} (length ks) 0

    fits : (v : Bool) (i : ℕ) → get_or (cond v vs (replicate (length ks) 0)) i 0 < 2 ^ 64
    fits true i = vf i
    fits false i = let z = zero_at (length ks) i in omega arith

-- the words written one after another
first_word : (w : List ℕ) (n : ℕ) → 0 < length w → take 1 (set w 0 n) ≡ n ∷ []
first_word [] n h = absurd (omega arith)
first_word (x ∷ w) n h = refl

keys_written : (w ks : List ℕ) → 1 + length ks ≤ length w → take (1 + length ks) (paste (set w 0 (length ks)) 1 ks (length ks)) ≡ length ks ∷ ks
keys_written w ks h = take-paste (set w 0 (length ks)) 1 ks (length ks) (let s = length-set w 0 (length ks) in omega arith) (omega arith)
    ∙ ap (λ l. l ++ take (length ks) ks) (first_word w (length ks) (omega arith)) ∙ ap (λ l. length ks ∷ l) (take-length ks)

pub written-set : (v : Bool) (w ks vs : List ℕ) → v ≡ false → linear_size v (length ks) ≤ length w
    → take (linear_size v (length ks)) (paste (set w 0 (length ks)) 1 ks (length ks)) ≡ layout v (length ks) ks vs
written-set true w ks vs t h = cc
written-set false w ks vs t h = keys_written w ks h ∙ ap (λ l. length ks ∷ l) (sym (append-nil ks))

pub written-map : (v : Bool) (w ks vs : List ℕ) → v ≡ true → length vs ≡ length ks → linear_size v (length ks) ≤ length w
    → take (linear_size v (length ks)) (paste (paste (set w 0 (length ks)) 1 ks (length ks)) (1 + length ks) vs (length vs)) ≡ layout v (length ks) ks vs
written-map false w ks vs t same h = cc
written-map true w ks vs t same h =
    let n : ℕ = length ks in
    let a : List ℕ = paste (set w 0 n) 1 ks n in
    let la : length a ≡ length w = length-paste (set w 0 n) 1 ks n (let s = length-set w 0 n in omega arith) (omega arith) ∙ length-set w 0 n in
    let e : 1 + 2 * n ≡ 1 + n + length vs = omega arith in
    ap (λ m. take m (paste a (1 + n) vs (length vs))) e ∙ take-paste a (1 + n) vs (length vs) (omega arith) (omega arith)
    ∙ ap (λ l. l ++ take (length vs) vs) (keys_written w ks (omega arith)) ∙ ap (λ l. n ∷ (ks ++ l)) (take-length vs)

-- a value is written
pub written : (f : List ℕ) (leaf : IsLinear true f) (p key x : ℕ) → StandsAt f key p → key < 2 ^ 64 → x < 2 ^ 64
    → IsLinear true (set f (1 + leaf_count f + p) x) × (linear_entries true (set f (1 + leaf_count f + p) x) ≡ with_entry
    word_order (linear_entries true f) key x) × (leaf_count (set f (1 + leaf_count f + p) x) ≡ leaf_count f)
unfolding linear_entries linear_keys linear_values
written f leaf p key x h small word =
    let n : ℕ = leaf_count f in
    let g : List ℕ = set f (1 + n + p) x in
    let a : 1 + n + p ≡ 1 + (n + p) = omega arith in
    let ne : 0 ≢ 1 + n + p = omega arith in
    let c : leaf_count g ≡ n = get_or-set_other f (1 + n + p) 0 x 0 ne in
    let ks : take (leaf_count g) (drop 1 g) ≡ take n (drop 1 f) = ap (λ m. take m (drop 1 g)) c
    ∙ ap (λ i. take n (drop 1 (set f i x))) a ∙ ap (take n) (drop-set-add 1 f (n + p) x) ∙ take-set-le n (drop 1 f) (n + p) x
    (omega arith) in
    let vs : take (leaf_count g) (drop (1 + leaf_count g) g) ≡ set (take n (drop (1 + n) f)) p x =
    ap (λ m. take m (drop (1 + m) g)) c ∙ ap (take n) (drop-set-add (1 + n) f p x) ∙ take-set-lt n (drop (1 + n) f) p x h.0 in
    let size = keys-count true f leaf.room in
    let at : get_or (linear_keys f) p 0 ≡ key = key-at true f leaf.room p h.0 ∙ h.1 in
    let e : linear_entries true g ≡ with_entry word_order (linear_entries true f) key x =
    ap (λ k. pairs k (take (leaf_count g) (drop (1 + leaf_count g) g))) ks ∙ ap (pairs (take n (drop 1 f))) vs
    ∙ sym (place-old (linear_keys f) (linear_values true f) p key x (values-count true f leaf.room) (omega (arith, h.0))
    (λ i less. subst (λ z. get_or (linear_keys f) i 0 < z) at (linear-rise true f leaf i p less (omega (arith, h.0)))) at) in (
      record {
        some = subst (λ m. 0 < m) (sym c) leaf.some;
        few = subst (λ m. m ≤ 31) (sym c) leaf.few;
        room = let rm = leaf.room in omega (arith, c, length-set f (1 + n + p) x);
        keys = subst IsWordArray (sym e) (words-with key x (linear_entries true f) small leaf.keys);
        values = subst HasWordValues (sym e) (values-with key x (linear_entries true f) word leaf.values);
      },
      e,
      c,
    )

-- a key that is present has no place to go to
pub present-goes : (v : Bool) (f : List ℕ) (leaf : IsLinear v f) (p key : ℕ) → GoesTo f key p → has_key word_order (linear_entries v f) key ≡ true → ⊥
present-goes v f leaf p key h there = let z : false ≡ true = sym (ap is_some (look-other v f leaf p key h)) ∙ there in cc
