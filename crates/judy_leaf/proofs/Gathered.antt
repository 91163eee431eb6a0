-- A stretch of the entries of a leaf, as its keys and its values.
use Rattle.std.proofs.Common.{◌≡◌, ℕ, zero, suc, ◌+◌, ◌<◌, ◌≤◌, Bool, true, false, cond, ◌&&◌, ◌==◌, List, [], ◌∷◌, ◌++◌}
use Rattle.std.proofs.Common.{length, map, take, drop, get_or, replicate, Some, ap, sym, ◌∙◌, refl, arith}
use Rattle.std.proofs.Common.{length-drop}
use Rattle.std.specs.Prelude.{slice_get, slice_index}
use Rattle.std.specs.List.{list_all}
use lib.Seq.{take_at}
use Rattle.std.specs.FinMap.{is_sorted}
use Rattle.std.specs.FinMap.Entries.{below_all}
use Rattle.std.specs.Ordering.{is_lt}
use Rattle.std.proofs.lemmas.Bool.Decides.{nat_tests}
use Rattle.std.proofs.lemmas.List.{length-map, length-take-le, get_or-map, get_or-take, get_or-drop, ext_get_or}
use Rattle.std.proofs.lemmas.Bool.{and_parts}
use Rattle.std.proofs.lemmas.Option.{none-some, slice_get-get_or}
use Rattle.judy_model.specs.Contents.{Entries, word_order, pairs}
use Rattle.judy_leaf.specs.Linear.{leaf_count}
use Rattle.judy_leaf.specs.Views.{of_leaf}
use Rattle.judy_leaf.specs.declared.opened.Opened.{Opened}
use Rattle.judy_leaf.specs.declared.opened.Opened.TheVariants as opened
use Rattle.judy_leaf.specs.Bytes.{IsBits, bitmap_entries, bitmap_values}
use Rattle.judy_leaf.proofs.BitmapLaws.{entries-values, value-read, values-length, bits-length, bits-few}
use Rattle.judy_leaf.proofs.LinearLaws.{linear-length}

-- the entry at a place
pub at-place : (l : Entries ℕ) (p : ℕ) (e : ℕ × ℕ) → slice_get l p ≡ Some e → e ≡ get_or l p (0, 0)
at-place [] p e h = absurd (none-some e h)
at-place (y ∷ l) zero e h = let f : y ≡ e = cc in sym f
at-place (y ∷ l) (suc p) e h = at-place l p e h

-- the value at a place of a leaf of bits
pub bits-value : (v : Bool) (ws : List ℕ) (p : ℕ) → IsBits v ws → p < leaf_count ws
    → slice_get (map (λ (e : ℕ × ℕ). e.1) (bitmap_entries v ws)) p ≡ Some (cond v (slice_index (drop 6 ws) p) 0)
bits-value v ws p leaf h =
    let n = values-length v (leaf_count ws) ws leaf.room in
    ap (λ l. slice_get l p) (entries-values v ws leaf)
    ∙ slice_get-get_or (bitmap_values v (leaf_count ws) ws) p 0 (omega (arith, n, h))
    ∙ ap Some (value-read v (leaf_count ws) p ws h leaf.room)

-- a leaf has at most 256 entries
pub few-at-hand : (leaf : Opened) → length (of_leaf leaf) ≤ 256
few-at-hand opened.Nothing = omega arith
few-at-hand (opened.Linear leaf) =
    omega (arith, linear-length leaf.values leaf.words.now leaf.sound, leaf.sound.few)
few-at-hand (opened.Bits leaf) =
    omega (arith, bits-length leaf.values leaf.words.now leaf.sound, bits-few leaf.values leaf.words.now leaf.sound)

-- items that are told one by one
pub stretch : (f : ℕ × ℕ → ℕ) (l : Entries ℕ) (from n : ℕ) (xs : List ℕ) → length xs ≡ n → from + n ≤ length l
    → ((j : ℕ) → j < n → get_or xs j 0 ≡ f (get_or l (from + j) (0, 0)))
    → xs ≡ map f (take n (drop from l))
stretch f l from n xs size within each =
    let d = length-drop from l in
    let t : length (take n (drop from l)) ≡ n = length-take-le n (drop from l) (omega (arith, d, within)) in
    ext_get_or 0 xs (map f (take n (drop from l))) (size ∙ sym (length-map (take n (drop from l)) f ∙ t))
    (λ i h. let less : i < n = omega (arith, size, h) in
    each i less ∙ sym (get_or-map f (take n (drop from l)) i (0, 0) 0 (omega (arith, t, less))
    ∙ ap f (get_or-take n (drop from l) i (0, 0) less ∙ get_or-drop from l i (0, 0))))

-- keys and values are the entries
pub rezip : (l : Entries ℕ) → pairs (map (λ (e : ℕ × ℕ). e.0) l) (map (λ (e : ℕ × ℕ). e.1) l) ≡ l
rezip [] = refl
rezip (e ∷ l) = ap (λ t. e ∷ t) (rezip l)

-- a stretch of rising entries rises
drop_rises : (n : ℕ) (l : Entries ℕ) → is_sorted word_order l ≡ true → is_sorted word_order (drop n l) ≡ true
drop_rises zero l h = h
drop_rises (suc n) [] h = h
drop_rises (suc n) (e ∷ l) h = drop_rises n l (and_parts (below_all word_order e.0 l) _ h).1

take_above : (k n : ℕ) (l : Entries ℕ) → below_all word_order k l ≡ true → below_all word_order k (take n l) ≡ true
take_above k zero l h = refl
take_above k (suc n) [] h = h
take_above k (suc n) (e ∷ l) h = let t = and_parts (is_lt (word_order k e.0)) _ h in ap (λ b. b && below_all word_order k (take n l)) t.0 ∙ take_above k n l t.1

take_rises : (n : ℕ) (l : Entries ℕ) → is_sorted word_order l ≡ true → is_sorted word_order (take n l) ≡ true
take_rises zero l h = refl
take_rises (suc n) [] h = h
take_rises (suc n) (e ∷ l) h =
    let t = and_parts (below_all word_order e.0 l) _ h in ap (λ b. b && is_sorted word_order (take n l)) (take_above e.0 n l t.0) ∙ take_rises n l t.1

pub stretch-rises : (from n : ℕ) (l : Entries ℕ) → is_sorted word_order l ≡ true → is_sorted word_order (take n (drop from l)) ≡ true
stretch-rises from n l h = take_rises n (drop from l) (drop_rises from l h)

-- values that are all 0
same_zero : (a : ℕ) → (a == 0) ≡ true → a ≡ 0
same_zero a h = grind (arith, nat_tests)

all_drop : (n : ℕ) (l : Entries ℕ) → list_all (λ (e : ℕ × ℕ). e.1 == 0) l ≡ true → list_all (λ (e : ℕ × ℕ). e.1 == 0) (drop n l) ≡ true
all_drop zero l h = h
all_drop (suc n) [] h = h
all_drop (suc n) (e ∷ l) h = all_drop n l (and_parts (e.1 == 0) _ h).1

take_zeros : (n : ℕ) (l : Entries ℕ) → list_all (λ (e : ℕ × ℕ). e.1 == 0) l ≡ true → map (λ (e : ℕ × ℕ). e.1) (take n l) ≡ replicate (length (take n l)) 0
take_zeros zero l h = refl
take_zeros (suc n) [] h = refl
take_zeros (suc n) (e ∷ l) h =
    let t = and_parts (e.1 == 0) _ h in
    (λ i. same_zero e.1 t.0 i ∷ take_zeros n l t.1 i)

-- the values of a stretch, written where there are values, and 0 in a set
pub stretch-values : (v : Bool) (from n : ℕ) (l : Entries ℕ) → (v ≡ false → list_all (λ (e : ℕ × ℕ). e.1 == 0) l ≡ true)
    → cond v (map (λ (e : ℕ × ℕ). e.1) (take n (drop from l))) (replicate (length (take n (drop from l))) 0) ≡ map (λ (e : ℕ × ℕ). e.1) (take n (drop from l))
stretch-values true from n l h = refl
stretch-values false from n l h = sym (take_zeros n (drop from l) (all_drop from l (h refl)))

-- what stands in front of the rest of an array
pub in-front : (f : ℕ × ℕ → ℕ) (l : Entries ℕ) (from n : ℕ) (z xs : List ℕ) → n ≤ length z → from + n ≤ length l
    → xs ≡ map f (take (length (take n z)) (drop from l))
    → take n (xs ++ drop n z) ≡ map f (take n (drop from l))
in-front f l from n z xs h within e =
    let d = length-drop from l in
    let is : length (take n z) ≡ n = length-take-le n z h in
    let all : xs ≡ map f (take n (drop from l)) = e ∙ ap (λ m. map f (take m (drop from l))) is in
    let size : length xs ≡ n = ap length all ∙ length-map (take n (drop from l)) f ∙ length-take-le n (drop from l) (omega (arith, d, within)) in
    take_at xs (drop n z) n size ∙ all

-- the entries of a stretch, by its keys and its values
pub stretched : (v : Bool) (l : Entries ℕ) (from n : ℕ) (ks vs : List ℕ) → (v ≡ false → list_all (λ (e : ℕ × ℕ). e.1 == 0) l ≡ true)
    → ks ≡ map (λ (e : ℕ × ℕ). e.0) (take n (drop from l)) → vs ≡ map (λ (e : ℕ × ℕ). e.1) (take n (drop from l))
    → pairs ks (cond v vs (replicate (length ks) 0)) ≡ take n (drop from l)
stretched v l from n ks vs none e f =
    let t : Entries ℕ = take n (drop from l) in
    (λ i. pairs (e i) (cond v (f i) (replicate (length (e i)) 0)))
    ∙ ap (λ m. pairs (map (λ (e : ℕ × ℕ). e.0) t) (cond v (map (λ (e : ℕ × ℕ). e.1) t) (replicate m 0))) (length-map t (λ (e : ℕ × ℕ). e.0))
    ∙ ap (pairs (map (λ (e : ℕ × ℕ). e.0) t)) (stretch-values v from n l none) ∙ rezip t

-- a stretch of one entry
pub one-stretch : (l : Entries ℕ) (from k x : ℕ) → from < length l → k ≡ (get_or l from (0, 0)).0 → x ≡ (get_or l from (0, 0)).1
    → (k, x) ∷ [] ≡ take 1 (drop from l)
one-stretch [] from k x h e f = absurd (omega arith)
one-stretch (y ∷ l) zero k x h e f = λ i. (e i, f i) ∷ []
one-stretch (y ∷ l) (suc from) k x h e f = one-stretch l from k x (omega arith) e f

-- a value of entries whose values are all 0
pub zero-value : (l : Entries ℕ) (from : ℕ) → list_all (λ (e : ℕ × ℕ). e.1 == 0) l ≡ true → from < length l → (get_or l from (0, 0)).1 ≡ 0
zero-value [] from z h = absurd (omega arith)
zero-value (y ∷ l) zero z h = same_zero y.1 (and_parts (y.1 == 0) _ z).0
zero-value (y ∷ l) (suc from) z h = zero-value l from (and_parts (y.1 == 0) _ z).1 (omega arith)
