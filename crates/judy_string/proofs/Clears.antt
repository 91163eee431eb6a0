-- A nest whose nodes are cleared one after another, and then the nest's own blocks.
use Rattle.std.proofs.Common.{◌≡◌, ℕ, zero, suc, ◌+◌, ◌<◌, Bool, true, false, cond, ◌||◌, List, [], ◌∷◌, ◌++◌, take, drop}
use Rattle.std.proofs.Common.{length, Option, Some, None, ap, sym, ◌∙◌, refl, subst, arith, append-nil, append_assoc}
use Rattle.std.proofs.Common.{length-append, add-one}
use Rattle.std.specs.Prelude.{slice_get}
use Rattle.std.proofs.lemmas.Bool.Decides.{nat_tests}
use Rattle.std.specs.FinMap.{is_sorted}
use Rattle.std.specs.FinMap.Entries.{below_all}
use Rattle.std.specs.Ordering.{nat_cmp, is_lt, is_gt, is_ge}
use Rattle.std.proofs.lemmas.Bool.{false_from_ne_true}
use Rattle.std.proofs.lemmas.Option.{none-some}
use Rattle.judy_arena.specs.Blocks.{Blocks, block, without}
use Rattle.judy_arena.specs.Frame.{holds, Frame}
use Rattle.judy_refs.specs.References.{number_of}
use Rattle.judy_arena.specs.Totals.{are_distinct}
use Rattle.judy_arena.proofs.lemmas.FrameLaws.{holds-append, frame-release}
use Rattle.judy_model.specs.Contents.{Entries, word_order, value_of, first, next}
use Rattle.judy_model.proofs.lemmas.TestLemmas.{and_right, and_left, not_both}
use Rattle.judy_tree.specs.Root.{IsRoot, entries, numbers as own_numbers}
use Rattle.judy_tree.proofs.lemmas.Joins.{found-first}
use Rattle.judy_packing.specs.Packing.{word_bytes, is_last}
use Rattle.judy_string.specs.Suffixes.{is_suffix}
use Rattle.judy_string.specs.Strings.{Strings, after, part, joined_strings, part_numbers, nested_content_at, nested_numbers_at, Leads}
use Rattle.judy_string.proofs.Maps.{root-kept, none-numbers, no-entries}
use Rattle.judy_string.proofs.Onces.{Two, two-of, or_false_left}
use Rattle.judy_string.proofs.Joins.{found_later}
use Rattle.judy_string.proofs.Nests.{Nest, nest-kind, nest-sorted, nest-content, nest-numbers, suffix-content, suffix-numbers, node-once, array-of}
use Rattle.judy_string.proofs.Numbers.{IsKept, array-kept}
use Rattle.judy_string.proofs.Counts.{strings-few, length-after}

same_Some : {A : Type 0} {x y : A} → Some x ≡ Some y → x ≡ y
same_Some h = cc

pub joined-both : {A : Type 0} (g : ℕ × ℕ → List A) (xs ys : Entries ℕ) → joined_strings g (xs ++ ys) ≡ joined_strings g xs ++ joined_strings g ys
joined-both g [] ys = refl
joined-both g (x ∷ xs) ys = ap (λ l. g x ++ l) (joined-both g xs ys) ∙ sym (append_assoc (g x) (joined_strings g xs) (joined_strings g ys))

take-at : (i : ℕ) (es : Entries ℕ) (e : ℕ × ℕ) → slice_get es i ≡ Some e → take (i + 1) es ≡ take i es ++ e ∷ []
take-at i [] e h = absurd (none-some _ h)
take-at zero (x ∷ es) e h = ap (λ y. y ∷ []) (same_Some h)
take-at (suc i) (x ∷ es) e h = let n : suc i + 1 ≡ suc (i + 1) = omega arith in ap (λ n. take n (x ∷ es)) n ∙ ap (λ l. x ∷ l) (take-at i es e h)

split-at : (i : ℕ) (es : Entries ℕ) (e : ℕ × ℕ) → slice_get es i ≡ Some e → es ≡ take i es ++ (e ∷ drop (suc i) es)
split-at i [] e h = absurd (none-some _ h)
split-at zero (x ∷ es) e h = ap (λ y. y ∷ es) (same_Some h)
split-at (suc i) (x ∷ es) e h = ap (λ l. x ∷ l) (split-at i es e h)

found-at : (i : ℕ) (es : Entries ℕ) (e : ℕ × ℕ) → is_sorted word_order es ≡ true → slice_get es i ≡ Some e → value_of word_order es e.0 ≡ Some e.1
found-at i [] e sorted h = absurd (none-some _ h)
found-at zero (x ∷ es) e sorted h = subst (λ y. value_of word_order (x ∷ es) y.0 ≡ Some y.1) (same_Some h) (found-first x es)
found-at (suc i) (x ∷ es) e sorted h = found_later x es e.0 e.1 sorted (found-at i es e (and_right (below_all word_order x.0 es) _ sorted) h)

pub none-at : (i : ℕ) (es : Entries ℕ) → i < length es → slice_get es i ≡ None → ⊥
none-at i [] h e = omega arith
none-at zero (x ∷ es) h e = none-some _ (sym e)
none-at (suc i) (x ∷ es) h e = none-at i es (omega arith) e

take_all : (i : ℕ) (es : Entries ℕ) → i ≡ length es → take i es ≡ es
take_all zero [] h = refl
take_all zero (x ∷ es) h = absurd (omega arith)
take_all (suc i) [] h = refl
take_all (suc i) (x ∷ es) h = ap (λ l. x ∷ l) (take_all i es (omega arith))

-- the first i nodes are gone, and they had this many strings
pub record IsCleared (r : ℕ) (a now : Blocks) (w i count : ℕ) : Type 0 where
  pub left : (q : ℕ) → block now q ≡ cond (holds q (joined_strings (part_numbers (nested_numbers_at r a)) (take i (entries true a w)))) None (block a q)
  pub counted : count ≡ length (joined_strings (part (nested_content_at r a)) (take i (entries true a w)))

pub cleared-none : (r : ℕ) (a : Blocks) (w : ℕ) → IsCleared r a a w 0 0
cleared-none r a w = record { left = λ q. refl; counted = refl }

module _ (r : ℕ) (a : Blocks) (w : ℕ) (n : Nest r a w) where
  once : Two (own_numbers a w) (joined_strings (part_numbers (nested_numbers_at r a)) (entries true a w))
  once = two-of (own_numbers a w) _ (sym (ap are_distinct (nest-numbers r a w (nest-kind r a w n))) ∙ node-once (suc r) a w (array-of r a w n))

  module _ (now : Blocks) (i count : ℕ) (h : IsCleared r a now w i count) where
    prefix : (q : ℕ) → holds q (joined_strings (part_numbers (nested_numbers_at r a)) (entries true a w)) ≡ false
        → holds q (joined_strings (part_numbers (nested_numbers_at r a)) (take i (entries true a w))) ≡ false
    prefix q gone =
        let all : joined_strings (part_numbers (nested_numbers_at r a)) (entries true a w) ≡ joined_strings (part_numbers (nested_numbers_at r a))
        (take i (entries true a w)) ++ joined_strings (part_numbers (nested_numbers_at r a)) (drop i (entries true a w)) =
        ap (joined_strings (part_numbers (nested_numbers_at r a))) (sym (take_drop i (entries true a w))) ∙ joined-both
        (part_numbers (nested_numbers_at r a)) (take i (entries true a w)) (drop i (entries true a w)) in
        or_false_left _ _
        (sym (ap (holds q) all ∙ holds-append q (joined_strings (part_numbers (nested_numbers_at r a)) (take i (entries true a w)))
        (joined_strings (part_numbers (nested_numbers_at r a)) (drop i (entries true a w)))) ∙ gone)
      where
        take_drop : (i : ℕ) (es : Entries ℕ) → take i es ++ drop i es ≡ es
        take_drop zero es = refl
        take_drop (suc i) [] = refl
        take_drop (suc i) (x ∷ es) = ap (λ l. x ∷ l) (take_drop i es)

    same_own : (q : ℕ) → holds q (own_numbers a w) ≡ true → block now q ≡ block a q
    same_own q own = h.left q ∙ ap (λ t. cond t None (block a q)) (prefix q (once.apart q own))

    pub cleared-stays : IsRoot true now w × (entries true now w ≡ entries true a w) × (own_numbers now w ≡ own_numbers a w)
    cleared-stays = root-kept true a w n.root now same_own

    -- the whole is gone
    pub cleared-all : (end : Blocks) → i ≡ length (entries true a w) → Frame now end (own_numbers now w) [] → Frame a end
        (nested_numbers_at (suc r) a w) [] × (count ≡ length (nested_content_at (suc r) a w))
    cleared-all end last f =
        let whole = take_all i (entries true a w) last in (
          record {
            outside = λ q out. f.outside q refl ∙ ap (λ ns. cond (holds q ns) None (block now q)) cleared-stays.2
                ∙ ap (λ o. cond (holds q (own_numbers a w)) None o)
                (h.left q ∙ ap (λ es. cond (holds q (joined_strings (part_numbers (nested_numbers_at r a)) es)) None (block a q)) whole)
                ∙ twice (holds q (own_numbers a w)) (holds q (joined_strings (part_numbers (nested_numbers_at r a)) (entries true a w))) (block a q)
                ∙ ap (λ t. cond t None (block a q))
                (sym (ap (holds q) (nest-numbers r a w (nest-kind r a w n)) ∙ holds-append q (own_numbers a w)
                (joined_strings (part_numbers (nested_numbers_at r a)) (entries true a w))));
            inside = λ q yes_. absurd (not_both false yes_ refl);
            fresh = λ q yes_. absurd (not_both false yes_ refl);
          },
          h.counted ∙ ap (λ es. length (joined_strings (part (nested_content_at r a)) es)) whole ∙ sym (ap length (nest-content r a w (nest-kind r a w n))),
        )
      where
        twice : (s t : Bool) (o : Option (List ℕ)) → cond s None (cond t None o) ≡ cond (s || t) None o
        twice true t o = refl
        twice false t o = refl

    module _ (e : ℕ × ℕ) (at : slice_get (entries true a w) i ≡ Some e) where
      pub cleared-found : value_of word_order (entries true a w) e.0 ≡ Some e.1
      cleared-found = found-at i (entries true a w) e (nest-sorted r a w n) at

      -- the next node is still there
      pub cleared-child : is_last e.0 ≡ false → IsKept r a now e.1
      cleared-child more =
          let l : Leads a w e.0 e.1 = record { found = cleared-found; more = more } in
          let all : joined_strings (part_numbers (nested_numbers_at r a)) (entries true a w) ≡ joined_strings (part_numbers (nested_numbers_at r a))
          (take i (entries true a w)) ++ (part_numbers (nested_numbers_at r a) e ++ joined_strings (part_numbers (nested_numbers_at r a))
          (drop (suc i) (entries true a w))) =
          ap (joined_strings (part_numbers (nested_numbers_at r a))) (split-at i (entries true a w) e at) ∙ joined-both
          (part_numbers (nested_numbers_at r a)) (take i (entries true a w)) (e ∷ drop (suc i) (entries true a w)) in
          let two : Two (joined_strings (part_numbers (nested_numbers_at r a)) (take i (entries true a w)))
          (part_numbers (nested_numbers_at r a) e ++ joined_strings (part_numbers (nested_numbers_at r a)) (drop (suc i) (entries true a w))) =
          two-of _ _ (sym (ap are_distinct all) ∙ once.right) in
          array-kept r a now e.1 (n.sound e.0 e.1 l) (λ q own. h.left q ∙ ap (λ t. cond t None (block a q)) (false_from_ne_true _ (λ gone.
          not_both (holds q (nested_numbers_at r a e.1)) own (sym (ap (λ t. holds q (cond t [] (nested_numbers_at r a e.1))) more)
          ∙ or_false_left _ _
          (sym (holds-append q (part_numbers (nested_numbers_at r a) e)
          (joined_strings (part_numbers (nested_numbers_at r a)) (drop (suc i) (entries true a w)))) ∙ two.apart q gone)))))

      same_numbers : part_numbers (nested_numbers_at r now) e ≡ part_numbers (nested_numbers_at r a) e
      same_numbers = elim (is_last e.0) as (λ t. is_last e.0 ≡ t → cond t [] (nested_numbers_at r now e.1) ≡ cond t [] (nested_numbers_at r a e.1)) [
        | true ↦ λ m. refl
        | false ↦ λ m. (cleared-child m).numbers
      ] refl

      same_strings : part (nested_content_at r now) e ≡ part (nested_content_at r a) e
      same_strings = elim (is_last e.0) as (λ t. is_last e.0 ≡ t → cond t ((word_bytes e.0, e.1) ∷ [])
          (after (word_bytes e.0) (nested_content_at r now e.1)) ≡ cond t ((word_bytes e.0, e.1) ∷ [])
          (after (word_bytes e.0) (nested_content_at r a e.1))) [
            | true ↦ λ m. refl
            | false ↦ λ m. ap (after (word_bytes e.0)) (cleared-child m).content
          ] refl

      more_count : (m : ℕ) → m ≡ length (part (nested_content_at r now) e) → count + m ≡ length
          (joined_strings (part (nested_content_at r a)) (take (i + 1) (entries true a w)))
      more_count m is =
          let x = ap length (ap (joined_strings (part (nested_content_at r a))) (take-at i (entries true a w) e at) ∙ joined-both
          (part (nested_content_at r a)) (take i (entries true a w)) (e ∷ [])) in
          let y = length-append (joined_strings (part (nested_content_at r a)) (take i (entries true a w))) (part (nested_content_at r a) e ++ []) in
          let z = ap length (append-nil (part (nested_content_at r a) e)) in
          omega (arith, h.counted, x, y, z, is, ap length same_strings)

      -- one node more is gone
      pub cleared-more : (then : Blocks) (m : ℕ) → Frame now then (part_numbers (nested_numbers_at r now) e) []
          → m ≡ length (part (nested_content_at r now) e) → IsCleared r a then w (i + 1) (count + m)
      cleared-more then m f is = record {
        left = λ q. f.outside q refl ∙ ap (λ ns. cond (holds q ns) None (block now q)) same_numbers
            ∙ ap (λ o. cond (holds q (part_numbers (nested_numbers_at r a) e)) None o) (h.left q)
            ∙ twice (holds q (part_numbers (nested_numbers_at r a) e)) (holds q (joined_strings (part_numbers (nested_numbers_at r a))
            (take i (entries true a w)))) (block a q)
            ∙ ap (λ t. cond t None (block a q))
            (sym (holds-append q (joined_strings (part_numbers (nested_numbers_at r a)) (take i (entries true a w)))
            (part_numbers (nested_numbers_at r a) e)))
            ∙ ap (λ ns. cond (holds q ns) None (block a q)) (sym (ap (joined_strings (part_numbers (nested_numbers_at r a))) (take-at i (entries true a w) e at)
            ∙ joined-both (part_numbers (nested_numbers_at r a)) (take i (entries true a w)) (e ∷ [])
            ∙ ap (λ l. joined_strings (part_numbers (nested_numbers_at r a)) (take i (entries true a w)) ++ l)
            (append-nil (part_numbers (nested_numbers_at r a) e))));
        counted = more_count m is;
      }
        where
          twice : (s t : Bool) (o : Option (List ℕ)) → cond s None (cond t None o) ≡ cond (t || s) None o
          twice true true o = refl
          twice true false o = refl
          twice false true o = refl
          twice false false o = refl

      -- the count is small
      pub cleared-small : (m : ℕ) → m ≡ length (part (nested_content_at r now) e) → count + m < 1152921504606846976
      cleared-small m is =
          let all = strings-few (suc r) a w (array-of r a w n) in
          let c = ap length (nest-content r a w (nest-kind r a w n)) in
          let x = ap length (ap (joined_strings (part (nested_content_at r a))) (split-at i (entries true a w) e at) ∙ joined-both
          (part (nested_content_at r a)) (take i (entries true a w)) (e ∷ drop (suc i) (entries true a w))) in
          let y = length-append (joined_strings (part (nested_content_at r a)) (take i (entries true a w)))
          (part (nested_content_at r a) e ++ joined_strings (part (nested_content_at r a)) (drop (suc i) (entries true a w))) in
          let z = length-append (part (nested_content_at r a) e) (joined_strings (part (nested_content_at r a)) (drop (suc i) (entries true a w))) in
          omega (arith, all, c, x, y, z, h.counted, is, ap length same_strings)

-- a walk from entry to entry
below_at : (x i : ℕ) (es : Entries ℕ) (e : ℕ × ℕ) → below_all word_order x es ≡ true → slice_get es i ≡ Some e → is_lt (nat_cmp x e.0) ≡ true
below_at x i [] e h at = absurd (none-some _ at)
below_at x zero (y ∷ es) e h at = subst (λ z. is_lt (nat_cmp x z.0) ≡ true) (same_Some at) (and_left (is_lt (nat_cmp x y.0)) _ h)
below_at x (suc i) (y ∷ es) e h at = below_at x i es e (and_right (is_lt (nat_cmp x y.0)) _ h) at

from_zero : (k : ℕ) → is_ge (nat_cmp k 0) ≡ true
from_zero k = grind (arith, nat_tests)

not_itself : (k : ℕ) → is_gt (nat_cmp k k) ≡ false
not_itself k = grind (arith, nat_tests)

above_it : (k m : ℕ) → is_lt (nat_cmp k m) ≡ true → is_gt (nat_cmp m k) ≡ true
above_it k m h = grind (arith, nat_tests)

not_above : (k m : ℕ) → is_lt (nat_cmp k m) ≡ true → is_gt (nat_cmp k m) ≡ false
not_above k m h = grind (arith, nat_tests)

walk-first : (es : Entries ℕ) → first word_order es 0 ≡ slice_get es 0
walk-first [] = refl
walk-first (x ∷ es) = rw (from_zero x.0) refl

walk-next : (i : ℕ) (es : Entries ℕ) (e : ℕ × ℕ) → is_sorted word_order es ≡ true → slice_get es i ≡ Some e → next word_order es e.0 ≡ slice_get es (suc i)
walk-next i [] e h at = absurd (none-some _ at)
walk-next zero (x ∷ es) e h at =
    subst (λ z. next word_order (x ∷ es) z.0 ≡ slice_get es 0) (same_Some at) (rw (not_itself x.0) (front es (and_left (below_all word_order x.0 es) _ h)))
  where
    front : (es : Entries ℕ) → below_all word_order x.0 es ≡ true → next word_order es x.0 ≡ slice_get es 0
    front [] h = refl
    front (y ∷ ys) h = rw (above_it x.0 y.0 (and_left (is_lt (nat_cmp x.0 y.0)) _ h)) refl
walk-next (suc i) (x ∷ es) e h at =
    rw (not_above x.0 e.0 (below_at x.0 i es e (and_left (below_all word_order x.0 es) _ h) at))
    (walk-next i es e (and_right (below_all word_order x.0 es) _ h) at)

-- the first entry, and the one behind another
pub at-first : (b : Blocks) (w x : ℕ) (o : Option (ℕ × ℕ)) → x ≡ w → o ≡ first word_order (entries true b x) 0 → o ≡ slice_get (entries true b w) 0
at-first b w x o e f = f ∙ ap (λ y. first word_order (entries true b y) 0) e ∙ walk-first (entries true b w)

pub at-next : (b : Blocks) (w x i : ℕ) (es : Entries ℕ) (e : ℕ × ℕ) (o : Option (ℕ × ℕ)) → x ≡ w → entries true b w ≡ es
    → is_sorted word_order es ≡ true → slice_get es i ≡ Some e → o ≡ next word_order (entries true b x) e.0 → o ≡ slice_get es (i + 1)
at-next b w x i es e o same stays sorted at f =
    f ∙ ap (λ y. next word_order (entries true b y) e.0) same ∙ ap (λ l. next word_order l e.0) stays ∙ walk-next i es e sorted at
    ∙ ap (slice_get es) (sym (add-one i))

-- an array that was cleared has no block
pub emptied : (now end : Blocks) (w x y : ℕ) → x ≡ w → IsRoot true end y → entries true end y ≡ [] → Frame now end
    (own_numbers now x) (own_numbers end y) → Frame now end (own_numbers now w) []
emptied now end w x y e root none f =
    subst (λ ns. Frame now end (own_numbers now w) ns) (none-numbers true end y (no-entries true end y root none))
    (subst (λ z. Frame now end (own_numbers now z) (own_numbers end y)) e f)

-- a suffix is one string in one block
pub suffix-gone : (r : ℕ) (a c : Blocks) (w : ℕ) → is_suffix w ≡ true → c ≡ without a (number_of w) → Frame a c (nested_numbers_at (suc r) a w) []
suffix-gone r a c w e gone = subst (λ ns. Frame a c ns []) (sym (suffix-numbers r a w e))
    (subst (λ b. Frame a b (number_of w ∷ []) []) (sym gone) (frame-release a (number_of w)))

pub suffix-one : (r : ℕ) (a : Blocks) (w : ℕ) → is_suffix w ≡ true → 1 ≡ length (nested_content_at (suc r) a w)
suffix-one r a w e = ap length (sym (suffix-content r a w e))

pub part-below : (f : ℕ → Strings) (k v : ℕ) → is_last k ≡ false → length (part f (k, v)) ≡ length (f v)
part-below f k v more = ap (λ t. length (cond t ((word_bytes k, v) ∷ []) (after (word_bytes k) (f v)))) more ∙ length-after (word_bytes k) (f v)
