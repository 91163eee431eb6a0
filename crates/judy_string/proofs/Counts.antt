-- How many strings an array can have: its blocks are distinct, have numbers below 2^32, and few
-- entries each.
use Rattle.std.proofs.Common.{◌≡◌, ℕ, zero, suc, ◌+◌, ◌*◌, ◌<◌, ◌≤◌, true, false, cond, List, [], ◌∷◌, length, Some, ap, sym}
use Rattle.std.proofs.Common.{◌∙◌, refl, arith, length-append, inl, inr}
use Rattle.std.proofs.lemmas.Bool.Decides.{nat_tests}
use Rattle.std.specs.FinMap.{is_sorted}
use Rattle.std.specs.FinMap.Entries.{below_all}
use Rattle.judy_arena.specs.Blocks.{Blocks}
use Rattle.judy_arena.specs.Frame.{holds}
use Rattle.judy_refs.specs.References.{number_of}
use Rattle.judy_model.specs.Contents.{Entries, word_order, value_of}
use Rattle.judy_model.proofs.lemmas.TestLemmas.{and_right}
use Rattle.judy_tree.specs.Root.{entries, numbers as own_numbers}
use Rattle.judy_tree.proofs.lemmas.Counts.{pigeons}
use Rattle.judy_tree.proofs.lemmas.Joins.{found-first}
use Rattle.judy_packing.specs.Packing.{word_bytes, is_last}
use Rattle.judy_string.specs.Strings.{Strings, after, part, joined_strings, part_numbers, nested_content_at, nested_numbers_at, IsNestedAt}
use Rattle.judy_string.proofs.Maps.{numbers-low, entries-few}
use Rattle.judy_string.proofs.Joins.{found_later}
use Rattle.judy_string.proofs.Nests.{node-cases, node-once, nest-sorted, nest-content, nest-numbers, suffix-content, suffix-numbers, none-array}
use Rattle.judy_string.proofs.Numbers.{in-nest}

pub length-after : (p : List ℕ) (l : Strings) → length (after p l) ≡ length l
length-after p [] = refl
length-after p (e ∷ l) = ap suc (length-after p l)

few_parts : (f : ℕ → Strings) (used : ℕ → List ℕ) (es : Entries ℕ) → is_sorted word_order es ≡ true
    → ((k v : ℕ) → value_of word_order es k ≡ Some v → is_last k ≡ false → length (f v) ≤ 33554432 * length (used v))
    → length (joined_strings (part f) es) ≤ length es + 33554432 * length (joined_strings (part_numbers used) es)
few_parts f used [] sorted h = omega arith
few_parts f used (e ∷ es) sorted h =
    let r = few_parts f used es (and_right (below_all word_order e.0 es) _ sorted) (λ k v i m. h k v (found_later e es k v sorted i) m) in
    let here : length (part f e) ≤ 1 + 33554432 * length (part_numbers used e) =
    elim (is_last e.0) as (λ t. is_last e.0 ≡ t → length (cond t ((word_bytes e.0, e.1) ∷ []) (after (word_bytes e.0) (f e.1)))
    ≤ 1 + 33554432 * length (cond t [] (used e.1))) [
      | true ↦ λ i. omega arith
      | false ↦ λ i. let k = h e.0 e.1 (found-first e es) i in omega (arith, k, length-after (word_bytes e.0) (f e.1))
    ] refl in
    omega (arith, r, here, length-append (part f e) (joined_strings (part f) es), length-append (part_numbers used e) (joined_strings (part_numbers used) es))

few_strings : (r : ℕ) (b : Blocks) (w : ℕ) → IsNestedAt r b w → length (nested_content_at r b w) ≤ 33554432 * length (nested_numbers_at r b w)
few_strings zero b w h = absurd (none-array b w h)
few_strings (suc r) b w h = node-cases r b w h
    (λ e s. let x = ap length (suffix-content r b w e) in let y = ap length (suffix-numbers r b w e) in omega (arith, x, y))
    (λ e n.
    let x = ap length (nest-content r b w e) in
    let y = ap length (nest-numbers r b w e) ∙ length-append (own_numbers b w) (joined_strings (part_numbers (nested_numbers_at r b)) (entries true b w)) in
    let p = few_parts (nested_content_at r b) (nested_numbers_at r b) (entries true b w) (nest-sorted r b w n)
    (λ k v i m. few_strings r b v (n.sound k v (record { found = i; more = m }))) in
    let o = entries-few b w n.root in
    omega (arith, x, y, p, o))

low_numbers : (r : ℕ) (b : Blocks) (w q : ℕ) → IsNestedAt r b w → holds q (nested_numbers_at r b w) ≡ true → q < 4294967296
low_numbers zero b w q h i = absurd (none-array b w h)
low_numbers (suc r) b w q h i = node-cases r b w h
    (λ e s. let k : q ≡ number_of w = same q (number_of w) (sym (ap (holds q) (suffix-numbers r b w e)) ∙ i) in
    let l : number_of w < 4294967296 = omega arith in omega (arith, k, l))
    (λ e n. elim (in-nest r b w n q i) [
      | inl own ↦ numbers-low b w n.root q own
      | inr u ↦ low_numbers r b u.at q (n.sound u.key u.at (record { found = u.found; more = u.more })) u.held
    ])
  where
    same : (q n : ℕ) → holds q (n ∷ []) ≡ true → q ≡ n
    same q n h = grind (arith, nat_tests)

-- an array has fewer than 2^60 strings
pub strings-few : (r : ℕ) (b : Blocks) (w : ℕ) → IsNestedAt r b w → length (nested_content_at r b w) < 1152921504606846976
strings-few r b w h =
    let f = few_strings r b w h in
    let n = pigeons 4294967296 (nested_numbers_at r b w) (node-once r b w h) (λ q i. low_numbers r b w q h i) in
    omega (arith, f, n)
