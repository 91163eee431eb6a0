-- The words of a node are at most 16 for each piece of its strings, from two facts: a JudyL of n
-- entries has at most 12 n words, a suffix of q pieces at most 4 q.
use Rattle.std.proofs.Common.{◌≡◌, ℕ, zero, suc, ◌+◌, ◌*◌, ◌/◌, ◌<◌, ◌≤◌, Bool, true, false, cond, ◌&&◌, ◌||◌, ◌==◌, List, []}
use Rattle.std.proofs.Common.{◌∷◌, ◌++◌, length, length-append, Some, ap, sym, ◌∙◌, refl, arith}
use Rattle.std.proofs.lemmas.List.Sums.{sum_by-cons, sum_by-append}
use Rattle.std.specs.FinMap.{is_sorted}
use Rattle.std.specs.FinMap.Entries.{below_all}
use Rattle.judy_arena.specs.Blocks.{Blocks, words_of}
use Rattle.judy_arena.specs.Totals.{words_over}
use Rattle.judy_model.specs.Pieces.{pieces_of, string_pieces}
use Rattle.judy_refs.specs.References.{number_of}
use Rattle.judy_model.specs.Contents.{Entries, word_order, value_of}
use Rattle.judy_model.proofs.lemmas.EntryLemmas.{lt_of}
use Rattle.judy_tree.specs.Root.{IsRoot, entries, numbers as own_numbers}
use Rattle.judy_tree.proofs.lemmas.Joins.{found-first}
use Rattle.judy_packing.specs.Packing.{word_bytes, is_last}
use Rattle.judy_string.specs.Suffixes.{suffix_words, suffix_string, suffix_size, packed_suffix, IsSuffix}
use Rattle.judy_string.specs.Laws.{SpaceIsBounded}
use Rattle.std.specs.Prelude.{nat_lt}
use Rattle.std.proofs.lemmas.Bool.Decides.{nat_tests}
use Rattle.judy_arena.specs.Frame.{holds}
use Rattle.judy_arena.specs.Room.{room}
use Rattle.judy_arena.proofs.lemmas.BlockLaws.{words_over-append, words_over-cons}
use Rattle.judy_string.proofs.Maps.{no-entries, none-numbers, entries-few}
use Rattle.judy_string.specs.Strings.{Strings, after, part, part_numbers, joined_strings, nested_content_at, nested_numbers_at, IsNestedAt, Leads}
use Rattle.judy_string.proofs.Joins.{found_later, more_long}
use Rattle.judy_string.proofs.Nests.{node-cases, nest-of, nest-content, nest-numbers, nest-sorted, suffix-content, suffix-numbers, none-array}
use Rattle.judy_string.proofs.Levels.{spells-nothing}

-- the pieces of strings
abbrev pieces : Strings → ℕ
pieces l = pieces_of string_pieces l

pieces-cons : (e : List ℕ × ℕ) (l : Strings) → pieces (e ∷ l) ≡ length e.0 / 8 + 1 + pieces l
pieces-cons e l = sum_by-cons (λ e. string_pieces e.0) e l

pieces-both : (xs ys : Strings) → pieces (xs ++ ys) ≡ pieces xs + pieces ys
pieces-both xs ys = sum_by-append (λ e. string_pieces e.0) xs ys

-- each string after 8 bytes more has one piece more
pieces-after : (p : List ℕ) (l : Strings) → length p ≡ 8 → pieces (after p l) ≡ pieces l + length l
pieces-after p [] h = refl
pieces-after p (e ∷ l) h = let k = pieces-after p l h in omega (arith, k, length-append p e.0, h, pieces-cons (p ++ e.0, e.1) (after p l), pieces-cons e l)

some_string : (l : Strings) → (l ≡ [] → ⊥) → 1 ≤ length l
some_string [] h = absurd (h refl)
some_string (e ∷ l) h = omega arith

one_piece : (e : List ℕ × ℕ) → 1 ≤ pieces (e ∷ [])
one_piece e = let k = pieces-cons e [] in omega (arith, k)

-- the parts, with 12 words for each entry above
parts : (b : Blocks) (f : ℕ → Strings) (used : ℕ → List ℕ) (es : Entries ℕ) → is_sorted word_order es ≡ true
    → ((k v : ℕ) → value_of word_order es k ≡ Some v → is_last k ≡ false → (words_over b (used v) ≤ 16 * pieces (f v)) × (1 ≤ length (f v)))
    → words_over b (joined_strings (part_numbers used) es) + 12 * length es ≤ 16 * pieces (joined_strings (part f) es)
parts b f used [] sorted h = omega arith
parts b f used (e ∷ es) sorted h =
    let rest = parts b f used es (and_right (below_all word_order e.0 es) _ sorted) (λ k v i m. h k v (found_later e es k v sorted i) m) in
    let here : words_over b (part_numbers used e) + 12 ≤ 16 * pieces (part f e) =
    elim (is_last e.0) as (λ t. is_last e.0 ≡ t → words_over b (cond t [] (used e.1)) + 12 ≤ 16 * pieces
    (cond t ((word_bytes e.0, e.1) ∷ []) (after (word_bytes e.0) (f e.1)))) [
      | true ↦ λ i. let p = one_piece (word_bytes e.0, e.1) in omega (arith, p)
      | false ↦ λ i. let k = h e.0 e.1 (found-first e es) i in let p = pieces-after (word_bytes e.0) (f e.1) (more_long e.0 i) in omega (arith, k.0, k.1, p)
    ] refl in
    omega (
      arith,
      here,
      rest,
      words_over-append b (part_numbers used e) (joined_strings (part_numbers used) es),
      pieces-both (part f e)
          (joined_strings (part f) es),
    )
  where
    and_right : (a b : Bool) → (a && b) ≡ true → b ≡ true
    and_right true b h = h
    and_right false b h = cc

module _ (b : Blocks) (own : (w : ℕ) → IsRoot true b w → words_over b (own_numbers b w) ≤ 12 * length (entries true b w))
    (suffix : (r w : ℕ) → IsSuffix r b w → length (words_of b (number_of w)) ≤ 4 * (length (suffix_string (suffix_words b w)) / 8 + 1)) where
  pub space : (r w : ℕ) → IsNestedAt r b w → words_over b (nested_numbers_at r b w) ≤ 16 * pieces (nested_content_at r b w)
  space zero w h = absurd (none-array b w h)
  space (suc r) w h = node-cases r b w h
      (λ e s. let k = suffix r w s in let n = ap (words_over b) (suffix-numbers r b w e) in
      let c = ap pieces (suffix-content r b w e) in omega (arith, k, n, c))
      (λ e n.
      let m = ap (words_over b) (nest-numbers r b w e) ∙ words_over-append b (own_numbers b w)
      (joined_strings (part_numbers (nested_numbers_at r b)) (entries true b w)) in
      let c = ap pieces (nest-content r b w e) in
      let p = parts b (nested_content_at r b) (nested_numbers_at r b) (entries true b w) (nest-sorted r b w n)
      (λ k v i j. let l : Leads b w k v = record { found = i; more = j } in (
        space r v (n.sound k v l),
        some_string (nested_content_at r b v)
            (λ z. n.filled k v l (spells-nothing r b v (n.sound k v l) z)),
      )) in
      let o = own w n.root in
      omega (arith, m, c, p, o))

ge_test : (a b : ℕ) → nat_lt a b ≡ false → b ≤ a
ge_test a b h = grind (arith, nat_tests)

some_over : (b : Blocks) (ns : List ℕ) → ((q : ℕ) → holds q ns ≡ true → 4 ≤ length (words_of b q)) → 0 < length ns → 4 ≤ words_over b ns
some_over b [] h k = absurd (omega arith)
some_over b (n ∷ ns) h k = let i = h n (ap (λ t. t || holds n ns) (itself n)) in let k = words_over-cons b n ns in omega (arith, i, k)
  where
    itself : (n : ℕ) → (n == n) ≡ true
    itself n = grind (arith, nat_tests)

-- The space of a whole map, from what the layers below say of sizes: of a JudyL with entries, and
-- of the room of a block.
module _ (own : (b : Blocks) (w : ℕ) → IsRoot true b w → 0 < length (entries true b w) → words_over b (own_numbers b w) + 8 ≤ 12 * length (entries true b w))
    (least : (b : Blocks) (w : ℕ) → IsRoot true b w → (q : ℕ) → holds q (own_numbers b w) ≡ true → 4 ≤ length (words_of b q))
    (small : (len : ℕ) → len ≤ 4 → room len ≤ 4) (twice : (len : ℕ) → 4 ≤ len → room len ≤ 2 * len) where
  own_words : (b : Blocks) (w : ℕ) → IsRoot true b w → words_over b (own_numbers b w) ≤ 12 * length (entries true b w)
  own_words b w h = elim (nat_lt 0 (length (entries true b w))) as (λ t. nat_lt 0 (length (entries true b w)) ≡ t → words_over b
      (own_numbers b w) ≤ 12 * length (entries true b w)) [
        | true ↦ λ e. let k = own b w h (lt_of 0 (length (entries true b w)) e) in omega (arith, k)
        | false ↦ λ e.
            let z = no-entries true b w h (no_length (entries true b w) (ge_test 0 (length (entries true b w)) e)) in
            let n = ap (words_over b) (none-numbers true b w z) in omega (arith, n)
      ] refl
    where
      no_length : (es : Entries ℕ) → length es ≤ 0 → es ≡ []
      no_length [] h = refl
      no_length (e ∷ es) h = absurd (omega arith)

  suffix_words_few : (b : Blocks) (r w : ℕ) → IsSuffix r b w → length (words_of b (number_of w)) ≤ 4 * (length (suffix_string (suffix_words b w)) / 8 + 1)
  suffix_words_few b r w h =
      let n : ℕ = suffix_size (suffix_words b w) in
      elim (nat_lt (2 + packed_suffix (suffix_size (suffix_words b w))) 4) as
      (λ t. nat_lt (2 + packed_suffix (suffix_size (suffix_words b w))) 4 ≡ t → length (words_of b (number_of w))
      ≤ 4 * (length (suffix_string (suffix_words b w)) / 8 + 1)) [
        | true ↦ λ e. let l = lt_of (2 + packed_suffix (suffix_size (suffix_words b w))) 4 e in
            let k = small (2 + packed_suffix (suffix_size (suffix_words b w))) (omega (arith, l)) in
            omega (arith, k, h.exact, h.size)
        | false ↦ λ e. let l = ge_test (2 + packed_suffix (suffix_size (suffix_words b w))) 4 e in at_least
            (suffix_size (suffix_words b w)) (length (words_of b (number_of w))) (length (suffix_string (suffix_words b w))) h.exact h.size l
      ] refl
    where
      at_least : (n m k : ℕ) → m ≡ room (2 + packed_suffix n) → k ≡ n → 4 ≤ 2 + packed_suffix n → m ≤ 4 * (k / 8 + 1)
      at_least n m k e f l =
          let d : k / 8 ≡ n / 8 = ap (λ x. x / 8) f in
          elim (nat_lt n 17) as (λ t. nat_lt n 17 ≡ t → m ≤ 4 * (k / 8 + 1)) [
            | true ↦ λ i. let j = lt_of n 17 i in let four : 2 + packed_suffix n ≡ 4 = omega (arith, j, l) in
                let s = small (2 + packed_suffix n) (omega (arith, four)) in omega (arith, s, e, d)
            | false ↦ λ i. let j = ge_test n 17 i in let s = twice (2 + packed_suffix n) l in omega (arith, s, e, d, j)
          ] refl

  pub map-space : SpaceIsBounded
  map-space b w l ns s = (
    let k = space b (own_words b) (suffix_words_few b) 126 w s.sound.node in omega (arith, k, ap (words_over b) s.blocks, ap pieces s.content),
    λ some.
        let kind = s.sound.array in
        let n = nest-of 125 b w kind s.sound.node in
        let es : entries true b w ≡ [] → ⊥ = λ e. absurd
        (let z = ap length (sym s.content ∙ nest-content 125 b w kind ∙ ap (joined_strings (part (nested_content_at 125 b))) e) in
        omega (arith, z, some)) in
        let few = entries-few b w n.root in
        let own4 = some_over b (own_numbers b w) (least b w n.root) (some_length (entries true b w) (length (own_numbers b w)) es few) in
        omega (
          arith,
          own4,
          ap (words_over b) (sym s.blocks ∙ nest-numbers 125 b w kind),
          words_over-append b (own_numbers b w)
              (joined_strings (part_numbers (nested_numbers_at 125 b)) (entries true b w)),
        ),
  )
    where
      some_length : (es : Entries ℕ) (n : ℕ) → (es ≡ [] → ⊥) → length es ≤ 33554432 * n → 0 < n
      some_length [] n h k = absurd (h refl)
      some_length (e ∷ es) n h k = omega arith
