-- The blocks of an array have few words, by its number of pieces.
use Rattle.std.proofs.Common.{◌≡◌, ℕ, zero, suc, ◌+◌, ◌*◌, ◌<◌, ◌≤◌, Bool, true, false, ◌||◌, ◌==◌, List, [], ◌∷◌, length, ap, sym, ◌∙◌, refl, subst, arith}
use Rattle.std.proofs.lemmas.Bool.Decides.{nat_tests}
use Rattle.std.proofs.lemmas.List.Sums.{sum_by-cons}
use Rattle.std.proofs.lemmas.Bool.{false≢true}
use Rattle.judy_arena.specs.Blocks.{Blocks, words_of, is_live}
use Rattle.judy_arena.specs.Frame.{holds}
use Rattle.judy_arena.specs.Totals.{are_distinct, words_over}
use Rattle.judy_model.proofs.lemmas.PieceLemmas.{pieces_of-words}
use Rattle.judy_model.specs.declared.commands.Kind.TheVariants.{One, Long, Str, Bytes}
use Rattle.judy_tree.specs.Root.{IsRoot, Spells, entries, numbers}
use Rattle.judy_tree.specs.Laws.{BlocksAreLive as TreesAreLive, BlocksAreSmall, BlocksAreFew, RootsHaveSpace}
use Rattle.judy_string.specs.Laws.{BlocksAreLive as StringsAreLive, SpaceIsBounded as StringsAreBounded}
use Rattle.judy_bytes.specs.Laws.{BlocksAreLive as BytesAreLive, SpaceIsBounded as BytesAreBounded}
use Rattle.judy_string.specs.StringArrays.{string_in, string_numbers as numbers_of_strings}
use Rattle.judy_bytes.specs.BytesArrays.{bytes_in, bytes_numbers as numbers_of_bytes}
use Rattle.judy_kinds.specs.Laws.{PlacesAreSmall, AreFewWords}

-- n blocks of at least 4 words have at least 4 n words
some_words : (b : Blocks) (ns : List ℕ) → 0 < length ns → ((q : ℕ) → holds q ns ≡ true → 4 ≤ length (words_of b q)) → 4 ≤ words_over b ns
some_words b [] some h = absurd (omega arith)
some_words b (n ∷ ns) some h =
    let first = h n (ap (λ t. t || holds n ns) (itself n)) in
    let sum = sum_by-cons (λ (q : ℕ). length (words_of b q)) n ns in
    omega (arith, first, sum)
  where
    itself : (n : ℕ) → (n == n) ≡ true
    itself n = grind (arith, nat_tests)

-- at most 12 n - 8 words are at most 16 n; no words if n is 0
at_most : (n m : ℕ) → (n ≡ 0 → m ≡ 0) → (0 < n → m + 8 ≤ 12 * n) → m ≤ 16 * n
at_most zero m none some = let e = none refl in omega (arith, e)
at_most (suc n) m none some = let e = some (omega arith) in omega (arith, e)

-- few words if there are some, and none if there are none
few_words : (n m : ℕ) → (n ≡ 0 → m ≡ 0) → (0 < n → m + 8 ≤ 12 * n) → AreFewWords n m
few_words zero m none some = none refl
few_words (suc n) m none some = some (omega arith)

-- there is a block if there is an entry
some_block : (n m : ℕ) → 0 < n → n ≤ 256 * m → 0 < m
some_block n m h k = omega arith

module _ (tree_live : TreesAreLive) (small : BlocksAreSmall) (few : BlocksAreFew) (space : RootsHaveSpace) where
  -- a word array, by its length
  record IsSmallRoot (v : Bool) (b : Blocks) (w : ℕ) : Type 0 where
    live : (q : ℕ) → holds q (numbers b w) ≡ true → is_live b q ≡ true
    distinct : are_distinct (numbers b w) ≡ true
    most : words_over b (numbers b w) ≤ 16 * length (entries v b w)
    least : 0 < length (entries v b w) → 4 ≤ words_over b (numbers b w)
    tight : AreFewWords (length (entries v b w)) (words_over b (numbers b w))

  small-root : (v : Bool) (b : Blocks) (w : ℕ) → IsRoot v b w → IsSmallRoot v b w
  small-root v b w h =
      let spells : Spells v b w (entries v b w) (numbers b w) = record { sound = h; content = refl; blocks = refl } in
      let live = tree_live v b w (entries v b w) (numbers b w) spells in
      let room = space v b w h in
      record {
        live = live.0;
        distinct = live.1;
        most = at_most (length (entries v b w)) (words_over b (numbers b w)) room.none room.some;
        least = λ some. some_words b (numbers b w) (some_block (length (entries v b w)) (length (numbers b w)) some
            (few v b w (entries v b w) (numbers b w) spells).1)
            (small v b w (entries v b w) (numbers b w) spells).0;
        tight = few_words (length (entries v b w)) (words_over b (numbers b w)) room.none room.some;
      }

  module _ (strings_live : StringsAreLive) (strings_small : StringsAreBounded) (bytes_live : BytesAreLive) (bytes_small : BytesAreBounded) where
    pub places-are-small : PlacesAreSmall
    places-are-small H One b p h = let s = small-root false b p.root h.sound in record {
      live = s.live;
      distinct = s.distinct;
      most = subst (λ n. words_over b (numbers b p.root) ≤ 16 * n) (sym (h.pieces ∙ pieces_of-words (entries false b p.root))) s.most;
      least = λ some. s.least (subst (λ n. 0 < n) h.entries some);
      tight = λ words. subst (λ n. AreFewWords n (words_over b (numbers b p.root))) (sym h.entries) s.tight;
    }
    places-are-small H Long b p h = let s = small-root true b p.root h.sound in record {
      live = s.live;
      distinct = s.distinct;
      most = subst (λ n. words_over b (numbers b p.root) ≤ 16 * n) (sym (h.pieces ∙ pieces_of-words (entries true b p.root))) s.most;
      least = λ some. s.least (subst (λ n. 0 < n) h.entries some);
      tight = λ words. subst (λ n. AreFewWords n (words_over b (numbers b p.root))) (sym h.entries) s.tight;
    }
    places-are-small H Str b p h =
        let live = strings_live b p.root (string_in b p.root) (numbers_of_strings b p.root) (record { sound = h.sound; content = refl; blocks = refl }) in
        let few = strings_small b p.root (string_in b p.root) (numbers_of_strings b p.root) (record { sound = h.sound; content = refl; blocks = refl }) in
        record {
          live = live.0;
          distinct = live.1;
          most = subst (λ n. words_over b (numbers_of_strings b p.root) ≤ 16 * n) (sym h.pieces) few.0;
          least = λ some. few.1 (subst (λ n. 0 < n) h.entries some);
          tight = λ words. absurd (false≢true words);
        }
    places-are-small H Bytes b p h =
        let live = bytes_live H b p.root (bytes_in b p.root) (numbers_of_bytes b p.root) (record { sound = h.sound; content = refl; blocks = refl }) in
        let few = bytes_small H b p.root (bytes_in b p.root) (numbers_of_bytes b p.root) (record { sound = h.sound; content = refl; blocks = refl }) in
        record {
          live = live.0;
          distinct = live.1;
          most = subst (λ n. words_over b (numbers_of_bytes b p.root) ≤ 16 * n) (sym h.pieces) few.0;
          least = λ some. few.1 (subst (λ n. 0 < n) h.entries some);
          tight = λ words. absurd (false≢true words);
        }
