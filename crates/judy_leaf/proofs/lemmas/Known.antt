-- The word of a leaf is a reference, and its block has at least 4 words.
use Rattle.std.proofs.Common.{◌≡◌, ◌≢◌, ℕ, ◌≤◌, Bool, true, false, ◌||◌, ◌&&◌, ◌==◌, List, length, Option, Some}
use Rattle.std.proofs.Common.{None, ap, sym, ◌∙◌, refl, subst, arith}
use Rattle.std.proofs.lemmas.Bool.Decides.{nat_tests}
use Rattle.std.specs.Prelude.{nat_le, nat_lt}
use Rattle.judy_arena.specs.Blocks.{Blocks, words_of}
use Rattle.judy_arena.specs.Frame.{holds}
use Rattle.judy_arena.specs.Room.{room}
use Rattle.judy_refs.specs.References.{kind_part, kind_of, kind_of_number, block_of, is_reference}
use Rattle.judy_refs.specs.declared.Kind.{Kind}
use Rattle.judy_refs.specs.declared.Kind.TheVariants.{LinearLeaf, BitmapLeaf, FullLeaf, LinearBranch, BitmapBranch, FullBranch, Suffix, Bucket}
use Rattle.judy_arena.proofs.lemmas.RoomLaws.{room-tight}
use Rattle.judy_leaf.specs.Leaf.{IsLeaf, IsSoundBy, leaf_numbers, leaf_words}
use Rattle.judy_leaf.specs.Linear.{leaf_count, linear_size}
use Rattle.judy_leaf.specs.Bytes.{bitmap_size}
use Rattle.judy_leaf.specs.Laws.{LeavesAreKnown}
use Rattle.judy_leaf.proofs.lemmas.LeafLaws.{no-block, named, numbers-of}
use Rattle.judy_leaf.proofs.lemmas.OwnBlock.{no_branches, only_nothing}

-- a size is at least 4
four : (n : ℕ) → 4 ≤ room n
four n = let s = room-tight.small 0 (omega arith) in let r = room-tight.rises 0 n (omega arith) in omega arith

sized_four : (n l : ℕ) → l ≡ room n → 4 ≤ l
sized_four n l e = let f = four n in omega arith

-- only the reference to nothing has the kind 0
kind_zero : (v : Bool) (b : Blocks) (w : ℕ) → IsLeaf v b w → kind_part w ≡ 0 → w ≡ 0
unfolding IsLeaf
kind_zero v b w leaf e = subst (λ k. IsSoundBy v (kind_of_number k) w (leaf_words b w)) e leaf

reference : (w : ℕ) → (kind_part w ≡ 0 → w ≡ 0) → nat_lt 3 (kind_part w) ≡ false → is_reference w ≡ true
reference w zero few = elim (w == 0) as (λ t. (w == 0) ≡ t → (t || (nat_le 1 (kind_part w) && nat_le (kind_part w) 8)) ≡ true) [
  | true ↦ λ e. refl
  | false ↦ λ e. within (kind_part w) (λ z. not_zero w e (zero z)) few
] refl
  where
    not_zero : (n : ℕ) → (n == 0) ≡ false → n ≢ 0
    not_zero n h = grind (arith, nat_tests)

    within : (k : ℕ) → k ≢ 0 → nat_lt 3 k ≡ false → (nat_le 1 k && nat_le k 8) ≡ true
    within k some small = ap (λ t. t && nat_le k 8) (one k some) ∙ eight k small
      where
        one : (k : ℕ) → k ≢ 0 → nat_le 1 k ≡ true
        one k h = grind (arith, nat_tests)

        eight : (k : ℕ) → nat_lt 3 k ≡ false → nat_le k 8 ≡ true
        eight k h = grind (arith, nat_tests)

-- the block that a leaf's reference names has at least 4 words
four_by : (v : Bool) (k : Option Kind) (w : ℕ) (ws : List ℕ) → IsSoundBy v k w ws → w ≢ 0 → 4 ≤ length ws
four_by v None w ws h s = absurd (s h)
four_by v (Some LinearLeaf) w ws h s = sized_four (linear_size v (leaf_count ws)) (length ws) h.1
four_by v (Some BitmapLeaf) w ws h s = sized_four (bitmap_size v (leaf_count ws)) (length ws) h.1
four_by v (Some FullLeaf) w ws h s = sized_four (bitmap_size v (leaf_count ws)) (length ws) h.1
four_by v (Some LinearBranch) w ws h s = absurd h
four_by v (Some BitmapBranch) w ws h s = absurd h
four_by v (Some FullBranch) w ws h s = absurd h
four_by v (Some Suffix) w ws h s = absurd h
four_by v (Some Bucket) w ws h s = absurd h

four_words : (v : Bool) (b : Blocks) (w n : ℕ) → IsLeaf v b w → block_of w ≡ Some n → 4 ≤ length (words_of b n)
unfolding IsLeaf
four_words v b w n leaf e = let m = named w n e in subst (λ x. 4 ≤ length (words_of b x)) m.1 (four_by v (kind_of w) w (leaf_words b w) leaf m.0)

pub are_known : LeavesAreKnown
are_known v b w leaf = record {
  reference = reference w (kind_zero v b w leaf) (no_branches v b w leaf);
  words = λ q h. by q h (block_of w) refl;
}
  where
    same_test : (q i : ℕ) → (q == i) ≡ true → q ≡ i
    same_test q i e = grind (arith, nat_tests)

    or_none : (t : Bool) → (t || false) ≡ t
    or_none true = refl
    or_none false = refl

    clash : false ≡ true → ⊥
    clash h = cc

    by : (q : ℕ) → holds q (leaf_numbers b w) ≡ true → (o : Option ℕ) → block_of w ≡ o → 4 ≤ length (words_of b q)
    by q h None e = absurd (clash (ap (holds q) (sym (ap (leaf_numbers b) (no-block w e) ∙ (only_nothing.nothing v b).2)) ∙ h))
    by q h (Some n) e = subst (λ x. 4 ≤ length (words_of b x))
        (sym (same_test q n (sym (or_none (q == n)) ∙ sym (ap (holds q) (numbers-of b w n e)) ∙ h))) (four_words v b w n leaf e)
