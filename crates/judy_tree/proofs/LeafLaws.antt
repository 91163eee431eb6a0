-- What is known of a leaf, by the laws of leaves.
use Rattle.std.proofs.Common.{◌≡◌, ℕ, ◌*◌, ◌/◌, ◌<◌, ◌≤◌, Bool, true, false, [], ◌∷◌, length, sym, ◌∙◌, refl, arith, ◌⊎◌, inl, inr}
use Rattle.std.specs.Prelude.{nat_lt, ◌==◌, ◌&&◌}
use Rattle.std.proofs.lemmas.Bool.Decides.{nat_tests}
use Rattle.std.specs.List.{list_all}
use Rattle.judy_arena.specs.Blocks.{Blocks, block, is_live, words_of}
use Rattle.judy_refs.specs.References.{kind_part, kind_of, is_reference}
use Rattle.judy_arena.specs.Frame.{holds}
use Rattle.judy_arena.specs.Totals.{are_distinct, words_over}
use Rattle.judy_model.specs.Contents.{Entries, IsWordArray, HasWordValues}
use Rattle.judy_tree.specs.Each.{Each}
use Rattle.judy_leaf.proofs.lemmas.OwnBlock.{own_tell, are_live, is_sound, only_nothing, no_branches, many_share, are_spare, full-or-shared}
use Rattle.judy_leaf.proofs.lemmas.Known.{are_known}
use Rattle.judy_tree.specs.Calls.{entry_at}
use Rattle.judy_leaf.specs.Leaf.{IsLeaf, CannotTake, leaf_entries, leaf_numbers}
use Rattle.judy_leaf.specs.Entries.{share_bytes}

-- a leaf of which the block did not change
pub record Kept (v : Bool) (a b : Blocks) (w : ℕ) : Type 0 where
  pub leaf : IsLeaf v b w
  pub entries : leaf_entries v b w ≡ leaf_entries v a w
  pub numbers : leaf_numbers b w ≡ leaf_numbers a w

-- all keys have these bytes 0 to 6
abbrev pub ShareFront : Entries ℕ → ℕ → Type 0
ShareFront l front = Each (λ e. e.0 / 256 ≡ front) l

-- not all keys and this one have the same bytes 0 to 6
abbrev pub CannotShare : Entries ℕ → ℕ → Type 0
CannotShare l key = ShareFront l (key / 256) → ⊥

-- so it is where the leaf says that it can't take the key
pub cannot-share : (l : Entries ℕ) (key : ℕ) → share_bytes l key ≡ false → CannotShare l key
cannot-share l key h all = absurd (clash (share_bytes l key) (shared l all) h)
  where
    clash : (t : Bool) → t ≡ true → t ≡ false → ⊥
    clash t a b = let e : true ≡ false = sym a ∙ b in cc

    same : (a b : ℕ) → a ≡ b → (a == b) ≡ true
    same a b e = grind (arith, nat_tests)

    both : (a b : Bool) → a ≡ true → b ≡ true → (a && b) ≡ true
    both true b h k = k
    both false b h k = h

    shared : (l : Entries ℕ) → ShareFront l (key / 256) → share_bytes l key ≡ true
    shared [] h = refl
    shared (e ∷ l) h = both ((e.0 / 256) == (key / 256)) (share_bytes l key) (same (e.0 / 256) (key / 256) h.0) (shared l h.1)

pub leaf-kept : (v : Bool) (a b : Blocks) (w : ℕ) → IsLeaf v a w → ((q : ℕ) → holds q (leaf_numbers a w) ≡ true → block b q ≡ block a q) → Kept v a b w
leaf-kept v a b w h same = let k = own_tell v a b w same h in record { leaf = k.0; entries = k.1; numbers = k.2 }

pub leaf-live : (v : Bool) (b : Blocks) (w q : ℕ) → IsLeaf v b w → holds q (leaf_numbers b w) ≡ true → is_live b q ≡ true
leaf-live v b w q h m = ((are_live v b w h).live q m).0

pub leaf-once : (v : Bool) (b : Blocks) (w : ℕ) → IsLeaf v b w → are_distinct (leaf_numbers b w) ≡ true
leaf-once v b w h = (are_live v b w h).distinct

pub leaf-words : (v : Bool) (b : Blocks) (w : ℕ) → IsLeaf v b w → IsWordArray (leaf_entries v b w)
leaf-words v b w h = (is_sound v b w h).keys

pub leaf-values : (v : Bool) (b : Blocks) (w : ℕ) → IsLeaf v b w → HasWordValues (leaf_entries v b w)
leaf-values v b w h = (is_sound v b w h).values

pub leaf-zeros : (b : Blocks) (w : ℕ) → IsLeaf false b w → list_all (λ e. e.1 == 0) (leaf_entries false b w) ≡ true
leaf-zeros b w h = (is_sound false b w h).set refl

pub leaf-none : (v : Bool) (b : Blocks) → IsLeaf v b 0 × (leaf_entries v b 0 ≡ []) × (leaf_numbers b 0 ≡ [])
leaf-none v b = only_nothing.nothing v b

pub leaf-empty : (v : Bool) (b : Blocks) (w : ℕ) → IsLeaf v b w → leaf_entries v b w ≡ [] → w ≡ 0
leaf-empty v b w h e = only_nothing.only v b w h e

-- a leaf has at most this many entries for its block
pub leaf-few : (v : Bool) (b : Blocks) (w : ℕ) → IsLeaf v b w → length (leaf_entries v b w) ≤ 256 * length (leaf_numbers b w)
leaf-few v b w h = (are_spare v b w h).entries

-- its reference is no branch's
pub leaf-kind : (v : Bool) (b : Blocks) (w : ℕ) → IsLeaf v b w → nat_lt 3 (kind_part w) ≡ false
leaf-kind v b w h = no_branches v b w h

pub leaf-reference : (v : Bool) (b : Blocks) (w : ℕ) → IsLeaf v b w → is_reference w ≡ true
leaf-reference v b w h = (are_known v b w h).reference

-- the number of its block is small
pub leaf-low : (v : Bool) (b : Blocks) (w q : ℕ) → IsLeaf v b w → holds q (leaf_numbers b w) ≡ true → q < 4294967296
leaf-low v b w q h m = ((are_live v b w h).live q m).1

-- keys that share bytes 0 to 6 with a key
front-shared : (l : Entries ℕ) (key : ℕ) → share_bytes l key ≡ true → ShareFront l (key / 256)
front-shared [] key h = tt
front-shared (e ∷ l) key h = (
  same (e.0 / 256) (key / 256) (left ((e.0 / 256) == (key / 256)) (share_bytes l key) h),
  front-shared l key (right ((e.0 / 256) == (key / 256)) (share_bytes l key) h),
)
  where
    left : (a b : Bool) → (a && b) ≡ true → a ≡ true
    left true b h = refl
    left false b h = h

    right : (a b : Bool) → (a && b) ≡ true → b ≡ true
    right true b h = h
    right false b h = cc

    same : (a b : ℕ) → (a == b) ≡ true → a ≡ b
    same a b e = grind (arith, nat_tests)

pub leaf-wide : (v : Bool) (b : Blocks) (w : ℕ) → IsLeaf v b w → 31 < length (leaf_entries v b w)
    → ShareFront (leaf_entries v b w) ((entry_at (leaf_entries v b w) 0).0 / 256)
leaf-wide v b w h more = front-shared (leaf_entries v b w) (entry_at (leaf_entries v b w) 0).0 (many_share v b w h more)

-- a leaf that cannot take a key has 31 keys, or its keys share bytes 0 to 6
pub leaf-full : (v : Bool) (b : Blocks) (w key : ℕ) → IsLeaf v b w → 0 < length (leaf_entries v b w)
    → CannotTake (kind_of w) (leaf_entries v b w) key
    → (length (leaf_entries v b w) ≡ 31) ⊎ ShareFront (leaf_entries v b w) ((entry_at (leaf_entries v b w) 0).0 / 256)
leaf-full v b w key h some cannot = by (full-or-shared v b w key h some cannot)
  where
    by : (length (leaf_entries v b w) ≡ 31) ⊎ (share_bytes (leaf_entries v b w) (entry_at (leaf_entries v b w) 0).0 ≡ true)
        → (length (leaf_entries v b w) ≡ 31) ⊎ ShareFront (leaf_entries v b w) ((entry_at (leaf_entries v b w) 0).0 / 256)
    by (inl e) = inl e
    by (inr s) = inr (front-shared (leaf_entries v b w) (entry_at (leaf_entries v b w) 0).0 s)

-- the words of its block
pub leaf-space : (v : Bool) (b : Blocks) (w : ℕ) → IsLeaf v b w → words_over b (leaf_numbers b w) ≤ 4 * length (leaf_entries v b w)
leaf-space v b w h = (are_spare v b w h).words

pub leaf-least : (v : Bool) (b : Blocks) (w q : ℕ) → IsLeaf v b w → holds q (leaf_numbers b w) ≡ true → 4 ≤ length (words_of b q)
leaf-least v b w q h m = (are_known v b w h).words q m
