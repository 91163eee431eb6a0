-- What the one block of a leaf determines.
use Rattle.std.proofs.Common.{◌≡◌, ◌≢◌, ℕ, zero, suc, ◌+◌, ◌-◌, ◌*◌, ◌%◌, ◌<◌, ◌≤◌, Bool, true, false, cond}
use Rattle.std.proofs.Common.{◌==◌, List, [], ◌∷◌, length, map, get_or, replicate, Option, Some, None, unwrap_or, ap}
use Rattle.std.proofs.Common.{sym, ◌∙◌, refl, subst, arith, ◌⊎◌, inl, inr}
use Rattle.std.specs.Prelude.{nat_lt}
use Rattle.std.specs.List.{list_all, zip}
use Rattle.std.proofs.lemmas.Bool.Decides.{nat_tests}
use Rattle.judy_arena.specs.Blocks.{Blocks, block, words_of, is_live}
use Rattle.judy_arena.specs.Frame.{holds}
use Rattle.judy_refs.specs.References.{kind_of, kind_of_number, kind_part, block_of}
use Rattle.judy_arena.specs.Totals.{are_distinct, words_over}
use Rattle.judy_refs.specs.declared.Kind.{Kind}
use Rattle.judy_refs.specs.declared.Kind.TheVariants.{LinearLeaf, BitmapLeaf, FullLeaf, LinearBranch, BitmapBranch, FullBranch, Suffix, Bucket}
use Rattle.judy_arena.proofs.lemmas.BlockLaws.{live-words, itself, same_test}
use Rattle.judy_arena.proofs.lemmas.FrameLaws.{frame-stays, holds-one}
use Rattle.judy_bitmap.proofs.lemmas.Each.{Each}
use Rattle.judy_bitmap.proofs.lemmas.MemberLaws.{members-each}
use Rattle.judy_model.specs.Contents.{Entries, pairs}
use Rattle.judy_leaf.specs.Entries.{share_bytes}
use Rattle.judy_leaf.specs.Linear.{leaf_count, linear_entries, linear_keys, linear_values}
use Rattle.judy_leaf.specs.Bytes.{IsBits, leaf_shared, bitmap_bytes, bitmap_values, bitmap_entries, byte_entries, bitmap_size}
use Rattle.judy_leaf.specs.Leaf.{IsLeaf, IsSoundBy, IsSized, CannotTake, leaf_entries, entries_by, leaf_numbers, leaf_words}
use Rattle.judy_leaf.specs.Laws.{IsSameLeaf, OwnBlocksTell, OthersStay, BlockIsLive, BlocksAreLive, ContentIsSoundIn}
use Rattle.judy_leaf.specs.Laws.{ContentIsSound, OnlyNothingIsEmpty, LeavesAreNoBranches, ManyKeysShareBytes, LeafIsSpare}
use Rattle.judy_leaf.specs.Laws.{LeavesAreSpare}
use Rattle.judy_leaf.proofs.LinearLaws.{linear-length}
use Rattle.judy_leaf.proofs.BitmapLaws.{bits-length, bits-few, bits-share}
use Rattle.judy_leaf.proofs.ConvertLaws.{bitmap-words}
use Rattle.judy_leaf.proofs.RoomFacts.{linear-spare, bitmap-spare}
use Rattle.judy_leaf.proofs.lemmas.LeafLaws.{no-block, named, nothing, numbers-of, leaf-live}

-- ---- blocks that are the same

-- the number of a leaf's block is in its list
own-holds : (b : Blocks) (w n : ℕ) → block_of w ≡ Some n → holds n (leaf_numbers b w) ≡ true
own-holds b w n e = ap (holds n) (numbers-of b w n e) ∙ holds-one n n ∙ itself n

-- no other number is in it
own-only : (b : Blocks) (w n q : ℕ) → block_of w ≡ Some n → holds q (leaf_numbers b w) ≡ true → q ≡ n
own-only b w n q e h = same_test q n (sym (holds-one q n) ∙ ap (holds q) (sym (numbers-of b w n e)) ∙ h)

same-words : (v : Bool) (here there : Blocks) (w n : ℕ) → block_of w ≡ Some n → block there n ≡ block here n → IsLeaf v here w → IsSameLeaf v here there w
unfolding IsLeaf leaf_entries leaf_numbers
same-words v here there w n e same leaf =
    let m = named w n e in
    let ws : leaf_words there w ≡ leaf_words here w = ap (λ x. words_of there x) m.1 ∙ ap (λ o. unwrap_or o []) same ∙ ap (λ x. words_of here x) (sym m.1) in
    (subst (λ l. IsSoundBy v (kind_of w) w l) (sym ws) leaf, ap (λ l. entries_by v (kind_of w) l) ws, refl)

pub own_tell : OwnBlocksTell
own_tell v here there w same leaf = by (block_of w) refl
  where
    by : (o : Option ℕ) → block_of w ≡ o → IsSameLeaf v here there w
    by None e =
        let z = no-block w e in
        let a = nothing v here w z in
        let b = nothing v there w z in
        (b.0, b.1 ∙ sym a.1, b.2 ∙ sym a.2)
    by (Some n) e = same-words v here there w n e (same n (own-holds here w n e)) leaf

-- the blocks of a leaf are live
live-at : (v : Bool) (b : Blocks) (w q : ℕ) → IsLeaf v b w → holds q (leaf_numbers b w) ≡ true → is_live b q ≡ true
live-at v b w q leaf h = by (block_of w) refl
  where
    by : (o : Option ℕ) → block_of w ≡ o → is_live b q ≡ true
    by None e = absurd (let z : false ≡ true = ap (holds q) (sym (nothing v b w (no-block w e)).2) ∙ h in cc)
    by (Some n) e = subst (λ x. is_live b x ≡ true) (sym (own-only b w n q e h)) (live-words b n (leaf-live v b w n leaf e))

pub others-stay : OthersStay
others-stay v before after old new w frame leaf apart = (
  own_tell v before after w (λ q h. (frame-stays before after old new q frame (live-at v before w q leaf h) (apart q h)).1) leaf,
  λ q h. (frame-stays before after old new q frame (live-at v before w q leaf h) (apart q h)).0,
)

-- ---- live blocks

small_number : (w n : ℕ) → block_of w ≡ Some n → n < 4294967296
small_number w n e = let m = (named w n e).1 in omega (arith, m)

pub are_live : BlocksAreLive
are_live v b w leaf = by (block_of w) refl
  where
    by : (o : Option ℕ) → block_of w ≡ o → BlockIsLive v b w
    by None e =
        let none : leaf_numbers b w ≡ [] = (nothing v b w (no-block w e)).2 in
        record {
          live = λ q h. absurd (let z : false ≡ true = ap (holds q) (sym none) ∙ h in cc);
          distinct = ap are_distinct none;
          one = subst (λ ns. length ns ≤ 1) (sym none) (omega arith);
        }
    by (Some n) e =
        let own : leaf_numbers b w ≡ n ∷ [] = numbers-of b w n e in
        record {
          live = λ q h. (live-at v b w q leaf h, subst (λ x. x < 4294967296) (sym (own-only b w n q e h)) (small_number w n e));
          distinct = ap are_distinct own;
          one = subst (λ ns. length ns ≤ 1) (sym own) (omega arith);
        }

-- ---- sound entries

all_zero : (ks : List ℕ) (n : ℕ) → list_all (λ (e : ℕ × ℕ). e.1 == 0) (pairs ks (replicate n 0)) ≡ true
all_zero [] n = refl
all_zero (k ∷ ks) zero = refl
all_zero (k ∷ ks) (suc n) = all_zero ks n

linear_zero : (v : Bool) (ws : List ℕ) → v ≡ false → list_all (λ (e : ℕ × ℕ). e.1 == 0) (linear_entries v ws) ≡ true
unfolding linear_entries linear_values
linear_zero true ws h = cc
linear_zero false ws h = all_zero (linear_keys ws) (leaf_count ws)

bitmap_zero : (v : Bool) (ws : List ℕ) → v ≡ false → list_all (λ (e : ℕ × ℕ). e.1 == 0) (bitmap_entries v ws) ≡ true
unfolding bitmap_entries byte_entries
bitmap_zero true ws h = cc
bitmap_zero false ws h = all_zero (map (λ byte. leaf_shared ws + byte) (bitmap_bytes ws)) (leaf_count ws)

empty_sound : (v : Bool) → ContentIsSoundIn v []
empty_sound v = record { keys = (refl, refl); values = refl; set = λ _. refl }

bits_sound : (v : Bool) (ws : List ℕ) → IsBits v ws → ContentIsSoundIn v (bitmap_entries v ws)
bits_sound v ws leaf = record { keys = bitmap-words v ws leaf; values = leaf.values; set = bitmap_zero v ws }

sound_by : (v : Bool) (k : Option Kind) (w : ℕ) (ws : List ℕ) → IsSoundBy v k w ws → ContentIsSoundIn v (entries_by v k ws)
sound_by v None w ws h = empty_sound v
sound_by v (Some LinearLeaf) w ws h = record { keys = h.0.keys; values = h.0.values; set = linear_zero v ws }
sound_by v (Some BitmapLeaf) w ws h = bits_sound v ws h.0.bits
sound_by v (Some FullLeaf) w ws h = bits_sound v ws h.0.bits
sound_by v (Some LinearBranch) w ws h = absurd h
sound_by v (Some BitmapBranch) w ws h = absurd h
sound_by v (Some FullBranch) w ws h = absurd h
sound_by v (Some Suffix) w ws h = absurd h
sound_by v (Some Bucket) w ws h = absurd h

pub is_sound : ContentIsSound
unfolding IsLeaf leaf_entries
is_sound v b w leaf = sound_by v (kind_of w) w (leaf_words b w) leaf

-- ---- how many entries and words

-- a leaf with a block has 1 to 256 keys and at most 4 words a key; if it has more than 31 keys,
-- they share bytes 0 to 6
record IsCounted (v : Bool) (l : Entries ℕ) (ws : List ℕ) : Type 0 where
  some : 0 < length l
  most : length l ≤ 256
  spare : length ws ≤ 4 * length l
  share : 31 < length l → share_bytes l (get_or l 0 (0, 0)).0 ≡ true

first_key : (s : ℕ) (bytes vs : List ℕ) → Each (λ b. b < 256) bytes → s % 256 ≡ 0 → 0 < length (zip (map (λ b. s + b) bytes) vs)
    → (get_or (zip (map (λ b. s + b) bytes) vs) 0 (0, 0)).0 - (get_or (zip (map (λ b. s + b) bytes) vs) 0 (0, 0)).0 % 256 ≡ s
first_key s [] vs each h some = absurd (omega (arith, some))
first_key s (b ∷ bytes) [] each h some = absurd (omega (arith, some))
first_key s (b ∷ bytes) (x ∷ vs) each h some = omega (arith, each.0, h)

first_bits : (v : Bool) (ws : List ℕ) → IsBits v ws → 0 < length (bitmap_entries v ws)
    → (get_or (bitmap_entries v ws) 0 (0, 0)).0 - (get_or (bitmap_entries v ws) 0 (0, 0)).0 % 256 ≡ leaf_shared ws
unfolding bitmap_entries byte_entries
first_bits v ws leaf some = first_key (leaf_shared ws) (bitmap_bytes ws) (bitmap_values v (leaf_count ws) ws)
    (members-each (get_or ws 2 0 ∷ get_or ws 3 0 ∷ get_or ws 4 0 ∷ get_or ws 5 0 ∷ [])) leaf.shared some

bits_counted : (v : Bool) (ws : List ℕ) → IsBits v ws → 8 ≤ leaf_count ws → IsSized (bitmap_size v (leaf_count ws)) ws → IsCounted v (bitmap_entries v ws) ws
bits_counted v ws leaf many sized =
    let n = bits-length v ws leaf in
    let few = bits-few v ws leaf in
    let spare = bitmap-spare v (leaf_count ws) many few in
    record {
      some = omega (arith, n, many);
      most = omega (arith, n, few);
      spare = omega (arith, n, sized, spare);
      share = λ h. bits-share v ws leaf (get_or (bitmap_entries v ws) 0 (0, 0)).0 (first_bits v ws leaf (omega (arith, h)));
    }

counted_by : (v : Bool) (k : Option Kind) (w : ℕ) (ws : List ℕ) → IsSoundBy v k w ws → w ≢ 0 → IsCounted v (entries_by v k ws) ws
counted_by v None w ws h s = absurd (s h)
counted_by v (Some LinearLeaf) w ws h s =
    let n = linear-length v ws h.0 in
    let some = h.0.some in
    let few = h.0.few in
    let sized = h.1 in
    let spare = linear-spare v (leaf_count ws) some few in
    record {
      some = omega (arith, n, some);
      most = omega (arith, n, few);
      spare = omega (arith, n, sized, spare);
      share = λ many.
          absurd (omega (arith, n, few, many));
    }
counted_by v (Some BitmapLeaf) w ws h s = bits_counted v ws h.0.bits h.0.many h.1
counted_by v (Some FullLeaf) w ws h s = let full = h.0.full in bits_counted v ws h.0.bits (omega (arith, full)) h.1
counted_by v (Some LinearBranch) w ws h s = absurd h
counted_by v (Some BitmapBranch) w ws h s = absurd h
counted_by v (Some FullBranch) w ws h s = absurd h
counted_by v (Some Suffix) w ws h s = absurd h
counted_by v (Some Bucket) w ws h s = absurd h

counted : (v : Bool) (b : Blocks) (w n : ℕ) → IsLeaf v b w → block_of w ≡ Some n → IsCounted v (leaf_entries v b w) (words_of b n)
unfolding IsLeaf leaf_entries
counted v b w n leaf e =
    let m = named w n e in
    subst (λ x. IsCounted v (entries_by v (kind_of w) (leaf_words b w)) (words_of b x)) m.1 (counted_by v (kind_of w) w (leaf_words b w) leaf m.0)

-- the words of its block
pub few-words : (v : Bool) (b : Blocks) (w n : ℕ) → IsLeaf v b w → block_of w ≡ Some n → length (words_of b n) ≤ 4 * length (leaf_entries v b w)
few-words v b w n leaf e = (counted v b w n leaf e).spare

pub only_nothing : OnlyNothingIsEmpty
only_nothing = record {
  nothing = λ v b. nothing v b 0 refl;
  only = λ v b w leaf none. by v b w leaf none (block_of w) refl;
}
  where
    by : (v : Bool) (b : Blocks) (w : ℕ) → IsLeaf v b w → leaf_entries v b w ≡ [] → (o : Option ℕ) → block_of w ≡ o → w ≡ 0
    by v b w leaf none None e = no-block w e
    by v b w leaf none (Some n) e = absurd (let c = (counted v b w n leaf e).some in let z = ap length none in omega (arith, c, z))

pub many_share : ManyKeysShareBytes
many_share v b w leaf many = by (block_of w) refl
  where
    by : (o : Option ℕ) → block_of w ≡ o → share_bytes (leaf_entries v b w) (get_or (leaf_entries v b w) 0 (0, 0)).0 ≡ true
    by None e = absurd (let z = ap length (nothing v b w (no-block w e)).1 in omega (arith, z, many))
    by (Some n) e = (counted v b w n leaf e).share many

pub are_spare : LeavesAreSpare
are_spare v b w leaf = by (block_of w) refl
  where
    by : (o : Option ℕ) → block_of w ≡ o → LeafIsSpare v b w
    by None e =
        let z = nothing v b w (no-block w e) in
        let l = ap length z.1 in
        record {
          entries = omega (arith, l);
          words = subst (λ ns. words_over b ns ≤ 4 * length (leaf_entries v b w)) (sym z.2) (omega arith);
        }
    by (Some n) e =
        let own : leaf_numbers b w ≡ n ∷ [] = numbers-of b w n e in
        let c = counted v b w n leaf e in
        let most = c.most in
        let spare = c.spare in
        record {
          entries = subst (λ ns. length (leaf_entries v b w) ≤ 256 * length ns) (sym own) (omega (arith, most));
          words = subst (λ ns. words_over b ns ≤ 4 * length (leaf_entries v b w)) (sym own) (omega (arith, spare));
        }

-- a leaf has at most 256 entries
pub few-entries : (v : Bool) (b : Blocks) (w : ℕ) → IsLeaf v b w → length (leaf_entries v b w) ≤ 256
few-entries v b w leaf = let s = (are_spare v b w leaf).entries in let o = (are_live v b w leaf).one in omega (arith, s, o)

-- ---- no branches

module _ (v : Bool) (w : ℕ) (ws : List ℕ) where
  either : (t : Bool) (x y : Option Kind) → (IsSoundBy v x w ws → w ≡ 0) → (IsSoundBy v y w ws → w ≡ 0) → IsSoundBy v (cond t x y) w ws → w ≡ 0
  either true x y f g h = f h
  either false x y f g h = g h

  skip : (t : Bool) (x y : Option Kind) → t ≡ false → (IsSoundBy v y w ws → w ≡ 0) → IsSoundBy v (cond t x y) w ws → w ≡ 0
  skip true x y e g h = cc
  skip false x y e g h = g h

  other_kind : (k m : ℕ) → m ≤ 3 → nat_lt 3 k ≡ true → (k == m) ≡ false
  other_kind k m h e = grind (arith, nat_tests)

  above_three : (k : ℕ) → nat_lt 3 k ≡ true → IsSoundBy v (kind_of_number k) w ws → w ≡ 0
  above_three k e =
      skip (k == 1) (Some LinearLeaf) _ (other_kind k 1 (omega arith) e)
      (skip (k == 2) (Some BitmapLeaf) _ (other_kind k 2 (omega arith) e)
      (skip (k == 3) (Some FullLeaf) _ (other_kind k 3 (omega arith) e)
      (either (k == 4) (Some LinearBranch) _ (λ h. absurd h)
      (either (k == 5) (Some BitmapBranch) _ (λ h. absurd h)
      (either (k == 6) (Some FullBranch) _ (λ h. absurd h)
      (either (k == 7) (Some Suffix) _ (λ h. absurd h)
      (either (k == 8) (Some Bucket) None (λ h. absurd h) (λ h. h))))))))

pub no_branches : LeavesAreNoBranches
unfolding IsLeaf
no_branches v b w leaf = by (nat_lt 3 (kind_part w)) refl
  where
    by : (t : Bool) → nat_lt 3 (kind_part w) ≡ t → t ≡ false
    by false e = refl
    by true e = absurd (let z : w ≡ 0 = above_three v w (leaf_words b w) (kind_part w) e leaf in
        let f : false ≡ true = ap (λ x. nat_lt 3 (kind_part x)) (sym z) ∙ e in cc)

-- ---- a leaf that cannot take a key

-- a linear leaf that cannot take a key has 31 keys; the keys of another leaf share bytes 0 to 6
pub full-or-shared : (v : Bool) (b : Blocks) (w key : ℕ) → IsLeaf v b w → 0 < length (leaf_entries v b w)
    → CannotTake (kind_of w) (leaf_entries v b w) key
    → (length (leaf_entries v b w) ≡ 31) ⊎ (share_bytes (leaf_entries v b w) (get_or (leaf_entries v b w) 0 (0, 0)).0 ≡ true)
unfolding IsLeaf leaf_entries
full-or-shared v b w key leaf some cannot = by (kind_of w) (leaf_words b w) leaf some cannot
  where
    by : (k : Option Kind) (ws : List ℕ) → IsSoundBy v k w ws → 0 < length (entries_by v k ws) → CannotTake k (entries_by v k ws) key
        → (length (entries_by v k ws) ≡ 31) ⊎ (share_bytes (entries_by v k ws) (get_or (entries_by v k ws) 0 (0, 0)).0 ≡ true)
    by None ws h some cannot = absurd (omega (arith, some))
    by (Some LinearLeaf) ws h some cannot = inl (cannot.1 refl)
    by (Some BitmapLeaf) ws h some cannot = inr (bits-share v ws h.0.bits (get_or (bitmap_entries v ws) 0 (0, 0)).0 (first_bits v ws h.0.bits some))
    by (Some FullLeaf) ws h some cannot = inr (bits-share v ws h.0.bits (get_or (bitmap_entries v ws) 0 (0, 0)).0 (first_bits v ws h.0.bits some))
    by (Some LinearBranch) ws h some cannot = absurd h
    by (Some BitmapBranch) ws h some cannot = absurd h
    by (Some FullBranch) ws h some cannot = absurd h
    by (Some Suffix) ws h some cannot = absurd h
    by (Some Bucket) ws h some cannot = absurd h
