-- How calls on blocks change the leaf that a reference leads to.
use Rattle.std.proofs.Common.{◌≡◌, ◌≢◌, ℕ, ◌<◌, ◌≤◌, Bool, true, false, cond, ◌==◌, List, [], ◌∷◌, length, take}
use Rattle.std.proofs.Common.{drop, Option, Some, None, unwrap_or, is_some, ap, sym, ◌∙◌, refl, subst, arith}
use lib.Seq.{take_at}
use Rattle.std.proofs.lemmas.Bool.Decides.{nat_tests}
use Rattle.judy_arena.specs.Blocks.{Blocks, ArenaState, count_up, words_of, is_live, put, without}
use Rattle.judy_arena.specs.LendingBlocks.{written_over}
use Rattle.judy_arena.specs.Frame.{holds, Frame}
use Rattle.judy_arena.specs.Room.{room}
use Rattle.judy_refs.specs.References.{kind_of, block_of, number_of}
use Rattle.judy_refs.specs.declared.Kind.{Kind}
use Rattle.judy_refs.specs.declared.Kind.TheVariants.{LinearLeaf, BitmapLeaf, FullLeaf, LinearBranch, BitmapBranch, FullBranch, Suffix, Bucket}
use Rattle.judy_arena.proofs.lemmas.BlockLaws.{live-words, words-put, itself, same_test}
use Rattle.judy_arena.proofs.lemmas.FrameLaws.{frame-same, frame-alloc, frame-release, frame-write, holds-one}
use Rattle.judy_model.specs.Contents.{Entries, word_order, has_key}
use Rattle.judy_leaf.specs.Leaf.{IsLeaf, IsSoundBy, IsSized, CannotTake, leaf_entries, entries_by}
use Rattle.judy_leaf.specs.Leaf.{leaf_numbers, one_number, leaf_words}
use Rattle.judy_leaf.specs.Calls.{BecomesIn, PutsIn, RemovesIn}
use Rattle.judy_leaf.specs.declared.answers.Put.{Put}
use Rattle.judy_leaf.specs.declared.answers.Put.TheVariants as put
use Rattle.judy_leaf.specs.declared.answers.Removed.{Removed}
use Rattle.judy_leaf.specs.Linear.{leaf_count, IsLinear}
use Rattle.judy_leaf.specs.Entries.{share_bytes}
use Rattle.judy_leaf.specs.Bytes.{IsBits, IsFull, bitmap_entries, bitmap_size}
use Rattle.judy_leaf.proofs.BitmapLaws.{bits-few, bits-live, bits-length}
use Rattle.judy_leaf.proofs.LinearLaws.{linear-live, linear-length}

from_zero : (w : ℕ) → (w == 0) ≡ true → w ≡ 0
from_zero w h = grind (arith, nat_tests)

from_other : (w : ℕ) → (w == 0) ≡ false → w ≢ 0
from_other w h = grind (arith, nat_tests)

none_some : {A : Type 0} (x : A) → None ≡ Some x → ⊥
none_some x h = let e : false ≡ true = ap is_some h in cc

-- a reference to no block is 0
pub no-block : (w : ℕ) → block_of w ≡ None → w ≡ 0
no-block w = elim (w == 0) as (λ t. (w == 0) ≡ t → cond t None (Some (number_of w)) ≡ None → w ≡ 0) [
  | true ↦ λ e h. from_zero w e
  | false ↦ λ e h. absurd (none_some (number_of w) (sym h))
] refl

-- a reference to a block is not 0, and names it
pub named : (w n : ℕ) → block_of w ≡ Some n → (w ≢ 0) × (number_of w ≡ n)
named w n = elim (w == 0) as (λ t. (w == 0) ≡ t → cond t None (Some (number_of w)) ≡ Some n → (w ≢ 0) × (number_of w ≡ n)) [
  | true ↦ λ e h. absurd (none_some n h)
  | false ↦ λ e h. (from_other w e, ap (λ o. unwrap_or o 0) h)
] refl

-- the empty reference leads to the empty leaf
pub nothing : (v : Bool) (b : Blocks) (w : ℕ) → w ≡ 0 → IsLeaf v b w × (leaf_entries v b w ≡ []) × (leaf_numbers b w ≡ [])
unfolding IsLeaf leaf_entries leaf_numbers
nothing v b w z = (
  subst (λ k. IsSoundBy v k w (leaf_words b w)) (sym (ap kind_of z)) z,
  ap (λ k. entries_by v k (leaf_words b w)) (ap kind_of z),
  ap (λ x. one_number (block_of x)) z,
)

-- a reference of a kind to a block
module _ (v : Bool) (b : Blocks) (w n : ℕ) (k : Kind) (kind : kind_of w ≡ Some k) (block : block_of w ≡ Some n) where
  number : number_of w ≡ n
  number = (named w n block).1

  pub leaf-made : IsSoundBy v (Some k) w (words_of b n) → IsLeaf v b w
  unfolding IsLeaf
  leaf-made sound = subst (λ o. IsSoundBy v o w (leaf_words b w)) (sym kind) (subst (λ x. IsSoundBy v (Some k) w (words_of b x)) (sym number) sound)

  pub leaf-sound : IsLeaf v b w → IsSoundBy v (Some k) w (words_of b n)
  unfolding IsLeaf
  leaf-sound leaf = subst (λ x. IsSoundBy v (Some k) w (words_of b x)) number (subst (λ o. IsSoundBy v o w (leaf_words b w)) kind leaf)

  pub entries-made : leaf_entries v b w ≡ entries_by v (Some k) (words_of b n)
  unfolding leaf_entries
  entries-made = ap (λ o. entries_by v o (leaf_words b w)) kind ∙ ap (λ x. entries_by v (Some k) (words_of b x)) number

  pub numbers-made : leaf_numbers b w ≡ n ∷ []
  unfolding leaf_numbers
  numbers-made = ap one_number block

-- the leaf became one of this kind in this block
pub becomes : (v : Bool) (old new : ArenaState) (ns : List ℕ) (l : Entries ℕ) (r n : ℕ) (k : Kind) → kind_of r ≡ Some k
    → block_of r ≡ Some n → Frame old.blocks new.blocks ns (n ∷ []) → new.refusals ≡ old.refusals
    → IsSoundBy v (Some k) r (words_of new.blocks n) → entries_by v (Some k) (words_of new.blocks n) ≡ l → BecomesIn v old new ns l r
becomes v old new ns l r n k kind block frame same sound is = record {
  leaf = leaf-made v new.blocks r n k kind block sound;
  entries = entries-made v new.blocks r n k kind block ∙ is;
  frame = subst (Frame old.blocks new.blocks ns) (sym (numbers-made v new.blocks r n k kind block)) frame;
  refusals = same;
}

-- the leaf is gone
pub emptied : (v : Bool) (old new : ArenaState) (n : ℕ) (l : Entries ℕ) → l ≡ [] → new.blocks ≡ without old.blocks n
    → new.refusals ≡ old.refusals → BecomesIn v old new (n ∷ []) l 0
emptied v old new n l none gone same =
    let z = nothing v new.blocks 0 refl in
    record {
      leaf = z.0;
      entries = z.1 ∙ sym none;
      frame = subst (Frame old.blocks new.blocks (n ∷ [])) (sym z.2) (subst (λ b. Frame old.blocks b (n ∷ []) []) (sym gone) (frame-release old.blocks n));
      refusals = same;
    }

-- words overwritten by the same number of words
pub written-all : (old w : List ℕ) → length w ≡ length old → written_over old w ≡ w
written-all old w e = take_at w (drop (length w) old) (length old) e

-- an arena whose block was lent and written
abbrev pub lent : ArenaState → ℕ → List ℕ → ArenaState
lent s n w = record s { blocks = put s.blocks n (written_over (words_of s.blocks n) w) }

pub lent-words : (s : ArenaState) (n : ℕ) (w : List ℕ) → length w ≡ length (words_of s.blocks n) → words_of (lent s n w).blocks n ≡ w
lent-words s n w e = words-put s.blocks n (written_over (words_of s.blocks n) w) ∙ written-all (words_of s.blocks n) w e

one_holds : (n : ℕ) → holds n (n ∷ []) ≡ true
one_holds n = holds-one n n ∙ itself n

-- a write of the block that came
pub write-frame : (a b c : Blocks) (ns : List ℕ) (n : ℕ) (ws : List ℕ) → Frame a b ns (n ∷ []) → c ≡ put b n ws → Frame a c ns (n ∷ [])
write-frame a b c ns n ws f e = frame-write a b c ns (n ∷ []) n ws f (one_holds n) e

-- the frame before any change
pub here-frame : (a : Blocks) (n : ℕ) → 0 < length (words_of a n) → Frame a a (n ∷ []) (n ∷ [])
here-frame a n some = frame-same a (n ∷ []) (λ q h. ap (is_live a) (same_test q n (sym (holds-one q n) ∙ h)) ∙ live-words a n some)

-- a block was taken
pub taken-frame : (a b : Blocks) (n : ℕ) (ws : List ℕ) → is_live a n ≡ false → b ≡ put a n ws → Frame a b [] (n ∷ [])
taken-frame a b n ws dead e = subst (λ x. Frame a x [] (n ∷ [])) (sym e) (frame-alloc a n ws dead)

-- the leaf became what was written into this block
pub lent-becomes : (v : Bool) (old mid : ArenaState) (ns : List ℕ) (l : Entries ℕ) (r n : ℕ) (w : List ℕ) (k : Kind)
    → kind_of r ≡ Some k → block_of r ≡ Some n → Frame old.blocks mid.blocks ns (n ∷ []) → mid.refusals ≡ old.refusals
    → length w ≡ length (words_of mid.blocks n) → IsSoundBy v (Some k) r w → entries_by v (Some k) w ≡ l → BecomesIn v old (lent mid n w) ns l r
lent-becomes v old mid ns l r n w k kind block frame same size sound is =
    let e = lent-words mid n w size in
    becomes v old (lent mid n w) ns l r n k kind block (write-frame old.blocks mid.blocks (lent mid n w).blocks ns n
    (written_over (words_of mid.blocks n) w) frame refl) same
    (subst (IsSoundBy v (Some k) r) (sym e) sound) (ap (entries_by v (Some k)) e ∙ is)

-- the leaf became what was written into this block, which was then cut
pub cut-becomes : (v : Bool) (old mid new : ArenaState) (ns : List ℕ) (l : Entries ℕ) (r n m : ℕ) (w : List ℕ) (k : Kind)
    → kind_of r ≡ Some k → block_of r ≡ Some n → Frame old.blocks mid.blocks ns (n ∷ []) → mid.refusals ≡ old.refusals
    → words_of mid.blocks n ≡ w → new.blocks ≡ put mid.blocks n (take m (words_of mid.blocks n)) → new.refusals ≡ mid.refusals
    → IsSoundBy v (Some k) r (take m w) → entries_by v (Some k) (take m w) ≡ l → BecomesIn v old new ns l r
cut-becomes v old mid new ns l r n m w k kind block frame same is cut kept sound spelt =
    let e : words_of new.blocks n ≡ take m w = ap (λ b. words_of b n) cut ∙ words-put mid.blocks n (take m (words_of mid.blocks n)) ∙ ap (take m) is in
    becomes v old new ns l r n k kind block (write-frame old.blocks mid.blocks new.blocks ns n (take m (words_of mid.blocks n)) frame cut) (kept ∙ same)
    (subst (IsSoundBy v (Some k) r) (sym e) sound) (ap (entries_by v (Some k)) e ∙ spelt)

-- a reference to a bitmap leaf of this many keys is of the right kind
pub record IsKind (v : Bool) (r count : ℕ) : Type 0 where
  pub kind : Kind
  pub is : kind_of r ≡ Some kind
  pub sound : (ws : List ℕ) → IsBits v ws → leaf_count ws ≡ count → 8 ≤ count → IsSized (bitmap_size v (leaf_count ws)) ws → IsSoundBy v (Some kind) r ws
  pub entries : (ws : List ℕ) → entries_by v (Some kind) ws ≡ bitmap_entries v ws

pub bits-kind : (v : Bool) (r count : ℕ) → (count ≡ 256 → kind_of r ≡ Some FullLeaf) → ((count ≡ 256 → ⊥) → kind_of r ≡ Some BitmapLeaf) → IsKind v r count
bits-kind v r count full other = by (count == 256) refl
  where
    is_full : (a b : ℕ) → (a == b) ≡ true → a ≡ b
    is_full a b h = grind (arith, nat_tests)

    not_full : (a b : ℕ) → (a == b) ≡ false → a ≡ b → ⊥
    not_full a b h e = grind (arith, nat_tests)

    by : (t : Bool) → (count == 256) ≡ t → IsKind v r count
    by true e = record {
      kind = FullLeaf;
      is = full (is_full count 256 e);
      sound = λ ws leaf c many sized.
          (record { bits = leaf; full = c ∙ is_full count 256 e }, sized);
      entries = λ ws. refl;
    }
    by false e = record {
      kind = BitmapLeaf;
      is = other (not_full count 256 e);
      sound = λ ws leaf c many sized. let few = bits-few v ws leaf in
          let ne : count ≢ 256 = not_full count 256 e in (record { bits = leaf; many = omega (arith, c); few = omega arith }, sized);
      entries = λ ws. refl;
    }

-- ---- what a leaf with a block is

bits_some : (v : Bool) (k : Option Kind) (w : ℕ) (ws : List ℕ) → IsSoundBy v k w ws → w ≢ 0 → (k ≡ Some LinearLeaf → ⊥)
    → IsBits v ws × (8 ≤ leaf_count ws) × (entries_by v k ws ≡ bitmap_entries v ws) × IsSized (bitmap_size v (leaf_count ws)) ws
bits_some v None w ws h s o = absurd (s h)
bits_some v (Some LinearLeaf) w ws h s o = absurd (o refl)
bits_some v (Some BitmapLeaf) w ws h s o = (h.0.bits, h.0.many, refl, h.1)
bits_some v (Some FullLeaf) w ws h s o = let f = h.0.full in (h.0.bits, omega (arith, f), refl, h.1)
bits_some v (Some LinearBranch) w ws h s o = absurd h
bits_some v (Some BitmapBranch) w ws h s o = absurd h
bits_some v (Some FullBranch) w ws h s o = absurd h
bits_some v (Some Suffix) w ws h s o = absurd h
bits_some v (Some Bucket) w ws h s o = absurd h

-- a leaf with a block that is not linear is one of bits
pub leaf-bits : (v : Bool) (b : Blocks) (w n : ℕ) → IsLeaf v b w → block_of w ≡ Some n → (kind_of w ≡ Some LinearLeaf → ⊥)
    → IsBits v (words_of b n) × (8 ≤ leaf_count (words_of b n)) × (leaf_entries v b w ≡ bitmap_entries v (words_of b n))
    × IsSized (bitmap_size v (leaf_count (words_of b n))) (words_of b n)
unfolding IsLeaf leaf_entries
leaf-bits v b w n leaf block other =
    let m = named w n block in
    subst (λ x. IsBits v (words_of b x) × (8 ≤ leaf_count (words_of b x))
    × (entries_by v (kind_of w) (leaf_words b w) ≡ bitmap_entries v (words_of b x))
    × IsSized (bitmap_size v (leaf_count (words_of b x))) (words_of b x)) m.1
    (bits_some v (kind_of w) w (leaf_words b w) leaf m.0 other)

-- the numbers of a leaf with a block
pub numbers-of : (b : Blocks) (w n : ℕ) → block_of w ≡ Some n → leaf_numbers b w ≡ n ∷ []
unfolding leaf_numbers
numbers-of b w n block = ap one_number block

-- a linear leaf, without the size of its block
pub leaf-linear : (v : Bool) (b : Blocks) (w n : ℕ) → kind_of w ≡ Some LinearLeaf → block_of w ≡ Some n → IsLeaf v b w → IsLinear v (words_of b n)
leaf-linear v b w n kind block leaf = (leaf-sound v b w n LinearLeaf kind block leaf).0

-- the results, stated for the leaf instead of its block
pub puts-at : (v : Bool) (old new : ArenaState) (k j : Option Kind) (l m : Entries ℕ) (ns ms : List ℕ) (key value : ℕ) (r : Put) → k ≡ j → l ≡ m → ns ≡ ms
    → PutsIn v old new k l ns key value r → PutsIn v old new j m ms key value r
puts-at v old new k j l m ns ms key value r e f g h =
    subst (λ x. PutsIn v old new j m x key value r) g (subst (λ x. PutsIn v old new j x ns key value r) f
    (subst (λ x. PutsIn v old new x l ns key value r) e h))

pub removes-at : (v : Bool) (old new : ArenaState) (l m : Entries ℕ) (ns ms : List ℕ) (key : ℕ) (r : Removed) → l ≡ m → ns ≡ ms
    → RemovesIn v old new l ns key r → RemovesIn v old new m ms key r
removes-at v old new l m ns ms key r f g h = subst (λ x. RemovesIn v old new m x key r) g (subst (λ x. RemovesIn v old new x ns key r) f h)

-- a key that a leaf of bits cannot take, no other leaf except a linear one can take
takes-other : (k : Option Kind) (l : Entries ℕ) (key : ℕ) → (CannotTake (Some BitmapLeaf) l key → ⊥) → CannotTake k l key → ⊥
takes-other k l key h e = h (e.0, λ q. absurd (let z = q in cc))

-- what holds of a bitmap leaf holds of every kind except the linear
pub puts-other : (v : Bool) (old new : ArenaState) (k : Option Kind) (l : Entries ℕ) (ns : List ℕ) (key value : ℕ) (r : Put) → (k ≡ Some LinearLeaf → ⊥)
    → PutsIn v old new (Some BitmapLeaf) l ns key value r → PutsIn v old new k l ns key value r
puts-other v old new k l ns key value (put.Done r) o h = (h.0, takes-other k l key h.1, h.2)
puts-other v old new k l ns key value (put.Present x) o h = h
puts-other v old new k l ns key value put.Split o h = (h.0, (h.1.0, λ e. absurd (o e)), h.2)
puts-other v old new k l ns key value put.NoMemory o h = (h.0, takes-other k l key h.1, h.2)

-- a leaf whose keys share bytes 0 to 6 with the key has room for it
pub takes-shared : (k : Option Kind) (l : Entries ℕ) (key : ℕ) → share_bytes l key ≡ true → CannotTake k l key → ⊥
takes-shared k l key h e = let z : true ≡ false = sym h ∙ e.0 in cc

-- so does a linear leaf of fewer than 31 keys
pub takes-few : (l : Entries ℕ) (key n : ℕ) → length l ≡ n → n < 31 → CannotTake (Some LinearLeaf) l key → ⊥
takes-few l key n e h c = let z = c.1 refl in omega (arith, z, e, h)

-- the empty leaf becomes a leaf of one key
pub first-puts : (v : Bool) (old new : ArenaState) (w key value r : ℕ) → w ≡ 0 → BecomesIn v old new [] ((key, value) ∷ []) r
    → PutsIn v old new (kind_of w) (leaf_entries v old.blocks w) (leaf_numbers old.blocks w) key value (put.Done r)
first-puts v old new w key value r z h =
    let e = nothing v old.blocks w z in
    puts-at v old new None (kind_of w) [] _ [] _ key value (put.Done r) (sym (ap kind_of z)) (sym e.1) (sym e.2) (refl, takes-shared None [] key refl, h)

pub first-refused : (v : Bool) (old new : ArenaState) (w key value : ℕ) → w ≡ 0 → (new.blocks ≡ old.blocks)
    → (new.refusals ≡ count_up old.refusals) → PutsIn v old new (kind_of w) (leaf_entries v old.blocks w)
    (leaf_numbers old.blocks w) key value put.NoMemory
first-refused v old new w key value z same counted =
    let e = nothing v old.blocks w z in
    puts-at v old new None (kind_of w) [] _ [] _ key value put.NoMemory (sym (ap kind_of z)) (sym e.1) (sym e.2)
    (refl, takes-shared None [] key refl, (same, counted))

live_some : (v : Bool) (k : Option Kind) (w : ℕ) (ws : List ℕ) → IsSoundBy v k w ws → w ≢ 0 → 0 < length ws
live_some v None w ws h s = absurd (s h)
live_some v (Some LinearLeaf) w ws h s = linear-live v ws h.0
live_some v (Some BitmapLeaf) w ws h s = bits-live v ws h.0.bits
live_some v (Some FullLeaf) w ws h s = bits-live v ws h.0.bits
live_some v (Some LinearBranch) w ws h s = absurd h
live_some v (Some BitmapBranch) w ws h s = absurd h
live_some v (Some FullBranch) w ws h s = absurd h
live_some v (Some Suffix) w ws h s = absurd h
live_some v (Some Bucket) w ws h s = absurd h

-- the block of a leaf has words
pub leaf-live : (v : Bool) (b : Blocks) (w n : ℕ) → IsLeaf v b w → block_of w ≡ Some n → 0 < length (words_of b n)
unfolding IsLeaf
leaf-live v b w n leaf block =
    let m = named w n block in
    subst (λ x. 0 < length (words_of b x)) m.1 (live_some v (kind_of w) w (leaf_words b w) leaf m.0)

length_some : (v : Bool) (k : Option Kind) (w : ℕ) (ws : List ℕ) → IsSoundBy v k w ws → w ≢ 0 → length (entries_by v k ws) ≡ leaf_count ws
length_some v None w ws h s = absurd (s h)
length_some v (Some LinearLeaf) w ws h s = linear-length v ws h.0
length_some v (Some BitmapLeaf) w ws h s = bits-length v ws h.0.bits
length_some v (Some FullLeaf) w ws h s = bits-length v ws h.0.bits
length_some v (Some LinearBranch) w ws h s = absurd h
length_some v (Some BitmapBranch) w ws h s = absurd h
length_some v (Some FullBranch) w ws h s = absurd h
length_some v (Some Suffix) w ws h s = absurd h
length_some v (Some Bucket) w ws h s = absurd h

-- a leaf has as many entries as its first word says
pub leaf-length : (v : Bool) (b : Blocks) (w n : ℕ) → IsLeaf v b w → block_of w ≡ Some n → length (leaf_entries v b w) ≡ leaf_count (words_of b n)
unfolding IsLeaf leaf_entries
leaf-length v b w n leaf block =
    let m = named w n block in
    subst (λ x. length (entries_by v (kind_of w) (leaf_words b w)) ≡ leaf_count (words_of b x)) m.1 (length_some v (kind_of w) w (leaf_words b w) leaf m.0)

-- a full leaf has a key for each byte
pub full-length : (v : Bool) (b : Blocks) (w : ℕ) → kind_of w ≡ Some FullLeaf → IsLeaf v b w → length (leaf_entries v b w) ≡ 256
unfolding IsLeaf leaf_entries
full-length v b w kind leaf = by (kind_of w) kind leaf
  where
    by : (k : Option Kind) → k ≡ Some FullLeaf → IsSoundBy v k w (leaf_words b w) → length (entries_by v k (leaf_words b w)) ≡ 256
    by k is sound = rw is (let s : IsFull v (leaf_words b w) × IsSized (bitmap_size v (leaf_count (leaf_words b w)))
        (leaf_words b w) = subst (λ k. IsSoundBy v k w (leaf_words b w)) is sound in bits-length v (leaf_words b w) s.0.bits ∙ s.0.full)

-- ---- a value written in a leaf of bits, whose kind stays

-- the kind of a leaf of bits, which also fits other words with the same count
pub record Stays (v : Bool) (k : Option Kind) (w : ℕ) (ws : List ℕ) : Type 0 where
  pub kind : Kind
  pub is : k ≡ Some kind
  pub sound : IsSoundBy v (Some kind) w ws
  pub entries : entries_by v (Some kind) ws ≡ bitmap_entries v ws

same_size : (v : Bool) (old ws : List ℕ) → leaf_count ws ≡ leaf_count old → length ws ≡ length old
    → IsSized (bitmap_size v (leaf_count old)) old → IsSized (bitmap_size v (leaf_count ws)) ws
same_size v old ws count size h = size ∙ h ∙ ap (λ m. room (bitmap_size v m)) (sym count)

stays_some : (v : Bool) (k : Option Kind) (w : ℕ) (old ws : List ℕ) → IsSoundBy v k w old → w ≢ 0 → (k ≡ Some LinearLeaf → ⊥)
    → IsBits v ws → leaf_count ws ≡ leaf_count old → length ws ≡ length old → Stays v k w ws
stays_some v None w old ws h s o leaf count size = absurd (s h)
stays_some v (Some LinearLeaf) w old ws h s o leaf count size = absurd (o refl)
stays_some v (Some BitmapLeaf) w old ws h s o leaf count size =
    record {
      kind = BitmapLeaf;
      is = refl;
      sound = (
        record { bits = leaf; many = subst (λ m. 8 ≤ m) (sym count) h.0.many; few = subst (λ m. m ≤ 255) (sym count) h.0.few },
        same_size v old ws count size h.1,
      );
      entries = refl;
    }
stays_some v (Some FullLeaf) w old ws h s o leaf count size =
    record {
      kind = FullLeaf;
      is = refl;
      sound = (
        record { bits = leaf; full = count ∙ h.0.full },
        same_size v old ws count size
            h.1,
      );
      entries = refl;
    }
stays_some v (Some LinearBranch) w old ws h s o leaf count size = absurd h
stays_some v (Some BitmapBranch) w old ws h s o leaf count size = absurd h
stays_some v (Some FullBranch) w old ws h s o leaf count size = absurd h
stays_some v (Some Suffix) w old ws h s o leaf count size = absurd h
stays_some v (Some Bucket) w old ws h s o leaf count size = absurd h

bits-stay : (v : Bool) (b : Blocks) (w n : ℕ) (ws : List ℕ) → IsLeaf v b w → block_of w ≡ Some n
    → (kind_of w ≡ Some LinearLeaf → ⊥) → IsBits v ws → leaf_count ws ≡ leaf_count (words_of b n) → length ws ≡ length
    (words_of b n) → Stays v (kind_of w) w ws
unfolding IsLeaf
bits-stay v b w n ws leaf block other bits count size =
    let m = named w n block in
    stays_some v (kind_of w) w (leaf_words b w) ws leaf m.0 other bits (count ∙ ap (λ x. leaf_count (words_of b x)) (sym m.1))
    (size ∙ ap (λ x. length (words_of b x)) (sym m.1))

-- the words of a leaf were written in its block
pub rewritten : (v : Bool) (old : ArenaState) (w n : ℕ) (ws : List ℕ) (l : Entries ℕ) (k : Kind) → kind_of w ≡ Some k
    → IsLeaf v old.blocks w → block_of w ≡ Some n → length ws ≡ length (words_of old.blocks n) → IsSoundBy v (Some k) w ws
    → entries_by v (Some k) ws ≡ l
    → BecomesIn v old (lent old n ws) (leaf_numbers old.blocks w) l w
rewritten v old w n ws l k kind leaf block size sound is =
    subst (λ ns. BecomesIn v old (lent old n ws) ns l w) (sym (numbers-of old.blocks w n block))
    (lent-becomes v old old (n ∷ []) l w n ws k kind block (here-frame old.blocks n (leaf-live v old.blocks w n leaf block)) refl size sound is)

pub rewritten-bits : (v : Bool) (old : ArenaState) (w n : ℕ) (ws : List ℕ) (l : Entries ℕ) → IsLeaf v old.blocks w
    → block_of w ≡ Some n → (kind_of w ≡ Some LinearLeaf → ⊥) → length ws ≡ length (words_of old.blocks n) → IsBits v ws
    → leaf_count ws ≡ leaf_count (words_of old.blocks n) → bitmap_entries v ws ≡ l
    → BecomesIn v old (lent old n ws) (leaf_numbers old.blocks w) l w
rewritten-bits v old w n ws l leaf block other size bits count is =
    let s = bits-stay v old.blocks w n ws leaf block other bits count size in
    rewritten v old w n ws l s.kind s.is leaf block size s.sound (s.entries ∙ is)

-- an array with a key has a block
pub empty-lacks : (v : Bool) (b : Blocks) (w key : ℕ) → has_key word_order (leaf_entries v b w) key ≡ true → block_of w ≡ None → ⊥
empty-lacks v b w key h z = let e : false ≡ true = sym (ap (λ l. has_key word_order l key) (nothing v b w (no-block w z)).1) ∙ h in cc
