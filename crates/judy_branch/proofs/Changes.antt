-- A branch whose block was written, or gave way to another.
use Rattle.std.proofs.Common.{◌≡◌, ◌≢◌, ℕ, zero, suc, ◌+◌, ◌/◌, ◌%◌, ◌^◌, ◌<◌, ◌≤◌, Bool, true, false, cond, ◌==◌, List, [], ◌∷◌, take, drop, set, length}
use Rattle.std.proofs.Common.{get_or, Option, Some, None, T, ap, sym, ◌∙◌, refl, subst, arith, length-drop, length-set, get_or-set_same, get_or-set_other}
use Rattle.std.specs.Prelude.{is_some, IsTrue, nat_lt}
use Rattle.std.specs.List.{list_all}
use Rattle.judy_bitmap.specs.ByteSets.{members}
use Rattle.judy_branch.specs.Packed.{unpacked}
use Rattle.std.proofs.lemmas.List.{take_at, length-take-le, get_or-take, get_or-drop, drop-set-lt}
use Rattle.std.specs.Cmp.{nat_cmp_total}
use Rattle.std.specs.FinMap.{is_sorted}
use Rattle.std.specs.FinMap.Entries.{length-put, length_without}
use Rattle.judy_arena.specs.Blocks.{Blocks, block, words_of, put, without}
use Rattle.judy_refs.specs.References.{number_of, is_reference}
use Rattle.judy_arena.specs.Frame.{Frame}
use Rattle.judy_arena.specs.LendingBlocks.{written_over}
use Rattle.judy_arena.specs.Room.{room}
use Rattle.judy_arena.proofs.lemmas.BlockLaws.{live-words, same_blocks, block-put, block-without, words-put}
use Rattle.judy_arena.proofs.lemmas.FrameLaws.{frame-put, frame-release}
use Rattle.judy_arena.proofs.lemmas.RoomLaws.{room-mono}
use Rattle.judy_model.specs.Contents.{Entries, word_order, has_key, with_entry, without_key, pairs}
use Rattle.judy_model.proofs.lemmas.TestLemmas.{and_right, and_left}
use Rattle.judy_branch.specs.declared.shape.Shape.{Shape}
use Rattle.judy_branch.specs.declared.shape.Shape.TheVariants.{Linear, Bitmap, Full}
use Rattle.judy_branch.specs.Children.{numbered, child_bytes, refs_in, bitmap_in, IsCounted, is_child, is_child_entry, count_in}
use Rattle.judy_branch.specs.Children.{level_in, prefix_in, children_in, most, least, used_words, shape_of, HasChildRoom, IsRoom, IsLaid}
use Rattle.judy_branch.specs.Children.{IsShaped, IsBuilt}
use Rattle.judy_branch.specs.Branch.{IsBranch, IsBranchOf, View, branch_words, branch_view, branch_number, view_in, with_child, without_child}
use Rattle.judy_branch.specs.Written.{BranchBecomes, IsMoved}
use Rattle.judy_branch.proofs.Taking.{only-child, cut-moved}
use Rattle.judy_branch.proofs.Shapes.{full-value}
use Rattle.judy_branch.proofs.Branches.{is-shaped, view-is, child-reference}
use Rattle.judy_branch.proofs.Lists.{laid-count, used-some, used-mono}
use Rattle.judy_branch.proofs.Rooms.{room-same, room-covers}
use Rattle.judy_branch.proofs.Starting.{built-branch}

-- ---- how many children

pub length-with : (es : Entries ℕ) (k x : ℕ) → T (is_sorted word_order es) → length (with_entry word_order es k x) ≡ cond
    (has_key word_order es k) (length es) (length es + 1)
length-with es k x s = length-put word_order nat_cmp_total k x es s

pub no-fewer : (es : Entries ℕ) (k x : ℕ) → is_sorted word_order es ≡ true → length es ≤ length (with_entry word_order es k x)
no-fewer es k x s =
    let e = length-with es k x (subst T (sym s) tt) in
    let h : length es ≤ cond (has_key word_order es k) (length es) (length es + 1) = elim (has_key word_order es k) as
    (λ t. length es ≤ cond t (length es) (length es + 1)) [ true ↦ omega arith | false ↦ omega arith ] in
    omega arith

numbered_few : (k : ℕ) (ws : List ℕ) → length (numbered k ws) ≤ length ws
numbered_few k [] = omega arith
numbered_few k (w ∷ ws) =
    let rest = numbered_few (suc k) ws in
    elim (w == 0) as (λ t. length (cond t (numbered (suc k) ws) ((k, w) ∷ numbered (suc k) ws)) ≤ suc (length ws)) [ true ↦ omega arith | false ↦ omega arith ]

numbered_fewer : (k i : ℕ) (ws : List ℕ) → i < length ws → (get_or ws i 0 == 0) ≡ true → length (numbered k ws) < length ws
numbered_fewer k i [] h z = absurd (omega arith)
numbered_fewer k zero (w ∷ ws) h z =
    let rest = numbered_few (suc k) ws in
    let e = ap (λ t. length (cond t (numbered (suc k) ws) ((k, w) ∷ numbered (suc k) ws))) z in
    omega arith
numbered_fewer k (suc i) (w ∷ ws) h z =
    let rest = numbered_fewer (suc k) i ws (omega arith) z in
    elim (w == 0) as (λ t. length (cond t (numbered (suc k) ws) ((k, w) ∷ numbered (suc k) ws)) < suc (length ws)) [ true ↦ omega arith | false ↦ omega arith ]

zero_word : (w : ℕ) → is_some (cond (w == 0) None (Some w)) ≡ false → (w == 0) ≡ true
zero_word w h = by_test (w == 0) h
  where
    by_test : (t : Bool) → is_some (cond t None (Some w)) ≡ false → t ≡ true
    by_test true h = refl
    by_test false h = sym h

-- a full branch that lacks a byte has room for it
full_room : (ws : List ℕ) (k : ℕ) → IsLaid Full ws → has_key word_order (children_in Full ws) k ≡ false → k < 256 → count_in ws < 256
unfolding children_in
full_room ws k laid absent small =
    let z = zero_word (get_or ws (3 + k) 0) (sym (ap is_some (full-value ws k small)) ∙ absent) in
    let e : get_or (take 256 (drop 3 ws)) k 0 ≡ get_or ws (3 + k) 0 = get_or-take 256 (drop 3 ws) k 0 small ∙ get_or-drop 3 ws k 0 in
    let room = laid.room in
    let l : length (take 256 (drop 3 ws)) ≡ 256 = length-take-le 256 (drop 3 ws) (omega (arith, length-drop 3 ws)) in
    let f = numbered_fewer 0 k (take 256 (drop 3 ws)) (omega arith) (ap (λ w. w == 0) e ∙ z) in
    let c = laid.counted in
    omega arith

pub room-for : (s : Shape) (ws : List ℕ) (k : ℕ) → IsLaid s ws → HasChildRoom s ws → has_key word_order (children_in s ws) k ≡ false
    → k < 256 → (count_in ws < most s) × (used_words s (count_in ws + 1) ≤ length ws)
room-for Linear ws k laid room absent small = let h = room.1 in (room.0, omega arith)
room-for Bitmap ws k laid room absent small = let h = room.1 in (room.0, omega arith)
room-for Full ws k laid room absent small = (full_room ws k laid absent small, laid.room)

-- ---- a branch whose block was written

-- a block that was lent, and written over by as many words
pub lent-words : (b : Blocks) (n : ℕ) (ws : List ℕ) → length ws ≡ length (words_of b n) → words_of (put b n (written_over (words_of b n) ws)) n ≡ ws
lent-words b n ws e = words-put b n (written_over (words_of b n) ws) ∙ take_at ws (drop (length ws) (words_of b n)) (length (words_of b n)) e

module _ (a : Blocks) (w n : ℕ) (s : Shape) (h : IsBranch a w) (e : shape_of w ≡ Some s) (own : n ≡ number_of w) where
  pub own-shaped : IsShaped s (words_of a n)
  own-shaped = subst (λ k. IsShaped s (words_of a k)) (sym own) (is-shaped a w h s e)

  pub own-live : 0 < length (words_of a n)
  own-live = let r = own-shaped.laid.room in let u = used-some s (count_in (words_of a n)) in omega arith

  pub own-view : branch_view a w ≡ view_in s (words_of a n)
  own-view = view-is a w s e ∙ ap (λ k. view_in s (words_of a k)) (sym own)

  pub own-children : (branch_view a w).children ≡ children_in s (words_of a n)
  own-children = ap (λ (v : View). v.children) own-view

  pub own-frame : (b : Blocks) (ws : List ℕ) → b ≡ put a n ws → Frame a b (branch_number w ∷ []) (branch_number w ∷ [])
  own-frame b ws f =
      subst (λ k. Frame a b (k ∷ []) (k ∷ [])) own (subst (λ b. Frame a b (n ∷ []) (n ∷ [])) (sym f) (frame-put a n ws (live-words a n own-live)))

  own-room : (ws : List ℕ) (m : ℕ) (list : Entries ℕ) → IsBuilt s ws (level_in (words_of a n)) (prefix_in (words_of a n)) m list
      → length ws ≡ length (words_of a n)
      → length (children_in s (words_of a n)) ≤ length list → length ws ≡ room (used_words s (length list))
  own-room ws m list built size more =
      let c = laid-count s (words_of a n) own-shaped.laid in
      let d = laid-count s ws built.laid in
      let k = ap length built.children in
      let r = built.laid.room in
      let z = own-shaped.size in
      let count : count_in ws ≡ length list = omega arith in
      let inside : used_words s (length list) ≤ room (used_words s (count_in (words_of a n))) =
      subst (λ j. used_words s j ≤ room (used_words s (count_in (words_of a n)))) count (omega arith) in
      size ∙ z ∙ sym (room-same (used_words s (count_in (words_of a n))) (used_words s (length list)) (used-mono s _ _ (omega arith)) inside)

  -- the words with at least as many children, in the same block
  pub own-branch : (ws : List ℕ) (b : Blocks) (m : ℕ) (list : Entries ℕ) → words_of b n ≡ ws → IsBuilt s ws
      (level_in (words_of a n)) (prefix_in (words_of a n)) m list → length ws ≡ length (words_of a n)
      → length (children_in s (words_of a n)) ≤ length list
      → IsBranchOf b w (record { level = level_in (words_of a n); prefix = prefix_in (words_of a n); population = m; children = list })
  own-branch ws b m list at built size more =
      let r = own-room ws m list built size more in
      let c = laid-count s (words_of a n) own-shaped.laid in
      let l = own-shaped.least in
      let there : branch_words b w ≡ ws = ap (words_of b) (sym own) ∙ at in
      built-branch b w s (level_in (words_of a n)) (prefix_in (words_of a n)) m list e
      (subst (λ l. IsBuilt s l (level_in (words_of a n)) (prefix_in (words_of a n)) m list) (sym there) built)
      (ap length there ∙ r) own-shaped.level own-shaped.prefix (omega arith)

  -- one child more, or another
  pub put-branch : (ws : List ℕ) (b : Blocks) (k x m : ℕ) → words_of b n ≡ ws → IsBuilt s ws (level_in (words_of a n))
      (prefix_in (words_of a n)) m (with_entry word_order (children_in s (words_of a n)) k x)
      → length ws ≡ length (words_of a n) → IsBranchOf b w (with_child (branch_view a w) k x m)
  put-branch ws b k x m at built size =
      subst (λ v. IsBranchOf b w (with_child v k x m)) (sym own-view)
      (own-branch ws b m (with_entry word_order (children_in s (words_of a n)) k x) at built size
      (no-fewer (children_in s (words_of a n)) k x own-shaped.laid.rising))

-- ---- a branch in a new block

-- what was built, with other children
pub built-then : (t : Shape) (f g : List ℕ) (l p m : ℕ) (before list : Entries ℕ) → IsBuilt t f l p m before → BranchBecomes t f g list → IsBuilt t g l p m list
built-then t f g l p m before list built b = record {
  laid = b.laid;
  level = b.head.level ∙ built.level;
  prefix = b.head.prefix ∙ built.prefix;
  population = b.head.population ∙ built.population;
  children = b.children;
}

-- the block that was built has as many children as the old one
pub grown-count : (t s : Shape) (f ws : List ℕ) (l p m n : ℕ) (list : Entries ℕ) → IsBuilt t f l p m list → list ≡ children_in s
    ws → IsLaid s ws → n ≡ count_in ws → count_in f ≡ n
grown-count t s f ws l p m n list built all laid e = sym (laid-count t f built.laid) ∙ ap length built.children ∙ ap length all ∙ laid-count s ws laid ∙ sym e

-- a new block that was filled, with one child more
pub grown-branch : (b : Blocks) (g f ws : List ℕ) (w : ℕ) (s t : Shape) (list : Entries ℕ) (k x m : ℕ) → IsShaped s ws
    → list ≡ children_in s ws → has_key word_order (children_in s ws) k ≡ false
    → IsBuilt t f (level_in ws) (prefix_in ws) m list → BranchBecomes t f g (with_entry word_order (children_in t f) k x)
    → branch_words b w ≡ g → shape_of w ≡ Some t → length f ≡ room (used_words t (count_in ws + 1)) → least t ≤ count_in ws + 1
    → IsBranchOf b w (with_child (view_in s ws) k x m)
grown-branch b g f ws w s t list k x m shaped all absent built more at e size some =
    let z : IsBuilt t g (level_in ws) (prefix_in ws) m (with_entry word_order (children_in s ws) k x) =
    subst (λ es. IsBuilt t g (level_in ws) (prefix_in ws) m (with_entry word_order es k x)) (built.children ∙ all)
    (built-then t f g (level_in ws) (prefix_in ws) m list _ built more) in
    let n = laid-count s ws shaped.laid in
    let q = length-with (children_in s ws) k x (subst T (sym shaped.laid.rising) tt)
    ∙ ap (λ t. cond t (length (children_in s ws)) (length (children_in s ws) + 1)) absent in
    let count : length (with_entry word_order (children_in s ws) k x) ≡ count_in ws + 1 = omega arith in
    built-branch b w t (level_in ws) (prefix_in ws) m (with_entry word_order (children_in s ws) k x) e
    (subst (λ l. IsBuilt t l (level_in ws) (prefix_in ws) m (with_entry word_order (children_in s ws) k x)) (sym at) z)
    (ap length at ∙ more.size ∙ size ∙ ap (λ n. room (used_words t n)) (sym count)) shaped.level shaped.prefix (omega arith)

-- a greater block that begins as the old one, with one child more
pub widened-branch : (b : Blocks) (g vs ws : List ℕ) (w : ℕ) (s : Shape) (k x m : ℕ) → IsShaped s ws → IsMoved s s ws vs
    → has_key word_order (children_in s ws) k ≡ false
    → IsBuilt s g (level_in vs) (prefix_in vs) m (with_entry word_order (children_in s vs) k x)
    → branch_words b w ≡ g → shape_of w ≡ Some s → length g ≡ room (used_words s (count_in ws + 1))
    → IsBranchOf b w (with_child (view_in s ws) k x m)
widened-branch b g vs ws w s k x m shaped moved absent built at e size =
    let y : IsBuilt s g (level_in vs) (prefix_in vs) m (with_entry word_order (children_in s ws) k x) =
    subst (λ es. IsBuilt s g (level_in vs) (prefix_in vs) m (with_entry word_order es k x)) moved.children built in
    let z : IsBuilt s g (level_in ws) (prefix_in ws) m (with_entry word_order (children_in s ws) k x) =
    subst (λ p. IsBuilt s g (level_in ws) p m (with_entry word_order (children_in s ws) k x)) moved.head.prefix
    (subst (λ l. IsBuilt s g l (prefix_in vs) m (with_entry word_order (children_in s ws) k x)) moved.head.level y) in
    let n = laid-count s ws shaped.laid in
    let q = length-with (children_in s ws) k x (subst T (sym shaped.laid.rising) tt)
    ∙ ap (λ t. cond t (length (children_in s ws)) (length (children_in s ws) + 1)) absent in
    let count : length (with_entry word_order (children_in s ws) k x) ≡ count_in ws + 1 = omega arith in
    let l = shaped.least in
    built-branch b w s (level_in ws) (prefix_in ws) m (with_entry word_order (children_in s ws) k x) e
    (subst (λ l. IsBuilt s l (level_in ws) (prefix_in ws) m (with_entry word_order (children_in s ws) k x)) (sym at) z)
    (ap length at ∙ size ∙ ap (λ n. room (used_words s n)) (sym count)) shaped.level shaped.prefix (omega arith)

-- ---- another population

module _ (f : List ℕ) (m : ℕ) where
  kept_word : (i : ℕ) → i ≢ 2 → get_or (set f 2 m) i 0 ≡ get_or f i 0
  kept_word i h = get_or-set_other f 2 i m 0 h

  kept_count : count_in (set f 2 m) ≡ count_in f
  kept_count = ap (λ h. h % 512) (kept_word 0 (λ e. absurd (omega arith)))

  kept_bitmap : bitmap_in (set f 2 m) ≡ bitmap_in f
  kept_bitmap =
      ap (λ x. x ∷ get_or (set f 2 m) 4 0 ∷ get_or (set f 2 m) 5 0 ∷ get_or (set f 2 m) 6 0 ∷ []) (kept_word 3 (λ e. absurd (omega arith)))
      ∙ ap (λ x. get_or f 3 0 ∷ x ∷ get_or (set f 2 m) 5 0 ∷ get_or (set f 2 m) 6 0 ∷ []) (kept_word 4 (λ e. absurd (omega arith)))
      ∙ ap (λ x. get_or f 3 0 ∷ get_or f 4 0 ∷ x ∷ get_or (set f 2 m) 6 0 ∷ []) (kept_word 5 (λ e. absurd (omega arith)))
      ∙ ap (λ x. get_or f 3 0 ∷ get_or f 4 0 ∷ get_or f 5 0 ∷ x ∷ []) (kept_word 6 (λ e. absurd (omega arith)))

  kept_children : (s : Shape) → children_in s (set f 2 m) ≡ children_in s f
  unfolding children_in child_bytes refs_in
  kept_children Linear =
      ap (λ k. pairs (unpacked k (get_or (set f 2 m) 3 0)) (take k (drop 4 (set f 2 m)))) kept_count
      ∙ ap (λ p. pairs (unpacked (count_in f) p) (take (count_in f) (drop 4 (set f 2 m)))) (kept_word 3 (λ e. absurd (omega arith)))
      ∙ ap (λ l. pairs (unpacked (count_in f) (get_or f 3 0)) (take (count_in f) l)) (drop-set-lt 4 f 2 m (omega arith))
  kept_children Bitmap =
      ap (λ k. pairs (members (bitmap_in (set f 2 m))) (take k (drop 7 (set f 2 m)))) kept_count
      ∙ ap (λ b. pairs (members b) (take (count_in f) (drop 7 (set f 2 m)))) kept_bitmap
      ∙ ap (λ l. pairs (members (bitmap_in f)) (take (count_in f) l)) (drop-set-lt 7 f 2 m (omega arith))
  kept_children Full = ap (λ l. numbered 0 (take 256 l)) (drop-set-lt 3 f 2 m (omega arith))

  kept_counted : (s : Shape) → IsCounted s f → IsCounted s (set f 2 m)
  unfolding child_bytes
  kept_counted Linear h = let e = ap (λ k. 256 ^ k) kept_count in let g = kept_word 3 (λ e. absurd (omega arith)) in omega arith
  kept_counted Bitmap h = ap (λ b. length (members b)) kept_bitmap ∙ h ∙ sym kept_count
  kept_counted Full h = ap length (kept_children Full) ∙ h ∙ sym kept_count

  pub count-kept : count_in (set f 2 m) ≡ count_in f
  count-kept = kept_count

  pub with-population : (s : Shape) → 2 < length f → IsLaid s f → IsBuilt s (set f 2 m) (level_in f) (prefix_in f) m (children_in s f)
  with-population s long laid = record {
    laid = record {
      most = let c = kept_count in let h = laid.most in omega arith;
      room = subst (λ l. used_words s (count_in (set f 2 m)) ≤ l) (sym (length-set f 2 m)) (subst (λ n. used_words s n ≤ length f) (sym kept_count) laid.room);
      counted = kept_counted s laid.counted;
      rising = ap (is_sorted word_order) (kept_children s) ∙ laid.rising;
      sound = ap (list_all is_child_entry) (kept_children s) ∙ laid.sound;
    };
    level = ap (λ h. h / 512) (kept_word 0 (λ e. absurd (omega arith)));
    prefix = kept_word 1 (λ e. absurd (omega arith));
    population = get_or-set_same f 2 m 0 long;
    children = kept_children s;
  }

-- ---- a child taken out

pub least-two : (s : Shape) → 2 ≤ least s
least-two Linear = omega arith
least-two Bitmap = omega arith
least-two Full = omega arith

pub used-most : (s : Shape) (n : ℕ) → n ≤ most s → used_words s n ≤ 512
used-most Linear n h = omega arith
used-most Bitmap n h = omega arith
used-most Full n h = omega arith

pub used-five : (s : Shape) (n : ℕ) → 0 < n → 4 < used_words s n
used-five Linear n h = omega arith
used-five Bitmap n h = omega arith
used-five Full n h = omega arith

-- one child less uses no more words, in whichever shape
used-less : (s t : Shape) (n : ℕ) → least s ≤ n + 1 → n + 1 ≤ most s → least t ≤ n → n ≤ most t → used_words t n ≤ used_words s (n + 1)
used-less Linear Linear n a b c d = omega arith
used-less Linear Bitmap n a b c d = absurd (omega arith)
used-less Linear Full n a b c d = absurd (omega arith)
used-less Bitmap Linear n a b c d = omega arith
used-less Bitmap Bitmap n a b c d = omega arith
used-less Bitmap Full n a b c d = absurd (omega arith)
used-less Full Linear n a b c d = omega arith
used-less Full Bitmap n a b c d = omega arith
used-less Full Full n a b c d = omega arith

-- one child less
pub one-fewer : (s : Shape) (f g : List ℕ) (l p m k : ℕ) → IsLaid s f → has_key word_order (children_in s f) k ≡ true
    → IsBuilt s g l p m (without_key word_order (children_in s f) k) → count_in g + 1 ≡ count_in f
one-fewer s f g l p m k laid there b =
    let e : 1 + length (without_key word_order (children_in s f) k) ≡ length (children_in s f) =
    ap (λ t. cond t 1 0 + length (without_key word_order (children_in s f) k)) (sym there) ∙ length_without word_order
    nat_cmp_total k (children_in s f) (subst T (sym laid.rising) tt) in
    let m = laid-count s f laid in
    let n = laid-count s g b.laid in
    let l = ap length b.children in
    omega arith

module _ (a : Blocks) (w n : ℕ) (s : Shape) (h : IsBranch a w) (e : shape_of w ≡ Some s) (own : n ≡ number_of w) (g : List ℕ) (k m : ℕ)
    (there : has_key word_order (children_in s (words_of a n)) k ≡ true)
    (less : IsBuilt s g (level_in (words_of a n)) (prefix_in (words_of a n)) m
    (without_key word_order (children_in s (words_of a n)) k)) where
  pub fewer : count_in g + 1 ≡ count_in (words_of a n)
  fewer = one-fewer s (words_of a n) g _ _ m k (own-shaped a w n s h e own).laid there less

  -- the children laid out for their number, in a block that is cut for them
  module _ (t : Shape) (u : List ℕ) (moved : IsMoved s t g u) (some : least t ≤ count_in g)
      (size : length u ≡ length (words_of a n)) (len : ℕ) (is : len ≡ used_words t (count_in g)) where
    same-count : count_in u ≡ count_in g
    same-count = sym (laid-count t u moved.laid) ∙ ap length moved.children ∙ laid-count s g less.laid

    pub cut-within : len ≤ length u
    cut-within = let c = ap (used_words t) same-count in let r = moved.laid.room in omega arith

    pub cut-some : 4 < len
    cut-some = let two = least-two t in let five = used-five t (count_in g) (omega arith) in omega arith

    pub cut-room : IsRoom (length u)
    cut-room =
        let shaped = own-shaped a w n s h e own in
        (used_words s (count_in (words_of a n)), used-most s (count_in (words_of a n)) shaped.laid.most, size ∙ shaped.size)

    cut-size : length (take (room len) u) ≡ room (used_words t (count_in g))
    cut-size =
        let shaped = own-shaped a w n s h e own in
        let f = fewer in
        let c = same-count in
        let least = shaped.least in
        let most_s = shaped.laid.most in
        let most_t = moved.laid.most in
        let fits : used_words t (count_in g) ≤ used_words s (count_in g + 1) = used-less s t (count_in g) (omega arith) (omega arith) some (omega arith) in
        let fits_f : used_words t (count_in g) ≤ used_words s (count_in (words_of a n)) = subst (λ j. used_words t (count_in g) ≤ used_words s j) f fits in
        let r : room (used_words t (count_in g)) ≤ room (used_words s (count_in (words_of a n))) = room-mono _ _ fits_f in
        let z = shaped.size in
        let l = ap room is in
        length-take-le (room len) u (omega arith) ∙ l

    pub taken-branch : (b : Blocks) (r : ℕ) → words_of b n ≡ take (room len) u → shape_of r ≡ Some t → number_of r ≡ n
        → IsBranchOf b r (without_child (branch_view a w) k m)
    taken-branch b r at shape number =
        let shaped = own-shaped a w n s h e own in
        let fits : used_words t (count_in u) ≤ room len = let c = ap (used_words t) same-count in let cover = room-covers len in omega arith in
        let cut = cut-moved u (room len) t fits moved.laid in
        let built : IsBuilt t (take (room len) u) (level_in (words_of a n)) (prefix_in (words_of a n)) m
        (without_key word_order (children_in s (words_of a n)) k) =
        record {
          laid = cut.laid;
          level = cut.head.level ∙ moved.head.level ∙ less.level;
          prefix = cut.head.prefix ∙ moved.head.prefix ∙ less.prefix;
          population = cut.head.population ∙ moved.head.population ∙ less.population;
          children = cut.children ∙ moved.children ∙ less.children;
        } in
        let count : length (without_key word_order (children_in s (words_of a n)) k) ≡ count_in g = sym (ap length less.children) ∙ laid-count s g less.laid in
        let there : branch_words b r ≡ take (room len) u = ap (words_of b) number ∙ at in
        subst (λ v. IsBranchOf b r (without_child v k m)) (sym (own-view a w n s h e own))
        (built-branch b r t (level_in (words_of a n)) (prefix_in (words_of a n)) m (without_key word_order (children_in s (words_of a n)) k) shape
        (subst (λ l. IsBuilt t l (level_in (words_of a n)) (prefix_in (words_of a n)) m
        (without_key word_order (children_in s (words_of a n)) k)) (sym there) built)
        (ap length there ∙ cut-size ∙ ap (λ j. room (used_words t j)) (sym count)) shaped.level shaped.prefix (omega arith))

-- a block that is written and then released is gone
pub gone-frame : (a b c : Blocks) (w n : ℕ) (ws : List ℕ) → n ≡ number_of w → b ≡ put a n ws → c ≡ without b n → Frame a c (branch_number w ∷ []) []
gone-frame a b c w n ws own e f =
    let g : c ≡ without a n = f ∙ ap (λ b. without b n) e ∙ same_blocks (without (put a n ws) n) (without a n)
    (λ q. block-without (put a n ws) n q ∙ ap (λ o. cond (q == n) None o) (block-put a n ws q) ∙ twice (q == n) ws (block a q)
    ∙ sym (block-without a n q)) in
    subst (λ k. Frame a c (k ∷ []) []) own (subst (λ c. Frame a c (n ∷ []) []) (sym g) (frame-release a n))
  where
    twice : (t : Bool) (ws : List ℕ) (o : Option (List ℕ)) → cond t None (cond t (Some ws) o) ≡ cond t None o
    twice true ws o = refl
    twice false ws o = refl

-- the last child's word is a reference
pub only-reference : (s : Shape) (g : List ℕ) → IsLaid s g → count_in g ≡ 1 → least s ≤ 2 → IsTrue (is_reference (get_or g 4 0))
only-reference s g laid c few =
    let e = (only-child s g laid c few).1 in
    let h : list_all is_child_entry ((get_or g 3 0 % 256, get_or g 4 0) ∷ []) ≡ true = ap (list_all is_child_entry) (sym e) ∙ laid.sound in
    child-reference (get_or g 4 0) (and_right (nat_lt (get_or g 3 0 % 256) 256) (is_child (get_or g 4 0))
    (and_left (is_child_entry (get_or g 3 0 % 256, get_or g 4 0)) true h))
