-- A branch of which one child changed, came or went: what it is afterwards, what it spells, and the
-- frame.
use Rattle.std.proofs.Common.{◌≡◌, ◌≢◌, ℕ, zero, suc, ◌+◌, ◌-◌, ◌<◌, ◌≤◌, Bool, true, false, cond, not, ◌||◌, ◌==◌, nat_lt, List, [], ◌∷◌, ◌++◌}
use Rattle.std.proofs.Common.{length, Option, Some, None, is_some, ap, sym, ◌∙◌, refl, subst, arith}
use Rattle.std.proofs.lemmas.Bool.Decides.{nat_tests}
use Rattle.std.specs.Ordering.{eq_by_cmp}
use Rattle.std.specs.FinMap.{is_sorted}
use Rattle.std.proofs.lemmas.Bool.{false≢true as not_true}
use Rattle.std.proofs.lemmas.Option.{none-some}
use Rattle.judy_arena.specs.Blocks.{Blocks, block, is_live}
use Rattle.judy_arena.specs.Frame.{holds, Frame}
use Rattle.judy_arena.specs.Totals.{are_distinct}
use Rattle.judy_arena.proofs.lemmas.FrameLaws.{frame-then, frame-rest, frame-stays, holds-append, joint, both}
use Rattle.judy_arena.proofs.lemmas.BlockLaws.{same_blocks}
use Rattle.judy_model.specs.Contents.{Entries, word_order, value_of, without_key}
use Rattle.judy_model.proofs.lemmas.EntryLemmas.{same_word}
use Rattle.judy_tree.specs.Each.{Each}
use Rattle.judy_branch.specs.Branch.{IsBranch, View, branch_view, branch_number}
use Rattle.judy_tree.specs.Nodes.{head_at, is_branch, joined, IsKid, depth}
use Rattle.judy_tree.specs.Root.{entries, numbers, IsRoot}
use Rattle.judy_tree.proofs.lemmas.BranchLaws.{branch-kind, branch-sound}
use Rattle.judy_tree.proofs.lemmas.Joins.{kid, some_of, total, total-split, times, times-append, times-joined, holds-some, some-holds, none-holds, holds-none}
use Rattle.judy_tree.proofs.lemmas.Joins.{holds-times, distinct-times, times-distinct, joined-same, each-weaker, each-both}
use Rattle.judy_tree.proofs.lemmas.Joins.{each-without, each-found, find-joined}
use Rattle.judy_tree.proofs.lemmas.Joins.{find-outside, find-without, gone-after, rises-parts, other_word, word_other}
use Rattle.judy_tree.proofs.lemmas.Joins.{Heads, same-found, joined-rises}
use Rattle.judy_tree.proofs.lemmas.Heads.{head-less}
use Rattle.judy_tree.proofs.Nodes.{each-used}
use Rattle.judy_tree.proofs.lemmas.Trees.{Top, root-top, top-root, IsTopRoot, Kept, root-kept, numbers-live, numbers-once, root-rises}
use Rattle.judy_tree.proofs.Nodes.{depth-branch}

-- ---- two changes in a row, beside numbers that rest

-- what is old or new over two changes, where the second takes nothing that the first brought or
-- took
joint_old : (o1 n1 o2 : Bool) → (o2 ≡ true → n1 ≡ false) → (o2 || o1) ≡ joint o1 n1 o2
joint_old true true true h = refl
joint_old true true false h = refl
joint_old true false true h = refl
joint_old true false false h = refl
joint_old false true true h = absurd (not_true (sym (h refl)))
joint_old false true false h = refl
joint_old false false true h = refl
joint_old false false false h = refl

joint_new : (n2 o2 n1 : Bool) → (o2 ≡ true → n1 ≡ false) → (n2 || n1) ≡ joint n2 o2 n1
joint_new true o2 n1 h = refl
joint_new false true true h = absurd (not_true (sym (h refl)))
joint_new false true false h = refl
joint_new false false true h = refl
joint_new false false false h = refl

or_false : (s t : Bool) → s ≡ false → t ≡ false → (s || t) ≡ false
or_false s t h k = ap (λ x. x || t) h ∙ k

-- the numbers of three lists, none of them in two
add_three : (a b c : ℕ) → a ≤ 1 → b ≤ 1 → c ≤ 1 → (0 < a → b ≡ 0) → (0 < a → c ≡ 0) → (0 < b → c ≡ 0) → a + (b + c) ≤ 1
add_three zero zero c x y z f g h = omega arith
add_three zero (suc b) c x y z f g h = let e = h (omega arith) in omega arith
add_three (suc a) b c x y z f g h = let e = f (omega arith) in let d = g (omega arith) in omega arith

module _ (a b d : Blocks) (o1 n1 o2 n2 r : List ℕ) (first : Frame a b o1 n1) (second : Frame b d o2 n2)
    (own : (q : ℕ) → holds q o2 ≡ true → (is_live a q ≡ true) × (holds q o1 ≡ false))
    (rest : (q : ℕ) → holds q r ≡ true → (is_live a q ≡ true) × (holds q o1 ≡ false) × (holds q o2 ≡ false)) where
  own_new : (q : ℕ) → holds q o2 ≡ true → holds q n1 ≡ false
  own_new q h = (frame-stays a b o1 n1 q first (own q h).0 (own q h).1).0

  -- the numbers that rest are not new at the first change
  pub rest-first : (q : ℕ) → holds q r ≡ true → (holds q n1 ≡ false) × (block b q ≡ block a q)
  rest-first q h = frame-stays a b o1 n1 q first (rest q h).0 (rest q h).1

  rest_live : (q : ℕ) → holds q r ≡ true → is_live b q ≡ true
  rest_live q h = ap is_some (rest-first q h).1 ∙ (rest q h).0

  rest_second : (q : ℕ) → holds q r ≡ true → (holds q n2 ≡ false) × (block d q ≡ block b q)
  rest_second q h = frame-stays b d o2 n2 q second (rest_live q h) (rest q h).2

  -- the blocks that rest stay
  pub rest-kept : (q : ℕ) → holds q r ≡ true → block d q ≡ block a q
  rest-kept q h = (rest_second q h).1 ∙ (rest-first q h).1

  -- those that the first change brought stay over the second
  pub new-stays : (q : ℕ) → holds q n1 ≡ true → (holds q n2 ≡ false) × (block d q ≡ block b q)
  new-stays q h = frame-stays b d o2 n2 q second (first.inside q h)
      (elim (holds q o2) as (λ t. holds q o2 ≡ t → t ≡ false) [ true ↦ λ e. absurd (both q n1 h (own_new q e)) | false ↦ λ e. refl ] refl)

  two : Frame a d (o2 ++ o1) (n2 ++ n1)
  two = frame-then a b d o1 n1 o2 n2 (o2 ++ o1) (n2 ++ n1) first second
      (λ q. holds-append q o2 o1 ∙ joint_old (holds q o1) (holds q n1) (holds q o2) (own_new q))
      (λ q. holds-append q n2 n1 ∙ joint_new (holds q n2) (holds q o2) (holds q n1) (own_new q))

  -- the two changes as one, with the numbers that rest on both sides
  pub two-frames : (x y : List ℕ) → ((q : ℕ) → times q x ≡ times q o2 + (times q o1 + times q r))
      → ((q : ℕ) → times q y ≡ times q n2 + (times q n1 + times q r)) → Frame a d x y
  two-frames x y is_x is_y = frame-rest a d (o2 ++ o1) (n2 ++ n1) r x y two
      (λ q h. ((rest q h).0, holds-append q o2 o1 ∙ or_false (holds q o2) (holds q o1) (rest q h).2 (rest q h).1))
      (λ q. same q x o2 o1 (is_x q)) (λ q. same q y n2 n1 (is_y q))
    where
      same : (q : ℕ) (x s t : List ℕ) → times q x ≡ times q s + (times q t + times q r) → holds q x ≡ (holds q (s ++ t) || holds q r)
      same q x s t e = holds-times q x ∙ ap (nat_lt 0) (e ∙ more (times q s) (times q t) (times q r)) ∙ or_more (times q s + times q t) (times q r)
          ∙ ap (λ n. nat_lt 0 n || nat_lt 0 (times q r)) (sym (times-append q s t)) ∙ ap (λ u. u || nat_lt 0 (times q r))
          (sym (holds-times q (s ++ t))) ∙ ap (λ u. holds q (s ++ t) || u) (sym (holds-times q r))
        where
          more : (a b c : ℕ) → a + (b + c) ≡ (a + b) + c
          more a b c = omega arith

          or_more : (a b : ℕ) → nat_lt 0 (a + b) ≡ (nat_lt 0 a || nat_lt 0 b)
          or_more zero b = ap (nat_lt 0) (zero_more b)
            where
              zero_more : (b : ℕ) → 0 + b ≡ b
              zero_more b = omega arith
          or_more (suc a) b = grind (arith, nat_tests)

  -- no number stands twice among what is there afterwards
  pub two-once : (x y : List ℕ) → are_distinct x ≡ true → are_distinct n1 ≡ true → are_distinct n2 ≡ true
      → ((q : ℕ) → times q x ≡ times q o2 + (times q o1 + times q r))
      → ((q : ℕ) → times q y ≡ times q n2 + (times q n1 + times q r)) → are_distinct y ≡ true
  two-once x y hx h1 h2 is_x is_y = times-distinct y (λ q.
      let e = is_y q in
      let f = is_x q in
      let u = distinct-times x hx q in
      let s = add_three (times q n2) (times q n1) (times q r) (distinct-times n2 h2 q) (distinct-times n1 h1 q) (omega arith)
      (λ h. holds-none q n1 (elim (holds q n1) as (λ t. holds q n1 ≡ t → t ≡ false)
      [ true ↦ λ i. absurd (both q n2 (some-holds q n2 h) (new-stays q i).0) | false ↦ λ i. refl ] refl))
      (λ h. holds-none q r (elim (holds q r) as (λ t. holds q r ≡ t → t ≡ false)
      [ true ↦ λ i. absurd (both q n2 (some-holds q n2 h) (rest_second q i).0) | false ↦ λ i. refl ] refl))
      (λ h. holds-none q r (elim (holds q r) as (λ t. holds q r ≡ t → t ≡ false)
      [ true ↦ λ i. absurd (both q n1 (some-holds q n1 h) (rest-first q i).0) | false ↦ λ i. refl ] refl)) in
      omega arith)

-- ---- children of which one byte's changed

-- the others of a list with one item at the byte
each-besides : (P : ℕ × ℕ → Type 0) (cs : Entries ℕ) (x : ℕ) → is_sorted word_order cs ≡ true
    → Each P (without_key word_order cs x) → ((c : ℕ) → value_of word_order cs x ≡ Some c → P (x, c)) → Each P cs
each-besides P [] x s = λ h here. tt
each-besides P (c ∷ cs) x s =
    elim (eq_by_cmp word_order x c.0) as (λ t. eq_by_cmp word_order x c.0 ≡ t
    → Each P (cond (not t) (c ∷ without_key word_order cs x) (without_key word_order cs x))
    → ((y : ℕ) → cond t (Some c.1) (value_of word_order cs x) ≡ Some y → P (x, y)) → P c × Each P cs) [
      | true ↦ λ t h here. (
        subst (λ y. P (y, c.1)) (same_word x c.0 t) (here c.1 refl),
        each-besides P cs x (rises-parts c cs s).1 h (λ y e. absurd (none-some y (sym (gone-after c cs x s t) ∙ e))),
      )
      | false ↦ λ t h here. (h.0, each-besides P cs x (rises-parts c cs s).1 h.1 here)
    ] refl

pub times-split : (q : ℕ) (n : ℕ → List ℕ) (cs : Entries ℕ) (x : ℕ) → is_sorted word_order cs ≡ true → times q (joined n cs)
    ≡ times q (kid n (value_of word_order cs x)) + times q (joined n (without_key word_order cs x))
times-split q n cs x s =
    times-joined q n cs ∙ total-split (λ c. times q (n c)) cs x s
    ∙ ap (λ m. m + total (λ c. times q (n c)) (without_key word_order cs x)) (one (value_of word_order cs x))
    ∙ ap (λ m. times q (kid n (value_of word_order cs x)) + m) (sym (times-joined q n (without_key word_order cs x)))
  where
    one : (o : Option ℕ) → some_of (λ c. times q (n c)) o ≡ times q (kid n o)
    one None = refl
    one (Some c) = refl

-- the content of one child changed at one key, and so the join's did
pub joined-changed : (h : ℕ → ℕ) (base : ℕ) (f g : ℕ → Entries ℕ) (cs ds : Entries ℕ) (x key : ℕ) (new : Option ℕ)
    → is_sorted word_order cs ≡ true → is_sorted word_order ds ≡ true
    → without_key word_order ds x ≡ without_key word_order cs x → Heads h base f cs → Heads h base g ds
    → Each (λ c. g c.1 ≡ f c.1) (without_key word_order cs x) → h key ≡ base + x
    → ((k : ℕ) → value_of word_order (kid g (value_of word_order ds x)) k ≡ cond (eq_by_cmp word_order k key) new
    (value_of word_order (kid f (value_of word_order cs x)) k))
    → (k : ℕ) → value_of word_order (joined g ds) k ≡ cond (eq_by_cmp word_order k key) new (value_of word_order (joined f cs) k)
joined-changed h base f g cs ds x key new s t others a b same is change k =
    elim (nat_lt (h k) base) as (λ u. nat_lt (h k) base ≡ u → value_of word_order (joined g ds) k ≡ cond
    (eq_by_cmp word_order k key) new (value_of word_order (joined f cs) k)) [
      | true ↦ λ e. let low : h k < base = grind (arith, nat_tests) in
          find-outside h base g ds k b low ∙ sym (ap (λ u. cond u new (value_of word_order (joined f cs) k))
          (other (λ i. absurd (let j = ap h i in omega arith))) ∙ find-outside h base f cs k a low)
      | false ↦ λ e.
          let high : base ≤ h k = grind (arith, nat_tests) in
          let y : ℕ = h k - base in
          let at : h k ≡ base + y = omega arith in
          find-joined h base g ds k y t b at ∙
          elim (eq_by_cmp word_order y x) as (λ u. eq_by_cmp word_order y x ≡ u → value_of word_order
          (kid g (value_of word_order ds y)) k ≡ cond (eq_by_cmp word_order k key) new (value_of word_order (joined f cs) k)) [
            | true ↦ λ i. let j : y ≡ x = same_word y x i in
                ap (λ z. value_of word_order (kid g (value_of word_order ds z)) k) j ∙ change k
                ∙ ap (cond (eq_by_cmp word_order k key) new) (sym (find-joined h base f cs k x s a (at ∙ ap (λ z. base + z) j)))
            | false ↦ λ i.
                let ne : y ≢ x = other_word y x i in
                ap (λ o. value_of word_order (kid g o) k) (there ds y i ∙ ap (λ l. value_of word_order l y) others ∙ sym (there cs y i))
                ∙ ap (λ l. value_of word_order l k)
                (kids (value_of word_order cs y) (λ c j. each-found (λ d. g d.1 ≡ f d.1) y c (without_key word_order cs x) same
                (sym (there cs y i) ∙ j)))
                ∙ sym (ap (λ u. cond u new (value_of word_order (joined f cs) k))
                (other (λ j. ne (let m = ap h j in omega arith))) ∙ find-joined h base f cs k y s a at)
          ] refl
    ] refl
  where
    other : (k ≢ key) → eq_by_cmp word_order k key ≡ false
    other ne = word_other k key ne

    there : (l : Entries ℕ) (y : ℕ) → eq_by_cmp word_order y x ≡ false → value_of word_order l y ≡ value_of word_order (without_key word_order l x) y
    there l y i = sym (find-without l x y ∙ ap (λ u. cond u None (value_of word_order l y)) i)

    kids : (o : Option ℕ) → ((c : ℕ) → o ≡ Some c → g c ≡ f c) → kid g o ≡ kid f o
    kids None h = refl
    kids (Some c) h = h c refl

-- an array in place of another
pub record Became (v : Bool) (a d : Blocks) (w u : ℕ) (l : Entries ℕ) : Type 0 where
  pub root : IsRoot v d u
  pub content : entries v d u ≡ l
  pub frame : Frame a d (numbers a w) (numbers d u)
  pub deep : depth d u ≡ depth a w

-- a child that stays is a child
pub moved : (v : Bool) (y d : Blocks) (level head c : ℕ) → IsKid level head (IsRoot v y) (entries v y) (depth y) c → Kept v y d c
    → IsKid level head (IsRoot v d) (entries v d) (depth d) c
moved v y d level head c i k = record {
  sound = k.root;
  deeper = subst (λ n. level < n) (sym k.deep) i.deeper;
  filled = subst (λ l. 0 < length l) (sym k.content) i.filled;
  heads = subst (Each (λ e. head_at level e.0 ≡ head)) (sym k.content) i.heads;
}

pub kid-alike : {A : Type 0} (f g : ℕ → List A) (o : Option ℕ) → ((c : ℕ) → o ≡ Some c → f c ≡ g c) → kid f o ≡ kid g o
kid-alike f g None h = refl
kid-alike f g (Some c) h = h c refl

-- ---- a branch w in a of which the child of the byte x changed to b, and then the branch's own block to d
module _ (v : Bool) (a b d : Blocks) (w x : ℕ) (now : Option ℕ) (n2 : List ℕ) (is : is_branch w ≡ true) (node : IsRoot v a w)
    (first : Frame a b (kid (numbers a) (value_of word_order (branch_view a w).children x)) (kid (numbers b) now))
    (second : Frame b d (branch_number w ∷ []) n2) where
  abbrev pub t : View
  t = branch_view a w

  abbrev pub cs : Entries ℕ
  cs = (branch_view a w).children

  abbrev pub rest : Entries ℕ
  rest = without_key word_order (branch_view a w).children x

  pub top : Top v a w
  top = root-top v a w is node

  rising : is_sorted word_order cs ≡ true
  rising = top.view.rising

  abbrev pub o1 : List ℕ
  o1 = kid (numbers a) (value_of word_order (branch_view a w).children x)

  abbrev pub n1 : List ℕ
  n1 = kid (numbers b) now

  abbrev pub r : List ℕ
  r = joined (numbers a) (without_key word_order (branch_view a w).children x)

  pub old_times : (q : ℕ) → times q (numbers a w) ≡ times q (branch_number w ∷ []) + (times q o1 + times q r)
  old_times q = ap (times q) top.blocks ∙ ap (λ m. cond (q == branch_number w) 1 0 + m) (times-split q (numbers a) cs x rising)
      ∙ one (cond (q == branch_number w) 1 0) (times q o1 + times q r)
    where
      one : (m k : ℕ) → m + k ≡ (m + 0) + k
      one m k = omega arith

  once_times : (q : ℕ) → times q (branch_number w ∷ []) + (times q o1 + times q r) ≤ 1
  once_times q = subst (λ m. m ≤ 1) (old_times q) (distinct-times (numbers a w) (numbers-once v a w node) q)

  live_of : (q : ℕ) → 0 < times q (numbers a w) → is_live a q ≡ true
  live_of q h = numbers-live v a w q node (some-holds q (numbers a w) h)

  pub own : (q : ℕ) → holds q (branch_number w ∷ []) ≡ true → (is_live a q ≡ true) × (holds q o1 ≡ false)
  own q h =
      let m = holds-some q (branch_number w ∷ []) h in
      let e = old_times q in
      let s = once_times q in
      (live_of q (omega arith), none-holds q o1 (omega arith))

  pub resting : (q : ℕ) → holds q r ≡ true → (is_live a q ≡ true) × (holds q o1 ≡ false) × (holds q (branch_number w ∷ []) ≡ false)
  resting q h =
      let m = holds-some q r h in
      let e = old_times q in
      let s = once_times q in
      (live_of q (omega arith), none-holds q o1 (omega arith), none-holds q (branch_number w ∷ []) (omega arith))

  -- the other children stay
  pub rest-same : Each (λ c. Kept v a d c.1) rest
  rest-same = each-used (IsRoot v a) (Kept v a d) (λ q. block d q ≡ block a q) (numbers a) rest
      (rest-kept a b d o1 n1 (branch_number w ∷ []) n2 r first second own resting)
      (λ c h same. root-kept v a d c h same)
      (each-without (λ c. IsRoot v a c.1) x cs
      (each-weaker (λ c. IsKid t.level (head_at t.level t.prefix + c.0) (IsRoot v a) (entries v a) (depth a) c.1)
      (λ c. IsRoot v a c.1) cs (λ c i. i.sound) top.over.kids))

  pub rest-kids : Each (λ c. IsKid t.level (head_at t.level t.prefix + c.0) (IsRoot v d) (entries v d) (depth d) c.1) rest
  rest-kids = each-both (λ c. IsKid t.level (head_at t.level t.prefix + c.0) (IsRoot v a) (entries v a) (depth a) c.1)
      (λ c. Kept v a d c.1) (λ c. IsKid t.level (head_at t.level t.prefix + c.0) (IsRoot v d) (entries v d) (depth d) c.1) rest
      (λ c i k. moved v a d t.level (head_at t.level t.prefix + c.0) c.1 i k)
      (each-without (λ c. IsKid t.level (head_at t.level t.prefix + c.0) (IsRoot v a) (entries v a) (depth a) c.1) x cs top.over.kids) rest-same

  pub heads-before : Heads (head_at t.level) (head_at t.level t.prefix) (entries v a) cs
  heads-before = each-weaker (λ c. IsKid t.level (head_at t.level t.prefix + c.0) (IsRoot v a) (entries v a) (depth a) c.1)
      (λ c. Each (λ e. head_at t.level e.0 ≡ head_at t.level t.prefix + c.0) (entries v a c.1)) cs (λ c i. i.heads) top.over.kids

  -- the branch is at u afterwards
  module _ (u : ℕ) (branch : IsBranch d u) (level : (branch_view d u).level ≡ (branch_view a w).level)
      (prefix : (branch_view d u).prefix ≡ (branch_view a w).prefix)
      (own_new : n2 ≡ branch_number u ∷ [])
      (found : value_of word_order (branch_view d u).children x ≡ now)
      (others : without_key word_order (branch_view d u).children x ≡ without_key word_order (branch_view a w).children x)
      (part : (c : ℕ) → now ≡ Some c → IsKid (branch_view a w).level (head_at (branch_view a w).level (branch_view a w).prefix
      + x) (IsRoot v b) (entries v b) (depth b) c) where
    abbrev pub ds : Entries ℕ
    ds = (branch_view d u).children

    rising' : is_sorted word_order ds ≡ true
    rising' = (branch-sound d u branch).rising

    -- the new child stays too
    pub new-same : (c : ℕ) → now ≡ Some c → Kept v b d c
    new-same c e = root-kept v b d c (part c e).sound
        (λ q h. (new-stays a b d o1 n1 (branch_number w ∷ []) n2 r first second own resting q
        (ap (λ o. holds q (kid (numbers b) o)) e ∙ h)).1)

    -- the children afterwards
    kids-after : Each (λ c. IsKid t.level (head_at t.level t.prefix + c.0) (IsRoot v d) (entries v d) (depth d) c.1) ds
    kids-after = each-besides (λ c. IsKid t.level (head_at t.level t.prefix + c.0) (IsRoot v d) (entries v d) (depth d) c.1) ds x rising'
        (subst (Each (λ c. IsKid t.level (head_at t.level t.prefix + c.0) (IsRoot v d) (entries v d) (depth d) c.1)) (sym others) rest-kids)
        (λ c e. moved v b d t.level (head_at t.level t.prefix + x) c (part c (sym found ∙ e)) (new-same c (sym found ∙ e)))

    heads-after : Heads (head_at t.level) (head_at t.level t.prefix) (entries v d) ds
    heads-after = each-weaker (λ c. IsKid t.level (head_at t.level t.prefix + c.0) (IsRoot v d) (entries v d) (depth d) c.1)
        (λ c. Each (λ e. head_at t.level e.0 ≡ head_at t.level t.prefix + c.0) (entries v d c.1)) ds (λ c i. i.heads) kids-after

    new_times : (q : ℕ) → times q (branch_number u ∷ joined (numbers d) ds) ≡ times q n2 + (times q n1 + times q r)
    new_times q =
        ap (λ m. cond (q == branch_number u) 1 0 + m) (times-split q (numbers d) ds x rising')
        ∙ ap (λ l. cond (q == branch_number u) 1 0 + (times q l + times q (joined (numbers d) (without_key word_order ds x))))
        (ap (kid (numbers d)) found ∙ kid-alike (numbers d) (numbers b) now (λ c e. (new-same c e).blocks))
        ∙ ap (λ l. cond (q == branch_number u) 1 0 + (times q n1 + times q l))
        (ap (joined (numbers d)) others ∙ joined-same (numbers d) (numbers a) rest
        (each-weaker (λ c. Kept v a d c.1) (λ c. numbers d c.1 ≡ numbers a c.1) rest (λ c k. k.blocks) rest-same))
        ∙ one (cond (q == branch_number u) 1 0) (times q n1 + times q r) ∙ ap (λ l. times q l + (times q n1 + times q r)) (sym own_new)
      where
        one : (m k : ℕ) → m + k ≡ (m + 0) + k
        one m k = omega arith

    once-after : are_distinct (branch_number u ∷ joined (numbers d) ds) ≡ true
    once-after = two-once a b d o1 n1 (branch_number w ∷ []) n2 r first second own resting (numbers a w) (branch_number u ∷ joined (numbers d) ds)
        (numbers-once v a w node) (each now (λ c e. numbers-once v b c (part c e).sound)) (ap are_distinct own_new) old_times new_times
      where
        each : (o : Option ℕ) → ((c : ℕ) → o ≡ Some c → are_distinct (numbers b c) ≡ true) → are_distinct (kid (numbers b) o) ≡ true
        each None h = refl
        each (Some c) h = h c refl

    -- the branch afterwards, where its population is right
    pub changed-root : (branch_view d u).population ≡ length (joined (entries v d) ds) → IsTopRoot v d u
    changed-root pop = top-root v d u branch (record {
      kids = subst (λ n. Each (λ c. IsKid n (head_at n (branch_view d u).prefix + c.0) (IsRoot v d) (entries v d) (depth d) c.1) ds) (sym level)
          (subst (λ p. Each (λ c. IsKid t.level (head_at t.level p + c.0) (IsRoot v d) (entries v d) (depth d) c.1) ds) (sym prefix) kids-after);
      once = once-after;
      population = pop;
    })

    pub changed-frame : numbers d u ≡ branch_number u ∷ joined (numbers d) ds → Frame a d (numbers a w) (numbers d u)
    changed-frame e = two-frames a b d o1 n1 (branch_number w ∷ []) n2 r first second own resting (numbers a w) (numbers d u)
        old_times (λ q. ap (times q) e ∙ new_times q)

    pub changed-depth : depth d u ≡ depth a w
    changed-depth = depth-branch d u (branch-kind d u branch) ∙ level ∙ sym (depth-branch a w is)

    -- what it spells, where one key of the child changed
    pub changed-content : (key : ℕ) (new : Option ℕ) → head_at t.level key ≡ head_at t.level t.prefix + x
        → ((k : ℕ) → value_of word_order (kid (entries v b) now) k ≡ cond (eq_by_cmp word_order k key) new
        (value_of word_order (kid (entries v a) (value_of word_order cs x)) k))
        → (k : ℕ) → value_of word_order (joined (entries v d) ds) k ≡ cond (eq_by_cmp word_order k key) new (value_of word_order (entries v a w) k)
    changed-content key new at change k =
        joined-changed (head_at t.level) (head_at t.level t.prefix) (entries v a) (entries v d) cs ds x key new rising rising' others heads-before heads-after
        (each-weaker (λ c. Kept v a d c.1) (λ c. entries v d c.1 ≡ entries v a c.1) rest (λ c k. k.content) rest-same)
        at (λ k. ap (λ l. value_of word_order l k) (ap (kid (entries v d)) found ∙ kid-alike (entries v d) (entries v b) now
        (λ c e. (new-same c e).content)) ∙ change k) k
        ∙ ap (λ l. cond (eq_by_cmp word_order k key) new (value_of word_order l k)) (sym top.content)

    -- the branch is another array, of which the entries are these
    pub changed : (key : ℕ) (new : Option ℕ) (l : Entries ℕ) → head_at t.level key ≡ head_at t.level t.prefix + x
        → ((k : ℕ) → value_of word_order (kid (entries v b) now) k ≡ cond (eq_by_cmp word_order k key) new
        (value_of word_order (kid (entries v a) (value_of word_order cs x)) k))
        → is_sorted word_order l ≡ true → ((k : ℕ) → value_of word_order l k ≡ cond (eq_by_cmp word_order k key) new (value_of word_order (entries v a w) k))
        → (branch_view d u).population ≡ length l → Became v a d w u l
    changed key new l at change sorted is_l pop =
        let e : joined (entries v d) ds ≡ l = same-found (joined (entries v d) ds) l
        (joined-rises (head_at t.level) (head_at t.level t.prefix) (entries v d) ds (head-less t.level) rising' heads-after
        (each-weaker (λ c. IsKid t.level (head_at t.level t.prefix + c.0) (IsRoot v d) (entries v d) (depth d) c.1)
        (λ c. is_sorted word_order (entries v d c.1) ≡ true) ds (λ c i. root-rises v d c.1 i.sound) kids-after))
        sorted (λ k. changed-content key new at change k ∙ sym (is_l k)) in
        let to = changed-root (pop ∙ ap length (sym e)) in
        record { root = to.root; content = to.top.content ∙ e; frame = changed-frame to.top.blocks; deep = changed-depth }

-- what was taken over all is given back
pub given-back : (a b c : Blocks) (ns : List ℕ) → Frame a b [] ns → Frame b c ns [] → c ≡ a
given-back a b c ns f g = same_blocks c a (λ q. g.outside q refl ∙
    elim (holds q ns) as (λ t. holds q ns ≡ t → cond t None (block b q) ≡ block a q) [
      | true ↦ λ h. sym (f.fresh q h refl)
      | false ↦ λ h. f.outside q h
    ] refl)
