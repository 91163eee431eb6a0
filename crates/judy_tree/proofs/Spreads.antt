-- A leaf's keys in leaves of their own under a branch.
use Rattle.std.proofs.Common.{◌≡◌, ◌≢◌, ℕ, zero, suc, ◌+◌, ◌-◌, ◌/◌, ◌%◌, ◌<◌, ◌≤◌, Bool, true, false, cond, not, List, [], ◌∷◌, ◌++◌, take}
use Rattle.std.proofs.Common.{drop, length, Some, None, is_some, unwrap_or, ap, sym, ◌∙◌, refl, subst, arith, length-append, append_assoc}
use Rattle.std.proofs.Common.{append-nil}
use Rattle.std.proofs.lemmas.Bool.Decides.{nat_tests}
use Rattle.std.specs.declared.cmp.Ordering.TheVariants.{Greater}
use Rattle.std.specs.Prelude.{nat_lt, Result, Ok, Err}
use Rattle.std.specs.Ordering.{nat_cmp}
use Rattle.std.specs.FinMap.{is_sorted}
use Rattle.std.specs.FinMap.Entries.{by_order}
use Rattle.judy_arena.specs.Blocks.{Blocks, is_live}
use Rattle.judy_arena.specs.Frame.{holds, Frame}
use Rattle.judy_model.specs.Contents.{Entries, word_order, value_of, has_key, with_entry, without_key}
use Rattle.judy_tree.specs.Each.{Each}
use Rattle.judy_leaf.specs.Leaf.{IsLeaf, leaf_entries, leaf_numbers}
use Rattle.judy_tree.specs.Calls.{entry_at}
use Rattle.judy_branch.specs.Branch.{IsBranch, View, branch_view, branch_number}
use Rattle.judy_tree.specs.Nodes.{head_at, is_branch, joined, IsKid, depth}
use Rattle.judy_tree.specs.Root.{entries, numbers, IsRoot}
use Rattle.std.specs.Prelude.{nat_le}
use Rattle.std.specs.List.{list_all}
use Rattle.std.proofs.lemmas.Bool.{false≢true as not_true}
use Rattle.judy_model.specs.Contents.{max_word}
use Rattle.judy_model.proofs.lemmas.TestLemmas.{and_right, and_left}
use Rattle.judy_arena.specs.Totals.{are_distinct}
use Rattle.judy_tree.specs.Fork.{IsFork}
use Rattle.judy_tree.specs.Split.{IsRun, CanSpread, IsPartly, IsSpread, Spreads, SpreadsRest}
use Rattle.judy_arena.specs.Blocks.{ArenaState, count_up}
use Rattle.judy_refs.specs.declared.Ref.{Ref}
use Rattle.judy_arena.specs.declared.blocks.NoMemory.{NoMemory}
use Rattle.judy_arena.proofs.lemmas.FrameLaws.{frame-stays}
use Rattle.judy_tree.proofs.LeafLaws.{leaf-kind, leaf-live, leaf-kept, leaf-words, leaf-once, Kept as LeafKept}
use Rattle.judy_tree.proofs.lemmas.BranchLaws.{branch-kind, Kept as BranchKept}
use Rattle.judy_tree.proofs.lemmas.Heads.{prefix-head, same-above}
use Rattle.judy_tree.proofs.lemmas.Joins.{kid, each-weaker, each-append, each-below, rises-parts}
use Rattle.judy_tree.proofs.lemmas.Joins.{joined-same, word_other, times, times-append}
use Rattle.judy_tree.proofs.Nodes.{depth-leaf, depth-branch}
use Rattle.judy_tree.proofs.lemmas.Trees.{root-stays, Kept, IsTopRoot, top-root, root-top, root-kept, leaf-blocks, leaf-content, leaf-root}
use Rattle.judy_tree.proofs.Changes.{given-back, Became, rest-same, changed-root, changed-frame, changed-depth}
use Rattle.judy_tree.proofs.Changes.{new-same, rest-kept, new-stays, two-once, two-frames}
use Rattle.judy_tree.proofs.Steps.{with_view, own-kept, found-put, others-put, frames-chain}
use Rattle.judy_tree.proofs.Splits.{mono, each-at}

-- a byte above all goes to the end
put-last : (cs : Entries ℕ) (x c : ℕ) → Each (λ e. e.0 < x) cs → with_entry word_order cs x c ≡ cs ++ (x, c) ∷ []
put-last [] x c h = refl
put-last (e ∷ cs) x c h = ap (λ o. by_order o ((x, c) ∷ e ∷ cs) ((e.0, c) ∷ cs) (e ∷ with_entry word_order cs x c))
    (greater x e.0 h.0) ∙ ap (λ l. e ∷ l) (put-last cs x c h.1)
  where
    greater : (y x : ℕ) → x < y → nat_cmp y x ≡ Greater
    greater y x h = grind (arith, nat_tests)

-- and is not there
none-above : (cs : Entries ℕ) (x : ℕ) → Each (λ e. e.0 < x) cs → value_of word_order cs x ≡ None
none-above [] x h = refl
none-above (e ∷ cs) x h = ap (λ t. cond t (Some e.1) (value_of word_order cs x))
    (word_other x e.0 (λ i. let n = h.0 in absurd (omega arith))) ∙ none-above cs x h.1

all-others : (cs : Entries ℕ) (x : ℕ) → Each (λ e. e.0 < x) cs → without_key word_order cs x ≡ cs
all-others [] x h = refl
all-others (e ∷ cs) x h = ap (λ t. cond (not t) (e ∷ without_key word_order cs x) (without_key word_order cs x))
    (word_other x e.0 (λ i. let n = h.0 in absurd (omega arith))) ∙ ap (λ l. e ∷ l) (all-others cs x h.1)

joined-append : {A : Type 0} (f : ℕ → List A) (xs ys : Entries ℕ) → joined f (xs ++ ys) ≡ joined f xs ++ joined f ys
joined-append f [] ys = refl
joined-append f (x ∷ xs) ys = ap (λ l. f x.1 ++ l) (joined-append f xs ys) ∙ sym (append_assoc (f x.1) (joined f xs) (joined f ys))

take_both : {A : Type 0} (n m : ℕ) (xs : List A) → take n xs ++ take m (drop n xs) ≡ take (n + m) xs
take_both zero m xs = ap (λ k. take k xs) (one m)
  where
    one : (m : ℕ) → m ≡ 0 + m
    one m = omega arith
take_both (suc n) zero [] = let e : suc n + zero ≡ suc (n + zero) = omega arith in ap (λ k. take k []) (sym e)
take_both (suc n) (suc m) [] = let e : suc n + suc m ≡ suc (n + suc m) = omega arith in ap (λ k. take k []) (sym e)
take_both (suc n) m (x ∷ xs) = let e : suc (n + m) ≡ suc n + m = omega arith in ap (λ l. x ∷ l) (take_both n m xs) ∙ ap (λ k. take k (x ∷ xs)) e

pub rises-at : (l : Entries ℕ) (i j : ℕ) → is_sorted word_order l ≡ true → i < j → j < length l → (entry_at l i).0 < (entry_at l j).0
rises-at [] i j s h n = absurd (omega arith)
rises-at (e ∷ l) i zero s h n = absurd (omega arith)
rises-at (e ∷ l) zero (suc j) s h n = above l j (each-below e.0 l (rises-parts e l s).0) (omega arith)
  where
    above : (l : Entries ℕ) (j : ℕ) → Each (λ x. e.0 < x.0) l → j < length l → e.0 < (entry_at l j).0
    above [] j h n = absurd (omega arith)
    above (x ∷ l) zero h n = h.0
    above (x ∷ l) (suc j) h n = above l j h.1 (omega arith)
rises-at (e ∷ l) (suc i) (suc j) s h n = rises-at l i j (rises-parts e l s).1 (omega arith) (omega arith)

-- a stretch of a list, by places
pub each-stretch : (P : ℕ × ℕ → Type 0) (l : Entries ℕ) (from count : ℕ)
    → ((i : ℕ) → from ≤ i → i < from + count → P (entry_at l i)) → from + count ≤ length l → Each P (take count (drop from l))
each-stretch P l zero zero h n = tt
each-stretch P [] zero (suc count) h n = absurd (omega arith)
each-stretch P (e ∷ l) zero (suc count) h n = (
  h 0 (omega arith) (omega arith),
  each-stretch P l 0 count
      (λ i a b. h (suc i) (omega arith) (omega arith)) (omega arith),
)
each-stretch P [] (suc from) count h n = absurd (omega arith)
each-stretch P (e ∷ l) (suc from) count h n = each-stretch P l from count (λ i a b. h (suc i) (omega arith) (omega arith)) (omega arith)

pub stretch_length : (l : Entries ℕ) (from count : ℕ) → from + count ≤ length l → length (take count (drop from l)) ≡ count
stretch_length l zero zero n = refl
stretch_length [] zero (suc count) n = absurd (omega arith)
stretch_length (e ∷ l) zero (suc count) n = let r = stretch_length l 0 count (omega arith) in omega arith
stretch_length [] (suc from) count n = absurd (omega arith)
stretch_length (e ∷ l) (suc from) count n = stretch_length l from count (omega arith)

-- a key of the leaf has a byte at the branch
pub byte-there : (v : Bool) (a : Blocks) (w key : ℕ) (is : is_branch w ≡ true) → IsRoot v a w → head_at (branch_view a w).level
    key / 256 ≡ head_at (branch_view a w).level (branch_view a w).prefix / 256
    → ((x : ℕ) → x < 256 → head_at (branch_view a w).level key ≢ head_at (branch_view a w).level (branch_view a w).prefix + x) → ⊥
byte-there v a w key is root same out =
    let top = root-top v a w is root in
    let z = prefix-head (branch_view a w).level (branch_view a w).prefix top.view.level top.view.prefix in
    out (head_at (branch_view a w).level key % 256) (omega arith) (omega arith)

-- a stretch of keys came as a last child
pub record Wider (v : Bool) (a d : Blocks) (w u keys x part : ℕ) (l : Entries ℕ) : Type 0 where
  pub became : Became v a d w u l
  pub view : branch_view d u ≡ with_view (branch_view a w) keys ((branch_view a w).children ++ (x, part) ∷ [])

pub wider : (v : Bool) (a b d : Blocks) (w u x part keys : ℕ) (is : is_branch w ≡ true) (node : IsRoot v a w)
    → Each (λ c. c.0 < x) (branch_view a w).children → IsLeaf v b part → 0 < length (leaf_entries v b part)
    → Each (λ e. head_at (branch_view a w).level e.0 ≡ head_at (branch_view a w).level (branch_view a w).prefix + x)
    (leaf_entries v b part) → Frame a b [] (leaf_numbers b part)
    → IsBranch d u → branch_view d u ≡ with_view (branch_view b w) keys (with_entry word_order (branch_view b w).children x part)
    → Frame b d (branch_number w ∷ []) (branch_number u ∷ [])
    → keys ≡ length (entries v a w) + length (leaf_entries v b part) → Wider v a d w u keys x part (entries v a w ++ leaf_entries v b part)
wider v a b d w u x part keys is node last leaf some heads first branch view second count =
    let t = branch_view a w in
    let top = root-top v a w is node in
    let s = top.view.rising in
    let none = none-above t.children x last in
    let k = leaf-kind v b part leaf in
    let f : Frame a b (kid (numbers a) (value_of word_order t.children x)) (numbers b part) =
    subst (λ l. Frame a b l (numbers b part)) (sym (ap (kid (numbers a)) none)) (subst (Frame a b []) (sym (leaf-blocks b part k)) first) in
    let same = (own-kept v a w x is node b (numbers b part) f).view in
    let view2 : branch_view d u ≡ with_view t keys (with_entry word_order t.children x part) = view
    ∙ ap (λ z. with_view z keys (with_entry word_order z.children x part)) same in
    let e1 = ap (λ z. value_of word_order z.children x) view2 ∙ found-put t.children x part in
    let e2 = ap (λ z. without_key word_order z.children x) view2 ∙ others-put t.children x part s in
    let kid : (c : ℕ) → Some part ≡ Some c → IsKid t.level (head_at t.level t.prefix + x) (IsRoot v b) (entries v b) (depth b) c =
    λ c e. let i : part ≡ c = ap (λ o. unwrap_or o 0) e in subst (IsKid t.level (head_at t.level t.prefix + x) (IsRoot v b) (entries v b) (depth b)) i (record {
      sound = leaf-root v b part leaf;
      deeper = let d8 = depth-leaf b part k in let l6 = top.view.level in omega arith;
      filled = subst (λ l. 0 < length l) (sym (leaf-content v b part k)) some;
      heads = subst (Each (λ z. head_at t.level z.0 ≡ head_at t.level t.prefix + x)) (sym (leaf-content v b part k)) heads;
    }) in
    let rest = rest-same v a b d w x (Some part) (branch_number u ∷ []) is node f second in
    let pk = new-same v a b d w x (Some part) (branch_number u ∷ []) is node f second u branch (ap (λ z. z.level) view2)
    (ap (λ z. z.prefix) view2) refl e1 e2 kid part refl in
    let is_joined : joined (entries v d) (branch_view d u).children ≡ entries v a w ++ leaf_entries v b part =
    ap (λ z. joined (entries v d) z.children) view2 ∙ ap (joined (entries v d)) (put-last t.children x part last) ∙ joined-append
    (entries v d) t.children ((x, part) ∷ [])
    ∙ ap (λ l. l ++ (entries v d part ++ []))
    (joined-same (entries v d) (entries v a) t.children
    (each-weaker (λ c. Kept v a d c.1) (λ c. entries v d c.1 ≡ entries v a c.1) t.children (λ c i. i.content)
    (subst (Each (λ c. Kept v a d c.1)) (all-others t.children x last) rest)) ∙ sym top.content)
    ∙ ap (λ l. entries v a w ++ l) (append-nil (entries v d part) ∙ pk.content ∙ leaf-content v b part k) in
    let to = changed-root v a b d w x (Some part) (branch_number u ∷ []) is node f second u branch (ap (λ z. z.level) view2)
    (ap (λ z. z.prefix) view2) refl e1 e2 kid
    (ap (λ z. z.population) view2 ∙ count ∙ sym (length-append (entries v a w) (leaf_entries v b part)) ∙ sym (ap length is_joined)) in
    record {
      became = record {
        root = to.root;
        content = to.top.content ∙ is_joined;
        frame = changed-frame v a b d w x (Some part) (branch_number u ∷ []) is node f second u branch (ap (λ z. z.level) view2)
            (ap (λ z. z.prefix) view2) refl e1 e2 kid to.top.blocks;
        deep = changed-depth v a b d w x (Some part) (branch_number u ∷ []) is node f second u branch (ap (λ z. z.level) view2)
            (ap (λ z. z.prefix) view2) refl e1 e2 kid;
      };
      view = view2 ∙ ap (with_view t keys) (put-last t.children x part last);
    }

-- past a stretch the heads are higher
beyond : (l : Entries ℕ) (level place count i : ℕ) → is_sorted word_order l ≡ true → 0 < count → place + count ≤ i → i < length l
    → head_at level (entry_at l (place + count)).0 ≢ head_at level (entry_at l place).0 → head_at level (entry_at l place).0
    < head_at level (entry_at l i).0
beyond l level place count i s some from to ne =
    let a = rises-at l place (place + count) s (omega arith) (omega arith) in
    let b : head_at level (entry_at l place).0 ≤ head_at level (entry_at l (place + count)).0 = mono level (entry_at l place).0
    (entry_at l (place + count)).0 (omega arith) in
    let c : head_at level (entry_at l (place + count)).0 ≤ head_at level (entry_at l i).0 = elim (nat_lt (place + count) i) as
    (λ t. nat_lt (place + count) i ≡ t → head_at level (entry_at l (place + count)).0 ≤ head_at level (entry_at l i).0) [
      | true ↦ λ e. let r = rises-at l (place + count) i s (less (place + count) i e) to in mono level
          (entry_at l (place + count)).0 (entry_at l i).0 (omega arith)
      | false ↦ λ e. let n = not_less (place + count) i e in
          let same : place + count ≡ i = omega arith in subst (λ j. head_at level (entry_at l (place + count)).0 ≤ head_at level
          (entry_at l j).0) same (omega arith)
    ] refl in
    omega arith
  where
    less : (l m : ℕ) → nat_lt l m ≡ true → l < m
    less l m e = grind (arith, nat_tests)

    not_less : (l m : ℕ) → nat_lt l m ≡ false → m ≤ l
    not_less l m e = grind (arith, nat_tests)

-- what the next stretch needs
pub record Next (v : Bool) (a d : Blocks) (leaf node u place count : ℕ) : Type 0 where
  pub kept : LeafKept v a d leaf
  pub became : Became v a d node u (take (place + count) (leaf_entries v a leaf))
  pub level : (branch_view d u).level ≡ (branch_view a node).level
  pub prefix : (branch_view d u).prefix ≡ (branch_view a node).prefix
  pub apart : (q : ℕ) → holds q (leaf_numbers d leaf) ≡ true → holds q (numbers d u) ≡ false
  pub later : (i : ℕ) → place + count ≤ i → i < length (leaf_entries v d leaf)
      → Each (λ c. head_at (branch_view d u).level (branch_view d u).prefix + c.0 < head_at (branch_view d u).level
      (entry_at (leaf_entries v d leaf) i).0) (branch_view d u).children

-- the branch's own block while a leaf is made
pub own-while : (v : Bool) (a b : Blocks) (w x part : ℕ) (is : is_branch w ≡ true) → IsRoot v a w → Each (λ c. c.0 < x)
    (branch_view a w).children → Frame a b [] (leaf_numbers b part) → (BranchKept a b w)
    × (has_key word_order (branch_view b w).children x ≡ false)
own-while v a b w x part is node last first =
    let none = none-above (branch_view a w).children x last in
    let k = own-kept v a w x is node b (leaf_numbers b part) (subst (λ o. Frame a b (kid (numbers a) o) (leaf_numbers b part)) (sym none) first) in
    (k, ap (λ z. has_key word_order z.children x) k.view ∙ ap is_some none)

-- the children's bytes are below that of a later key
pub bytes-below : (t : View) (x key : ℕ) → Each (λ c. head_at t.level t.prefix + c.0 < head_at t.level key) t.children
    → head_at t.level key ≡ head_at t.level t.prefix + x → Each (λ c. c.0 < x) t.children
bytes-below t x key h at = each-weaker (λ c. head_at t.level t.prefix + c.0 < head_at t.level key) (λ c. c.0 < x) t.children (λ c n. omega arith) h

pub next : (v : Bool) (a b d : Blocks) (leaf node u x part place count key : ℕ) (is : is_branch node ≡ true)
    (root : IsRoot v a node) → IsLeaf v a leaf → is_sorted word_order (leaf_entries v a leaf) ≡ true
    → entries v a node ≡ take place (leaf_entries v a leaf) → ((q : ℕ) → holds q (leaf_numbers a leaf) ≡ true → holds q (numbers a node) ≡ false)
    → ((i : ℕ) → place ≤ i → i < length (leaf_entries v a leaf)
    → Each (λ c. head_at (branch_view a node).level (branch_view a node).prefix + c.0 < head_at (branch_view a node).level
    (entry_at (leaf_entries v a leaf) i).0) (branch_view a node).children)
    → 0 < count → place + count ≤ length (leaf_entries v a leaf)
    → ((i : ℕ) → place ≤ i → i < place + count → head_at (branch_view a node).level (entry_at (leaf_entries v a leaf) i).0
    ≡ head_at (branch_view a node).level (entry_at (leaf_entries v a leaf) place).0)
    → (place + count < length (leaf_entries v a leaf) → head_at (branch_view a node).level
    (entry_at (leaf_entries v a leaf) (place + count)).0 ≢ head_at (branch_view a node).level
    (entry_at (leaf_entries v a leaf) place).0)
    → key ≡ (entry_at (leaf_entries v a leaf) place).0 → head_at (branch_view a node).level key ≡ head_at
    (branch_view a node).level (branch_view a node).prefix + x
    → IsLeaf v b part → leaf_entries v b part ≡ take count (drop place (leaf_entries v a leaf)) → Frame a b [] (leaf_numbers b part)
    → IsBranch d u → branch_view d u ≡ with_view (branch_view b node) (place + count)
    (with_entry word_order (branch_view b node).children x part) → Frame b d (branch_number node ∷ []) (branch_number u ∷ [])
    → Next v a d leaf node u place count
next v a b d leaf node u x part place count key is root sound sorted content apart later some within same other key_is at
    part_leaf part_is first branch view second =
    let t = branch_view a node in
    let l : Entries ℕ = leaf_entries v a leaf in
    let here : head_at t.level (entry_at l place).0 ≡ head_at t.level t.prefix + x = ap (head_at t.level) (sym key_is) ∙ at in
    let last : Each (λ c. c.0 < x) t.children = bytes-below t x (entry_at l place).0 (later place (omega arith) (omega arith)) here in
    let size : length (leaf_entries v b part) ≡ count = ap length part_is ∙ stretch_length l place count within in
    let placed : length (entries v a node) ≡ place = ap length content ∙ stretch_length l 0 place (omega arith) in
    let w = wider v a b d node u x part (place + count) is root last part_leaf (omega arith)
    (subst (Each (λ e. head_at t.level e.0 ≡ head_at t.level t.prefix + x)) (sym part_is)
    (each-stretch (λ e. head_at t.level e.0 ≡ head_at t.level t.prefix + x) l place count (λ i p q. same i p q ∙ here) within))
    first branch view second (omega arith) in
    let kept = leaf-kept v a d leaf sound
    (λ q h. (frame-stays a d (numbers a node) (numbers d u) q w.became.frame (leaf-live v a leaf q sound h) (apart q h)).1) in
    let lv = ap (λ z. z.level) w.view in
    let pf = ap (λ z. z.prefix) w.view in
    record {
      kept = kept;
      became = subst (Became v a d node u) (ap (λ z. z ++ leaf_entries v b part) content ∙ ap (λ z. take place l ++ z) part_is
          ∙ take_both place count l) w.became;
      level = lv;
      prefix = pf;
      apart = λ q h. let h2 : holds q (leaf_numbers a leaf) ≡ true = ap (holds q) (sym kept.numbers) ∙ h in
          (frame-stays a d (numbers a node) (numbers d u) q w.became.frame (leaf-live v a leaf q sound h2) (apart q h2)).0;
      later = λ i from to.
          let to2 : i < length l = omega (arith, ap length kept.entries) in
          let after : head_at t.level (entry_at l place).0 < head_at t.level (entry_at l i).0 = beyond l t.level place count i
          sorted some from to2 (other (omega arith)) in
          subst (λ z. Each (λ c. head_at z.level z.prefix + c.0 < head_at z.level (entry_at (leaf_entries v d leaf) i).0) z.children) (sym w.view)
          (subst (λ m. Each (λ c. head_at t.level t.prefix + c.0 < head_at t.level (entry_at m i).0) (t.children ++ (x, part) ∷ [])) (sym kept.entries)
          (each-append (λ c. head_at t.level t.prefix + c.0 < head_at t.level (entry_at l i).0) t.children ((x, part) ∷ [])
          (later i (omega arith) to2) (omega arith, tt)));
    }

-- ---- the first two stretches

-- a leaf is the same after a change that has none of its numbers
pub leaf-rests : (v : Bool) (a d : Blocks) (leaf : ℕ) (new : List ℕ) → IsLeaf v a leaf → Frame a d [] new → LeafKept v a d leaf
leaf-rests v a d leaf new sound f = leaf-kept v a d leaf sound (λ q h. (frame-stays a d [] new q f (leaf-live v a leaf q sound h) refl).1)

all_small : (l : Entries ℕ) → list_all (λ e. nat_le e.0 max_word) l ≡ true → Each (λ e. e.0 < 18446744073709551616) l
all_small [] h = tt
all_small (e ∷ l) h = (
  small e.0 (and_left (nat_le e.0 max_word) (list_all (λ e. nat_le e.0 max_word) l) h),
  all_small l
      (and_right (nat_le e.0 max_word) (list_all (λ e. nat_le e.0 max_word) l) h),
)
  where
    small : (k : ℕ) → nat_le k 18446744073709551615 ≡ true → k < 18446744073709551616
    small k h = grind (arith, nat_tests)

pub record Paired (v : Bool) (a d : Blocks) (leaf u level place : ℕ) : Type 0 where
  pub kept : LeafKept v a d leaf
  pub root : IsRoot v d u
  pub content : entries v d u ≡ take place (leaf_entries v d leaf)
  pub frame : Frame a d [] (numbers d u)
  pub deep : depth d u ≡ level
  pub apart : (q : ℕ) → holds q (leaf_numbers d leaf) ≡ true → holds q (numbers d u) ≡ false
  pub agree : (i : ℕ) → i < length (leaf_entries v d leaf) → head_at (branch_view d u).level
      (entry_at (leaf_entries v d leaf) i).0 / 256 ≡ head_at (branch_view d u).level (branch_view d u).prefix / 256
  pub later : (i : ℕ) → place ≤ i → i < length (leaf_entries v d leaf)
      → Each (λ c. head_at (branch_view d u).level (branch_view d u).prefix + c.0 < head_at (branch_view d u).level
      (entry_at (leaf_entries v d leaf) i).0) (branch_view d u).children

module _ (v : Bool) (a b e d : Blocks) (leaf u low high level sample other first second : ℕ) (sound : IsLeaf v a leaf) (small : level ≤ 6)
    (sample_is : sample ≡ (entry_at (leaf_entries v a leaf) 0).0) (other_is : other ≡ (entry_at (leaf_entries v a leaf) first).0)
    (some1 : 0 < first) (some2 : 0 < second) (within : first + second ≤ length (leaf_entries v a leaf))
    (same1 : (i : ℕ) → 0 ≤ i → i < 0 + first → head_at level (entry_at (leaf_entries v a leaf) i).0 ≡ head_at level (entry_at (leaf_entries v a leaf) 0).0)
    (same2 : (i : ℕ) → first ≤ i → i < first + second → head_at level (entry_at (leaf_entries v a leaf) i).0 ≡ head_at level
    (entry_at (leaf_entries v a leaf) first).0)
    (apart1 : head_at level (entry_at (leaf_entries v a leaf) first).0 ≢ head_at level (entry_at (leaf_entries v a leaf) 0).0)
    (apart2 : first + second < length (leaf_entries v a leaf) → head_at level
    (entry_at (leaf_entries v a leaf) (first + second)).0 ≢ head_at level (entry_at (leaf_entries v a leaf) first).0)
    (agree : (i : ℕ) → i < length (leaf_entries v a leaf) → (m : ℕ) → m < level → head_at m (entry_at (leaf_entries v a leaf) i).0
    ≡ head_at m (entry_at (leaf_entries v a leaf) 0).0)
    (low_leaf : IsLeaf v b low) (low_is : leaf_entries v b low ≡ take first (drop 0 (leaf_entries v a leaf))) (low_frame : Frame a b [] (leaf_numbers b low))
    (high_leaf : IsLeaf v e high) (high_is : leaf_entries v e high ≡ take second (drop first (leaf_entries v a leaf)))
    (high_frame : Frame b e [] (leaf_numbers e high))
    (branch : IsBranch d u) (view : IsFork (branch_view d u) level sample other (first + second) low high) (frame : Frame e d [] (branch_number u ∷ [])) where
  abbrev l : Entries ℕ
  l = leaf_entries v a leaf

  sorted : is_sorted word_order (leaf_entries v a leaf) ≡ true
  sorted = (leaf-words v a leaf sound).0

  abbrev x : ℕ
  x = head_at level sample % 256

  abbrev y : ℕ
  y = head_at level other % 256

  abbrev base : ℕ
  base = head_at level (branch_view d u).prefix

  abbrev ns : List ℕ
  ns = leaf_numbers b low

  head0 : head_at level (entry_at l 0).0 ≡ base + x
  head0 = ap (head_at level) (sym sample_is) ∙ sym view.one

  head1 : head_at level (entry_at l first).0 ≡ base + y
  head1 = ap (head_at level) (sym other_is) ∙ sym view.other

  less : x < y
  less =
      let r = rises-at l 0 first sorted some1 (omega arith) in
      let m = mono level (entry_at l 0).0 (entry_at l first).0 (omega arith) in
      let p = head0 in let q = head1 in omega arith

  no_own : (q : ℕ) → holds q [] ≡ true → (is_live b q ≡ true) × (holds q [] ≡ false)
  no_own q h = absurd (not_true h)

  rests : (q : ℕ) → holds q ns ≡ true → (is_live b q ≡ true) × (holds q [] ≡ false) × (holds q [] ≡ false)
  rests q h = (leaf-live v b low q low_leaf h, refl, refl)

  low-kind : is_branch low ≡ false
  low-kind = leaf-kind v b low low_leaf

  high-kind : is_branch high ≡ false
  high-kind = leaf-kind v e high high_leaf

  low-kept : Kept v b d low
  low-kept = root-kept v b d low (leaf-root v b low low_leaf) (λ q h. rest-kept b e d [] (leaf_numbers e high) []
      (branch_number u ∷ []) ns high_frame frame no_own rests q (ap (holds q) (sym (leaf-blocks b low low-kind)) ∙ h))

  high-kept : Kept v e d high
  high-kept = root-kept v e d high (leaf-root v e high high_leaf)
      (λ q h. (new-stays b e d [] (leaf_numbers e high) [] (branch_number u ∷ []) ns high_frame frame no_own rests q
      (ap (holds q) (sym (leaf-blocks e high high-kind)) ∙ h)).1)

  low-entries : entries v d low ≡ take first l
  low-entries = low-kept.content ∙ leaf-content v b low low-kind ∙ low_is

  high-entries : entries v d high ≡ take second (drop first l)
  high-entries = high-kept.content ∙ leaf-content v e high high-kind ∙ high_is

  abbrev ds : Entries ℕ
  ds = (x, low) ∷ (y, high) ∷ []

  children-are : (branch_view d u).children ≡ ds
  children-are = view.children ∙ put-last ((x, low) ∷ []) y high (less, tt)

  kids : Each (λ c. IsKid level (base + c.0) (IsRoot v d) (entries v d) (depth d) c.1) ds
  kids = (
    record {
      sound = low-kept.root;
      deeper = let p = low-kept.deep ∙ depth-leaf b low low-kind in omega arith;
      filled = let n = ap length low-entries ∙ stretch_length l 0 first (omega arith) in omega arith;
      heads = subst (Each (λ z. head_at level z.0 ≡ base + x)) (sym low-entries) (each-stretch (λ z. head_at level z.0 ≡ base + x)
          l 0 first (λ i p q. same1 i p q ∙ head0) (omega arith));
    },
    (
      record {
        sound = high-kept.root;
        deeper = let p = high-kept.deep ∙ depth-leaf e high high-kind in omega arith;
        filled = let n = ap length high-entries ∙ stretch_length l first second within in omega arith;
        heads = subst (Each (λ z. head_at level z.0 ≡ base + y)) (sym high-entries)
            (each-stretch (λ z. head_at level z.0 ≡ base + y) l first second (λ i p q. same2 i p q ∙ head1) within);
      },
      tt,
    ),
  )

  new_times : (q : ℕ) → times q (branch_number u ∷ joined (numbers d) ds) ≡ times q (branch_number u ∷ []) + (times q (leaf_numbers e high) + times q ns)
  new_times q =
      let p = ap (times q) (low-kept.blocks ∙ leaf-blocks b low low-kind) in
      let r = ap (times q) (high-kept.blocks ∙ leaf-blocks e high high-kind) in
      let s = times-append q (numbers d low) (numbers d high ++ []) in
      let n = ap (times q) (append-nil (numbers d high)) in
      omega arith

  old_times : (q : ℕ) → times q ns ≡ times q [] + (times q [] + times q ns)
  old_times q = omega arith

  content-is : joined (entries v d) ds ≡ take (first + second) l
  content-is = ap (λ z. entries v d low ++ z) (append-nil (entries v d high)) ∙ ap (λ z. z ++ entries v d high) low-entries
      ∙ ap (λ z. take first l ++ z) high-entries ∙ take_both first second l

  to : IsTopRoot v d u
  to =
      let t = branch_view d u in
      top-root v d u branch (record {
        kids = subst (Each (λ c. IsKid t.level (head_at t.level t.prefix + c.0) (IsRoot v d) (entries v d) (depth d) c.1)) (sym children-are)
            (subst (λ n. Each (λ c. IsKid n (head_at n t.prefix + c.0) (IsRoot v d) (entries v d) (depth d) c.1) ds) (sym view.level) kids);
        once = ap (λ z. are_distinct (branch_number u ∷ joined (numbers d) z)) children-are
            ∙ two-once b e d [] (leaf_numbers e high) [] (branch_number u ∷ []) ns high_frame frame no_own rests ns
            (branch_number u ∷ joined (numbers d) ds) (leaf-once v b low low_leaf) (leaf-once v e high high_leaf) refl old_times new_times;
        population = view.population ∙ sym (ap length content-is ∙ stretch_length l 0 (first + second) (omega arith))
            ∙ ap (λ z. length (joined (entries v d) z)) (sym children-are);
      })

  whole : Frame a d [] (numbers d u)
  whole = frames-chain a b d [] ns (numbers d u) low_frame (two-frames b e d [] (leaf_numbers e high) [] (branch_number u ∷ []) ns
      high_frame frame no_own rests ns (numbers d u) old_times
      (λ q. ap (times q) (to.top.blocks ∙ ap (λ z. branch_number u ∷ joined (numbers d) z) children-are) ∙ new_times q))

  kept : LeafKept v a d leaf
  kept = leaf-rests v a d leaf (numbers d u) sound whole

  agrees : (i : ℕ) → i < length l → head_at level (entry_at l i).0 / 256 ≡ base / 256
  agrees i h =
      let s = all_small l (leaf-words v a leaf sound).1 in
      let k = same-above level (entry_at l i).0 (entry_at l 0).0 (omega arith) (each-at (λ z. z.0 < 18446744073709551616) l i s h)
      (each-at (λ z. z.0 < 18446744073709551616) l 0 s (omega arith)) (agree i h) in
      let p = view.one in let q = ap (head_at level) sample_is in
      omega arith

  laters : (i : ℕ) → first + second ≤ i → i < length l → Each (λ c. base + c.0 < head_at level (entry_at l i).0) ds
  laters i from upto =
      let n = beyond l level first second i sorted some2 from upto (apart2 (omega arith)) in
      let p = head1 in let q = less in
      (omega arith, (omega arith, tt))

  pub paired : Paired v a d leaf u level (first + second)
  paired = record {
    kept = kept;
    root = to.root;
    content = to.top.content ∙ ap (joined (entries v d)) children-are ∙ content-is ∙ ap (take (first + second)) (sym kept.entries);
    frame = whole;
    deep = depth-branch d u (branch-kind d u branch) ∙ view.level;
    apart = λ q h. (frame-stays a d [] (numbers d u) q whole (leaf-live v a leaf q sound (ap (holds q) (sym kept.numbers) ∙ h)) refl).0;
    agree = λ i h. ap (λ n. head_at n (entry_at (leaf_entries v d leaf) i).0 / 256) view.level
        ∙ ap (λ m. head_at level (entry_at m i).0 / 256) kept.entries ∙ agrees i (omega (arith, ap length kept.entries))
        ∙ ap (λ n. head_at n (branch_view d u).prefix / 256) (sym view.level);
    later = λ i p h. subst
        (λ n. Each (λ c. head_at n (branch_view d u).prefix + c.0 < head_at n (entry_at (leaf_entries v d leaf) i).0)
        (branch_view d u).children) (sym view.level)
        (subst (Each (λ c. base + c.0 < head_at level (entry_at (leaf_entries v d leaf) i).0)) (sym children-are)
        (subst (λ m. Each (λ c. base + c.0 < head_at level (entry_at m i).0) ds) (sym kept.entries) (laters i p (omega (arith, ap length kept.entries)))));
  }

-- the first stretch is not all, and the next key has another head
pub first-apart : (l : Entries ℕ) (level first : ℕ) → 0 < first → 0 + first ≤ length l
    → ((i : ℕ) → 0 ≤ i → i < 0 + first → head_at level (entry_at l i).0 ≡ head_at level (entry_at l 0).0)
    → (0 + first < length l → head_at level (entry_at l (0 + first)).0 ≢ head_at level (entry_at l 0).0) → head_at level
    (entry_at l (length l - 1)).0 ≢ head_at level (entry_at l 0).0 → head_at level (entry_at l first).0 ≢ head_at level
    (entry_at l 0).0
first-apart l level first some within same other differ =
    elim (nat_lt first (length l)) as (λ t. nat_lt first (length l) ≡ t → head_at level (entry_at l first).0 ≢ head_at level (entry_at l 0).0) [
      | true ↦ λ e. let z : 0 + first ≡ first = omega arith in subst (λ n. head_at level (entry_at l n).0 ≢ head_at level
          (entry_at l 0).0) z (other (let n = less first (length l) e in omega arith))
      | false ↦ λ e. absurd (differ (same (length l - 1) (omega arith) (let n = not_less first (length l) e in omega arith)))
    ] refl
  where
    less : (l m : ℕ) → nat_lt l m ≡ true → l < m
    less l m e = grind (arith, nat_tests)

    not_less : (l m : ℕ) → nat_lt l m ≡ false → m ≤ l
    not_less l m e = grind (arith, nat_tests)

-- ---- the same, as the calls say it

pub paired-by : (v : Bool) (a b e d : Blocks) (leaf u low high level sample other first second : ℕ) → CanSpread v a leaf level
    → sample ≡ (entry_at (leaf_entries v a leaf) 0).0 → other ≡ (entry_at (leaf_entries v a leaf) first).0
    → IsRun (leaf_entries v a leaf) level 0 first → IsRun (leaf_entries v a leaf) level first second
    → IsLeaf v b low → leaf_entries v b low ≡ take first (drop 0 (leaf_entries v a leaf)) → Frame a b [] (leaf_numbers b low)
    → IsLeaf v e high → leaf_entries v e high ≡ take second (drop first (leaf_entries v b leaf)) → Frame b e [] (leaf_numbers e high)
    → IsBranch d u → IsFork (branch_view d u) level sample other (first + second) low high → Frame e d [] (branch_number u ∷ [])
    → Paired v a d leaf u level (first + second)
paired-by v a b e d leaf u low high level sample other first second can sample_is other_is r1 r2 low_leaf low_is low_frame
    high_leaf high_is high_frame branch view frame =
    paired v a b e d leaf u low high level sample other first second can.leaf can.low sample_is other_is r1.some r2.some r2.within r1.same r2.same
    (first-apart (leaf_entries v a leaf) level first r1.some r1.within r1.same r1.other can.differ) r2.other can.agree low_leaf low_is low_frame high_leaf
    (high_is ∙ ap (λ m. take second (drop first m)) (leaf-rests v a b leaf (leaf_numbers b low) can.leaf low_frame).entries) high_frame branch view frame

pub paired-partly : (v : Bool) (a d : Blocks) (leaf u level place : ℕ) → CanSpread v a leaf level → Paired v a d leaf u level
    place → IsBranch d u → place ≤ length (leaf_entries v a leaf) → IsPartly v d leaf u place
paired-partly v a d leaf u level place can p branch within =
    let e = ap length p.kept.entries in
    let few = can.few in
    record {
      leaf = p.kept.leaf;
      few = omega arith;
      root = p.root;
      branch = branch-kind d u branch;
      place = omega arith;
      content = p.content;
      apart = p.apart;
      agree = p.agree;
      later = p.later;
    }

pub spread-ends : (v : Bool) (old mid new : ArenaState) (leaf u level place : ℕ) → Paired v old.blocks mid.blocks leaf u level
    place → mid.refusals ≡ old.refusals → (r : Result Ref NoMemory) → SpreadsRest v mid new leaf u r → Spreads v old new leaf level r
spread-ends v old mid new leaf u level place p e (Ok x) s = record {
  root = s.root;
  branch = s.branch;
  content = s.content ∙ p.kept.entries;
  frame = frames-chain old.blocks mid.blocks new.blocks [] (numbers mid.blocks u) (numbers new.blocks x) p.frame s.frame;
  deep = s.deep ∙ p.deep;
  refusals = s.refusals ∙ e;
}
spread-ends v old mid new leaf u level place p e (Err x) s = record {
  blocks = given-back old.blocks mid.blocks new.blocks
      (numbers mid.blocks u) p.frame s.frame;
  refusals = s.refusals ∙ ap count_up e;
}

take_all : (l : Entries ℕ) → take (length l) l ≡ l
take_all [] = refl
take_all (e ∷ l) = ap (λ m. e ∷ m) (take_all l)

-- all keys stand under the branch
pub rest-done : (v : Bool) (s : ArenaState) (leaf node place : ℕ) → IsPartly v s.blocks leaf node place → place ≡ length
    (leaf_entries v s.blocks leaf) → IsSpread v s s (numbers s.blocks node) leaf (depth s.blocks node) node
rest-done v s leaf node place p e = record {
  root = p.root;
  branch = p.branch;
  content = p.content ∙ ap (λ n. take n (leaf_entries v s.blocks leaf)) e ∙ take_all (leaf_entries v s.blocks leaf);
  frame = root-stays v s.blocks node p.root;
  deep = refl;
  refusals = refl;
}

-- the children's bytes are below that of the next key
pub next-above : (v : Bool) (a : Blocks) (leaf node place key x : ℕ) → IsPartly v a leaf node place → place < length
    (leaf_entries v a leaf) → key ≡ (entry_at (leaf_entries v a leaf) place).0
    → head_at (branch_view a node).level key ≡ head_at (branch_view a node).level (branch_view a node).prefix + x
    → Each (λ c. c.0 < x) (branch_view a node).children
next-above v a leaf node place key x p more key_is at = bytes-below (branch_view a node) x key
    (subst (λ k. Each (λ d. head_at (branch_view a node).level (branch_view a node).prefix + d.0 < head_at
    (branch_view a node).level k) (branch_view a node).children) (sym key_is) (p.later place (omega arith) more)) at

-- the next key has a byte
pub next-byte : (v : Bool) (a : Blocks) (leaf node place key : ℕ) → IsPartly v a leaf node place → place < length
    (leaf_entries v a leaf) → key ≡ (entry_at (leaf_entries v a leaf) place).0
    → ((x : ℕ) → x < 256 → head_at (branch_view a node).level key ≢ head_at (branch_view a node).level (branch_view a node).prefix + x) → ⊥
next-byte v a leaf node place key p more key_is out = byte-there v a node key p.branch p.root
    (ap (λ k. head_at (branch_view a node).level k / 256) key_is ∙ p.agree place more) out

pub next-by : (v : Bool) (a b d : Blocks) (leaf node u x part place count key level : ℕ) → IsPartly v a leaf node place
    → level ≡ (branch_view a node).level → IsRun (leaf_entries v a leaf) level place count
    → key ≡ (entry_at (leaf_entries v a leaf) place).0 → head_at (branch_view a node).level key ≡ head_at
    (branch_view a node).level (branch_view a node).prefix + x
    → IsLeaf v b part → leaf_entries v b part ≡ take count (drop place (leaf_entries v a leaf)) → Frame a b [] (leaf_numbers b part)
    → IsBranch d u → branch_view d u ≡ with_view (branch_view b node) (place + count)
    (with_entry word_order (branch_view b node).children x part) → Frame b d (branch_number node ∷ []) (branch_number u ∷ [])
    → Next v a d leaf node u place count
next-by v a b d leaf node u x part place count key level p is run key_is at part_leaf part_is first branch view second =
    let r = subst (λ n. IsRun (leaf_entries v a leaf) n place count) is run in
    next v a b d leaf node u x part place count key p.branch p.root p.leaf (leaf-words v a leaf p.leaf).0 p.content p.apart
    p.later r.some r.within r.same r.other key_is at part_leaf part_is first branch view second

pub next-partly : (v : Bool) (a d : Blocks) (leaf node u place count : ℕ) → IsPartly v a leaf node place → Next v a d leaf node u
    place count → IsBranch d u → place + count ≤ length (leaf_entries v a leaf) → IsPartly v d leaf u (place + count)
next-partly v a d leaf node u place count p n branch within =
    let e = ap length n.kept.entries in
    let few = p.few in
    record {
      leaf = n.kept.leaf;
      few = omega arith;
      root = n.became.root;
      branch = branch-kind d u branch;
      place = omega arith;
      content = n.became.content ∙ ap (take (place + count)) (sym n.kept.entries);
      apart = n.apart;
      agree = λ i h. ap (λ m. head_at m (entry_at (leaf_entries v d leaf) i).0 / 256) n.level
          ∙ ap (λ m. head_at (branch_view a node).level (entry_at m i).0 / 256) n.kept.entries ∙ p.agree i (omega arith)
          ∙ ap (λ m. head_at (branch_view a node).level m / 256) (sym n.prefix) ∙ ap (λ m. head_at m (branch_view d u).prefix / 256) (sym n.level);
      later = n.later;
    }

pub rest-ends : (v : Bool) (old mid new : ArenaState) (leaf node u place count : ℕ) → Next v old.blocks mid.blocks leaf node u
    place count → mid.refusals ≡ old.refusals → (r : Result Ref NoMemory) → SpreadsRest v mid new leaf u r → SpreadsRest v old new leaf node r
rest-ends v old mid new leaf node u place count n e (Ok x) s = record {
  root = s.root;
  branch = s.branch;
  content = s.content ∙ n.kept.entries;
  frame = frames-chain old.blocks mid.blocks new.blocks (numbers old.blocks node) (numbers mid.blocks u) (numbers new.blocks x) n.became.frame s.frame;
  deep = s.deep ∙ n.became.deep;
  refusals = s.refusals ∙ e;
}
rest-ends v old mid new leaf node u place count n e (Err x) s = record {
  frame = frames-chain old.blocks mid.blocks new.blocks (numbers old.blocks node) (numbers mid.blocks u) [] n.became.frame s.frame;
  refusals = s.refusals ∙ ap count_up e;
}
