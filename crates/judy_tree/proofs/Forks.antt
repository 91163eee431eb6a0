-- A branch made over a node and a leaf of one key.
use Rattle.std.proofs.Common.{◌≡◌, ◌≢◌, ℕ, ◌+◌, ◌/◌, ◌%◌, ◌<◌, ◌≤◌, Bool, true, false, cond, not, [], ◌∷◌}
use Rattle.std.proofs.Common.{length, Some, None, is_some, ap, sym, ◌∙◌, refl, subst, arith, append-nil}
use Rattle.std.specs.declared.cmp.Ordering.TheVariants.{Less, Greater}
use Rattle.std.specs.Ordering.{eq_by_cmp, nat_cmp}
use Rattle.std.specs.Cmp.{nat_cmp_total}
use Rattle.std.specs.FinMap.{is_sorted}
use Rattle.std.specs.FinMap.Entries.{find-put, by_order}
use Rattle.judy_arena.specs.Blocks.{Blocks, is_live}
use Rattle.judy_arena.specs.Frame.{holds, Frame}
use Rattle.judy_arena.specs.Totals.{are_distinct}
use Rattle.judy_model.specs.Contents.{Entries, word_order, value_of, has_key, with_entry, without_key}
use Rattle.judy_tree.specs.Each.{Each}
use Rattle.judy_leaf.specs.Leaf.{IsLeaf, leaf_entries, leaf_numbers}
use Rattle.judy_branch.specs.Branch.{IsBranch, View, branch_view, branch_number}
use Rattle.judy_tree.proofs.lemmas.BranchLaws.{IsPlace}
use Rattle.std.proofs.lemmas.Bool.Decides.{nat_tests}
use Rattle.std.specs.Prelude.{nat_lt}
use Rattle.judy_tree.specs.Calls.{StaysDeep, NodeGrows}
use Rattle.judy_tree.specs.Fork.{IsFork, Forks, Differ}
use Rattle.judy_branch.specs.Branch.{IsBranchOf}
use Rattle.std.specs.Prelude.{Result, Ok, Err, IfOk, OnErr, is_ok, if◌then◌else◌}
use Rattle.std.proofs.lemmas.Bool.{false≢true as not_true}
use Rattle.judy_arena.specs.Blocks.{ArenaState, count_up}
use Rattle.judy_refs.specs.declared.Ref.{Ref}
use Rattle.judy_arena.specs.declared.blocks.NoMemory.{NoMemory}
use Rattle.judy_tree.specs.Nodes.{head_at, is_branch, joined, IsKid, depth}
use Rattle.judy_tree.specs.Root.{entries, numbers, IsRoot}
use Rattle.judy_tree.proofs.LeafLaws.{leaf-kind, leaf-once}
use Rattle.judy_tree.proofs.lemmas.BranchLaws.{branch-kind}
use Rattle.judy_tree.proofs.lemmas.Heads.{head-less, head-earlier, same-above, prefix-head, prefix-earlier}
use Rattle.judy_tree.proofs.lemmas.Joins.{kid, times, Heads, each-put, each-weaker, each-both, each-joined}
use Rattle.judy_tree.proofs.lemmas.Joins.{same-found, joined-rises, rises-put, word_other}
use Rattle.judy_tree.proofs.Nodes.{depth-leaf, depth-branch}
use Rattle.judy_tree.proofs.lemmas.Trees.{root-top, top-root, Kept, root-kept, root-rises, numbers-live, numbers-once}
use Rattle.judy_tree.proofs.lemmas.Trees.{leaf-root, leaf-content, leaf-blocks}
use Rattle.judy_tree.proofs.Changes.{Became, rest-kept, new-stays, two-frames, two-once, times-split, joined-changed, moved}
use Rattle.judy_tree.proofs.Steps.{found-put, others-put, length-put}

-- a branch over a node and a new key
pub record Forked (v : Bool) (a d : Blocks) (w u level : ℕ) (l : Entries ℕ) : Type 0 where
  pub root : IsRoot v d u
  pub content : entries v d u ≡ l
  pub frame : Frame a d (numbers a w) (numbers d u)
  pub deep : depth d u ≡ level

module _ (v : Bool) (a b d : Blocks) (w made u level sample key value keys : ℕ) (node : IsRoot v a w)
    (some : 0 < length (entries v a w)) (low : level ≤ 6) (deep : level < depth a w)
    (heads : Each (λ e. head_at level e.0 ≡ head_at level sample) (entries v a w)) (differ : head_at level sample ≢ head_at level key)
    (leaf : IsLeaf v b made) (one : leaf_entries v b made ≡ (key, value) ∷ []) (first : Frame a b [] (leaf_numbers b made))
    (branch : IsBranch d u) (view : IsFork (branch_view d u) level sample key keys w made)
    (second : Frame b d [] (branch_number u ∷ [])) (count : keys ≡ length (entries v a w) + 1) where
  abbrev x : ℕ
  x = head_at level sample % 256

  abbrev y : ℕ
  y = head_at level key % 256

  abbrev base : ℕ
  base = head_at level (branch_view d u).prefix

  abbrev cs : Entries ℕ
  cs = (x, w) ∷ []

  abbrev ds : Entries ℕ
  ds = with_entry word_order ((x, w) ∷ []) y made

  bytes : y ≢ x
  bytes e = let p = view.one in let q = view.other in differ (omega arith)

  no_own : (q : ℕ) → holds q [] ≡ true → (is_live a q ≡ true) × (holds q [] ≡ false)
  no_own q h = absurd (not_true h)

  rests : (q : ℕ) → holds q (numbers a w) ≡ true → (is_live a q ≡ true) × (holds q [] ≡ false) × (holds q [] ≡ false)
  rests q h = (numbers-live v a w q node h, refl, refl)

  kept : Kept v a d w
  kept = root-kept v a d w node (rest-kept a b d [] (leaf_numbers b made) [] (branch_number u ∷ []) (numbers a w) first second no_own rests)

  made-kind : is_branch made ≡ false
  made-kind = leaf-kind v b made leaf

  made-kept : Kept v b d made
  made-kept = root-kept v b d made (leaf-root v b made leaf)
      (λ q h. (new-stays a b d [] (leaf_numbers b made) [] (branch_number u ∷ []) (numbers a w) first second no_own rests q
      (ap (holds q) (sym (leaf-blocks b made made-kind)) ∙ h)).1)

  made-entries : entries v d made ≡ (key, value) ∷ []
  made-entries = made-kept.content ∙ leaf-content v b made made-kind ∙ one

  cs_rises : is_sorted word_order cs ≡ true
  cs_rises = refl

  ds_rises : is_sorted word_order ds ≡ true
  ds_rises = rises-put y made cs cs_rises

  old-kid : IsKid level (base + x) (IsRoot v a) (entries v a) (depth a) w
  old-kid = record {
    sound = node;
    deeper = deep;
    filled = some;
    heads = each-weaker
        (λ e. head_at level e.0 ≡ head_at level sample) (λ e. head_at level e.0 ≡ base + x) (entries v a w) (λ e h. h ∙ sym view.one) heads;
  }

  kids : Each (λ c. IsKid level (base + c.0) (IsRoot v d) (entries v d) (depth d) c.1) ds
  kids = each-put (λ c. IsKid level (base + c.0) (IsRoot v d) (entries v d) (depth d) c.1) y made cs
      (λ z e. record {
        sound = made-kept.root;
        deeper = let p = made-kept.deep ∙ depth-leaf b made made-kind in omega arith;
        filled = let n = ap length made-entries in omega arith;
        heads = subst (Each (λ e. head_at level e.0 ≡ base + z)) (sym made-entries) (sym view.other ∙ ap (λ n. base + n) (sym e), tt);
      })
      (moved v a d level (base + x) w old-kid kept, tt)

  new_times : (q : ℕ) → times q (branch_number u ∷ joined (numbers d) ds) ≡ times q (branch_number u ∷ [])
      + (times q (leaf_numbers b made) + times q (numbers a w))
  new_times q =
      let s = times-split q (numbers d) ds y ds_rises in
      let f : times q (kid (numbers d) (value_of word_order ds y)) ≡ times q (leaf_numbers b made) =
      ap (λ o. times q (kid (numbers d) o)) (found-put cs y made) ∙ ap (times q)
      (made-kept.blocks ∙ leaf-blocks b made made-kind) in
      let o : without_key word_order ds y ≡ cs = others-put cs y made cs_rises ∙ ap (λ t. cond (not t) ((x, w) ∷ []) []) (word_other y x bytes) in
      let r : times q (joined (numbers d) (without_key word_order ds y)) ≡ times q (numbers a w) =
      ap (λ l. times q (joined (numbers d) l)) o ∙ ap (times q) (append-nil (numbers d w)) ∙ ap (times q) kept.blocks in
      omega arith

  old_times : (q : ℕ) → times q (numbers a w) ≡ times q [] + (times q [] + times q (numbers a w))
  old_times q = omega arith

  once : are_distinct (branch_number u ∷ joined (numbers d) ds) ≡ true
  once = two-once a b d [] (leaf_numbers b made) [] (branch_number u ∷ []) (numbers a w) first second no_own rests (numbers a w)
      (branch_number u ∷ joined (numbers d) ds)
      (numbers-once v a w node) (leaf-once v b made leaf) refl old_times new_times

  content-is : joined (entries v d) ds ≡ with_entry word_order (entries v a w) key value
  content-is = same-found (joined (entries v d) ds) (with_entry word_order (entries v a w) key value)
      (joined-rises (head_at level) base (entries v d) ds (head-less level) ds_rises heads-after
      (each-weaker (λ c. IsKid level (base + c.0) (IsRoot v d) (entries v d) (depth d) c.1)
      (λ c. is_sorted word_order (entries v d c.1) ≡ true) ds (λ c i. root-rises v d c.1 i.sound) kids))
      (rises-put key value (entries v a w) (root-rises v a w node))
      (λ k. joined-changed (head_at level) base (entries v a) (entries v d) cs ds y key (Some value) cs_rises ds_rises (others-put cs y made cs_rises)
      (old-kid.heads, tt) heads-after
      (subst (Each (λ c. entries v d c.1 ≡ entries v a c.1)) (sym (ap (λ t. cond (not t) ((x, w) ∷ []) []) (word_other y x bytes))) (kept.content, tt))
      (sym view.other)
      (λ k. ap (λ o. value_of word_order (kid (entries v d) o) k) (found-put cs y made) ∙ ap (λ l. value_of word_order l k) made-entries
      ∙ ap (λ o. cond (eq_by_cmp word_order k key) (Some value) (value_of word_order (kid (entries v a) o) k))
      (sym (ap (λ t. cond t (Some w) None) (word_other y x bytes)))) k
      ∙ ap (λ l. cond (eq_by_cmp word_order k key) (Some value) (value_of word_order l k)) (append-nil (entries v a w))
      ∙ sym (find-put word_order nat_cmp_total k key value (entries v a w)))
    where
      heads-after : Heads (head_at level) base (entries v d) ds
      heads-after = each-weaker (λ c. IsKid level (base + c.0) (IsRoot v d) (entries v d) (depth d) c.1)
          (λ c. Each (λ e. head_at level e.0 ≡ base + c.0) (entries v d c.1)) ds (λ c i. i.heads) kids

  absent : value_of word_order (entries v a w) key ≡ None
  absent = none (entries v a w) heads
    where
      none : (l : Entries ℕ) → Each (λ e. head_at level e.0 ≡ head_at level sample) l → value_of word_order l key ≡ None
      none [] h = refl
      none (e ∷ l) h = ap (λ t. cond t (Some e.1) (value_of word_order l key))
          (word_other key e.0 (λ i. differ (sym h.0 ∙ sym (ap (head_at level) i)))) ∙ none l h.1

  pub forked : Forked v a d w u level (with_entry word_order (entries v a w) key value)
  forked =
      let t = branch_view d u in
      let to = top-root v d u branch (record {
        kids = subst (Each (λ c. IsKid t.level (head_at t.level t.prefix + c.0) (IsRoot v d) (entries v d) (depth d) c.1)) (sym view.children)
            (subst (λ n. Each (λ c. IsKid n (head_at n t.prefix + c.0) (IsRoot v d) (entries v d) (depth d) c.1) ds) (sym view.level) kids);
        once = ap (λ l. are_distinct (branch_number u ∷ joined (numbers d) l)) view.children ∙ once;
        population = view.population ∙ count ∙ sym (length-put (entries v a w) key value absent (root-rises v a w node))
            ∙ ap length (sym content-is) ∙ ap (λ l. length (joined (entries v d) l)) (sym view.children);
      }) in
      record {
        root = to.root;
        content = to.top.content ∙ ap (joined (entries v d)) view.children ∙ content-is;
        frame = two-frames a b d [] (leaf_numbers b made) [] (branch_number u ∷ []) (numbers a w) first second no_own rests
            (numbers a w) (numbers d u) old_times
            (λ q. ap (times q) (to.top.blocks ∙ ap (λ l. branch_number u ∷ joined (numbers d) l) view.children) ∙ new_times q);
        deep = depth-branch d u (branch-kind d u branch) ∙ view.level;
      }

-- where all keys and the new one agree, the branch is below that level
pub fork-deep : (v : Bool) (a d : Blocks) (w u level sample key : ℕ) → 0 < length (entries v a w) → level < depth a w
    → Each (λ e. head_at level e.0 ≡ head_at level sample) (entries v a w) → level ≤ 6 → head_at level sample ≢ head_at level key
    → depth d u ≡ level
    → depth a w ≤ 8 → StaysDeep a d w u (entries v a w) key
fork-deep v a d w u level sample key some deep heads low differ is eight l h same =
    let e : l < level = elim (nat_lt l level) as (λ t. nat_lt l level ≡ t → l < level) [
      | true ↦ λ e. less l level e
      | false ↦ λ e. absurd (clash (entries v a w) some heads same (not_less l level e))
    ] refl in omega arith
  where
    less : (l m : ℕ) → nat_lt l m ≡ true → l < m
    less l m e = grind (arith, nat_tests)

    not_less : (l m : ℕ) → nat_lt l m ≡ false → m ≤ l
    not_less l m e = grind (arith, nat_tests)

    clash : (es : Entries ℕ) → 0 < length es → Each (λ e. head_at level e.0 ≡ head_at level sample) es
        → Each (λ e. head_at l e.0 ≡ head_at l key) es → level ≤ l → ⊥
    clash [] s p q n = absurd (omega arith)
    clash (e ∷ es) s p q n =
        elim (nat_lt l 8) as (λ t. nat_lt l 8 ≡ t → ⊥) [
          | true ↦ λ i. let j = less l 8 i in differ (sym p.0 ∙ head-earlier level l e.0 key n (omega arith) q.0)
          | false ↦ λ i. let j = not_less l 8 i in absurd (omega arith)
        ] refl

-- the requirements of a branch above another
pub outside-fork : (v : Bool) (a : Blocks) (w prefix key : ℕ) (is : is_branch w ≡ true) (node : IsRoot v a w)
    → prefix ≡ (branch_view a w).prefix → prefix < 18446744073709551616 → key < 18446744073709551616
    → ((x : ℕ) → x < 256 → head_at (branch_view a w).level key ≢ head_at (branch_view a w).level (branch_view a w).prefix + x)
    → (l : ℕ) → l ≤ 7 → head_at l prefix ≢ head_at l key → ((m : ℕ) → m < l → head_at m prefix ≡ head_at m key) → (l < depth a w)
    × (l ≤ 6) × Each (λ e. head_at l e.0 ≡ head_at l prefix) (entries v a w)
outside-fork v a w prefix key is node p small_p small_k out l seven differ agree =
    let top = root-top v a w is node in
    let t = branch_view a w in
    let low = top.view.level in
    let e : l < t.level = elim (nat_lt l t.level) as (λ u. nat_lt l t.level ≡ u → l < t.level) [
      | true ↦ λ i. less l t.level i
      | false ↦ λ i.
          let n = not_less l t.level i in
          let same : head_at t.level prefix / 256 ≡ head_at t.level key / 256 = same-above t.level prefix key (omega arith)
          small_p small_k (λ m j. agree m (omega arith)) in
          let q : head_at t.level t.prefix ≡ head_at t.level prefix = ap (head_at t.level) (sym p) in
          let z : head_at t.level t.prefix % 256 ≡ 0 = prefix-head t.level t.prefix low top.view.prefix in
          absurd (out (head_at t.level key % 256) (omega arith) (omega arith))
    ] refl in (
      (let d = depth-branch a w is in omega arith),
      omega arith,
      subst (Each (λ e. head_at l e.0 ≡ head_at l prefix)) (sym top.content)
          (each-joined (λ e. head_at l e.0 ≡ head_at l prefix) (entries v a) t.children
          (each-both (λ c. IsKid t.level (head_at t.level t.prefix + c.0) (IsRoot v a) (entries v a) (depth a) c.1)
          (λ c. IsPlace c) (λ c. Each (λ e. head_at l e.0 ≡ head_at l prefix) (entries v a c.1)) t.children
          (λ c i b. each-weaker (λ x. head_at t.level x.0 ≡ head_at t.level t.prefix + c.0) (λ x. head_at l x.0 ≡ head_at l prefix) (entries v a c.1)
          (λ x h. prefix-earlier l t.level x.0 t.prefix c.0 e low b.byte top.view.prefix h ∙ ap (head_at l) (sym p)) i.heads)
          top.over.kids top.view.places)),
    )
  where
    less : (l m : ℕ) → nat_lt l m ≡ true → l < m
    less l m e = grind (arith, nat_tests)

    not_less : (l m : ℕ) → nat_lt l m ≡ false → m ≤ l
    not_less l m e = grind (arith, nat_tests)

pub depth-eight : (v : Bool) (a : Blocks) (w : ℕ) → IsRoot v a w → depth a w ≤ 8
depth-eight v a w node =
    elim (is_branch w) as (λ t. is_branch w ≡ t → depth a w ≤ 8) [
      | true ↦ λ e. let l = (root-top v a w e node).view.level in let d = depth-branch a w e in omega arith
      | false ↦ λ e. let d = depth-leaf a w e in omega arith
    ] refl

-- the two bytes of a fork differ
pub fork-bytes : (level prefix one other : ℕ) → level ≤ 6 → one < 18446744073709551616 → other < 18446744073709551616
    → head_at level prefix + head_at level one % 256 ≡ head_at level one → ((m : ℕ) → m < level → head_at m one ≡ head_at m other)
    → head_at level prefix + head_at level other % 256 ≡ head_at level other
fork-bytes level prefix one other low a b p agree = let e = same-above level one other (omega arith) a b agree in omega arith

-- the branch that a pair made, in either order
pub fork-low : (t : View) (level prefix one other keys x y node made : ℕ)
    → t ≡ record { level = level; prefix = prefix; population = keys; children = (x, node) ∷ (y, made) ∷ [] } → x ≡ head_at level
    one % 256 → y ≡ head_at level other % 256 → x < y
    → head_at level prefix + head_at level one % 256 ≡ head_at level one → head_at level prefix + head_at level other % 256
    ≡ head_at level other → IsFork t level one other keys node made
fork-low t level prefix one other keys x y node made e ex ey less p q = record {
  level = ap (λ z. z.level) e;
  population = ap (λ z. z.population) e;
  one = ap (λ z. head_at level z.prefix + head_at level one % 256) e ∙ p;
  other = ap (λ z. head_at level z.prefix + head_at level other % 256) e ∙ q;
  children =
      ap (λ z. z.children) e
      ∙ sym (ap (λ o. by_order o ((y, made) ∷ (x, node) ∷ []) ((x, made) ∷ []) ((x, node) ∷ (y, made) ∷ [])) (greater y x less))
      ∙ ap (λ n. with_entry word_order ((n, node) ∷ []) y made) ex
      ∙ ap (λ n. with_entry word_order ((head_at level one % 256, node) ∷ []) n made) ey;
}
  where
    greater : (y x : ℕ) → x < y → nat_cmp y x ≡ Greater
    greater y x h = grind (arith, nat_tests)

pub fork-high : (t : View) (level prefix one other keys x y node made : ℕ)
    → t ≡ record { level = level; prefix = prefix; population = keys; children = (y, made) ∷ (x, node) ∷ [] } → x ≡ head_at level
    one % 256 → y ≡ head_at level other % 256 → y < x
    → head_at level prefix + head_at level one % 256 ≡ head_at level one → head_at level prefix + head_at level other % 256
    ≡ head_at level other → IsFork t level one other keys node made
fork-high t level prefix one other keys x y node made e ex ey less p q = record {
  level = ap (λ z. z.level) e;
  population = ap (λ z. z.population) e;
  one = ap (λ z. head_at level z.prefix + head_at level one % 256) e ∙ p;
  other = ap (λ z. head_at level z.prefix + head_at level other % 256) e ∙ q;
  children =
      ap (λ z. z.children) e
      ∙ sym (ap (λ o. by_order o ((y, made) ∷ (x, node) ∷ []) ((x, made) ∷ []) ((x, node) ∷ (y, made) ∷ [])) (lower y x less))
      ∙ ap (λ n. with_entry word_order ((n, node) ∷ []) y made) ex
      ∙ ap (λ n. with_entry word_order ((head_at level one % 256, node) ∷ []) n made) ey;
}
  where
    lower : (y x : ℕ) → y < x → nat_cmp y x ≡ Less
    lower y x h = grind (arith, nat_tests)

-- what the making of a branch of two says
pub forks : (old new : ArenaState) (at keys : ℕ) (one other : ℕ × ℕ) (t : View) (r : Result Ref NoMemory)
    → IfOk r (λ x. IsBranchOf new.blocks x t) → IfOk r (λ x. Frame old.blocks new.blocks [] (branch_number x ∷ []))
    → OnErr r (new.blocks ≡ old.blocks) → new.refusals ≡ (if is_ok r then old.refusals else count_up old.refusals) → IsFork t at
    one.0 other.0 keys one.1 other.1 → Forks old new at keys one other r
forks old new at keys one other t (Ok x) b f e n k =
    record {
      branch = b.branch;
      view = subst (λ z. IsFork z at one.0 other.0 keys one.1 other.1) (sym b.view) k;
      frame =
          f;
      refusals = n;
    }
forks old new at keys one other t (Err x) b f e n k = record { blocks = e; refusals = n }

-- the byte of the one is above that of the other, where it is not below it
pub lower-byte : (level prefix one other x y : ℕ) → x ≡ head_at level one → y ≡ head_at level other → head_at level prefix
    + head_at level one % 256 ≡ head_at level one → head_at level prefix + head_at level other % 256 ≡ head_at level other
    → head_at level one ≢ head_at level other → y % 256 ≤ x % 256 → y % 256 < x % 256
lower-byte level prefix one other x y ex ey p q differ le =
    let a = ap (λ z. z % 256) ex in
    let b = ap (λ z. z % 256) ey in
    let ne : head_at level one % 256 ≢ head_at level other % 256 = λ e. differ (omega arith) in
    omega arith

-- a node in place of another, with one key more, as the calls on nodes say it
pub grows : (v : Bool) (old new : ArenaState) (w x key value : ℕ) → Became v old.blocks new.blocks w x
    (with_entry word_order (entries v old.blocks w) key value) → new.refusals ≡ old.refusals → NodeGrows v old w new x key value
grows v old new w x key value b r = record {
  array = record { root = b.root; content = b.content; frame = b.frame };
  deep =
      λ l h e. let d = b.deep in omega arith;
  refusals = r;
}

-- a key that parts from all keys of a node is none of them
pub other-head : (v : Bool) (b : Blocks) (w sample key level : ℕ) → (level < depth b w) × (level ≤ 6)
    × Each (λ e. head_at level e.0 ≡ head_at level sample) (entries v b w) → Differ sample key level → has_key word_order
    (entries v b w) key ≡ false
other-head v b w sample key level h d = none (entries v b w) h.2
  where
    none : (l : Entries ℕ) → Each (λ e. head_at level e.0 ≡ head_at level sample) l → has_key word_order l key ≡ false
    none [] h = refl
    none (e ∷ l) h = ap (λ t. is_some (cond t (Some e.1) (value_of word_order l key)))
        (word_other key e.0 (λ i. d.differ (sym h.0 ∙ sym (ap (head_at level) i)))) ∙ none l h.1

-- a branch above a node, as the calls on nodes say it
pub fork-grows : (v : Bool) (old new : ArenaState) (w x level sample key value : ℕ) → IsRoot v old.blocks w → 0 < length (entries v old.blocks w)
    → (level < depth old.blocks w) × (level ≤ 6) × Each (λ e. head_at level e.0 ≡ head_at level sample) (entries v old.blocks w) → Differ sample key level
    → Forked v old.blocks new.blocks w x level (with_entry word_order (entries v old.blocks w) key value) → new.refusals
    ≡ old.refusals → NodeGrows v old w new x key value
fork-grows v old new w x level sample key value root some h d f r = record {
  array = record { root = f.root; content = f.content; frame = f.frame };
  deep = fork-deep v old.blocks new.blocks w x level sample key some h.0 h.2 h.1 d.differ f.deep (depth-eight v old.blocks w root);
  refusals = r;
}
