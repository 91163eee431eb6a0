-- What the calls on a branch make of it.
use Rattle.std.proofs.Common.{◌≡◌, ◌≢◌, ℕ, ◌+◌, ◌-◌, ◌*◌, ◌<◌, ◌≤◌, Bool, true, false, cond, ◌==◌, List, [], ◌∷◌, length}
use Rattle.std.proofs.Common.{Option, Some, None, is_some, unwrap_or, ap, sym, ◌∙◌, refl, subst, arith, length-append, append-nil}
use Rattle.std.proofs.lemmas.Bool.Decides.{nat_tests}
use Rattle.std.specs.declared.cmp.Ordering.TheVariants.{Less, Equal, Greater}
use Rattle.std.specs.Ordering.{nat_cmp, eq_by_cmp}
use Rattle.std.specs.Cmp.{nat_cmp_total}
use Rattle.std.specs.FinMap.{is_sorted}
use Rattle.std.specs.FinMap.Entries.{by_order, find-put}
use Rattle.std.proofs.lemmas.Bool.{false≢true as not_true}
use Rattle.std.proofs.lemmas.Option.{none-some}
use Rattle.judy_arena.specs.Blocks.{Blocks, is_live}
use Rattle.judy_arena.specs.Frame.{holds, Frame}
use Rattle.judy_model.specs.Contents.{Entries, word_order, value_of, has_key, with_entry, without_key}
use Rattle.judy_model.proofs.lemmas.EntryLemmas.{same_word, word_itself}
use Rattle.judy_tree.specs.Each.{Each}
use Rattle.judy_branch.specs.Branch.{IsBranch, View, branch_view, branch_number}
use Rattle.judy_tree.specs.Nodes.{head_at, is_branch, joined, IsKid, depth}
use Rattle.judy_tree.specs.Root.{entries, numbers, IsRoot}
use Rattle.judy_tree.proofs.lemmas.Joins.{kid, each-put, each-without, each-found, each-weaker, find-without, same-found}
use Rattle.judy_tree.proofs.lemmas.Joins.{rises-put, rises-without, total, some_of, total-split, length-joined, distinct-times}
use Rattle.judy_tree.proofs.lemmas.Joins.{none-holds, joined-same, times}
use Rattle.judy_leaf.specs.Leaf.{IsLeaf, leaf_entries, leaf_numbers}
use Rattle.judy_tree.specs.Calls.{StaysDeep, NodeShrinks, NodeGrows}
use Rattle.judy_leaf.specs.Calls.{BecomesIn}
use Rattle.judy_arena.specs.Blocks.{ArenaState}
use Rattle.judy_arena.proofs.lemmas.FrameLaws.{frame-then, frame-same, frame-stays, holds-one, joint}
use Rattle.judy_tree.specs.Changes.{RootBecomes}
use Rattle.judy_tree.proofs.LeafLaws.{leaf-kind, leaf-empty, leaf-none}
use Rattle.judy_tree.proofs.lemmas.Finds.{find-in}
use Rattle.judy_tree.proofs.lemmas.Counts.{root-few}
use Rattle.judy_tree.proofs.lemmas.Trees.{root-top, root-rises, leaf-blocks, leaf-content, leaf-root, root-leaf, Kept}
use Rattle.judy_tree.proofs.Changes.{Became, changed, times-split, rest-same, rest-kids, own, resting, old_times, two-frames}
use Rattle.judy_tree.proofs.Changes.{changed-root, changed-frame, joined-changed}
use Rattle.judy_tree.proofs.lemmas.BranchLaws.{branch-kept, Kept as BranchKept, branch-live, branch-kind, branch-sound, IsPlace}
use Rattle.judy_tree.proofs.Nodes.{depth-leaf, depth-branch}

-- this is the one child
abbrev pub IsAlone : Entries ℕ → ℕ → Type 0
IsAlone cs r = (byte : ℕ) × (cs ≡ (byte, r) ∷ [])

-- a child that is put is found
pub found-put : (cs : Entries ℕ) (x c : ℕ) → value_of word_order (with_entry word_order cs x c) x ≡ Some c
found-put cs x c = find-put word_order nat_cmp_total x x c cs ∙ ap (λ t. cond t (Some c) (value_of word_order cs x)) (word_itself x)

either_none : (t : Bool) (x o : Option ℕ) → cond t None (cond t x o) ≡ cond t None o
either_none true x o = refl
either_none false x o = refl

-- the others are as before
pub others-put : (cs : Entries ℕ) (x c : ℕ) → is_sorted word_order cs ≡ true → without_key word_order
    (with_entry word_order cs x c) x ≡ without_key word_order cs x
others-put cs x c s = same-found _ _ (rises-without x (with_entry word_order cs x c) (rises-put x c cs s)) (rises-without x cs s) (λ k.
    find-without (with_entry word_order cs x c) x k ∙ ap (cond (eq_by_cmp word_order k x) None)
    (find-put word_order nat_cmp_total k x c cs) ∙ either_none (eq_by_cmp word_order k x) (Some c) (value_of word_order cs k)
    ∙ sym (find-without cs x k))

pub others-without : (cs : Entries ℕ) (x : ℕ) → is_sorted word_order cs ≡ true → without_key word_order
    (without_key word_order cs x) x ≡ without_key word_order cs x
others-without cs x s = same-found _ _ (rises-without x (without_key word_order cs x) (rises-without x cs s)) (rises-without x cs s) (λ k.
    find-without (without_key word_order cs x) x k ∙ ap (cond (eq_by_cmp word_order k x) None) (find-without cs x k) ∙ either_none
    (eq_by_cmp word_order k x) None (value_of word_order cs k) ∙ sym (find-without cs x k))

pub found-without : (cs : Entries ℕ) (x : ℕ) → value_of word_order (without_key word_order cs x) x ≡ None
found-without cs x = find-without cs x x ∙ ap (λ t. cond t None (value_of word_order cs x)) (word_itself x)

pub no-value : (l : Entries ℕ) (k : ℕ) → has_key word_order l k ≡ false → value_of word_order l k ≡ None
no-value l k h = none (value_of word_order l k) h
  where
    none : (o : Option ℕ) → is_some o ≡ false → o ≡ None
    none None h = refl
    none (Some x) h = absurd (not_true (sym h))

length_total : (l : Entries ℕ) → length l ≡ total (λ _. 1) l
length_total [] = refl
length_total (e ∷ l) = let r = length_total l in omega arith

one_of : (o : Option ℕ) → is_some o ≡ true → some_of (λ _. 1) o ≡ 1
one_of None h = absurd (not_true h)
one_of (Some x) h = refl

-- one entry less
pub length-without : (l : Entries ℕ) (k : ℕ) → has_key word_order l k ≡ true → is_sorted word_order l ≡ true
    → length (without_key word_order l k) + 1 ≡ length l
length-without l k h s =
    let e = length_total l in
    let f = total-split (λ _. 1) l k s in
    let o = one_of (value_of word_order l k) h in
    let g = length_total (without_key word_order l k) in
    omega arith

-- one entry more than the others
length_put_others : (l : Entries ℕ) (k x : ℕ) → is_sorted word_order l ≡ true → length (with_entry word_order l k x) ≡ length (without_key word_order l k) + 1
length_put_others l k x s = sym (length-without (with_entry word_order l k x) k (ap is_some (found-put l k x))
    (rises-put k x l s)) ∙ ap (λ m. length m + 1) (others-put l k x s)

-- as many entries as before
pub length-put-there : (l : Entries ℕ) (k x : ℕ) → has_key word_order l k ≡ true → is_sorted word_order l ≡ true
    → length (with_entry word_order l k x) ≡ length l
length-put-there l k x h s = length_put_others l k x s ∙ length-without l k h s

-- one entry more
pub length-put : (l : Entries ℕ) (k x : ℕ) → value_of word_order l k ≡ None → is_sorted word_order l ≡ true
    → length (with_entry word_order l k x) ≡ length l + 1
length-put l k x h s =
    let e = length_total l in
    let f = total-split (λ _. 1) l k s in
    let o : some_of (λ _. 1) (value_of word_order l k) ≡ 0 = ap (some_of (λ _. 1)) h in
    let g = length_total (without_key word_order l k) in
    let p = length_put_others l k x s in
    omega arith

-- an entry that was put makes a list longer than none
pub some-put : (l : Entries ℕ) (k x : ℕ) → 0 < length (with_entry word_order l k x)
some-put [] k x = omega arith
some-put (e ∷ l) k x =
    elim (nat_cmp k e.0) as (λ o. 0 < length (by_order o ((k, x) ∷ e ∷ l) ((e.0, x) ∷ l) (e ∷ with_entry word_order l k x))) [
      | Less ↦ omega arith
      | Equal ↦ omega arith
      | Greater ↦ omega arith
    ]

-- the view of a branch with this population and these children
abbrev pub with_view : View → ℕ → Entries ℕ → View
with_view t keys cs = record { level = t.level; prefix = t.prefix; population = keys; children = cs }

module _ (v : Bool) (a : Blocks) (w x : ℕ) (is : is_branch w ≡ true) (node : IsRoot v a w) where
  abbrev pub t : View
  t = branch_view a w

  abbrev pub was : Option ℕ
  was = value_of word_order (branch_view a w).children x

  -- what is known of the child of the byte
  pub kid-of : (c : ℕ) → was ≡ Some c → IsKid t.level (head_at t.level t.prefix + x) (IsRoot v a) (entries v a) (depth a) c
  kid-of c e = each-found (λ c. IsKid t.level (head_at t.level t.prefix + c.0) (IsRoot v a) (entries v a) (depth a) c.1) x c
      t.children (root-top v a w is node).over.kids e

  kid_heads : Each (λ e. head_at t.level e.0 ≡ head_at t.level t.prefix + x) (kid (entries v a) was)
  kid_heads = each was (λ c e. (kid-of c e).heads)
    where
      each : (o : Option ℕ) → ((c : ℕ) → o ≡ Some c → Each (λ e. head_at t.level e.0 ≡ head_at t.level t.prefix + x)
          (entries v a c)) → Each (λ e. head_at t.level e.0 ≡ head_at t.level t.prefix + x) (kid (entries v a) o)
      each None h = tt
      each (Some c) h = h c refl

  module _ (b d : Blocks) (u key : ℕ) (at : head_at t.level key ≡ head_at t.level t.prefix + x) where
    -- a key came into the child of its byte, or made a child
    pub put-under : (c keys y : ℕ) → Frame a b (kid (numbers a) was) (numbers b c) → Frame b d (branch_number w ∷ [])
        (branch_number u ∷ []) → IsBranch d u → branch_view d u ≡ with_view t keys (with_entry word_order t.children x c)
        → IsRoot v b c → entries v b c ≡ with_entry word_order (kid (entries v a) was) key y → t.level < depth b c → keys ≡ length
        (with_entry word_order (entries v a w) key y)
        → Became v a d w u (with_entry word_order (entries v a w) key y)
    put-under c keys y first second branch view sound content deep count =
        let s = (root-top v a w is node).view.rising in
        changed v a b d w x (Some c) (branch_number u ∷ []) is node first second u branch (ap (λ z. z.level) view) (ap (λ z. z.prefix) view) refl
        (ap (λ z. value_of word_order z.children x) view ∙ found-put t.children x c)
        (ap (λ z. without_key word_order z.children x) view ∙ others-put t.children x c s)
        (λ k e. let i : c ≡ k = ap (λ o. unwrap_or o 0) e in subst (IsKid t.level (head_at t.level t.prefix + x) (IsRoot v b)
        (entries v b) (depth b)) i (record {
          sound = sound;
          deeper = deep;
          filled = subst (λ l. 0 < length l) (sym content) (some-put (kid (entries v a) was) key y);
          heads = subst (Each (λ e. head_at t.level e.0 ≡ head_at t.level t.prefix + x)) (sym content)
              (each-put (λ e. head_at t.level e.0 ≡ head_at t.level t.prefix + x) key y (kid (entries v a) was) (λ z f. ap (head_at t.level) f ∙ at) kid_heads);
        }))
        key (Some y) (with_entry word_order (entries v a w) key y) at
        (λ k. ap (λ l. value_of word_order l k) content ∙ find-put word_order nat_cmp_total k key y (kid (entries v a) was))
        (rises-put key y (entries v a w) (root-rises v a w node))
        (λ k. find-put word_order nat_cmp_total k key y (entries v a w))
        (ap (λ z. z.population) view ∙ count)

  -- the branch's own number is not among the child's
  pub own-apart : holds (branch_number w) (kid (numbers a) was) ≡ false
  own-apart =
      let top = root-top v a w is node in
      let d = distinct-times (branch_number w ∷ joined (numbers a) t.children) top.over.once (branch_number w) in
      let one : cond {A = ℕ} (branch_number w == branch_number w) 1 0 ≡ 1 = ap (λ u. cond {A = ℕ} u 1 0) (itself (branch_number w)) in
      let s = times-split (branch_number w) (numbers a) t.children x top.view.rising in
      none-holds (branch_number w) (kid (numbers a) was) (omega arith)
    where
      itself : (n : ℕ) → (n == n) ≡ true
      itself n = grind (arith, nat_tests)

  -- the branch's own block while a child changes
  pub own-kept : (b : Blocks) (now : List ℕ) → Frame a b (kid (numbers a) was) now → BranchKept a b w
  own-kept b now first = branch-kept a b w (root-top v a w is node).branch
      (frame-stays a b (kid (numbers a) was) now (branch_number w) first (branch-live a w (root-top v a w is node).branch)
      own-apart).1

  -- a child has fewer entries
  pub kid-shorter : (c : ℕ) → was ≡ Some c → length (entries v a c) < length (entries v a w)
  kid-shorter c e =
      let top = root-top v a w is node in
      let n = ap length top.content ∙ length-joined (entries v a) t.children in
      let s = total-split (λ c. length (entries v a c)) t.children x top.view.rising in
      let o : some_of (λ c. length (entries v a c)) was ≡ length (entries v a c) = ap (some_of (λ c. length (entries v a c))) e in
      let m = length-without t.children x (ap is_some e) top.view.rising in
      let two = top.view.many in
      let rest = some_rest (without_key word_order t.children x) (omega arith)
      (each-without (λ c. 0 < length (entries v a c.1)) x t.children
      (each-weaker (λ c. IsKid t.level (head_at t.level t.prefix + c.0) (IsRoot v a) (entries v a) (depth a) c.1)
      (λ c. 0 < length (entries v a c.1)) t.children (λ c i. i.filled) top.over.kids)) in
      omega arith
    where
      some_rest : (cs : Entries ℕ) → 0 < length cs → Each (λ c. 0 < length (entries v a c.1)) cs → 0 < total (λ c. length (entries v a c)) cs
      some_rest [] h k = absurd (omega arith)
      some_rest (c ∷ cs) h k = let p = k.0 in omega arith

  pub kid-falls : (c : ℕ) → was ≡ Some c → 2 * length (entries v a c) + cond (is_branch c) 0 1 < 2 * length (entries v a w) + cond (is_branch w) 0 1
  kid-falls c e = let s = kid-shorter c e in let b = small (is_branch c) in omega arith
    where
      small : (t : Bool) → cond {A = ℕ} t 0 1 ≤ 1
      small true = omega arith
      small false = omega arith

-- ---- the calls

-- a key came into a child, and the branch says so
pub grew : (v : Bool) (a b d : Blocks) (w x c r key value keys : ℕ) (is : is_branch w ≡ true) (node : IsRoot v a w)
    → value_of word_order (branch_view a w).children x ≡ Some c → head_at (branch_view a w).level key ≡ head_at
    (branch_view a w).level (branch_view a w).prefix + x
    → has_key word_order (entries v a w) key ≡ false → keys ≡ (branch_view a w).population
    → IsRoot v b r → entries v b r ≡ with_entry word_order (entries v a c) key value → Frame a b (numbers a c) (numbers b r)
    → StaysDeep a b c r (entries v a c) key
    → IsBranch d w → branch_view d w ≡ with_view (branch_view b w) (keys + 1) (with_entry word_order (branch_view b w).children x
    r) → Frame b d (branch_number w ∷ []) (branch_number w ∷ [])
    → Became v a d w w (with_entry word_order (entries v a w) key value)
grew v a b d w x c r key value keys is node e at absent pop sound content first deep branch view second =
    let t = branch_view a w in
    let i = kid-of v a w x is node c e in
    let f : Frame a b (kid (numbers a) (value_of word_order t.children x)) (numbers b r) = subst (λ l. Frame a b l (numbers b r))
    (sym (ap (kid (numbers a)) e)) first in
    let same = (own-kept v a w x is node b (numbers b r) f).view in
    put-under v a w x is node b d w key at r (keys + 1) value f second branch
    (view ∙ ap (λ z. with_view z (keys + 1) (with_entry word_order z.children x r)) same) sound
    (content ∙ ap (λ l. with_entry word_order l key value) (sym (ap (kid (entries v a)) e)))
    (deep t.level i.deeper (each-weaker (λ z. head_at t.level z.0 ≡ head_at t.level t.prefix + x)
    (λ z. head_at t.level z.0 ≡ head_at t.level key) (entries v a c) (λ z h. h ∙ sym at) i.heads))
    (let p = (root-top v a w is node).over.population ∙ ap length (sym (root-top v a w is node).content) in
    let l = length-put (entries v a w) key value (no-value (entries v a w) key absent) (root-rises v a w node) in omega arith)

-- a key made a child
pub joined-by : (v : Bool) (a b d : Blocks) (w u x made key value keys : ℕ) (is : is_branch w ≡ true) (node : IsRoot v a w)
    → has_key word_order (branch_view a w).children x ≡ false → head_at (branch_view a w).level key ≡ head_at
    (branch_view a w).level (branch_view a w).prefix + x
    → keys ≡ (branch_view a w).population → IsLeaf v b made → leaf_entries v b made ≡ (key, value) ∷ [] → Frame a b [] (leaf_numbers b made)
    → IsBranch d u → branch_view d u ≡ with_view (branch_view b w) (keys + 1) (with_entry word_order (branch_view b w).children x
    made) → Frame b d (branch_number w ∷ []) (branch_number u ∷ [])
    → Became v a d w u (with_entry word_order (entries v a w) key value)
joined-by v a b d w u x made key value keys is node none at pop leaf one first branch view second =
    let t = branch_view a w in
    let e : value_of word_order t.children x ≡ None = no-value t.children x none in
    let k = leaf-kind v b made leaf in
    let ns = leaf-blocks b made k in
    let f : Frame a b (kid (numbers a) (value_of word_order t.children x)) (numbers b made) =
    subst (λ l. Frame a b l (numbers b made)) (sym (ap (kid (numbers a)) e)) (subst (Frame a b []) (sym ns) first) in
    let same = (own-kept v a w x is node b (numbers b made) f).view in
    let low = (root-top v a w is node).view.level in
    let absent : value_of word_order (entries v a w) key ≡ None = find-in v a w key is node x at ∙ ap (λ o. value_of word_order (kid (entries v a) o) key) e in
    put-under v a w x is node b d u key at made (keys + 1) value f second branch
    (view ∙ ap (λ z. with_view z (keys + 1) (with_entry word_order z.children x made)) same) (leaf-root v b made leaf)
    (leaf-content v b made k ∙ one ∙ ap (λ l. with_entry word_order l key value) (sym (ap (kid (entries v a)) e)))
    (let d8 = depth-leaf b made k in omega arith)
    (let p = (root-top v a w is node).over.population ∙ ap length (sym (root-top v a w is node).content) in
    let l = length-put (entries v a w) key value absent (root-rises v a w node) in omega arith)

-- the population of a branch, with one more, is a word
pub one-fits : (v : Bool) (a : Blocks) (w : ℕ) → IsRoot v a w → (keys : ℕ) → keys ≡ length (entries v a w) → keys + 1 < 18446744073709551616
one-fits v a w node keys e = let f = root-few v a w node in omega arith

pub population-is : (v : Bool) (a : Blocks) (w : ℕ) → is_branch w ≡ true → IsRoot v a w → (branch_view a w).population ≡ length (entries v a w)
population-is v a w is node = (root-top v a w is node).over.population ∙ ap length (sym (root-top v a w is node).content)

-- a branch has a key
pub root-some : (v : Bool) (a : Blocks) (w : ℕ) → is_branch w ≡ true → IsRoot v a w → 0 < length (entries v a w)
root-some v a w is node =
    let top = root-top v a w is node in
    let n = ap length top.content in
    let two = top.view.many in
    let s =
    some (branch_view a w).children (omega arith)
    (each-weaker (λ c. IsKid (branch_view a w).level (head_at (branch_view a w).level (branch_view a w).prefix + c.0) (IsRoot v a) (entries v a) (depth a) c.1)
    (λ c. 0 < length (entries v a c.1)) (branch_view a w).children (λ c i. i.filled) top.over.kids) in
    omega arith
  where
    some : (cs : Entries ℕ) → 0 < length cs → Each (λ c. 0 < length (entries v a c.1)) cs → 0 < length (joined (entries v a) cs)
    some [] h k = absurd (omega arith)
    some (c ∷ cs) h k = let p = k.0 in omega (arith, length-append (entries v a c.1) (joined (entries v a) cs))

-- the child of a byte is one list for both readings
pub child-frame : (a b : Blocks) (o : Option ℕ) (c : ℕ) (ns : List ℕ) → o ≡ Some c → Frame a b (numbers a c) ns → Frame a b (kid (numbers a) o) ns
child-frame a b o c ns e f = subst (λ l. Frame a b l ns) (sym (ap (kid (numbers a)) e)) f

-- a value was written below a child
pub wrote : (a b : Blocks) (w x c key value : ℕ) (is : is_branch w ≡ true) (node : IsRoot true a w) → value_of word_order
    (branch_view a w).children x ≡ Some c → head_at (branch_view a w).level key ≡ head_at (branch_view a w).level
    (branch_view a w).prefix + x
    → has_key word_order (entries true a w) key ≡ true → IsRoot true b c → entries true b c ≡ with_entry word_order
    (entries true a c) key value → Frame a b (numbers a c) (numbers b c) → depth b c ≡ depth a c
    → Became true a b w w (with_entry word_order (entries true a w) key value)
wrote a b w x c key value is node e at there sound content first deep =
    let t = branch_view a w in
    let i = kid-of true a w x is node c e in
    let f = child-frame a b (value_of word_order t.children x) c (numbers b c) e first in
    let same = own-kept true a w x is node b (numbers b c) f in
    let top = root-top true a w is node in
    put-under true a w x is node b b w key at c t.population value f (frame-same b (branch_number w ∷ []) (λ q h. one_live b w q same.branch h)) same.branch
    (same.view ∙ ap (with_view t t.population) (same-put t.children x c top.view.rising e)) sound
    (content ∙ ap (λ l. with_entry word_order l key value) (sym (ap (kid (entries true a)) e)))
    (let d = i.deeper in omega arith)
    (top.over.population ∙ ap length (sym top.content) ∙ sym (length-put-there (entries true a w) key value there (root-rises true a w node)))
  where
    one_live : (b : Blocks) (w q : ℕ) → IsBranch b w → holds q (branch_number w ∷ []) ≡ true → is_live b q ≡ true
    one_live b w q branch h = ap (is_live b) (same_number q (branch_number w) (sym (holds-one q (branch_number w)) ∙ h)) ∙ branch-live b w branch
      where
        same_number : (q n : ℕ) → (q == n) ≡ true → q ≡ n
        same_number q n e = grind (arith, nat_tests)

    same-put : (cs : Entries ℕ) (x c : ℕ) → is_sorted word_order cs ≡ true → value_of word_order cs x ≡ Some c → cs ≡ with_entry word_order cs x c
    same-put cs x c s e = same-found cs (with_entry word_order cs x c) s (rises-put x c cs s)
        (λ k. sym (find-put word_order nat_cmp_total k x c cs ∙ found_same (eq_by_cmp word_order k x) (value_of word_order cs k)
        (λ h. ap (value_of word_order cs) (same_word k x h) ∙ e)))
      where
        found_same : (t : Bool) (o : Option ℕ) → (t ≡ true → o ≡ Some c) → cond t (Some c) o ≡ o
        found_same true o h = sym (h refl)
        found_same false o h = refl

-- a key was taken out below a child that is left
pub lessened : (v : Bool) (a b d : Blocks) (w x c r key keys : ℕ) (is : is_branch w ≡ true) (node : IsRoot v a w)
    → value_of word_order (branch_view a w).children x ≡ Some c → head_at (branch_view a w).level key ≡ head_at
    (branch_view a w).level (branch_view a w).prefix + x
    → has_key word_order (entries v a w) key ≡ true → keys + 1 ≡ (branch_view a w).population
    → IsRoot v b r → entries v b r ≡ without_key word_order (entries v a c) key → 0 < length (entries v b r)
    → Frame a b (numbers a c) (numbers b r) → depth a c ≤ depth b r
    → IsBranch d w → branch_view d w ≡ with_view (branch_view b w) keys (with_entry word_order (branch_view b w).children x r)
    → Frame b d (branch_number w ∷ []) (branch_number w ∷ [])
    → Became v a d w w (without_key word_order (entries v a w) key)
lessened v a b d w x c r key keys is node e at there pop sound content some first deep branch view second =
    let t = branch_view a w in
    let i = kid-of v a w x is node c e in
    let f = child-frame a b (value_of word_order t.children x) c (numbers b r) e first in
    let same = (own-kept v a w x is node b (numbers b r) f).view in
    let top = root-top v a w is node in
    let s = top.view.rising in
    let view2 : branch_view d w ≡ with_view t keys (with_entry word_order t.children x r) = view
    ∙ ap (λ z. with_view z keys (with_entry word_order z.children x r)) same in
    changed v a b d w x (Some r) (branch_number w ∷ []) is node f second w branch (ap (λ z. z.level) view2) (ap (λ z. z.prefix) view2) refl
    (ap (λ z. value_of word_order z.children x) view2 ∙ found-put t.children x r)
    (ap (λ z. without_key word_order z.children x) view2 ∙ others-put t.children x r s)
    (λ k h. let j : r ≡ k = ap (λ o. unwrap_or o 0) h in subst (IsKid t.level (head_at t.level t.prefix + x) (IsRoot v b) (entries v b) (depth b)) j (record {
      sound = sound;
      deeper = let dd = i.deeper in omega arith;
      filled = some;
      heads = subst (Each (λ z. head_at t.level z.0 ≡ head_at t.level t.prefix + x)) (sym content)
          (each-without (λ z. head_at t.level z.0 ≡ head_at t.level t.prefix + x) key (entries v a c) i.heads);
    }))
    key None (without_key word_order (entries v a w) key) at
    (λ k. ap (λ l. value_of word_order l k) content ∙ find-without (entries v a c) key k
    ∙ ap (λ o. cond (eq_by_cmp word_order k key) None (value_of word_order (kid (entries v a) o) k)) (sym e))
    (rises-without key (entries v a w) (root-rises v a w node))
    (λ k. find-without (entries v a w) key k)
    (ap (λ z. z.population) view2 ∙ (let p = top.over.population ∙ ap length (sym top.content) in
    let l = length-without (entries v a w) key there (root-rises v a w node) in omega arith))

-- ---- a child that went

-- an array in place of another, at no lower level
pub record Became' (v : Bool) (a d : Blocks) (w u : ℕ) (l : Entries ℕ) : Type 0 where
  pub root : IsRoot v d u
  pub content : entries v d u ≡ l
  pub frame : Frame a d (numbers a w) (numbers d u)
  pub deep : depth a w ≤ depth d u

-- what is left of a branch without a child
pub record Left (v : Bool) (a d : Blocks) (w u x : ℕ) : Type 0 where
  pub root : IsRoot v d u
  pub content : entries v d u ≡ joined (entries v a) (without_key word_order (branch_view a w).children x)
  pub frame : Frame a d (numbers a w) (numbers d u)
  pub deep : depth a w ≤ depth d u

module _ (v : Bool) (a b d : Blocks) (w x c : ℕ) (is : is_branch w ≡ true) (node : IsRoot v a w)
    (e : value_of word_order (branch_view a w).children x ≡ Some c) (gone : Frame a b (numbers a c) []) where
  abbrev t' : View
  t' = branch_view a w

  first' : Frame a b (kid (numbers a) (value_of word_order (branch_view a w).children x)) (kid (numbers b) None)
  first' = child-frame a b (value_of word_order (branch_view a w).children x) c [] e gone

  pub own-left : BranchKept a b w
  own-left = own-kept v a w x is node b [] first'

  -- a branch is left
  pub left-branch : (u keys : ℕ) → IsBranch d u → branch_view d u ≡ with_view (branch_view b w) keys
      (without_key word_order (branch_view b w).children x) → Frame b d (branch_number w ∷ []) (branch_number u ∷ [])
      → keys + length (entries v a c) ≡ length (entries v a w) → Left v a d w u x
  left-branch u keys branch view second count =
      let top = root-top v a w is node in
      let s = top.view.rising in
      let view2 : branch_view d u ≡ with_view t' keys (without_key word_order t'.children x) = view
      ∙ ap (λ z. with_view z keys (without_key word_order z.children x)) own-left.view in
      let same = rest-same v a b d w x None (branch_number u ∷ []) is node first' second in
      let is_joined : joined (entries v d) (branch_view d u).children ≡ joined (entries v a) (without_key word_order t'.children x) =
      ap (λ z. joined (entries v d) z.children) view2 ∙ joined-same (entries v d) (entries v a)
      (without_key word_order t'.children x) (each-weaker (λ k. Kept v a d k.1) (λ k. entries v d k.1 ≡ entries v a k.1)
      (without_key word_order t'.children x) (λ k i. i.content) same) in
      let n = ap length top.content ∙ length-joined (entries v a) t'.children ∙ total-split (λ c. length (entries v a c)) t'.children x s in
      let o : some_of (λ c. length (entries v a c)) (value_of word_order t'.children x) ≡ length (entries v a c) =
      ap (some_of (λ c. length (entries v a c))) e in
      let m = length-joined (entries v a) (without_key word_order t'.children x) in
      let to = changed-root v a b d w x None (branch_number u ∷ []) is node first' second u branch (ap (λ z. z.level) view2) (ap (λ z. z.prefix) view2) refl
      (ap (λ z. value_of word_order z.children x) view2 ∙ found-without t'.children x)
      (ap (λ z. without_key word_order z.children x) view2 ∙ others-without t'.children x s)
      (λ k h. absurd (none-some k h))
      (ap (λ z. z.population) view2 ∙ (let z = ap length is_joined in omega arith)) in
      record {
        root = to.root;
        content = to.top.content ∙ is_joined;
        frame = changed-frame v a b d w x None (branch_number u ∷ []) is node first' second u branch (ap (λ z. z.level) view2) (ap (λ z. z.prefix) view2) refl
            (ap (λ z. value_of word_order z.children x) view2 ∙ found-without t'.children x)
            (ap (λ z. without_key word_order z.children x) view2 ∙ others-without t'.children x s)
            (λ k h. absurd (none-some k h)) to.top.blocks;
        deep = let z = depth-branch d u (branch-kind d u branch) ∙ ap (λ z. z.level) view2 ∙ sym (depth-branch a w is) in omega arith;
      }

  -- one child is left, and takes the branch's place
  pub left-only : (u : ℕ) → IsAlone (without_key word_order (branch_view b w).children x) u → Frame b d (branch_number w ∷ []) [] → Left v a d w u x
  left-only u alone second =
      let top = root-top v a w is node in
      let one : without_key word_order t'.children x ≡ (alone.0, u) ∷ [] = ap (λ z. without_key word_order z.children x) (sym own-left.view) ∙ alone.1 in
      let kept : Kept v a d u = (subst (Each (λ k. Kept v a d k.1)) one (rest-same v a b d w x None [] is node first' second)).0 in
      let i : IsKid t'.level (head_at t'.level t'.prefix + alone.0) (IsRoot v d) (entries v d) (depth d) u =
      (subst (Each (λ k. IsKid t'.level (head_at t'.level t'.prefix + k.0) (IsRoot v d) (entries v d) (depth d) k.1)) one
      (rest-kids v a b d w x None [] is node first' second)).0 in
      record {
        root = kept.root;
        content = kept.content ∙ sym (append-nil (entries v a u)) ∙ ap (joined (entries v a)) (sym one);
        frame = two-frames a b d (kid (numbers a) (value_of word_order t'.children x)) [] (branch_number w ∷ []) []
            (joined (numbers a) (without_key word_order t'.children x)) first' second
            (own v a b d w x None [] is node first' second) (resting v a b d w x None [] is node first' second) (numbers a w) (numbers d u)
            (old_times v a b d w x None [] is node first' second)
            (λ q. ap (times q) (kept.blocks ∙ sym (append-nil (numbers a u)) ∙ ap (joined (numbers a)) (sym one))
            ∙ none (times q (joined (numbers a) (without_key word_order t'.children x))));
        deep = let y = i.deeper in let z = depth-branch a w is in omega arith;
      }
    where
      none : (m : ℕ) → m ≡ 0 + (0 + m)
      none m = omega arith

  -- the key was the child's last
  pub last-key : (key u : ℕ) → head_at t'.level key ≡ head_at t'.level t'.prefix + x → without_key word_order (entries v a c) key
      ≡ [] → Left v a d w u x → Became' v a d w u (without_key word_order (entries v a w) key)
  last-key key u at none left =
      let top = root-top v a w is node in
      let s = top.view.rising in
      record {
        root = left.root;
        frame = left.frame;
        deep = left.deep;
        content = left.content ∙ same-found (joined (entries v a) (without_key word_order t'.children x)) (without_key word_order (entries v a w) key)
            (subst (λ l. is_sorted word_order l ≡ true) left.content (root-rises v d u left.root))
            (rises-without key (entries v a w) (root-rises v a w node))
            (λ k. joined-changed (head_at t'.level) (head_at t'.level t'.prefix) (entries v a) (entries v a) t'.children
            (without_key word_order t'.children x) x key None s (rises-without x t'.children s) (others-without t'.children x s)
            heads (each-without (λ c. Each (λ z. head_at t'.level z.0 ≡ head_at t'.level t'.prefix + c.0) (entries v a c.1)) x t'.children heads)
            (each-all (without_key word_order t'.children x))
            at (λ k. ap (λ o. value_of word_order (kid (entries v a) o) k) (found-without t'.children x)
            ∙ ap (λ l. value_of word_order l k) (sym none) ∙ find-without (entries v a c) key k
            ∙ ap (λ o. cond (eq_by_cmp word_order k key) None (value_of word_order (kid (entries v a) o) k)) (sym e)) k
            ∙ ap (λ l. cond (eq_by_cmp word_order k key) None (value_of word_order l k)) (sym top.content) ∙ sym (find-without (entries v a w) key k));
      }
    where
      heads : Each (λ c. Each (λ z. head_at t'.level z.0 ≡ head_at t'.level t'.prefix + c.0) (entries v a c.1)) t'.children
      heads = each-weaker (λ c. IsKid t'.level (head_at t'.level t'.prefix + c.0) (IsRoot v a) (entries v a) (depth a) c.1)
          (λ c. Each (λ z. head_at t'.level z.0 ≡ head_at t'.level t'.prefix + c.0) (entries v a c.1)) t'.children (λ c i. i.heads)
          (root-top v a w is node).over.kids

      each-all : (l : Entries ℕ) → Each (λ c. entries v a c.1 ≡ entries v a c.1) l
      each-all [] = tt
      each-all (c ∷ l) = (refl, each-all l)

-- a leaf in place of a leaf
pub leaf-became : (v : Bool) (a b : Blocks) (w r : ℕ) (l : Entries ℕ) → is_branch w ≡ false → IsLeaf v b r → leaf_entries v b r
    ≡ l → Frame a b (leaf_numbers a w) (leaf_numbers b r) → Became v a b w r l
leaf-became v a b w r l is leaf content f =
    let k = leaf-kind v b r leaf in
    record {
      root = leaf-root v b r leaf;
      content = leaf-content v b r k ∙ content;
      frame = subst (λ n. Frame a b n (numbers b r)) (sym (leaf-blocks a w is)) (subst (Frame a b (leaf_numbers a w)) (sym (leaf-blocks b r k)) f);
      deep = depth-leaf b r k ∙ sym (depth-leaf a w is);
    }

-- a key that is there is in a child
pub key-in : (v : Bool) (a : Blocks) (w x key : ℕ) (is : is_branch w ≡ true) (node : IsRoot v a w)
    → head_at (branch_view a w).level key ≡ head_at (branch_view a w).level (branch_view a w).prefix + x → has_key word_order
    (entries v a w) key ≡ true
    → has_key word_order (kid (entries v a) (value_of word_order (branch_view a w).children x)) key ≡ true
key-in v a w x key is node at there = ap is_some (sym (find-in v a w key is node x at)) ∙ there

-- a node with an entry is no empty one, and the reference to nothing is an empty one
pub not-nothing : (v : Bool) (b : Blocks) (w : ℕ) → IsRoot v b w → w ≢ 0 → 0 < length (entries v b w)
not-nothing v b w node ne =
    elim (is_branch w) as (λ t. is_branch w ≡ t → 0 < length (entries v b w)) [
      | true ↦ λ e. root-some v b w e node
      | false ↦ λ e. some (leaf_entries v b w) (λ h. ne (leaf-empty v b w (root-leaf v b w e node) h)) (leaf-content v b w e)
    ] refl
  where
    some : (l : Entries ℕ) → (l ≡ [] → ⊥) → entries v b w ≡ l → 0 < length (entries v b w)
    some [] h e = absurd (h refl)
    some (x ∷ l) h e = let n = ap length e in omega arith

pub nothing : (v : Bool) (b : Blocks) (w : ℕ) → w ≡ 0 → (entries v b w ≡ []) × (numbers b w ≡ [])
nothing v b w z =
    let n = leaf-none v b in
    (ap (entries v b) z ∙ leaf-content v b 0 refl ∙ n.1, ap (numbers b) z ∙ leaf-blocks b 0 refl ∙ n.2)

-- the numbers of a node that came and went
pub frames-chain : (a b c : Blocks) (old mid new : List ℕ) → Frame a b old mid → Frame b c mid new → Frame a c old new
frames-chain a b c old mid new f g = frame-then a b c old mid mid new old new f g (λ q. one (holds q old) (holds q mid)) (λ q. one (holds q new) (holds q mid))
  where
    one : (s t : Bool) → s ≡ joint s t t
    one true t = refl
    one false true = refl
    one false false = refl

-- the child's entries rise
pub kid-sorted : (v : Bool) (a : Blocks) (w x c : ℕ) (is : is_branch w ≡ true) (node : IsRoot v a w) → value_of word_order
    (branch_view a w).children x ≡ Some c → is_sorted word_order (entries v a c) ≡ true
kid-sorted v a w x c is node e = root-rises v a c (kid-of v a w x is node c e).sound

-- how many keys are left where the child's last one goes
pub length-without-one : (v : Bool) (a : Blocks) (w c key keys : ℕ) (is : is_branch w ≡ true) (node : IsRoot v a w)
    → keys ≡ (branch_view a w).population → is_sorted word_order (entries v a c) ≡ true → has_key word_order (entries v a c) key
    ≡ true → without_key word_order (entries v a c) key ≡ []
    → (keys - 1) + length (entries v a c) ≡ length (entries v a w)
length-without-one v a w c key keys is node pop sorted there none =
    let p = population-is v a w is node in
    let s = root-some v a w is node in
    let l = length-without (entries v a c) key there sorted in
    let z = ap length none in
    omega arith

-- what is left of a branch is smaller
pub falls-left : (v : Bool) (a d : Blocks) (w u x c : ℕ) (is : is_branch w ≡ true) (node : IsRoot v a w) → value_of word_order
    (branch_view a w).children x ≡ Some c → entries v d u ≡ joined (entries v a)
    (without_key word_order (branch_view a w).children x)
    → 2 * length (entries v d u) + cond (is_branch u) 0 1 < 2 * length (entries v a w) + cond (is_branch w) 0 1
falls-left v a d w u x c is node e content =
    let top = root-top v a w is node in
    let n = ap length top.content ∙ length-joined (entries v a) (branch_view a w).children ∙ total-split
    (λ c. length (entries v a c)) (branch_view a w).children x top.view.rising in
    let o : some_of (λ c. length (entries v a c)) (value_of word_order (branch_view a w).children x) ≡ length (entries v a c) =
    ap (some_of (λ c. length (entries v a c))) e in
    let m = ap length content ∙ length-joined (entries v a) (without_key word_order (branch_view a w).children x) in
    let f = (kid-of v a w x is node c e).filled in
    let b = small (is_branch u) in
    omega arith
  where
    small : (t : Bool) → cond {A = ℕ} t 0 1 ≤ 1
    small true = omega arith
    small false = omega arith

-- the population of a branch, less that of a child
pub population-less : (v : Bool) (a : Blocks) (w x c keys gone : ℕ) (is : is_branch w ≡ true) (node : IsRoot v a w)
    → value_of word_order (branch_view a w).children x ≡ Some c → keys ≡ (branch_view a w).population → gone ≡ length
    (entries v a c)
    → (gone ≤ keys) × ((keys - gone) + length (entries v a c) ≡ length (entries v a w))
population-less v a w x c keys gone is node e p g =
    let q = population-is v a w is node in
    let s = kid-shorter v a w x is node c e in
    (omega arith, omega arith)

-- a key is absent where its byte has no child
pub absent-in : (v : Bool) (a : Blocks) (w x key : ℕ) (is : is_branch w ≡ true) (node : IsRoot v a w)
    → head_at (branch_view a w).level key ≡ head_at (branch_view a w).level (branch_view a w).prefix + x
    → has_key word_order (branch_view a w).children x ≡ false → has_key word_order (entries v a w) key ≡ false
absent-in v a w x key is node at none = ap is_some
    (find-in v a w key is node x at ∙ ap (λ o. value_of word_order (kid (entries v a) o) key)
    (no-value (branch_view a w).children x none))

-- a leaf with an entry is not the empty one
pub leaf-some : (v : Bool) (b : Blocks) (w key value : ℕ) → leaf_entries v b w ≡ (key, value) ∷ [] → w ≢ 0
leaf-some v b w key value e z = let n = ap length (sym e ∙ ap (leaf_entries v b) z ∙ (leaf-none v b).1) in absurd (omega arith)

-- a node with an entry is not the empty one
pub some-node : (v : Bool) (b : Blocks) (w : ℕ) → 0 < length (entries v b w) → w ≢ 0
some-node v b w some z = let n = ap length (nothing v b w z).0 in absurd (omega arith)

-- a changed array, as the calls say it
pub became : (v : Bool) (old new : ArenaState) (w x : ℕ) (l : Entries ℕ) → Became v old.blocks new.blocks w x l → RootBecomes v old w new x l
became v old new w x l b = record { root = b.root; content = b.content; frame = b.frame }

-- a node with one key less, as the calls on nodes say it
pub shrinks : (v : Bool) (old new : ArenaState) (w x key : ℕ) → Became v old.blocks new.blocks w x
    (without_key word_order (entries v old.blocks w) key) → new.refusals ≡ old.refusals → NodeShrinks v old w new x key
shrinks v old new w x key b r = record {
  array = record { root = b.root; content = b.content; frame = b.frame };
  deep = let d =
      b.deep in omega arith;
  refusals = r;
}

pub shrinks' : (v : Bool) (old new : ArenaState) (w x key : ℕ) → Became' v old.blocks new.blocks w x
    (without_key word_order (entries v old.blocks w) key) → new.refusals ≡ old.refusals → NodeShrinks v old w new x key
shrinks' v old new w x key b r = record { array = record { root = b.root; content = b.content; frame = b.frame }; deep = b.deep; refusals = r }

-- a leaf that lost a key
pub leaf-shrinks : (v : Bool) (old new : ArenaState) (w r key : ℕ) → is_branch w ≡ false → BecomesIn v old new
    (leaf_numbers old.blocks w) (without_key word_order (leaf_entries v old.blocks w) key) r → NodeShrinks v old w new r key
leaf-shrinks v old new w r key is b = shrinks v old new w r key
    (leaf-became v old.blocks new.blocks w r (without_key word_order (entries v old.blocks w) key) is b.leaf
    (b.entries ∙ ap (λ l. without_key word_order l key) (sym (leaf-content v old.blocks w is))) b.frame) b.refusals

-- a child that lost its last key has no block
pub emptied-frame : (v : Bool) (old new : ArenaState) (c key : ℕ) → NodeShrinks v old c new 0 key → Frame old.blocks new.blocks (numbers old.blocks c) []
emptied-frame v old new c key s = subst (Frame old.blocks new.blocks (numbers old.blocks c)) (nothing v new.blocks 0 refl).1 s.array.frame

pub emptied-none : (v : Bool) (old new : ArenaState) (c key : ℕ) → NodeShrinks v old c new 0 key → without_key word_order (entries v old.blocks c) key ≡ []
emptied-none v old new c key s = sym s.array.content ∙ (nothing v new.blocks 0 refl).0

-- a value found below a child is found in the node
pub found-below : (v : Bool) (a : Blocks) (w x c key : ℕ) (is : is_branch w ≡ true) (node : IsRoot v a w) → value_of word_order
    (branch_view a w).children x ≡ Some c → head_at (branch_view a w).level key ≡ head_at (branch_view a w).level
    (branch_view a w).prefix + x
    → value_of word_order (entries v a w) key ≡ value_of word_order (entries v a c) key
found-below v a w x c key is node e at = find-in v a w key is node x at ∙ ap (λ o. value_of word_order (kid (entries v a) o) key) e

-- the population of a branch, less one
pub one-less : (v : Bool) (a : Blocks) (w keys : ℕ) (is : is_branch w ≡ true) (node : IsRoot v a w)
    → keys ≡ (branch_view a w).population → (0 < keys) × ((keys - 1) + 1 ≡ (branch_view a w).population)
one-less v a w keys is node e = let s = root-some v a w is node in let q = population-is v a w is node in (omega arith, omega arith)

-- a reference to a branch is not 0
pub branch-some : (w : ℕ) → is_branch w ≡ true → w ≢ 0
branch-some w is z = absurd (not_true (sym (ap is_branch z) ∙ is))

-- nor is the one child that is left
pub alone-some : (b : Blocks) (w x u : ℕ) → IsBranch b w → IsAlone (without_key word_order (branch_view b w).children x) u → u ≢ 0
alone-some b w x u branch alone = (subst (Each IsPlace) alone.1 (each-without IsPlace x (branch_view b w).children (branch-sound b w branch).places)).0.some

pub some-leaf : (v : Bool) (b : Blocks) (w : ℕ) → 0 < length (leaf_entries v b w) → w ≢ 0
some-leaf v b w some z = let n = ap length (ap (leaf_entries v b) z ∙ (leaf-none v b).1) in absurd (omega arith)

-- a node with one key more is not the empty one
pub some-grown : (v : Bool) (old new : ArenaState) (w x key value : ℕ) → NodeGrows v old w new x key value → x ≢ 0
some-grown v old new w x key value g = some-node v new.blocks x (subst (λ l. 0 < length l) (sym g.array.content) (some-put (entries v old.blocks w) key value))
