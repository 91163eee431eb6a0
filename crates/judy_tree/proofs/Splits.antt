-- A leaf that cannot take a key: where its keys and the new one differ, and what becomes of it.
use Rattle.std.proofs.Common.{◌≡◌, ◌≢◌, ℕ, zero, suc, ◌+◌, ◌-◌, ◌/◌, ◌<◌, ◌≤◌, Bool, true, false, [], ◌∷◌}
use Rattle.std.proofs.Common.{length, Some, is_some, ap, sym, ◌∙◌, refl, subst, arith, ◌⊎◌, inl, inr}
use Rattle.std.proofs.lemmas.Bool.Decides.{nat_tests}
use Rattle.std.specs.Prelude.{nat_lt}
use Rattle.std.specs.FinMap.{is_sorted}
use Rattle.std.proofs.lemmas.Bool.{false≢true as not_true}
use Rattle.judy_arena.specs.Blocks.{Blocks, is_live}
use Rattle.judy_arena.specs.Frame.{holds, Frame}
use Rattle.judy_refs.specs.References.{kind_of}
use Rattle.judy_model.specs.Contents.{Entries, word_order, value_of, has_key, with_entry}
use Rattle.judy_tree.specs.Each.{Each}
use Rattle.judy_leaf.specs.Leaf.{IsLeaf, CannotTake, leaf_entries, leaf_numbers}
use Rattle.judy_tree.specs.Calls.{entry_at}
use Rattle.judy_tree.proofs.LeafLaws.{ShareFront, CannotShare, cannot-share}
use Rattle.judy_tree.specs.Nodes.{head_at, is_branch}
use Rattle.judy_tree.specs.Root.{entries, numbers, IsRoot}
use Rattle.judy_tree.specs.Calls.{StaysDeep, NodeGrows, Adds}
use Rattle.judy_tree.specs.declared.answers.Added.{Added}
use Rattle.judy_tree.specs.declared.answers.Added.TheVariants as added
use Rattle.judy_tree.specs.Fork.{Differ, CanFork}
use Rattle.judy_tree.specs.Split.{MustSplit, IsSpread, low_key, high_key}
use Rattle.judy_arena.specs.Blocks.{ArenaState, count_up}
use Rattle.judy_arena.proofs.lemmas.FrameLaws.{frame-stays}
use Rattle.judy_tree.proofs.LeafLaws.{leaf-kind, leaf-kept, leaf-live, leaf-words, leaf-wide, leaf-full, Kept as LeafKept}
use Rattle.judy_tree.proofs.lemmas.Heads.{head-less, head-earlier}
use Rattle.judy_tree.proofs.lemmas.Joins.{each-weaker, each-both, each-below, rises-parts}
use Rattle.judy_tree.proofs.Nodes.{depth-leaf}
use Rattle.judy_tree.proofs.lemmas.Trees.{Kept, root-kept, leaf-blocks, leaf-content}
use Rattle.judy_tree.proofs.Changes.{two-frames, new-stays, given-back}
use Rattle.judy_tree.proofs.lemmas.Joins.{times}
use Rattle.judy_tree.proofs.Steps.{frames-chain}

-- the entry at a place
pub each-at : (P : ℕ × ℕ → Type 0) (l : Entries ℕ) (i : ℕ) → Each P l → i < length l → P (entry_at l i)
each-at P [] i h n = absurd (omega arith)
each-at P (e ∷ l) zero h n = h.0
each-at P (e ∷ l) (suc i) h n = each-at P l i h.1 (omega arith)

last_of_more : (e d : ℕ × ℕ) (l : Entries ℕ) → high_key (e ∷ d ∷ l) ≡ high_key (d ∷ l)
last_of_more e d l = ap (λ i. (entry_at (e ∷ d ∷ l) i).0) (one (length l))
  where
    one : (n : ℕ) → suc (suc n) - 1 ≡ suc (suc n - 1)
    one n = omega arith

under_high : (l : Entries ℕ) → is_sorted word_order l ≡ true → Each (λ e. e.0 ≤ high_key l) l
under_high [] s = tt
under_high (e ∷ []) s = (omega arith, tt)
under_high (e ∷ d ∷ l) s =
    let r = under_high (d ∷ l) (rises-parts e (d ∷ l) s).1 in
    let b = each-below e.0 (d ∷ l) (rises-parts e (d ∷ l) s).0 in
    let m = last_of_more e d l in
    let lo = b.0 in let hi = r.0 in
    (omega arith, each-weaker (λ x. x.0 ≤ high_key (d ∷ l)) (λ x. x.0 ≤ high_key (e ∷ d ∷ l)) (d ∷ l) (λ x h. omega arith) r)

over_low : (l : Entries ℕ) → is_sorted word_order l ≡ true → Each (λ e. low_key l ≤ e.0) l
over_low [] s = tt
over_low (e ∷ l) s = (omega arith, each-weaker (λ x. e.0 < x.0) (λ x. e.0 ≤ x.0) l (λ x h. omega arith) (each-below e.0 l (rises-parts e l s).0))

pub mono : (m a b : ℕ) → a ≤ b → head_at m a ≤ head_at m b
mono m a b h =
    elim (nat_lt (head_at m b) (head_at m a)) as (λ t. nat_lt (head_at m b) (head_at m a) ≡ t → head_at m a ≤ head_at m b) [
      | true ↦ λ e. let n = head-less m b a (less (head_at m b) (head_at m a) e) in absurd (omega arith)
      | false ↦ λ e. not_less (head_at m b) (head_at m a) e
    ] refl
  where
    less : (l m : ℕ) → nat_lt l m ≡ true → l < m
    less l m e = grind (arith, nat_tests)

    not_less : (l m : ℕ) → nat_lt l m ≡ false → m ≤ l
    not_less l m e = grind (arith, nat_tests)

-- where the lowest and the highest key agree, all do
pub all-agree : (m : ℕ) (l : Entries ℕ) → is_sorted word_order l ≡ true → head_at m (low_key l) ≡ head_at m (high_key l)
    → Each (λ e. head_at m e.0 ≡ head_at m (low_key l)) l
all-agree m l s e = each-both (λ x. low_key l ≤ x.0) (λ x. x.0 ≤ high_key l) (λ x. head_at m x.0 ≡ head_at m (low_key l)) l
    (λ x a b. let p = mono m (low_key l) x.0 a in let q = mono m x.0 (high_key l) b in omega arith) (over_low l s) (under_high l s)

pub front-head : (k : ℕ) → head_at 6 k ≡ k / 256
unfolding head_at
front-head k = refl

-- a leaf that cannot take a key has one
pub cannot-some : (l : Entries ℕ) (key : ℕ) → CannotShare l key → 0 < length l
cannot-some [] key h = absurd (h tt)
cannot-some (e ∷ l) key h = omega arith

less_from : (l m : ℕ) → nat_lt l m ≡ true → l < m
less_from l m e = grind (arith, nat_tests)

not_less_from : (l m : ℕ) → nat_lt l m ≡ false → m ≤ l
not_less_from l m e = grind (arith, nat_tests)

module _ (l : Entries ℕ) (key level : ℕ) (s : is_sorted word_order l ≡ true) (cannot : CannotShare l key) (seven : level ≤ 7)
    (differ : head_at level (low_key l) ≢ head_at level key) (agree : (m : ℕ) → m < level → head_at m (low_key l) ≡ head_at m key) where
  -- not all keys and the new one share bytes 0 to 6
  not_all : head_at 6 (low_key l) ≡ head_at 6 (high_key l) → head_at 6 (low_key l) ≡ head_at 6 key → ⊥
  not_all e f = cannot (each-weaker (λ x. head_at 6 x.0 ≡ head_at 6 (low_key l)) (λ x. x.0 / 256 ≡ key / 256) l
      (λ x h. sym (front-head x.0) ∙ h ∙ f ∙ front-head key) (all-agree 6 l s e))

  low_level : head_at level (low_key l) ≡ head_at level (high_key l) → level ≤ 6
  low_level e = elim (nat_lt level 7) as (λ t. nat_lt level 7 ≡ t → level ≤ 6) [
    | true ↦ λ i. let n = less_from level 7 i in omega arith
    | false ↦ λ i. let n = not_less_from level 7 i in absurd
        (not_all (head-earlier 6 level (low_key l) (high_key l) (omega arith) seven e) (agree 6 (omega arith)))
  ] refl

  one_level : (m : ℕ) → head_at m (low_key l) ≢ head_at m key → ((n : ℕ) → n < m → head_at n (low_key l) ≡ head_at n key) → m ≡ level
  one_level m d a = elim (nat_lt m level) as (λ t. nat_lt m level ≡ t → m ≡ level) [
    | true ↦ λ i. absurd (d (agree m (less_from m level i)))
    | false ↦ λ i. elim (nat_lt level m) as (λ t. nat_lt level m ≡ t → m ≡ level) [
      | true ↦ λ j. absurd (differ (a level (less_from level m j)))
      | false ↦ λ j. let x = not_less_from m level i in let y = not_less_from level m j in omega arith
    ] refl
  ] refl

  -- where the leaf's keys agree, the branch is made above it
  pub above-leaf : head_at level (low_key l) ≡ head_at level (high_key l) → (m : ℕ) → m ≤ 7 → head_at m (low_key l) ≢ head_at m
      key → ((n : ℕ) → n < m → head_at n (low_key l) ≡ head_at n key) → (m < 8) × (m ≤ 6)
      × Each (λ e. head_at m e.0 ≡ head_at m (low_key l)) l
  above-leaf e m sm d a =
      let i = one_level m d a in
      let n = low_level e in
      (omega arith, omega arith, subst (λ k. Each (λ e. head_at k e.0 ≡ head_at k (low_key l)) l) (sym i) (all-agree level l s e))

  module _ (apart : head_at level (low_key l) ≢ head_at level (high_key l)) where
    not_front : head_at 6 (low_key l) ≡ head_at 6 (high_key l) → ⊥
    not_front e = elim (nat_lt level 7) as (λ t. nat_lt level 7 ≡ t → ⊥) [
      | true ↦ λ i. let n = less_from level 7 i in apart (head-earlier level 6 (low_key l) (high_key l) (omega arith) (omega arith) e)
      | false ↦ λ i. let n = not_less_from level 7 i in not_all e (agree 6 (omega arith))
    ] refl

    -- a leaf whose keys differ before the last byte is small
    pub few-keys : (31 < length l → ShareFront l (low_key l / 256)) → length l ≤ 31
    few-keys wide = elim (nat_lt 31 (length l)) as (λ t. nat_lt 31 (length l) ≡ t → length l ≤ 31) [
      | true ↦ λ i.
          let some = cannot-some l key cannot in
          let h = each-at (λ e. e.0 / 256 ≡ low_key l / 256) l (length l - 1) (wide (less_from 31 (length l) i)) (omega arith) in
          absurd (not_front (front-head (low_key l) ∙ sym h ∙ sym (front-head (high_key l))))
      | false ↦ λ i. not_less_from 31 (length l) i
    ] refl

    -- a leaf with 31 keys, or with keys that share bytes 0 to 6, has 31 keys
    pub all-keys : (length l ≡ 31) ⊎ ShareFront l (low_key l / 256) → length l ≡ 31
    all-keys (inl e) = e
    all-keys (inr share) =
        let some = cannot-some l key cannot in
        let h = each-at (λ e. e.0 / 256 ≡ low_key l / 256) l (length l - 1) share (omega arith) in
        absurd (not_front (front-head (low_key l) ∙ sym h ∙ sym (front-head (high_key l))))

    module _ (next : ℕ) (seven' : next ≤ 7) (apart' : head_at next (low_key l) ≢ head_at next (high_key l))
        (agree' : (m : ℕ) → m < next → head_at m (low_key l) ≡ head_at m (high_key l)) where
      pub low-next : next ≤ 6
      low-next = elim (nat_lt next 7) as (λ t. nat_lt next 7 ≡ t → next ≤ 6) [
        | true ↦ λ i. let n = less_from next 7 i in omega arith
        | false ↦ λ i. let n = not_less_from next 7 i in absurd (not_front (agree' 6 (omega arith)))
      ] refl

      pub agree-next : (i : ℕ) → i < length l → (m : ℕ) → m < next → head_at m (entry_at l i).0 ≡ head_at m (entry_at l 0).0
      agree-next i h m n = each-at (λ e. head_at m e.0 ≡ head_at m (low_key l)) l i (all-agree m l s (agree' m n)) h

      -- where all keys and the new one agree, the branch is below
      pub deep-next : (m : ℕ) → m < 8 → Each (λ e. head_at m e.0 ≡ head_at m key) l → m < next
      deep-next m h all = elim (nat_lt m next) as (λ t. nat_lt m next ≡ t → m < next) [
        | true ↦ λ i. less_from m next i
        | false ↦ λ i.
            let some = cannot-some l key cannot in
            let n = not_less_from m next i in
            absurd (apart' (head-earlier next m (low_key l) (high_key l) n (omega arith)
            (each-at (λ e. head_at m e.0 ≡ head_at m key) l 0 all (omega arith)
            ∙ sym (each-at (λ e. head_at m e.0 ≡ head_at m key) l (length l - 1) all (omega arith)))))
      ] refl

-- ---- the leaf is spread, the key put in, and the old block released
module _ (v : Bool) (a b c : Blocks) (w split grown : ℕ) (is : is_branch w ≡ false) (leaf : IsLeaf v a w)
    (first : Frame a b [] (numbers b split)) (second : Frame b c (numbers b split) (numbers c grown)) where
  between : Frame a c [] (numbers c grown)
  between = frames-chain a b c [] (numbers b split) (numbers c grown) first second

  pub leaf-still : LeafKept v a c w
  leaf-still = leaf-kept v a c w leaf (λ q h. (frame-stays a c [] (numbers c grown) q between (leaf-live v a w q leaf h) refl).1)

  module _ (d : Blocks) (third : Frame c d (leaf_numbers c w) []) (root : IsRoot v c grown) where
    own : (q : ℕ) → holds q (leaf_numbers c w) ≡ true → (is_live a q ≡ true) × (holds q [] ≡ false)
    own q h = (leaf-live v a w q leaf (ap (holds q) (sym leaf-still.numbers) ∙ h), refl)

    none : (q : ℕ) → holds q [] ≡ true → (is_live a q ≡ true) × (holds q [] ≡ false) × (holds q (leaf_numbers c w) ≡ false)
    none q h = absurd (not_true h)

    pub grown-kept : Kept v c d grown
    grown-kept = root-kept v c d grown root (λ q h. (new-stays a c d [] (numbers c grown) (leaf_numbers c w) [] [] between third own none q h).1)

    pub split-frame : Frame a d (numbers a w) (numbers d grown)
    split-frame = two-frames a c d [] (numbers c grown) (leaf_numbers c w) [] [] between third own none (numbers a w) (numbers d grown)
        (λ q. ap (times q) (leaf-blocks a w is ∙ sym leaf-still.numbers) ∙ right (times q (leaf_numbers c w)))
        (λ q. ap (times q) grown-kept.blocks ∙ left (times q (numbers c grown)))
      where
        right : (n : ℕ) → n ≡ n + (0 + 0)
        right n = omega arith

        left : (n : ℕ) → n ≡ 0 + (n + 0)
        left n = omega arith

-- ---- how a leaf that cannot take a key is parted, by its lowest and its highest key
module _ (v : Bool) (b : Blocks) (w key lo : ℕ) (leaf : IsLeaf v b w) (absent : has_key word_order (leaf_entries v b w) key ≡ false)
    (full : CannotTake (kind_of w) (leaf_entries v b w) key) (low : lo ≡ low_key (leaf_entries v b w)) where
  abbrev l : Entries ℕ
  l = leaf_entries v b w

  cannot : CannotShare l key
  cannot = cannot-share l key full.0

  rising : is_sorted word_order l ≡ true
  rising = (leaf-words v b w leaf).0

  some : 0 < length l
  some = cannot-some l key cannot

  module _ (hi level : ℕ) (high : hi ≡ high_key l) (d : Differ lo key level) where
    parts : Differ (low_key l) key level
    parts = subst (λ x. Differ x key level) low d

    -- the leaf's keys agree to where the new one parts from them, and a branch may stand above it
    pub fork-above : head_at level lo ≡ head_at level hi → CanFork v b w lo key
    fork-above e m n =
        let p : Differ (low_key l) key m = subst (λ x. Differ x key m) low n in
        let h = above-leaf l key level rising cannot parts.low parts.differ parts.agree
        (ap (head_at level) (sym low) ∙ e ∙ ap (head_at level) high) m p.low p.differ p.agree in
        let is = leaf-kind v b w leaf in
        let eight = depth-leaf b w is in (
          omega (arith, h.0),
          h.1,
          subst (Each (λ x. head_at m x.0 ≡ head_at m lo)) (sym (leaf-content v b w is))
              (subst (λ k. Each (λ x. head_at m x.0 ≡ head_at m k) l) (sym low) h.2),
        )

    -- they do not agree, and the leaf is split
    pub must-split : (next : ℕ) → (head_at level lo ≡ head_at level hi → ⊥) → Differ lo hi next → MustSplit v b w key next
    must-split next apart n =
        let a : head_at level (low_key l) ≢ head_at level (high_key l) =
        λ e. apart (ap (head_at level) low ∙ e ∙ sym (ap (head_at level) high)) in
        let m : Differ (low_key l) (high_key l) next = subst (λ x. Differ x (high_key l) next) low (subst (λ x. Differ lo x next) high n) in
        record {
          spread = record {
            leaf = leaf;
            few = few-keys l key level rising cannot parts.low parts.differ parts.agree a (leaf-wide v b w leaf);
            some = some;
            low = low-next l key level rising cannot parts.low parts.differ parts.agree a next m.low m.differ m.agree;
            agree = agree-next l key level rising cannot parts.low parts.differ parts.agree a next m.low m.differ m.agree;
            differ = λ e. m.differ (sym e);
          };
          full = all-keys l key level rising cannot parts.low parts.differ parts.agree a (leaf-full v b w key leaf some full);
          deep = deep-next l key level rising cannot parts.low parts.differ parts.agree a next m.low m.differ m.agree;
        }

-- the leaf was split, the key put in, and the leaf's block given up
pub split-grows : (v : Bool) (a b c d : ArenaState) (w split grown key value next : ℕ) → is_branch w ≡ false → IsLeaf v a.blocks w
    → IsSpread v a b [] w next split → NodeGrows v b split c grown key value
    → Frame c.blocks d.blocks (leaf_numbers c.blocks w) [] → d.refusals ≡ c.refusals
    → ((m : ℕ) → m < 8 → Each (λ e. head_at m e.0 ≡ head_at m key) (leaf_entries v a.blocks w) → m < next) → NodeGrows v a w d grown key value
split-grows v a b c d w split grown key value next is leaf s g third n deep =
    let same : entries v b.blocks split ≡ entries v a.blocks w = s.content ∙ sym (leaf-content v a.blocks w is) in
    let kept = grown-kept v a.blocks b.blocks c.blocks w split grown is leaf s.frame g.array.frame d.blocks third g.array.root in
    record {
      array = record {
        root = kept.root;
        content = kept.content ∙ g.array.content ∙ ap (λ l. with_entry word_order l key value) same;
        frame = split-frame v a.blocks b.blocks c.blocks w split grown is leaf s.frame g.array.frame d.blocks third g.array.root;
      };
      deep = λ m h all.
          let eight = depth-leaf a.blocks w is in
          let under = deep m (omega arith) (subst (Each (λ e. head_at m e.0 ≡ head_at m key)) (leaf-content v a.blocks w is) all) in
          let level = s.deep in
          let more = g.deep m (omega arith) (subst (Each (λ e. head_at m e.0 ≡ head_at m key)) (sym same) all) in
          let still = kept.deep in
          omega arith;
      refusals = n ∙ g.refusals ∙ s.refusals;
    }

-- a leaf without the key was split into a branch
module _ (v : Bool) (a b c : ArenaState) (w split next key value : ℕ) (leaf : IsLeaf v a.blocks w) (s : IsSpread v a b [] w next split)
    (absent : has_key word_order (leaf_entries v a.blocks w) key ≡ false) where
  -- the branch does not have the key
  pub split-new : (y : ℕ) → value_of word_order (entries v b.blocks split) key ≡ Some y → ⊥
  split-new y found = not_true (sym absent ∙ ap (λ l. has_key word_order l key) (sym s.content) ∙ ap is_some found)

  -- the key was put into it
  module _ (x : ℕ) (grown : NodeGrows v b split c x key value) where
    pub split-leaf : IsLeaf v c.blocks w
    split-leaf = (leaf-still v a.blocks b.blocks c.blocks w split x (leaf-kind v a.blocks w leaf) leaf s.frame grown.array.frame).leaf

    pub split-adds : (d : ArenaState) → Frame c.blocks d.blocks (leaf_numbers c.blocks w) [] → d.refusals ≡ c.refusals
        → ((m : ℕ) → m < 8 → Each (λ e. head_at m e.0 ≡ head_at m key) (leaf_entries v a.blocks w) → m < next)
        → (has_key word_order (entries v a.blocks w) key ≡ false) × NodeGrows v a w d x key value
    split-adds d third n deep =
        let is = leaf-kind v a.blocks w leaf in (
          ap (λ l. has_key word_order l key) (leaf-content v a.blocks w is) ∙ absent,
          split-grows v a b c d w split x key value next is leaf s grown third n deep,
        )

-- an insertion after a call that changed nothing
pub adds-after : (v : Bool) (old mid new : ArenaState) (w key value : ℕ) → mid.blocks ≡ old.blocks → mid.refusals ≡ old.refusals
    → (r : Added) → Adds v mid w new key value r → Adds v old w new key value r
adds-after v old mid new w key value b n (added.Done x) h = (
  ap (λ z. has_key word_order (entries v z w) key) (sym b) ∙ h.0,
  record {
    array = record {
      root = h.1.array.root;
      content = h.1.array.content ∙ ap (λ z. with_entry word_order (entries v z w) key value) b;
      frame = subst (λ z. Frame z new.blocks (numbers z w) (numbers new.blocks x)) b h.1.array.frame;
    };
    deep = subst (λ z. StaysDeep z new.blocks w x (entries v z w) key) b h.1.deep;
    refusals = h.1.refusals ∙ n;
  },
)
adds-after v old mid new w key value b n (added.Present y) h = (
  ap (λ z. value_of word_order (entries v z w) key) (sym b) ∙ h.0,
  record { blocks = h.1.blocks ∙ b; refusals = h.1.refusals ∙ n },
)
adds-after v old mid new w key value b n added.NoMemory h = (
  ap (λ z. has_key word_order (entries v z w) key) (sym b) ∙ h.0,
  record { blocks = h.1.blocks ∙ b; refusals = h.1.refusals ∙ ap count_up n },
)

-- a split that was begun in vain
pub split-short : (v : Bool) (a b c d : ArenaState) (w split next : ℕ) → IsSpread v a b [] w next split → c.blocks ≡ b.blocks
    → c.refusals ≡ count_up b.refusals → Frame c.blocks d.blocks (numbers c.blocks split) [] → d.refusals ≡ c.refusals
    → (d.blocks ≡ a.blocks) × (d.refusals ≡ count_up a.refusals)
split-short v a b c d w split next s same n third m = (
  given-back a.blocks b.blocks d.blocks (numbers b.blocks split) s.frame (subst (λ z. Frame z d.blocks (numbers z split) []) same third),
  m ∙ n ∙ ap count_up s.refusals,
)
