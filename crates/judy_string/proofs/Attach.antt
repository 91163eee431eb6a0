-- What stands under one word of a nest changes, and then the nest's own words do.
use Rattle.std.proofs.Common.{◌≡◌, ◌≢◌, ℕ, suc, ◌*◌, ◌≤◌, length, true, false, cond, List, Option, None, is_some, ap, sym, ◌∙◌, refl, subst, inl, inr}
use Rattle.std.specs.Ordering.{eq_by_cmp}
use Rattle.std.proofs.lemmas.Bool.{false≢true as not_true}
use Rattle.judy_arena.specs.Blocks.{Blocks, block, is_live}
use Rattle.judy_arena.specs.Frame.{holds, Frame}
use Rattle.judy_arena.proofs.lemmas.FrameLaws.{frame-stays}
use Rattle.judy_model.specs.Contents.{word_order, value_of}
use Rattle.judy_model.proofs.lemmas.EntryLemmas.{same_word}
use Rattle.judy_model.proofs.lemmas.TestLemmas.{not_both}
use Rattle.judy_tree.specs.Root.{IsRoot, entries, numbers as own_numbers}
use Rattle.judy_tree.proofs.lemmas.Joins.{word_is, word_other}
use Rattle.judy_string.proofs.Maps.{root-kept, numbers-live}
use Rattle.judy_packing.specs.Packing.{word_bytes}
use Rattle.judy_string.specs.Strings.{nested_numbers_at, IsNestedAt, Leads, IsSpelt}
use Rattle.judy_string.proofs.Nests.{Nest, array-of}
use Rattle.judy_string.proofs.Numbers.{own-in, kid-in, in-nest, all-live, IsKept, array-kept}

none_live : (o : Option (List ℕ)) → o ≡ None → is_some o ≡ true → ⊥
none_live o h k = not_true (sym (ap is_some h) ∙ k)

module _ (r : ℕ) (a b : Blocks) (w K : ℕ) (o n : List ℕ) (h : Nest r a w) (f : Frame a b o n)
    (old_is : (v : ℕ) → Leads a w K v → nested_numbers_at r a v ≡ o) (old_some : (q : ℕ) → holds q o ≡ true → (v : ℕ) × Leads a w K v) where
  -- a block of the nest's own is none of the child's
  own-not-old : (q : ℕ) → holds q (own_numbers a w) ≡ true → holds q o ≡ false
  own-not-old q i = elim (holds q o) as (λ t. holds q o ≡ t → t ≡ false) [
    | true ↦ λ e. let s = old_some q e in absurd (not_both (holds q (own_numbers a w)) i (h.own_apart K s.0 q s.1 (ap (holds q) (old_is s.0 s.1) ∙ e)))
    | false ↦ λ e. refl
  ] refl

  own-stays : (q : ℕ) → holds q (own_numbers a w) ≡ true → (holds q n ≡ false) × (block b q ≡ block a q)
  own-stays q i = frame-stays a b o n q f (numbers-live true a w h.root q i) (own-not-old q i)

  -- the nest's own words stay
  pub root-stays : IsRoot true b w × (entries true b w ≡ entries true a w) × (own_numbers b w ≡ own_numbers a w)
  root-stays = root-kept true a w h.root b (λ q i. (own-stays q i).1)

  -- so do the other children
  other-not-old : (k v q : ℕ) → k ≢ K → Leads a w k v → holds q (nested_numbers_at r a v) ≡ true → holds q o ≡ false
  other-not-old k v q ne l i = elim (holds q o) as (λ t. holds q o ≡ t → t ≡ false) [
    | true ↦ λ e. let s = old_some q e in absurd (ne (h.apart k K v s.0 q l s.1 i (ap (holds q) (old_is s.0 s.1) ∙ e)))
    | false ↦ λ e. refl
  ] refl

  module _ (c : Blocks) (x : ℕ) (new : Option ℕ) (spelt : IsSpelt K) (few : length (word_bytes K) ≤ 8 * r)
      (root : IsRoot true c x) (g : Frame b c (own_numbers b w) (own_numbers c x))
      (found : (k : ℕ) → value_of word_order (entries true c x) k ≡ cond (eq_by_cmp word_order k K) new (value_of word_order (entries true a w) k))
      (new_is : (v : ℕ) → Leads c x K v → (v ≢ 0) × IsNestedAt r b v × (nested_numbers_at r b v ≡ n))
      (new_some : (q : ℕ) → holds q n ≡ true → (v : ℕ) × Leads c x K v) where
    own-same : (q : ℕ) → holds q (own_numbers b w) ≡ holds q (own_numbers a w)
    own-same q = ap (holds q) root-stays.2

    -- a block of another child is neither the new child's nor the nest's, and stays
    other-stays : (k v q : ℕ) → k ≢ K → Leads a w k v → holds q (nested_numbers_at r a v) ≡ true → (holds q n ≡ false)
        × (holds q (own_numbers c x) ≡ false) × (block c q ≡ block a q)
    other-stays k v q ne l i =
        let live : is_live a q ≡ true = all-live r a v (h.sound k v l) q i in
        let s = frame-stays a b o n q f live (other-not-old k v q ne l i) in
        let t = frame-stays b c (own_numbers b w) (own_numbers c x) q g (ap is_some s.1 ∙ live) (own-same q ∙ h.own_apart k v q l i) in
        (s.0, t.0, t.1 ∙ s.1)

    pub other-kept : (k v : ℕ) → k ≢ K → Leads a w k v → IsKept r a c v
    other-kept k v ne l = array-kept r a c v (h.sound k v l) (λ q i. (other-stays k v q ne l i).2)

    -- a block of the new child stays, and is none of the nest's own
    new-stays : (q : ℕ) → holds q n ≡ true → (holds q (own_numbers c x) ≡ false) × (block c q ≡ block b q)
    new-stays q i =
        let not_own : holds q (own_numbers b w) ≡ false = own-same q ∙ elim (holds q (own_numbers a w)) as (λ t. holds q (own_numbers a w) ≡ t → t ≡ false) [
          | true ↦ λ e. absurd (not_both (holds q n) i (own-stays q e).0)
          | false ↦ λ e. refl
        ] refl in
        frame-stays b c (own_numbers b w) (own_numbers c x) q g (f.inside q i) not_own

    pub new-kept : (v : ℕ) → Leads c x K v → IsKept r b c v
    new-kept v l = let s = new_is v l in array-kept r b c v s.1 (λ q i. (new-stays q (sym (ap (holds q) s.2) ∙ i)).1)

    new-numbers : (v : ℕ) → Leads c x K v → nested_numbers_at r c v ≡ n
    new-numbers v l = (new-kept v l).numbers ∙ (new_is v l).2

    other-test : (k : ℕ) → k ≢ K → value_of word_order (entries true c x) k ≡ value_of word_order (entries true a w) k
    other-test k ne = found k ∙ ap (λ t. cond t new (value_of word_order (entries true a w) k)) (word_other k K ne)

    back : (k v : ℕ) → k ≢ K → Leads c x k v → Leads a w k v
    back k v ne l = record { found = sym (other-test k ne) ∙ l.found; more = l.more }

    forth : (k v : ℕ) → k ≢ K → Leads a w k v → Leads c x k v
    forth k v ne l = record { found = other-test k ne ∙ l.found; more = l.more }

    -- is it the word?
    by_word : {P : Type 0} (k : ℕ) → (k ≡ K → P) → (k ≢ K → P) → P
    by_word {P} k yes_ no_ = elim (eq_by_cmp word_order k K) as (λ t. eq_by_cmp word_order k K ≡ t → P) [
      | true ↦ λ e. yes_ (same_word k K e)
      | false ↦ λ e. no_ (λ i. not_true (sym e ∙ word_is k K i))
    ] refl

    at-word : (k v : ℕ) → k ≡ K → Leads c x k v → Leads c x K v
    at-word k v e l = subst (λ j. Leads c x j v) e l

    pub changed-nest : Nest r c x
    changed-nest = record {
      root = root;
      spelt = λ k v i. by_word k (λ e. subst IsSpelt (sym e) spelt) (λ ne. h.spelt k v (sym (other-test k ne) ∙ i));
      short = λ k v i. by_word k (λ e. subst (λ j. length (word_bytes j) ≤ 8 * r) (sym e) few) (λ ne. h.short k v (sym (other-test k ne) ∙ i));
      sound = λ k v l. by_word k (λ e. (new-kept v (at-word k v e l)).array) (λ ne. (other-kept k v ne (back k v ne l)).array);
      filled = λ k v l. by_word k (λ e. (new_is v (at-word k v e l)).0) (λ ne. h.filled k v (back k v ne l));
      own_apart = λ k v q l i. by_word k
          (λ e. (new-stays q (sym (ap (holds q) (new-numbers v (at-word k v e l))) ∙ i)).0)
          (λ ne. (other-stays k v q ne (back k v ne l) (sym (ap (holds q) (other-kept k v ne (back k v ne l)).numbers) ∙ i)).1);
      apart = λ k l u v q i j s t. by_word k
          (λ e. by_word l (λ e'. e ∙ sym e')
          (λ ne. absurd (not_both (holds q n) (sym (ap (holds q) (new-numbers u (at-word k u e i))) ∙ s)
          (other-stays l v q ne (back l v ne j) (sym (ap (holds q) (other-kept l v ne (back l v ne j)).numbers) ∙ t)).0)))
          (λ ne. by_word l
          (λ e'. absurd (not_both (holds q n) (sym (ap (holds q) (new-numbers v (at-word l v e' j))) ∙ t)
          (other-stays k u q ne (back k u ne i) (sym (ap (holds q) (other-kept k u ne (back k u ne i)).numbers) ∙ s)).0))
          (λ ne'. h.apart k l u v q (back k u ne i) (back l v ne' j)
          (sym (ap (holds q) (other-kept k u ne (back k u ne i)).numbers) ∙ s)
          (sym (ap (holds q) (other-kept l v ne' (back l v ne' j)).numbers) ∙ t)));
    }

    -- a number of the old child is one of the whole
    old-in : (q : ℕ) → holds q o ≡ true → holds q (nested_numbers_at (suc r) a w) ≡ true
    old-in q i = let s = old_some q i in kid-in r a w h K s.0 q s.1 (ap (holds q) (old_is s.0 s.1) ∙ i)

    new-in : (q : ℕ) → holds q n ≡ true → holds q (nested_numbers_at (suc r) c x) ≡ true
    new-in q i = let s = new_some q i in kid-in r c x changed-nest K s.0 q s.1 (ap (holds q) (new-numbers s.0 s.1) ∙ i)

    other-in : (q k v : ℕ) → k ≢ K → Leads a w k v → holds q (nested_numbers_at r a v) ≡ true → holds q (nested_numbers_at (suc r) c x) ≡ true
    other-in q k v ne l i = kid-in r c x changed-nest k v q (forth k v ne l) (ap (holds q) (other-kept k v ne l).numbers ∙ i)

    -- what is in none of the lists is none of the old numbers
    not-old : (q : ℕ) → holds q (nested_numbers_at (suc r) c x) ≡ false → holds q (own_numbers a w) ≡ false → holds q o ≡ false
        → holds q (nested_numbers_at (suc r) a w) ≡ false
    not-old q h1 h2 h3 = elim (holds q (nested_numbers_at (suc r) a w)) as (λ t. holds q (nested_numbers_at (suc r) a w) ≡ t → t ≡ false) [
      | true ↦ λ e. elim (in-nest r a w h q e) [
        | inl own ↦ absurd (not_both (holds q (own_numbers a w)) own h2)
        | inr u ↦ by_word u.key
            (λ s. absurd
            (not_both (holds q o)
            (sym (ap (holds q) (old_is u.at (subst (λ j. Leads a w j u.at) s (record { found = u.found; more = u.more }))))
            ∙ u.held) h3))
            (λ ne. absurd (not_both (holds q (nested_numbers_at (suc r) c x)) (other-in q u.key u.at ne (record { found = u.found; more = u.more }) u.held) h1))
      ]
      | false ↦ λ e. refl
    ] refl

    out : (q : ℕ) (ns ms : List ℕ) → (holds q ns ≡ true → holds q ms ≡ true) → holds q ms ≡ false → holds q ns ≡ false
    out q ns ms i k = elim (holds q ns) as (λ t. holds q ns ≡ t → t ≡ false) [ true ↦ λ e. absurd (not_both (holds q ms) (i e) k) | false ↦ λ e. refl ] refl

    pub changed-frame : Frame a c (nested_numbers_at (suc r) a w) (nested_numbers_at (suc r) c x)
    changed-frame = record {
      outside = λ q k.
          let no_own : holds q (own_numbers c x) ≡ false = out q (own_numbers c x) (nested_numbers_at (suc r) c x) (own-in r c x changed-nest q) k in
          let no_new : holds q n ≡ false = out q n (nested_numbers_at (suc r) c x) (new-in q) k in
          let last : block c q ≡ cond (holds q (own_numbers a w)) None (block b q) = g.outside q no_own ∙ ap (λ t. cond t None (block b q)) (own-same q) in
          elim (holds q (own_numbers a w)) as (λ t. holds q (own_numbers a w) ≡ t
          → block c q ≡ cond (holds q (nested_numbers_at (suc r) a w)) None (block a q)) [
            | true ↦ λ e. last ∙ ap (λ t. cond t None (block b q)) e ∙ sym (ap (λ t. cond t None (block a q)) (own-in r a w h q e))
            | false ↦ λ e. last ∙ ap (λ t. cond t None (block b q)) e ∙ f.outside q no_new ∙ elim (holds q o) as
                (λ t. holds q o ≡ t → cond t None (block a q) ≡ cond (holds q (nested_numbers_at (suc r) a w)) None (block a q)) [
                  | true ↦ λ i. sym (ap (λ t. cond t None (block a q)) (old-in q i))
                  | false ↦ λ i. sym (ap (λ t. cond t None (block a q)) (not-old q k e i))
                ] refl
          ] refl;
      inside = λ q k. all-live (suc r) c x (array-of r c x changed-nest) q k;
      fresh = λ q k m.
          let no_own : holds q (own_numbers a w) ≡ false = out q (own_numbers a w) (nested_numbers_at (suc r) a w) (own-in r a w h q) m in
          let no_old : holds q o ≡ false = out q o (nested_numbers_at (suc r) a w) (old-in q) m in
          elim (in-nest r c x changed-nest q k) [
            | inl own ↦
                let gone : block b q ≡ None = g.fresh q own (own-same q ∙ no_own) in
                elim (holds q n) as (λ t. holds q n ≡ t → block a q ≡ None) [
                  | true ↦ λ e. absurd (none_live (block b q) gone (f.inside q e))
                  | false ↦ λ e. sym (f.outside q e ∙ ap (λ t. cond t None (block a q)) no_old) ∙ gone
                ] refl
            | inr u ↦ by_word u.key
                (λ s. let l : Leads c x K u.at = subst (λ j. Leads c x j u.at) s (record { found = u.found; more = u.more }) in
                f.fresh q (sym (ap (holds q) (new-numbers u.at l)) ∙ u.held) no_old)
                (λ ne.
                let l : Leads a w u.key u.at = back u.key u.at ne (record { found = u.found; more = u.more }) in
                absurd (not_both (holds q (nested_numbers_at (suc r) a w))
                (kid-in r a w h u.key u.at q l (sym (ap (holds q) (other-kept u.key u.at ne l).numbers) ∙ u.held)) m))
          ];
    }
