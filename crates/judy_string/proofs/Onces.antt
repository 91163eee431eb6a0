-- Numbers that stand once: the one test over a nest's list, and the same said of each node.
use Rattle.std.proofs.Common.{◌≡◌, ℕ, Bool, true, false, cond, not, ◌||◌, ◌==◌, List, [], ◌∷◌, ◌++◌, Some, ap, sym, ◌∙◌, refl, subst}
use Rattle.std.specs.Ordering.{eq_by_cmp}
use Rattle.std.specs.FinMap.{is_sorted}
use Rattle.std.specs.FinMap.Entries.{below_all}
use Rattle.std.proofs.lemmas.Bool.{false≢true as not_true, and_from, not-true}
use Rattle.std.proofs.lemmas.Option.{none-some}
use Rattle.judy_arena.specs.Frame.{holds}
use Rattle.judy_arena.specs.Totals.{are_distinct}
use Rattle.judy_arena.proofs.lemmas.FrameLaws.{holds-append, in-left, in-right}
use Rattle.judy_arena.proofs.lemmas.BlockLaws.{itself, same_test}
use Rattle.judy_model.specs.Contents.{Entries, word_order, value_of}
use Rattle.judy_model.proofs.lemmas.TestLemmas.{and_right, and_left, not_both}
use Rattle.judy_model.proofs.lemmas.EntryLemmas.{same_word, same_Some as same_Some'}
use Rattle.judy_packing.specs.Packing.{is_last}
use Rattle.judy_string.specs.Strings.{joined_strings, part_numbers}
use Rattle.judy_string.proofs.Joins.{found_later}
use Rattle.judy_tree.proofs.lemmas.Joins.{word_below, found-first}

pub or_false_left : (a b : Bool) → (a || b) ≡ false → a ≡ false
or_false_left true b h = h
or_false_left false b h = refl

pub or_false_right : (a b : Bool) → (a || b) ≡ false → b ≡ false
or_false_right true b h = cc
or_false_right false b h = h

or_both : (a b : Bool) → a ≡ false → b ≡ false → (a || b) ≡ false
or_both a b h k = ap (λ t. t || b) h ∙ k

pub record Two (xs ys : List ℕ) : Type 0 where
  pub left : are_distinct xs ≡ true
  pub right : are_distinct ys ≡ true
  pub apart : (q : ℕ) → holds q xs ≡ true → holds q ys ≡ false

pub two-of : (xs ys : List ℕ) → are_distinct (xs ++ ys) ≡ true → Two xs ys
two-of [] ys h = record { left = refl; right = h; apart = λ q i. absurd (not_true i) }
two-of (x ∷ xs) ys h =
    let no : (holds x xs || holds x ys) ≡ false = sym (holds-append x xs ys) ∙ not-true (holds x (xs ++ ys)) (and_left (not (holds x (xs ++ ys))) _ h) in
    let t = two-of xs ys (and_right (not (holds x (xs ++ ys))) _ h) in
    record {
      left = and_from (not (holds x xs)) _ (ap not (or_false_left (holds x xs) (holds x ys) no)) t.left;
      right = t.right;
      apart = λ q i. elim (q == x) as (λ s. (q == x) ≡ s → (s || holds q xs) ≡ true → holds q ys ≡ false) [
        | true ↦ λ e j. ap (λ z. holds z ys) (same_test q x e) ∙ or_false_right (holds x xs) (holds x ys) no
        | false ↦ λ e j. t.apart q j
      ] refl i;
    }

of-two : (xs ys : List ℕ) → are_distinct xs ≡ true → are_distinct ys ≡ true → ((q : ℕ) → holds q xs ≡ true → holds q ys ≡ false)
    → are_distinct (xs ++ ys) ≡ true
of-two [] ys h k a = k
of-two (x ∷ xs) ys h k a =
    and_from (not (holds x (xs ++ ys))) _
    (ap not (holds-append x xs ys ∙ or_both (holds x xs) (holds x ys) (not-true (holds x xs) (and_left (not (holds x xs)) _ h))
    (a x (ap (λ t. t || holds x xs) (itself x)))))
    (of-two xs ys (and_right (not (holds x xs)) _ h) k (λ q i. a q (ap (λ t. (q == x) || t) i ∙ or_true (q == x))))
  where
    or_true : (t : Bool) → (t || true) ≡ true
    or_true true = refl
    or_true false = refl

-- a number below an entry is one of the join
pub in_joined : (used : ℕ → List ℕ) (q k v : ℕ) (es : Entries ℕ) → value_of word_order es k ≡ Some v → is_last k ≡ false
    → holds q (used v) ≡ true → holds q (joined_strings (part_numbers used) es) ≡ true
in_joined used q k v [] h more held = absurd (none-some _ h)
in_joined used q k v (e ∷ es) h more held =
    elim (eq_by_cmp word_order k e.0) as (λ t. eq_by_cmp word_order k e.0 ≡ t → cond t (Some e.1) (value_of word_order es k)
    ≡ Some v → holds q (part_numbers used e ++ joined_strings (part_numbers used) es) ≡ true) [
      | true ↦ λ i j. in-left q (part_numbers used e) _
          (ap (λ t. holds q (cond t [] (used e.1))) (ap is_last (sym (same_word k e.0 i)) ∙ more) ∙ ap (λ u. holds q (used u))
          (same_Some' j) ∙ held)
      | false ↦ λ i j. in-right q (part_numbers used e) _ (in_joined used q k v es j more held)
    ] refl h

-- said of each node
pub record AreOnce (used : ℕ → List ℕ) (es : Entries ℕ) : Type 0 where
  pub each : (k v : ℕ) → value_of word_order es k ≡ Some v → is_last k ≡ false → are_distinct (used v) ≡ true
  pub apart : (k l u v q : ℕ) → value_of word_order es k ≡ Some u → is_last k ≡ false → value_of word_order es l ≡ Some v
      → is_last l ≡ false → holds q (used u) ≡ true → holds q (used v) ≡ true → k ≡ l

pub once-each : (used : ℕ → List ℕ) (es : Entries ℕ) → are_distinct (joined_strings (part_numbers used) es) ≡ true → AreOnce used es
once-each used [] h = record { each = λ k v i. absurd (none-some _ i); apart = λ k l u v q i. absurd (none-some _ i) }
once-each used (e ∷ es) h =
    let t = two-of (part_numbers used e) (joined_strings (part_numbers used) es) h in
    let o = once-each used es t.right in
    let here : (k v q : ℕ) → k ≡ e.0 → Some e.1 ≡ Some v → is_last k ≡ false → holds q (used v) ≡ true → holds q (part_numbers used e) ≡ true
    = λ k v q i j m held. ap (λ t. holds q (cond t [] (used e.1))) (ap is_last (sym i) ∙ m) ∙ ap (λ u. holds q (used u)) (same_Some' j) ∙ held in
    record {
      each = λ k v i m. elim (eq_by_cmp word_order k e.0) as (λ t. eq_by_cmp word_order k e.0 ≡ t → cond t (Some e.1)
          (value_of word_order es k) ≡ Some v → are_distinct (used v) ≡ true) [
            | true ↦ λ s j. sym (ap (λ t. are_distinct (cond t [] (used e.1))) (ap is_last (sym (same_word k e.0 s)) ∙ m)
                ∙ ap (λ u. are_distinct (used u)) (same_Some' j)) ∙ t.left
            | false ↦ λ s j. o.each k v j m
          ] refl i;
      apart = λ k l u v q i mi j mj hu hv. elim (eq_by_cmp word_order k e.0) as (λ t. eq_by_cmp word_order k e.0 ≡ t
          → cond t (Some e.1) (value_of word_order es k) ≡ Some u → k ≡ l) [
            | true ↦ λ s i'. elim (eq_by_cmp word_order l e.0) as (λ t. eq_by_cmp word_order l e.0 ≡ t → cond t (Some e.1)
                (value_of word_order es l) ≡ Some v → k ≡ l) [
                  | true ↦ λ s' j'. same_word k e.0 s ∙ sym (same_word l e.0 s')
                  | false ↦ λ s' j'. absurd (not_both _ (in_joined used q l v es j' mj hv) (t.apart q (here k u q (same_word k e.0 s) i' mi hu)))
                ] refl j
            | false ↦ λ s i'. elim (eq_by_cmp word_order l e.0) as (λ t. eq_by_cmp word_order l e.0 ≡ t → cond t (Some e.1)
                (value_of word_order es l) ≡ Some v → k ≡ l) [
                  | true ↦ λ s' j'. absurd (not_both _ (in_joined used q k u es i' mi hu) (t.apart q (here l v q (same_word l e.0 s') j' mj hv)))
                  | false ↦ λ s' j'. o.apart k l u v q i' mi j' mj hu hv
                ] refl j
          ] refl i;
    }

-- where a number of the join stands
record Stands (used : ℕ → List ℕ) (es : Entries ℕ) (q : ℕ) : Type 0 where
  pub key : ℕ
  pub at : ℕ
  pub found : value_of word_order es key ≡ Some at
  pub more : is_last key ≡ false
  pub held : holds q (used at) ≡ true

stands : (used : ℕ → List ℕ) (q : ℕ) (es : Entries ℕ) → is_sorted word_order es ≡ true
    → holds q (joined_strings (part_numbers used) es) ≡ true → Stands used es q
stands used q [] sorted h = absurd (not_true h)
stands used q (e ∷ es) sorted h =
    elim (holds q (part_numbers used e)) as (λ t. holds q (part_numbers used e) ≡ t
    → (t || holds q (joined_strings (part_numbers used) es)) ≡ true → Stands used (e ∷ es) q) [
      | true ↦ λ here j. elim (is_last e.0) as (λ t. is_last e.0 ≡ t → holds q (cond t [] (used e.1)) ≡ true → Stands used (e ∷ es) q) [
        | true ↦ λ i k. absurd (not_true k)
        | false ↦ λ i k. record { key = e.0; at = e.1; found = found-first e es; more = i; held = k }
      ] refl here
      | false ↦ λ here j.
          let u = stands used q es (and_right (below_all word_order e.0 es) _ sorted) j in
          record { key = u.key; at = u.at; found = found_later e es u.key u.at sorted u.found; more = u.more; held = u.held }
    ] refl (sym (holds-append q (part_numbers used e) (joined_strings (part_numbers used) es)) ∙ h)

pub each-once : (used : ℕ → List ℕ) (es : Entries ℕ) → is_sorted word_order es ≡ true → AreOnce used es
    → are_distinct (joined_strings (part_numbers used) es) ≡ true
each-once used [] sorted h = refl
each-once used (e ∷ es) sorted h =
    let tail : is_sorted word_order es ≡ true = and_right (below_all word_order e.0 es) _ sorted in
    let less : below_all word_order e.0 es ≡ true = and_left (below_all word_order e.0 es) _ sorted in
    of-two (part_numbers used e) (joined_strings (part_numbers used) es)
    (elim (is_last e.0) as (λ t. is_last e.0 ≡ t → are_distinct (cond t [] (used e.1)) ≡ true) [
      | true ↦ λ i. refl
      | false ↦ λ i. h.each e.0 e.1 (found-first e es) i
    ] refl)
    (each-once used es tail (record {
      each = λ k v i m. h.each k v (found_later e es k v sorted i) m;
      apart = λ k l u v q i mi j mj hu hv. h.apart k l u v q (found_later e es k u sorted i) mi (found_later e es l v sorted j) mj hu hv;
    }))
    (λ q here. elim (holds q (joined_strings (part_numbers used) es)) as (λ t. holds q (joined_strings (part_numbers used) es) ≡ t → t ≡ false) [
      | true ↦ λ i.
          let s = stands used q es tail i in
          elim (is_last e.0) as (λ t. is_last e.0 ≡ t → holds q (cond t [] (used e.1)) ≡ true → true ≡ false) [
            | true ↦ λ m k. absurd (not_true k)
            | false ↦ λ m k.
                let same : e.0 ≡ s.key = h.apart e.0 s.key e.1 s.at q (found-first e es) m (found_later e es s.key s.at sorted s.found) s.more k s.held in
                absurd (none-some _ (sym (word_below s.key es (subst (λ x. below_all word_order x es ≡ true) same less)) ∙ s.found))
          ] refl here
      | false ↦ λ i. refl
    ] refl)

-- the nest's own numbers, and those of the nodes below
pub record IsOnce (own : List ℕ) (used : ℕ → List ℕ) (es : Entries ℕ) : Type 0 where
  pub own_once : are_distinct own ≡ true
  pub nodes : AreOnce used es
  pub own_apart : (k v q : ℕ) → value_of word_order es k ≡ Some v → is_last k ≡ false → holds q (used v) ≡ true → holds q own ≡ false

pub once-of : (own : List ℕ) (used : ℕ → List ℕ) (es : Entries ℕ) → are_distinct (own ++ joined_strings (part_numbers used) es) ≡ true → IsOnce own used es
once-of own used es h =
    let t = two-of own (joined_strings (part_numbers used) es) h in
    record {
      own_once = t.left;
      nodes = once-each used es t.right;
      own_apart = λ k v q i m held. elim (holds q own) as (λ s. holds q own ≡ s → s ≡ false) [
        | true ↦ λ e. absurd (not_both _ (in_joined used q k v es i m held) (t.apart q e))
        | false ↦ λ e. refl
      ] refl;
    }

pub of-once : (own : List ℕ) (used : ℕ → List ℕ) (es : Entries ℕ) → is_sorted word_order es ≡ true → IsOnce own used es
    → are_distinct (own ++ joined_strings (part_numbers used) es) ≡ true
of-once own used es sorted h =
    of-two own (joined_strings (part_numbers used) es) h.own_once (each-once used es sorted h.nodes)
    (λ q i. elim (holds q (joined_strings (part_numbers used) es)) as (λ t. holds q (joined_strings (part_numbers used) es) ≡ t → t ≡ false) [
      | true ↦ λ e. let s = stands used q es sorted e in absurd (not_both (holds q own) i (h.own_apart s.key s.at q s.found s.more s.held))
      | false ↦ λ e. refl
    ] refl)
