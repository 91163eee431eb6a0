-- The numbers of nested arrays; an array survives a change of other blocks.
use Rattle.std.proofs.Common.{◌≡◌, ℕ, zero, suc, ◌+◌, ◌*◌, ◌^◌, ◌<◌, ◌≤◌, ◌==◌, true, false, cond, ◌||◌, take, drop, length, get_or, unwrap_or}
use Rattle.std.proofs.Common.{is_some, List, [], ◌∷◌, ◌++◌, Some, ap, sym, ◌∙◌, refl, subst, arith, ◌⊎◌, inl, inr}
use Rattle.std.proofs.lemmas.Bool.Decides.{nat_tests}
use Rattle.judy_arena.specs.Room.{room}
use Rattle.judy_refs.specs.References.{number_of}
use Rattle.judy_string.specs.Suffixes.{is_suffix, suffix_words, suffix_string, suffix_size, packed_suffix, IsSuffix}
use Rattle.std.specs.FinMap.{is_sorted}
use Rattle.std.specs.FinMap.Entries.{below_all}
use Rattle.std.proofs.lemmas.Bool.{false≢true as not_true}
use Rattle.judy_arena.specs.Blocks.{Blocks, block, is_live}
use Rattle.judy_arena.specs.Frame.{holds}
use Rattle.judy_arena.proofs.lemmas.FrameLaws.{in-left, in-right, in-either}
use Rattle.judy_model.specs.Contents.{Entries, word_order, value_of}
use Rattle.judy_model.proofs.lemmas.TestLemmas.{and_right}
use Rattle.judy_tree.specs.Root.{IsRoot, entries, numbers as own_numbers}
use Rattle.judy_tree.proofs.lemmas.Joins.{found-first}
use Rattle.judy_string.proofs.Maps.{root-kept, numbers-live}
use Rattle.judy_packing.specs.Packing.{is_last, word_bytes, IsString, packed}
use Rattle.judy_string.specs.Strings.{after, part, joined_strings, part_numbers, nested_content_at, nested_numbers_at, IsNestedAt, Leads}
use Rattle.judy_string.proofs.Joins.{found_later}
use Rattle.judy_string.proofs.Nests.{Nest, nest-kind, node-cases, suffix-numbers, suffix-content, of-suffix, array-of}
use Rattle.judy_string.proofs.Nests.{nest-content, nest-numbers, nest-sorted, none-array}
use Rattle.judy_string.proofs.Onces.{in_joined}

-- a number below one of the entries
pub record Under (es : Entries ℕ) (used : ℕ → List ℕ) (q : ℕ) : Type 0 where
  pub key : ℕ
  pub at : ℕ
  pub found : value_of word_order es key ≡ Some at
  pub more : is_last key ≡ false
  pub held : holds q (used at) ≡ true

pub of_joined : (used : ℕ → List ℕ) (q : ℕ) (es : Entries ℕ) → is_sorted word_order es ≡ true
    → holds q (joined_strings (part_numbers used) es) ≡ true → Under es used q
of_joined used q [] sorted h = absurd (not_true h)
of_joined used q (e ∷ es) sorted h =
    elim (in-either q (part_numbers used e) (joined_strings (part_numbers used) es) h) [
      | inl here ↦ elim (is_last e.0) as (λ t. is_last e.0 ≡ t → holds q (cond t [] (used e.1)) ≡ true → Under (e ∷ es) used q) [
        | true ↦ λ i j. absurd (not_true j)
        | false ↦ λ i j. record { key = e.0; at = e.1; found = found-first e es; more = i; held = j }
      ] refl here
      | inr there ↦
          let u = of_joined used q es (and_right (below_all word_order e.0 es) _ sorted) there in
          record { key = u.key; at = u.at; found = found_later e es u.key u.at sorted u.found; more = u.more; held = u.held }
    ]

joined-same : {A : Type 0} (g h : ℕ × ℕ → List A) (es : Entries ℕ) → is_sorted word_order es ≡ true
    → ((k v : ℕ) → value_of word_order es k ≡ Some v → g (k, v) ≡ h (k, v)) → joined_strings g es ≡ joined_strings h es
joined-same g h [] sorted same = refl
joined-same g h (e ∷ es) sorted same =
    ap (λ l. l ++ joined_strings g es) (same e.0 e.1 (found-first e es))
    ∙ ap (λ l. h e ++ l) (joined-same g h es (and_right (below_all word_order e.0 es) _ sorted) (λ k v i. same k v (found_later e es k v sorted i)))

module _ (r : ℕ) (a : Blocks) (w : ℕ) (h : Nest r a w) where
  pub own-in : (q : ℕ) → holds q (own_numbers a w) ≡ true → holds q (nested_numbers_at (suc r) a w) ≡ true
  own-in q k = ap (holds q) (nest-numbers r a w (nest-kind r a w h)) ∙ in-left q (own_numbers a w) _ k

  pub kid-in : (k v q : ℕ) → Leads a w k v → holds q (nested_numbers_at r a v) ≡ true → holds q (nested_numbers_at (suc r) a w) ≡ true
  kid-in k v q l i = ap (holds q) (nest-numbers r a w (nest-kind r a w h)) ∙ in-right q (own_numbers a w) _
      (in_joined (nested_numbers_at r a) q k v (entries true a w) l.found l.more i)

  pub in-nest : (q : ℕ) → holds q (nested_numbers_at (suc r) a w) ≡ true
      → (holds q (own_numbers a w) ≡ true) ⊎ Under (entries true a w) (nested_numbers_at r a) q
  in-nest q i = elim (in-either q (own_numbers a w) _ (sym (ap (holds q) (nest-numbers r a w (nest-kind r a w h))) ∙ i)) [
    | inl own ↦ inl own
    | inr kid ↦ inr (of_joined (nested_numbers_at r a) q (entries true a w) (nest-sorted r a w h) kid)
  ]

pub all-live : (r : ℕ) (a : Blocks) (w : ℕ) → IsNestedAt r a w → (q : ℕ) → holds q (nested_numbers_at r a w) ≡ true → is_live a q ≡ true
all-live zero a w h q k = absurd (none-array a w h)
all-live (suc r) a w h q k =
    node-cases r a w h
    (λ e s. subst (λ x. is_live a x ≡ true) (sym (one-number q (number_of w) (sym (ap (holds q) (suffix-numbers r a w e)) ∙ k))) s.live)
    (λ e n. elim (in-nest r a w n q k) [
      | inl own ↦ numbers-live true a w n.root q own
      | inr u ↦ all-live r a u.at (n.sound u.key u.at (record { found = u.found; more = u.more })) q u.held
    ])
  where
    one-number : (q n : ℕ) → holds q (n ∷ []) ≡ true → q ≡ n
    one-number q n h = grind (arith, nat_tests)

-- the array is the same where its blocks are
pub record IsKept (r : ℕ) (a c : Blocks) (w : ℕ) : Type 0 where
  pub array : IsNestedAt r c w
  pub content : nested_content_at r c w ≡ nested_content_at r a w
  pub numbers : nested_numbers_at r c w ≡ nested_numbers_at r a w

suffix-kept : (r : ℕ) (a c : Blocks) (w : ℕ) → is_suffix w ≡ true → IsSuffix r a w
    → ((q : ℕ) → holds q (nested_numbers_at (suc r) a w) ≡ true → block c q ≡ block a q) → IsKept (suc r) a c w
suffix-kept r a c w e s same =
    let own : block c (number_of w) ≡ block a (number_of w) = same (number_of w)
    (ap (holds (number_of w)) (suffix-numbers r a w e) ∙ ap (λ t. t || false) (number_itself (number_of w))) in
    let words : suffix_words c w ≡ suffix_words a w = ap (λ o. unwrap_or o []) own in
    record {
      array = of-suffix r c w e (record {
        live = ap is_some own ∙ s.live;
        exact = subst (λ ws. length ws ≡ room (2 + packed_suffix (suffix_size ws))) (sym words) s.exact;
        bytes = subst (λ ws. IsString (suffix_string ws)) (sym words) s.bytes;
        size = subst (λ ws. length (suffix_string ws) ≡ suffix_size ws) (sym words) s.size;
        filled = subst (λ ws. take (packed_suffix (suffix_size ws)) (drop 2 ws) ≡ packed (packed_suffix (suffix_size ws))
            (suffix_string ws)) (sym words) s.filled;
        short = subst (λ ws. suffix_size ws ≤ 8 * r) (sym words) s.short;
        value = subst (λ ws. get_or ws 0 0 < 2 ^ 64) (sym words) s.value;
      });
      content = suffix-content r c w e ∙ ap (λ ws. (suffix_string ws, get_or ws 0 0) ∷ []) words ∙ sym (suffix-content r a w e);
      numbers = suffix-numbers r c w e ∙ sym (suffix-numbers r a w e);
    }
  where
    number_itself : (n : ℕ) → (n == n) ≡ true
    number_itself n = grind (arith, nat_tests)

nest-kept : (r : ℕ) (a c : Blocks) (w : ℕ) → Nest r a w → ((q : ℕ) → holds q (nested_numbers_at (suc r) a w) ≡ true → block c q ≡ block a q)
    → ((k v : ℕ) → Leads a w k v → ((q : ℕ) → holds q (nested_numbers_at r a v) ≡ true → block c q ≡ block a q) → IsKept r a c v) → IsKept (suc r) a c w
nest-kept r a c w n same kept =
    let kind = nest-kind r a w n in
    let own : IsRoot true c w × (entries true c w ≡ entries true a w) × (own_numbers c w ≡ own_numbers a w) = root-kept true a w
    n.root c (λ q k. same q (own-in r a w n q k)) in
    let kid : (k v : ℕ) → Leads a w k v → IsKept r a c v = λ k v l. kept k v l (λ q i. same q (kid-in r a w n k v q l i)) in
    let back : (k v : ℕ) → Leads c w k v → Leads a w k v = λ k v l.
    record { found = sym (ap (λ es. value_of word_order es k) own.1) ∙ l.found; more = l.more } in
    let sorted : is_sorted word_order (entries true a w) ≡ true = nest-sorted r a w n in
    record {
      array = array-of r c w (record {
        root = own.0;
        spelt = λ k v i. n.spelt k v (sym (ap (λ es. value_of word_order es k) own.1) ∙ i);
        short = λ k v i. n.short k v (sym (ap (λ es. value_of word_order es k) own.1) ∙ i);
        sound = λ k v l. (kid k v (back k v l)).array;
        filled = λ k v l. n.filled k v (back k v l);
        own_apart = λ k v q l i. ap (holds q) own.2 ∙ n.own_apart k v q (back k v l) (sym (ap (holds q) (kid k v (back k v l)).numbers) ∙ i);
        apart = λ k l u v q i j s t. n.apart k l u v q (back k u i) (back l v j)
            (sym (ap (holds q) (kid k u (back k u i)).numbers) ∙ s) (sym (ap (holds q) (kid l v (back l v j)).numbers) ∙ t);
      });
      content = nest-content r c w kind ∙ ap (joined_strings (part (nested_content_at r c))) own.1
          ∙ joined-same (part (nested_content_at r c)) (part (nested_content_at r a)) (entries true a w) sorted (λ k v i.
          elim (is_last k) as (λ t. is_last k ≡ t → cond t ((word_bytes k, v) ∷ []) (after (word_bytes k) (nested_content_at r c v))
          ≡ cond t ((word_bytes k, v) ∷ []) (after (word_bytes k) (nested_content_at r a v))) [
            | true ↦ λ e. refl
            | false ↦ λ e. ap (after (word_bytes k)) (kid k v (record { found = i; more = e })).content
          ] refl)
          ∙ sym (nest-content r a w kind);
      numbers = nest-numbers r c w kind ∙ ap (λ l. l ++ joined_strings (part_numbers (nested_numbers_at r c)) (entries true c w)) own.2
          ∙ ap (λ es. own_numbers a w ++ joined_strings (part_numbers (nested_numbers_at r c)) es) own.1
          ∙ ap (λ l. own_numbers a w ++ l) (joined-same (part_numbers (nested_numbers_at r c)) (part_numbers (nested_numbers_at r a))
          (entries true a w) sorted (λ k v i.
          elim (is_last k) as (λ t. is_last k ≡ t → cond t [] (nested_numbers_at r c v) ≡ cond t [] (nested_numbers_at r a v)) [
            | true ↦ λ e. refl
            | false ↦ λ e. (kid k v (record { found = i; more = e })).numbers
          ] refl))
          ∙ sym (nest-numbers r a w kind);
    }

pub array-kept : (r : ℕ) (a c : Blocks) (w : ℕ) → IsNestedAt r a w → ((q : ℕ) → holds q (nested_numbers_at r a w) ≡ true → block c q ≡ block a q)
    → IsKept r a c w
array-kept zero a c w h same = absurd (none-array a w h)
array-kept (suc r) a c w h same = node-cases r a w h (λ e s. suffix-kept r a c w e s same)
    (λ e n. nest-kept r a c w n same (λ k v l t. array-kept r a c v (n.sound k v l) t))
