-- A suffix block that comes, that goes, and that a word array takes the place of.
use Rattle.std.proofs.Common.{◌≡◌, ◌≢◌, ℕ, suc, ◌*◌, ◌≤◌, true, false, cond, ◌||◌, ◌==◌, List, [], ◌∷◌, ◌++◌, drop, length}
use Rattle.std.proofs.Common.{Some, None, is_some, ap, sym, ◌∙◌, refl, subst, arith, append-nil}
use Rattle.std.proofs.lemmas.Bool.Decides.{nat_tests}
use Rattle.std.specs.declared.cmp.Ordering.TheVariants.{Less, Equal, Greater}
use Rattle.std.specs.Ordering.{eq_by_cmp}
use Rattle.judy_arena.specs.Blocks.{Blocks, block, without}
use Rattle.judy_arena.specs.Frame.{holds, Frame}
use Rattle.judy_refs.specs.References.{number_of}
use Rattle.judy_arena.proofs.lemmas.BlockLaws.{block-without}
use Rattle.judy_arena.proofs.lemmas.FrameLaws.{frame-stays}
use Rattle.judy_model.specs.Contents.{string_order, word_order, value_of, with_entry}
use Rattle.judy_tree.specs.Root.{IsRoot, entries, numbers as own_numbers}
use Rattle.judy_packing.specs.Packing.{pack, word_bytes, IsString}
use Rattle.judy_string.specs.Suffixes.{is_suffix, IsSuffix, IsMadeSuffix}
use Rattle.judy_string.specs.Strings.{IsChanged, Strings, after, part, joined_strings, nested_content_at, nested_numbers_at, IsNestedAt}
use Rattle.judy_packing.proofs.lemmas.Packs.{bytes-pack, take-drop, more-word}
use Rattle.judy_string.proofs.Frames.{frames-meet}
use Rattle.judy_string.proofs.Joins.{same_front}
use Rattle.judy_string.proofs.Nests.{Nest, nest-of, nest-kind, suffix-of, of-suffix, suffix-content, suffix-numbers, nest-content, array-of}
use Rattle.judy_string.proofs.Numbers.{IsKept, array-kept}
use Rattle.judy_string.proofs.Levels.{zero-array, nothing, filled, with-here, inner-nest, inner-frame}
use Rattle.judy_string.proofs.Maps.{none-entries, none-numbers}
use Rattle.std.specs.FinMap.Entries.{by_order}
use Rattle.std.proofs.lemmas.Bool.{false≢true as not_true}

-- a change and then another of what it made are one
pub changes-join : (m : ℕ) (a b c : Blocks) (w x y : ℕ) (l k : Strings) → IsChanged m a b w x l → IsChanged m b c x y k → IsChanged m a c w y k
changes-join m a b c w x y l k f g = record {
  array = g.array;
  content = g.content;
  frame = frames-meet a b c (nested_numbers_at m a w) (nested_numbers_at m b x) (nested_numbers_at m c y) f.frame g.frame;
}

-- a new suffix is what an empty node becomes
pub made-changed : (r : ℕ) (a b : Blocks) (s : List ℕ) (v y : ℕ) → length s ≤ 8 * r → IsMadeSuffix a b s v y → IsChanged (suc r) a b 0 y
    (with_entry string_order (nested_content_at (suc r) a 0) s v)
made-changed r a b s v y short h =
    let z = zero-array r a in
    record {
      array = of-suffix r b y h.suffix (h.sound r short);
      content = suffix-content r b y h.suffix ∙ ap (λ e. e ∷ []) h.entry ∙ sym (ap (λ l. with_entry string_order l s v) z.1);
      frame = subst (λ n. Frame a b n (nested_numbers_at (suc r) b y)) (sym z.2) (subst (Frame a b []) (sym (suffix-numbers r b y h.suffix)) h.frame);
    }

-- THE SPLIT: what took a suffix's place was built beside it; then the suffix's block is released
pub replaced : (r : ℕ) (a c d : Blocks) (w x : ℕ) (l : Strings) → is_suffix w ≡ true → IsNestedAt (suc r) a w → IsChanged (suc r) a
    c 0 x l → d ≡ without c (number_of w) → IsChanged (suc r) a d w x l
replaced r a c d w x l kind node ch e =
    let n = number_of w in
    let s : IsSuffix r a w = suffix-of r a w kind node in
    let own : nested_numbers_at (suc r) a w ≡ number_of w ∷ [] = suffix-numbers r a w kind in
    let none : nested_numbers_at (suc r) a 0 ≡ [] = (zero-array r a).2 in
    let f : Frame a c [] (nested_numbers_at (suc r) c x) = subst (λ o. Frame a c o (nested_numbers_at (suc r) c x)) none ch.frame in
    let stays = frame-stays a c [] (nested_numbers_at (suc r) c x) (number_of w) f s.live refl in
    let other : (q : ℕ) → holds q (nested_numbers_at (suc r) c x) ≡ true → (q == number_of w) ≡ false =
    λ q i. elim (q == number_of w) as (λ t. (q == number_of w) ≡ t → t ≡ false) [
      | true ↦ λ j. absurd (not_true (sym stays.0 ∙ ap (λ z. holds z (nested_numbers_at (suc r) c x)) (sym (same q (number_of w) j)) ∙ i))
      | false ↦ λ j. refl
    ] refl in
    let left : (q : ℕ) → block d q ≡ cond (q == number_of w) None (block c q) = λ q. ap (λ b. block b q) e ∙ block-without c (number_of w) q in
    let kept : IsKept (suc r) c d x = array-kept (suc r) c d x ch.array (λ q i. left q ∙ ap (λ t. cond t None (block c q)) (other q i)) in
    record {
      array = kept.array;
      content = kept.content ∙ ch.content;
      frame = subst (Frame a d (nested_numbers_at (suc r) a w)) (sym kept.numbers) (subst (λ o. Frame a d o (nested_numbers_at (suc r) c x)) (sym own) (record {
        outside = λ q h. left q ∙ elim (q == number_of w) as (λ t. cond t None (block c q) ≡ cond (t || false) None (block a q)) [
          | true ↦ refl
          | false ↦ f.outside q h
        ];
        inside = λ q i. ap is_some (left q ∙ ap (λ t. cond t None (block c q)) (other q i)) ∙ f.inside q i;
        fresh = λ q h i. f.fresh q h refl;
      }));
    }
  where
    same : (q n : ℕ) → (q == n) ≡ true → q ≡ n
    same q n h = grind (arith, nat_tests)

-- ---- two strings that go on together: what was built below them hangs under one word

pub after-put : (p s : List ℕ) (v : ℕ) (l : Strings) → after p (with_entry string_order l s v) ≡ with_entry string_order (after p l) (p ++ s) v
after-put p s v [] = refl
after-put p s v (e ∷ l) =
    elim (string_order s e.0) as (λ o. after p (by_order o ((s, v) ∷ e ∷ l) ((e.0, v) ∷ l) (e ∷ with_entry string_order l s v))
    ≡ by_order o ((p ++ s, v) ∷ (p ++ e.0, e.1) ∷ after p l) ((p ++ e.0, v) ∷ after p l) ((p ++ e.0, e.1) ∷ with_entry string_order (after p l) (p ++ s) v)) [
      | Less ↦ refl
      | Equal ↦ refl
      | Greater ↦ ap (λ x. (p ++ e.0, e.1) ∷ x) (after-put p s v l)
    ]
    ∙ ap (λ o. by_order o ((p ++ s, v) ∷ (p ++ e.0, e.1) ∷ after p l) ((p ++ e.0, v) ∷ after p l)
    ((p ++ e.0, e.1) ∷ with_entry string_order (after p l) (p ++ s) v)) (sym (same_front p s e.0))

-- a node y below, and an array x of which the one word leads to it
pub record IsUnder (r : ℕ) (a c : Blocks) (x K : ℕ) (l : Strings) : Type 0 where
  pub array : IsNestedAt (suc r) c x
  pub content : nested_content_at (suc r) c x ≡ after (word_bytes K) l
  pub frame : Frame a c [] (nested_numbers_at (suc r) c x)

pub under : (r : ℕ) (a b c : Blocks) (y x : ℕ) (s : List ℕ) (l : Strings) → IsString s → 8 ≤ length s → length s ≤ 8 * r
    → IsNestedAt r b y → nested_content_at r b y ≡ l → y ≢ 0 → Frame a b [] (nested_numbers_at r b y)
    → IsRoot true c x → entries true c x ≡ (pack s, y) ∷ [] → Frame b c [] (own_numbers c x) → IsUnder r a c x (pack s) l
under r a b c y x s l is long short node content some f root one g =
    let z = zero-array r a in
    let zero : Nest r a 0 = nest-of r a 0 refl z.0 in
    let zero_entries : entries true a 0 ≡ [] = none-entries true a 0 refl in
    let gone : value_of word_order (entries true a 0) (pack s) ≡ None = ap (λ es. value_of word_order es (pack s)) zero_entries in
    let own : Frame b c (own_numbers b 0) (own_numbers c x) = subst (λ o. Frame b c o (own_numbers c x)) (sym (none-numbers true b 0 refl)) g in
    let found : (k : ℕ) → value_of word_order (entries true c x) k ≡ cond (eq_by_cmp word_order k (pack s)) (Some y)
    (value_of word_order (entries true b 0) k) =
    λ k. ap (λ es. value_of word_order es k) one
    ∙ sym (ap (λ es. cond (eq_by_cmp word_order k (pack s)) (Some y) (value_of word_order es k))
    (none-entries true b 0 refl)) in
    let new_is : (v : ℕ) → Some y ≡ Some v → (v ≢ 0) × IsNestedAt r b v × (nested_numbers_at r b v ≡ nested_numbers_at r b y) =
    λ v e. subst (λ v. (v ≢ 0) × IsNestedAt r b v × (nested_numbers_at r b v ≡ nested_numbers_at r b y)) (same_Some e) (some, node, refl) in
    let nest : Nest r c x = inner-nest r a 0 s is short zero long b [] (nested_numbers_at r b y) f None gone (λ v e. absurd (not_Some e))
    (λ q i. absurd (not_true i)) c x (Some y) root own found new_is (λ q i. (y, refl)) in
    let frame : Frame a c (nested_numbers_at (suc r) a 0) (nested_numbers_at (suc r) c x) = inner-frame r a 0 s is short zero long b []
    (nested_numbers_at r b y) f None gone (λ v e. absurd (not_Some e)) (λ q i. absurd (not_true i)) c x (Some y) root own found new_is
    (λ q i. (y, refl)) in
    let kept : IsKept r b c y = array-kept r b c y node (λ q i. (frame-stays b c [] (own_numbers c x) q g (f.inside q i) refl).1) in
    record {
      array = array-of r c x nest;
      content = nest-content r c x (nest-kind r c x nest) ∙ ap (joined_strings (part (nested_content_at r c))) one
          ∙ ap (λ t. cond t ((word_bytes (pack s), y) ∷ []) (after (word_bytes (pack s)) (nested_content_at r c y)) ++ []) (more-word s is long)
          ∙ append-nil (after (word_bytes (pack s)) (nested_content_at r c y)) ∙ ap (after (word_bytes (pack s))) (kept.content ∙ content);
      frame = subst (λ o. Frame a c o (nested_numbers_at (suc r) c x)) z.2 frame;
    }
  where
    same_Some : {x y : ℕ} → Some x ≡ Some y → x ≡ y
    same_Some h = cc

    not_Some : {x : ℕ} → None ≡ Some x → ⊥
    not_Some h = cc

whole : (s : List ℕ) → IsString s → word_bytes (pack s) ++ drop 8 s ≡ s
whole s is = ap (λ l. l ++ drop 8 s) (bytes-pack 8 s is) ∙ take-drop 8 s

-- THE STEP OF A SPLIT: t and s have the same first word, and what is left of both was built below
pub forked : (r : ℕ) (a b c : Blocks) (y x : ℕ) (t s : List ℕ) (v u : ℕ) → IsString t → IsString s → 8 ≤ length s → length s ≤ 8 * r → pack t ≡ pack s
    → IsChanged r a b 0 y (with_entry string_order ((drop 8 t, v) ∷ []) (drop 8 s) u) → IsRoot true c x → entries true c x
    ≡ (pack s, y) ∷ [] → Frame b c [] (own_numbers c x)
    → IsChanged (suc r) a c 0 x (with_entry string_order ((t, v) ∷ []) s u)
forked r a b c y x t s v u it is long short same ch root one g =
    let none = nothing r b y ch.array a in
    let some : y ≢ 0 = filled r b y (drop 8 s) u ch.array (with-here (nested_content_at r b y) ((drop 8 t, v) ∷ []) (drop 8 s) u ch.content) in
    let below = under r a b c y x s (with_entry string_order ((drop 8 t, v) ∷ []) (drop 8 s) u) is long short ch.array ch.content
    some (subst (λ o. Frame a b o (nested_numbers_at r b y)) none.1 ch.frame) root one g in
    record {
      array = below.array;
      content = below.content ∙ after-put (word_bytes (pack s)) (drop 8 s) u ((drop 8 t, v) ∷ [])
          ∙ ap (λ z. with_entry string_order ((word_bytes (pack s) ++ drop 8 t, v) ∷ []) z u) (whole s is)
          ∙ ap (λ z. with_entry string_order ((z, v) ∷ []) s u) (ap (λ k. word_bytes k ++ drop 8 t) (sym same) ∙ whole t it);
      frame = subst (λ o. Frame a c o (nested_numbers_at (suc r) c x)) (sym (zero-array r a).2) below.frame;
    }
