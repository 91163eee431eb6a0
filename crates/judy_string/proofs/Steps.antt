-- One step of a descent: what is known at a node, and what a change below it makes of it.
use Rattle.std.proofs.Common.{◌≡◌, ◌≢◌, ℕ, zero, suc, ◌-◌, ◌<◌, ◌≤◌, true, false, cond, not, List, [], ◌∷◌, drop, length}
use Rattle.std.proofs.Common.{length-drop, Option, Some, None, is_some, ap, sym, ◌∙◌, refl, subst, arith}
use Rattle.std.specs.Ordering.{eq_by_cmp}
use Rattle.std.proofs.lemmas.Bool.{false≢true as not_true}
use Rattle.judy_arena.specs.Blocks.{Blocks, ArenaState, words_of, without}
use Rattle.judy_arena.specs.Frame.{Frame}
use Rattle.judy_refs.specs.References.{number_of, is_reference}
use Rattle.judy_arena.proofs.lemmas.FrameLaws.{frame-release}
use Rattle.judy_model.specs.Contents.{string_order, word_order, value_of, with_entry, without_key}
use Rattle.judy_tree.specs.Root.{IsRoot, entries, numbers as own_numbers}
use Rattle.judy_packing.specs.Packing.{pack}
use Rattle.judy_packing.proofs.lemmas.Packs.{more-word}
use Rattle.judy_string.specs.Changes.{IsRest, IsRewritten, HasLost, RemovesString}
use Rattle.judy_string.specs.Suffixes.{is_suffix, suffix_entry, IsSuffix}
use Rattle.judy_string.specs.Strings.{Strings, IsChanged, nested_content_at, nested_numbers_at, IsNestedAt}
use Rattle.judy_string.proofs.Maps.{suffix-reference, map-reference}
use Rattle.judy_string.proofs.Suffixes.{suffix-some}
use Rattle.judy_string.proofs.Nests.{Nest, nest-of, node-cases, suffix-of, suffix-content, suffix-numbers, drop-string, none-array}
use Rattle.judy_string.proofs.Levels.{zero-array, found-none, found-last, found-child, found-inner, last-with, last-without}
use Rattle.judy_string.proofs.Levels.{child-with, child-without, child-gone, stays-some}

-- a node is a reference
pub node-reference : (r : ℕ) (b : Blocks) (w : ℕ) → IsNestedAt r b w → is_reference w ≡ true
node-reference zero b w h = absurd (none-array b w h)
node-reference (suc r) b w h = node-cases r b w h (λ e s. suffix-reference w e) (λ e n. map-reference b w n.root)

-- what is left of a string below
pub rest-below : (r : ℕ) (s : List ℕ) → IsRest r s → 8 ≤ length s → IsRest (r - 1) (drop 8 s)
rest-below r s h long = record { string = drop-string 8 s h.string; short = omega (arith, length-drop 8 s, h.short, long); few = omega (arith, h.few) }

pub rest-bound : (r : ℕ) (s : List ℕ) → IsRest r s → 8 ≤ length s → r ≡ suc (r - 1)
rest-bound r s h long = omega (arith, h.short, long)

module _ (r : ℕ) (a : Blocks) (w : ℕ) (s : List ℕ) (rest : IsRest r s) (node : IsNestedAt (suc r) a w) where
  -- ---- a suffix

  module _ (yes_ : is_suffix w ≡ true) where
    pub suffix-sound : IsSuffix r a w
    suffix-sound = suffix-of r a w yes_ node

    pub suffix-value : value_of string_order (suffix_entry a w ∷ []) s ≡ value_of string_order (nested_content_at (suc r) a w) s
    suffix-value = ap (λ l. value_of string_order l s) (sym (suffix-content r a w yes_))

    pub suffix-live : 0 < length (words_of a (number_of w))
    suffix-live = let h = suffix-some r a w suffix-sound in omega (arith, h)

    its_own : (e : List ℕ × ℕ) (v : ℕ) → value_of string_order (e ∷ []) s ≡ Some v → without_key string_order (e ∷ []) s ≡ []
    its_own e v h = elim (eq_by_cmp string_order s e.0) as (λ t. cond t (Some e.1) None ≡ Some v → cond (not t) (e ∷ []) [] ≡ []) [
      | true ↦ λ j. refl
      | false ↦ λ j. cc
    ] h

    -- the suffix goes
    pub suffix-lost : (b c : ArenaState) (v : ℕ) → b.blocks ≡ a → value_of string_order (suffix_entry a w ∷ []) s ≡ Some v
        → c.blocks ≡ without a (number_of w) → HasLost (suc r) b c w s 0
    suffix-lost b c v same at gone =
        let z = zero-array r c.blocks in
        let one = suffix-content r a w yes_ in
        subst (λ l. HasLost (suc r) (record b { blocks = l }) c w s 0) (sym same) (record {
          there = ap is_some (sym suffix-value ∙ at);
          changed = record {
            array = z.0;
            content = z.1 ∙ sym (its_own (suffix_entry a w) v at) ∙ sym (ap (λ l. without_key string_order l s) one);
            frame = subst (λ n. Frame a c.blocks (nested_numbers_at (suc r) a w) n) (sym z.2)
                (subst (λ n. Frame a c.blocks n []) (sym (suffix-numbers r a w yes_))
                (subst (λ b. Frame a b (number_of w ∷ []) []) (sym gone) (frame-release a (number_of w))));
          };
          kind = λ no. absurd (not_true (sym no ∙ yes_));
        })

  -- ---- a word array

  module _ (no : is_suffix w ≡ false) where
    nest : Nest r a w
    nest = nest-of r a w no node

    pub step-root : IsRoot true a w
    step-root = nest.root

    pub step-none : value_of word_order (entries true a w) (pack s) ≡ None → value_of string_order (nested_content_at (suc r) a w) s ≡ None
    step-none e = found-none r a w s rest.string rest.short nest e

    pub step-last : length s < 8 → value_of string_order (nested_content_at (suc r) a w) s ≡ value_of word_order (entries true a w) (pack s)
    step-last few = found-last r a w s rest.string rest.short nest few

    pub last-put : length s < 8 → (c : Blocks) (x v : ℕ) → IsRewritten a c w x (with_entry word_order (entries true a w) (pack s)
        v) → IsChanged (suc r) a c w x (with_entry string_order (nested_content_at (suc r) a w) s v)
    last-put few c x v h = last-with r a w s rest.string rest.short nest few c x h.root h.frame v h.content

    pub last-taken : length s < 8 → (c : Blocks) (x : ℕ) → IsRewritten a c w x
        (without_key word_order (entries true a w) (pack s)) → IsChanged (suc r) a c w x
        (without_key string_order (nested_content_at (suc r) a w) s)
    last-taken few c x h = last-without r a w s rest.string rest.short nest few c x h.root h.frame h.content

    module _ (long : 8 ≤ length s) (u : ℕ) (at : value_of word_order (entries true a w) (pack s) ≡ Some u) where
      bound : r ≡ suc (r - 1)
      bound = rest-bound r s rest long

      pub step-child : IsNestedAt (suc (r - 1)) a u
      step-child = subst (λ m. IsNestedAt m a u) bound (found-child r a w s rest.string rest.short nest u long at)

      pub step-inner : value_of string_order (nested_content_at (suc r) a w) s ≡ value_of string_order (nested_content_at (suc (r - 1)) a u) (drop 8 s)
      step-inner = subst (λ m. value_of string_order (nested_content_at (suc r) a w) s ≡ value_of string_order (nested_content_at m a u)
          (drop 8 s)) bound (found-inner r a w s rest.string rest.short nest u long at)

      module _ (b : Blocks) (y : ℕ) (l : Strings) (ch : IsChanged (suc (r - 1)) a b u y l) where
        pub step-stays : IsRoot true b w × (entries true b w ≡ entries true a w) × (own_numbers b w ≡ own_numbers a w)
        step-stays = stays-some r a w s rest.string rest.short nest long u at b (nested_numbers_at r b y)
            (subst (λ m. Frame a b (nested_numbers_at m a u) (nested_numbers_at m b y)) (sym bound) ch.frame)

      module _ (b c : Blocks) (x y : ℕ) where
        pub step-with : (v : ℕ) → IsChanged (suc (r - 1)) a b u y (with_entry string_order (nested_content_at (suc (r - 1)) a u)
            (drop 8 s) v) → IsRewritten b c w x (with_entry word_order (entries true b w) (pack s) y)
            → IsChanged (suc r) a c w x (with_entry string_order (nested_content_at (suc r) a w) s v)
        step-with v ch h = child-with r a w s rest.string rest.short nest long u at b y c x h.root h.frame v
            (subst (λ m. IsChanged m a b u y (with_entry string_order (nested_content_at m a u) (drop 8 s) v)) (sym bound) ch) h.content

        pub step-without : y ≢ 0 → IsChanged (suc (r - 1)) a b u y (without_key string_order (nested_content_at (suc (r - 1)) a u)
            (drop 8 s)) → IsRewritten b c w x (with_entry word_order (entries true b w) (pack s) y)
            → IsChanged (suc r) a c w x (without_key string_order (nested_content_at (suc r) a w) s)
        step-without some ch h = child-without r a w s rest.string rest.short nest long u at b y c x h.root h.frame some
            (subst (λ m. IsChanged m a b u y (without_key string_order (nested_content_at m a u) (drop 8 s))) (sym bound) ch) h.content

        pub step-gone : y ≡ 0 → IsChanged (suc (r - 1)) a b u y (without_key string_order (nested_content_at (suc (r - 1)) a u)
            (drop 8 s)) → IsRewritten b c w x (without_key word_order (entries true b w) (pack s))
            → IsChanged (suc r) a c w x (without_key string_order (nested_content_at (suc r) a w) s)
        step-gone none ch h = child-gone r a w s rest.string rest.short nest long u at b y c x h.root h.frame none
            (subst (λ m. IsChanged m a b u y (without_key string_order (nested_content_at m a u) (drop 8 s))) (sym bound) ch) h.content

-- a removal below, in the words of its call
pub lost-below : (m : ℕ) (a b : ArenaState) (u u' : ℕ) (t t' : List ℕ) (o : Option ℕ) → u ≡ u' → t ≡ t' → RemovesString m a b u t o
    → RemovesString m a b u' t' o
lost-below m a b u u' t t' o e f h = subst (λ x. RemovesString m a b x t' o) e (subst (λ x. RemovesString m a b u x o) f h)
