-- A string whose first word is new is entered in a nest: as a last word, or with a suffix block
-- below.
use Rattle.std.proofs.Common.{◌≡◌, ◌≢◌, ℕ, zero, suc, ◌*◌, ◌<◌, ◌≤◌, true, false, cond, List, drop, length, length-drop}
use Rattle.std.proofs.Common.{Some, None, ap, ◌∙◌, refl, arith}
use Rattle.judy_arena.specs.Blocks.{Blocks, words_of, without}
use Rattle.judy_arena.specs.Frame.{Frame}
use Rattle.judy_refs.specs.References.{number_of}
use Rattle.judy_arena.proofs.lemmas.FrameLaws.{undone}
use Rattle.judy_model.specs.Contents.{Entries, string_order, word_order, value_of, has_key, with_entry}
use Rattle.judy_tree.specs.Root.{IsRoot, entries, numbers}
use Rattle.judy_tree.proofs.lemmas.Joins.{word_other}
use Rattle.judy_packing.specs.Packing.{pack, IsString}
use Rattle.judy_string.specs.Suffixes.{is_suffix, IsMadeSuffix}
use Rattle.judy_string.specs.Changes.{IsRewritten, IsHung}
use Rattle.judy_string.specs.Strings.{IsChanged, nested_content_at, IsNestedAt}
use Rattle.judy_string.proofs.Maps.{map-kind}
use Rattle.judy_string.proofs.Nests.{Nest, nest-of}
use Rattle.judy_string.proofs.Suffixes.{suffix-holds}
use Rattle.judy_string.proofs.Levels.{last-with, stays-none, new-with}
use Rattle.std.specs.Cmp.{nat_cmp_total}
use Rattle.std.specs.FinMap.Entries.{find-put}
use Rattle.judy_string.proofs.Splits.{made-changed}
use Rattle.judy_string.proofs.Options.{no-value}

-- the other words stay
pub others-stay : (es fs gs : Entries ℕ) (K v : ℕ) → gs ≡ es → fs ≡ with_entry word_order gs K v → (k : ℕ) → k ≢ K
    → value_of word_order fs k ≡ value_of word_order es k
others-stay es fs gs K v same e k ne = ap (λ l. value_of word_order l k) e ∙ find-put word_order nat_cmp_total k K v gs
    ∙ ap (λ t. cond t (Some v) (value_of word_order gs k)) (word_other k K ne) ∙ ap (λ l. value_of word_order l k) same

-- the new suffix, by the bound of the level below
pub made-below : (r : ℕ) (a b : Blocks) (s : List ℕ) (v y : ℕ) → 8 ≤ length s → length s ≤ 8 * r → IsMadeSuffix a b (drop 8 s) v y
    → IsChanged r a b 0 y (with_entry string_order (nested_content_at r a 0) (drop 8 s) v)
made-below zero a b s v y long short h = absurd (omega arith)
made-below (suc r) a b s v y long short h = made-changed r a b (drop 8 s) v y (omega (arith, length-drop 8 s)) h

module _ (r : ℕ) (a : Blocks) (w : ℕ) (s : List ℕ) (v : ℕ) (is : IsString s) (short : length s ≤ 8 * r)
    (node : IsNestedAt (suc r) a w) (no : is_suffix w ≡ false) (absent : has_key word_order (entries true a w) (pack s)
    ≡ false) where
  nest : Nest r a w
  nest = nest-of r a w no node

  pub hang-root : IsRoot true a w
  hang-root = nest.root

  pub hang-last : length s < 8 → (c : Blocks) (x : ℕ) → IsRoot true c x → entries true c x ≡ with_entry word_order
      (entries true a w) (pack s) v → Frame a c (numbers a w) (numbers c x)
      → IsChanged (suc r) a c w x (with_entry string_order (nested_content_at (suc r) a w) s v)
  hang-last few c x root e g = last-with r a w s is short nest few c x root g v e

  -- by its last word
  pub hung-last : length s < 8 → (c : Blocks) (x : ℕ) → IsRewritten a c w x (with_entry word_order (entries true a w) (pack s) v) → IsHung (suc r) a c w s v x
  hung-last few c x h = record {
    changed = hang-last few c x h.root h.content h.frame;
    kind = map-kind c x h.root;
    others = others-stay (entries true a w) (entries true c x) (entries true a w) (pack s) v refl h.content;
  }

  module _ (long : 8 ≤ length s) (b : Blocks) (y : ℕ) (made : IsMadeSuffix a b (drop 8 s) v y) where
    none : value_of word_order (entries true a w) (pack s) ≡ None
    none = no-value (value_of word_order (entries true a w) (pack s)) absent

    pub hang-stays : IsRoot true b w × (entries true b w ≡ entries true a w) × (numbers b w ≡ numbers a w)
    hang-stays = stays-none r a w s is short nest long none b y v (made-below r a b s v y long short made)

    pub hang-below : (c : Blocks) (x : ℕ) → IsRoot true c x → entries true c x ≡ with_entry word_order (entries true b w) (pack s)
        y → Frame b c (numbers b w) (numbers c x)
        → IsChanged (suc r) a c w x (with_entry string_order (nested_content_at (suc r) a w) s v)
    hang-below c x root e g = new-with r a w s is short nest long none b y v (made-below r a b s v y long short made) c x root g e

    pub hang-live : 0 < length (words_of b (number_of y))
    hang-live = let h = suffix-holds r b y (made.sound r (omega (arith, length-drop 8 s))) in omega (arith, h)

    pub hang-undone : (c d : Blocks) → c ≡ b → d ≡ without c (number_of y) → d ≡ a
    hang-undone c d e f = undone a b d (number_of y) made.frame (f ∙ ap (λ x. without x (number_of y)) e)

    -- with a suffix below
    pub hung-below : (c : Blocks) (x : ℕ) → IsRewritten b c w x (with_entry word_order (entries true b w) (pack s) y) → IsHung (suc r) a c w s v x
    hung-below c x h = record {
      changed = hang-below c x h.root h.content h.frame;
      kind = map-kind c x h.root;
      others = others-stay (entries true a w) (entries true c x) (entries true b w) (pack s) y hang-stays.1 h.content;
    }
