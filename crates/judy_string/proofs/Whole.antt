-- Whole maps: the empty one, one that stays, and one that is emptied.
use Rattle.std.proofs.Common.{◌≡◌, ℕ, Bool, true, false, not, List, [], cond, Option, None, T, ap, sym, ◌∙◌, refl, subst}
use Rattle.judy_arena.specs.Blocks.{Blocks, ArenaState}
use Rattle.judy_arena.specs.Frame.{Frame}
use Rattle.judy_arena.proofs.lemmas.FrameLaws.{frame-same}
use Rattle.judy_model.specs.Contents.{string_order, value_of, without_key}
use Rattle.judy_model.proofs.lemmas.EntryLemmas.{same_string}
use Rattle.judy_string.specs.Strings.{Strings, IsArray, content, nested_numbers}
use Rattle.std.specs.Ordering.{eq_by_cmp}
use Rattle.std.specs.Cmp.Lexicographic.{nat_list_cmp_total}
use Rattle.std.specs.FinMap.{is_sorted, slice_cmp-IsAntisymmetric, nat_cmp-IsAntisymmetric}
use Rattle.std.specs.FinMap.Entries.{same_entries, is_sorted-where_key}
use Rattle.judy_string.proofs.Nests.{find-without}
use Rattle.judy_string.specs.StringArrays.{StringBecomes}
use Rattle.judy_string.proofs.Levels.{zero-array}
use Rattle.judy_string.proofs.Numbers.{all-live}

pub empty-sound : (b : Blocks) → IsArray b 0
empty-sound b = record { node = (zero-array 125 b).0; array = refl }

pub empty-content : (b : Blocks) → content b 0 ≡ []
empty-content b = (zero-array 125 b).1

-- no block changed
pub stayed : (a c : ArenaState) (w : ℕ) → IsArray a.blocks w → c.blocks ≡ a.blocks → StringBecomes a w c w
stayed a c w h e = record {
  sound = subst (λ b. IsArray b w) (sym e) h;
  frame = subst (λ b. Frame a.blocks b (nested_numbers a.blocks w) (nested_numbers b w)) (sym e)
      (frame-same a.blocks (nested_numbers a.blocks w) (all-live 126 a.blocks w h.node));
}

-- every block of the map is gone
pub emptied-map : (a c : ArenaState) (w x : ℕ) → x ≡ w → Frame a.blocks c.blocks (nested_numbers a.blocks x) [] → StringBecomes a w c 0
emptied-map a c w x e f = record {
  sound = empty-sound c.blocks;
  frame = subst (Frame a.blocks c.blocks (nested_numbers a.blocks w)) (sym (zero-array 125 c.blocks).2)
      (subst (λ z. Frame a.blocks c.blocks (nested_numbers a.blocks z) []) e f);
}

none_same : (t : Bool) (o : Option ℕ) → (t ≡ true → o ≡ None) → cond t None o ≡ o
none_same true o h = sym (h refl)
none_same false o h = refl

-- an absent string taken out changes nothing
pub absent-stays : (l : Strings) (s : List ℕ) → is_sorted string_order l ≡ true → value_of string_order l s ≡ None → l ≡ without_key string_order l s
absent-stays l s sorted e =
    same_entries string_order nat_list_cmp_total (slice_cmp-IsAntisymmetric nat_cmp-IsAntisymmetric) l
    (without_key string_order l s) (subst T (sym sorted) tt)
    (is_sorted-where_key string_order (λ y. not (eq_by_cmp string_order s y)) l (subst T (sym sorted) tt))
    (λ q. sym (find-without l s q ∙ none_same (eq_by_cmp string_order q s) (value_of string_order l q)
    (λ i. ap (value_of string_order l) (same_string q s i) ∙ e)))
