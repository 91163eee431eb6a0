-- A word array that is rewritten.
use Rattle.std.proofs.Common.{◌≡◌, ℕ, Bool, true, false, cond, Option, Some, is_some, ap, sym, ◌∙◌, refl}
use Rattle.std.specs.Ordering.{eq_by_cmp}
use Rattle.std.specs.Cmp.{nat_cmp_total}
use Rattle.std.specs.FinMap.{is_sorted, nat_cmp-IsAntisymmetric}
use Rattle.std.specs.FinMap.Entries.{find-put, same_entries, is_sorted-put}
use Rattle.judy_arena.specs.Blocks.{Blocks}
use Rattle.judy_arena.proofs.lemmas.FrameLaws.{frame-same}
use Rattle.judy_model.specs.Contents.{Entries, word_order, value_of, has_key, with_entry}
use Rattle.judy_model.proofs.lemmas.TestLemmas.{to_T}
use Rattle.judy_model.proofs.lemmas.EntryLemmas.{put-same, word_itself}
use Rattle.judy_tree.specs.Root.{IsRoot, entries, numbers as own_numbers}
use Rattle.judy_tree.proofs.lemmas.Trees.{root-words}
use Rattle.judy_string.specs.Changes.{IsRewritten}
use Rattle.judy_string.proofs.Maps.{numbers-live}
use Rattle.judy_string.proofs.Frames.{frames-meet}

shadowed : (t : Bool) (x y z : Option ℕ) → cond t x (cond t y z) ≡ cond t x z
shadowed true x y z = refl
shadowed false x y z = refl

put-twice : (es : Entries ℕ) → is_sorted word_order es ≡ true → (k u v : ℕ) → with_entry word_order (with_entry word_order es k u)
    k v ≡ with_entry word_order es k v
put-twice es sorted k u v =
    let s = to_T _ sorted in
    same_entries word_order nat_cmp_total nat_cmp-IsAntisymmetric _ _
    (is_sorted-put word_order nat_cmp_total k v _ (is_sorted-put word_order nat_cmp_total k u es s))
    (is_sorted-put word_order nat_cmp_total k v es s)
    (λ q. find-put word_order nat_cmp_total q k v (with_entry word_order es k u) ∙ ap (cond (eq_by_cmp word_order q k) (Some v))
    (find-put word_order nat_cmp_total q k u es)
    ∙ shadowed (eq_by_cmp word_order q k) (Some v) (Some u) (value_of word_order es q) ∙ sym (find-put word_order nat_cmp_total q k v es))

-- a word that was put in is there
pub put-there : (es : Entries ℕ) (k v : ℕ) → has_key word_order (with_entry word_order es k v) k ≡ true
put-there es k v = ap is_some (find-put word_order nat_cmp_total k k v es) ∙ ap (λ t. is_some (cond t (Some v) (value_of word_order es k))) (word_itself k)

-- one word is put in and then written
pub rewritten-twice : (a b c : Blocks) (w x y k u v : ℕ) → IsRoot true a w → IsRewritten a b w x (with_entry word_order (entries true a w) k u)
    → IsRewritten b c x y (with_entry word_order (entries true b x) k v) → IsRewritten a c w y (with_entry word_order (entries true a w) k v)
rewritten-twice a b c w x y k u v root f g = record {
  root = g.root;
  content = g.content ∙ ap (λ es. with_entry word_order es k v) f.content ∙ put-twice (entries true a w) (root-words true a w root).0 k u v;
  frame = frames-meet a b c (own_numbers a w) (own_numbers b x) (own_numbers c y) f.frame g.frame;
}

-- a word that has the value already
pub rewritten-same : (a : Blocks) (w k v : ℕ) → IsRoot true a w → value_of word_order (entries true a w) k ≡ Some v → IsRewritten
    a a w w (with_entry word_order (entries true a w) k v)
rewritten-same a w k v root at = record {
  root = root;
  content = put-same (entries true a w) k v (root-words true a w root).0 at;
  frame = frame-same a (own_numbers a w) (numbers-live true a w root);
}
