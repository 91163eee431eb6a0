-- A string that a search finds in a map is one that a call may give.
use Rattle.std.proofs.Common.{◌≡◌, ◌&&◌, ℕ, true, List, Option, Some, None, sym, subst}
use Rattle.std.specs.List.{list_all}
use Rattle.judy_arena.specs.Blocks.{Blocks}
use Rattle.judy_model.specs.Contents.{first, string_order}
use Rattle.judy_model.specs.Grammar.{are_bytes, is_string}
use Rattle.judy_model.specs.WellFormed.{is_string_entry}
use Rattle.judy_model.specs.declared.calls.Search.TheVariants.{First}
use Rattle.judy_model.proofs.lemmas.TestLemmas.{and_left}
use Rattle.judy_model.proofs.lemmas.WalkLemmas.{found_has}
use Rattle.judy_string.specs.StringArrays.{IsStringFound, string_in}

pub popped_key : (b : Blocks) (w root : ℕ) (x items : List ℕ) (answer : Option ℕ) (value : ℕ) (o : Option (List ℕ × ℕ)) → w ≡ root
    → list_all is_string_entry (string_in b root) ≡ true → first string_order (string_in b w) x ≡ o → IsStringFound o answer items → answer ≡ Some value
    → is_string items ≡ true
popped_key b w root x items answer value None at all is found some = absurd (nothing answer found.0 some)
  where
    nothing : (o : Option ℕ) → o ≡ None → o ≡ Some value → ⊥
    nothing o e f = cc
popped_key b w root x items answer value (Some e) at all is found some =
    let entry = found_has is_string_entry string_order (string_in b w) First x e (subst (λ r. list_all is_string_entry (string_in b r) ≡ true) (sym at) all) is in
    let key = and_left (is_string e.0) _ (and_left (is_string e.0 && are_bytes e.0) _ entry) in
    subst (λ k. is_string k ≡ true) (sym found.1) key
