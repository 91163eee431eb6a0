-- Walks over a map: each string that is found is one that a map can hold.
use Rattle.std.proofs.Common.{◌≡◌, ◌∙◌, ◌&&◌, ℕ, true, List, Option, Some, None, sym, subst, ap}
use Rattle.std.specs.Prelude.{IfSome, option_map}
use Rattle.judy_arena.specs.Blocks.{Blocks}
use Rattle.judy_model.specs.Contents.{string_order}
use Rattle.judy_model.specs.WellFormed.{is_string_entry}
use Rattle.judy_model.specs.Grammar.{are_bytes, is_string}
use Rattle.judy_model.specs.Walks.{found_by}
use Rattle.judy_model.specs.declared.calls.Search.{Search}
use Rattle.judy_model.proofs.lemmas.TestLemmas.{and_right, and_left}
use Rattle.judy_model.proofs.lemmas.WalkLemmas.{found_has}
use Rattle.judy_string.specs.StringArrays.{IsKeyString, IsStringFound, string_in}
use Rattle.judy_string.specs.Strings.{IsNestedAt}
use Rattle.judy_string.proofs.WellFormed.{content-entries, strings-are-keys}

entry_key : (e : List ℕ × ℕ) → is_string_entry e ≡ true → IsKeyString e.0
entry_key e is =
    let both = and_left (is_string e.0 && are_bytes e.0) _ is in
    (strings-are-keys e.0 (and_right (is_string e.0) _ both)).0 (and_left (is_string e.0) _ both)

-- the string in the buffer, if one was found, is one that a map can hold
pub key_found : (b : Blocks) (w : ℕ) (search : Search) (s items : List ℕ) (answer : Option ℕ) (o : Option (List ℕ × ℕ)) → IsNestedAt 126 b w
    → found_by string_order (string_in b w) search s ≡ o → IsStringFound o answer items → IfSome answer (λ v. IsKeyString items)
key_found b w search s items answer None array is found = subst (λ a. IfSome a (λ v. IsKeyString items)) (sym found.0) tt
key_found b w search s items answer (Some e) array is found =
    subst (λ a. IfSome a (λ v. IsKeyString items)) (sym found.0)
    (subst IsKeyString (sym found.1) (entry_key e (found_has is_string_entry string_order (string_in b w) search s e (content-entries b w array) is)))

-- the entry is the string in the buffer with its value
pub entry_found : (items : List ℕ) (answer : Option ℕ) (o : Option (List ℕ × ℕ)) → IsStringFound o answer items → option_map (λ v. (items, v)) answer ≡ o
entry_found items answer None found = ap (option_map (λ v. (items, v))) found.0
entry_found items answer (Some e) found = ap (option_map (λ v. (items, v))) found.0 ∙ ap (λ k. Some (k, e.1)) found.1
