-- Lemmas for the crates above: the entries after an insertion of a present key, and after a removal
-- of an absent key.
use Rattle.std.proofs.Common.{◌≡◌, ℕ, false, Option, Some, None, is_some, unwrap_or, ap, sym, ◌∙◌, refl}
use Rattle.judy_model.specs.Contents.{Entries, IsWordArray, word_order, value_of, has_key, with_entry}
use Rattle.judy_model.proofs.lemmas.EntryLemmas.{same-entry}

-- a present key keeps its value
pub present-same : (es : Entries ℕ) (key x value : ℕ) → IsWordArray es → value_of word_order es key ≡ Some x → es ≡ with_entry
    word_order es key (unwrap_or (value_of word_order es key) value)
present-same es key x value words e = same-entry es key x words e ∙ ap (with_entry word_order es key) (sym (ap (λ o. unwrap_or o value) e))

-- an absent key is inserted with the given value
pub absent-new : (es : Entries ℕ) (key value : ℕ) → has_key word_order es key ≡ false → with_entry word_order es key value
    ≡ with_entry word_order es key (unwrap_or (value_of word_order es key) value)
absent-new es key value h = ap (with_entry word_order es key) (given (value_of word_order es key) h)
  where
    given : (o : Option ℕ) → is_some o ≡ false → value ≡ unwrap_or o value
    given None h = refl
    given (Some x) h = cc
