-- What a test of an option says, and what a look at a word array found.
use Rattle.std.proofs.Common.{◌≡◌, true, false, Option, Some, None, is_some, ℕ, Result, Ok, Err, OnErr, ap, sym, ◌∙◌, refl}
use Rattle.judy_model.specs.Contents.{Entries, word_order, value_of}

pub no-value : (o : Option ℕ) → is_some o ≡ false → o ≡ None
no-value None h = refl
no-value (Some v) h = cc

pub a-value : (o : Option ℕ) → is_some o ≡ true → (v : ℕ) × (o ≡ Some v)
a-value None h = cc
a-value (Some v) h = (v, refl)

pub on-err : {A E : Type 0} (r : Result A E) {P : Type 0} → P → OnErr r P
on-err (Ok x) p = tt
on-err (Err e) p = p

-- the value of a word, which a look at the word k found
pub looked : (es : Entries ℕ) (k w : ℕ) (o x : Option ℕ) → k ≡ w → o ≡ value_of word_order es k → o ≡ x → value_of word_order es w ≡ x
looked es k w o x same is found = ap (value_of word_order es) (sym same) ∙ sym is ∙ found
