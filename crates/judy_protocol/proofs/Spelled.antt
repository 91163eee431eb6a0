-- The request of a line, from its fields.
use Rattle.std.proofs.Common.{◌≡◌, ◌≢◌, Bool, true, false, cond, List, ℕ, [], ◌∷◌, Some, None, sym, ◌∙◌, ap, refl}
use Rattle.std.specs.Prelude.{codes}
use Rattle.std.specs.Ordering.{eq_by_cmp}
use Rattle.judy_model.specs.Contents.{string_order}
use Rattle.judy_model.specs.Grammar.{fields_of, is_name, number_of_field, numbers_of_fields}
use Rattle.judy_model.specs.Reading.{auth_of, named_request, other_request, request_of, request_of_fields}

-- the value read where a test passes
passed : (b : Bool) (x y : List ℕ) → cond b (Some x) None ≡ Some y → (b ≡ true) × (y ≡ x)
passed true x y h = (refl, cc)
passed false x y h = cc

-- a line with a name
pub is_named : (line command name read : List ℕ) (after_command after_name more : List (List ℕ))
    → fields_of line ≡ command ∷ after_command → after_command ≡ name ∷ after_name → after_name ≡ more
    → cond (is_name name) (Some name) None ≡ Some read → request_of line ≡ named_request command read more
is_named line command name read after_command after_name more first second rest is =
    let (good, same) = passed (is_name name) name read is in
    ap request_of_fields (first ∙ ap (λ fs. command ∷ fs) (second ∙ ap (λ fs. name ∷ fs) rest))
    ∙ ap (λ b. cond b (named_request command name more) None) good ∙ ap (λ n. named_request command n more) (sym same)

-- no other word logs in
no_login : (word name : List ℕ) (fields : List (List ℕ)) → eq_by_cmp string_order word (codes "AUTH") ≡ false → auth_of word name fields ≡ None
no_login word name [] other = refl
no_login word name (token ∷ []) other = rw other refl
no_login word name (token ∷ more ∷ fields) other = refl

-- no other word makes a request that is no call of an array
pub no_request : (word field : List ℕ) (fields : List (List ℕ)) → eq_by_cmp string_order word (codes "NAMES") ≡ false
    → eq_by_cmp string_order word (codes "AUTH") ≡ false → other_request word field fields ≡ None
no_request word field fields list login = rw list (no_login word field fields login)

-- fields whose first is no number
pub first_none : (fields : List (List ℕ)) → fields ≢ [] → ((field : List ℕ) (more : List (List ℕ)) → fields ≡ field ∷ more → number_of_field field ≡ None)
    → numbers_of_fields fields ≡ None
first_none [] some none = absurd (some refl)
first_none (f ∷ []) some none = rw (none f [] refl) refl
first_none (f ∷ g ∷ []) some none = rw (none f (g ∷ []) refl) refl
first_none (f ∷ g ∷ h ∷ []) some none = rw (none f (g ∷ h ∷ []) refl) refl
first_none (f ∷ g ∷ h ∷ e ∷ more) some none = refl

-- fields whose second is no number
pub second_none : (fields later : List (List ℕ)) (first : List ℕ) (i : ℕ) → fields ≡ first ∷ later → number_of_field first ≡ Some i
    → later ≢ [] → ((field : List ℕ) (more : List (List ℕ)) → later ≡ field ∷ more → number_of_field field ≡ None)
    → numbers_of_fields fields ≡ None
second_none fields [] first i is one some none = absurd (some refl)
second_none fields (g ∷ []) first i is one some none = ap numbers_of_fields is ∙ rw (one, none g [] refl) refl
second_none fields (g ∷ h ∷ []) first i is one some none = ap numbers_of_fields is ∙ rw (one, none g (h ∷ []) refl) refl
second_none fields (g ∷ h ∷ e ∷ more) first i is one some none = ap numbers_of_fields is

-- fields whose third is no number
pub third_none : (fields later latest : List (List ℕ)) (first second : List ℕ) (i j : ℕ) → fields ≡ first ∷ later → number_of_field first ≡ Some i
    → later ≡ second ∷ latest → number_of_field second ≡ Some j
    → latest ≢ [] → ((field : List ℕ) (more : List (List ℕ)) → latest ≡ field ∷ more → number_of_field field ≡ None)
    → numbers_of_fields fields ≡ None
third_none fields later [] first second i j is one next two some none = absurd (some refl)
third_none fields later (h ∷ []) first second i j is one next two some none =
    ap numbers_of_fields (is ∙ ap (λ l. first ∷ l) next) ∙ rw (one, two, none h [] refl) refl
third_none fields later (h ∷ e ∷ more) first second i j is one next two some none = ap numbers_of_fields (is ∙ ap (λ l. first ∷ l) next)
