-- The children of a row of a branch's words.
use Rattle.std.proofs.Common.{◌≡◌, ℕ, ◌+◌, ◌<◌, cond, List, get_or, length, Some, None, ap, sym, ◌∙◌, eq-eqb, ne_eqb}
use Rattle.judy_model.specs.Contents.{Entries, word_order, value_of}
use Rattle.judy_branch.specs.Rows.{IsChildRow}

module _ (es : Entries ℕ) (k : ℕ) (ws : List ℕ) (row : IsChildRow es k ws) (i : ℕ) (inside : i < length ws) where
  -- a 0 is no child
  pub child-none : get_or ws i 0 ≡ 0 → value_of word_order es (k + i) ≡ None
  child-none z = row.each i inside ∙ ap (λ t. cond t None (Some (get_or ws i 0))) (eq-eqb (get_or ws i 0) 0 z)

  -- and another word is one
  pub child-there : (get_or ws i 0 ≡ 0 → ⊥) → (c : ℕ) → c ≡ get_or ws i 0 → value_of word_order es (k + i) ≡ Some c
  child-there n c e = row.each i inside ∙ ap (λ t. cond t None (Some (get_or ws i 0))) (ne_eqb (get_or ws i 0) 0 n) ∙ ap Some (sym e)
