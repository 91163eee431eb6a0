use Rattle.std.proofs.Common.{◌≡◌, ℕ, zero, suc, None, map, [], refl, ap, sym, ◌∙◌}
use Rattle.std.specs.Prelude.{slice_get}
use Rattle.judy_leaf.specs.Views.{of_leaf}
use Rattle.judy_leaf.proofs.leaf.nth.Goals as goal

empty : (i : ℕ) → None ≡ slice_get (map (λ (e : ℕ × ℕ). e.0) []) i
empty zero = refl
empty (suc i) = refl

pub returns-in-Nothing : goal.returns-in-Nothing
returns-in-Nothing c = empty c.args.rank ∙ ap (λ l. slice_get (map (λ (e : ℕ × ℕ). e.0) l) c.args.rank) (ap of_leaf (sym c.in-Nothing.is) ∙ c.open.ensures)

pub returns-in-Linear : goal.returns-in-Linear
returns-in-Linear c = c.nth.ensures ∙ ap (λ l. slice_get (map (λ (e : ℕ × ℕ). e.0) l) c.args.rank) (ap of_leaf (sym c.in-Linear.is) ∙ c.open.ensures)

pub returns-in-Bits : goal.returns-in-Bits
returns-in-Bits c = c.nth-in-Bits.ensures ∙ ap (λ l. slice_get (map (λ (e : ℕ × ℕ). e.0) l) c.args.rank) (ap of_leaf (sym c.in-Bits.is) ∙ c.open.ensures)
