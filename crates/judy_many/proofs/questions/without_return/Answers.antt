use Rattle.std.proofs.Common.{ℕ, List, [], ◌∷◌, ◌≡◌, ◌≢◌, ◌++◌, Bor, inl, inr, sym, subst, refl, ap, ◌∙◌}
use Rattle.std.specs.Prelude.{Option, Some, None, MatchOption}
use Rattle.std.specs.Option.{unwrap_or}
use Rattle.std.proofs.lemmas.Bool.Decides.{Decides-eqb}
use Rattle.std.proofs.lemmas.Slice.Eq.{strip_suffix_is}
use Rattle.judy_many.specs.Meanings.{IsBare}
use Rattle.judy_many.proofs.questions.without_return.Goals as goal

is_bare : (line : Bor (List ℕ)) (r : Option (Bor (List ℕ)))
    → MatchOption r ((front : List ℕ) → line.now ≢ front ++ 13 ∷ []) (λ x. line.now ≡ x.now ++ 13 ∷ []) → IsBare line.now (unwrap_or r line).now
is_bare line None h = inl refl
is_bare line (Some x) h = inr h

pub returns : goal.returns
returns c = subst (λ (r : Bor (List ℕ)). IsBare c.args.line.now r.now) (sym c.unwrap_or.ensures)
    (is_bare c.args.line c.strip_suffix.result (strip_suffix_is Decides-eqb c.args.line.now (13 ∷ []) c.strip_suffix.result (rw c.as_slice.ensures at c.strip_suffix.ensures.cases)))
