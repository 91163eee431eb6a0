use Rattle.std.proofs.Common.{◌≡◌, List, ℕ, Some, refl, subst}
use Rattle.std.specs.Prelude.{slice_get, map}
use Rattle.judy_arena.specs.Blocks.{words_of}
use Rattle.judy_leaf.specs.Linear.{linear_entries, StandsAt}
use Rattle.judy_leaf.proofs.LinearLaws.{value-found}
use Rattle.judy_leaf.proofs.linear_leaf.LinearBlock.insert.Goals as goal

pub returns-in-Ok-clause-insertion : goal.returns-in-Ok-clause-insertion
returns-in-Ok-clause-insertion c =
    let f : List ℕ = words_of c.args.arena.now.blocks c.args.self.block in (
      value-found c.args.self.values f c.requires.leaf.0 c.in-Ok.place c.args.key c.value_at.result
          (subst (λ x. StandsAt x c.args.key c.in-Ok.place) c.words.ensures c.in-Ok.ensures)
          (subst (λ l. slice_get (map (λ (e : ℕ × ℕ). e.1) (linear_entries c.args.self.values l)) c.in-Ok.place ≡ Some
          c.value_at.result) c.words.ensures c.value_at.ensures),
      (refl, refl),
    )
