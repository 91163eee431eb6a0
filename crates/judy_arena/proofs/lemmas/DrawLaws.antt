-- What a call takes from the machine that takes one new block.
use Rattle.std.proofs.Common.{◌≡◌, ℕ, ◌+◌, ◌<◌, ◌≤◌, subst}
use Rattle.judy_arena.specs.Blocks.{ArenaState}
use Rattle.judy_arena.specs.Draws.{DrawsBlock}

-- a call that takes a block of r words, by the clauses of `alloc` and `grow`
pub drew-block : (old new : ArenaState) (size r : ℕ) → size ≡ r → (r ≤ old.ready → new.region ≡ old.region)
    → (old.ready < r → new.region ≡ old.region + 512) → DrawsBlock old new size
drew-block old new size r is reuse growth = record {
  reuse = λ h. reuse (subst (λ n. n ≤ old.ready) is h);
  growth = λ h. growth (subst (λ n. old.ready < n) is h);
}
