use Rattle.std.proofs.Common.{◌≤◌, ◌<◌, ◌*◌, ◌^◌, ℕ, subst, arith}
use Rattle.judy_arena.specs.Blocks.{total_words, ArenaState}
use Rattle.judy_arena.proofs.ReadyLaws.{size-pow, span-pow}
use Rattle.judy_arena.proofs.blocks.Arena.the_region_is_filled.Goals as goal

pub returns : goal.returns
returns c =
    subst (λ (s : ArenaState). (k : ℕ) → k < 8 → s.ready < 4 * 2 ^ k → s.region ≤ 2 ^ k * total_words s.blocks) c.self.view_is
    (λ k l none. let p = size-pow k l in
    subst (λ n. c.self.inside.pool.region ≤ n * total_words c.self.inside.pool.blocks) (span-pow k l)
    (c.is_filled.ensures k l (omega (arith, p, none))))
