use Rattle.std.proofs.Common.{rules, ap, ◌∙◌, ◌*◌}
use Rattle.judy_arena.specs.Layout.{span}
use Rattle.judy_arena.proofs.Pools.{at, size, class}
use Rattle.judy_arena.proofs.pool.Pool.class.Goals as goal

pub index-requires : goal.index-requires
index-requires c = let m = (at _ _ _ c.self.invariant.0 _ (ap (λ p. p.blocks) c.self.view_is) c.args.n c.requires).marked in search rules

pub overflow_sub-result : goal.overflow_sub-result
overflow_sub-result c = (class _ _ _ c.self.invariant.0 _ (ap (λ p. p.blocks) c.self.view_is) c.args.n c.index.result.now c.index.ensures c.requires).positive

pub returns-clause-below : goal.returns-clause-below
returns-clause-below c = (class _ _ _ c.self.invariant.0 _ (ap (λ p. p.blocks) c.self.view_is) c.args.n c.index.result.now c.index.ensures c.requires).class

pub returns-clause-size : goal.returns-clause-size
returns-clause-size c = size _ _ _ c.self.invariant.0 _ (ap (λ p. p.blocks) c.self.view_is) c.args.n c.requires
    ∙ ap (λ m. span m * 4) (class _ _ _ c.self.invariant.0 _ (ap (λ p. p.blocks) c.self.view_is) c.args.n c.index.result.now
    c.index.ensures c.requires).is
