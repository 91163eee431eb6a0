use Rattle.std.proofs.Common.{ap, arith}
use Rattle.judy_arena.specs.Blocks.{total_words}
use Rattle.judy_arena.specs.Ready.{greatest}
use Rattle.judy_arena.proofs.Whole.{whole, ready-free}
use Rattle.judy_arena.proofs.pool.Pool.is_whole.Goals as goal

pub returns-clause-all : goal.returns-clause-all
returns-clause-all c =
    let w = whole _ _ _ c.self.invariant.0 in let t = ap (λ p. total_words p.blocks) c.self.view_is in
    let f = ap (λ p. p.free) c.self.view_is in let r = ap (λ p. p.region) c.self.view_is in omega (arith, w, t, f, r)

pub returns-clause-ready : goal.returns-clause-ready
returns-clause-ready c =
    let o = ready-free _ _ _ c.self.invariant.0.0 c.self.invariant.0.1 in let g = ap (λ p. greatest p.heads) c.self.view_is in
    let f = ap (λ p. p.free) c.self.view_is in omega (arith, o, g, f)
