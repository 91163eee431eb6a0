use Rattle.std.proofs.Common.{ap, arith}
use Rattle.judy_arena.specs.Blocks.{total_words}
use Rattle.judy_arena.proofs.BoundLaws.{total-bounded}
use Rattle.judy_arena.proofs.pool.Pool.is_bounded.Goals as goal

pub returns : goal.returns
returns c = let t = total-bounded c.self.inside.marks.items c.self.inside.region in
    let e = ap (λ p. total_words p.blocks) c.self.view_is in let m = c.self.invariant.0.2 in omega (arith, t, e, m)
