use Rattle.std.proofs.Common.{◌≤◌, ◌+◌, ◌*◌, ap, subst, arith, length}
use Rattle.judy_arena.specs.Blocks.{total_words}
use Rattle.judy_arena.specs.Ready.{greatest}
use Rattle.judy_arena.specs.Layout.{span}
use Rattle.judy_arena.proofs.Areas.{fills}
use Rattle.judy_arena.proofs.pool.Pool.is_filled.Goals as goal

pub returns : goal.returns
returns c k l none =
    let h = ap (λ p. greatest p.heads) c.self.view_is in
    let f = fills _ _ _ c.self.invariant.0.0 k l (omega (arith, h, none)) c.self.invariant.0.3 in
    let g = subst (λ t. length c.self.inside.marks.items * 4 ≤ span (k + 1) * t) (ap (λ p. total_words p.blocks) c.self.view_is) f in
    let r = ap (λ p. p.region) c.self.view_is in omega (arith, g, r)
