use Rattle.std.proofs.Common.{ap, sym, subst, ◌∙◌, arith, length, get_or, ◌<◌}
use Rattle.judy_arena.specs.Blocks.{words_of}
use Rattle.judy_arena.specs.Layout.{blocks_of}
use Rattle.judy_arena.proofs.Pools.{place-fits, few}
use Rattle.judy_arena.proofs.Seen.{get-seen}
use Rattle.judy_arena.proofs.pool.Pool.get.Goals as goal

pub overflow_add-n : goal.overflow_add-n
overflow_add-n c = let p = place-fits _ _ _ c.self.invariant.0 _ (ap (λ p. p.blocks) c.self.view_is) c.args.n c.args.i c.requires
    in let f = few _ _ _ c.self.invariant.0 _ (ap (λ p. p.blocks) c.self.view_is) in omega (arith, p, f)

pub get-requires : goal.get-requires
get-requires c = place-fits _ _ _ c.self.invariant.0 _ (ap (λ p. p.blocks) c.self.view_is) c.args.n c.args.i c.requires

pub returns : goal.returns
returns c =
    let l : c.args.i < length (words_of (blocks_of c.self.inside.marks.items c.self.inside.region) c.args.n) =
    subst (λ p. c.args.i < length (words_of p.blocks c.args.n)) (sym c.self.view_is) c.requires in
    c.get.ensures ∙ get-seen _ _ _ c.self.invariant.0.0 c.args.n c.args.i l ∙ ap (λ p. get_or (words_of p.blocks c.args.n) c.args.i 0) c.self.view_is
