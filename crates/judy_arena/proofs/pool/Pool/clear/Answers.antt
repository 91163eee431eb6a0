use Rattle.std.proofs.Common.{ap, ◌∙◌, subst, arith}
use Rattle.judy_arena.specs.Blocks.{zeros}
use Rattle.judy_arena.specs.Layout.{size_of}
use Rattle.judy_arena.proofs.Pools.{Written, cleared, in-whole}
use Rattle.judy_arena.proofs.Classes.{size-pos}
use Rattle.judy_arena.proofs.pool.Pool.clear.Goals as goal

pub wipe-requires : goal.wipe-requires
wipe-requires c =
    let s = c.requires.size in let m = size-pos c.args.class in let e = c.size_of_class.ensures in
    in-whole _ _ _ c.self.invariant.0 _ (ap (λ p. p.blocks) c.self.view_is) c.args.n c.size_of_class.result (omega (arith, s, m)) (omega (arith, e, s))

done : (c : goal.After-wipe) → Written _ _ _ c.self.invariant.0 c.args.self.now.blocks (ap (λ p. p.blocks) c.self.view_is)
    c.wipe.new.region c.args.n (zeros (size_of c.args.class))
done c =
    let s = c.requires.size in let m = size-pos c.args.class in let e = c.size_of_class.ensures in
    subst (λ k. Written _ _ _ c.self.invariant.0 c.args.self.now.blocks (ap (λ p. p.blocks) c.self.view_is) c.wipe.new.region c.args.n (zeros k)) e
    (cleared _ _ _ c.self.invariant.0 _ (ap (λ p. p.blocks) c.self.view_is) c.wipe.new.region c.args.n c.size_of_class.result
    c.wipe.ensures (omega (arith, s, m)) (omega (arith, e, s)))

pub invariant_of-self : goal.invariant_of-self
invariant_of-self c = ((done c).after, c.self.invariant.1)

pub returns-clause-blocks : goal.returns-clause-blocks
returns-clause-blocks c = (done c).blocks

pub returns-clause-free : goal.returns-clause-free
returns-clause-free c = (done c).free ∙ ap (λ p. p.free) c.self.view_is
