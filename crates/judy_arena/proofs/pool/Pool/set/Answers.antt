use Rattle.std.proofs.Common.{ap, ◌∙◌, sym, subst, arith, length, set, ◌<◌, ◌+◌, ◌*◌}
use Rattle.judy_arena.specs.Blocks.{words_of}
use Rattle.judy_arena.specs.Layout.{blocks_of}
use Rattle.judy_arena.proofs.Pools.{Written, written, place-fits, few}
use Rattle.judy_arena.proofs.Seen.{Wrote, wrote-set}
use Rattle.judy_arena.proofs.pool.Pool.set.Goals as goal

pub overflow_add-n : goal.overflow_add-n
overflow_add-n c = let p = place-fits _ _ _ c.self.invariant.0 _ (ap (λ p. p.blocks) c.self.view_is) c.args.n c.args.i c.requires
    in let f = few _ _ _ c.self.invariant.0 _ (ap (λ p. p.blocks) c.self.view_is) in omega (arith, p, f)

pub set-requires : goal.set-requires
set-requires c = place-fits _ _ _ c.self.invariant.0 _ (ap (λ p. p.blocks) c.self.view_is) c.args.n c.args.i c.requires

done : (c : goal.After-set) → Written _ _ _ c.self.invariant.0 c.args.self.now.blocks (ap (λ p. p.blocks) c.self.view_is)
    c.set.new.self c.args.n (set (words_of c.args.self.now.blocks c.args.n) c.args.i c.args.word)
done c =
    let l : c.args.i < length (words_of (blocks_of c.self.inside.marks.items c.self.inside.region) c.args.n) =
    subst (λ p. c.args.i < length (words_of p.blocks c.args.n)) (sym c.self.view_is) c.requires in
    rw c.set.ensures (written _ _ _ c.self.invariant.0 _ (ap (λ p. p.blocks) c.self.view_is) _ c.args.n _
    (subst (λ p. Wrote _ _ _ c.self.invariant.0.0 (set c.self.inside.region (c.args.n * 4 + c.args.i) c.args.word) c.args.n
    (set (words_of p.blocks c.args.n) c.args.i c.args.word)) c.self.view_is
    (wrote-set _ _ _ c.self.invariant.0.0 c.args.n c.args.i c.args.word l)))

pub invariant_of-self : goal.invariant_of-self
invariant_of-self c = ((done c).after, c.self.invariant.1)

pub returns-clause-blocks : goal.returns-clause-blocks
returns-clause-blocks c = (done c).blocks

pub returns-clause-free : goal.returns-clause-free
returns-clause-free c = (done c).free ∙ ap (λ p. p.free) c.self.view_is
