use Rattle.std.proofs.Common.{ap, ◌∙◌, arith, drop}
use lib.Seq.{paste}
use Rattle.judy_arena.specs.Blocks.{words_of}
use Rattle.judy_arena.proofs.Pools.{Written, copied, in-one, nothing, few, place-fits, paste-none}
use Rattle.judy_arena.proofs.pool.Pool.copy.Goals as goal

pub overflow_add-from : goal.overflow_add-from
overflow_add-from c = let l = c.if-len-gt0.true in let s = c.requires.source in
    let p = place-fits _ _ _ c.self.invariant.0 _ (ap (λ p. p.blocks) c.self.view_is) c.args.from c.args.i (omega (arith, l, s))
    in let f = few _ _ _ c.self.invariant.0 _ (ap (λ p. p.blocks) c.self.view_is) in omega (arith, p, f)

pub overflow_add-to : goal.overflow_add-to
overflow_add-to c = let l = c.if-len-gt0.true in let s = c.requires.target in
    let p = place-fits _ _ _ c.self.invariant.0 _ (ap (λ p. p.blocks) c.self.view_is) c.args.to c.args.at (omega (arith, l, s)) in
    let f = few _ _ _ c.self.invariant.0 _ (ap (λ p. p.blocks) c.self.view_is) in omega (arith, p, f)

pub copy-requires-clause-source : goal.copy-requires-clause-source
copy-requires-clause-source c = in-one _ _ _ c.self.invariant.0 _ (ap (λ p. p.blocks) c.self.view_is) c.args.from c.args.i
    c.args.len c.requires.source_live c.if-len-gt0.true c.requires.source

pub copy-requires-clause-target : goal.copy-requires-clause-target
copy-requires-clause-target c = in-one _ _ _ c.self.invariant.0 _ (ap (λ p. p.blocks) c.self.view_is) c.args.to c.args.at
    c.args.len c.requires.target_live c.if-len-gt0.true c.requires.target

done : (c : goal.After-copy) → Written _ _ _ c.self.invariant.0 c.args.self.now.blocks (ap (λ p. p.blocks) c.self.view_is)
    c.copy.new.self c.args.to (paste (words_of c.args.self.now.blocks c.args.to) c.args.at
    (drop c.args.i (words_of c.args.self.now.blocks c.args.from)) c.args.len)
done c = copied _ _ _ c.self.invariant.0 _ (ap (λ p. p.blocks) c.self.view_is) c.copy.new.self c.args.from c.args.i c.args.to
    c.args.at c.args.len c.copy.ensures c.requires.source_live c.requires.target_live c.requires.source c.requires.target

pub invariant_of-self : goal.invariant_of-self
invariant_of-self c = ((done c).after, c.self.invariant.1)

pub returns-then-len-gt0-clause-blocks : goal.returns-then-len-gt0-clause-blocks
returns-then-len-gt0-clause-blocks c = (done c).blocks

pub returns-else-len-gt0-clause-blocks : goal.returns-else-len-gt0-clause-blocks
returns-else-len-gt0-clause-blocks c = let l = c.if-len-gt0.false in nothing _ _ _ c.self.invariant.0 _
    (ap (λ p. p.blocks) c.self.view_is) c.args.to _ c.requires.target_live
    (paste-none _ c.args.at _ c.args.len (omega (arith, l)))

pub returns-then-len-gt0-clause-free : goal.returns-then-len-gt0-clause-free
returns-then-len-gt0-clause-free c = (done c).free ∙ ap (λ p. p.free) c.self.view_is
