use Rattle.std.proofs.Common.{◌≡◌, ap, ◌∙◌, arith, length, ◌<◌, ℕ, List, Bool, true, false, nat_eq}
use Rattle.std.proofs.lemmas.Bool.Decides.{nat_tests}
use lib.Seq.{paste}
use Rattle.judy_arena.specs.Blocks.{words_of}
use Rattle.judy_arena.proofs.Pools.{Written, pasted, in-one, nothing, few, place-fits, paste-none}
use Rattle.judy_arena.proofs.pool.Pool.write.Goals as goal

-- there is a word to write
some : (v : List ℕ) (b : Bool) → b ≡ nat_eq (length v) 0 → b ≡ false → 0 < length v
some v b e f = grind (arith, nat_tests, e, f)

none : (v : List ℕ) (b : Bool) → b ≡ nat_eq (length v) 0 → b ≡ true → length v ≡ 0
none v b e f = grind (arith, nat_tests, e, f)

pub overflow_add-n : goal.overflow_add-n
overflow_add-n c =
    let l = some c.args.source.now c.is_empty.result c.is_empty.ensures c.if-not-is_empty.true in let t = c.requires.target in
    let p = place-fits _ _ _ c.self.invariant.0 _ (ap (λ p. p.blocks) c.self.view_is) c.args.n c.args.at (omega (arith, l, t)) in
    let f = few _ _ _ c.self.invariant.0 _ (ap (λ p. p.blocks) c.self.view_is) in omega (arith, p, f)

pub write-requires : goal.write-requires
write-requires c = in-one _ _ _ c.self.invariant.0 _ (ap (λ p. p.blocks) c.self.view_is) c.args.n c.args.at
    (length c.args.source.now) c.requires.live (some c.args.source.now c.is_empty.result c.is_empty.ensures
    c.if-not-is_empty.true) c.requires.target

done : (c : goal.After-write) → Written _ _ _ c.self.invariant.0 c.args.self.now.blocks (ap (λ p. p.blocks) c.self.view_is)
    c.write.new.self c.args.n (paste (words_of c.args.self.now.blocks c.args.n) c.args.at c.args.source.now
    (length c.args.source.now))
done c = pasted _ _ _ c.self.invariant.0 _ (ap (λ p. p.blocks) c.self.view_is) c.write.new.self c.args.n c.args.at
    (length c.args.source.now) c.args.source.now c.write.ensures c.requires.live c.requires.target (omega arith)

pub invariant_of-self : goal.invariant_of-self
invariant_of-self c = ((done c).after, c.self.invariant.1)

pub returns-then-not-is_empty-clause-blocks : goal.returns-then-not-is_empty-clause-blocks
returns-then-not-is_empty-clause-blocks c = (done c).blocks

pub returns-else-not-is_empty-clause-blocks : goal.returns-else-not-is_empty-clause-blocks
returns-else-not-is_empty-clause-blocks c = nothing _ _ _ c.self.invariant.0 _ (ap (λ p. p.blocks) c.self.view_is) c.args.n _
    c.requires.live (paste-none _ c.args.at _ (length c.args.source.now)
    (none c.args.source.now c.is_empty.result c.is_empty.ensures c.if-not-is_empty.false))

pub returns-then-not-is_empty-clause-free : goal.returns-then-not-is_empty-clause-free
returns-then-not-is_empty-clause-free c = (done c).free ∙ ap (λ p. p.free) c.self.view_is
