use Rattle.std.proofs.Common.{◌≡◌, ap, sym, ◌∙◌, arith, length, ◌++◌, ◌+◌, [], ◌∷◌, List, ℕ, refl, append-nil, append_assoc}
use Rattle.std.proofs.lemmas.List.{length-append, replicate-append-replicate}
use Rattle.judy_region.specs.Flat.{zeros}
use Rattle.judy_region.proofs.lemmas.Flat.{length-zeros}
use Rattle.judy_region.proofs.chunk.filled.Goals as goal

-- no zeros, and one more
none : (ws : List ℕ) → ws ≡ ws ++ zeros 0
unfolding zeros
none ws = sym (append-nil ws)

more : (ws : List ℕ) (n : ℕ) → (ws ++ zeros n) ++ 0 ∷ [] ≡ ws ++ zeros (n + 1)
unfolding zeros
more ws n = append_assoc ws (zeros n) (0 ∷ []) ∙ ap (λ v. ws ++ v) (replicate-append-replicate n 1 0)

pub loop-count-init : goal.loop-count-init
loop-count-init c = (refl, none c.args.memory.words)

pub push-requires : goal.push-requires
push-requires c =
    let e = ap length c.loop-count.invariant.1 in let a = length-append c.args.memory.words (zeros c.loop-count._count) in
    let z = length-zeros c.loop-count._count in
    let r = c.requires in let l = c.loop-count-test.true in omega (arith, e, a, z, r, l)

pub loop-count-preserved : goal.loop-count-preserved
loop-count-preserved c = (
  c.push.ensures.0 ∙ c.loop-count.invariant.0,
  c.push.ensures.1 ∙ ap (λ v. v ++ 0 ∷ []) c.loop-count.invariant.1 ∙ more c.args.memory.words c.loop-count._count,
)
