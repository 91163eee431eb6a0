use Rattle.std.proofs.Common.{arith, ap}
use Rattle.judy_arena.specs.Layout.{size_of}
use Rattle.judy_arena.proofs.Chains.{by_lt, by_eq}
use Rattle.judy_arena.proofs.ReadyLaws.{ready-some, ready-none, greatest-class}
use Rattle.judy_arena.proofs.lemmas.RoomLaws.{sizes}
use Rattle.judy_arena.proofs.Cutting.{size-le}
use Rattle.judy_arena.proofs.pool.Pool.allot.Goals as goal

pub returns-in-Some-clause-growth : goal.returns-in-Some-clause-growth
returns-in-Some-clause-growth c l =
    let f = c.in-Some.ensures.some in let r = ready-some c.args.self.now.heads c.in-Some.from f.1 f.2 in
    let s = size-le c.args.class c.in-Some.from f.0 f.1 in absurd (omega (arith, l, r, s))

pub returns-then-grow-clause-reuse : goal.returns-then-grow-clause-reuse
returns-then-grow-clause-reuse c l = let n = ready-none c.args.self.now.heads c.args.class c.requires c.in_default.ensures.none in absurd (omega (arith, l, n))

pub returns-in-Some-clause-rest : goal.returns-in-Some-clause-rest
returns-in-Some-clause-rest c l =
    let f = c.in-Some.ensures.some in
    let g = greatest-class c.args.self.now.heads c.first.ensures.classes (omega (arith, l)) in
    let is = g.1.1.1 in
    by_eq g.0 c.in-Some.from
    (λ e. let s = ap size_of e in
    by_lt c.args.class c.in-Some.from
    (λ below. let r = c.carve.ensures.rest below in omega (arith, is, s, r))
    (λ not_below. let m = size-le c.in-Some.from c.args.class not_below c.requires in absurd (omega (arith, l, is, s, m))))
    (λ d. let r = c.carve.ensures.others g.0 d g.1.0 g.1.1.0 in omega (arith, is, r))

pub returns-in-Some-clause-run : goal.returns-in-Some-clause-run
returns-in-Some-clause-run c l k =
    let f = c.in-Some.ensures.some in let r = ready-some c.args.self.now.heads c.in-Some.from f.1 f.2 in
    let s = size-le c.args.class c.in-Some.from f.0 f.1 in absurd (omega (arith, l, r, s))

pub returns-then-grow-clause-rest : goal.returns-then-grow-clause-rest
returns-then-grow-clause-rest c l = let n = ready-none c.args.self.now.heads c.args.class c.requires c.in_default.ensures.none in absurd (omega (arith, l, n))

pub returns-then-grow-clause-run : goal.returns-then-grow-clause-run
returns-then-grow-clause-run c l k =
    let z = sizes.7 in
    by_lt c.args.class 7
    (λ below. let r = c.carve-then-grow.ensures.rest below in omega (arith, z, r))
    (λ not_below. let m = size-le 7 c.args.class not_below c.requires in absurd (omega (arith, k, z, m)))

pub returns-in-Some-clause-free : goal.returns-in-Some-clause-free
returns-in-Some-clause-free c = let f = c.carve.ensures.free in let r = c.carve.ensures.region in omega (arith, f, r)

pub returns-then-grow-clause-free : goal.returns-then-grow-clause-free
returns-then-grow-clause-free c =
    let g = c.grow.ensures.free c.if-grow.true in let m = c.grow.ensures.region c.if-grow.true in
    let f = c.carve-then-grow.ensures.free in let r = c.carve-then-grow.ensures.region in omega (arith, g, m, f, r)
