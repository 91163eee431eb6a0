use Rattle.std.proofs.Common.{◌≡◌, ap, refl, ◌∙◌, arith, ◌-◌, take}
use Rattle.judy_arena.specs.Blocks.{put, words_of}
use Rattle.judy_arena.specs.Layout.{size_of}
use Rattle.judy_arena.proofs.Classes.{size-half}
use Rattle.judy_arena.proofs.Cutting.{begun, cut-some, cut-more, back, whole-size, now_size}
use Rattle.judy_arena.proofs.Chains.{by_lt}
use Rattle.judy_arena.proofs.pool.Pool.cut.Goals as goal

pub loop-now-init : goal.loop-now-init
loop-now-init c = (
  begun c.args.self.now.blocks c.args.n c.args.from c.requires.size,
  omega arith,
  c.requires.down,
  omega arith,
  λ l. absurd (omega (arith, l)),
  refl,
  refl,
)

pub halve-requires : goal.halve-requires
halve-requires c = let t = c.loop-now-test.true in let i = c.loop-now.invariant.3 in
    let f = c.requires.class in cut-some c.args.self.now.blocks c.loop-now.self.blocks c.args.n c.args.from (c.loop-now.now - 1)
    c.requires.size (omega (arith, t, i)) f (rw (back c.loop-now.now (omega (arith, t))) c.loop-now.invariant.0)

pub loop-now-preserved : goal.loop-now-preserved
loop-now-preserved c =
    let t = c.loop-now-test.true in let i = c.loop-now.invariant.3 in let f = c.requires.class in
    let r = c.loop-now.invariant.1 in let h = c.halve.ensures.ready in (
      cut-more c.args.self.now.blocks c.loop-now.self.blocks _ c.args.n c.args.from (c.loop-now.now - 1) c.requires.size
          (omega (arith, t, i)) f (rw (back c.loop-now.now (omega (arith, t))) c.loop-now.invariant.0) c.halve.ensures.blocks,
      omega (arith, r, h),
      omega (arith, t),
      omega (arith, i),
      λ _. by_lt c.loop-now.now c.args.from
          (λ l. let o = c.loop-now.invariant.4 l in omega (arith, o, h))
          (λ l. let s = whole-size c.args.self.now.blocks c.loop-now.self.blocks c.args.n c.args.from c.loop-now.now
          c.requires.size (omega (arith, l, i)) c.loop-now.invariant.0 in let g = c.halve.ensures.freed in omega (arith, s, g)),
      c.halve.ensures.region ∙ c.loop-now.invariant.5,
      let w = now_size c.args.self.now.blocks c.loop-now.self.blocks c.args.n c.args.from (c.loop-now.now - 1) c.requires.size
          (omega (arith, t, i)) f (rw (back c.loop-now.now (omega (arith, t))) c.loop-now.invariant.0) in
          let g = c.halve.ensures.free in let o = c.loop-now.invariant.6 in
          let s = size-half (c.loop-now.now - 1) (omega (arith, t, i, f)) in let e = ap size_of (back c.loop-now.now (omega (arith, t))) in
          omega (arith, w, g, o, s, e),
    )

pub returns-clause-blocks : goal.returns-clause-blocks
returns-clause-blocks c = let t = c.loop-now-test.false in let d = c.loop-now.invariant.2 in
    c.loop-now.invariant.0 ∙ ap (λ k. put c.args.self.now.blocks c.args.n (take (size_of k) (words_of c.args.self.now.blocks c.args.n))) (omega (arith, t, d))

pub returns-clause-ready : goal.returns-clause-ready
returns-clause-ready c = c.loop-now.invariant.1

pub returns-clause-freed : goal.returns-clause-freed
returns-clause-freed c l = let t = c.loop-now-test.false in c.loop-now.invariant.4 (omega (arith, l, t))

pub returns-clause-region : goal.returns-clause-region
returns-clause-region c = c.loop-now.invariant.5

pub returns-clause-free : goal.returns-clause-free
returns-clause-free c =
    let t = c.loop-now-test.false in let d = c.loop-now.invariant.2 in let e : c.loop-now.now ≡ c.args.class = omega (arith, t, d) in
    let s = ap size_of e in let o = c.loop-now.invariant.6 in omega (arith, s, o)
