use Rattle.std.proofs.Common.{rules, ap, ◌∙◌, arith, ◌*◌, length}
use Rattle.judy_arena.specs.Blocks.{without, words_of, total_words}
use Rattle.judy_arena.specs.Ready.{greatest}
use Rattle.judy_arena.specs.Layout.{span, blocks_of}
use Rattle.judy_arena.proofs.SizeLaws.{total-without}
use Rattle.judy_arena.proofs.Whole.{whole}
use Rattle.judy_arena.proofs.Pools.{at, class, size}
use Rattle.judy_arena.proofs.pool.Pool.release.Goals as goal

pub index-requires : goal.index-requires
index-requires c = let m = (at _ _ _ c.self.invariant.0 _ (ap (λ p. p.blocks) c.self.view_is) c.args.n c.requires).marked in search rules

pub overflow_sub-class : goal.overflow_sub-class
overflow_sub-class c = (class _ _ _ c.self.invariant.0 _ (ap (λ p. p.blocks) c.self.view_is) c.args.n c.index.result.now c.index.ensures c.requires).positive

pub give_back-requires-clause-class : goal.give_back-requires-clause-class
give_back-requires-clause-class c = (class _ _ _ c.self.invariant.0 _ (ap (λ p. p.blocks) c.self.view_is) c.args.n c.index.result.now
    c.index.ensures c.requires).class

pub give_back-requires-clause-live : goal.give_back-requires-clause-live
give_back-requires-clause-live c = (class _ _ _ c.self.invariant.0 _ (ap (λ p. p.blocks) c.self.view_is) c.args.n c.index.result.now
    c.index.ensures c.requires).is

pub give_back-requires-clause-sound : goal.give_back-requires-clause-sound
give_back-requires-clause-sound c = c.self.invariant.0

pub invariant_of-self : goal.invariant_of-self
invariant_of-self c = (
  c.give_back.ensures.sound,
  rw (c.give_back.ensures.len, c.give_back.ensures.capacity) c.self.invariant.1,
)

pub returns-clause-blocks : goal.returns-clause-blocks
returns-clause-blocks c = c.give_back.ensures.blocks ∙ ap (λ p. without p.blocks c.args.n) c.self.view_is

pub returns-clause-ready : goal.returns-clause-ready
returns-clause-ready c =
    let r = c.give_back.ensures.ready in let v = ap (λ p. greatest p.heads) c.self.view_is in omega (arith, r, v)

pub returns-clause-freed : goal.returns-clause-freed
returns-clause-freed c =
    let f = class _ _ _ c.self.invariant.0 _ (ap (λ p. p.blocks) c.self.view_is) c.args.n c.index.result.now c.index.ensures c.requires in
    let s = size _ _ _ c.self.invariant.0 _ (ap (λ p. p.blocks) c.self.view_is) c.args.n c.requires in
    let e = ap (λ m. span m * 4) f.is in let r = c.give_back.ensures.freed in omega (arith, s, e, r)

pub returns-clause-region : goal.returns-clause-region
returns-clause-region c = ap (λ n. n * 4) c.give_back.ensures.len ∙ ap (λ p. p.region) c.self.view_is

pub returns-clause-free : goal.returns-clause-free
returns-clause-free c =
    let old = whole _ _ _ c.self.invariant.0 in let new = whole _ _ _ c.give_back.ensures.sound in
    let t = ap total_words c.give_back.ensures.blocks in
    let r = total-without (blocks_of c.self.inside.marks.items c.self.inside.region) c.args.n in
    let l = c.give_back.ensures.len in let f = ap (λ p. p.free) c.self.view_is in
    let s = ap (λ p. length (words_of p.blocks c.args.n)) c.self.view_is in omega (arith, old, new, t, r, l, f, s)
