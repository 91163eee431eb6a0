use Rattle.std.proofs.Common.{ap, arith, inr, sym, subst, refl, ◌∙◌, ◌<◌, Bool, true, false, ◌≡◌}
use Rattle.judy_arena.specs.Blocks.{AreSized, total_words}
use Rattle.judy_arena.proofs.Chains.{by_lt}
use Rattle.judy_arena.specs.Ready.{greatest}
use Rattle.judy_arena.proofs.Areas.{filled-last}
use Rattle.judy_arena.proofs.blocks.Arena.reserve.Goals as goal
use Rattle.judy_arena.proofs.ReadyLaws.{ready-some, first-tells}
use Rattle.judy_arena.proofs.lemmas.RoomLaws.{sizes}

-- a test is not both
not_both : (b : Bool) → b ≡ false → b ≡ true → ⊥
not_both b e f = cc

pub returns-then-is_some-clause-ready : goal.returns-then-is_some-clause-ready
returns-then-is_some-clause-ready c =
    let t = first-tells c.self.inside.pool.heads c.first.result 7 512 c.args.self.now.ready c.is_some.result (omega arith)
    (sym sizes.7) (ap (λ s. s.ready) c.self.view_is) c.is_some.ensures c.first.ensures.some c.first.ensures.none in
    t.0 c.if-is_some.true

pub returns-then-is_some-clause-growth : goal.returns-then-is_some-clause-growth
returns-then-is_some-clause-growth c l =
    let t = first-tells c.self.inside.pool.heads c.first.result 7 512 c.args.self.now.ready c.is_some.result (omega arith)
    (sym sizes.7) (ap (λ s. s.ready) c.self.view_is) c.is_some.ensures c.first.ensures.some c.first.ensures.none in
    let r = t.0 c.if-is_some.true in absurd (omega (arith, l, r))

pub returns-then-grow-clause-ready : goal.returns-then-grow-clause-ready
returns-then-grow-clause-ready c = let z = sizes.7 in
    let r = ready-some c.grow.new.self.heads 7 (omega arith) (c.grow.ensures.some c.if-grow.true) in omega (arith, r, z)

pub returns-then-grow-clause-reuse : goal.returns-then-grow-clause-reuse
returns-then-grow-clause-reuse c l =
    let t = first-tells c.self.inside.pool.heads c.first.result 7 512 c.args.self.now.ready c.is_some.result (omega arith)
    (sym sizes.7) (ap (λ s. s.ready) c.self.view_is) c.is_some.ensures c.first.ensures.some c.first.ensures.none in
    absurd (not_both c.is_some.result c.if-is_some.false (t.1 l))

pub returns-clause-reuse : goal.returns-clause-reuse
returns-clause-reuse c l =
    let t = first-tells c.self.inside.pool.heads c.first.result 7 512 c.args.self.now.ready c.is_some.result (omega arith)
    (sym sizes.7) (ap (λ s. s.ready) c.self.view_is) c.is_some.ensures c.first.ensures.some c.first.ensures.none in
    absurd (not_both c.is_some.result c.if-is_some.false (t.1 l))

pub invariant_of-self : goal.invariant_of-self
invariant_of-self c =
    let b = c.grow.ensures.blocks in let r = c.grow.ensures.region c.if-grow.true in
    let t = ap total_words b in let m = c.self.invariant.2 in
    let h = first-tells c.self.inside.pool.heads c.first.result 7 512 (greatest c.self.inside.pool.heads) c.is_some.result (omega arith)
    (sym sizes.7) refl c.is_some.ensures c.first.ensures.some c.first.ensures.none in
    let none : greatest c.self.inside.pool.heads < 512 = by_lt (greatest c.self.inside.pool.heads) 512 (λ l. l)
    (λ o. absurd (not_both c.is_some.result c.if-is_some.false (h.1 o))) in
    let f = filled-last c.self.inside.pool.region (total_words c.self.inside.pool.blocks) (greatest c.self.inside.pool.heads) c.is_filled.ensures none in (
      subst AreSized (sym b) c.self.invariant.0,
      c.self.invariant.1 ∙ sym t,
      omega (arith, t, m),
      omega (arith, f, r, m),
    )

-- a run is refused only while no run is free: every run has a live block
pub returns-clause-memory : goal.returns-clause-memory
returns-clause-memory c =
    let h = first-tells c.self.inside.pool.heads c.first.result 7 512 (greatest c.self.inside.pool.heads) c.is_some.result (omega arith)
    (sym sizes.7) refl c.is_some.ensures c.first.ensures.some c.first.ensures.none in
    let none : greatest c.self.inside.pool.heads < 512 = by_lt (greatest c.self.inside.pool.heads) 512 (λ l. l)
    (λ o. absurd (not_both c.is_some.result c.if-is_some.false (h.1 o))) in
    let f = filled-last c.self.inside.pool.region (total_words c.self.inside.pool.blocks) (greatest c.self.inside.pool.heads) c.is_filled.ensures none in
    let o = c.self.invariant.2 in let g = c.grow.ensures.refused c.if-grow.false in
    let l = ap (λ a. a.live) c.self.view_is in let p = ap (λ a. a.peak) c.self.view_is in let r = ap (λ a. a.region) c.self.view_is in record {
      words = omega (arith, l);
      peak = omega (arith, p);
      rises = omega (arith, p);
      region = omega (arith, g, r);
      kept = omega (arith, g, r);
      reserved = ap (λ a. a.reserved) c.self.view_is;
      refused = inr (omega (arith, f, o, p, r));
    }

pub returns-then-is_some-clause-free : goal.returns-then-is_some-clause-free
returns-then-is_some-clause-free c =
    let f = ap (λ a. a.free) c.self.view_is in let r = ap (λ a. a.region) c.self.view_is in omega (arith, f, r)

pub returns-then-grow-clause-free : goal.returns-then-grow-clause-free
returns-then-grow-clause-free c =
    let g = c.grow.ensures.free c.if-grow.true in let m = c.grow.ensures.region c.if-grow.true in
    let f = ap (λ a. a.free) c.self.view_is in let r = ap (λ a. a.region) c.self.view_is in omega (arith, g, m, f, r)

pub returns-clause-free : goal.returns-clause-free
returns-clause-free c =
    let g = c.grow.ensures.none_free c.if-grow.false in let m = c.grow.ensures.refused c.if-grow.false in
    let f = ap (λ a. a.free) c.self.view_is in let r = ap (λ a. a.region) c.self.view_is in omega (arith, g, m, f, r)
