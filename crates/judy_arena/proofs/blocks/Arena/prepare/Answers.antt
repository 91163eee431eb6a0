use Rattle.std.proofs.Common.{◌≡◌, ◌≤◌, ◌<◌, ℕ, ap, arith, slice_index, List}
use Rattle.judy_arena.specs.Ready.{greatest}
use Rattle.judy_arena.proofs.ReadyLaws.{ready-some}
use Rattle.judy_arena.proofs.lemmas.RoomLaws.{sizes}
use Rattle.judy_arena.proofs.blocks.Arena.prepare.Goals as goal

-- a run that came is free
ready : (heads : List ℕ) (now region new : ℕ) → region ≡ now → (region < new → 0 < slice_index heads 7) → now < new → 512 ≤ greatest heads
ready heads now region new e some l =
    let z = sizes.7 in let r = ready-some heads 7 (omega arith) (some (omega (arith, e, l))) in omega (arith, r, z)

pub returns-then-done-clause-ready : goal.returns-then-done-clause-ready
returns-then-done-clause-ready c = ready c.prepare-done.new.self.heads c.args.self.now.region c.self.inside.pool.region c.prepare-done.new.self.region
    (ap (λ a. a.region) c.self.view_is) c.prepare-done.ensures.some

pub returns-clause-ready : goal.returns-clause-ready
returns-clause-ready c = ready c.prepare-done.new.self.heads c.args.self.now.region c.self.inside.pool.region c.prepare-done.new.self.region
    (ap (λ a. a.region) c.self.view_is) c.prepare-done.ensures.some

pub returns-then-done-clause-free : goal.returns-then-done-clause-free
returns-then-done-clause-free c =
    let p = c.prepare-done.ensures.free in let f = ap (λ a. a.free) c.self.view_is in let g = ap (λ a. a.region) c.self.view_is in omega (arith, p, f, g)

pub returns-clause-free : goal.returns-clause-free
returns-clause-free c =
    let p = c.prepare-done.ensures.free in let f = ap (λ a. a.free) c.self.view_is in let g = ap (λ a. a.region) c.self.view_is in omega (arith, p, f, g)
