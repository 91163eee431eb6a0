use Rattle.std.proofs.Common.{◌<◌, ◌+◌, ◌-◌, ◌*◌, ap, sym, ◌∙◌, arith, set}
use Rattle.std.proofs.lemmas.Bool.Decides.{nat_tests}
use Rattle.judy_arena.proofs.Chains.{linked-none, linked-some}
use Rattle.judy_arena.proofs.pool.link.Goals as goal

pub returns-then-next-eq0 : goal.returns-then-next-eq0
returns-then-next-eq0 c =
    let t = c.if-next-eq0.true in
    c.set.ensures ∙ sym (linked-none c.args.region.now c.args.n c.args.next (grind (arith, nat_tests, t)))

pub returns : goal.returns
returns c =
    let t = c.if-next-eq0.false in
    let some : 0 < c.args.next = grind (arith, nat_tests, t) in
    c.set-2.ensures ∙ ap (λ v. set v ((c.args.next - 1) * 4 + 1) (c.args.n + 1)) c.set.ensures
    ∙ sym (linked-some c.args.region.now c.args.n c.args.next (c.args.next - 1) (omega (arith, some)))
