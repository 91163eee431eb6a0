use Rattle.std.proofs.Common.{◌≡◌, [], sym, ◌∙◌, ap, arith, drop, get_or}
use Rattle.std.specs.Prelude.{find, nat_le}
use Rattle.judy_reference.proofs.QueryLemmas.{first-words, find-here, none_left, le-test}
use Rattle.judy_reference.proofs.slow.first_entry.Goals as goal

pub returns-then-x-e : goal.returns-then-x-e
returns-then-x-e c =
    let passes = le-test c.args.x (get_or c.args.entries.now c.loop-e.e-index (0, 0)).0 c.if-x-e.true in
    sym (find-here (λ e. nat_le c.args.x e.0) c.args.entries.now c.loop-e.e-index (0, 0) c.loop-e-test.true passes)
    ∙ c.loop-e.invariant ∙ sym (first-words c.args.entries.now c.args.x)

pub returns : goal.returns
returns c =
    let rest : drop c.loop-e.e-index c.args.entries.now ≡ [] = none_left c.args.entries.now c.loop-e.e-index (omega arith) in
    ap (find (λ e. nat_le c.args.x e.0)) (sym rest) ∙ c.loop-e.invariant ∙ sym (first-words c.args.entries.now c.args.x)
