use Rattle.std.proofs.Common.{arith, ◌∙◌, ap, sym, length, take}
use Rattle.std.proofs.lemmas.List.{length-drop, length-take-le}
use Rattle.judy_many.proofs.Looking.{some_between}
use Rattle.judy_many.proofs.buffers.Input.is_empty.Goals as goal

pub returns-clause-some : goal.returns-clause-some
returns-clause-some c = some_between c.args.self.now.waiting c.self.inside.from c.self.inside.to
    (let e = ap (λ i. length i.waiting) (sym c.self.view_is) ∙ length-drop c.self.inside.from (take c.self.inside.to c.self.inside.bytes) in
    let f = length-take-le c.self.inside.to c.self.inside.bytes c.self.invariant.1 in let k = c.self.invariant.0 in omega (arith, e, f, k))
