use Rattle.std.proofs.Common.{arith, ◌∙◌, ap, sym, length}
use Rattle.std.proofs.lemmas.List.{length-drop}
use Rattle.judy_many.proofs.Looking.{some_beyond}
use Rattle.judy_many.proofs.buffers.Answers.is_empty.Goals as goal

pub returns-clause-some : goal.returns-clause-some
returns-clause-some c = some_beyond c.args.self.now c.self.inside.written c.len.result
    (let e = ap length (sym c.self.view_is) ∙ length-drop c.self.inside.written c.self.inside.bytes.items in let f = c.self.invariant in let k = c.len.ensures.value in omega (arith, e, f, k))
