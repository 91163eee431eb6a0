use Rattle.std.proofs.Common.{arith, ap, take}
use Rattle.std.proofs.lemmas.List.{length-take}
use Rattle.judy_many.proofs.Living.{keep_text}
use Rattle.judy_many.proofs.buffers.Input.keep.Goals as goal

pub returns-clause-waiting : goal.returns-clause-waiting
returns-clause-waiting c = λ used rest cut few. keep_text (take c.self.inside.to c.self.inside.bytes) c.args.self.now.waiting used rest c.self.inside.from c.self.inside.to
    c.args.left (omega (arith, length-take c.self.inside.to c.self.inside.bytes)) c.self.invariant.0 (ap (λ i. i.waiting) c.self.view_is) cut few
