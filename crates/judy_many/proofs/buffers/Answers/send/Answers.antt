use Rattle.std.proofs.Common.{[], ◌∷◌, arith, refl, ◌∙◌, ap, take, drop}
use Rattle.std.proofs.lemmas.Bool.{eq-eqb}
use Rattle.judy_many.specs.Nets.Act.{Wrote}
use Rattle.judy_many.proofs.Living.{took_text}
use Rattle.judy_many.proofs.buffers.Answers.send.Goals as goal

pub returns-in-Took-clause-acts : goal.returns-in-Took-clause-acts
returns-in-Took-clause-acts g c = (
  Wrote (g.N.Network.number c.args.connection.now) (take c.in-Took.n c.split_at.result.1.now) ∷ [],
  c.in-Took.ensures.log,
  (eq-eqb (g.N.Network.number c.args.connection.now) (g.N.Network.number c.args.connection.now) refl, tt),
  omega arith,
  took_text c.self.inside.bytes.items c.split_at.result.1.now c.args.self.now c.self.inside.written c.in-Took.n
      (c.split_at.ensures.back ∙ ap (drop c.self.inside.written) c.as_slice.ensures.value) c.self.view_is,
  refl,
  (refl, refl),
  λ some. omega arith,
)
