use Rattle.std.proofs.Common.{inl, inr}
use Rattle.judy_many.proofs.client.is_ready.Goals as goal

pub returns-then-client-clause-why : goal.returns-then-client-clause-why
returns-then-client-clause-why g c = λ e. inr c.if-client.true

pub returns-clause-why : goal.returns-clause-why
returns-clause-why g c = λ e. inl (c.is_empty.ensures.some e)
