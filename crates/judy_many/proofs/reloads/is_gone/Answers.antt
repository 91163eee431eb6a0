use Rattle.std.proofs.Common.{ap}
use Rattle.std.specs.Prelude.{option_map}
use Rattle.judy_many.proofs.reloads.is_gone.Goals as goal

pub returns-in-Some-clause-gone : goal.returns-in-Some-clause-gone
returns-in-Some-clause-gone g c = λ e. (g.S.Served.who c.in-Some.speaker, ap (option_map g.S.Served.who) c.in-Some.is)
