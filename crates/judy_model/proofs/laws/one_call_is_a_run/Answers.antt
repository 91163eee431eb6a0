use Rattle.judy_model.proofs.ServiceLaws.{serving_is_stepwise}
use Rattle.judy_model.proofs.laws.one_call_is_a_run.Goals as goal

pub returns : goal.returns
returns c = serving_is_stepwise
