use Rattle.judy_model.proofs.ServiceLaws.{serving_goes_on}
use Rattle.judy_model.proofs.laws.served_runs_go_on.Goals as goal

pub returns : goal.returns
returns c = serving_goes_on
