use Rattle.judy_model.proofs.ServiceLaws.{serving_is_determined}
use Rattle.judy_model.proofs.laws.served_tenants_are_answered_equally.Goals as goal

pub returns : goal.returns
returns c = serving_is_determined
