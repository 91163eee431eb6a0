use Rattle.judy_model.proofs.ServiceLaws.{idle_tenants_rest}
use Rattle.judy_model.proofs.laws.idle_tenants_rest.Goals as goal

pub returns : goal.returns
returns c = idle_tenants_rest
