use Rattle.judy_model.proofs.RefusalLaws.{step_has_memory}
use Rattle.judy_model.proofs.laws.a_tenant_alone_has_memory.Goals as goal

pub returns : goal.returns
returns c = step_has_memory
