use Rattle.judy_model.proofs.GrowthLaws.{step_keeps_quota}
use Rattle.judy_model.proofs.laws.calls_keep_the_quota.Goals as goal

pub returns : goal.returns
returns c = step_keeps_quota
