use Rattle.judy_model.proofs.RefusalLaws.{queries_keep_all}
use Rattle.judy_model.proofs.laws.queries_keep_all.Goals as goal

pub returns : goal.returns
returns c = queries_keep_all
