use Rattle.judy_model.proofs.RefusalLaws.{looks_keep_all}
use Rattle.judy_model.proofs.laws.looks_keep_all.Goals as goal

pub returns : goal.returns
returns c = looks_keep_all
