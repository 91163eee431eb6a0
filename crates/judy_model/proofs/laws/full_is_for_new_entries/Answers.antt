use Rattle.judy_model.proofs.RefusalLaws.{full_is_for_new}
use Rattle.judy_model.proofs.laws.full_is_for_new_entries.Goals as goal

pub returns : goal.returns
returns c = full_is_for_new
