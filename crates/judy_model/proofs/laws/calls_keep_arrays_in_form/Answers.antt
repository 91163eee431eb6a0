use Rattle.judy_model.proofs.lemmas.FormLemmas.{step_keeps_form}
use Rattle.judy_model.proofs.laws.calls_keep_arrays_in_form.Goals as goal

pub returns : goal.returns
returns c = step_keeps_form
