use Rattle.judy_model.proofs.lemmas.CallLemmas.{made_call}
use Rattle.judy_model.proofs.laws.calls_are_of_their_command.Goals as goal

pub returns : goal.returns
returns c = made_call
