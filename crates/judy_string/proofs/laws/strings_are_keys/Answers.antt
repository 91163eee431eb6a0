use Rattle.judy_string.proofs.WellFormed.{strings-are-keys}
use Rattle.judy_string.proofs.laws.strings_are_keys.Goals as goal

pub returns : goal.returns
returns c = strings-are-keys
