use Rattle.judy_kinds.proofs.Kept.{keys-tell-kinds}
use Rattle.judy_kinds.proofs.laws.keys_tell_kinds.Goals as goal

pub returns : goal.returns
returns c = keys-tell-kinds
