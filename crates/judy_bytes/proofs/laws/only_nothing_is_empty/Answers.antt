use Rattle.judy_bytes.proofs.MapLaws.{only-nothing-is-empty}
use Rattle.judy_bytes.proofs.laws.only_nothing_is_empty.Goals as goal

pub returns : goal.returns
returns c = only-nothing-is-empty
