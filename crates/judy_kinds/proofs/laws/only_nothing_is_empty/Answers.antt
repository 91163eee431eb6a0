use Rattle.judy_kinds.proofs.Kept.{only-nothing-is-empty}
use Rattle.judy_kinds.proofs.laws.only_nothing_is_empty.Goals as goal

pub returns : goal.returns
returns c = only-nothing-is-empty c.only_nothing_is_empty.ensures c.only_nothing_is_empty-2.ensures c.only_nothing_is_empty-3.ensures
