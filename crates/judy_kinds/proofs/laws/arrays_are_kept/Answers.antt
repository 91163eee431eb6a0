use Rattle.judy_kinds.proofs.Kept.{arrays-are-kept}
use Rattle.judy_kinds.proofs.laws.arrays_are_kept.Goals as goal

pub returns : goal.returns
returns c =
    arrays-are-kept c.only_nothing_is_empty.ensures c.only_nothing_is_empty-2.ensures c.only_nothing_is_empty-3.ensures
    c.others_stay.ensures c.others_stay-2.ensures c.others_stay-3.ensures
