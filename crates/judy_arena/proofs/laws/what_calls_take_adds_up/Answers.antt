use Rattle.judy_arena.proofs.lemmas.TakeLaws.{takes-add-up}
use Rattle.judy_arena.proofs.laws.what_calls_take_adds_up.Goals as goal

pub returns : goal.returns
returns c = takes-add-up
