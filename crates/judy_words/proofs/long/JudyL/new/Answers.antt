use Rattle.std.proofs.Common.{true, sym, subst, ap, ◌∙◌}
use Rattle.judy_words.specs.LongArrays.{IsLongArray, long_in}
use Rattle.judy_words.proofs.long.JudyL.new.Goals as goal

pub returns-clause-sound : goal.returns-clause-sound
returns-clause-sound c = λ b. subst (IsLongArray b) (sym c.new.ensures) (c.only_nothing_is_empty.ensures true b).0.sound

pub returns-clause-empty : goal.returns-clause-empty
returns-clause-empty c = λ b. ap (long_in b) c.new.ensures ∙ (c.only_nothing_is_empty.ensures true b).0.content
