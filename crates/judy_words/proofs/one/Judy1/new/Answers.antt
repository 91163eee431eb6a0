use Rattle.std.proofs.Common.{false, sym, subst, ap, ◌∙◌}
use Rattle.judy_words.specs.OneArrays.{IsOneArray, one_in}
use Rattle.judy_words.proofs.one.Judy1.new.Goals as goal

pub returns-clause-sound : goal.returns-clause-sound
returns-clause-sound c = λ b. subst (IsOneArray b) (sym c.new.ensures) (c.only_nothing_is_empty.ensures false b).0.sound

pub returns-clause-empty : goal.returns-clause-empty
returns-clause-empty c = λ b. ap (one_in b) c.new.ensures ∙ (c.only_nothing_is_empty.ensures false b).0.content
