use Rattle.std.proofs.Common.{[], refl}
use Rattle.judy_many.proofs.Claims.{changes_speak}
use Rattle.judy_many.proofs.barring.run_unless.Goals as goal

pub returns-then-barred-clause-turn : goal.returns-then-barred-clause-turn
returns-then-barred-clause-turn g c = rw c.if-barred.true record {
  replies = [];
  speaks = changes_speak _ _ _ (c.requires.change c.if-barred.true);
  count = refl;
  run = refl;
  text_is = c.refuse.ensures;
  changed_is = refl;
}
