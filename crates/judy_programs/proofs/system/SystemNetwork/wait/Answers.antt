use Rattle.std.proofs.Common.{◌≡◌, false, true, []}
use Rattle.judy_programs.proofs.system.SystemNetwork.wait.Goals as goal
use Rattle.judy_programs.proofs.system.SystemNetwork.wait.Goals.{then-not-self, else-not-self}

pub returns-in_default-clause-log : goal.returns-in_default-clause-log
returns-in_default-clause-log g c = (
  [],
  (λ i among. let f : false ≡ true = among in cc),
  elim c.if-not-self.branch [
    | then-not-self w ↦ let lost = c.waited.ensures in let told = w.tell_start.ensures in let same = w.self-is in cc
    | else-not-self w ↦ let lost = c.waited.ensures in let same = w.self-is in cc
  ],
)
