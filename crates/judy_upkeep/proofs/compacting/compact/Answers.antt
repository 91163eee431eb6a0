use Rattle.std.proofs.Common.{List, Some, inr, subst, sym}
use Rattle.std.specs.Prelude.{is_some}
use Rattle.judy_upkeep.specs.Compacting.{FailsToFinish}
use Rattle.judy_upkeep.specs.Steps.{Act}
use Rattle.judy_upkeep.proofs.Finishing.{compacted_err}
use Rattle.judy_upkeep.proofs.compacting.compact.Goals as goal

pub returns : goal.returns
returns g c =
    inr (compacted_err (is_some c.in-Ok.ready.file) c.in-Ok.ready.upto c.in-Ok.ready.found.last c.args.directory.now.log.acts
    c.prepare.new.directory.log.acts c.discard.new.self.log.acts c.in-Ok.ensures.looked c.in-Ok.ensures.upto
    (subst (λ (v : List Act). FailsToFinish c.in-Ok.ready.upto (Some c.prepare.new.directory.log.acts) (Some v)) (sym c.discard.ensures)
    c.in-Err-finish.ensures))
