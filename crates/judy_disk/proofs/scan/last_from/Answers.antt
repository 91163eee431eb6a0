use Rattle.std.proofs.Common.{rules, sym, subst}
use Rattle.std.specs.Prelude.{List, ℕ, take}
use Rattle.std.proofs.lemmas.List.{take_more}
use Rattle.judy_disk.specs.Scans.{IsRun}
use Rattle.judy_disk.proofs.Runs.{run_more}
use Rattle.judy_disk.proofs.scan.last_from.Goals as goal

pub loop-number-preserved : goal.loop-number-preserved
loop-number-preserved c = subst (λ (xs : List ℕ). IsRun xs c.args.first c.in-Ok.after)
    (sym (take_more c.args.segments.now c.loop-number.number-index 0 (search rules)))
    (run_more (take c.loop-number.number-index c.args.segments.now) c.args.first c.loop-number.last _ c.in-Ok.after c.loop-number.invariant c.in-Ok.ensures.next)
