use Rattle.judyd.proofs.Obeyed.{finished}
use Rattle.judyd.proofs.do_job.Goals as goal

pub returns-clause-ended : goal.returns-clause-ended
returns-clause-ended c = finished _ c.args.job.now _ _ _ _ _ _ c.do_job_on.ensures

pub returns-clause-done : goal.returns-clause-done
returns-clause-done c = (_, _, c.do_job_on.ensures)

pub returns-clause-promises : goal.returns-clause-promises
returns-clause-promises c = (_, _, c.every_run_keeps_promises.ensures _ _ _ _ _ _ _ c.do_job_on.ensures)
