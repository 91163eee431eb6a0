use Rattle.judy_disk.proofs.Zeros.{before_zeros_none, before_zeros_some}
use Rattle.judy_disk.proofs.rewriting.len_before_zeros.Goals as goal

pub returns-in-Some-clause-value : goal.returns-in-Some-clause-value
returns-in-Some-clause-value c = before_zeros_some c.args.bytes.now c.in-Some.at c.in-Some.ensures.0.high c.in-Some.ensures.1 c.in-Some.ensures.0.after

pub returns-in-None-clause-value : goal.returns-in-None-clause-value
returns-in-None-clause-value c = before_zeros_none c.args.bytes.now c.in-None.ensures
