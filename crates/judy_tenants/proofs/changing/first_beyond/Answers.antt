use Rattle.std.proofs.Common.{arith}
use Rattle.judy_tenants.proofs.Carried.{within-more, within-all}
use Rattle.judy_tenants.proofs.changing.first_beyond.Goals as goal

pub loop-place-preserved : goal.loop-place-preserved
loop-place-preserved c = record {
  done = within-more c.args.table.now c.args.later.now c.args.accounts.now c.loop-place.place c.loop-place.invariant.done
      (c.is_beyond.ensures.within c.if-is_beyond.false);
}

pub returns-clause-none : goal.returns-clause-none
returns-clause-none c =
    within-all c.args.table.now c.args.later.now c.args.accounts.now c.loop-place.place (omega arith) c.loop-place.invariant.done
