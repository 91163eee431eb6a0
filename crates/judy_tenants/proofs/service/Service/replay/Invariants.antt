-- the calls so far were answered, each tenant's as if it were alone
use Rattle.std.proofs.Common.{◌≡◌, length, take, map}
use Rattle.std.specs.Prelude.{zip}
use Rattle.judy_model.specs.Service.{AreServed}
use Rattle.judy_tenants.specs.Held.{states_of, quotas_of}
use Rattle.judy_tenants.specs.Runs.{told_event, AreCallsOf}
use Rattle.judy_tenants.proofs.service.Service.replay.Given as goal

abbrev pub invariant-loop-i : goal.invariant-loop-i
invariant-loop-i g l = record {
  long : length l.events ≡ length l.replies;
  tenants : l.self.tenants ≡ l.fn.self.tenants;
  served : AreServed (quotas_of l.fn.self.tenants) (states_of l.fn.self) (map told_event (take l.i l.events)) (take l.i l.replies) (states_of l.self);
  causes : AreCallsOf l.fn.self (zip (map told_event (take l.i l.events)) (take l.i l.replies)) l.self;
}
