use Rattle.std.proofs.Common.{◌≡◌, drop}
use Rattle.judy_server.specs.Reloads.{forgotten}
use Rattle.judy_server.proofs.reload.forget_in.Given as goal

abbrev pub invariant-loop-place : goal.invariant-loop-place
invariant-loop-place g l = record {
  counts : forgotten l.place (drop l.place l.fn.service.tenants) l.counts ≡ forgotten 0 l.fn.service.tenants l.fn.counts;
}
