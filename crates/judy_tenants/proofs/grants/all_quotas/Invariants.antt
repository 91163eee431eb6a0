-- the pieces so far are those of the quotas of the tenants so far
use Rattle.std.proofs.Common.{◌≡◌, ◌≤◌, ◌*◌}
use Rattle.judy_model.specs.declared.quotas.TheConstants.{PIECES_LIMIT}
use Rattle.judy_tenants.specs.Held.{all_quotas, quotas_of}
use Rattle.judy_tenants.proofs.grants.all_quotas.Given as goal

abbrev pub invariant-loop-place : goal.invariant-loop-place
invariant-loop-place l = record {
  sum : l.pieces ≡ all_quotas l.place (quotas_of l.table);
  few : l.pieces ≤ PIECES_LIMIT * l.place;
}
