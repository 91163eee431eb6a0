use Rattle.std.proofs.Common.{◌≡◌, take}
use Rattle.judy_table.specs.Freezes.{frozen_row, has_tenant_of}
use Rattle.judy_table.proofs.Halfway.{halfway}
use Rattle.judy_table.proofs.seating.freeze.Given as goal

abbrev pub invariant-loop-row : goal.invariant-loop-row
invariant-loop-row l =
    (l.rows ≡ halfway (frozen_row l.name l.frozen) l.row-index l.fn.rows) × (l.known ≡ has_tenant_of l.name (take l.row-index l.fn.rows))
