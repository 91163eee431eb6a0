-- the names of marked tenants so far are left out, and their arrays were freed
use Rattle.std.proofs.Common.{false, get_or, length, IsFalse}
use Rattle.std.specs.FinMap.{retain_keys}
use Rattle.judy_directory.specs.Rooms.{AreOnce}
use Rattle.judy_directory.proofs.lemmas.Left.{is_left}
use Rattle.judy_tenants.specs.Accounts.{IsServer}
use Rattle.judy_tenants.specs.Frees.{AreFreedIn}
use Rattle.judy_tenants.proofs.freeing.free_marked.Given as goal

abbrev pub invariant-loop-spot : goal.invariant-loop-spot
invariant-loop-spot g l = record {
  once : AreOnce l.names;
  stocked : IsServer g.H.KeyHash.hashed l.arena.blocks (retain_keys l.directory.0 (is_left l.gone l.names)) l.accounts.items l.table;
  freed : AreFreedIn (λ t. IsFalse (get_or l.gone t false)) l.fn.arena l.directory.0 l.arena (retain_keys l.directory.0 (is_left l.gone l.names));
}

abbrev pub decreases-loop-spot : goal.decreases-loop-spot
decreases-loop-spot g l = length l.names
