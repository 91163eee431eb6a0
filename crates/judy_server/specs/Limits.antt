-- A service whose quotas are taken away while records are played.
--     IsLifted old table new       the quotas of its table, this one, were taken away
--     IsLimited old table new      this table was put in force
--     server_replay                how records are played to a server
use Rattle.std.specs.Prelude.{◌≡◌, List, []}
use Rattle.judy_programs.specs.Journaled.{Replay, replay_of}
use Rattle.judy_table.specs.declared.tenant.Tenant.{Tenant}
use Rattle.judy_table.specs.Seats.{AreRows, seated}
use Rattle.judy_tenants.specs.Changes.{HasChanged, lifted, regranted}
use Rattle.judy_tenants.specs.Held.{Held, IsSoundService}
use Rattle.judy_server.specs.Replays.{AreReplayed}
use Rattle.judy_server.specs.Tally.{Tallied}

-- The quotas of this table, which is the one in force, were taken away: each tenant has the greatest quota. Nothing
-- else changed.
pub record IsLifted (old : Tallied) (table : List Tenant) (new : Tallied) : Type 0 where
  pub table_is : table ≡ old.held.tenants
  pub now : new ≡ record old { held = lifted old.held }
  pub sound : IsSoundService new.held

-- This table was put in force, as a new table is while the service goes on. It has each tenant of which there are
-- records, unless the tenant left. What was counted stays. The words that were ever live at once are bounded by its
-- quotas, or by those that were live while records were played.
pub record IsLimited (old : Tallied) (table : List Tenant) (new : Tallied) : Type 0 where
  pub nobody_absent : old.tally.absent ≡ []
  pub mid : Held
  pub tenants : mid.tenants ≡ seated old.held.tenants table
  pub changed : HasChanged old.held mid
  pub held : new.held ≡ regranted mid
  pub rows : AreRows new.held.tenants
  pub sound : IsSoundService new.held
  pub tally : new.tally ≡ old.tally

-- how records are played to a server
abbrev pub server_replay : Replay Tallied
server_replay = replay_of IsLifted AreReplayed IsLimited
