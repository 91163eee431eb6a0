-- The service of the program, as a connection sees it.
--     seen_of tallied                    who logs in as whom, who may speak, and each tenant's name,
--                                        quota and arrays
--     IsServedStep old event reply new   a call: its tenant gets the reply that it would get alone,
--                                        a refusal for memory has its cause, and all blocks have
--                                        few words
--     IsNoted old who line answer new    a line and its answer were counted, and nothing else changed
--     IsTaken reserve region room        so many megabytes were taken for the arrays, if any were
--     IsUnreserved old megabytes new      the machine did not have so many megabytes
--     IsNewService secret reserve tenants tallied   a service of these tenants, none of whom has an
--                                        entry, that has counted nothing
use Rattle.std.specs.Prelude.{◌≡◌, ◌≤◌, ◌*◌, ℕ, List, Option, Some, None}
use Rattle.judy_model.specs.declared.replies.Reply.{Reply}
use Rattle.judy_model.specs.Speakers.{Event, Speaker}
use Rattle.judy_model.specs.Stream.{Heard}
use Rattle.judy_model.specs.Tenant.{no_arrays}
use Rattle.judy_protocol.specs.Services.{IsCalled, Seen}
use Rattle.judy_table.specs.declared.tenant.Tenant.{Tenant}
use Rattle.judy_table.specs.Seats.{AreRows, knows, name_at}
use Rattle.judy_table.specs.Tenants.{login_of}
use Rattle.judy_directory.specs.Secrets.{start_of}
use Rattle.judy_tenants.specs.Held.{HasCause, HasNoReserve, IsReserved, IsSoundService, Keeps, quotas_of, states_of, words_for}
use Rattle.judy_server.specs.Tally.{Tallied, counted, no_counts}

-- the visible state of the service: names and tokens are those of the table in force
abbrev pub seen_of : Tallied → Seen
seen_of t = record {
  logins = λ name token. login_of name token t.held.tenants;
  speakers = knows t.held.tenants;
  names = name_at t.held.tenants;
  quotas = quotas_of t.held.tenants;
  states = states_of t.held;
}

-- how many words its arrays hold
abbrev pub held_words : Tallied → ℕ
held_words t = t.held.words

-- the step of a call
pub record IsServedStep (old : Tallied) (event : Event) (reply : Reply) (new : Tallied) : Type 0 where
  -- its tenant gets the reply that it would get alone, or is refused for memory; no other tenant's
  -- arrays change
  pub called : IsCalled (seen_of old) event reply (seen_of new)
  -- the reply is `Memory` exactly if the arena refused a block or a name found no place
  pub cause : HasCause event old.held reply new.held
  -- the table stays; the whole service stays if the call was refused for its right or for the
  -- quota, or asked for the counts
  pub keeps : Keeps event old.held reply new.held
  -- arrays are well formed and within their quotas, and the blocks have few words for what they
  -- hold
  pub sound : IsSoundService new.held
  -- a call counts nothing; its line does
  pub tally : new.tally ≡ old.tally

-- A line and its answer were counted: its call, the kind of its answer, both of them for the tenant that
-- speaks after it, and, if it is a log-in that was refused, the tenant of its name. Nothing else changed.
abbrev pub IsNoted : Tallied → Option Speaker → Heard → List ℕ → Tallied → Type 0
IsNoted old who line answer new = new ≡ record old { tally = counted old.held.tenants who line answer old.tally }

-- nothing was taken from the machine, and there is room for 256 names; or this many megabytes were
-- taken, of 131,072 words, and there is room for 64 names for each of them
abbrev pub IsTaken : Option ℕ → ℕ → ℕ → Type 0
IsTaken None region room = (region ≡ 0) × (room ≡ 256)
IsTaken (Some megabytes) region room = (131072 * megabytes ≤ region) × (64 * megabytes ≤ room)

-- The machine had no memory for so many megabytes, or for the names of so many. What was taken until then stays, and
-- nothing else changed.
pub record IsUnreserved (old : Tallied) (megabytes : ℕ) (new : Tallied) : Type 0 where
  pub asked : HasNoReserve (megabytes * 131072) old.held new.held
  pub same : IsReserved old.held new.held
  pub counts : new.tally ≡ old.tally

-- no tenant has an entry, and nothing was refused or counted
pub record IsNewService (secret : List ℕ) (reserve : Option ℕ) (table : List Tenant) (t : Tallied) : Type 0 where
  pub tenants : t.held.tenants ≡ table
  pub rows : AreRows t.held.tenants
  pub states : (tenant : ℕ) → states_of t.held tenant ≡ no_arrays
  pub refusals : t.held.refusals ≡ 0
  pub unplaced : t.held.unplaced ≡ 0
  -- all counts of lines, replies and log-ins are 0
  pub counts : t.tally ≡ no_counts
  -- no array has a name or a block
  pub names : t.held.names ≡ 0
  pub words : t.held.words ≡ 0
  -- so much memory was taken from the machine
  pub taken : IsTaken reserve t.held.region t.held.room
  pub reserved : t.held.reserved ≡ t.held.region
  -- its quotas allow so many words to be live at once
  pub granted : t.held.granted ≡ words_for t.held.tenants
  -- so the blocks have few words for what the arrays hold
  pub sound : IsSoundService t.held
  -- names are looked up by hashes that begin with the secret
  pub start : t.held.start ≡ start_of secret
