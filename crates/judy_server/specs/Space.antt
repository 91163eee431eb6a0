-- The invariant of the service at each time of a run, and of the n of `WORDS n`.
-- proofs/lemmas/Space.antt proves both.
--     IsSoundOf before after      the invariant of a service holds; it keeps its tenants
--     granted_after ..            the most words that the quotas of these tables allow, and of those
--                                 before them
--     IsSoundAfter texts ..       the invariant holds after the tables of these texts were put in force
--     IsBoundedBy granted n held  the words live at once, and those taken from the machine, are bounded
--                                 by what the quotas allow, or by those taken beforehand
--     TellsFew tenants after ..   `WORDS n` was written, and n is few for what the tenants hold
--     IsMuch megabytes tenants    `--reserve` of so many megabytes is enough for the quotas of these tenants
--     AreMuch megabytes rows ..   and for those of each table that is put in force later
--     NoTurnForMemory turns       no call of these lines is refused for memory
use Rattle.std.specs.Prelude.{◌≡◌, ◌<◌, ◌≤◌, ◌*◌, ◌+◌, ℕ, List, [], ◌∷◌, length, max, zip}
use Rattle.std.specs.Io.KnownBytes.{Appends}
use Rattle.judy_many.specs.Sessions.{Turn, calls_of}
use Rattle.judy_model.specs.Service.{all_pieces}
use Rattle.judy_protocol.specs.Serving.{MaybeBytes}
use Rattle.judy_programs.specs.Program.{words_line}
use Rattle.judy_table.specs.declared.tenant.Tenant.{Tenant}
use Rattle.judy_tenants.specs.Held.{Held, IsSoundService, all_arrays, all_quotas, quotas_of, states_of, words_for}
use Rattle.judy_tenants.specs.Runs.{NoneForMemory}
use Rattle.judy_server.specs.Reloads.{rows_after, rows_with}

-- The invariant of a service holds, the service has the tenants that it had, and nothing was taken
-- beforehand.
pub record IsSoundOf (before after : Held) : Type 0 where
  pub sound : IsSoundService after
  pub tenants : after.tenants ≡ before.tenants
  pub granted : after.granted ≡ before.granted
  pub reserved : after.reserved ≡ before.reserved

-- the most words that the quotas of these tables allow, and of those before them
abbrev pub granted_after : ℕ → List Tenant → List (List ℕ) → ℕ
granted_after granted rows [] = granted
granted_after granted rows (text ∷ texts) = granted_after (max granted (words_for (rows_with rows text))) (rows_with rows text) texts

-- The tables of these texts were put in force, one after another, and the invariant of the service
-- holds. Its tenants are those of the last of them, at their places. Nothing was taken beforehand.
pub record IsSoundAfter (texts : List (List ℕ)) (before after : Held) : Type 0 where
  pub sound : IsSoundService after
  pub tenants : after.tenants ≡ rows_after before.tenants texts
  pub granted : after.granted ≡ granted_after before.granted before.tenants texts
  pub reserved : after.reserved ≡ before.reserved

-- The words that were ever live at once are at most those that the quotas allow. Those taken from the
-- machine are at most 128 times as many, and 512, or as many as were taken beforehand.
pub record IsBoundedBy (granted beforehand : ℕ) (held : Held) : Type 0 where
  pub peak : held.peak ≤ granted
  pub region : held.region ≤ max beforehand (128 * granted + 512)

-- `WORDS n` follows the answers. There are at most 16 words for each piece of all tenants at that
-- time, so 0 if no tenant has an entry, and at least 4 for each array that has entries.
pub record TellsFew (tenants : ℕ) (after : Held) (between taken' : MaybeBytes) : Type 0 where
  pub n : ℕ
  pub line : Appends between taken' (words_line n)
  pub most : n ≤ 16 * all_pieces tenants (states_of after)
  pub least : 4 * all_arrays tenants (states_of after) ≤ n

-- ---- with enough memory beforehand

-- so many megabytes are enough: one for 64 pieces of all quotas, and 190 more
abbrev pub IsMuch : ℕ → List Tenant → Type 0
IsMuch megabytes tenants = all_quotas (length tenants) (quotas_of tenants) + 12160 < 64 * megabytes

-- so it is for each of the tables that are put in force later, one after another
abbrev pub AreMuch : ℕ → List Tenant → List (List ℕ) → Type 0
AreMuch megabytes rows [] = Unit {0}
AreMuch megabytes rows (text ∷ texts) = IsMuch megabytes (rows_with rows text) × AreMuch megabytes (rows_with rows text) texts

-- no call of any of these lines is refused for memory
abbrev pub NoTurnForMemory : List Turn → Type 0
NoTurnForMemory [] = Unit {0}
NoTurnForMemory (t ∷ turns) = NoneForMemory (zip (calls_of t) t.replies) × NoTurnForMemory turns
