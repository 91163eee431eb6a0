-- Log-ins that are refused since their tenant has enough connections.
--     claim_in line who              this speaker, if the line is a log-in
--     speaks_for t who               this tenant speaks
--     is_crowded most others claim   the tenant of this speaker speaks on as many of the other connections
--     AreLimited most others turns   each line was refused for this exactly where it is so
--     others_in n story              who speaks on the open connections but this one
--     IsLimited most past story      at each moment of a story after this past lines were refused so
use Rattle.std.specs.Prelude.{◌≡◌, ◌==◌, ℕ, zero, suc, Bool, true, false, List, [], ◌∷◌, ◌++◌, Option, Some, None, count_by, if◌then◌else◌, nat_le}
use Rattle.judy_model.specs.Speakers.{Speaker}
use Rattle.judy_model.specs.Stream.{Heard}
use Rattle.judy_model.specs.Stream.Heard.{Asked, TooLong, Unclear}
use Rattle.judy_model.specs.declared.requests.Line.TheVariants as request
use Rattle.judy_many.specs.Present.{speaker_of}
use Rattle.judy_many.specs.Sessions.{Turn}
use Rattle.judy_many.specs.Stories.{Story, acts_in, came_in, own}
use Rattle.judy_many.specs.Stories.Moment.{Changed, Did, Ran}

abbrev pub is_login : Heard → Bool
is_login (Asked (request.Auth name token)) = true
is_login (Asked request.Quit) = false
is_login (Asked request.Ping) = false
is_login (Asked request.Hello) = false
is_login (Asked (request.Call call)) = false
is_login Unclear = false
is_login TooLong = false

abbrev pub claim_in : Heard → Option Speaker → Option Speaker
claim_in line who = if is_login line then who else None

abbrev pub speaks_for : ℕ → Option Speaker → Bool
speaks_for tenant None = false
speaks_for tenant (Some who) = who.tenant == tenant

-- A tenant may have this many connections, if there is a limit. Whether it speaks on as many others as
-- that, where this speaker is about to speak for it.
abbrev pub is_crowded : Option ℕ → List (Option Speaker) → Option Speaker → Bool
is_crowded None others claim = false
is_crowded (Some most) others None = false
is_crowded (Some most) others (Some who) = nat_le most (count_by (speaks_for who.tenant) others)

-- lines of one connection, while these speak on the others
abbrev pub AreLimited : Option ℕ → List (Option Speaker) → List Turn → Type 0
AreLimited most others [] = Unit {0}
AreLimited most others (t ∷ turns) = (t.crowded ≡ is_crowded most others t.claim) × AreLimited most others turns

-- who speaks on those open connections with numbers below this one that are not connection n
abbrev pub others_below : ℕ → ℕ → Story → List (Option Speaker)
others_below n zero story = []
others_below n (suc m) story = others_below n m story ++ (if m == n then [] else speaker_of (own m story))

abbrev pub others_in : ℕ → Story → List (Option Speaker)
others_in n story = others_below n (came_in (acts_in story)) story

-- The lines of a connection are run one after another. Meanwhile the others stay as they were.
abbrev pub IsLimited : Option ℕ → Story → Story → Type 0
IsLimited most past [] = Unit {0}
IsLimited most past (Did a ∷ story) = IsLimited most (past ++ Did a ∷ []) story
IsLimited most past (Ran n turns ∷ story) = AreLimited most (others_in n past) turns × IsLimited most (past ++ Ran n turns ∷ []) story
IsLimited most past (Changed text left ∷ story) = IsLimited most (past ++ Changed text left ∷ []) story
