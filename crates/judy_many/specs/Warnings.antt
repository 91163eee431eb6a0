-- What an operator is warned of.
--     is_due told count now      a count rose since it was told last, in an earlier second
--     logins_text, requests_text what is told of refused log-ins and of refused requests
--     are_owed told ..           whether something is left to tell
--     HasWarned told ..          the line of refused log-ins if it is due, then that of refused requests
use Rattle.std.specs.Prelude.{◌≡◌, ◌&&◌, ◌||◌, ◌++◌, ◌-◌, ◌≤◌, ℕ, zero, suc, Bool, true, false, List, [], ◌∷◌, Option, Some, None, codes, decimal, length, if◌then◌else◌, nat_lt}
use Rattle.judy_many.specs.Nets.{Act, Acts, DidLog}
use Rattle.judy_many.specs.Nets.Act.{Warned}
use Rattle.judy_many.specs.Stories.{BeginsWith}
use Rattle.judy_many.specs.declared.warnings.Told.{Told}
use Rattle.judy_many.specs.declared.warnings.Warnings.{Warnings}

-- whether a second is later than another; none is where the clock fails
abbrev pub is_later : Option ℕ → Option ℕ → Bool
is_later None at = false
is_later (Some now) None = true
is_later (Some now) (Some at) = nat_lt at now

abbrev pub is_due : Told → ℕ → Option ℕ → Bool
is_due told count now = nat_lt told.count count && is_later now told.at

-- what was told of a count afterwards: so it is told at most once a second
abbrev pub told_after : Told → ℕ → Option ℕ → Told
told_after told count now = if is_due told count now then record { count = count; at = now } else told

-- one line, if it is due
abbrev pub warning_acts : Bool → List ℕ → List Act
warning_acts true line = Warned line ∷ []
warning_acts false line = []

-- ---- the lines

-- a number of refused log-ins, the last of them with this tenant's name, if it has one
abbrev pub named_login : List ℕ → List ℕ
named_login [] = codes "no such tenant"
named_login (b ∷ name) = b ∷ name

abbrev pub others_text : ℕ → List ℕ
others_text zero = []
others_text (suc others) = (codes ", and " ++ decimal (suc others)) ++ codes " more"

abbrev pub logins_text : List ℕ → ℕ → List ℕ
logins_text name count = (codes "log-in refused: " ++ named_login name) ++ others_text (count - 1)

-- a number of requests that were refused for memory
abbrev pub requests_text : ℕ → List ℕ
requests_text count = (codes "out of memory: " ++ decimal count) ++ codes " requests refused"

-- ---- what is told

-- whether something is left to tell, where so many log-ins and requests were refused
abbrev pub are_owed : Warnings → ℕ → ℕ → Bool
are_owed told refused short = nat_lt told.logins.count refused || nat_lt told.requests.count short

-- a line of so many refused log-ins; a name has at most 32 bytes
pub record TellsLogins (name : List ℕ) (count : ℕ) (line : List ℕ) : Type 0 where
  pub head : BeginsWith (codes "log-in refused: ") line
  pub text : length name ≤ 32 → line ≡ logins_text name count

-- The line of refused log-ins is told if it is due, and then that of refused requests, and nothing else is. Each tells
-- how many were refused since its last line. The last log-in that was refused had this name.
pub record HasWarned (told : Warnings) (name : List ℕ) (refused short : ℕ) (log log' : Acts) (told' : Warnings) : Type 0 where
  pub now : Option ℕ
  pub line : List ℕ
  pub tells : TellsLogins name (refused - told.logins.count) line
  pub mid : Acts
  pub first : DidLog log (warning_acts (is_due told.logins refused now) line) mid
  pub then_requests : DidLog mid (warning_acts (is_due told.requests short now) (requests_text (short - told.requests.count))) log'
  pub logins : told'.logins ≡ told_after told.logins refused now
  pub requests : told'.requests ≡ told_after told.requests short now
