-- What was asked of the system besides connections, in the log that has all acts.
--     Log                  all acts so far, where they are known
--     Logs log more log'   these steps were made and no other acts, where the acts are known
use Rattle.std.specs.Prelude.{List, map}
use Rattle.judy_many.specs.Nets.{Acts, DidLog, Step}
use Rattle.judy_many.specs.Nets.Act.{Asked}

abbrev pub Log : Type 0
Log = Acts

-- these steps were made, one after another, and no other acts
abbrev pub Logs : Log → List Step → Log → Type 0
Logs log more log' = DidLog log (map Asked more) log'
