-- What a compaction asks of the directory.
--     Acts                       what was asked so far, where it is known
--     Logs log acts log'         this was asked and nothing else, where it is known
--     act_of step result         a step that was asked for, by its result
use Rattle.std.specs.Prelude.{◌≡◌, ◌++◌, ℕ, List, Option, Some, None, Result, Ok, Err}
use Rattle.judy_upkeep.specs.declared.record.Step.{Step}

pub data Act : Type 0 where
  -- a step came about
  Did : Step → Act
  -- a step failed
  Failed : Step → Act
  -- the files were looked for: this is the last segment, if there is one
  Saw : Option ℕ → Act

-- what was asked so far, where it is known
abbrev pub Acts : Type 0
Acts = Option (List Act)

-- this was asked, one after another, and nothing else
abbrev pub Logs : Acts → List Act → Acts → Type 0
Logs None acts log' = Unit {0}
Logs (Some log) acts log' = log' ≡ Some (log ++ acts)

-- what a step is told as, by its result
abbrev pub act_of : {T E : Type 0} → Step → Result T E → Act
act_of step (Ok done) = Did step
act_of step (Err fault) = Failed step
