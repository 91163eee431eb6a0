-- What a compaction does.
--     IsUpto made upto last                 the last segment that was found is kept
--     HasFinished made upto result log log' the files were replaced by a new snapshot, or those of an earlier one removed
--     HasCompacted result log log'          the files were looked for, and then the same was done
use Rattle.std.specs.Prelude.{◌≡◌, ◌⊎◌, ◌+◌, ◌<◌, ◌++◌, ℕ, Bool, true, false, List, [], ◌∷◌, Option, Some, None, Result, Ok, Err}
use Rattle.judy_upkeep.specs.Replacing.{HasRemovedLeft, HasReplaced}
use Rattle.judy_upkeep.specs.Steps.{Act, Acts}
use Rattle.judy_upkeep.specs.Steps.Act.{Saw}
use Rattle.judy_upkeep.specs.declared.compacting.Compacted.{Compacted}
use Rattle.judy_upkeep.specs.declared.compacting.Compacted.TheVariants as compacted
use Rattle.judy_upkeep.specs.declared.compacting.Uncompacted.{Uncompacted}

-- the number is below that of the last segment, if there is one
abbrev pub IsBelow : ℕ → Option ℕ → Type 0
IsBelow upto None = Unit {0}
IsBelow upto (Some last) = upto < last

-- A new snapshot stands for all segments but the last that was found. If none was made, at most those before the
-- last go.
abbrev pub IsUpto : Bool → ℕ → Option ℕ → Type 0
IsUpto true upto last = last ≡ Some (upto + 1)
IsUpto false upto last = IsBelow upto last

-- After a step that fails there is none.
abbrev pub FailsToFinish : ℕ → Acts → Acts → Type 0
FailsToFinish upto log log' = HasReplaced {T = Unit {0}} {E = Unit {0}} (Err tt) upto log log'
    ⊎ HasRemovedLeft {T = Unit {0}} {E = Unit {0}} (Err tt) upto log log'

-- With a new snapshot the files that it stands for were replaced. Without one, those were removed that an earlier
-- compaction left.
abbrev pub HasFinished : {E : Type 0} → Bool → ℕ → Result Compacted E → Acts → Acts → Type 0
HasFinished made upto (Ok (compacted.Snapshot number)) log log' = (made ≡ true) × (number ≡ upto)
    × HasReplaced {T = Unit {0}} {E = Unit {0}} (Ok tt) upto log log'
HasFinished made upto (Ok compacted.Nothing) log log' = (made ≡ false)
    × HasRemovedLeft {T = Unit {0}} {E = Unit {0}} (Ok tt) upto log log'
HasFinished made upto (Err fault) log log' = FailsToFinish upto log log'

-- these acts, and then that the files were looked for
abbrev pub seen : List Act → Option ℕ → List Act
seen log last = log ++ Saw last ∷ []

-- The files were looked for at most.
abbrev pub HasLooked : List Act → List Act → Type 0
HasLooked log log' = (log' ≡ log) ⊎ ((last : Option ℕ) × (log' ≡ seen log last))

-- some files were found, and then this was done
abbrev pub FailsToReplace : List Act → List Act → Type 0
FailsToReplace log log' = (last : Option ℕ) × (made : Bool) × (upto : ℕ) × IsUpto made upto last
    × FailsToFinish upto (Some (seen log last)) (Some log')

-- The files were looked for. Then a new snapshot took the place of all segments but the last that was found, and of
-- the snapshot before. Or there was no new one, and what an earlier compaction left was removed: no segment from the
-- last that was found on. If it fails, the files were looked for at most, or a step of that failed, the last one.
abbrev pub HasCompacted : Result Compacted Uncompacted → List Act → List Act → Type 0
HasCompacted (Ok (compacted.Snapshot upto)) log log' =
    HasReplaced {T = Unit {0}} {E = Unit {0}} (Ok tt) upto (Some (seen log (Some (upto + 1)))) (Some log')
HasCompacted (Ok compacted.Nothing) log log' = (last : Option ℕ) × (upto : ℕ) × IsBelow upto last
    × HasRemovedLeft {T = Unit {0}} {E = Unit {0}} (Ok tt) upto (Some (seen log last)) (Some log')
HasCompacted (Err why) log log' = HasLooked log log' ⊎ FailsToReplace log log'
