-- How a new snapshot takes the place of the files that it stands for.
--     is_stale upto place              a snapshot with this number stands for the file
--     HasRemoved result upto log log'  only such files were removed
--     HasRemovedLeft result upto log log' the same, and not before the manifest names the snapshot
--     HasReplaced result upto log log' the same, and not before the snapshot is there for good
use Rattle.std.specs.Prelude.{◌⊎◌, ◌++◌, ℕ, Bool, false, List, [], ◌∷◌, map, Result, Ok, Err, IsTrue, nat_le, nat_lt}
use Rattle.std.specs.List.{list_all}
use Rattle.judy_disk.specs.declared.names.Place.{Place}
use Rattle.judy_disk.specs.declared.names.Place.TheVariants as place
use Rattle.judy_upkeep.specs.Steps.{Act, Acts, Logs}
use Rattle.judy_upkeep.specs.Steps.Act.{Did, Failed}
use Rattle.judy_upkeep.specs.declared.record.Step.TheVariants.{Note, Remove, Rename, Secure, Sync}

-- the snapshot with this number stands for the file: it is a segment up to this number, or torn bytes of one, or
-- an older snapshot
abbrev pub is_stale : ℕ → Place → Bool
is_stale upto (place.Segment number) = nat_le number upto
is_stale upto (place.Torn number) = nat_le number upto
is_stale upto (place.Snapshot number) = nat_lt number upto
is_stale upto _ = false

abbrev pub AreStale : ℕ → List Place → Type 0
AreStale upto places = IsTrue (list_all (is_stale upto) places)

-- these files were removed
abbrev pub removals : List Place → List Act
removals places = map (λ p. Did (Remove p)) places

-- Only files that the snapshot stands for were removed. After a failure the last of them is the one
-- that was not.
abbrev pub HasRemoved : {T E : Type 0} → Result T E → ℕ → Acts → Acts → Type 0
HasRemoved (Ok done) upto log log' = (places : List Place) × AreStale upto places × Logs log (removals places) log'
HasRemoved (Err fault) upto log log' = (places : List Place) × (last : Place) × AreStale upto places × IsTrue (is_stale upto last)
    × Logs log (removals places ++ Failed (Remove last) ∷ []) log'

-- the snapshot is there for good: secured, then renamed, then its directory was synced, and then the manifest
-- names it
abbrev pub placed : ℕ → List Act
placed upto = Did Secure ∷ Did (Rename upto) ∷ Did Sync ∷ Did (Note upto) ∷ []

-- The snapshot that is there already is there for good: the directory was synced, and then the manifest names it.
abbrev pub noted : ℕ → List Act
noted upto = Did Sync ∷ Did (Note upto) ∷ []

-- Before that nothing is removed, and then only files that it stands for. A step that fails is the last one.
abbrev pub HasRemovedLeft : {T E : Type 0} → Result T E → ℕ → Acts → Acts → Type 0
HasRemovedLeft (Ok done) upto log log' = (places : List Place) × AreStale upto places × Logs log (noted upto ++ removals places) log'
HasRemovedLeft (Err fault) upto log log' = Logs log (Failed Sync ∷ []) log'
    ⊎ Logs log (Did Sync ∷ Failed (Note upto) ∷ []) log'
    ⊎ ((places : List Place) × (last : Place) × AreStale upto places × IsTrue (is_stale upto last)
    × Logs log (noted upto ++ (removals places ++ Failed (Remove last) ∷ [])) log')

-- Before the snapshot is there for good nothing is removed, and then only files that it stands for. A
-- step that fails is the last one.
abbrev pub HasReplaced : {T E : Type 0} → Result T E → ℕ → Acts → Acts → Type 0
HasReplaced (Ok done) upto log log' = (places : List Place) × AreStale upto places × Logs log (placed upto ++ removals places) log'
HasReplaced (Err fault) upto log log' = Logs log (Failed Secure ∷ []) log'
    ⊎ Logs log (Did Secure ∷ Failed (Rename upto) ∷ []) log'
    ⊎ Logs log (Did Secure ∷ Did (Rename upto) ∷ Failed Sync ∷ []) log'
    ⊎ Logs log (Did Secure ∷ Did (Rename upto) ∷ Did Sync ∷ Failed (Note upto) ∷ []) log'
    ⊎ ((places : List Place) × (last : Place) × AreStale upto places × IsTrue (is_stale upto last)
    × Logs log (placed upto ++ (removals places ++ Failed (Remove last) ∷ [])) log')
