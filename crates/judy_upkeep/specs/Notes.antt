-- The acts that a note of the record stands for.
--     step_of kind first second    a step, by its number, and by the numbers of its file
--     noted_act numbers            the act, by the numbers of its answer and of its step
use Rattle.std.specs.Prelude.{ℕ, List, Some, None, slice_index, ◌==◌, if◌then◌else◌}
use Rattle.judy_disk.specs.Notes.{place_of}
use Rattle.judy_upkeep.specs.Steps.{Act}
use Rattle.judy_upkeep.specs.declared.record.Step.{Step}
use Rattle.judy_upkeep.specs.declared.record.Step.TheVariants as step

-- a step, by its number, and by the numbers of its file
abbrev pub step_of : ℕ → ℕ → ℕ → Step
step_of kind first second =
    if kind == 0 then step.Secure
    else if kind == 1 then step.Rename first
    else if kind == 2 then step.Sync
    else if kind == 3 then step.Note first
    else step.Remove (place_of first second)

-- the step of a note
abbrev pub noted_step : List ℕ → Step
noted_step numbers = step_of (slice_index numbers 1) (slice_index numbers 2) (slice_index numbers 3)

-- the act, by the numbers of its answer and of its step
abbrev pub noted_act : List ℕ → Act
noted_act numbers =
    if slice_index numbers 0 == 0 then Act.Did (noted_step numbers)
    else if slice_index numbers 0 == 1 then Act.Failed (noted_step numbers)
    else if slice_index numbers 0 == 2 then Act.Saw (Some (slice_index numbers 1))
    else Act.Saw None
