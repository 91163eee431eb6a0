-- Which damage of a journal can be cut off.
--     whole_by damage     how much of a damaged segment is whole, if the damage can be cut off
--     wounded fault       the segment that is damaged, and how much of it is whole
use Rattle.std.specs.Prelude.{ℕ, Option, Some, None, option_map}
use Rattle.judy_disk.specs.declared.names.Place.{Place}
use Rattle.judy_disk.specs.declared.names.Place.TheVariants as place
use Rattle.judy_journal.specs.declared.damage.Damage.{Damage}
use Rattle.judy_journal.specs.declared.damage.Damage.TheVariants as damage
use Rattle.judy_recovery.specs.declared.faults.Flaw.{Flaw}
use Rattle.judy_recovery.specs.declared.faults.Flaw.TheVariants as flaw
use Rattle.judy_recovery.specs.declared.faults.JournalFault.{JournalFault}
use Rattle.judy_recovery.specs.declared.faults.JournalFault.TheVariants as fault
use Rattle.judy_upkeep.specs.declared.repairing.Whole.{Whole}
use Rattle.judy_upkeep.specs.declared.repairing.Whole.TheVariants as whole

-- nothing is whole behind another first line, and else the commits before the damage
abbrev pub whole_by : Damage → Option Whole
whole_by damage.Header = Some whole.Nothing
whole_by damage.NoHeader = Some whole.Nothing
whole_by damage.Mark = Some whole.Commits
whole_by damage.Long = Some whole.Commits
whole_by damage.Torn = Some whole.Commits
whole_by damage.Number = None
whole_by damage.Size = None

-- damage of a segment, and of no other file
abbrev pub wounded_at : Place → Flaw → Option (ℕ × Whole)
wounded_at (place.Segment number) (flaw.Damage what) = option_map (λ w. (number, w)) (whole_by what)
wounded_at _ _ = None

abbrev pub wounded : JournalFault → Option (ℕ × Whole)
wounded (fault.File place byte flaw) = wounded_at place flaw
wounded _ = None
