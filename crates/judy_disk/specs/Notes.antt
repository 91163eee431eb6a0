-- The acts that a note of the record stands for.
--     place_of kind number              a file, by its number and that of its segment
--     ask_of ask place more bytes       what was asked, by its number, its file, other numbers and bytes
--     act_of numbers more bytes         the act, by the numbers of its answer, of what was asked and of its file
use Rattle.std.specs.Prelude.{ℕ, Bool, true, false, List, slice_index, ◌==◌, if◌then◌else◌}
use Rattle.judy_disk.specs.Acts.{Act, Ask}
use Rattle.judy_disk.specs.declared.names.Place.{Place}
use Rattle.judy_disk.specs.declared.names.Place.TheVariants as place
use Rattle.judy_disk.specs.declared.record.Asked.{Asked}
use Rattle.judy_disk.specs.declared.record.Asked.TheVariants as asked

-- a file, by its number and that of its segment
abbrev pub place_of : ℕ → ℕ → Place
place_of kind n =
    if kind == 0 then place.Folder
    else if kind == 1 then place.Lock
    else if kind == 2 then place.CompactLock
    else if kind == 3 then place.ReadLock
    else if kind == 4 then place.StartLock
    else if kind == 5 then place.Segment n
    else if kind == 6 then place.NewSegment n
    else if kind == 7 then place.Torn n
    else if kind == 8 then place.NewTorn n
    else if kind == 9 then place.Snapshot n
    else if kind == 10 then place.NewSnapshot
    else if kind == 11 then place.Manifest
    else if kind == 12 then place.NewManifest
    else place.ManifestLock

-- what was asked, by its number, its file, other numbers and bytes
abbrev pub ask_of : ℕ → Place → List ℕ → List ℕ → Ask
ask_of ask p more bytes =
    if ask == 0 then Ask.Make p
    else if ask == 1 then Ask.Open p
    else if ask == 2 then Ask.Measure p
    else if ask == 3 then Ask.Write p (slice_index more 0) bytes
    else if ask == 4 then Ask.Fill p (slice_index more 0) (slice_index more 1)
    else if ask == 5 then Ask.Cut p (slice_index more 0)
    else if ask == 6 then Ask.Sync p
    else if ask == 7 then Ask.Secure p
    else if ask == 8 then Ask.Rename p (place_of (slice_index more 0) (slice_index more 1))
    else if ask == 9 then Ask.Remove p
    else if ask == 10 then Ask.TryLock p
    else if ask == 11 then Ask.Lock p
    else if ask == 12 then Ask.TryShare p
    else if ask == 13 then Ask.Share p
    else if ask == 14 then Ask.Read p
    else if ask == 15 then Ask.OpenToRead p
    else if ask == 16 then Ask.ReadAt p (slice_index more 0) (slice_index more 1)
    else if ask == 17 then Ask.ListNames
    else Ask.NextName

-- the answer to what was asked, by its number
abbrev pub answer_to : ℕ → Ask → Act
answer_to answer ask =
    if answer == 0 then Act.Did ask
    else if answer == 1 then Act.Failed ask
    else if answer == 2 then Act.Refused ask
    else Act.Absent ask

-- the same, or the size of a file, its bytes, or a name
abbrev pub answer_of : ℕ → ℕ → Place → List ℕ → List ℕ → Act
answer_of answer ask p more bytes =
    if answer == 3 then Act.Measured p (slice_index more 0)
    else if answer == 4 then Act.Gave p bytes
    else if answer == 5 then Act.GaveAt p (slice_index more 0) bytes
    else if answer == 6 then Act.Listed bytes
    else if answer == 7 then Act.AllListed
    else answer_to answer (ask_of ask p more bytes)

-- what was asked of a file, with these bytes
abbrev pub ask_by : Asked → Place → List ℕ → Ask
ask_by asked.Make p bytes = Ask.Make p
ask_by asked.Open p bytes = Ask.Open p
ask_by (asked.Write at) p bytes = Ask.Write p at bytes
ask_by (asked.Fill at n) p bytes = Ask.Fill p at n
ask_by (asked.Cut n) p bytes = Ask.Cut p n
ask_by asked.Sync p bytes = Ask.Sync p
ask_by asked.Secure p bytes = Ask.Secure p
ask_by (asked.Rename q) p bytes = Ask.Rename p q
ask_by asked.Remove p bytes = Ask.Remove p
ask_by asked.Read p bytes = Ask.Read p
ask_by asked.OpenToRead p bytes = Ask.OpenToRead p
ask_by (asked.ReadAt at n) p bytes = Ask.ReadAt p at n
ask_by asked.ListNames p bytes = Ask.ListNames
ask_by asked.NextName p bytes = Ask.NextName
ask_by asked.TryLock p bytes = Ask.TryLock p
ask_by asked.Lock p bytes = Ask.Lock p
ask_by asked.TryShare p bytes = Ask.TryShare p
ask_by asked.Share p bytes = Ask.Share p

-- the numbers of the answer, of what was asked, and of its file
abbrev pub act_of : List ℕ → List ℕ → List ℕ → Act
act_of numbers more bytes = answer_of (slice_index numbers 0) (slice_index numbers 1)
    (place_of (slice_index numbers 2) (slice_index numbers 3)) more bytes

-- it was done, or it was not
abbrev pub act_if : Bool → Ask → Act
act_if true ask = Act.Did ask
act_if false ask = Act.Failed ask
