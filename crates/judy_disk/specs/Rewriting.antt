-- How a segment is written anew at a start, and what is torn is kept beside it.
--     len_before_zeros bytes            how many of the bytes come before the zeros at their end
--     reads p from pieces               these pieces were read, one behind another
--     copied span at pieces             each was read, and then written
--     FindsTorn, ReadsTorn              what follows the first bytes of a segment was read
--     WritesCopy, TriesCopy             bytes of a segment were copied to a new file, which was secured
--     KeepsTorn, WritesAnew, Resumes    what is torn was kept; the segment was written anew; or it was cut
use Rattle.std.specs.Prelude.{◌≡◌, ◌⊎◌, ◌++◌, ◌<◌, ◌≤◌, ◌+◌, ◌-◌, ◌^◌, ◌==◌, ℕ, zero, suc, Bool, List, [], ◌∷◌, length, if◌then◌else◌, Result, Ok, Err, IsTrue}
use Rattle.std.specs.List.{concat}
use Rattle.judy_disk.specs.Acts.{Act, Ask, CutsTo, FailsIn, IsAt, IsFull, done_all, size_by}
use Rattle.judy_disk.specs.Acts.Act.{Did, Failed, GaveAt, Measured}
use Rattle.judy_disk.specs.Acts.Ask.{Make, Measure, Open, OpenToRead, ReadAt, Remove, Rename, Secure, Write}
use Rattle.judy_disk.specs.Folders.{Removes}
use Rattle.judy_disk.specs.Notes.{act_if}
use Rattle.judy_disk.specs.declared.faults.DiskFault.{DiskFault}
use Rattle.judy_disk.specs.declared.names.Place.{Place}
use Rattle.judy_disk.specs.declared.names.Place.TheVariants as place
use Rattle.judy_disk.specs.declared.rewriting.Span.{Span}

-- ---- zeros at the end

-- one more byte before those that come before the zeros
abbrev pub with_byte : ℕ → ℕ → ℕ
with_byte b zero = if b == 0 then 0 else 1
with_byte b (suc n) = suc (suc n)

-- how many of the bytes come before the zeros at their end
abbrev pub len_before_zeros : List ℕ → ℕ
len_before_zeros [] = 0
len_before_zeros (b ∷ bytes) = with_byte b (len_before_zeros bytes)

abbrev pub end_by : ℕ → ℕ → ℕ → ℕ
end_by before from zero = before
end_by before from (suc n) = from + suc n

-- where the bytes end that are not zeros, after a piece that begins here; they ended there before
abbrev pub end_after : ℕ → ℕ → List ℕ → ℕ
end_after before from piece = end_by before from (len_before_zeros piece)

-- ---- what is torn

-- these pieces were read, one behind another
abbrev pub reads : Place → ℕ → List (List ℕ) → List Act
reads p from [] = []
reads p from (piece ∷ pieces) = GaveAt p from piece ∷ reads p (from + length piece) pieces

-- This number of bytes was read from a place on. These come before the zeros at their end.
abbrev pub ReadsTorn : Place → ℕ → ℕ → Result ℕ DiskFault → List Act → List Act → Type 0
ReadsTorn p from len (Ok n) acts acts' = (pieces : List (List ℕ)) × (acts' ≡ acts ++ reads p from pieces)
    × (length (concat pieces) ≡ len) × (n ≡ len_before_zeros (concat pieces))
ReadsTorn p from len (Err why) acts acts' = IsAt p why × ((pieces : List (List ℕ)) × (k : ℕ)
    × (acts' ≡ (acts ++ reads p from pieces) ++ Failed (ReadAt p (from + length (concat pieces)) k) ∷ []))

-- A segment was opened and measured, and what follows its first bytes was read. So many of it come before zeros at
-- its end. Nothing else was asked.
abbrev pub FindsTorn : ℕ → ℕ → Result ℕ DiskFault → List Act → List Act → Type 0
FindsTorn number len (Ok n) acts acts' = (size : ℕ) × ReadsTorn (place.Segment number) len (size - len) (Ok n)
    ((acts ++ Did (OpenToRead (place.Segment number)) ∷ []) ++ Measured (place.Segment number) size ∷ []) acts'
FindsTorn number len (Err why) acts acts' = (IsAt (place.Segment number) why
    × ((acts' ≡ acts ++ Failed (OpenToRead (place.Segment number)) ∷ [])
    ⊎ (acts' ≡ (acts ++ Did (OpenToRead (place.Segment number)) ∷ []) ++ Failed (Measure (place.Segment number)) ∷ [])))
    ⊎ ((size : ℕ) × ReadsTorn (place.Segment number) len (size - len) (Err why)
    ((acts ++ Did (OpenToRead (place.Segment number)) ∷ []) ++ Measured (place.Segment number) size ∷ []) acts')

-- no file has more bytes than a word says
abbrev pub HasLength : ℕ → ℕ → Type 0
HasLength len n = len + n < 2 ^ 64

-- A file was measured, and nothing else was asked. It has this size, or it does not.
pub record HasSize (p : Place) (len : ℕ) (has : Bool) (acts acts' : List Act) : Type 0 where
  pub size : Result ℕ DiskFault
  pub measured : acts' ≡ acts ++ size_by p size ∷ []
  pub is : IsTrue has → size ≡ Ok len
  pub is_not : size ≡ Ok len → IsTrue has

-- ---- bytes are copied

-- A piece was read at a place of the span, and then written at the same place of the other file.
abbrev pub CopiesPiece : {T : Type 0} → Span → ℕ → Result T DiskFault → List ℕ → List Act → List Act → Type 0
CopiesPiece span at (Ok done) piece acts acts' =
    acts' ≡ (acts ++ GaveAt (place.Segment span.segment) (span.from + at) piece ∷ []) ++ Did (Write span.to at piece) ∷ []
CopiesPiece span at (Err why) piece acts acts' =
    (IsAt (place.Segment span.segment) why × (acts' ≡ acts ++ Failed (ReadAt (place.Segment span.segment) (span.from + at) (length piece)) ∷ []))
    ⊎ (IsAt span.to why
    × (acts' ≡ (acts ++ GaveAt (place.Segment span.segment) (span.from + at) piece ∷ []) ++ Failed (Write span.to at piece) ∷ []))

-- each piece was read and written, one behind another
abbrev pub copied : Span → ℕ → List (List ℕ) → List Act
copied span at [] = []
copied span at (piece ∷ pieces) = GaveAt (place.Segment span.segment) (span.from + at) piece ∷ Did (Write span.to at piece)
    ∷ copied span (at + length piece) pieces

-- This number of bytes of a segment was copied, in order, and nothing else was asked.
abbrev pub Copies : {T : Type 0} → Span → ℕ → Result T DiskFault → List Act → List Act → Type 0
Copies span len (Ok done) acts acts' = (pieces : List (List ℕ)) × (length (concat pieces) ≡ len) × (acts' ≡ acts ++ copied span 0 pieces)
Copies span len (Err why) acts acts' = (pieces : List (List ℕ)) × (piece : List ℕ) × (length (concat pieces) ≤ len)
    × CopiesPiece {T = Unit {0}} span (length (concat pieces)) (Err why) piece (acts ++ copied span 0 pieces) acts'

-- a segment was opened, and the other file was made anew
abbrev pub opened : Span → Bool → List Act → List Act
opened span removed acts = (acts ++ Did (OpenToRead (place.Segment span.segment)) ∷ []) ++ act_if removed (Remove span.to) ∷ []

abbrev pub made : Span → Bool → List Act → List Act
made span removed acts = opened span removed acts ++ Did (Make span.to) ∷ []

abbrev pub FailsToMake : Span → DiskFault → List Act → List Act → Type 0
FailsToMake span why acts acts' = (IsAt (place.Segment span.segment) why × (acts' ≡ acts ++ Failed (OpenToRead (place.Segment span.segment)) ∷ []))
    ⊎ ((removed : Bool) × IsAt span.to why × (acts' ≡ opened span removed acts ++ Failed (Make span.to) ∷ []))

-- This number of bytes of a segment was copied to a new file, in order, and that was secured whole. Nothing else was
-- asked.
abbrev pub WritesCopy : {T : Type 0} → Span → ℕ → Result T DiskFault → List Act → List Act → Type 0
WritesCopy span len (Ok file) acts acts' = (removed : Bool) × (all : List Act)
    × Copies {T = Unit {0}} span len (Ok tt) (made span removed acts) all × (acts' ≡ all ++ Did (Secure span.to) ∷ [])
WritesCopy span len (Err why) acts acts' = FailsToMake span why acts acts'
    ⊎ ((removed : Bool) × Copies {T = Unit {0}} span len (Err why) (made span removed acts) acts')
    ⊎ ((removed : Bool) × (all : List Act) × Copies {T = Unit {0}} span len (Ok tt) (made span removed acts) all
    × IsAt span.to why × (acts' ≡ all ++ Failed (Secure span.to) ∷ []))

-- The same. If it failed, the new file was removed.
abbrev pub TriesCopy : {T : Type 0} → Span → ℕ → Result T DiskFault → List Act → List Act → Type 0
TriesCopy span len (Ok file) acts acts' = WritesCopy {T = Unit {0}} span len (Ok tt) acts acts'
TriesCopy span len (Err why) acts acts' = (tried : List Act) × WritesCopy {T = Unit {0}} span len (Err why) acts tried × Removes span.to tried acts'

-- ---- a segment is written anew

-- what follows the first bytes of a segment, to a file beside it
abbrev pub torn_span : ℕ → ℕ → Span
torn_span number len = record { segment = number; from = len; to = place.NewTorn number }

-- how the file of what is torn gets its name
abbrev pub names_torn : ℕ → List Ask
names_torn number = Rename (place.NewTorn number) (place.Torn number) ∷ Secure place.Folder ∷ []

-- What was found torn was copied to a file beside, which then got its name. If nothing was, nothing else was asked.
abbrev pub KeepsFound : {T : Type 0} → ℕ → ℕ → ℕ → Result T DiskFault → List Act → List Act → Type 0
KeepsFound number len zero (Ok done) acts acts' = acts' ≡ acts
KeepsFound number len zero (Err why) acts acts' = ⊥
KeepsFound number len (suc n) (Ok done) acts acts' = (copy : List Act)
    × TriesCopy {T = Unit {0}} (torn_span number len) (suc n) (Ok tt) acts copy × (acts' ≡ done_all copy (names_torn number))
KeepsFound number len (suc n) (Err why) acts acts' = TriesCopy {T = Unit {0}} (torn_span number len) (suc n) (Err why) acts acts'
    ⊎ ((copy : List Act) × TriesCopy {T = Unit {0}} (torn_span number len) (suc n) (Ok tt) acts copy × FailsIn (names_torn number) why copy acts')

abbrev pub FailsToFind : {T : Type 0} → ℕ → ℕ → Result T DiskFault → List Act → List Act → Type 0
FailsToFind number len (Ok done) acts acts' = ⊥
FailsToFind number len (Err why) acts acts' = FindsTorn number len (Err why) acts acts'

-- What follows the first bytes of a segment, without the zeros at its end, was kept in a file beside it.
abbrev pub KeepsTorn : {T : Type 0} → ℕ → ℕ → Result T DiskFault → List Act → List Act → Type 0
KeepsTorn number len result acts acts' = FailsToFind number len result acts acts'
    ⊎ ((n : ℕ) × (found : List Act) × FindsTorn number len (Ok n) acts found × KeepsFound number len n result found acts')

-- the first bytes of a segment, to the file of the new one
abbrev pub new_span : ℕ → Span
new_span number = record { segment = number; from = 0; to = place.NewSegment number }

-- how the new file gets the name of the segment
abbrev pub names_segment : ℕ → List Ask
names_segment number = Rename (place.NewSegment number) (place.Segment number) ∷ Secure place.Folder ∷ []

-- What follows the first bytes was kept. Then the new file, which has these, got the name of the segment. If what
-- follows was not kept, the new file was removed.
abbrev pub NamesCopy : {T : Type 0} → ℕ → ℕ → Result T DiskFault → List Act → List Act → Type 0
NamesCopy number len (Ok done) acts acts' = (kept : List Act) × KeepsTorn {T = Unit {0}} number len (Ok tt) acts kept
    × (acts' ≡ done_all kept (names_segment number))
NamesCopy number len (Err why) acts acts' = ((kept : List Act) × KeepsTorn {T = Unit {0}} number len (Err why) acts kept
    × Removes (place.NewSegment number) kept acts')
    ⊎ ((kept : List Act) × KeepsTorn {T = Unit {0}} number len (Ok tt) acts kept × FailsIn (names_segment number) why kept acts')

abbrev pub FailsToCopy : {T : Type 0} → Span → ℕ → Result T DiskFault → List Act → List Act → Type 0
FailsToCopy span len (Ok done) acts acts' = ⊥
FailsToCopy span len (Err why) acts acts' = TriesCopy {T = Unit {0}} span len (Err why) acts acts'

-- The first bytes of a segment were copied to a new file, which was secured whole. What follows them was kept. Then the
-- new file got the name of the segment, and which files the directory has was secured. Nothing else was asked.
abbrev pub WritesAnew : {T : Type 0} → ℕ → ℕ → Result T DiskFault → List Act → List Act → Type 0
WritesAnew number len result acts acts' = FailsToCopy (new_span number) len result acts acts'
    ⊎ ((copy : List Act) × TriesCopy {T = Unit {0}} (new_span number) len (Ok tt) acts copy × NamesCopy number len result copy acts')

-- ---- or it is cut

abbrev pub CutsOpened : {T : Type 0} → ℕ → ℕ → Result T DiskFault → List Act → List Act → Type 0
CutsOpened number len (Ok file) acts acts' = (secured : List Act) × CutsTo {T = Unit {0}} (place.Segment number) len (Ok tt) acts secured
    × (acts' ≡ secured ++ Did (Secure place.Folder) ∷ [])
CutsOpened number len (Err why) acts acts' = CutsTo {T = Unit {0}} (place.Segment number) len (Err why) acts acts'
    ⊎ ((secured : List Act) × CutsTo {T = Unit {0}} (place.Segment number) len (Ok tt) acts secured
    × IsAt place.Folder why × (acts' ≡ secured ++ Failed (Secure place.Folder) ∷ []))

abbrev pub FailsToOpen : {T : Type 0} → Place → Result T DiskFault → List Act → List Act → Type 0
FailsToOpen p (Ok done) acts acts' = ⊥
FailsToOpen p (Err why) acts acts' = IsAt p why × (acts' ≡ acts ++ Failed (Open p) ∷ [])

-- A segment was cut to its first bytes and secured, and so was which files the directory has. Nothing else was asked.
abbrev pub CutsAsItIs : {T : Type 0} → ℕ → ℕ → Result T DiskFault → List Act → List Act → Type 0
CutsAsItIs number len result acts acts' = FailsToOpen (place.Segment number) result acts acts'
    ⊎ CutsOpened number len result (acts ++ Did (Open (place.Segment number)) ∷ []) acts'

-- the disk had no room for a new file, so the segment was cut
abbrev pub CutsInstead : {T : Type 0} → ℕ → ℕ → Result T DiskFault → List Act → List Act → Type 0
CutsInstead number len result acts acts' = (full : DiskFault) × (tried : List Act) × IsFull full
    × WritesAnew {T = Unit {0}} number len (Err full) acts tried × CutsAsItIs number len result tried acts'

-- A segment was written anew. It was cut only if the disk has no room for that.
abbrev pub Resumes : {T : Type 0} → ℕ → ℕ → Result T DiskFault → List Act → List Act → Type 0
Resumes number len (Ok file) acts acts' = WritesAnew {T = Unit {0}} number len (Ok tt) acts acts' ⊎ CutsInstead {T = Unit {0}} number len (Ok tt) acts acts'
Resumes number len (Err why) acts acts' = ((IsFull why → ⊥) × WritesAnew {T = Unit {0}} number len (Err why) acts acts')
    ⊎ CutsInstead {T = Unit {0}} number len (Err why) acts acts'
