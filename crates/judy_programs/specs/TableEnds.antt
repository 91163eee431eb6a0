-- How the end of the table is found, in bytes that come pull by pull.
use Rattle.std.specs.Prelude.{◌≡◌, ◌<◌, ◌≤◌, ◌+◌, ◌⊎◌, ℕ, List, [], ◌∷◌, ◌++◌, codes, length, take, drop, Option}
use Rattle.judy_protocol.specs.Serving.{pull_limit}
use Rattle.judy_protocol.specs.Talks.{HasNoLf}
use Rattle.std.specs.Io.KnownBytes.{IsAtEnd}
use Rattle.judy_stream.specs.Streams.{counted}
use Rattle.judy_programs.specs.Tables.{IsLong, IsOpen, IsTable, IsWhole, table_limit}
use Rattle.judy_programs.specs.declared.table_end.TableEnd.{TableEnd}
use Rattle.judy_programs.specs.declared.table_end.TableEnd.TheVariants as found
use Rattle.judy_programs.specs.declared.config.FileRead.{FileRead}
use Rattle.judy_programs.specs.declared.config.FileRead.TheVariants as file
use Rattle.judy_programs.specs.declared.reading.Reading.{Reading}
use Rattle.judy_programs.specs.declared.reading.Reading.TheVariants as reading

-- this many bytes are whole lines, none of which ends the table
pub record HasLines (bytes : List ℕ) (at : ℕ) : Type 0 where
  pub done : List ℕ
  pub rest : List ℕ
  pub cut : bytes ≡ done ++ rest
  pub count : at ≡ length done
  pub whole : IsWhole done

-- the bytes are the beginning of a line that ends the table
abbrev pub BeginsMark : List ℕ → Type 0
BeginsMark rest = (more : List ℕ) × (rest ++ more ≡ codes "---" ++ 13 ∷ [])

-- after this many bytes of whole lines, these are the beginning of a line after which the table may
-- end
abbrev pub MayEnd : ℕ → List ℕ → Type 0
MayEnd at rest = BeginsMark rest ⊎ (at + length rest < table_limit)

-- this many bytes are whole lines, what follows them is not yet a line, and a table that is short
-- enough may still end
pub record IsSoFar (bytes : List ℕ) (at : ℕ) : Type 0 where
  pub done : List ℕ
  pub rest : List ℕ
  pub cut : bytes ≡ done ++ rest
  pub count : at ≡ length done
  pub whole : IsWhole done
  pub line : HasNoLf rest
  pub few : at ≤ table_limit
  pub may : MayEnd at rest

-- what was found in the bytes
abbrev pub Finds : TableEnd → List ℕ → Type 0
Finds (found.At text script) bytes = IsTable bytes (take text bytes) (drop script bytes)
    × (text ≤ table_limit) × (text ≤ length bytes) × (script ≤ length bytes)
Finds found.Nowhere bytes = IsLong bytes
Finds (found.Later at) bytes = IsSoFar bytes at

-- how the reading of the table ended: the bytes that were read, and what is left of the source
abbrev pub Reads : Reading → List ℕ → Option (List ℕ) → Type 0
Reads (reading.Table text script) bytes left = IsTable bytes (take text bytes) (drop script bytes)
    × (text ≤ table_limit) × (text ≤ length bytes) × (script ≤ length bytes) × (length bytes < script + pull_limit)
Reads reading.Cut bytes left = IsOpen bytes × IsAtEnd left
Reads reading.Long bytes left = IsLong bytes
Reads reading.Fault bytes left = IsOpen bytes

-- the counts of ends and of failed reads: each cause counts once, and nothing else does
abbrev pub reading_ends : Reading → ℕ → ℕ
reading_ends (reading.Table text script) count = count
reading_ends reading.Cut count = counted count
reading_ends reading.Long count = count
reading_ends reading.Fault count = count

abbrev pub reading_faults : Reading → ℕ → ℕ
reading_faults (reading.Table text script) count = count
reading_faults reading.Cut count = count
reading_faults reading.Long count = count
reading_faults reading.Fault count = counted count

-- how the reading of a file ended: the bytes that were read, and what is left of it
abbrev pub IsReadBy : FileRead → List ℕ → Option (List ℕ) → Type 0
IsReadBy file.Whole bytes left = (length bytes ≤ table_limit) × IsAtEnd left
IsReadBy file.Long bytes left = table_limit < length bytes
IsReadBy file.Fault bytes left = length bytes ≤ table_limit

-- the counts of ends and of failed reads: each cause counts once, and nothing else does
abbrev pub file_ends : FileRead → ℕ → ℕ
file_ends file.Whole count = counted count
file_ends file.Long count = count
file_ends file.Fault count = count

abbrev pub file_faults : FileRead → ℕ → ℕ
file_faults file.Whole count = count
file_faults file.Long count = count
file_faults file.Fault count = counted count
