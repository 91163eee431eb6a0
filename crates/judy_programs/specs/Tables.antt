-- Where the table of tenants ends in the input, and what follows it.
--     IsTable stream text script the stream is this table, a line `---`, and then the script
--     IsLong given               however the input goes on, it has no table of at most 65,536 bytes
--     IsOpen given               no table has ended yet, and one of at most 65,536 bytes still may
--     MayPullTable source r      a source may be pulled while that is so of what it gave
use Rattle.std.specs.Prelude.{◌≡◌, ◌<◌, ◌≤◌, ◌||◌, ℕ, Bool, true, false, List, [], ◌∷◌, ◌++◌, codes, length, Option}
use Rattle.std.specs.List.{list_any}
use Rattle.std.specs.Str.{bytes_eq}
use Rattle.std.specs.Io.KnownBytes.{Consumes}
use Rattle.judy_stream.specs.Streams.{SourceOf}
use Rattle.judy_model.specs.Stream.{lines_of, rest_of}
use Rattle.judy_protocol.specs.Serving.{pull_limit}

-- the line that ends the table: three dashes, with or without a carriage return
abbrev pub is_mark : List ℕ → Bool
is_mark line = bytes_eq line (codes "---") || bytes_eq line (codes "---" ++ 13 ∷ [])

-- whole lines, none of which ends the table
pub record IsWhole (text : List ℕ) : Type 0 where
  pub rest : rest_of text ≡ []
  pub marks : list_any is_mark (lines_of text) ≡ false

-- the stream is the text of a table, the first line that ends one, and then the script
pub record IsTable (stream text script : List ℕ) : Type 0 where
  pub mark : List ℕ
  pub cut : stream ≡ text ++ (mark ++ 10 ∷ script)
  pub ends : is_mark mark ≡ true
  pub whole : IsWhole text

-- the longest text of a table
abbrev pub table_limit : ℕ
table_limit = 65536

-- however the input goes on, it has no table that is short enough
abbrev pub IsLong : List ℕ → Type 0
IsLong given = (more text script : List ℕ) → IsTable (given ++ more) text script → table_limit < length text

-- no table has ended yet, and one that is short enough still may
pub record IsOpen (given : List ℕ) : Type 0 where
  pub marks : list_any is_mark (lines_of given) ≡ false
  pub more : List ℕ
  pub text : List ℕ
  pub script : List ℕ
  pub table : IsTable (given ++ more) text script
  pub short : length text ≤ table_limit

-- So far the source gave bytes in which no table has ended and one still may. Now the source may be
-- pulled.
abbrev pub ReadsOn : Option (List ℕ) → Option (List ℕ) → Type 0
ReadsOn left left' = (given : List ℕ) × Consumes left left' given × IsOpen given

-- From a state of the source on, it may be pulled, into at most 4,096 bytes, while no table has ended
-- in what it gave and one still may.
abbrev pub MayPullTable : {R : Type 0} → SourceOf R → R → Type 0
MayPullTable {R} source first = (now : R) (room : ℕ) → room ≤ pull_limit
    → ReadsOn (source.left first) (source.left now) → source.can_pull now room
