-- A journal that is being read.
--     Reading                        what a reader shows
--     IsRead segment first text commits r   this text was read, and these commits are whole
--     HasStopped bytes segment first text commits r   it was read up to damage in these bytes
use Rattle.std.specs.Prelude.{◌≡◌, ◌<◌, ◌≤◌, ℕ, Bool, true, false, if◌then◌else◌, List, [], ◌∷◌, ◌++◌, ◌+◌, length, IsTrue, Result, Ok, Err}
use Rattle.std.specs.List.{list_all}
use Rattle.judy_journal.specs.declared.reader.Read.{Read}
use Rattle.judy_journal.specs.declared.reader.Read.TheVariants.{More, Whole}
use Rattle.judy_journal.specs.declared.damage.Damage.{Damage}
use Rattle.judy_journal.specs.declared.format.TheConstants.{COMMIT_LIMIT}
use Rattle.judy_journal.specs.Recoveries.{Found, FoundLast, IsDamaged}
use Rattle.judy_journal.specs.Journals.{Commit, AreCommits, header, joined, is_line, is_record, journal_text, sum_at}

-- the segment's number and the checksum that it continues from; the checksum after the last whole
-- commit; whether the header was read, and whether the last commit became whole; the records of that
-- commit, or of the one that is not whole yet; and what has come of the next line
pub record Reading : Type 0 where
  pub segment : ℕ
  pub first : List ℕ
  pub sum : List ℕ
  pub begun : Bool
  pub whole : Bool
  pub records : Commit
  pub line : List ℕ

-- without the commit that became whole
abbrev pub forgotten : Reading → Reading
forgotten r = record r { whole = false; records = if r.whole then [] else r.records }

-- the text of the header and the whole commits, if the header was read
abbrev pub front : Bool → ℕ → List ℕ → List Commit → List ℕ
front false segment first commits = []
front true segment first commits = journal_text segment first commits

-- the bytes that were read after that
abbrev pub tail_of : Reading → List ℕ
tail_of r = if r.whole then [] else joined r.records ++ r.line

-- this text was read, and these are its whole commits
pub record IsRead (segment : ℕ) (first text : List ℕ) (commits : List Commit) (r : Reading) : Type 0 where
  pub segment_is : r.segment ≡ segment
  pub first_is : r.first ≡ first
  pub text_is : text ≡ front r.begun segment first commits ++ tail_of r
  pub sum_is : r.sum ≡ sum_at first commits
  pub commits_are : AreCommits commits
  pub records_are : IsTrue (list_all is_record r.records)
  pub line_is : IsTrue (is_line r.line)
  pub none : r.begun ≡ false → (commits ≡ []) × (r.records ≡ []) × (r.whole ≡ false)
  pub done : r.whole ≡ true → r.line ≡ []

-- what a whole line was: the header or a record, the end of the commit of these records, or damage
abbrev pub HasEnded : Result Bool Damage → ℕ → List ℕ → List ℕ → List Commit → Commit → Reading → Type 0
HasEnded (Ok false) segment first text commits records r = IsRead segment first (text ++ 10 ∷ []) commits r × (r.whole ≡ false)
HasEnded (Ok true) segment first text commits records r =
    IsRead segment first (text ++ 10 ∷ []) (commits ++ records ∷ []) r × (r.whole ≡ true) × (r.records ≡ records)
HasEnded (Err damage) segment first text commits records r = (more : List ℕ) → IsDamaged damage segment first (text ++ 10 ∷ more)

-- the first line of the segment is one line, and not too long for one
abbrev pub HasShortHeader : ℕ → List ℕ → Type 0
HasShortHeader segment sum = IsTrue (is_line (header segment sum)) × (length (header segment sum) ≤ COMMIT_LIMIT)

-- Behind the text come these bytes, of which this is left. Whatever comes after them, these commits are all the first
-- whole ones of the file.
abbrev pub AreAllFirst : ℕ → List ℕ → List ℕ → List ℕ → List Commit → Reading → List ℕ → Type 0
AreAllFirst segment first text bytes commits r rest = HasShortHeader segment first → (more : List ℕ)
    → FoundLast segment first (text ++ (bytes ++ more)) commits (tail_of r ++ (rest ++ more))

-- Damage was found while a line was read, and of these bytes a front was taken. The line, or a front of
-- it, is held behind the records of its commit. No further whole commit comes next.
abbrev pub HasStopped : List ℕ → ℕ → List ℕ → List ℕ → List Commit → Reading → Type 0
HasStopped bytes segment first text commits r = (used : List ℕ) × (rest : List ℕ) × (used ++ rest ≡ bytes)
    × IsRead segment first (text ++ used) commits r × AreAllFirst segment first text bytes commits r rest

-- what was read of these bytes: all of them, and no commit became whole; or the bytes up to the end of
-- a commit, whose records the reader holds; or damage
abbrev pub HasRead : Result Read Damage → ℕ → List ℕ → List ℕ → List Commit → List ℕ → Reading → Type 0
HasRead (Ok More) segment first text commits bytes r = IsRead segment first (text ++ bytes) commits r × (r.whole ≡ false)
HasRead (Ok (Whole left)) segment first text commits bytes r = (used : List ℕ) × (rest : List ℕ) × (used ++ rest ≡ bytes) × (length rest ≡ left)
    × IsRead segment first (text ++ used) (commits ++ r.records ∷ []) r × (r.whole ≡ true)
HasRead (Err damage) segment first text commits bytes r = IsDamaged damage segment first (text ++ bytes)

-- the same of a line, by the rest of it without its line feed
abbrev pub HasTaken : Result Bool Damage → ℕ → List ℕ → List ℕ → List Commit → List ℕ → Reading → Type 0
HasTaken (Ok false) segment first text commits chunk r = IsRead segment first (text ++ (chunk ++ 10 ∷ [])) commits r × (r.whole ≡ false)
HasTaken (Ok true) segment first text commits chunk r =
    IsRead segment first (text ++ (chunk ++ 10 ∷ [])) (commits ++ r.records ∷ []) r × (r.whole ≡ true)
HasTaken (Err damage) segment first text commits chunk r = (more : List ℕ) → IsDamaged damage segment first (text ++ (chunk ++ 10 ∷ more))

-- the text is whole, and the next one begins; or it is torn
abbrev pub HasClosed : Result (Unit {0}) Damage → ℕ → List ℕ → List ℕ → List Commit → Reading → Type 0
HasClosed (Ok done) segment first text commits r = Found segment first text commits [] × IsRead (segment + 1) (sum_at first commits) [] [] r
HasClosed (Err damage) segment first text commits r = IsDamaged damage segment first text

-- the reader of the segment after this one
abbrev pub next_of : Reading → Reading
next_of r = record {
  segment = r.segment + 1;
  first = r.sum;
  sum = r.sum;
  begun = false;
  whole = false;
  records = [];
  line = [];
}

-- the same, from where this one continued
abbrev pub restarted : Reading → Reading
restarted r = next_of (record r { sum = r.first })

-- a commit that became whole took at least a byte
abbrev pub LeavesLess : Read → ℕ → Type 0
LeavesLess More room = Unit {0}
LeavesLess (Whole left) room = left < room

-- what a reader says of a text is found in it, between two commits or in the middle of one
abbrev pub ReadingIsFound : Type 0
ReadingIsFound = (segment : ℕ) (first text : List ℕ) (commits : List Commit) (r : Reading) → IsRead segment first text commits r
    → r.begun ≡ true → Found segment first text commits (tail_of r)
