-- What is read of a journal's text.
--     Found segment sum text commits tail     these commits are whole, and this comes after them, a part of another one
--     Reaches segment sum text commits tail   these are all the first whole commits, whatever comes after them
--     FoundLast segment sum text commits tail   the same of a last file, which may lack its first line
--     IsTold segment written file             whatever is found in the file was written to it
--     IsDamaged damage segment sum text       the text is damaged
--     RecoveryIsExact                         after a crash: the synced commits and the first of the others
--     CrashesKeepMarks                        a front of what was written has no other header and no other mark
use Rattle.std.specs.Prelude.{◌≡◌, ◌≢◌, ◌⊎◌, ℕ, ◌<◌, ◌≤◌, ◌^◌, true, List, [], ◌∷◌, ◌++◌, length, IsTrue}
use Rattle.std.specs.List.{list_all}
use Rattle.judy_model.specs.Stream.{lines_of}
use Rattle.judy_journal.specs.declared.damage.Damage.{Damage}
use Rattle.judy_journal.specs.declared.damage.Damage.TheVariants as damage
use Rattle.judy_journal.specs.declared.format.TheConstants.{COMMIT_LIMIT, LAST_SEGMENT}
use Rattle.judy_journal.specs.Disks.{MayLeave}
use Rattle.judy_journal.specs.Journals.{Commit, AreCommits, joined, is_commit, is_line, is_mark, is_record, header, mark, journal_text, sum_at}
use Rattle.judy_journal.specs.Writes.{commit_text, header_text}

-- no whole line of these bytes ends a commit
abbrev pub IsUnended : List ℕ → Type 0
IsUnended bytes = IsTrue (list_all is_record (lines_of bytes))

-- the text is that of these commits, byte by byte and with their checksums, and then bytes that are
-- no whole commit
pub record Found (segment : ℕ) (sum text : List ℕ) (commits : List Commit) (tail : List ℕ) : Type 0 where
  pub text_is : text ≡ journal_text segment sum commits ++ tail
  pub commits_are : AreCommits commits
  pub unended : IsUnended tail

-- The text begins with these commits, byte by byte and with their checksums, and no further whole commit comes next.
-- Whatever else comes next is the tail: nothing, a part of a commit, damage, and anything behind that.
pub record Reaches (segment : ℕ) (sum text : List ℕ) (commits : List Commit) (tail : List ℕ) : Type 0 where
  pub begins : text ≡ journal_text segment sum commits ++ tail
  pub commits_are : AreCommits commits
  pub no_next : (next : Commit) (rest : List ℕ) → IsTrue (is_commit next) → tail ≢ commit_text (sum_at sum commits) next ++ rest

-- the text does not begin with the first line of the segment, so it has no commit
pub record IsHeadless (segment : ℕ) (sum text : List ℕ) (commits : List Commit) (tail : List ℕ) : Type 0 where
  pub other : (rest : List ℕ) → text ≢ header_text segment sum ++ rest
  pub none : commits ≡ []
  pub tail_is : tail ≡ text

-- all the first whole commits of a last file, and what comes after them
abbrev pub FoundLast : ℕ → List ℕ → List ℕ → List Commit → List ℕ → Type 0
FoundLast segment sum text commits tail = Reaches segment sum text commits tail ⊎ IsHeadless segment sum text commits tail

-- Whatever is found in this file was written to it: the text of its first whole commits begins all that was written.
-- Checksums tell all other bytes.
abbrev pub IsTold : ℕ → List ℕ → List ℕ → Type 0
IsTold segment written file = (sum : List ℕ) (commits : List Commit) (tail : List ℕ) → IsTrue (is_line sum)
    → Reaches segment sum file commits tail → (lost : List ℕ) × (journal_text segment sum commits ++ lost ≡ written)

-- the first line is not the header
pub record HasOtherHeader (segment : ℕ) (sum text : List ℕ) : Type 0 where
  pub line : List ℕ
  pub more : List ℕ
  pub text_is : text ≡ line ++ 10 ∷ more
  pub one : IsTrue (is_line line)
  pub other : line ≢ header segment sum

-- after these commits and records comes a line that should end their commit, and has another count
-- or another checksum
pub record HasOtherMark (segment : ℕ) (sum text : List ℕ) : Type 0 where
  pub commits : List Commit
  pub commits_are : AreCommits commits
  pub records : Commit
  pub records_are : IsTrue (list_all is_record records)
  pub line : List ℕ
  pub more : List ℕ
  pub text_is : text ≡ journal_text segment sum commits ++ joined (records ++ line ∷ []) ++ more
  pub one : IsTrue (is_line line)
  pub marks : is_mark line ≡ true
  pub other : line ≢ mark (sum_at sum commits) records

-- after these commits come too many records without an end of their commit, or a line that is too
-- long
pub record HasNoMark (segment : ℕ) (sum text : List ℕ) : Type 0 where
  pub commits : List Commit
  pub commits_are : AreCommits commits
  pub records : Commit
  pub records_are : IsTrue (list_all is_record records)
  pub line : List ℕ
  pub more : List ℕ
  pub text_is : text ≡ journal_text segment sum commits ++ (joined records ++ line) ++ more
  pub one : IsTrue (is_line line)
  pub long : (COMMIT_LIMIT < length (joined records)) ⊎ (COMMIT_LIMIT < length line)

-- the header alone is too long
pub record HasNoHeader (text : List ℕ) : Type 0 where
  pub front : List ℕ
  pub more : List ℕ
  pub text_is : text ≡ front ++ more
  pub one : IsTrue (is_line front)
  pub long : COMMIT_LIMIT < length front

-- after these commits comes a part of another one, or not even the first line is whole
abbrev pub IsTorn : ℕ → List ℕ → List ℕ → Type 0
IsTorn segment sum text = ((commits : List Commit) × (tail : List ℕ) × Found segment sum text commits tail × (0 < length tail)) ⊎ IsTrue (is_line text)

-- what each kind of damage says
abbrev pub IsDamaged : Damage → ℕ → List ℕ → List ℕ → Type 0
IsDamaged damage.Header segment sum text = HasOtherHeader segment sum text
IsDamaged damage.Mark segment sum text = HasOtherMark segment sum text
IsDamaged damage.Long segment sum text = HasNoMark segment sum text
IsDamaged damage.NoHeader segment sum text = HasNoHeader text
IsDamaged damage.Torn segment sum text = IsTorn segment sum text
IsDamaged damage.Number segment sum text = LAST_SEGMENT ≤ segment
IsDamaged damage.Size segment sum text = 2 ^ 64 ≤ length text

-- After a crash, the first whole commits of the file are those that were synced and the first of the others, whatever
-- comes after them.
abbrev pub RecoveryIsExact : Type 0
RecoveryIsExact = (segment : ℕ) (sum : List ℕ) (kept more : List Commit) (file : List ℕ)
    → segment < 2 ^ 64 → IsTrue (is_line sum) → AreCommits (kept ++ more)
    → MayLeave (journal_text segment sum kept) file → IsTold segment (journal_text segment sum (kept ++ more)) file
    → (found : List Commit) (tail : List ℕ) → Reaches segment sum file found tail
    → (taken : List Commit) × (lost : List Commit) × (taken ++ lost ≡ more) × (found ≡ kept ++ taken)

-- in a front of what was written no header and no mark is told as another one
abbrev pub CrashesKeepMarks : Type 0
CrashesKeepMarks = (segment : ℕ) (sum : List ℕ) (commits : List Commit) (file lost : List ℕ)
    → segment < 2 ^ 64 → IsTrue (is_line sum) → AreCommits commits → file ++ lost ≡ journal_text segment sum commits
    → (HasOtherHeader segment sum file → ⊥) × (HasOtherMark segment sum file → ⊥)
