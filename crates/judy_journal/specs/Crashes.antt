-- What recovery finds in all files of a journal.
--     FoundAll segment sum left commits tail   the files after this segment have these commits, and the last one this tail
--     JournalIsExact                           after a crash: the synced commits and the first of the others
use Rattle.std.specs.Prelude.{◌≡◌, ℕ, ◌<◌, ◌+◌, ◌^◌, List, [], ◌∷◌, ◌++◌, IsTrue}
use Rattle.judy_journal.specs.Acts.{DiskAct, File, Journal, Left, AreWhole, IsWriting, MayLeaveAll, disk_after, standing}
use Rattle.judy_journal.specs.Journals.{Commit, is_line, sum_at}
use Rattle.judy_journal.specs.Recoveries.{Found, FoundLast}

-- The files are those of the segments after this one, without a gap. Each is whole but the last, and
-- each continues the checksum of the one before. Of the last one these are all the first whole commits,
-- whatever comes after them.
abbrev pub FoundAll : ℕ → List ℕ → List Left → List Commit → List ℕ → Type 0
FoundAll segment sum [] commits tail = (commits ≡ []) × (tail ≡ [])
FoundAll segment sum (l ∷ []) commits tail = (l.number ≡ segment + 1) × FoundLast (segment + 1) sum l.bytes commits tail
FoundAll segment sum (l ∷ m ∷ left) commits tail = (here : List Commit) × (later : List Commit) × (commits ≡ here ++ later)
    × (l.number ≡ segment + 1) × Found (segment + 1) sum l.bytes here [] × FoundAll (segment + 1) (sum_at sum here) (m ∷ left) later tail

-- A writer goes on after whole files. After a crash, whatever is found is the commits that were in
-- them, those that were synced since, and the first of the others.
abbrev pub JournalIsExact : Type 0
JournalIsExact = (segment : ℕ) (sum : List ℕ) (files : List File) (before : List Commit) (acts : List DiskAct) (last : Journal) (left : List Left)
    → last.segment < 2 ^ 64 → IsTrue (is_line sum) → AreWhole segment sum files before
    → IsWriting (standing segment sum files before) acts last → MayLeaveAll (disk_after files acts) left
    → (found : List Commit) (tail : List ℕ) → FoundAll segment sum left found tail
    → (taken : List Commit) × (lost : List Commit) × (taken ++ lost ≡ last.more) × (found ≡ last.kept ++ taken)
