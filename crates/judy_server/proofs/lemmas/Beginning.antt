-- The start with a journal is one that a crash can follow.
--     whole-append     whole files, and one that has only its first line
--     start-goes-on    what was played, and where the writer goes on
use Rattle.std.proofs.Common.{◌≡◌, inl, inr, ℕ, ◌+◌, List, [], ◌∷◌, ◌++◌, length, Option, Some, None, refl, sym, ◌∙◌, ap, ap₂, subst, arith, length-append}
use Rattle.std.specs.Prelude.{IsTrue}
use Rattle.judy_journal.specs.Acts.{AreWhole, File}
use Rattle.judy_journal.specs.Journals.{Commit, is_line, journal_text, sum_after, sum_at}
use Rattle.judy_journal.specs.Writes.{Writing, all_records, begun}
use Rattle.judy_programs.specs.Journaled.{HasMade, writer_there}
use Rattle.judy_recovery.specs.Whole.{IsStart, segment_before}
use Rattle.judy_server.specs.Crashes.{HasBegunWith, HasResumed, IsNew, StartsGoOn, Stock}
use Rattle.judy_server.proofs.lemmas.Begun.{begun-table}

-- the checksum after commits and more
sum-append : (sum : List ℕ) (a b : List Commit) → sum_at sum (a ++ b) ≡ sum_at (sum_at sum a) b
sum-append sum [] b = refl
sum-append sum (c ∷ a) b = sum-append (sum_after sum c) a b

-- a file of this number that has only its first line, and is synced
abbrev header_file : ℕ → List ℕ → File
header_file number sum = record { number = number; synced = journal_text number sum []; unsynced = [] }

-- whole files, and one more that has only its first line
whole-append : (segment : ℕ) (sum : List ℕ) (files : List File) (commits : List Commit) → AreWhole segment sum files commits
    → AreWhole segment sum (files ++ header_file (segment + length files + 1) (sum_at sum commits) ∷ []) commits
whole-append segment sum [] commits none = (
  [],
  [],
  none,
  record { number_is = omega arith; synced_is = ap₂ (λ n s. journal_text n s []) (omega arith) (ap (sum_at sum) none); unsynced_is = refl; commits_are = refl },
  refl,
)
whole-append segment sum (f ∷ files) commits (here, later, joins, whole, rest) = (
  here,
  later,
  joins,
  whole,
  subst (λ g. AreWhole (segment + 1) (sum_at sum here) (files ++ g ∷ []) later)
      (ap₂ header_file (omega arith) (sym (sum-append sum here later) ∙ ap (sum_at sum) (sym joins)))
      (whole-append (segment + 1) (sum_at sum here) files later rest),
)

-- the checksum of the snapshot, or the first one, is one line
start-line : (snapshot : Option ℕ) (sum : List ℕ) (commits : List Commit) → IsStart snapshot sum commits → IsTrue (is_line sum)
start-line None sum commits (is, none) = ap is_line is
start-line (Some number) sum commits (line, bytes, is) = line

-- one more file behind these
longer : (files : List File) (f : File) → files ++ f ∷ [] ≡ [] → ⊥
longer [] f e = cc
longer (g ∷ files) f e = cc

pub start-goes-on : StartsGoOn
start-goes-on has secret reserve how config socket watch limits log log' h = by h.made
  where
    sum : List ℕ
    sum = h.kept.sum

    segment : ℕ
    segment = segment_before h.kept.snapshot

    files : List File
    files = h.played.resumed.files

    commits : List Commit
    commits = h.played.resumed.journal.commits

    stock : List File → Stock
    stock f = record { snapshot = all_records h.kept.unpacked; segment = segment; sum = sum; files = f; commits = commits }

    new : IsNew h.fresh
    new = (secret, reserve, h.begun.opened.tenants, h.begun.opened.fresh)

    line : IsTrue (is_line sum)
    line = start-line h.kept.snapshot sum h.kept.unpacked h.played.resumed.journal.start

    number_is : h.at.segment ≡ segment + length files
    number_is = h.played.resumed.segment_is

    started : HasBegunWith (all_records h.kept.unpacked ++ all_records commits) h.before
    started = record {
      first = h.fresh;
      new = new;
      table = h.played.table;
      free = h.played.free;
      lifted = h.played.lifted;
      played = h.played.played;
      are = h.played.resumed.journal.played;
      limited = h.played.limited;
    }

    in-force : h.before.held.tenants ≡ h.begun.opened.tenants
    in-force =
        (begun-table (all_records h.kept.unpacked ++ all_records commits) h.before started).tenants
        ∙ h.begun.opened.fresh.tenants

    Goal : Type 0
    Goal = (s : Stock) × (s.snapshot ≡ all_records h.kept.unpacked) × (s.segment ≡ segment) × (s.sum ≡ sum) × (resumed : HasResumed s h.writer h.before)
        × (resumed.started.first ≡ h.fresh) × (h.before.held.tenants ≡ h.begun.opened.tenants)

    there : h.writer ≡ writer_there h.at → (files ≡ [] → ⊥) → Goal
    there is some = (
      stock files,
      refl,
      refl,
      refl,
      record {
        line = line;
        some = some;
        whole = h.played.resumed.whole;
        segment_is = ap (λ (x : Writing). x.segment) is ∙ number_is;
        sum_is = ap (λ (x : Writing). x.sum) is ∙ h.played.resumed.sum_is;
        none = ap (λ (x : Writing). x.records) is;
        started = started;
      },
      refl,
      in-force,
    )

    anew : h.writer ≡ begun (writer_there h.at) → Goal
    anew is =
        let last : File = header_file (segment + length files + 1) (sum_at sum commits) in (
          stock (files ++ last ∷ []),
          refl,
          refl,
          refl,
          record {
            line = line;
            some = longer files last;
            whole = whole-append segment sum files commits h.played.resumed.whole;
            segment_is = ap (λ (x : Writing). x.segment) is ∙ omega (arith, number_is, length-append files (last ∷ []));
            sum_is = ap (λ (x : Writing). x.sum) is ∙ h.played.resumed.sum_is;
            none = ap (λ (x : Writing). x.records) is;
            started = started;
          },
          refl,
          in-force,
        )

    by : HasMade h.at h.writer h.start h.ready → Goal
    by (inl (goes, is, same)) =
        let (others, last, joins, size) = h.played.resumed.size_is goes in
        there is (λ none. longer others last (sym joins ∙ none))
    by (inr (begins, next)) = anew next.0
