-- The files that a recovery leaves.
use Rattle.std.proofs.Common.{◌≡◌, ℕ, ◌+◌, Bool, true, false, List, [], ◌∷◌, ◌++◌, length, take, sym, ◌∙◌, ap, subst, refl, arith, append-nil}
use Rattle.std.proofs.Math.Seq.{take-append_seam}
use Rattle.std.proofs.lemmas.List.{length-append}
use Rattle.judy_journal.specs.Acts.{AreWhole, Left}
use Rattle.judy_journal.specs.Journals.{Commit, journal_text, sum_at}
use Rattle.judy_journal.specs.Readings.{front, tail_of}
use Rattle.judy_journal.specs.Recovered.{AreFound, RecoveredIsWhole, files_kept, synced_files}
use Rattle.judy_journal.specs.Recoveries.{Found}
use Rattle.judy_journal.proofs.Gathering.{found-append}

whole_files : (k : ℕ) (sum : List ℕ) (done : List Left) (before : List Commit) → AreFound k sum done before → AreWhole k sum (synced_files done) before
whole_files k sum [] before none = none
whole_files k sum (d ∷ done) before (here, later, joins, number, found, rest) = (
  here,
  later,
  joins,
  record {
    number_is = number;
    synced_is = found.text_is ∙ append-nil (journal_text (k + 1) sum here);
    unsynced_is = refl;
    commits_are = found.commits_are;
  },
  whole_files (k + 1) (sum_at sum here) done later rest,
)

length-synced : (done : List Left) → length (synced_files done) ≡ length done
length-synced [] = refl
length-synced (d ∷ done) = omega (arith, length-synced done)

pub recovered_is_whole : RecoveredIsWhole
recovered_is_whole k sum done text commits r p h at = by r.reading.begun refl
  where
    number : ℕ
    number = k + length done + 1

    first : List ℕ
    first = sum_at sum h.before

    by : (b : Bool) → r.reading.begun ≡ b → AreWhole k sum (files_kept b k done text p.size) commits
        × (p.segment ≡ k + length (files_kept b k done text p.size)) × (p.sum ≡ sum_at sum commits)
    by true has =
        let l : Left = record { number = number; bytes = take p.size text } in
        let all : text ≡ journal_text number first h.here ++ tail_of r.reading =
        h.read.text_is ∙ ap (λ b. front b number first h.here ++ tail_of r.reading) has in
        let size : p.size ≡ length (journal_text number first h.here) =
        omega (arith, at.size_is has, ap length all, length-append (journal_text number first h.here) (tail_of r.reading)) in
        let cut : take p.size text ≡ journal_text number first h.here =
        ap (λ n. take n text) size ∙ ap (take (length (journal_text number first h.here))) all ∙ take-append_seam (journal_text number first h.here) (tail_of r.reading) in
        let found : Found number first (take p.size text) h.here [] =
        record { text_is = cut ∙ sym (append-nil (journal_text number first h.here)); commits_are = h.read.commits_are; unended = refl } in (
          subst (λ v. AreWhole k sum (synced_files (done ++ l ∷ [])) v) (sym h.joins)
              (whole_files k sum (done ++ l ∷ []) (h.before ++ h.here) (found-append k sum done l h.before h.here h.found refl found)),
          omega (arith, at.here has, length-synced (done ++ l ∷ []), length-append done (l ∷ [])),
          at.sum_is,
        )
    by false not =
        let none = (h.read.none not).0 in (
          subst (λ v. AreWhole k sum (synced_files done) v) (sym (h.joins ∙ ap (λ v. h.before ++ v) none ∙ append-nil h.before))
              (whole_files k sum done h.before h.found),
          omega (arith, at.before not, length-synced done),
          at.sum_is,
        )
