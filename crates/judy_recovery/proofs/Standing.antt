-- Where a writer goes on behind what was recovered.
use Rattle.std.proofs.Common.{◌≡◌, ◌<◌, ◌+◌, ◌^◌, ℕ, suc, Bool, true, false, List, [], ◌∷◌, ◌++◌, length, take, Option, Some, None}
use Rattle.std.proofs.Common.{refl, sym, ◌∙◌, ap, subst, arith, length-append, length-take}
use Rattle.std.proofs.lemmas.Bool.{false≢true}
use Rattle.judy_journal.specs.Acts.{AreWhole, File, Left}
use Rattle.judy_journal.specs.Crashes.{FoundAll}
use Rattle.judy_journal.specs.Journals.{Commit}
use Rattle.judy_journal.specs.Readings.{tail_of}
use Rattle.judy_journal.specs.Recovered.{files_kept, synced_files}
use Rattle.judy_recovery.specs.Whole.{AreAllIn, AreSized, GoesOn, HasPlayedJournal, HasResumed, Kept, Recovers, segment_before, with_junk, with_last}
use Rattle.judy_recovery.specs.declared.ends.End.{End}
use Rattle.judy_recovery.specs.declared.ends.TheConstants.{FIRST_SUM}
use Rattle.judy_recovery.specs.declared.resuming.Resumed.{Resumed}

-- the files up to the last one, synced
synced-append : (done : List Left) (l : Left)
    → synced_files (done ++ l ∷ []) ≡ synced_files done ++ record { number = l.number; synced = l.bytes; unsynced = [] } ∷ []
synced-append [] l = refl
synced-append (d ∷ done) l = ap (λ v. record { number = d.number; synced = d.bytes; unsynced = [] } ∷ v) (synced-append done l)

length-synced : (done : List Left) → length (synced_files done) ≡ length done
length-synced [] = refl
length-synced (d ∷ done) = ap suc (length-synced done)

-- so many bytes of a text that has them
length-front : (n : ℕ) (text more : List ℕ) → n + length more ≡ length text → length (take n text) ≡ n
length-front n text more all = omega (arith, length-take n text, all)

-- what the last file has behind what was read
junk-append : (done : List Left) (l : Left) (junk : List ℕ) → with_junk (done ++ l ∷ []) junk ≡ done ++ record { number = l.number; bytes = l.bytes ++ junk } ∷ []
junk-append [] l junk = refl
junk-append (d ∷ []) l junk = refl
junk-append (d ∷ e ∷ done) l junk = ap (λ v. d ∷ v) (junk-append (e ∷ done) l junk)

sized-last : (done : List Left) (l : Left) → AreSized (done ++ l ∷ []) → length l.bytes < 2 ^ 64
sized-last [] l h = h.0
sized-last (d ∷ done) l h = sized-last done l h.1

-- all bytes of the files
all_of : (segment : ℕ) (sum : List ℕ) (done : List Left) (text junk : List ℕ) (commits : List Commit) (tail : List ℕ)
    → AreAllIn segment sum done (text ++ junk) commits (tail ++ junk) → AreSized (with_junk (with_last segment done text) junk)
    → FoundAll segment sum (with_junk (with_last segment done text) junk) commits (tail ++ junk)
all_of segment sum done text junk commits tail all sized =
    let l : Left = record { number = segment + length done + 1; bytes = text } in
    let m : Left = record { number = segment + length done + 1; bytes = text ++ junk } in
    let same : with_junk (done ++ l ∷ []) junk ≡ done ++ m ∷ [] = junk-append done l junk in
    subst (λ v. FoundAll segment sum v commits (tail ++ junk)) (sym same) (all (sized-last done m (subst AreSized same sized)))

-- what the directory has if there is no segment
abbrev none_kept : Kept
none_kept = record { snapshot = None; sum = FIRST_SUM; unpacked = []; files = []; junk = [] }

module _ {P F : Type 0} (plays : P → List (List ℕ) → P → Type 0) (remaining : F → Option (List ℕ)) where
  -- what the directory has
  abbrev pub kept_by : (snapshot last : Option ℕ) (old : P) (end : Option End) (new : P) → Recovers plays remaining snapshot last old end new → Kept
  kept_by snapshot last old None new h = none_kept
  kept_by snapshot last old (Some end) new (number, is, h) =
      record { snapshot = snapshot; sum = h.sum; unpacked = h.unpacked; files = with_last (segment_before snapshot) h.done h.text; junk = h.junk }

  -- what was recovered was played
  pub journal_played : (snapshot last : Option ℕ) (old : P) (end : Option End) (new : P) → (h : Recovers plays remaining snapshot last old end new)
      → HasPlayedJournal plays (kept_by snapshot last old end new h) old new
  journal_played snapshot last old None new (none, played) =
      record { start = (refl, refl); commits = []; tail = []; found = (refl, refl); all = λ sized. (refl, refl); played = played }
  journal_played snapshot last old (Some end) new (number, is, h) = record {
    start = h.start;
    commits = h.commits;
    tail = tail_of h.r.reading;
    found = h.found;
    all = all_of (segment_before snapshot) h.sum h.done h.text h.junk h.commits (tail_of h.r.reading) h.all;
    played = h.played;
  }

  -- the writer goes on behind what was recovered
  pub journal_resumed : (snapshot last : Option ℕ) (old : P) (end : Option End) (at : Resumed) (new : P)
      → (h : Recovers plays remaining snapshot last old end new) → GoesOn end at → HasResumed plays (kept_by snapshot last old end new h) old at new
  journal_resumed snapshot last old None at new (none, played) (segment, sum, begins) = record {
    journal = record { start = (refl, refl); commits = []; tail = []; found = (refl, refl); all = λ sized. (refl, refl); played = played };
    files = [];
    whole = refl;
    segment_is = segment;
    sum_is = sum;
    size_is = λ goes. absurd (false≢true (sym goes ∙ begins));
  }
  journal_resumed snapshot last old (Some end) at new (number, is, h) (sum, here, anew) = by h.r.reading.begun refl h.whole
    where
      segment : ℕ
      segment = segment_before snapshot

      kept : Kept
      kept = record { snapshot = snapshot; sum = h.sum; unpacked = h.unpacked; files = with_last (segment_before snapshot) h.done h.text; junk = h.junk }

      journal : HasPlayedJournal plays kept old new
      journal = record {
        start = h.start;
        commits = h.commits;
        tail = tail_of h.r.reading;
        found = h.found;
        all = all_of (segment_before snapshot) h.sum h.done h.text h.junk h.commits (tail_of h.r.reading) h.all;
        played = h.played;
      }

      by : (b : Bool) → h.r.reading.begun ≡ b → AreWhole segment h.sum (files_kept b segment h.done h.text end.size) h.commits
          → HasResumed plays kept old at new
      by true begun whole =
          let l : Left = record { number = segment + length h.done + 1; bytes = take end.size h.text } in
          let f : File = record { number = segment + length h.done + 1; synced = take end.size h.text; unsynced = [] } in
          let goes = here (h.ends.some begun) in
          record {
            journal = journal;
            files = synced_files (h.done ++ l ∷ []);
            whole = whole;
            segment_is = omega (arith, goes.0, h.ends.segment_is, length-synced (h.done ++ l ∷ []), length-append h.done (l ∷ []));
            sum_is = sum ∙ h.ends.sum_is;
            size_is = λ _. (
              synced_files h.done,
              f,
              synced-append h.done l,
              goes.1 ∙ sym (length-front end.size h.text (tail_of h.r.reading) (h.ends.size_is begun)),
            );
          }
      by false bare whole =
          let goes = anew (h.ends.none bare) in
          record {
            journal = journal;
            files = synced_files h.done;
            whole = whole;
            segment_is = omega (arith, goes.0, h.ends.segment_is, length-synced h.done);
            sum_is = sum ∙ h.ends.sum_is;
            size_is = λ goes'. absurd (false≢true (sym goes' ∙ goes.1));
          }
