-- After a crash, over all segments of a journal.
use Rattle.std.proofs.Common.{◌≡◌, ℕ, ◌<◌, ◌≤◌, ◌+◌, ◌^◌, true, false, List, [], ◌∷◌, ◌++◌, length, sym, ◌∙◌, ap, subst, refl, arith, append_assoc, append-nil, inl, inr}
use Rattle.std.specs.Prelude.{IsTrue, ◌⊎◌}
use Rattle.std.specs.List.{list_all}
use Rattle.std.proofs.lemmas.List.{append_cancel_left}
use Rattle.std.proofs.lemmas.List.Folds.{list_all-append}
use Rattle.judy_journal.specs.Acts.{DiskAct, Began, Kept, Synced, File, Left, Phase, Absent, Bare, Headed, Journal, Commits, AreWhole, IsWriting, MayLeaveAll, disk_after, files_after, phase_with, standing, written}
use Rattle.judy_journal.specs.Crashes.{FoundAll, JournalIsExact}
use Rattle.judy_journal.specs.Disks.{MayLeave}
use Rattle.judy_journal.specs.Journals.{Commit, AreCommits, commits_lines, header, is_commit, is_line, joined, journal_text, sum_after, sum_at}
use Rattle.judy_journal.specs.Recoveries.{Found, FoundLast, IsTold, Reaches}
use Rattle.judy_journal.specs.Writes.{commit_text, header_text}
use Rattle.judy_journal.proofs.Fronts.{sum_at-append}
use Rattle.judy_journal.proofs.Lines.{both, sum-line}
use Rattle.judy_journal.proofs.Reaching.{found-reaches}
use Rattle.judy_journal.proofs.Recovering.{IsFrontWith, front-recovery, recovery, text-append}

-- ---- lists

nothing : {A X : Type 0} (x : X) (xs : List X) → x ∷ xs ≡ [] → A
nothing x xs e = absurd (Rattle.judy_journal.proofs.Lines.some_are_none x xs e)

no_front : {X : Type 0} (xs ys : List X) → xs ++ ys ≡ [] → xs ≡ []
no_front [] ys e = refl
no_front (x ∷ xs) ys e = nothing x (xs ++ ys) e

never_empty : {A : Type 0} (xs : List ℕ) (y : ℕ) (ys : List ℕ) → xs ++ y ∷ ys ≡ [] → A
never_empty [] y ys e = nothing y ys e
never_empty (x ∷ xs) y ys e = nothing x (xs ++ y ∷ ys) e

sum_at-line : (sum : List ℕ) (commits : List Commit) → IsTrue (is_line sum) → IsTrue (is_line (sum_at sum commits))
sum_at-line sum [] h = h
sum_at-line sum (c ∷ cs) h = sum_at-line (sum_after sum c) cs (sum-line sum (joined c))

-- the text has a line feed after the header
text_and : (number : ℕ) (sum : List ℕ) (commits : List Commit) (tail : List ℕ)
    → journal_text number sum commits ++ tail ≡ header number sum ++ 10 ∷ (joined (commits_lines sum commits) ++ tail)
text_and number sum commits tail = append_assoc (header number sum) (10 ∷ joined (commits_lines sum commits)) tail

-- ---- what a crash leaves of a file that is synced

-- it is whole, and nothing but what was written is found in it
all_of : (f : File) (sum bytes : List ℕ) (here : List Commit) → IsTrue (is_line sum) → f.unsynced ≡ [] → MayLeave f.synced bytes
    → IsTold f.number (written f) bytes → Found f.number sum bytes here [] → bytes ≡ written f
all_of f sum bytes here line none (after, file_is) told found =
    let (gone, begins) = told sum here [] line (found-reaches f.number sum bytes here [] found) in
    let whole : bytes ++ gone ≡ written f =
    ap (λ v. v ++ gone) (found.text_is ∙ append-nil (journal_text f.number sum here)) ∙ begins in
    let left : after ++ gone ≡ f.unsynced = append_cancel_left f.synced (after ++ gone) f.unsynced
    (sym (append_assoc f.synced after gone) ∙ ap (λ v. v ++ gone) (sym file_is) ∙ whole) in
    file_is ∙ ap (λ v. f.synced ++ v) (no_front after gone (left ∙ none) ∙ sym none)

-- a whole file is read in one way
pub same_commits : (number : ℕ) (sum bytes : List ℕ) (there here : List Commit) → number < 2 ^ 64 → IsTrue (is_line sum) → AreCommits there
    → bytes ≡ journal_text number sum there → Found number sum bytes here [] → here ≡ there
same_commits number sum bytes there here small line are is found =
    let may : IsFrontWith (journal_text number sum there) (journal_text number sum (there ++ [])) bytes = (
      [],
      [],
      is ∙ sym (append-nil (journal_text number sum there)),
      append-nil bytes ∙ is ∙ ap (journal_text number sum) (sym (append-nil there)),
    ) in
    let (taken, lost, all, found_is) = front-recovery number sum there [] bytes small line (subst AreCommits (sym (append-nil there)) are) may here [] (found-reaches number sum bytes here [] found) in
    found_is ∙ ap (λ v. there ++ v) (no_front taken lost all) ∙ append-nil there

-- ---- the current file

abbrev pub IsText : Phase → List ℕ → List Commit → File → Journal → Type 0
IsText Absent first there f j = ⊥
IsText Bare first there f j = (written f ≡ []) × (there ≡ []) × (j.more ≡ [])
IsText Headed first there f j = (written f ≡ journal_text j.segment first (there ++ j.more))
    × ((f.synced ≡ journal_text j.segment first there) ⊎ ((f.synced ≡ []) × (there ≡ [])))

-- it has these commits that are synced, and those of the journal that are not
pub record IsCurrent (first : List ℕ) (there : List Commit) (f : File) (j : Journal) : Type 0 where
  number_is : f.number ≡ j.segment
  sum_is : j.sum ≡ sum_at first (there ++ j.more)
  commits_are : AreCommits (there ++ j.more)
  text : IsText j.phase first there f j
  clean : j.clean ≡ true → (f.unsynced ≡ []) × (j.more ≡ [])

-- what is found at the end
at_end : (first : List ℕ) (there : List Commit) (f : File) (j : Journal) (bytes : List ℕ) (found : List Commit) (tail : List ℕ)
    → j.segment < 2 ^ 64 → IsTrue (is_line first) → IsCurrent first there f j → MayLeave f.synced bytes
    → IsTold f.number (written f) bytes → FoundLast j.segment first bytes found tail
    → (taken : List Commit) × (lost : List Commit) × (taken ++ lost ≡ j.more) × (found ≡ there ++ taken)
at_end first there f j bytes found tail small line h (after, file_is) told is = by j.phase h.text is
  where
    -- what is found in it was written to it
    told_of : (text : List ℕ) → written f ≡ text → IsTold j.segment text bytes
    told_of text t = subst (λ v. IsTold v text bytes) h.number_is (subst (λ v. IsTold f.number v bytes) t told)

    none : there ≡ [] → found ≡ [] → (taken : List Commit) × (lost : List Commit) × (taken ++ lost ≡ j.more) × (found ≡ there ++ taken)
    none e none_found = ([], j.more, refl, none_found ∙ sym e ∙ sym (append-nil there))

    by : (p : Phase) → IsText p first there f j → FoundLast j.segment first bytes found tail
        → (taken : List Commit) × (lost : List Commit) × (taken ++ lost ≡ j.more) × (found ≡ there ++ taken)
    by Absent t k = absurd t
    by Bare t (inr k) = none t.1 k.none
    by Bare t (inl k) =
        let (lost, whole) = told_of [] t.0 first found tail line k in
        never_empty (header j.segment first) 10 (joined (commits_lines first found) ++ lost) (sym (text_and j.segment first found lost) ∙ whole)
    by Headed (t, inl s) (inl k) = recovery j.segment first there j.more bytes small line h.commits_are
        (after, file_is ∙ ap (λ v. v ++ after) s) (told_of (journal_text j.segment first (there ++ j.more)) t) found tail k
    by Headed (t, inl s) (inr k) = absurd (k.other (joined (commits_lines first there) ++ after)
        (file_is ∙ ap (λ v. v ++ after) s ∙ text_and j.segment first there after
        ∙ sym (append_assoc (header j.segment first) (10 ∷ []) (joined (commits_lines first there) ++ after))))
    by Headed (t, inr s) (inr k) = none s.1 k.none
    by Headed (t, inr s) (inl k) =
        let more : List ℕ = joined (commits_lines first found) ++ tail in
        let begins : bytes ≡ journal_text j.segment first there ++ more =
        k.begins ∙ ap (λ v. v ++ tail) (text-append j.segment first [] found)
        ∙ append_assoc (journal_text j.segment first []) (joined (commits_lines first found)) tail
        ∙ ap (λ cs. journal_text j.segment first cs ++ more) (sym s.1) in
        recovery j.segment first there j.more bytes small line h.commits_are (more, begins)
        (told_of (journal_text j.segment first (there ++ j.more)) t) found tail k

-- nothing is found in a file to which nothing was written
in_new : (number : ℕ) (sum bytes : List ℕ) (found : List Commit) (tail : List ℕ) → IsTrue (is_line sum) → IsTold number [] bytes
    → FoundLast number sum bytes found tail → found ≡ []
in_new number sum bytes found tail line told (inr none) = none.none
in_new number sum bytes found tail line told (inl reaches) =
    let (lost, whole) = told sum found tail line reaches in
    never_empty (header number sum) 10 (joined (commits_lines sum found) ++ lost) (sym (text_and number sum found lost) ∙ whole)

-- ---- after more acts

pub record Exact (prior : List Commit) (last : Journal) (found : List Commit) : Type 0 where
  since : List Commit
  taken : List Commit
  lost : List Commit
  kept_is : last.kept ≡ prior ++ since
  all : taken ++ lost ≡ last.more
  found_is : found ≡ since ++ taken

rises : (j : Journal) (acts : List DiskAct) (last : Journal) → IsWriting j acts last → j.segment ≤ last.segment
rises j [] last e = omega (arith, ap (λ v. v.segment) e)
rises j (Began number ∷ acts) last (k, b, rest) = omega (arith, ap (λ v. v.segment) b.now, b.number_is, rises k acts last rest)
rises j (Kept text ∷ acts) last (k, inl h, rest) = omega (arith, ap (λ v. v.segment) h.now, rises k acts last rest)
rises j (Kept text ∷ acts) last (k, inr h, rest) = omega (arith, ap (λ v. v.segment) h.now, rises k acts last rest)
rises j (Synced ∷ acts) last (k, e, rest) = omega (arith, ap (λ v. v.segment) e, rises k acts last rest)

some_left : {A : Type 0} (f : File) (acts : List DiskAct) → MayLeaveAll (files_after f acts) [] → A
some_left f [] h = absurd h
some_left f (Began number ∷ acts) h = absurd h
some_left f (Kept text ∷ acts) h = some_left (record f { unsynced = f.unsynced ++ text }) acts h
some_left f (Synced ∷ acts) h = some_left (record f { synced = written f; unsynced = [] }) acts h

abbrev empty_file : ℕ → File
empty_file number = record { number = number; synced = []; unsynced = [] }

-- a new file
fresh : (sum : List ℕ) (number : ℕ) (j : Journal) → j.sum ≡ sum → j.more ≡ []
    → IsCurrent sum [] (empty_file number) (record j { segment = number; phase = Bare })
fresh sum number j sum_is none = record {
  number_is = refl;
  sum_is = sum_is ∙ ap (sum_at sum) (sym none);
  commits_are = subst AreCommits (sym none) refl;
  text = (refl, refl, none);
  clean = λ e. (refl, none);
}

-- the header
headed : (first : List ℕ) (there : List Commit) (f : File) (j : Journal) (text : List ℕ) → IsCurrent first there f j → j.phase ≡ Bare → text ≡ header_text j.segment j.sum
    → IsCurrent first there (record f { unsynced = f.unsynced ++ text }) (record j { phase = Headed; clean = false })
headed first there f j text h bare is =
    let t : IsText Bare first there f j = subst (λ p. IsText p first there f j) bare h.text in
    let none : there ++ j.more ≡ [] = ap (λ v. v ++ j.more) t.1 ∙ t.2 in
    let all : f.synced ++ (f.unsynced ++ text) ≡ journal_text j.segment first (there ++ j.more) =
    sym (append_assoc f.synced f.unsynced text) ∙ ap (λ v. v ++ text) t.0 ∙ is
    ∙ ap (header_text j.segment) (h.sum_is ∙ ap (sum_at first) none) ∙ ap (journal_text j.segment first) (sym none) in
    record {
      number_is = h.number_is;
      sum_is = h.sum_is;
      commits_are = h.commits_are;
      text = (all, inr (no_front f.synced f.unsynced t.0, t.1));
      clean = λ e. absurd (false_true e);
    }
  where
    false_true : false ≡ true → ⊥
    false_true e = cc

-- one more commit
more_commits : (first : List ℕ) (there : List Commit) (f : File) (j : Journal) (text : List ℕ) (k : Journal) → IsCurrent first there f j → (c : Commits j text k)
    → IsCurrent first there (record f { unsynced = f.unsynced ++ text })
    (record j { sum = sum_after j.sum c.commit; clean = false; more = j.more ++ c.commit ∷ [] })
more_commits first there f j text k h c =
    let t : IsText Headed first there f j = subst (λ p. IsText p first there f j) c.headed h.text in
    let joins : (there ++ j.more) ++ c.commit ∷ [] ≡ there ++ (j.more ++ c.commit ∷ []) = append_assoc there j.more (c.commit ∷ []) in
    let now : Journal = record j { sum = sum_after j.sum c.commit; clean = false; more = j.more ++ c.commit ∷ [] } in
    let grown : File = record f { unsynced = f.unsynced ++ text } in
    let all : f.synced ++ (f.unsynced ++ text) ≡ journal_text j.segment first (there ++ (j.more ++ c.commit ∷ [])) =
    sym (append_assoc f.synced f.unsynced text) ∙ ap (λ v. v ++ text) t.0
    ∙ ap (λ v. journal_text j.segment first (there ++ j.more) ++ v) (c.text_is ∙ ap (λ s. commit_text s c.commit) h.sum_is)
    ∙ sym (text-append j.segment first (there ++ j.more) (c.commit ∷ []))
    ∙ ap (journal_text j.segment first) joins in
    let there_now : IsText Headed first there grown now = (all, t.1) in
    record {
      number_is = h.number_is;
      sum_is = ap (λ s. sum_after s c.commit) h.sum_is ∙ sym (sum_at-append first (there ++ j.more) (c.commit ∷ [])) ∙ ap (sum_at first) joins;
      commits_are = subst AreCommits joins (subst IsTrue (sym (list_all-append is_commit (there ++ j.more) (c.commit ∷ [])))
          (both (list_all is_commit (there ++ j.more)) (list_all is_commit (c.commit ∷ [])) h.commits_are (both (is_commit c.commit) true c.commit_is refl)));
      text = subst (λ p. IsText p first there grown now) (sym c.headed) there_now;
      clean = λ e. absurd (false_true e);
    }
  where
    false_true : false ≡ true → ⊥
    false_true e = cc

-- all is synced
secured : (first : List ℕ) (there : List Commit) (f : File) (j : Journal) → IsCurrent first there f j
    → IsCurrent first (there ++ j.more) (record f { synced = written f; unsynced = [] }) (record j { clean = true; kept = j.kept ++ j.more; more = [] })
secured first there f j h =
    let none : (there ++ j.more) ++ [] ≡ there ++ j.more = append-nil (there ++ j.more) in
    record {
      number_is = h.number_is;
      sum_is = h.sum_is ∙ ap (sum_at first) (sym none);
      commits_are = subst AreCommits (sym none) h.commits_are;
      text = by j.phase h.text;
      clean = λ e. (refl, refl);
    }
  where
    now : Journal
    now = record j { clean = true; kept = j.kept ++ j.more; more = [] }

    by : (p : Phase) → IsText p first there f j → IsText p first (there ++ j.more) (record f { synced = written f; unsynced = [] }) now
    by Absent t = t
    by Bare t = (append-nil (written f) ∙ t.0, ap (λ v. v ++ j.more) t.1 ∙ t.2, refl)
    by Headed t = (append-nil (written f) ∙ t.0 ∙ ap (journal_text j.segment first) (sym (append-nil (there ++ j.more))), inl t.0)

-- a file before the others
before : (prior there here : List Commit) (last : Journal) (found later : List Commit) → here ≡ there → found ≡ here ++ later
    → Exact (prior ++ there) last later → Exact prior last found
before prior there here last found later same found_is x = record {
  since = there ++ x.since;
  taken = x.taken;
  lost = x.lost;
  kept_is = x.kept_is ∙ append_assoc prior there x.since;
  all = x.all;
  found_is = found_is ∙ ap (λ v. v ++ later) same ∙ ap (λ v. there ++ v) x.found_is ∙ sym (append_assoc there x.since x.taken);
}

pub from_file : (k : ℕ) (first : List ℕ) (prior there : List Commit) (f : File) (j : Journal) (acts : List DiskAct) (last : Journal) (left : List Left)
    (found : List Commit) (tail : List ℕ) → j.segment ≡ k + 1 → last.segment < 2 ^ 64 → IsTrue (is_line first) → IsCurrent first there f j
    → j.kept ≡ prior ++ there → IsWriting j acts last → MayLeaveAll (files_after f acts) left → FoundAll k first left found tail → Exact prior last found
from_file k first prior there f j [] last [] found tail n small line h kept w may is = absurd may
from_file k first prior there f j [] last (l ∷ m ∷ x ∷ left) found tail n small line h kept w may is = nothing x left may.3.0
from_file k first prior there f j [] last (l ∷ m ∷ []) found tail n small line h kept w may (here, later, joins, at, whole, others) =
    let is : FoundLast j.segment first l.bytes here [] =
    inl (subst (λ v. Reaches v first l.bytes here []) (sym n) (found-reaches (k + 1) first l.bytes here [] whole)) in
    let (taken, lost, all, found_is) = at_end first there f j l.bytes here [] (subst (λ v. v < 2 ^ 64) (ap (λ v. v.segment) w) small) line h may.1 may.2 is in
    let none : later ≡ [] = in_new (k + 1 + 1) (sum_at first here) m.bytes later tail (sum_at-line first here line)
    (subst (λ v. IsTold v [] m.bytes) others.0 may.3.1) others.1 in
    record {
      since = there;
      taken = taken;
      lost = lost;
      kept_is = ap (λ v. v.kept) w ∙ kept;
      all = all ∙ ap (λ v. v.more) (sym w);
      found_is = joins ∙ ap (λ v. here ++ v) none ∙ append-nil here ∙ found_is;
    }
from_file k first prior there f j [] last (l ∷ []) found tail n small line h kept w may is =
    let here = subst (λ v. FoundLast v first l.bytes found tail) (sym n) is.1 in
    let (taken, lost, all, found_is) = at_end first there f j l.bytes found tail (subst (λ v. v < 2 ^ 64) (ap (λ v. v.segment) w) small) line h may.1 may.2 here in
    record {
      since = there;
      taken = taken;
      lost = lost;
      kept_is = ap (λ v. v.kept) w ∙ kept;
      all = all ∙ ap (λ v. v.more) (sym w);
      found_is = found_is;
    }
from_file k first prior there f j (Began number ∷ acts) last [] found tail n small line h kept w may is = absurd may
from_file k first prior there f j (Began number ∷ acts) last (l ∷ []) found tail n small line h kept w may is = some_left (empty_file number) acts may.3
from_file k first prior there f j (Began number ∷ acts) last (l ∷ m ∷ left) found tail n small line h kept (after, b, rest) may (here, later, joins, at, whole, others) =
    let (synced, none) = h.clean b.clean in
    let no_more : there ++ j.more ≡ there = ap (λ v. there ++ v) none ∙ append-nil there in
    let text : written f ≡ journal_text j.segment first (there ++ j.more) = by j.phase b.done h.text in
    let same : here ≡ there = same_commits j.segment first l.bytes there here
    (omega (arith, small, rises after acts last rest, ap (λ v. v.segment) b.now, b.number_is)) line (subst AreCommits no_more h.commits_are)
    (all_of f first l.bytes here line synced may.1 may.2 (subst (λ v. Found v first l.bytes here []) (sym (h.number_is ∙ n)) whole)
    ∙ text ∙ ap (journal_text j.segment first) no_more)
    (subst (λ v. Found v first l.bytes here []) (sym n) whole) in
    before prior there here last found later same joins
    (from_file (k + 1) (sum_at first there) (prior ++ there) [] (empty_file number) (record j { segment = number; phase = Bare }) acts last (m ∷ left) later tail
    (b.number_is ∙ ap (λ v. v + 1) n) small (sum_at-line first there line)
    (fresh (sum_at first there) number j (h.sum_is ∙ ap (sum_at first) no_more) none)
    (kept ∙ sym (append-nil (prior ++ there)))
    (subst (λ v. IsWriting v acts last) b.now rest) may.3
    (subst (λ v. FoundAll (k + 1) (sum_at first v) (m ∷ left) later tail) same others))
  where
    by : (p : Phase) → (p ≡ Absent) ⊎ (p ≡ Headed) → IsText p first there f j → written f ≡ journal_text j.segment first (there ++ j.more)
    by Absent done t = absurd t
    by Bare (inl e) t = absurd (no e)
      where
        no : Bare ≡ Absent → ⊥
        no e = cc
    by Bare (inr e) t = absurd (no e)
      where
        no : Bare ≡ Headed → ⊥
        no e = cc
    by Headed done t = t.0
from_file k first prior there f j (Kept text ∷ acts) last left found tail n small line h kept (after, inl b, rest) may is =
    from_file k first prior there (record f { unsynced = f.unsynced ++ text }) (record j { phase = Headed; clean = false }) acts last left found tail
    n small line (headed first there f j text h b.bare b.text_is) kept (subst (λ v. IsWriting v acts last) b.now rest) may is
from_file k first prior there f j (Kept text ∷ acts) last left found tail n small line h kept (after, inr b, rest) may is =
    from_file k first prior there (record f { unsynced = f.unsynced ++ text })
    (record j { sum = sum_after j.sum b.commit; clean = false; more = j.more ++ b.commit ∷ [] }) acts last left found tail
    n small line (more_commits first there f j text after h b) kept (subst (λ v. IsWriting v acts last) b.now rest) may is
from_file k first prior there f j (Synced ∷ acts) last left found tail n small line h kept (after, e, rest) may is =
    from_file k first prior (there ++ j.more) (record f { synced = written f; unsynced = [] }) (record j { clean = true; kept = j.kept ++ j.more; more = [] })
    acts last left found tail n small line (secured first there f j h)
    (ap (λ v. v ++ j.more) kept ∙ append_assoc prior there j.more) (subst (λ v. IsWriting v acts last) e rest) may is

-- ---- from whole files on

-- what a writer that begins with these files has done
pub record Stands (k : ℕ) (sum : List ℕ) (prior : List Commit) (files : List File) (commits : List Commit) (j : Journal) : Type 0 where
  segment_is : j.segment ≡ k + length files
  sum_is : j.sum ≡ sum_at sum commits
  phase_is : j.phase ≡ phase_with files
  clean : j.clean ≡ true
  kept_is : j.kept ≡ prior ++ commits
  none : j.more ≡ []

not_absent : {A : Type 0} (p : Phase) → p ≡ Absent → p ≡ Headed → A
not_absent p e f = absurd (no (sym e ∙ f))
  where
    no : Absent ≡ Headed → ⊥
    no e = cc

not_bare : {A : Type 0} (p : Phase) → p ≡ Absent → p ≡ Bare → A
not_bare p e f = absurd (no (sym e ∙ f))
  where
    no : Absent ≡ Bare → ⊥
    no e = cc

some_disk : {A : Type 0} (f : File) (files : List File) (acts : List DiskAct) → MayLeaveAll (disk_after (f ∷ files) acts) [] → A
some_disk f [] acts h = some_left f acts h
some_disk f (g ∷ files) acts h = absurd h

pub from_disk : (k : ℕ) (sum : List ℕ) (prior : List Commit) (files : List File) (commits : List Commit) (j : Journal) (acts : List DiskAct) (last : Journal)
    (left : List Left) (found : List Commit) (tail : List ℕ) → last.segment < 2 ^ 64 → IsTrue (is_line sum) → AreWhole k sum files commits
    → Stands k sum prior files commits j → IsWriting j acts last → MayLeaveAll (disk_after files acts) left → FoundAll k sum left found tail
    → Exact prior last found
from_disk k sum prior [] commits j [] last [] found tail small line whole s w may is = record {
  since = [];
  taken = [];
  lost = [];
  kept_is = ap (λ v. v.kept) w ∙ s.kept_is ∙ ap (λ v. prior ++ v) whole;
  all = sym s.none ∙ ap (λ v. v.more) (sym w);
  found_is = is.0;
}
from_disk k sum prior [] commits j [] last (l ∷ m ∷ left) found tail small line whole s w may is = nothing m left may.0
from_disk k sum prior [] commits j [] last (l ∷ []) found tail small line whole s w may is = record {
  since = [];
  taken = [];
  lost = [];
  kept_is = ap (λ v. v.kept) w ∙ s.kept_is ∙ ap (λ v. prior ++ v) whole;
  all = sym s.none ∙ ap (λ v. v.more) (sym w);
  found_is = in_new (k + 1) sum l.bytes found tail line (subst (λ v. IsTold v [] l.bytes) is.0 may.1) is.1;
}
from_disk k sum prior [] commits j (Began number ∷ acts) last left found tail small line whole s (after, b, rest) may is =
    from_file k sum prior [] (empty_file number) (record j { segment = number; phase = Bare }) acts last left found tail
    (omega (arith, b.number_is, s.segment_is)) small line (fresh sum number j (s.sum_is ∙ ap (sum_at sum) whole) s.none)
    (s.kept_is ∙ ap (λ v. prior ++ v) whole) (subst (λ v. IsWriting v acts last) b.now rest) may is
from_disk k sum prior [] commits j (Kept text ∷ acts) last left found tail small line whole s (after, inl b, rest) may is = not_bare j.phase s.phase_is b.bare
from_disk k sum prior [] commits j (Kept text ∷ acts) last left found tail small line whole s (after, inr b, rest) may is = not_absent j.phase s.phase_is b.headed
from_disk k sum prior [] commits j (Synced ∷ acts) last left found tail small line whole s (after, e, rest) may is =
    let now : Journal = record j { clean = true; kept = j.kept ++ j.more; more = [] } in
    from_disk k sum prior [] commits now acts last left found tail small line whole
    (record {
      segment_is = s.segment_is;
      sum_is = s.sum_is;
      phase_is = s.phase_is;
      clean = refl;
      kept_is = ap (λ v. j.kept ++ v) s.none ∙ append-nil j.kept ∙ s.kept_is;
      none = refl;
    })
    (subst (λ v. IsWriting v acts last) e rest) may is
from_disk k sum prior (f ∷ []) commits j acts last left found tail small line (here, later, joins, one, none) s w may is =
    let all : commits ≡ here = joins ∙ ap (λ v. here ++ v) none ∙ append-nil here in
    let alone : here ++ j.more ≡ here = ap (λ v. here ++ v) s.none ∙ append-nil here in
    let number : j.segment ≡ k + 1 = s.segment_is in
    let text : written f ≡ journal_text j.segment sum (here ++ j.more) =
    ap (λ v. f.synced ++ v) one.unsynced_is ∙ append-nil f.synced ∙ one.synced_is ∙ ap (λ v. journal_text v sum here) (sym number)
    ∙ ap (journal_text j.segment sum) (sym alone) in
    let current : IsText Headed sum here f j = (text, inl (one.synced_is ∙ ap (λ v. journal_text v sum here) (sym number))) in
    from_file k sum prior here f j acts last left found tail number small line
    (record {
      number_is = one.number_is ∙ sym number;
      sum_is = s.sum_is ∙ ap (sum_at sum) (all ∙ sym alone);
      commits_are = subst AreCommits (sym alone) one.commits_are;
      text = subst (λ p. IsText p sum here f j) (sym s.phase_is) current;
      clean = λ e. (one.unsynced_is, s.none);
    })
    (s.kept_is ∙ ap (λ v. prior ++ v) all) w may is
from_disk k sum prior (f ∷ g ∷ files) commits j acts last [] found tail small line whole s w may is = absurd may
from_disk k sum prior (f ∷ g ∷ files) commits j acts last (l ∷ []) found tail small line whole s w may is = some_disk g files acts may.3
from_disk k sum prior (f ∷ g ∷ files) commits j acts last (l ∷ m ∷ left) found tail small line (there, after, all, one, others) s w may (here, later, joins, at, whole, rest) =
    let same : here ≡ there = same_commits (k + 1) sum l.bytes there here
    (omega (arith, small, rises j acts last w, s.segment_is)) line one.commits_are
    (all_of f sum l.bytes here line one.unsynced_is may.1 may.2 (subst (λ v. Found v sum l.bytes here []) (sym one.number_is) whole)
    ∙ ap (λ v. f.synced ++ v) one.unsynced_is ∙ append-nil f.synced ∙ one.synced_is) whole in
    before prior there here last found later same joins
    (from_disk (k + 1) (sum_at sum there) (prior ++ there) (g ∷ files) after j acts last (m ∷ left) later tail small (sum_at-line sum there line) others
    (record {
      segment_is = s.segment_is ∙ omega arith;
      sum_is = s.sum_is ∙ ap (sum_at sum) all ∙ sum_at-append sum there after;
      phase_is = s.phase_is;
      clean = s.clean;
      kept_is = s.kept_is ∙ ap (λ v. prior ++ v) all ∙ sym (append_assoc prior there after);
      none = s.none;
    })
    w may.3 (subst (λ v. FoundAll (k + 1) (sum_at sum v) (m ∷ left) later tail) same rest))

pub journal_exact : JournalIsExact
journal_exact segment sum files commits acts last left small line whole w may found tail is =
    let x = from_disk segment sum [] files commits (standing segment sum files commits) acts last left found tail small line whole
    (record { segment_is = refl; sum_is = refl; phase_is = refl; clean = refl; kept_is = refl; none = refl }) w may is in
    (x.taken, x.lost, x.all, x.found_is ∙ ap (λ v. v ++ x.taken) (sym x.kept_is))
