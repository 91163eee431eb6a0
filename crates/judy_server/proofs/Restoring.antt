-- What is restored after a crash.
--     found-after        the records that are found, by a moment at which all records before it were kept
--     same-arrays        records that are those of a story give the arrays at its end
--     story-cut          a story is cut after the line of a record, and the lines behind it that have none
--     crash-restores     after a crash the arrays are those after the first lines
use Rattle.std.proofs.Common.{◌≡◌, ◌⊎◌, inl, inr, ℕ, ◌<◌, ◌+◌, ◌^◌, Bool, true, false, List, [], ◌∷◌, ◌++◌, length}
use Rattle.std.proofs.Common.{Option, Some, None, refl, sym, ◌∙◌, ap, arith, subst, append_assoc, append-nil, length-append}
use Rattle.std.proofs.lemmas.List.{append_cancel_left}
use Rattle.std.specs.Prelude.{is_some}
use Rattle.judy_journal.specs.Acts.{DiskAct, File, Goes, IsWriting, Journal as Written, standing}
use Rattle.judy_journal.specs.Acts.DiskAct.{Began as FileBegan, Kept as FileKept, Synced as FileSynced}
use Rattle.judy_journal.specs.Crashes.{JournalIsExact}
use Rattle.judy_journal.specs.Journals.{Commit, record_of}
use Rattle.judy_journal.specs.Leaving.{gone_request}
use Rattle.judy_journal.specs.Replays.{RecordsTellAll}
use Rattle.judy_journal.specs.Notes.{changes_in}
use Rattle.judy_journal.specs.Writes.{Writing, all_records}
use Rattle.judy_model.specs.declared.replies.Reply.{Reply}
use Rattle.judy_model.specs.declared.requests.Line.TheVariants as request
use Rattle.judy_model.specs.Speakers.{Event, Speaker}
use Rattle.judy_model.specs.Stream.{Heard, event_of}
use Rattle.judy_model.specs.Stream.Heard.{TooLong, Unclear, Asked}
use Rattle.judy_model.specs.Tenant.{no_arrays}
use Rattle.judy_protocol.specs.Plain.{counts}
use Rattle.judy_many.specs.Books.{Journal, journal_of, opened}
use Rattle.judy_many.specs.Journaling.{AnswersAreKept, AreKept, IsJournaled, IsOnDisk, RepliesAreKept, StoriesAreWritten, disk_act, disk_acts, journal_after, journal_since, writer_at}
use Rattle.judy_many.specs.Nets.{Act}
use Rattle.judy_many.specs.Nets.Act.{Replied, Wrote}
use Rattle.judy_many.specs.Records.{IsRecord, IsRecorded}
use Rattle.judy_many.specs.Sessions.{AreTurns, IsTurn, Turn, calls_if, records_in}
use Rattle.judy_many.specs.Statuses.{Lasts}
use Rattle.judy_many.specs.Stories.{Moment, Story, acts_by, acts_in, recorded_by, recorded_in, turns_by, turns_in}
use Rattle.judy_many.specs.Stories.Moment.{Changed, Did, Ran}
use Rattle.judy_many.specs.declared.network.Sync.{Sync}
use Rattle.judy_many.proofs.Journals.{since-append}
use Rattle.judy_many.proofs.Recording.{records_in-append}
use Rattle.judy_table.specs.Seats.{name_at}
use Rattle.judy_server.specs.Crashes.{AreHalves, CrashesLoseNothing, HasCrashed, HasResumed, IsCutWithin, Stock, records_with}
use Rattle.judy_server.specs.Named.{HaveSame}
use Rattle.judy_server.specs.Rules.{server_rules}
use Rattle.judy_server.specs.Tally.{Tallied}
use Rattle.judy_server.proofs.Changed.{story-named}
use Rattle.judy_server.proofs.Naming.{after_steps, after_steps-append, steps-append, steps_named}
use Rattle.judy_server.proofs.BegunNamed.{begun-named}
use Rattle.judy_server.proofs.lemmas.Begun.{begun-table}

-- ---- lists

all-append : (a b : List Commit) → all_records (a ++ b) ≡ all_records a ++ all_records b
all-append [] b = refl
all-append (x ∷ a) b = ap (λ v. changes_in x ++ v) (all-append a b) ∙ sym (append_assoc (changes_in x) (all_records a) (all_records b))

acts-append : (a b : Story) → acts_in (a ++ b) ≡ acts_in a ++ acts_in b
acts-append [] b = refl
acts-append (m ∷ a) b = ap (λ v. acts_by m ++ v) (acts-append a b) ∙ sym (append_assoc (acts_by m) (acts_in a) (acts_in b))

disk-append : (a b : List Act) → disk_acts (a ++ b) ≡ disk_acts a ++ disk_acts b
disk-append [] b = refl
disk-append (x ∷ a) b = ap (λ v. disk_act x ++ v) (disk-append a b) ∙ sym (append_assoc (disk_act x) (disk_acts a) (disk_acts b))

turns-append : (a b : Story) → turns_in (a ++ b) ≡ turns_in a ++ turns_in b
turns-append [] b = refl
turns-append (m ∷ a) b = ap (λ v. turns_by m ++ v) (turns-append a b) ∙ sym (append_assoc (turns_by m) (turns_in a) (turns_in b))

-- what is joined to nothing is nothing
front-none : {A : Type 0} (a b : List A) → [] ≡ a ++ b → a ≡ []
front-none [] b e = refl
front-none (x ∷ a) b e = cc

-- ---- a writer

writing-append : (j mid last : Written) (a b : List DiskAct) → IsWriting j a mid → IsWriting mid b last → IsWriting j (a ++ b) last
writing-append j mid last [] b same more = subst (λ x. IsWriting x b last) same more
writing-append j mid last (act ∷ a) b (k, goes, rest) more = (k, goes, writing-append k mid last a b rest more)

-- the commits that are synced stay
kept-grows : (j : Written) (acts : List DiskAct) (last : Written) → IsWriting j acts last → (more : List Commit) × (last.kept ≡ j.kept ++ more)
kept-grows j [] last same = ([], ap (λ (x : Written). x.kept) same ∙ sym (append-nil j.kept))
kept-grows j (act ∷ acts) last (k, goes, rest) =
    let (first, one) = step act goes in
    let (more, is) = kept-grows k acts last rest in
    (first ++ more, is ∙ ap (λ xs. xs ++ more) one ∙ append_assoc j.kept first more)
  where
    step : (act : DiskAct) → Goes j act k → (more : List Commit) × (k.kept ≡ j.kept ++ more)
    step (FileBegan number) h = ([], ap (λ (x : Written). x.kept) h.now ∙ sym (append-nil j.kept))
    step (FileKept text) (inl h) = ([], ap (λ (x : Written). x.kept) h.now ∙ sym (append-nil j.kept))
    step (FileKept text) (inr h) = ([], ap (λ (x : Written). x.kept) h.now ∙ sym (append-nil j.kept))
    step FileSynced is = (j.more, ap (λ (x : Written). x.kept) is)

-- ---- a story that is cut in two

journaled-front : (j : Journal) (p q : Story) → IsJournaled j (p ++ q) → IsJournaled j p
journaled-front j [] q h = tt
journaled-front j (m ∷ p) q h = (h.0, journaled-front (journal_after j m) p q h.1)

journaled-back : (j : Journal) (p q : Story) → IsJournaled j (p ++ q) → IsJournaled (journal_since j p) q
journaled-back j [] q h = h
journaled-back j (m ∷ p) q h = journaled-back (journal_after j m) p q h.1

lasts-split : (p q : Story) (before after : Tallied) → Lasts server_rules true before (p ++ q) after
    → (mid : Tallied) × Lasts server_rules true before p mid × Lasts server_rules true mid q after
lasts-split [] q before after h = (before, refl, h)
lasts-split (Did a ∷ p) q before after h = lasts-split p q before after h
lasts-split (Ran n turns ∷ p) q before after (now, run, rest) =
    let (mid, first, more) = lasts-split p q now after rest in (mid, (now, run, first), more)
lasts-split (Changed text left ∷ p) q before after (now, step, keeps, rest) =
    let (mid, first, more) = lasts-split p q now after rest in (mid, (now, step, keeps, first), more)

-- ---- what is found

-- The records that are found are those of the files before, those of this front of a story, and some more,
-- which begin those of the rest.
record IsFoundAfter (s : Stock) (found : List Commit) (p q : Story) : Type 0 where
  extra : Commit
  lost : Commit
  found_is : all_records found ≡ (all_records s.commits ++ recorded_in p) ++ extra
  rest_is : extra ++ lost ≡ recorded_in q

-- where the writer begins
begins : (s : Stock) (rule : Sync) (w : Writing) (service : Tallied) → HasResumed s w service
    → writer_at (journal_of rule true w) s.commits [] ≡ standing s.segment s.sum s.files s.commits
begins s rule w service h = by s.files h.some (ap (λ n. n) h.segment_is)
  where
    by : (files : List File) → (files ≡ [] → ⊥) → w.segment ≡ s.segment + length files
        → writer_at (journal_of rule true w) s.commits [] ≡ standing s.segment s.sum files s.commits
    by [] some e = absurd (some refl)
    by (f ∷ files) some e =
        ap (λ n. record (writer_at (journal_of rule true w) s.commits []) { segment = n }) e
        ∙ ap (λ sum. record (standing s.segment s.sum (f ∷ files) s.commits) { sum = sum }) h.sum_is

found-after : StoriesAreWritten → JournalIsExact → (s : Stock) (rule : Sync) (w : Writing) (service : Tallied) (story : Story) (restored : Tallied)
    → HasResumed s w service → (crash : HasCrashed s (journal_of rule true w) story restored) → IsJournaled (journal_of rule true w) story
    → (p q : Story) → story ≡ p ++ q → (kept : List Commit)
    → IsWriting (writer_at (journal_of rule true w) s.commits []) (disk_acts (acts_in p)) (writer_at (journal_since (journal_of rule true w) p) kept [])
    → all_records kept ≡ all_records s.commits ++ recorded_in p → (journal_since (journal_of rule true w) p).records ≡ []
    → IsFoundAfter s crash.found p q
found-after written exact s rule w service story restored resumed crash journaled p q cut kept writing all none =
    let (kept', more', d) = written mid kept [] q q [] behind (λ e. refl) (sym (append-nil q)) in
    let last = writer_at (journal_since mid q) kept' more' in
    let acts : disk_acts (acts_in story) ≡ disk_acts (acts_in p) ++ disk_acts (acts_in q) =
    ap (λ x. disk_acts (acts_in x)) cut ∙ ap disk_acts (acts-append p q) ∙ disk-append (acts_in p) (acts_in q) in
    let whole : IsWriting (standing s.segment s.sum s.files s.commits) (disk_acts (acts_in story)) last =
    subst (λ x. IsWriting x (disk_acts (acts_in story)) last) (begins s rule w service resumed)
    (subst (λ x. IsWriting (writer_at j s.commits []) x last) (sym acts)
    (writing-append (writer_at j s.commits []) (writer_at mid kept []) last (disk_acts (acts_in p)) (disk_acts (acts_in q)) writing d.0)) in
    let few : (journal_since mid q).segment < 2 ^ 64 = subst (λ (x : Journal). x.segment < 2 ^ 64) (ap (journal_since j) cut ∙ since-append j p q) crash.few in
    let (taken, lost, joins, is) =
    exact s.segment s.sum s.files s.commits (disk_acts (acts_in story)) last crash.left few resumed.line resumed.whole whole crash.leaves crash.found
    crash.tail crash.is_found in
    let (grown, grows) = kept-grows (writer_at mid kept []) (disk_acts (acts_in q)) last d.0 in
    let there : all_records crash.found ≡ all_records kept ++ all_records (grown ++ taken) =
    ap all_records (is ∙ ap (λ x. x ++ taken) grows ∙ append_assoc kept grown taken) ∙ all-append kept (grown ++ taken) in
    let end : Commit = (journal_since mid q).records in
    record {
      extra = all_records (grown ++ taken);
      lost = all_records lost ++ end;
      found_is = there ∙ ap (λ x. x ++ all_records (grown ++ taken)) all;
      rest_is = append_cancel_left (all_records kept) (all_records (grown ++ taken) ++ (all_records lost ++ end)) (recorded_in q)
          (sym (append_assoc (all_records kept) (all_records (grown ++ taken)) (all_records lost ++ end))
          ∙ ap (λ x. x ++ (all_records lost ++ end)) (sym there)
          ∙ sym (append_assoc (all_records crash.found) (all_records lost) end)
          ∙ ap (λ x. x ++ end)
          (sym (all-append crash.found lost)
          ∙ ap all_records (ap (λ x. x ++ lost) is ∙ append_assoc kept' taken lost ∙ ap (λ x. kept' ++ x) joins))
          ∙ d.1
          ∙ ap (λ x. (all_records (kept ++ []) ++ x) ++ recorded_in q) none
          ∙ ap (λ x. x ++ recorded_in q) (append-nil (all_records (kept ++ [])) ∙ ap all_records (append-nil kept)));
    }
  where
    j : Journal
    j = journal_of rule true w

    mid : Journal
    mid = journal_since j p

    behind : IsJournaled mid q
    behind = journaled-back j p q (subst (IsJournaled j) cut journaled)

-- ---- the arrays

-- Where the records that are found are those of the files before and of this story, the arrays are those at
-- its end.
same-arrays : RecordsTellAll → (s : Stock) (w : Writing) (before : Tallied) → HasResumed s w before
    → (j : Journal) (story : Story) (restored : Tallied) → (crash : HasCrashed s j story restored)
    → (d : Story) (now : Tallied) → Lasts server_rules true before d now
    → all_records crash.found ≡ all_records s.commits ++ recorded_in d → HaveSame now restored
same-arrays all s w before resumed j story restored crash d now lasts is name some =
    let start : Commit = records_with s s.commits in
    let begun = begun-table start before resumed.started in
    begun-named (records_with s crash.found) restored crash.started all name
    ∙ ap (λ rs. after_steps no_arrays (steps_named name rs)) (ap (λ x. s.snapshot ++ x) is ∙ sym (append_assoc s.snapshot (all_records s.commits) (recorded_in d)))
    ∙ ap (after_steps no_arrays) (steps-append name start (recorded_in d))
    ∙ after_steps-append no_arrays (steps_named name start) (steps_named name (recorded_in d))
    ∙ ap (λ x. after_steps x (steps_named name (recorded_in d))) (sym (begun-named start before resumed.started all name))
    ∙ sym (story-named all d before now begun.sound begun.rows lasts name some)

-- ---- a story that is cut behind a record

-- a line has at most one record
is-short : (before : Tallied) (turn : Turn) (after : Tallied) → IsTurn server_rules before turn after
    → (turn.records ≡ []) ⊎ ((r : List ℕ) × (turn.records ≡ r ∷ []))
is-short before turn after one = by-if turn.barred turn.line turn.who turn.replies one.recorded
  where
    Short : Type 0
    Short = (turn.records ≡ []) ⊎ ((r : List ℕ) × (turn.records ≡ r ∷ []))

    names : ℕ → List ℕ
    names = name_at before.held.tenants

    call : (b : Bool) (event : Event) → IsRecord b (names event.speaker.tenant) event.call turn.records → Short
    call true event (line, is, reads) = inr (_, is)
    call false event none = inl none

    by : (line : Heard) (who : Option Speaker) (replies : List Reply) → IsRecorded names (event_of line who) replies turn.records → Short
    by (Asked (request.Call c)) (Some who) (reply ∷ replies) is =
        call (counts (record { speaker = who; call = c }) reply) (record { speaker = who; call = c }) is
    by (Asked (request.Call c)) (Some who) [] is = inl is
    by (Asked (request.Call c)) None replies is = inl is
    by (Asked (request.Auth name token)) who replies is = inl is
    by (Asked request.Quit) who replies is = inl is
    by (Asked request.Ping) who replies is = inl is
    by (Asked request.Hello) who replies is = inl is
    by TooLong who replies is = inl is
    by Unclear who replies is = inl is

    by-if : (barred : Bool) (line : Heard) (who : Option Speaker) (replies : List Reply) → IsRecorded names (calls_if barred line who) replies turn.records → Short
    by-if true line who replies is = inl is
    by-if false line who replies is = by line who replies is

-- lines are cut before one that has a record
record AreCut (before : Tallied) (turns : List Turn) (after : Tallied) (front : Commit) : Type 0 where
  done : List Turn
  next : Turn
  rest : List Turn
  mid : Tallied
  run : AreTurns server_rules before done mid
  later : AreTurns server_rules mid (next ∷ rest) after
  lines : done ++ next ∷ rest ≡ turns
  records : records_in done ≡ front
  tight : next.records ≡ [] → ⊥

-- these lines have only a front of these records
record AreAll (turns : List Turn) (more front back : Commit) : Type 0 where
  left : Commit
  front_is : front ≡ records_in turns ++ left
  more_is : more ≡ left ++ back

turns-cut : (turns : List Turn) (before after : Tallied) → AreTurns server_rules before turns after → (more front back : Commit)
    → records_in turns ++ more ≡ front ++ back → AreAll turns more front back ⊎ AreCut before turns after front
turns-cut [] before after run more front back h = inl (record { left = front; front_is = refl; more_is = h })
turns-cut (t ∷ turns) before after (mid, one, rest) more front back h =
    by (λ left e. turns-cut turns mid after rest more left back e) (is-short before t mid one)
  where
    -- a line without a record, or with this one, is done
    add : (r left : Commit) → t.records ≡ r → front ≡ r ++ left → AreAll turns more left back ⊎ AreCut mid turns after left
        → AreAll (t ∷ turns) more front back ⊎ AreCut before (t ∷ turns) after front
    add r left is joins (inl a) = inl (record {
      left = a.left;
      front_is = joins ∙ ap (λ x. r ++ x) a.front_is ∙ sym (append_assoc r (records_in turns) a.left) ∙ ap (λ x. (x ++ records_in turns) ++ a.left) (sym is);
      more_is = a.more_is;
    })
    add r left is joins (inr c) = inr (record {
      done = t ∷ c.done;
      next = c.next;
      rest = c.rest;
      mid = c.mid;
      run = (mid, one, c.run);
      later = c.later;
      lines = ap (λ ts. t ∷ ts) c.lines;
      records = ap (λ x. x ++ records_in c.done) is ∙ ap (λ x. r ++ x) c.records ∙ sym joins;
      tight = c.tight;
    })

    -- the next record is this line's
    record-cut : ((left : Commit) → records_in turns ++ more ≡ left ++ back → AreAll turns more left back ⊎ AreCut mid turns after left)
        → (r : List ℕ) → t.records ≡ r ∷ [] → (front' : Commit) → front ≡ front' → r ∷ (records_in turns ++ more) ≡ front' ++ back
        → AreAll (t ∷ turns) more front back ⊎ AreCut before (t ∷ turns) after front
    record-cut again r is [] none e = inr (record {
      done = [];
      next = t;
      rest = turns;
      mid = before;
      run = refl;
      later = (mid, one, rest);
      lines = refl;
      records = sym none;
      tight = λ empty. let no : r ∷ [] ≡ [] = sym is ∙ empty in cc;
    })
    record-cut again r is (f ∷ left) some e =
        let head : r ≡ f = cc in
        let tail : records_in turns ++ more ≡ left ++ back = cc in
        add (r ∷ []) left is (some ∙ ap (λ x. x ∷ left) (sym head)) (again left tail)

    by : ((left : Commit) → records_in turns ++ more ≡ left ++ back → AreAll turns more left back ⊎ AreCut mid turns after left)
        → (t.records ≡ []) ⊎ ((r : List ℕ) × (t.records ≡ r ∷ [])) → AreAll (t ∷ turns) more front back ⊎ AreCut before (t ∷ turns) after front
    by again (inl none) = add [] front none refl (again front (sym (ap (λ x. (x ++ records_in turns) ++ more) none) ∙ h))
    by again (inr (r, is)) = record-cut again r is front refl (sym (ap (λ x. (x ++ records_in turns) ++ more) is) ∙ h)

-- a story is cut before a moment that has a record
record IsCutBefore (done rest story : Story) : Type 0 where
  next : Moment
  later : Story
  rest_is : rest ≡ next ∷ later
  story_is : story ≡ done ++ next ∷ later
  some : 0 < length (recorded_by next)

-- a story is whole, or is cut before a moment or a line that has a record
abbrev IsCutAt : Story → Story → Story → Type 0
IsCutAt done rest story = ((rest ≡ []) × (done ≡ story))
    ⊎ (IsCutBefore done rest story ⊎ ((w : IsCutWithin done rest story) × (0 < length (records_in w.others))))

cut-after : (m : Moment) (done rest story : Story) → IsCutAt done rest story → IsCutAt (m ∷ done) rest (m ∷ story)
cut-after m done rest story (inl (none, whole)) = inl (none, ap (λ s. m ∷ s) whole)
cut-after m done rest story (inr (inl b)) = inr (inl (record {
  next = b.next;
  later = b.later;
  rest_is = b.rest_is;
  story_is = ap (λ s. m ∷ s) b.story_is;
  some = b.some;
}))
cut-after m done rest story (inr (inr (w, some))) = inr (inr (
  record {
    earlier = m ∷ w.earlier;
    later = w.later;
    number = w.number;
    first = w.first;
    others = w.others;
    done_is = ap (λ s. m ∷ s) w.done_is;
    rest_is = w.rest_is;
    story_is = ap (λ s. m ∷ s) w.story_is;
  },
  some,
))

halves-cut : (done rest story : Story) → IsCutAt done rest story → AreHalves done rest story
halves-cut done rest story (inl (none, whole)) = inl (ap (λ s. done ++ s) none ∙ append-nil done ∙ whole)
halves-cut done rest story (inr (inl b)) = inl (ap (λ s. done ++ s) b.rest_is ∙ sym b.story_is)
halves-cut done rest story (inr (inr (w, some))) = inr w

-- a story is cut where these records end, and before a record
record IsCut (before : Tallied) (story : Story) (after : Tallied) (front : Commit) : Type 0 where
  done : Story
  rest : Story
  mid : Tallied
  run : Lasts server_rules true before done mid
  later : Lasts server_rules true mid rest after
  cut : IsCutAt done rest story
  lines : turns_in done ++ turns_in rest ≡ turns_in story
  records : recorded_in done ≡ front

-- a moment is done, and the rest is cut
add-moment : (m : Moment) (before now : Tallied) (story : Story) (after : Tallied) (left front : Commit)
    → ((done : Story) (mid : Tallied) → Lasts server_rules true now done mid → Lasts server_rules true before (m ∷ done) mid)
    → front ≡ recorded_by m ++ left → IsCut now story after left → IsCut before (m ∷ story) after front
add-moment m before now story after left front goes is c = record {
  done = m ∷ c.done;
  rest = c.rest;
  mid = c.mid;
  run = goes c.done c.mid c.run;
  later = c.later;
  cut = cut-after m c.done c.rest story c.cut;
  lines = append_assoc (turns_by m) (turns_in c.done) (turns_in c.rest) ∙ ap (λ x. turns_by m ++ x) c.lines;
  records = ap (λ x. recorded_by m ++ x) c.records ∙ sym is;
}

story-cut : (story : Story) (before after : Tallied) → Lasts server_rules true before story after → (front back : Commit)
    → recorded_in story ≡ front ++ back → IsCut before story after front
story-cut [] before after same front back h = record {
  done = [];
  rest = [];
  mid = before;
  run = refl;
  later = same;
  cut = inl (refl, refl);
  lines = refl;
  records = sym (front-none front back h);
}
story-cut (Did a ∷ story) before after lasts front back h =
    add-moment (Did a) before before story after front front (λ done mid run. run) refl (story-cut story before after lasts front back h)
story-cut (Changed text [] ∷ story) before after (now, step, keeps, rest) front back h =
    add-moment (Changed text []) before now story after front front (λ done mid run. (now, step, keeps, run)) refl (story-cut story now after rest front back h)
story-cut (Changed text (name ∷ left) ∷ story) before after (now, step, keeps, rest) [] back h = record {
  done = [];
  rest = Changed text (name ∷ left) ∷ story;
  mid = before;
  run = refl;
  later = (now, step, keeps, rest);
  cut = inr (inl (record {
    next = Changed text (name ∷ left);
    later = story;
    rest_is = refl;
    story_is = refl;
    some = omega arith;
  }));
  lines = refl;
  records = refl;
}
story-cut (Changed text (name ∷ left) ∷ story) before after (now, step, keeps, rest) (f ∷ front) back h =
    let head : record_of name (gone_request left) ≡ f = cc in
    let tail : recorded_in story ≡ front ++ back = cc in
    add-moment (Changed text (name ∷ left)) before now story after front (f ∷ front) (λ done mid run. (now, step, keeps, run))
    (ap (λ x. x ∷ front) (sym head)) (story-cut story now after rest front back tail)
story-cut (Ran n turns ∷ story) before after (now, run, rest) front back h =
    by (λ left e. story-cut story now after rest left back e) (turns-cut turns before now run (recorded_in story) front back h)
  where
    by : ((left : Commit) → recorded_in story ≡ left ++ back → IsCut now story after left)
        → AreAll turns (recorded_in story) front back ⊎ AreCut before turns now front → IsCut before (Ran n turns ∷ story) after front
    by again (inl a) =
        add-moment (Ran n turns) before now story after a.left front (λ done mid later. (now, run, later)) a.front_is (again a.left a.more_is)
    by again (inr c) = record {
      done = Ran n c.done ∷ [];
      rest = Ran n (c.next ∷ c.rest) ∷ story;
      mid = c.mid;
      run = (c.mid, c.run, refl);
      later = (now, c.later, rest);
      cut = inr (inr (
        record {
          earlier = [];
          later = story;
          number = n;
          first = c.done;
          others = c.next ∷ c.rest;
          done_is = refl;
          rest_is = refl;
          story_is = ap (λ ts. Ran n ts ∷ story) (sym c.lines);
        },
        filled c.next.records (records_in c.rest) c.tight,
      ));
      lines = ap (λ x. x ++ ((c.next ∷ c.rest) ++ turns_in story)) (append-nil c.done)
          ∙ sym (append_assoc c.done (c.next ∷ c.rest) (turns_in story))
          ∙ ap (λ x. x ++ turns_in story) c.lines;
      records = append-nil (records_in c.done) ∙ c.records;
    }
      where
        filled : (records more : Commit) → (records ≡ [] → ⊥) → 0 < length (records ++ more)
        filled [] more some = absurd (some refl)
        filled (r ∷ records) more some = omega arith

-- a story begins with one of two that both begin another
one-first : (p tail w rest : Story) (m : Moment) → p ++ tail ≡ w ++ m ∷ rest
    → ((more : Story) × (w ≡ p ++ more)) ⊎ ((more : Story) × (p ≡ w ++ m ∷ more))
one-first [] tail w rest m e = inl (w, refl)
one-first (x ∷ p) tail [] rest m e = let same : x ≡ m = cc in inr (p, ap (λ y. y ∷ p) same)
one-first (x ∷ p) tail (y ∷ w) rest m e = by (one-first p tail w rest m cc)
  where
    same : x ≡ y
    same = cc

    by : ((more : Story) × (w ≡ p ++ more)) ⊎ ((more : Story) × (p ≡ w ++ m ∷ more))
        → ((more : Story) × (y ∷ w ≡ (x ∷ p) ++ more)) ⊎ ((more : Story) × (x ∷ p ≡ (y ∷ w) ++ m ∷ more))
    by (inl (more, is)) = inl (more, ap (λ v. y ∷ v) is ∙ ap (λ v. v ∷ (p ++ more)) (sym same))
    by (inr (more, is)) = inr (more, ap (λ v. x ∷ v) is ∙ ap (λ v. v ∷ (w ++ m ∷ more)) same)

-- how many records two stories have
recorded-append : (a b : Story) → recorded_in (a ++ b) ≡ recorded_in a ++ recorded_in b
recorded-append [] b = refl
recorded-append (m ∷ a) b = ap (λ v. recorded_by m ++ v) (recorded-append a b) ∙ sym (append_assoc (recorded_by m) (recorded_in a) (recorded_in b))

-- A front of a story whose records were all done is all done: behind a cut comes a record that was not.
front-done : (p tail done rest story : Story) → story ≡ p ++ tail → IsCutAt done rest story → (extra : Commit) → recorded_in p ++ extra ≡ recorded_in done
    → (more : Story) × (done ≡ p ++ more)
front-done p tail done rest story e (inl (none, whole)) extra records = (tail, whole ∙ e)
front-done p tail done rest story e (inr (inl b)) extra records = by (one-first p tail done b.later b.next (sym e ∙ b.story_is))
  where
    by : ((more : Story) × (done ≡ p ++ more)) ⊎ ((more : Story) × (p ≡ done ++ b.next ∷ more)) → (more : Story) × (done ≡ p ++ more)
    by (inl there) = there
    by (inr (more, is)) =
        let all : recorded_in p ≡ recorded_in done ++ (recorded_by b.next ++ recorded_in more)
        = ap recorded_in is ∙ recorded-append done (b.next ∷ more) in
        let a = ap length all in
        let c = ap length records in
        let some = b.some in
        absurd (omega (
          arith,
          a,
          c,
          some,
          length-append (recorded_in p) extra,
          length-append (recorded_in done) (recorded_by b.next ++ recorded_in more),
          length-append (recorded_by b.next) (recorded_in more),
        ))
front-done p tail done rest story e (inr (inr (w, some))) extra records =
    by (one-first p tail w.earlier w.later (Ran w.number (w.first ++ w.others)) (sym e ∙ w.story_is))
  where
    by : ((more : Story) × (w.earlier ≡ p ++ more)) ⊎ ((more : Story) × (p ≡ w.earlier ++ Ran w.number (w.first ++ w.others) ∷ more))
        → (more : Story) × (done ≡ p ++ more)
    by (inl (more, is)) =
        let last : Story = Ran w.number w.first ∷ [] in
        (more ++ last, w.done_is ∙ ap (λ x. x ++ last) is ∙ append_assoc p more last)
    by (inr (more, is)) =
        let all : recorded_in p ≡ recorded_in w.earlier ++ (records_in (w.first ++ w.others) ++ recorded_in more)
        = ap recorded_in is ∙ recorded-append w.earlier (Ran w.number (w.first ++ w.others) ∷ more) in
        let had : recorded_in done ≡ recorded_in w.earlier ++ (records_in w.first ++ [])
        = ap recorded_in w.done_is ∙ recorded-append w.earlier (Ran w.number w.first ∷ []) in
        let split = ap length (records_in-append w.first w.others) in
        let a = ap length all in
        let b = ap length had in
        let c = ap length records in
        absurd (omega (
          arith,
          some,
          a,
          b,
          c,
          split,
          length-append (recorded_in p) extra,
          length-append (recorded_in w.earlier) (records_in (w.first ++ w.others) ++ recorded_in more),
          length-append (records_in (w.first ++ w.others)) (recorded_in more),
          length-append (records_in w.first) (records_in w.others),
          length-append (recorded_in w.earlier) (records_in w.first ++ []),
          length-append (records_in w.first) [],
        ))

-- ---- the whole

pub crash-restores : RecordsTellAll → JournalIsExact → StoriesAreWritten → AnswersAreKept → RepliesAreKept → CrashesLoseNothing
crash-restores all exact written answers replies s limits rule w how log log' before after restored h keeps story later cut resumed crash =
    let (now, first, more) = lasts-split story later before after lasts in
    let found =
    found-after written exact s rule w before story restored resumed crash journaled [] story refl s.commits refl
    (sym (append-nil (all_records s.commits))) resumed.none in
    let c = story-cut story before now first found.extra found.lost (sym found.rest_is) in
    let found_is : all_records crash.found ≡ all_records s.commits ++ found.extra =
    found.found_is ∙ ap (λ x. x ++ found.extra) (append-nil (all_records s.commits)) in
    let there : all_records crash.found ≡ all_records s.commits ++ recorded_in c.done = found_is ∙ ap (λ x. all_records s.commits ++ x) (sym c.records) in (
      now,
      first,
      record {
        done = c.done;
        rest = c.rest;
        mid = c.mid;
        halves = halves-cut c.done c.rest story c.cut;
        lines = c.lines;
        run = c.run;
        later = c.later;
        same = same-arrays all s w before resumed j story restored crash c.done c.mid c.run there;
        answered = λ round p q n bytes e.
            let (kept, more, d, rec, clean) = answers j s.commits [] story p q n bytes journaled (λ e. refl) e in
            kept-done p (Did (Wrote n bytes) ∷ q) e kept more d rec (clean round) c.done c.rest c.cut there;
        replied = λ round p q text e.
            let (kept, more, d, rec, clean) = replies j s.commits [] story p q text journaled (λ e. refl) e in
            kept-done p (Did (Replied text) ∷ q) e kept more d rec (clean round) c.done c.rest c.cut there;
        whole = λ none.
            same-arrays all s w before resumed j story restored crash story now first
            (there ∙ ap (λ x. all_records s.commits ++ x) (all-there c.done c.rest (halves-cut c.done c.rest story c.cut) none));
      },
    )
  where
    j : Journal
    j = journal_of rule true w

    journaled : IsJournaled j story
    journaled =
        journaled-front j story later
        (subst (IsJournaled j) cut (subst (λ (o : Option Sync). AreKept (opened o (Some w)) h.story) keeps h.journaled))

    lasts : Lasts server_rules true before (story ++ later) after
    lasts =
        subst (λ x. Lasts server_rules true before x after) cut
        (subst (λ (o : Option Sync). Lasts server_rules (is_some o) before h.story after) keeps h.lasts)

    -- what was kept and synced at a moment was done
    kept-done : (p tail : Story) → story ≡ p ++ tail → (kept more : List Commit) → IsOnDisk j s.commits [] p kept more
        → all_records (kept ++ more) ≡ (all_records (s.commits ++ []) ++ j.records) ++ recorded_in p → more ≡ []
        → (done rest : Story) → IsCutAt done rest story → all_records crash.found ≡ all_records s.commits ++ recorded_in done
        → (later : Story) × (done ≡ p ++ later)
    kept-done p tail e kept more d rec none done rest at there =
        let before_is : all_records kept ≡ all_records s.commits ++ recorded_in p =
        sym (ap (λ x. all_records (kept ++ x)) none ∙ ap all_records (append-nil kept)) ∙ rec
        ∙ ap (λ x. (all_records (s.commits ++ []) ++ x) ++ recorded_in p) resumed.none
        ∙ ap (λ x. x ++ recorded_in p) (append-nil (all_records (s.commits ++ [])) ∙ ap all_records (append-nil s.commits)) in
        let empty : (journal_since j p).records ≡ [] =
        append_cancel_left (all_records (kept ++ more)) (journal_since j p).records []
        (d.1 ∙ sym rec ∙ sym (append-nil (all_records (kept ++ more)))) in
        let after =
        found-after written exact s rule w before story restored resumed crash journaled p tail e kept
        (subst (λ x. IsWriting (writer_at j s.commits []) (disk_acts (acts_in p)) (writer_at (journal_since j p) kept x)) none d.0) before_is empty in
        front-done p tail done rest story e at after.extra
        (append_cancel_left (all_records s.commits) (recorded_in p ++ after.extra) (recorded_in done)
        (sym (append_assoc (all_records s.commits) (recorded_in p) after.extra) ∙ sym after.found_is ∙ there))

    -- the records of both halves are those of the story
    all-there : (done rest : Story) → AreHalves done rest story → recorded_in rest ≡ [] → recorded_in done ≡ recorded_in story
    all-there done rest (inl whole) none =
        sym (append-nil (recorded_in done)) ∙ ap (λ x. recorded_in done ++ x) (sym none) ∙ sym (recorded-append done rest) ∙ ap recorded_in whole
    all-there done rest (inr w) none =
        let last : recorded_in done ≡ recorded_in w.earlier ++ (records_in w.first ++ [])
        = ap recorded_in w.done_is ∙ recorded-append w.earlier (Ran w.number w.first ∷ []) in
        let rest_is : records_in w.others ++ recorded_in w.later ≡ [] = sym (ap recorded_in w.rest_is) ∙ none in
        last
        ∙ ap (λ x. recorded_in w.earlier ++ (records_in w.first ++ x)) (sym rest_is)
        ∙ ap (λ x. recorded_in w.earlier ++ x)
        (sym (append_assoc (records_in w.first) (records_in w.others) (recorded_in w.later))
        ∙ ap (λ x. x ++ recorded_in w.later) (sym (records_in-append w.first w.others)))
        ∙ sym (recorded-append w.earlier (Ran w.number (w.first ++ w.others) ∷ w.later))
        ∙ sym (ap recorded_in w.story_is)
