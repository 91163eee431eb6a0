-- The acts of the loop on the disk are those of a writer.
--     on_disk             what is on the disk after a story
--     stories_are_written, answers_are_kept, replies_are_kept
use Rattle.std.proofs.Common.{◌≡◌, ℕ, length, inl, inr, Bool, true, false, List, [], ◌∷◌, ◌++◌, sym, ◌∙◌, ap, subst, refl, append_assoc, append-nil}
use Rattle.judy_journal.specs.Acts.{IsWriting}
use Rattle.judy_journal.specs.Acts.DiskAct.{Kept as FileKept}
use Rattle.judy_journal.specs.Journals.{Commit}
use Rattle.judy_journal.specs.Journals.{joined, numbered}
use Rattle.judy_journal.specs.Leaving.{gone_records}
use Rattle.judy_journal.specs.Notes.{changes_in, note}
use Rattle.judy_journal.specs.Writes.{all_records, size_with}
use Rattle.judy_many.specs.Books.{Journal, commit_of, noted}
use Rattle.judy_many.specs.declared.network.Sync.{Sync}
use Rattle.judy_many.specs.declared.network.Sync.TheVariants as sync
use Rattle.judy_many.specs.Journaling.{AnswersAreKept, IsJournaled, IsOnDisk, IsSecured, IsSettled, IsText, RepliesAreKept, StoriesAreWritten, disk_acts, journal_after, journal_since, kept_after, phase_of, writer_at}
use Rattle.judy_many.specs.Nets.Act.{Came, Refused, Read, Dry, Ended, Broke, Wrote, Failed, Closed, Waited, Lost, Asked, Questioned, Reported, Warned, Tabled, Untabled, Named, Replied, Began, Kept, Unkept, Synced, Unsynced, Took}
use Rattle.judy_many.specs.Sessions.{records_in}
use Rattle.judy_many.specs.Stories.{Moment, Story, acts_in, recorded_in}
use Rattle.judy_many.specs.Stories.Moment.{Changed, Did, Ran}

never : false ≡ true → ⊥
never e = cc

all_records-append : (a b : List Commit) → all_records (a ++ b) ≡ all_records a ++ all_records b
all_records-append [] b = refl
all_records-append (x ∷ a) b = ap (λ v. changes_in x ++ v) (all_records-append a b) ∙ sym (append_assoc (changes_in x) (all_records a) (all_records b))

-- a note at the end of a commit tells no change
without_its_note : (records : Commit) (segment place sure : ℕ) → changes_in (records ++ note segment place sure ∷ []) ≡ records
unfolding numbered
without_its_note [] segment place sure = refl
without_its_note (r ∷ []) segment place sure = refl
without_its_note (r ∷ s ∷ records) segment place sure = ap (λ v. r ∷ v) (without_its_note (s ∷ records) segment place sure)

-- one more commit was kept
one_more : (kept more : List Commit) (j : Journal) → all_records (kept ++ (more ++ commit_of j ∷ [])) ++ [] ≡ all_records (kept ++ more) ++ j.records
one_more kept more j =
    append-nil (all_records (kept ++ (more ++ commit_of j ∷ []))) ∙ ap all_records (sym (append_assoc kept more (commit_of j ∷ [])))
    ∙ all_records-append (kept ++ more) (commit_of j ∷ []) ∙ ap (λ v. all_records (kept ++ more) ++ v) (append-nil (changes_in (commit_of j))
    ∙ without_its_note j.records j.segment (size_with j.size (length (joined j.records))) j.synced)

-- lines were run, or tenants left
more_records : (before records some more : Commit) → (before ++ (records ++ some)) ++ more ≡ (before ++ records) ++ (some ++ more)
more_records before records some more =
    ap (λ v. v ++ more) (sym (append_assoc before records some)) ∙ append_assoc (before ++ records) some more

pub on_disk : (j : Journal) (kept more : List Commit) (story : Story) → IsJournaled j story → (j.clean ≡ true → more ≡ [])
    → (kept' : List Commit) × (more' : List Commit) × IsOnDisk j kept more story kept' more'
on_disk j kept more [] h c = (kept, more, (refl, sym (append-nil (all_records (kept ++ more) ++ j.records)), c))
on_disk j kept more (Did (Came m i) ∷ story) h c = on_disk j kept more story h.1 c
on_disk j kept more (Did Refused ∷ story) h c = on_disk j kept more story h.1 c
on_disk j kept more (Did (Read m bytes) ∷ story) h c = on_disk j kept more story h.1 c
on_disk j kept more (Did (Dry m) ∷ story) h c = on_disk j kept more story h.1 c
on_disk j kept more (Did (Ended m) ∷ story) h c = on_disk j kept more story h.1 c
on_disk j kept more (Did (Broke m) ∷ story) h c = on_disk j kept more story h.1 c
on_disk j kept more (Did (Wrote m bytes) ∷ story) h c = on_disk j kept more story h.1 c
on_disk j kept more (Did (Failed m) ∷ story) h c = on_disk j kept more story h.1 c
on_disk j kept more (Did (Closed m how) ∷ story) h c = on_disk j kept more story h.1 c
on_disk j kept more (Did (Waited sleeps woken) ∷ story) h c = on_disk j kept more story h.1 c
on_disk j kept more (Did Lost ∷ story) h c = on_disk j kept more story h.1 c
on_disk j kept more (Did (Asked s) ∷ story) h c = on_disk j kept more story h.1 c
on_disk j kept more (Did (Questioned q) ∷ story) h c = on_disk j kept more story h.1 c
on_disk j kept more (Did (Reported text) ∷ story) h c = on_disk j kept more story h.1 c
on_disk j kept more (Did (Warned text) ∷ story) h c = on_disk j kept more story h.1 c
on_disk j kept more (Did (Tabled text) ∷ story) h c = on_disk j kept more story h.1 c
on_disk j kept more (Did Untabled ∷ story) h c = on_disk j kept more story h.1 c
on_disk j kept more (Did (Named name) ∷ story) h c = on_disk j kept more story h.1 c
on_disk j kept more (Did (Replied text) ∷ story) h c = on_disk j kept more story h.1 c
on_disk j kept more (Did (Began k) ∷ story) h c =
    let (kept', more', d) = on_disk (record j { segment = k; begun = false; size = 0; synced = 0 }) kept more story h.1 c in
    (kept', more', ((writer_at (record j { segment = k; begun = false; size = 0; synced = 0 }) kept more, record { number_is = h.0.number; done = inr (ap phase_of h.0.begun); clean = h.0.clean; now = refl }, d.0), d.1, d.2))
on_disk j kept more (Did (Kept text) ∷ story) h c = text_kept j.begun refl h.0 h.1 (λ i more rest c. on_disk i kept more story rest c)
  where
    Goal : Journal → Type 0
    Goal i = (kept' : List Commit) × (more' : List Commit)
        × (IsWriting (writer_at j kept more) (FileKept text ∷ disk_acts (acts_in story)) (writer_at (journal_since i story) kept' more')
        × (all_records (kept' ++ more') ++ (journal_since i story).records ≡ (all_records (kept ++ more) ++ j.records) ++ recorded_in story)
        × ((journal_since i story).clean ≡ true → more' ≡ []))

    text_kept : (b : Bool) → j.begun ≡ b → IsText b j text → IsJournaled (kept_after b j) story
        → ((i : Journal) (more : List Commit) → IsJournaled i story → (i.clean ≡ true → more ≡ []) → (kept' : List Commit) × (more' : List Commit) × IsOnDisk i kept more story kept' more')
        → Goal (kept_after b j)
    text_kept true e t rest again =
        let commit = commit_of j in
        let (kept', more', d) = again (kept_after true j) (more ++ commit ∷ []) rest (λ e. absurd (never e)) in (
          kept',
          more',
          (
            (writer_at (kept_after true j) kept (more ++ commit ∷ []), inr (record { headed = ap phase_of e; commit = commit; commit_is = t.1; text_is = t.2; now = refl }), d.0),
            d.1 ∙ ap (λ r. r ++ recorded_in story) (one_more kept more j),
            d.2,
          ),
        )
    text_kept false e t rest again =
        let (kept', more', d) = again (kept_after false j) more rest (λ e. absurd (never e)) in
        (kept', more', ((writer_at (kept_after false j) kept more, inl (record { bare = ap phase_of e; text_is = t; now = refl }), d.0), d.1, d.2))
on_disk j kept more (Did Unkept ∷ story) h c = on_disk j kept more story h.1 c
on_disk j kept more (Did Synced ∷ story) h c =
    let (kept', more', d) = on_disk (record j { synced = j.size; clean = true }) (kept ++ more) [] story h.1 (λ e. refl) in (
      kept',
      more',
      (
        (writer_at (record j { synced = j.size; clean = true }) (kept ++ more) [], refl, d.0),
        d.1 ∙ ap (λ r. (all_records r ++ j.records) ++ recorded_in story) (append-nil (kept ++ more)),
        d.2,
      ),
    )
on_disk j kept more (Did Unsynced ∷ story) h c = on_disk j kept more story h.1 c
on_disk j kept more (Did (Took m name limit takes) ∷ story) h c = on_disk j kept more story h.1 c
on_disk j kept more (Ran n turns ∷ story) h c =
    let (kept', more', d) = on_disk (noted (records_in turns) j) kept more story h.1 c in
    (kept', more', (d.0, d.1 ∙ more_records (all_records (kept ++ more)) j.records (records_in turns) (recorded_in story), d.2))
on_disk j kept more (Changed text left ∷ story) h c =
    let (kept', more', d) = on_disk (noted (gone_records left) j) kept more story h.1 c in
    (kept', more', (d.0, d.1 ∙ more_records (all_records (kept ++ more)) j.records (gone_records left) (recorded_in story), d.2))

-- ---- a story that is cut

front : (j : Journal) (p q : Story) → IsJournaled j (p ++ q) → IsJournaled j p
front j [] q h = tt
front j (m ∷ p) q h = (h.0, front (journal_after j m) p q h.1)

back : (j : Journal) (p q : Story) → IsJournaled j (p ++ q) → IsJournaled (journal_since j p) q
back j [] q h = h
back j (m ∷ p) q h = back (journal_after j m) p q h.1

rule_after : (j : Journal) (m : Moment) → (journal_after j m).rule ≡ j.rule
rule_after j (Did (Came m i)) = refl
rule_after j (Did Refused) = refl
rule_after j (Did (Read m bytes)) = refl
rule_after j (Did (Dry m)) = refl
rule_after j (Did (Ended m)) = refl
rule_after j (Did (Broke m)) = refl
rule_after j (Did (Wrote m bytes)) = refl
rule_after j (Did (Failed m)) = refl
rule_after j (Did (Closed m how)) = refl
rule_after j (Did (Waited sleeps woken)) = refl
rule_after j (Did Lost) = refl
rule_after j (Did (Asked s)) = refl
rule_after j (Did (Questioned q)) = refl
rule_after j (Did (Reported text)) = refl
rule_after j (Did (Warned text)) = refl
rule_after j (Did (Tabled text)) = refl
rule_after j (Did Untabled) = refl
rule_after j (Did (Named name)) = refl
rule_after j (Did (Replied text)) = refl
rule_after j (Did (Began k)) = refl
rule_after j (Did (Kept text)) = stays j.begun
  where
    stays : (b : Bool) → (kept_after b j).rule ≡ j.rule
    stays true = refl
    stays false = refl
rule_after j (Did Unkept) = refl
rule_after j (Did Synced) = refl
rule_after j (Did Unsynced) = refl
rule_after j (Did (Took m name limit takes)) = refl
rule_after j (Ran n turns) = refl
rule_after j (Changed text left) = refl

rule_since : (j : Journal) (p : Story) → (journal_since j p).rule ≡ j.rule
rule_since j [] = refl
rule_since j (m ∷ p) = rule_since (journal_after j m) p ∙ rule_after j m

pub stories_are_written : StoriesAreWritten
stories_are_written j kept more story p q h c cut = on_disk j kept more p (front j p q (subst (IsJournaled j) cut h)) c

secured : (rule : Sync) (clean : Bool) → rule ≡ sync.Round → IsSecured rule clean → clean ≡ true
secured rule clean e h = subst (λ r. IsSecured r clean) e h

-- before an answer: what settles the journal before it
settled_before : (j : Journal) (kept more : List Commit) (p rest : Story) → IsJournaled j (p ++ rest) → IsSettled (journal_since j p) → (j.clean ≡ true → more ≡ [])
    → (kept' : List Commit) × (more' : List Commit) × IsOnDisk j kept more p kept' more'
    × (all_records (kept' ++ more') ≡ (all_records (kept ++ more) ++ j.records) ++ recorded_in p) × (j.rule ≡ sync.Round → more' ≡ [])
settled_before j kept more p rest whole settled c =
    let (kept', more', d) = on_disk j kept more p (front j p rest whole) c in (
      kept',
      more',
      d,
      sym (ap (λ r. all_records (kept' ++ more') ++ r) settled.0 ∙ append-nil (all_records (kept' ++ more'))) ∙ d.1,
      λ e. d.2 (secured (journal_since j p).rule (journal_since j p).clean (rule_since j p ∙ e) settled.1),
    )

pub answers_are_kept : AnswersAreKept
answers_are_kept j kept more story p q n bytes h c cut =
    let rest = Did (Wrote n bytes) ∷ q in
    let whole = subst (IsJournaled j) cut h in
    settled_before j kept more p rest whole (back j p rest whole).0 c

pub replies_are_kept : RepliesAreKept
replies_are_kept j kept more story p q text h c cut =
    let rest = Did (Replied text) ∷ q in
    let whole = subst (IsJournaled j) cut h in
    settled_before j kept more p rest whole (back j p rest whole).0 c
