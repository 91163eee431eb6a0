-- What is written into the journal, one thing after another.
use Rattle.std.proofs.Common.{◌≡◌, ◌<◌, ℕ, Bool, true, false, List, [], ◌∷◌, ◌++◌, length, Option, Some, arith, sym, ◌∙◌, ap, subst, refl}
use Rattle.std.specs.Prelude.{IsTrue}
use Rattle.std.proofs.lemmas.List.{length-append}
use Rattle.judy_journal.specs.Journals.{is_commit, joined, mark}
use Rattle.judy_journal.specs.Writes.{Writing, begun, ended, secured, with_note}
use Rattle.judy_many.specs.Books.{Journal, journal_of}
use Rattle.judy_many.specs.Journaling.{AreKeeping, AreWritten, HasWritten, IsFailure, IsJournaled, IsKeeping, IsNext, IsText, MayHappen, Writes, journal_after, journal_since, kept_after}
use Rattle.judy_many.specs.Nets.{Act, Acts, DidLog, begin_acts, keep_acts, sync_acts}
use Rattle.judy_many.specs.Nets.Act.{Began, Kept, Synced, Unkept, Unsynced}
use Rattle.judy_many.specs.Stories.{told}
use Rattle.judy_many.specs.Stories.Moment.{Did}
use Rattle.judy_many.specs.declared.network.Sync.{Sync}
use Rattle.judy_many.proofs.Journals.{kept-append, since-append}
use Rattle.judy_many.proofs.Living.{no_log, then_log}

told-append : (a b : List Act) → told (a ++ b) ≡ told a ++ told b
told-append [] b = refl
told-append (x ∷ a) b = ap (λ t. Did x ∷ t) (told-append a b)

keeping-append : (a b : List Act) → AreKeeping a → AreKeeping b → AreKeeping (a ++ b)
keeping-append [] b h k = k
keeping-append (x ∷ a) b h k = (h.0, keeping-append a b h.1 k)

writes_then : (i j k : Journal) (a b : List Act) → Writes i a j → Writes j b k → Writes i (a ++ b) k
writes_then i j k a b h w = record {
  keeping = keeping-append a b h.keeping w.keeping;
  kept = subst (IsJournaled i) (sym (told-append a b)) (kept-append i (told a) (told b) h.kept (subst (λ l. IsJournaled l (told b)) h.after_is w.kept));
  after_is = w.after_is ∙ ap (λ l. journal_since l (told b)) h.after_is ∙ sym (since-append i (told a) (told b)) ∙ ap (journal_since i) (sym (told-append a b));
}

pub written_none : (j : Journal) (log log' : Acts) → DidLog log [] log' → HasWritten true j j log log'
written_none j log log' k = ([], k, record { keeping = tt; kept = tt; after_is = refl })

written_one : (i : Journal) (a : Act) (log log' : Acts) → IsKeeping a → MayHappen i (Did a) → DidLog log (a ∷ []) log' → HasWritten true i (journal_after i (Did a)) log log'
written_one i a log log' is may k = (a ∷ [], k, record { keeping = (is, tt); kept = (may, tt); after_is = refl })

failed_one : (i j : Journal) (a : Act) (log log' : Acts) → IsFailure a → DidLog log (a ∷ []) log' → HasWritten false i j log log'
failed_one i j a log log' is k = ([], log, i, a, no_log log, record { keeping = tt; kept = tt; after_is = refl }, is, k)

pub written_then : (ok : Bool) (i j k : Journal) (log mid log' : Acts) → HasWritten true i j log mid → HasWritten ok j k mid log' → HasWritten ok i k log log'
written_then true i j k log mid log' (a, l, w) (b, m, v) = (a ++ b, then_log log mid log' a b l m, writes_then i j k a b w v)
written_then false i j k log mid log' (a, l, w) (b, late, reached, last, m, v, fails, n) =
    (a ++ b, late, reached, last, then_log log mid late a b l m, writes_then i j reached a b w v, fails, n)

pub synced : (ok : Bool) (j : Journal) (log log' : Acts) → DidLog log (sync_acts ok) log' → HasWritten ok j (record j { synced = j.size; clean = true }) log log'
synced true j log log' k = written_one j Synced log log' tt tt k
synced false j log log' k = failed_one j (record j { synced = j.size; clean = true }) Unsynced log log' tt k

pub writer_synced : (ok : Bool) (rule : Sync) (clean : Bool) (w v : Writing) (log log' : Acts) → v ≡ secured w → DidLog log (sync_acts ok) log'
    → HasWritten ok (journal_of rule clean w) (journal_of rule true v) log log'
writer_synced ok rule clean w v log log' e k =
    subst (λ u. HasWritten ok (journal_of rule clean w) (journal_of rule true u) log log') (sym e) (synced ok (journal_of rule clean w) log log' k)

kept : (ok : Bool) (j : Journal) (text : List ℕ) (log log' : Acts) → IsText j.begun j text → DidLog log (keep_acts ok text) log' → HasWritten ok j (kept_after j.begun j) log log'
kept true j text log log' is k = written_one j (Kept text) log log' tt is k
kept false j text log log' is k = failed_one j (kept_after j.begun j) Unkept log log' tt k

file_made : (ok : Bool) (j : Journal) (n : ℕ) (log log' : Acts) → IsNext j n → DidLog log (begin_acts ok n) log' → HasWritten ok j (record j { segment = n; begun = false; size = 0; synced = 0 }) log log'
file_made true j n log log' is k = written_one j (Began n) log log' tt is k
file_made false j n log log' is k = failed_one j (record j { segment = n; begun = false; size = 0; synced = 0 }) Unkept log log' tt k

-- a commit was kept
pub commit_kept : (ok : Bool) (rule : Sync) (clean : Bool) (w v : Writing) (log log' : Acts) → v ≡ ended (with_note w) → 0 < length w.records → IsTrue (is_commit (with_note w).records) → DidLog log (keep_acts ok v.text) log'
    → HasWritten ok (journal_of rule clean w) (journal_of rule false v) log log'
commit_kept ok rule clean w v log log' e some is k =
    subst (λ u. DidLog log (keep_acts ok u.text) log' → HasWritten ok (journal_of rule clean w) (journal_of rule false u) log log') (sym e)
    (kept ok (journal_of rule clean w) (ended (with_note w)).text log log' (some, is, refl)) k

-- the file of a segment was made, and its header kept
abbrev pub unheaded : Sync → Writing → Journal
unheaded rule w = record (journal_of rule true w) { begun = false; size = 0; synced = 0 }

-- and not yet synced
abbrev pub headed : Sync → Writing → Journal
headed rule w = record (journal_of rule false w) { synced = 0 }

pub segment_made : (ok : Bool) (rule : Sync) (w v : Writing) (n : ℕ) (log log' : Acts) → v ≡ begun w → w.records ≡ [] → n ≡ v.segment → DidLog log (begin_acts ok n) log'
    → HasWritten ok (journal_of rule true w) (unheaded rule v) log log'
segment_made ok rule w v n log log' e none is k =
    subst (λ u. n ≡ u.segment → HasWritten ok (journal_of rule true w) (unheaded rule u) log log') (sym e)
    (λ same. subst (λ m. DidLog log (begin_acts ok m) log' → HasWritten ok (journal_of rule true w) (unheaded rule (begun w)) log log') (sym same)
    (file_made ok (journal_of rule true w) (begun w).segment log log' (record { number = refl; begun = refl; none = none; clean = refl })) k) is

pub header_kept : (ok : Bool) (rule : Sync) (w v : Writing) (log log' : Acts) → v ≡ begun w → DidLog log (keep_acts ok v.text) log'
    → HasWritten ok (unheaded rule v) (headed rule v) log log'
header_kept ok rule w v log log' e k =
    subst (λ u. DidLog log (keep_acts ok u.text) log' → HasWritten ok (unheaded rule u) (headed rule u) log log') (sym e)
    (kept ok (unheaded rule (begun w)) (begun w).text log log' refl) k

-- and then synced
pub header_synced : (ok : Bool) (rule : Sync) (w v : Writing) (log log' : Acts) → v ≡ begun w → DidLog log (sync_acts ok) log'
    → HasWritten ok (headed rule v) (journal_of rule true v) log log'
header_synced ok rule w v log log' e k =
    subst (λ u. HasWritten ok (headed rule u) (journal_of rule true u) log log') (sym e) (synced ok (headed rule (begun w)) log log' k)

-- ---- a text has bytes

some_after : (front more : List ℕ) → 0 < length (front ++ 10 ∷ more)
some_after front more = let e = length-append front (10 ∷ more) in omega (arith, e)

some_lines : (lines : List (List ℕ)) (last : List ℕ) → 0 < length (joined (lines ++ last ∷ []))
some_lines [] last = some_after last []
some_lines (line ∷ lines) last = some_after line (joined (lines ++ last ∷ []))

pub commit_some : (w v : Writing) → v ≡ ended (with_note w) → 0 < length v.text
commit_some w v e = subst (λ u. 0 < length u.text) (sym e) (some_lines (with_note w).records (mark w.sum (with_note w).records))

-- ---- if there is a journal

pub some_written : (ok : Bool) (s : Option Journal) (i j : Journal) (log log' : Acts) → s ≡ Some i → HasWritten ok i j log log' → AreWritten ok s (Some j) log log'
some_written true s i j log log' e h = subst (λ o. AreWritten true o (Some j) log log') (sym e) h
some_written false s i j log log' e h = subst (λ o. AreWritten false o (Some j) log log') (sym e) h
