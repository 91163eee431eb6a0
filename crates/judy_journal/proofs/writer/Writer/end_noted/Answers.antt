use Rattle.std.proofs.Common.{◌≡◌, ◌++◌, ◌∷◌, [], length, ap, sym, subst, ◌∙◌}
use Rattle.std.specs.Prelude.{IsTrue}
use Rattle.judy_model.specs.Stream.{lines_of}
use Rattle.judy_journal.specs.Journals.{is_commit, joined}
use Rattle.judy_journal.specs.Notes.{note}
use Rattle.judy_journal.specs.Writes.{ended, size_with, with_note}
use Rattle.judy_journal.proofs.Noticing.{IsNoteText, note_text}
use Rattle.judy_journal.proofs.Pushing.{whole}
use Rattle.judy_journal.proofs.writer.Writer.end_noted.Goals as goal
use Rattle.judy_journal.proofs.writer.Writer.end_noted.Goals.{After-as_slice}

-- the text of the note
its_text : (c : After-as_slice) → IsNoteText c.self.inside.segment c.saturating_add-place.result c.self.inside.synced c.as_slice.result.now
its_text c = note_text c.self.inside.segment c.saturating_add-place.result c.self.inside.synced c.as_slice.result.now c.note_line-note.ensures.record
    (c.as_slice.ensures.value ∙ c.put.ensures ∙ ap (λ v. v ++ 10 ∷ []) c.note_line-note.ensures.text)

pub finish-requires-clause-whole : goal.finish-requires-clause-whole
finish-requires-clause-whole c = (its_text c).rest

pub finish-requires-clause-lines : goal.finish-requires-clause-lines
finish-requires-clause-lines c = ap length (sym (its_text c).lines)

pub finish-requires-clause-records : goal.finish-requires-clause-records
finish-requires-clause-records c = (its_text c).records

-- the records with the note
with_it : (c : After-as_slice) → record c.args.self.now { records = c.args.self.now.records ++ lines_of c.as_slice.result.now } ≡ with_note c.args.self.now
with_it c =
    let w = c.args.self.now in
    let body = c.self.inside.body.items in
    let place : c.saturating_add-place.result ≡ size_with w.size (length (joined w.records)) =
    c.saturating_add-place.ensures ∙ ap (size_with c.self.inside.size) (c.len.ensures.value ∙ ap length (sym (whole body c.self.invariant.0)))
    ∙ ap (λ v. size_with v.size (length (joined v.records))) c.self.view_is in
    let its : note c.self.inside.segment c.saturating_add-place.result c.self.inside.synced ≡ note w.segment (size_with w.size (length (joined w.records))) w.synced =
    ap (λ p. note c.self.inside.segment p c.self.inside.synced) place
    ∙ ap (λ v. note v.segment (size_with w.size (length (joined w.records))) v.synced) c.self.view_is in
    ap (λ ls. record w { records = w.records ++ ls }) ((its_text c).lines ∙ ap (λ n. n ∷ []) its)

pub returns-clause-ended : goal.returns-clause-ended
returns-clause-ended c = c.finish.ensures.ended ∙ ap ended (with_it c.before)

pub returns-clause-commit : goal.returns-clause-commit
returns-clause-commit c = subst (λ w. IsTrue (is_commit w.records)) (with_it c.before) c.finish.ensures.commit
