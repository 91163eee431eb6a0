use Rattle.judy_journal.proofs.Noticing.{note-record}
use Rattle.judy_journal.proofs.notes.note_line.Goals as goal

pub returns-clause-record : goal.returns-clause-record
returns-clause-record c = note-record c.args.segment c.args.place c.args.sure c.ranges.sure.fits
