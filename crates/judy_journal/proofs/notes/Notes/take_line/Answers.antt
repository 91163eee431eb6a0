use Rattle.judy_journal.proofs.Noticing.{line_seen}
use Rattle.judy_journal.proofs.notes.Notes.take_line.Goals as goal

pub returns : goal.returns
returns c segment text h = line_seen segment text c.args.chunk.now c.args.self.now c.hold.new.self c.end_line.new.self c.requires h c.hold.ensures c.end_line.ensures
