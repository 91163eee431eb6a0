use Rattle.std.proofs.Common.{true, false}
use Rattle.judy_many.specs.Books.{journal_of}
use Rattle.judy_many.proofs.Written.{headed, header_kept, header_synced, segment_made, unheaded, written_then}
use Rattle.judy_many.proofs.keeping.begin_segment.Goals as goal

pub returns-then-not-begin-clause-written : goal.returns-then-not-begin-clause-written
returns-then-not-begin-clause-written g c = λ rule.
    segment_made false rule c.args.writer.now c.next_segment.new.self _ _ _ c.next_segment.ensures c.requires.ended c.segment.ensures (rw c.if-not-begin.true at c.begin.ensures)

pub returns-then-not-keep_text-clause-written : goal.returns-then-not-keep_text-clause-written
returns-then-not-keep_text-clause-written g c = λ rule.
    let v = c.next_segment.new.self in
    let made = segment_made true rule c.args.writer.now v _ _ _ c.next_segment.ensures c.requires.ended c.segment.ensures (rw c.if-not-begin.false at c.begin.ensures) in
    written_then false (journal_of rule true c.args.writer.now) (unheaded rule v) (headed rule v) _ _ _ made
    (header_kept false rule c.args.writer.now v _ _ c.next_segment.ensures (rw c.if-not-keep_text.true at c.keep_text.ensures))

pub returns-clause-written : goal.returns-clause-written
returns-clause-written g c = λ rule.
    let v = c.next_segment.new.self in
    let made = segment_made true rule c.args.writer.now v _ _ _ c.next_segment.ensures c.requires.ended c.segment.ensures (rw c.if-not-begin.false at c.begin.ensures) in
    let headed_now = header_kept true rule c.args.writer.now v _ _ c.next_segment.ensures (rw c.if-not-keep_text.false at c.keep_text.ensures) in
    written_then c.sync.result (journal_of rule true c.args.writer.now) (unheaded rule v) (journal_of rule true v) _ _ _ made
    (written_then c.sync.result (unheaded rule v) (headed rule v) (journal_of rule true v) _ _ _ headed_now
    (header_synced c.sync.result rule c.args.writer.now v _ _ c.next_segment.ensures c.sync.ensures))
