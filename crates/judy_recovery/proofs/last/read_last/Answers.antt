use Rattle.std.proofs.KnownBytes.{Consumes-nil}
use Rattle.std.proofs.Common.{[], take, sym, subst, append-nil}
use Rattle.judy_journal.specs.Noting.{HasSeen}
use Rattle.judy_recovery.proofs.Playing.{gives_next, keeps_after, reads_none}
use Rattle.judy_recovery.proofs.last.read_last.Goals as goal

pub loop-init : goal.loop-init
loop-init g c = (
  [],
  Consumes-nil (g.R.Source.source.left c.args.file.now),
  λ segment text h. subst (λ v. HasSeen segment v c.args.notes.now) (sym (append-nil text)) h,
  reads_none g.P.Player.plays (record { rests = g.met.P.Player.rests; joins = g.met.P.Player.joins }) c.args.recovery.now c.args.player.now,
)

pub loop-preserved : goal.loop-preserved
loop-preserved g c =
    gives_next g.P.Player.plays (record { rests = g.met.P.Player.rests; joins = g.met.P.Player.joins })
    (g.R.Source.source.left c.args.file.now) (g.R.Source.source.left c.loop.file) (g.R.Source.source.left c.pull.new.self) (take c.in-Bytes.n c.pull.new.buf)
    c.args.recovery.now c.loop.recovery c.read_next.new.recovery c.args.player.now c.loop.player c.read_next.new.player
    c.loop.found c.in_ok-found-in-Bytes.found c.args.notes.now c.loop.notes c.read.new.self
    c.loop.invariant c.in-Bytes.ensures.bytes.2 c.read.ensures c.in_ok-found-in-Bytes.ensures

pub returns-in-End : goal.returns-in-End
returns-in-End g c =
    let (bytes, given, noted, reads) = c.loop.invariant in
    record {
      bytes = bytes;
      given = keeps_after (g.R.Source.source.left c.args.file.now) (g.R.Source.source.left c.loop.file) (g.R.Source.source.left c.pull.new.self) bytes given c.in-End.ensures.bytes;
      ended = c.in-End.ensures.end;
      noted = noted;
      reads = reads;
    }
