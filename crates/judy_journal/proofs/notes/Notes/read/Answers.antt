use Rattle.std.proofs.Common.{◌++◌, ◌∷◌, [], ◌∙◌, ap, subst, append_assoc}
use Rattle.judy_journal.specs.Noting.{HasSeen}
use Rattle.judy_journal.proofs.Noticing.{rest_seen}
use Rattle.judy_journal.proofs.Stepping.{cut_more}
use Rattle.judy_journal.proofs.notes.Notes.read.Goals as goal

pub loop-chunk-preserved : goal.loop-chunk-preserved
loop-chunk-preserved c =
    let (used, cut, seen) = c.loop-chunk.invariant in
    let line = c.in-Some.chunk.now ++ 10 ∷ [] in (
      used ++ line,
      cut_more used c.in-Some.chunk.now c.in-Some.after.now c.loop-chunk.rest.now c.args.bytes.now cut c.in-Some.ensures.1,
      λ segment text h. subst (λ v. HasSeen segment v c.take_line.new.self) (append_assoc text used line)
          (c.take_line.ensures segment (text ++ used) (seen segment text h)),
    )

pub returns : goal.returns
returns c segment text h =
    let (used, cut, seen) = c.loop-chunk.invariant in
    subst (λ v. HasSeen segment v c.hold.new.self) (append_assoc text used c.loop-chunk.rest.now ∙ ap (λ v. text ++ v) cut)
    (rest_seen segment (text ++ used) c.loop-chunk.rest.now c.loop-chunk.self c.hold.new.self c.in_default.ensures (seen segment text h) c.hold.ensures)
