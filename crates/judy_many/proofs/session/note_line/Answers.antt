use Rattle.std.proofs.Common.{◌≤◌, arith, length, subst, sym}
use Rattle.judy_protocol.specs.Talks.{HasNoLf}
use Rattle.judy_many.proofs.Recording.{is_short}
use Rattle.judy_many.proofs.session.note_line.Goals as goal

pub note-requires-clause-short : goal.note-requires-clause-short
note-requires-clause-short g c =
    let whole = rw c.in-Some-line.is at c.requires.short in
    let fits = c.squeeze.ensures.fits in
    let few = whole.1 in
    is_short c.name.result.now c.as_slice.result.now c.name.ensures.spelled
    (subst HasNoLf (sym c.as_slice.ensures.value) (c.squeeze.ensures.plain whole.0))
    (subst (λ b. length b ≤ 4096) (sym c.as_slice.ensures.value) (omega (arith, fits, few)))
