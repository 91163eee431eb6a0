use Rattle.std.proofs.Common.{◌++◌, ◌∷◌, [], true, false, ◌∙◌, sym, ap, subst, refl, append_assoc, append-nil, arith, length}
use Rattle.std.proofs.lemmas.List.{length-append}
use Rattle.std.specs.Prelude.{if◌then◌else◌}
use Rattle.judy_journal.specs.declared.damage.Damage.TheVariants as damage
use Rattle.judy_journal.specs.Recoveries.{IsDamaged}
use Rattle.judy_journal.proofs.Stepping.{cut_more, held, long_damage, read_more}
use Rattle.judy_journal.specs.Readings.{HasStopped, IsRead}
use Rattle.judy_journal.proofs.Stopping.{stops-at-line, stops-later}
use Rattle.judy_journal.proofs.reader.Reader.read.Goals as goal

pub returns-in-Ok-true-clause-read : goal.returns-in-Ok-true-clause-read
returns-in-Ok-true-clause-read c segment first text commits h =
    let (used, cut, so_far) = c.loop-chunk.invariant.read in
    let (r, unended) = so_far segment first text commits h in
    let line = c.in-Some.chunk.now ++ 10 ∷ [] in
    let k = rw c.in-Ok-true.field-0-test at c.in-Ok-true.ensures.taken segment first (text ++ used) commits r unended in
    let (now, whole) = read_more segment first text used line _ c.take_line.new.self true k in
    (used ++ line, c.in-Some.after.now, cut_more used c.in-Some.chunk.now c.in-Some.after.now c.loop-chunk.rest.now c.args.bytes.now cut c.in-Some.ensures.1, refl, now, whole)

pub loop-chunk-preserved : goal.loop-chunk-preserved
loop-chunk-preserved c =
    let (used, cut, so_far) = c.loop-chunk.invariant.read in
    let line = c.in-Some.chunk.now ++ 10 ∷ [] in
    record {
      read = (
        used ++ line,
        cut_more used c.in-Some.chunk.now c.in-Some.after.now c.loop-chunk.rest.now c.args.bytes.now cut c.in-Some.ensures.1,
        λ segment first text commits h.
            let (r, unended) = so_far segment first text commits h in
            let k = rw c.in-Ok-false.field-0-test at c.in-Ok-false.ensures.taken segment first (text ++ used) commits r unended in
            read_more segment first text used line commits c.take_line.new.self false k,
      );
    }

pub returns-in-Err-clause-read : goal.returns-in-Err-clause-read
returns-in-Err-clause-read c segment first text commits h =
    let (used, cut, so_far) = c.loop-chunk.invariant.read in
    let (r, unended) = so_far segment first text commits h in
    let k = c.in-Err.ensures.taken segment first (text ++ used) commits r unended c.in-Some.after.now in
    subst (IsDamaged c.in-Err.damage segment first)
    (append_assoc text used (c.in-Some.chunk.now ++ 10 ∷ c.in-Some.after.now)
    ∙ ap (λ v. text ++ v) (ap (λ v. used ++ v) (sym c.in-Some.ensures.1) ∙ cut)) k

pub returns-then-not-hold-clause-read : goal.returns-then-not-hold-clause-read
returns-then-not-hold-clause-read c segment first text commits h =
    let (used, cut, so_far) = c.loop-chunk.invariant.read in
    let (r, unended) = so_far segment first text commits h in
    let k = long_damage segment first (text ++ used) commits c.loop-chunk.self r unended c.loop-chunk.rest.now c.in_default.ensures (c.hold.ensures.long c.if-not-hold.true) [] in
    subst (λ d. IsDamaged d segment first (text ++ c.args.bytes.now))
    (sym (c.too_long.ensures ∙ ap (λ r. if r.begun then damage.Long else damage.NoHeader) (c.hold.ensures.same c.if-not-hold.true)))
    (subst (IsDamaged (if c.loop-chunk.self.begun then damage.Long else damage.NoHeader) segment first)
    (ap (λ v. (text ++ used) ++ v) (append-nil c.loop-chunk.rest.now) ∙ append_assoc text used c.loop-chunk.rest.now ∙ ap (λ v. text ++ v) cut) k)

pub returns-clause-read : goal.returns-clause-read
returns-clause-read c segment first text commits h =
    let (used, cut, so_far) = c.loop-chunk.invariant.read in
    let (r, unended) = so_far segment first text commits h in
    let k = held segment first (text ++ used) commits c.loop-chunk.self r unended c.loop-chunk.rest.now c.in_default.ensures c.hold.new.self
    (c.hold.ensures.held c.if-not-hold.false) in
    let (now, still) = read_more segment first text used c.loop-chunk.rest.now commits c.hold.new.self false k in
    (subst (λ v. Rattle.judy_journal.specs.Readings.IsRead segment first (text ++ v) commits c.hold.new.self) cut now, still)

pub returns-in-Ok-true-clause-left : goal.returns-in-Ok-true-clause-left
returns-in-Ok-true-clause-left c =
    let (used, cut, so_far) = c.loop-chunk.invariant.read in
    omega (arith, ap length cut, ap length c.in-Some.ensures.1, length-append used c.loop-chunk.rest.now, length-append c.in-Some.chunk.now (10 ∷ c.in-Some.after.now))

pub returns-in-Err-clause-stopped : goal.returns-in-Err-clause-stopped
returns-in-Err-clause-stopped c segment first text commits h =
    let (used, cut, so_far) = c.loop-chunk.invariant.read in
    let (r, unended) = so_far segment first text commits h in
    stops-later segment first text used (c.in-Some.chunk.now ++ 10 ∷ []) c.args.bytes.now c.in-Some.after.now commits c.take_line.new.self
    (c.in-Err.ensures.stopped segment first (text ++ used) commits r unended)
    (ap (λ v. used ++ v) (append_assoc c.in-Some.chunk.now (10 ∷ []) c.in-Some.after.now ∙ sym c.in-Some.ensures.1) ∙ cut)

pub returns-then-not-hold-clause-stopped : goal.returns-then-not-hold-clause-stopped
returns-then-not-hold-clause-stopped c segment first text commits h =
    let (used, cut, so_far) = c.loop-chunk.invariant.read in
    let (r, unended) = so_far segment first text commits h in
    let rest = c.loop-chunk.rest.now in
    subst (λ v. HasStopped c.args.bytes.now segment first text commits v) (sym (c.hold.ensures.same c.if-not-hold.true))
    (stops-later segment first text used (rest ++ []) c.args.bytes.now [] commits c.loop-chunk.self (
      [],
      rest ++ [],
      refl,
      subst (λ v. IsRead segment first v commits c.loop-chunk.self) (sym (append-nil (text ++ used))) r,
      stops-at-line segment first (text ++ used) commits c.loop-chunk.self r unended rest c.in_default.ensures (c.hold.ensures.long c.if-not-hold.true) [],
    ) (ap (λ v. used ++ v) (append-nil (rest ++ []) ∙ append-nil rest) ∙ cut))
