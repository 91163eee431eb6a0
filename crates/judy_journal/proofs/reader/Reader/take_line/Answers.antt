use Rattle.std.proofs.Common.{◌++◌, ◌∷◌, ◌∙◌, sym, ap, subst}
use Rattle.std.specs.Prelude.{if◌then◌else◌}
use Rattle.judy_journal.specs.declared.damage.Damage.TheVariants as damage
use Rattle.judy_journal.specs.Recoveries.{IsDamaged}
use Rattle.judy_journal.proofs.Stepping.{held, long_damage, taken}
use Rattle.std.proofs.Common.{[], refl, append-nil}
use Rattle.judy_journal.specs.Readings.{HasStopped, IsRead}
use Rattle.judy_journal.proofs.Stepping.{on_both}
use Rattle.judy_journal.proofs.Stopping.{stops-at-line, stops-behind}
use Rattle.judy_journal.proofs.reader.Reader.take_line.Goals as goal

pub returns-then-not-hold-clause-taken : goal.returns-then-not-hold-clause-taken
returns-then-not-hold-clause-taken c segment first text commits h unended more =
    subst (λ d. IsDamaged d segment first (text ++ (c.args.chunk.now ++ 10 ∷ more)))
    (sym (c.too_long.ensures ∙ ap (λ r. if r.begun then damage.Long else damage.NoHeader) (c.hold.ensures.same c.if-not-hold.true)))
    (long_damage segment first text commits c.args.self.now h unended c.args.chunk.now c.requires (c.hold.ensures.long c.if-not-hold.true) (10 ∷ more))

pub returns-clause-taken : goal.returns-clause-taken
returns-clause-taken c segment first text commits h unended =
    let (more, still) = held segment first text commits c.args.self.now h unended c.args.chunk.now c.requires c.hold.new.self (c.hold.ensures.held c.if-not-hold.false) in
    taken segment first text commits c.args.chunk.now c.hold.new.self.records c.end_line.new.self c.end_line.result
    (c.end_line.ensures.ended segment first (text ++ c.args.chunk.now) commits more still)

pub returns-then-not-hold-clause-stopped : goal.returns-then-not-hold-clause-stopped
returns-then-not-hold-clause-stopped c segment first text commits h unended =
    let bytes = c.args.chunk.now ++ 10 ∷ [] in
    subst (λ v. HasStopped bytes segment first text commits v) (sym (c.hold.ensures.same c.if-not-hold.true)) (
      [],
      bytes,
      refl,
      subst (λ v. IsRead segment first v commits c.args.self.now) (sym (append-nil text)) h,
      stops-at-line segment first text commits c.args.self.now h unended c.args.chunk.now c.requires (c.hold.ensures.long c.if-not-hold.true) (10 ∷ []),
    )

pub returns-clause-stopped : goal.returns-clause-stopped
returns-clause-stopped c =
    on_both c.end_line.result (λ same alone segment first text commits h unended.
    let (more, still) = held segment first text commits c.args.self.now h unended c.args.chunk.now c.requires c.hold.new.self (c.hold.ensures.held c.if-not-hold.false) in
    subst (λ v. HasStopped (c.args.chunk.now ++ 10 ∷ []) segment first text commits v) (sym same) (
      c.args.chunk.now,
      10 ∷ [],
      refl,
      more,
      stops-behind segment first text c.args.chunk.now commits c.hold.new.self (alone segment first (text ++ c.args.chunk.now) commits more still),
    )) c.end_line.ensures.same c.end_line.ensures.stopped
