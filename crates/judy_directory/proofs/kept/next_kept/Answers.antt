use Rattle.std.proofs.Common.{◌+◌, Some, ap, sym, ◌∙◌, refl, subst, take}
use Rattle.std.proofs.lemmas.List.{take_all}
use Rattle.judy_directory.specs.Order.{is_on, lesser, IsLeast}
use Rattle.judy_directory.specs.Rooms.{look_up}
use Rattle.judy_directory.proofs.Least.{least-same, list-takes, list-leaves}
use Rattle.judy_directory.proofs.kept.next_kept.Goals.{then-is_on, else-is_on}
use Rattle.judy_directory.proofs.kept.next_kept.Goals as goal

pub loop-entry-init : goal.loop-entry-init
loop-entry-init c = λ q t. refl

pub loop-entry-preserved : goal.loop-entry-preserved
loop-entry-preserved c =
    let test = is_on c.args.itself c.args.start.now in
    let es = c.args.kept.now in
    let i = c.loop-entry.entry-index in
    let e = c.entry-item.result in
    elim c.if-is_on.branch [
      | then-is_on w ↦ subst (IsLeast test (λ q. look_up q (take (i + 1) es)))
          (sym (w.least-is ∙ w.lesser-least.ensures ∙ ap (λ k. lesser c.loop-entry.least (Some (k, e.1))) w.copied.ensures))
          (list-takes test es i e c.loop-entry-test.true (sym c.entry-item.is) c.loop-entry.least c.loop-entry.invariant
          (sym c.is_on.ensures ∙ w.if-is_on.true))
      | else-is_on w ↦ subst (IsLeast test (λ q. look_up q (take (i + 1) es))) (sym w.least-is)
          (list-leaves test es i e c.loop-entry-test.true (sym c.entry-item.is) c.loop-entry.least c.loop-entry.invariant
          (sym c.is_on.ensures ∙ w.if-is_on.false))
    ]

pub returns : goal.returns
returns c =
    let es = c.args.kept.now in
    let i = c.loop-entry.entry-index in
    least-same (is_on c.args.itself c.args.start.now) (λ q. look_up q (take i es)) (λ q. look_up q es)
    (λ q t. ap (look_up q) (sym (take_all i es c.loop-entry-test.false))) c.loop-entry.least c.loop-entry.invariant
