use Rattle.std.proofs.Common.{◌++◌, ◌∙◌, ap}
use Rattle.judy_model.specs.Stream.{lines_of}
use Rattle.judy_upkeep.specs.Printing.{name_of, printed_lines}
use Rattle.judy_upkeep.proofs.Printed.{printed-first, printed-none}
use Rattle.judy_upkeep.proofs.printing.lines_for.Goals as goal

pub loop-text-preserved : goal.loop-text-preserved
loop-text-preserved c =
    ap (λ v. v ++ printed_lines (name_of c.args.tenant) (lines_of c.in-Some.after.now)) (c.put_printed.ensures c.if-not-put_printed.false)
    ∙ printed-first (name_of c.args.tenant) c.loop-text.rest.now c.in-Some.text.now c.in-Some.after.now c.loop-text.lines.items _
    c.in-Some.ensures.0 c.in-Some.ensures.1 c.loop-text.invariant

pub returns : goal.returns
returns c = printed-none (name_of c.args.tenant) c.loop-text.rest.now c.loop-text.lines.items _ c.in_default.ensures c.loop-text.invariant
