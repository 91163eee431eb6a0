use Rattle.judy_protocol.proofs.FieldCuts.{no_field, to_first}
use Rattle.judy_protocol.proofs.fields.to_field.Goals as goal

pub returns-in_err-start : goal.returns-in_err-start
returns-in_err-start c = rw c.from_residual.ensures (no_field c.args.text.now c.in_err-start.ensures)

pub returns : goal.returns
returns c = to_first c.args.text.now c.split_at.result.1.now c.in_ok-start.start c.split_at.ensures.back
    c.in_ok-start.ensures.0 c.in_ok-start.ensures.1 c.in_ok-start.ensures.2
