use Rattle.judy_protocol.proofs.FieldCuts.{first_field, no_field}
use Rattle.judy_protocol.proofs.fields.next_field.Goals as goal

pub returns-in_default : goal.returns-in_default
returns-in_default c = no_field c.args.line.now c.in_default.ensures

pub returns : goal.returns
returns c = rw (c.split_at-2.ensures.front, c.split_at-2.ensures.back)
    (first_field c.args.line.now c.split_at.result.1.now c.in-Some.start c.field_len.result c.split_at.ensures.back
    c.in-Some.ensures.0 c.in-Some.ensures.1 c.in-Some.ensures.2 c.field_len.ensures.within c.field_len.ensures.before c.field_len.ensures.end)
