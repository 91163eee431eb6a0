use Rattle.std.proofs.Common.{Bool, [], ◌∷◌, ◌++◌, ◌∙◌, ap, sym, append-nil}
use Rattle.std.specs.Prelude.{if◌then◌else◌}
use Rattle.judy_upkeep.proofs.Printed.{printed-neither, printed-request}
use Rattle.judy_upkeep.proofs.printing.put_request.Goals as goal

pub returns-in_default-read_record : goal.returns-in_default-read_record
returns-in_default-read_record c = λ _. sym (append-nil c.args.lines.now.items)
    ∙ ap (λ v. c.args.lines.now.items ++ v)
    (sym (printed-neither c.args.tenant.now c.args.text.now c.in_default.ensures c.in_default-read_record.ensures))

pub returns-then-eq : goal.returns-then-eq
returns-then-eq c = λ h. c.put_line-then-eq.ensures h
    ∙ ap (λ v. c.args.lines.now.items ++ v)
    (sym (printed-request c.args.tenant.now c.args.text.now c.in-Some-read_record.name.now c.in-Some-read_record.request.now
    c.in_default.ensures c.in-Some-read_record.ensures.0 c.in-Some-read_record.ensures.1
    ∙ ap (λ (b : Bool). if b then c.in-Some-read_record.request.now ++ 10 ∷ [] else []) (sym c.eq.ensures ∙ c.if-eq.true)))

pub returns : goal.returns
returns c = λ _. sym (append-nil c.args.lines.now.items)
    ∙ ap (λ v. c.args.lines.now.items ++ v)
    (sym (printed-request c.args.tenant.now c.args.text.now c.in-Some-read_record.name.now c.in-Some-read_record.request.now
    c.in_default.ensures c.in-Some-read_record.ensures.0 c.in-Some-read_record.ensures.1
    ∙ ap (λ (b : Bool). if b then c.in-Some-read_record.request.now ++ 10 ∷ [] else []) (sym c.eq.ensures ∙ c.if-eq.false)))
