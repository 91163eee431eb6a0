use Rattle.std.proofs.Common.{sym, ◌∙◌}
use Rattle.judy_string.proofs.WellFormed.{strings-are-keys, are-bytes}
use Rattle.judy_string.proofs.array.is_string.Goals as goal

pub returns : goal.returns
returns c =
    let same = strings-are-keys c.args.bytes.now (are-bytes c.args.bytes.now (λ i. c.type_inv.bytes i)) in
    (λ yes_. same.0 (sym c.is_string.ensures ∙ yes_), λ key. c.is_string.ensures ∙ same.1 key)
