use Rattle.judy_kinds.proofs.Counted.{key-string}
use Rattle.judy_kinds.proofs.string.as_string.Goals as goal

pub returns-clause-string : goal.returns-clause-string
returns-clause-string c = key-string c.args.bytes.now (λ i. c.type_inv.bytes i) c.requires
