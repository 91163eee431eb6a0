use Rattle.std.proofs.Common.{sym}
use Rattle.std.specs.Prelude.{codes}
use Rattle.judy_model.specs.Grammar.{fields_of}
use Rattle.judy_protocol.proofs.Spelled.{no_request}
use Rattle.judy_protocol.proofs.Texts.{other_text}
use Rattle.judy_protocol.proofs.requests.other_request.Goals as goal

pub returns : goal.returns
returns c = sym (no_request c.args.word.now c.args.name (fields_of c.args.after_name.now)
    (other_text c.args.word.now (codes "NAMES") _ c.as_slice.ensures c.if-eq.ensures)
    (other_text c.args.word.now (codes "AUTH") _ c.as_slice-2.ensures c.if-eq-2.ensures))
