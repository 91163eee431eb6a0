use Rattle.std.proofs.Common.{sym}
use Rattle.std.specs.Prelude.{codes}
use Rattle.judy_protocol.proofs.Texts.{other_text, none_of_4}
use Rattle.judy_protocol.proofs.requests.lone_request.Goals as goal

pub returns : goal.returns
returns c = sym (none_of_4 _ _ _ _ _ _ _ _
    (other_text c.args.word.now (codes "QUIT") _ c.as_slice.ensures c.if-eq.ensures)
    (other_text c.args.word.now (codes "USED") _ c.as_slice-2.ensures c.if-eq-2.ensures)
    (other_text c.args.word.now (codes "PING") _ c.as_slice-3.ensures c.if-eq-3.ensures)
    (other_text c.args.word.now (codes "HELLO") _ c.as_slice-4.ensures c.if-eq-4.ensures))
