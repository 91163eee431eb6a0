use Rattle.std.proofs.Common.{◌++◌, ◌∙◌}
use Rattle.judy_protocol.proofs.Turned.{bare_heard}
use Rattle.judy_protocol.proofs.turns.hear.Goals as goal

pub returns-clause-heard : goal.returns-clause-heard
returns-clause-heard c = λ rest h. c.hear_line-asked.ensures.heard
    ∙ bare_heard (λ b. b.now) (rest ++ c.args.chunk.now) c.whole_line.result (c.whole_line.ensures.bare (rest ++ c.args.chunk.now) (c.join_line-joined.ensures.joined rest h))
