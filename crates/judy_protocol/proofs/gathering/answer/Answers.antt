use Rattle.std.proofs.Common.{◌++◌, ap, ◌∙◌}
use Rattle.judy_protocol.proofs.Talking.{Gathers-line}
use Rattle.judy_protocol.proofs.gathering.answer.Goals as goal

pub returns-clause-gathers : goal.returns-clause-gathers
returns-clause-gathers g c = (
  c.run-changed.new.answer.items,
  c.append.ensures ∙ ap (λ v. c.args.rooms.now.answers.items ++ v) c.as_slice.ensures.value,
  Gathers-line _ _ c.args.chunk.now _ _ c.args.held.now _ _ _ _ _ _ c.requires.line c.hear-asked.ensures.heard c.hear-asked.ensures.empty
      c.run-changed.ensures.turn.turn c.asks_to_quit.ensures,
)
