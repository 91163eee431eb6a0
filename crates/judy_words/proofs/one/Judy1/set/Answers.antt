use Rattle.std.proofs.Common.{ap, ◌∙◌}
use Rattle.std.specs.Prelude.{is_none}
use Rattle.judy_words.specs.OneArrays.{one_in}
use Rattle.judy_words.proofs.Steps.{none-is, set-answer}
use Rattle.judy_words.proofs.one.Judy1.set.Goals as goal

pub returns-clause-step : goal.returns-clause-step
returns-clause-step c = set-answer c.args.arena.now.blocks _ c.args.self.now c.args.x
    (one_in c.insert.new.arena.blocks c.insert.new.self.reference) c.is_none.result c.self.view_is
    (none-is _ _ c.is_none.ensures ∙ ap is_none c.in_ok-answer.ensures.present) c.in_ok-answer.ensures.array.content
