use Rattle.std.proofs.Common.{sym, ◌∙◌, ap}
use Rattle.judy_model.specs.Contents.{word_order, first}
use Rattle.judy_model.specs.Tenant.{value_at_or_null}
use Rattle.judy_words.specs.LongArrays.{long_in}
use Rattle.judy_words.proofs.long.JudyL.first.Goals as goal

pub returns-clause-found : goal.returns-clause-found
returns-clause-found c = c.first_entry.ensures ∙ ap (λ w. first word_order (long_in c.args.arena.now.blocks w) c.args.x) c.self.view_is

pub returns-clause-step : goal.returns-clause-step
returns-clause-step c = ap (λ o. (value_at_or_null o, long_in c.args.arena.now.blocks c.args.self.now)) (sym (returns-clause-found c))
