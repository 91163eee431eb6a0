use Rattle.std.proofs.Common.{true, refl, sym, ◌∙◌, ap}
use Rattle.judy_model.specs.Contents.{nth}
use Rattle.judy_model.specs.Tenant.{value_at_or_null}
use Rattle.judy_query.specs.Keys.{key_found}
use Rattle.judy_words.specs.LongArrays.{long_in}
use Rattle.judy_words.proofs.Found.{nth-found}
use Rattle.judy_words.proofs.long.JudyL.by_count.Goals as goal

pub returns-clause-found : goal.returns-clause-found
returns-clause-found c =
    c.entry.ensures (nth (long_in c.args.arena.now.blocks c.args.self.now) c.args.n)
    (nth-found (long_in c.args.arena.now.blocks c.args.self.now) c.args.n
    (c.content_is_sound.ensures true c.args.arena.now.blocks c.args.self.now _ _
    (record { sound = c.requires; content = refl; blocks = refl })).0.0)
    (c.by_count.ensures ∙ ap (λ w. key_found (nth (long_in c.args.arena.now.blocks w) c.args.n)) c.self.view_is)

pub returns-clause-step : goal.returns-clause-step
returns-clause-step c = ap (λ o. (value_at_or_null o, long_in c.args.arena.now.blocks c.args.self.now)) (sym (returns-clause-found c))
