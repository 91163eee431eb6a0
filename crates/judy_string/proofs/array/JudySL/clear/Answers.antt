use Rattle.std.proofs.Common.{[], length, ap, sym, ◌∙◌}
use Rattle.judy_model.specs.declared.replies.Reply.TheVariants as reply
use Rattle.judy_string.specs.StringArrays.{string_in}
use Rattle.judy_string.proofs.MapLaws.{map-has-space}
use Rattle.judy_string.proofs.Whole.{empty-content, emptied-map}
use Rattle.judy_string.proofs.array.JudySL.clear.Goals as goal

pub returns-clause-array : goal.returns-clause-array
returns-clause-array c = emptied-map c.args.arena.now c.clear-count.new.arena c.args.self.now c.self.inside.root c.self.view_is c.clear-count.ensures.gone

pub returns-clause-content : goal.returns-clause-content
returns-clause-content c = empty-content c.clear-count.new.arena.blocks

pub returns-clause-step : goal.returns-clause-step
returns-clause-step c =
    ap (λ n. (reply.Count n, [])) (sym (c.clear-count.ensures.count ∙ ap (λ w. length (string_in c.args.arena.now.blocks w)) c.self.view_is))
    ∙ ap (λ l. (reply.Count c.clear-count.result, l)) (sym (empty-content c.clear-count.new.arena.blocks))

pub returns-clause-space : goal.returns-clause-space
returns-clause-space c = map-has-space c.clear-count.new.arena 0 (returns-clause-array c).sound
