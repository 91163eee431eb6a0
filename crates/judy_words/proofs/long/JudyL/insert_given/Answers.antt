use Rattle.std.proofs.Common.{◌≡◌, true, sym, ◌∙◌, ap, subst, unwrap_or}
use Rattle.judy_model.specs.Contents.{word_order, value_of, has_key}
use Rattle.judy_model.specs.Tenant.Reports.{ReportsValue}
use Rattle.judy_model.specs.Tenant.{insert}
use Rattle.judy_model.specs.declared.replies.Reply.TheVariants as reply
use Rattle.judy_words.specs.LongArrays.{long_in}
use Rattle.judy_words.proofs.Given.{has_key-with, insert-over}
use Rattle.judy_words.proofs.long.JudyL.insert_given.Goals as goal

pub write-requires-clause-there : goal.write-requires-clause-there
write-requires-clause-there c =
    let before = long_in c.args.arena.now.blocks c.self.inside.root.reference in
    ap (λ z. has_key word_order z c.args.x) c.in_ok-answer.ensures.array.content
    ∙ has_key-with before c.args.x (unwrap_or (value_of word_order before c.args.x) c.value_after.result)

pub returns-clause-step : goal.returns-clause-step
returns-clause-step c =
    let b = c.args.arena.now.blocks in
    let before = long_in b c.self.inside.root.reference in
    subst (λ w. insert word_order true (long_in b w) c.args.x c.args.given ReportsValue
    ≡ (reply.Value c.value_replied-2.result, long_in c.write.new.arena.blocks c.write.new.self)) c.self.view_is
    (insert-over before (long_in c.insert_given.new.arena.blocks c.insert_given.new.self.reference) (long_in c.write.new.arena.blocks c.write.new.self)
    c.args.x c.in-Some.value c.value_after-2.result c.value_replied-2.result
    (unwrap_or (value_of word_order before c.args.x) c.value_after.result) c.args.given
    (sym c.in_ok-answer.ensures.present ∙ c.in-Some.is) c.value_after-2.ensures c.value_replied-2.ensures
    c.in_ok-answer.ensures.array.content c.write.ensures.content)
