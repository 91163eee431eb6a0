use Rattle.std.proofs.Common.{rules, ◌≡◌, ◌∙◌, ap, sym, subst, refl, Some, unwrap_or, arith}
use Rattle.judy_words.specs.LongArrays.{long_in}
use Rattle.judy_model.specs.Contents.{word_order, value_of, has_key, with_entry}
use Rattle.judy_string.specs.Changes.{IsRewritten, entered}
use Rattle.judy_string.proofs.Rewrites.{rewritten-twice, put-there}
use Rattle.judy_string.proofs.words.enter.Goals as goal

pub write-requires : goal.write-requires
write-requires c =
    let a = c.in_ok-answer.ensures.array in
    (omega arith, (refl, (a.root, ap (λ es. has_key word_order es c.args.word) a.content ∙ put-there _ c.args.word _)))

pub returns-clause-done : goal.returns-clause-done
returns-clause-done c =
    let a = c.args.arena.now.blocks in
    let before = long_in a c.args.array in
    let put = c.in_ok-answer.ensures.array in
    let from = c.from_reference-words.ensures in
    let was : Some c.in-Some.before ≡ value_of word_order before c.args.word = sym c.in-Some.is
    ∙ c.in_ok-answer.ensures.present ∙ ap (λ w. value_of word_order (long_in a w) c.args.word) from in
    subst (λ v. IsRewritten a c.write.new.arena.blocks c.args.array c.in_ok-answer.answer.root (with_entry word_order before c.args.word v))
    (c.value_after-2.ensures ∙ ap (λ o. entered o c.args.given) was)
    (rewritten-twice a c.insert_given.new.arena.blocks c.write.new.arena.blocks c.args.array c.insert_given.new.self.reference
    c.in_ok-answer.answer.root c.args.word (unwrap_or (value_of word_order before c.args.word) c.value_after.result) c.value_after-2.result c.requires
    (record { root = put.root; content = search rules; frame = search rules })
    (record { root = search rules; content = search rules; frame = search rules }))
