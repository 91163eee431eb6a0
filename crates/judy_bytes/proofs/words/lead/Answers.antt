use Rattle.std.proofs.Common.{◌∙◌, ap, sym}
use Rattle.judy_words.specs.LongArrays.{long_in}
use Rattle.judy_model.specs.Contents.{word_order, with_entry}
use Rattle.judy_bytes.proofs.Changes.{words-put, words-drop}
use Rattle.judy_bytes.proofs.words.lead.Goals as goal

pub returns-then-word-eq0-clause-words : goal.returns-then-word-eq0-clause-words
returns-then-word-eq0-clause-words c =
    words-drop c.args.arena.now.blocks c.delete.new.arena.blocks c.args.words c.delete.new.self c.args.hash c.args.first
    c.delete.ensures.array.sound c.delete.ensures.array.frame c.delete.ensures.content (sym c.word.ensures ∙ c.if-word-eq0.true)

pub returns-clause-words : goal.returns-clause-words
returns-clause-words c =
    words-put c.args.arena.now.blocks c.write.new.arena.blocks c.args.words c.write.new.self c.args.hash c.args.first
    c.write.ensures.array.sound c.write.ensures.array.frame
    (c.write.ensures.content ∙ ap (with_entry word_order (long_in c.args.arena.now.blocks c.args.words) c.args.hash)
    c.word-2.ensures) (λ e. c.if-word-eq0.false (c.word.ensures ∙ e))
