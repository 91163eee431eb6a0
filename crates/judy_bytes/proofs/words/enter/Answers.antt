use Rattle.std.proofs.Common.{◌∙◌, ap}
use Rattle.judy_words.specs.LongArrays.{long_in}
use Rattle.judy_model.specs.Contents.{word_order, with_entry}
use Rattle.judy_bytes.proofs.Changes.{words-put, entered}
use Rattle.judy_bytes.proofs.words.enter.Goals as goal

pub returns-clause-words : goal.returns-clause-words
returns-clause-words c =
    let a = c.args.arena.now.blocks in
    let b = c.insert_given.new.arena.blocks in
    words-put a b c.args.words c.insert_given.new.self c.args.hash c.args.first c.in_ok-insert_given.ensures.array.sound
    c.in_ok-insert_given.ensures.array.frame
    (entered (long_in a c.args.words) (long_in b c.insert_given.new.self) c.args.hash c.word.result c.in_ok-insert_given.field-0
    c.requires.absent c.in_ok-insert_given.ensures.step
    ∙ ap (with_entry word_order (long_in a c.args.words) c.args.hash) c.word.ensures) c.requires.some
