use Rattle.std.proofs.Common.{unwrap_or}
use Rattle.judy_model.specs.Contents.{word_order, value_of}
use Rattle.judy_words.specs.LongArrays.{long_in}
use Rattle.judy_words.proofs.Given.{there-after}
use Rattle.judy_words.proofs.long.JudyL.insert.Goals as goal

pub returns-clause-there : goal.returns-clause-there
returns-clause-there c =
    there-after c.insert.result (long_in c.args.arena.now.blocks c.self.inside.root.reference)
    (long_in c.insert.new.arena.blocks c.insert.new.self.reference) c.args.x
    (unwrap_or (value_of word_order (long_in c.args.arena.now.blocks c.self.inside.root.reference) c.args.x) 0) c.insert.ensures.array.content
