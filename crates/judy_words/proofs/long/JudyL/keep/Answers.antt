use Rattle.judy_words.specs.LongArrays.{long_in}
use Rattle.judy_words.proofs.Steps.{kept-answer}
use Rattle.judy_words.proofs.long.JudyL.keep.Goals as goal

pub returns-clause-step : goal.returns-clause-step
returns-clause-step c = kept-answer c.content_is_sound.ensures c.args.arena.now.blocks _ c.args.self.now c.args.x c.args.value
    (long_in c.insert_given.new.arena.blocks c.insert_given.new.self.reference) _ c.self.view_is c.requires
    c.in_ok-answer.ensures.present c.in_ok-answer.ensures.array.content
