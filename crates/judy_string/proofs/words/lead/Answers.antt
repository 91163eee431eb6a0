use Rattle.std.proofs.Common.{sym, ◌∙◌, subst}
use Rattle.judy_words.specs.LongArrays.{long_in}
use Rattle.judy_model.specs.Contents.{word_order, with_entry}
use Rattle.judy_string.specs.Changes.{IsRewritten}
use Rattle.judy_string.proofs.Rewrites.{rewritten-same}
use Rattle.judy_string.proofs.words.lead.Goals as goal

pub returns-then-word-clause-done : goal.returns-then-word-clause-done
returns-then-word-clause-done c =
    let a = c.args.arena.now.blocks in
    subst (λ v. IsRewritten a a c.args.array c.args.array (with_entry word_order (long_in a c.args.array) c.args.word v))
    (sym c.word.ensures ∙ c.if-word.true ∙ c.word-2.ensures)
    (rewritten-same a c.args.array c.args.word c.args.old c.requires.root c.requires.there)
