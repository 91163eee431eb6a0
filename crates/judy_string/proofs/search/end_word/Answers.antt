use Rattle.std.proofs.Common.{true, ap, ◌∙◌}
use Rattle.judy_model.specs.Contents.{word_order, last, max_word}
use Rattle.judy_tree.specs.Root.{entries}
use Rattle.judy_tree.proofs.lemmas.Trees.{root-words}
use Rattle.judy_string.proofs.Shows.{end-last_word}
use Rattle.judy_string.proofs.search.end_word.Goals as goal

pub returns-in-Last : goal.returns-in-Last
returns-in-Last c =
    end-last_word c.args.how (entries true c.args.arena.now.blocks c.args.array) c.last.result c.in-Last.is
    (c.last.ensures.found ∙ ap (λ w. last word_order (entries true c.args.arena.now.blocks w) max_word) c.from_reference-words.ensures)
    (root-words true c.args.arena.now.blocks c.args.array c.requires).1
