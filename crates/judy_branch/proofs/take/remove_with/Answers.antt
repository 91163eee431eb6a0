use Rattle.std.proofs.Common.{set, ap, ◌∙◌, subst, arith}
use Rattle.judy_model.specs.Contents.{Entries, word_order, has_key, without_key}
use Rattle.judy_branch.specs.Children.{count_in, level_in, prefix_in, children_in}
use Rattle.judy_branch.specs.Written.{BranchBecomes}
use Rattle.judy_branch.proofs.Lists.{used-some}
use Rattle.judy_branch.proofs.Changes.{with-population, built-then}
use Rattle.judy_branch.proofs.take.remove_with.Goals as goal

pub remove_child-requires-clause-laid : goal.remove_child-requires-clause-laid
remove_child-requires-clause-laid c = (with-population c.args.words.now c.args.population c.args.shape
    (let r = c.requires.laid.room in let u = used-some c.args.shape (count_in c.args.words.now) in omega arith)
    c.requires.laid).laid

pub remove_child-requires-clause-there : goal.remove_child-requires-clause-there
remove_child-requires-clause-there c =
    ap (λ es. has_key word_order es c.args.byte)
    (with-population c.args.words.now c.args.population c.args.shape
    (let r = c.requires.laid.room in let u = used-some c.args.shape (count_in c.args.words.now) in omega arith) c.requires.laid).children
    ∙ c.requires.there

pub returns-clause-built : goal.returns-clause-built
returns-clause-built c =
    let begun = with-population c.args.words.now c.args.population c.args.shape (let r = c.requires.laid.room in
    let u = used-some c.args.shape (count_in c.args.words.now) in omega arith) c.requires.laid in
    built-then c.args.shape (set c.args.words.now 2 c.args.population) c.remove_child.new.words (level_in c.args.words.now)
    (prefix_in c.args.words.now) c.args.population (children_in c.args.shape c.args.words.now) _ begun
    (subst (λ (es : Entries _). BranchBecomes c.args.shape (set c.args.words.now 2 c.args.population) c.remove_child.new.words
    (without_key word_order es c.args.byte)) begun.children c.remove_child.ensures)
