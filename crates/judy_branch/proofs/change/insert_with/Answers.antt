use Rattle.std.proofs.Common.{◌≤◌, ◌+◌, set, length, ap, sym, ◌∙◌, subst, arith, length-set}
use Rattle.judy_model.specs.Contents.{Entries, word_order, has_key, with_entry}
use Rattle.judy_branch.specs.Children.{count_in, level_in, prefix_in, children_in, used_words}
use Rattle.judy_branch.specs.Written.{BranchBecomes}
use Rattle.judy_branch.proofs.Lists.{used-some}
use Rattle.judy_branch.proofs.Changes.{with-population, built-then, count-kept}
use Rattle.judy_branch.proofs.change.insert_with.Goals as goal

pub insert_child-requires-clause-laid : goal.insert_child-requires-clause-laid
insert_child-requires-clause-laid c = (with-population c.args.words.now c.args.population c.args.shape
    (let r = c.requires.laid.room in let u = used-some c.args.shape (count_in c.args.words.now) in omega arith)
    c.requires.laid).laid

pub insert_child-requires-clause-absent : goal.insert_child-requires-clause-absent
insert_child-requires-clause-absent c =
    ap (λ es. has_key word_order es c.args.byte)
    (with-population c.args.words.now c.args.population c.args.shape
    (let r = c.requires.laid.room in let u = used-some c.args.shape (count_in c.args.words.now) in omega arith) c.requires.laid).children
    ∙ c.requires.absent

pub insert_child-requires-clause-few : goal.insert_child-requires-clause-few
insert_child-requires-clause-few c = let k = count-kept c.args.words.now c.args.population in let f = c.requires.few in omega arith

pub insert_child-requires-clause-room : goal.insert_child-requires-clause-room
insert_child-requires-clause-room c =
    subst (λ n. used_words c.args.shape (n + 1) ≤ length (set c.args.words.now 2 c.args.population)) (sym (count-kept c.args.words.now c.args.population))
    (let l = length-set c.args.words.now 2 c.args.population in let r = c.requires.room in omega arith)

pub returns : goal.returns
returns c =
    let begun = with-population c.args.words.now c.args.population c.args.shape (let r = c.requires.laid.room in
    let u = used-some c.args.shape (count_in c.args.words.now) in omega arith) c.requires.laid in
    built-then c.args.shape (set c.args.words.now 2 c.args.population) c.insert_child.new.words (level_in c.args.words.now)
    (prefix_in c.args.words.now) c.args.population (children_in c.args.shape c.args.words.now) _ begun
    (subst (λ (es : Entries _). BranchBecomes c.args.shape (set c.args.words.now 2 c.args.population) c.insert_child.new.words
    (with_entry word_order es c.args.byte c.args.child)) begun.children c.insert_child.ensures)
