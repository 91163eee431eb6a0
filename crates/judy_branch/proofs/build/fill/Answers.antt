use Rattle.std.proofs.Common.{◌≡◌, ◌+◌, take, length, get_or, ap, ◌∙◌, subst, arith}
use Rattle.std.proofs.lemmas.List.{length-take-le}
use Rattle.std.specs.Prelude.{nat_lt}
use Rattle.judy_model.specs.Contents.{word_order, with_entry, has_key}
use Rattle.judy_model.proofs.lemmas.TestLemmas.{and_right}
use Rattle.judy_branch.specs.Children.{count_in, children_in, is_child}
use Rattle.judy_branch.specs.Written.{BranchBecomes}
use Rattle.judy_branch.proofs.Lists.{next-put, sound-at, laid-count, used-mono, becomes-same, becomes-then}
use Rattle.judy_branch.proofs.build.fill.Goals as goal

pub loop-i-init : goal.loop-i-init
loop-i-init c = becomes-same c.args.shape c.args.words.now _ c.requires.laid c.requires.empty

pub insert_child-requires-clause-absent : goal.insert_child-requires-clause-absent
insert_child-requires-clause-absent c =
    let w = c.loop-i.invariant in
    ap (λ es. has_key word_order es (get_or c.args.list.now c.loop-i.i c.index-list-i.result).0) w.children
    ∙ (next-put c.args.list.now c.loop-i.i c.index-list-i.result c.index-list-i.result c.loop-i-test.true c.requires.rising).1

pub insert_child-requires-clause-few : goal.insert_child-requires-clause-few
insert_child-requires-clause-few c =
    let w = c.loop-i.invariant in
    let h = c.loop-i-test.true in
    let n = laid-count c.args.shape c.loop-i.words w.laid in
    let m : length (children_in c.args.shape c.loop-i.words) ≡ c.loop-i.i = ap length w.children ∙ length-take-le c.loop-i.i c.args.list.now (omega arith) in
    let f = c.requires.few in
    omega arith

pub insert_child-requires-clause-room : goal.insert_child-requires-clause-room
insert_child-requires-clause-room c =
    let w = c.loop-i.invariant in
    let h = c.loop-i-test.true in
    let n = laid-count c.args.shape c.loop-i.words w.laid in
    let m : length (children_in c.args.shape c.loop-i.words) ≡ c.loop-i.i = ap length w.children ∙ length-take-le c.loop-i.i c.args.list.now (omega arith) in
    let f = c.requires.room in
    let s = w.size in
    let u = used-mono c.args.shape (count_in c.loop-i.words + 1) (length c.args.list.now) (omega arith) in
    omega arith

pub insert_child-requires-clause-child : goal.insert_child-requires-clause-child
insert_child-requires-clause-child c =
    let d = c.index-list-i-in-loop-i.result in
    and_right (nat_lt (get_or c.args.list.now c.loop-i.i d).0 256) (is_child (get_or c.args.list.now c.loop-i.i d).1)
    (sound-at c.args.list.now c.loop-i.i d c.loop-i-test.true c.requires.sound)

pub loop-i-preserved : goal.loop-i-preserved
loop-i-preserved c =
    let w = c.loop-i.invariant in
    let p = (next-put c.args.list.now c.loop-i.i c.index-list-i.result c.index-list-i-in-loop-i.result c.loop-i-test.true c.requires.rising).0 in
    becomes-then c.args.shape c.args.words.now c.loop-i.words c.insert_child.new.words (take c.loop-i.i c.args.list.now)
    (take (c.loop-i.i + 1) c.args.list.now) w
    (subst (λ l. BranchBecomes c.args.shape c.loop-i.words c.insert_child.new.words l)
    (ap (λ es. with_entry word_order es (get_or c.args.list.now c.loop-i.i c.index-list-i.result).0
    (get_or c.args.list.now c.loop-i.i c.index-list-i-in-loop-i.result).1) w.children ∙ p) c.insert_child.ensures)
