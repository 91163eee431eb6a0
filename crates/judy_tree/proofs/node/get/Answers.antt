use Rattle.std.proofs.Common.{◌%◌, arith, ap, sym, ◌∙◌}
use Rattle.judy_model.specs.Contents.{word_order, value_of}
use Rattle.judy_tree.specs.Root.{entries}
use Rattle.judy_tree.proofs.lemmas.Joins.{kid}
use Rattle.judy_tree.specs.Nodes.{head_at}
use Rattle.judy_tree.proofs.lemmas.Trees.{root-leaf, leaf-content, root-top}
use Rattle.judy_tree.proofs.lemmas.Finds.{find-by_byte, kid-at, deep-branch, low-branch}
use Rattle.judy_tree.proofs.node.get.Goals as goal

pub open-branch-requires : goal.open-branch-requires
open-branch-requires c = (root-top c.args.values c.args.arena.now.blocks c.loop-at.at
    (sym c.leads_to_branch.ensures ∙ c.loop-at-test.true) c.loop-at.invariant.sound).branch

pub byte_at-byte-requires : goal.byte_at-byte-requires
byte_at-byte-requires c =
    let low = (root-top c.args.values c.args.arena.now.blocks c.loop-at.at (sym c.leads_to_branch.ensures ∙ c.loop-at-test.true)
    c.loop-at.invariant.sound).view.level in
    let e = c.head.ensures.low in
    omega arith

pub returns-in_default : goal.returns-in_default
returns-in_default c = sym (c.loop-at.invariant.same
    ∙ find-by_byte c.args.values c.args.arena.now.blocks c.loop-at.at c.args.key (sym c.leads_to_branch.ensures ∙ c.loop-at-test.true)
    c.loop-at.invariant.sound c.byte_at-byte.result
    (c.byte_at-byte.ensures ∙ ap (λ l. head_at l c.args.key % 256) (c.head.ensures.level ∙ ap (λ v. v.level) c.open-branch.ensures))
    ∙ ap (λ o. value_of word_order (kid (entries c.args.values c.args.arena.now.blocks) o) c.args.key)
    (ap (λ v. value_of word_order v.children c.byte_at-byte.result) (sym c.open-branch.ensures) ∙ sym c.child.ensures
    ∙ c.in_default.is))

pub loop-at-smaller : goal.loop-at-smaller
loop-at-smaller c =
    let is = sym c.leads_to_branch.ensures ∙ c.loop-at-test.true in
    let i = kid-at c.args.values c.args.arena.now.blocks c.loop-at.at c.args.key is c.loop-at.invariant.sound c.byte_at-byte.result
    c.in-Some.child (ap (λ v. value_of word_order v.children c.byte_at-byte.result) (sym c.open-branch.ensures)
    ∙ sym c.child.ensures ∙ c.in-Some.is) in
    let d = deep-branch c.args.values c.args.arena.now.blocks c.loop-at.at c.args.key is c.loop-at.invariant.sound in
    let l = low-branch c.args.values c.args.arena.now.blocks c.loop-at.at c.args.key is c.loop-at.invariant.sound in
    let e = i.deeper in
    omega arith

pub loop-at-preserved : goal.loop-at-preserved
loop-at-preserved c =
    let is = sym c.leads_to_branch.ensures ∙ c.loop-at-test.true in
    let found = ap (λ v. value_of word_order v.children c.byte_at-byte.result) (sym c.open-branch.ensures) ∙ sym c.child.ensures ∙ c.in-Some.is in
    record {
      sound = (kid-at c.args.values c.args.arena.now.blocks c.loop-at.at c.args.key is c.loop-at.invariant.sound c.byte_at-byte.result
          c.in-Some.child found).sound;
      same = c.loop-at.invariant.same
          ∙ find-by_byte c.args.values c.args.arena.now.blocks c.loop-at.at c.args.key is c.loop-at.invariant.sound c.byte_at-byte.result
          (c.byte_at-byte.ensures ∙ ap (λ l. head_at l c.args.key % 256) (c.head.ensures.level ∙ ap (λ v. v.level) c.open-branch.ensures))
          ∙ ap (λ o. value_of word_order (kid (entries c.args.values c.args.arena.now.blocks) o) c.args.key) found;
    }

pub get-requires : goal.get-requires
get-requires c = root-leaf c.args.values c.args.arena.now.blocks c.loop-at.at (sym c.leads_to_branch.ensures ∙ c.loop-at-test.false) c.loop-at.invariant.sound

pub returns : goal.returns
returns c =
    c.get.ensures ∙ sym (c.loop-at.invariant.same
    ∙ ap (λ l. value_of word_order l c.args.key) (leaf-content c.args.values c.args.arena.now.blocks c.loop-at.at
    (sym c.leads_to_branch.ensures ∙ c.loop-at-test.false)))
