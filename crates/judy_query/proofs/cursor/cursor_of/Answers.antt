use Rattle.std.proofs.Common.{◌%◌, is_some, ap, sym, ◌∙◌, refl, arith}
use Rattle.std.proofs.lemmas.Bool.{false≢true as not_true}
use Rattle.judy_model.specs.Contents.{word_order, value_of}
use Rattle.judy_tree.specs.Nodes.{head_at}
use Rattle.judy_tree.specs.Root.{entries}
use Rattle.judy_tree.proofs.lemmas.Joins.{kid}
use Rattle.judy_tree.proofs.lemmas.Trees.{root-leaf, root-top}
use Rattle.judy_tree.proofs.lemmas.Finds.{find-by_byte, kid-at, deep-branch, low-branch}
use Rattle.judy_query.proofs.Betweens.{between-top}
use Rattle.judy_query.proofs.Cursors.{all-between}
use Rattle.judy_query.proofs.cursor.cursor_of.Goals as goal

pub loop-above-init : goal.loop-above-init
loop-above-init c = record {
  sound = c.requires.root;
  here = c.requires.there;
  near = λ y z h. between-top c.args.values c.args.arena.now.blocks c.args.node y;
  kids = λ n. absurd (n refl);
}

pub open-branch-requires : goal.open-branch-requires
open-branch-requires c = (root-top c.args.values c.args.arena.now.blocks c.loop-above.at
    (sym c.leads_to_branch.ensures ∙ c.loop-above-test.true) c.loop-above.invariant.sound).branch

pub unreachable-requires : goal.unreachable-requires
unreachable-requires c =
    let b = c.args.arena.now.blocks in
    let byte = ap (λ h. h % 256) (c.lead.ensures ∙ ap (λ l. head_at l c.args.x) (c.head.ensures.level ∙ ap (λ v. v.level) c.open-branch.ensures)) in
    let none = ap (λ v. value_of word_order v.children (c.lead.result % 256)) (sym c.open-branch.ensures) ∙ sym c.child.ensures ∙ c.in_default.is in
    let gone = find-by_byte c.args.values b c.loop-above.at c.args.x (sym c.leads_to_branch.ensures ∙ c.loop-above-test.true)
    c.loop-above.invariant.sound (c.lead.result % 256) byte
    ∙ ap (λ o. value_of word_order (kid (entries c.args.values b) o) c.args.x) none in
    not_true (sym (ap is_some gone) ∙ c.loop-above.invariant.here)

pub loop-above-smaller : goal.loop-above-smaller
loop-above-smaller c =
    let is = sym c.leads_to_branch.ensures ∙ c.loop-above-test.true in
    let i = kid-at c.args.values c.args.arena.now.blocks c.loop-above.at c.args.x is c.loop-above.invariant.sound (c.lead.result % 256)
    c.in-Some.below (ap (λ v. value_of word_order v.children (c.lead.result % 256)) (sym c.open-branch.ensures)
    ∙ sym c.child.ensures ∙ c.in-Some.is) in
    let d = deep-branch c.args.values c.args.arena.now.blocks c.loop-above.at c.args.x is c.loop-above.invariant.sound in
    let l = low-branch c.args.values c.args.arena.now.blocks c.loop-above.at c.args.x is c.loop-above.invariant.sound in
    let e = i.deeper in
    omega arith

pub loop-above-preserved : goal.loop-above-preserved
loop-above-preserved c =
    let b = c.args.arena.now.blocks in
    let is = sym c.leads_to_branch.ensures ∙ c.loop-above-test.true in
    let byte = ap (λ h. h % 256) (c.lead.ensures ∙ ap (λ l. head_at l c.args.x) (c.head.ensures.level ∙ ap (λ v. v.level) c.open-branch.ensures)) in
    let found = ap (λ v. value_of word_order v.children (c.lead.result % 256)) (sym c.open-branch.ensures) ∙ sym c.child.ensures ∙ c.in-Some.is in
    let down = find-by_byte c.args.values b c.loop-above.at c.args.x is c.loop-above.invariant.sound (c.lead.result % 256) byte
    ∙ ap (λ o. value_of word_order (kid (entries c.args.values b) o) c.args.x) found in
    let between = all-between c.args.values b c.loop-above.at is c.loop-above.invariant.sound c.args.node c.loop-above.above
    c.loop-above.invariant.near in
    record {
      sound = (kid-at c.args.values b c.loop-above.at c.args.x is c.loop-above.invariant.sound (c.lead.result % 256) c.in-Some.below found).sound;
      here = sym (ap is_some down) ∙ c.loop-above.invariant.here;
      near = λ y z h. between (c.lead.result % 256) c.in-Some.below y z found h;
      kids = λ n. between;
    }

pub returns : goal.returns
returns c =
    let low = sym c.leads_to_branch.ensures ∙ c.loop-above-test.false in
    record {
      leaf = root-leaf c.args.values c.args.arena.now.blocks c.loop-above.at low c.loop-above.invariant.sound;
      low = low;
      here = c.loop-above.invariant.here;
      near = c.loop-above.invariant.near;
      kids = c.loop-above.invariant.kids;
    }
