use Rattle.std.proofs.Common.{◌%◌, ap, sym, ◌∙◌, refl, arith}
use Rattle.std.proofs.lemmas.Option.{none-some}
use Rattle.judy_model.specs.Contents.{word_order, value_of}
use Rattle.judy_tree.specs.Nodes.{head_at}
use Rattle.judy_tree.specs.Root.{entries}
use Rattle.judy_tree.proofs.lemmas.Joins.{kid}
use Rattle.judy_tree.proofs.lemmas.Trees.{root-leaf, leaf-content, root-top}
use Rattle.judy_tree.proofs.lemmas.Finds.{find-by_byte, kid-at, deep-branch, low-branch}
use Rattle.judy_query.proofs.Betweens.{between-below, between-top}
use Rattle.judy_query.proofs.near.finger_of.Goals as goal

pub open-branch-requires : goal.open-branch-requires
open-branch-requires c = (root-top c.args.values c.args.arena.now.blocks c.loop-above.at
    (sym c.leads_to_branch.ensures ∙ c.loop-above-test.true) c.loop-above.invariant.sound).branch

pub returns-in_default : goal.returns-in_default
returns-in_default c =
    let b = c.args.arena.now.blocks in
    let byte = ap (λ h. h % 256) (c.lead.ensures ∙ ap (λ l. head_at l c.args.x) (c.head.ensures.level ∙ ap (λ v. v.level) c.open-branch.ensures)) in
    let none = ap (λ v. value_of word_order v.children (c.lead.result % 256)) (sym c.open-branch.ensures) ∙ sym c.child.ensures ∙ c.in_default.is in
    record {
      value = sym (c.loop-above.invariant.same
          ∙ find-by_byte c.args.values b c.loop-above.at c.args.x (sym c.leads_to_branch.ensures ∙ c.loop-above-test.true)
          c.loop-above.invariant.sound (c.lead.result % 256) byte
          ∙ ap (λ o. value_of word_order (kid (entries c.args.values b) o) c.args.x) none);
      leaf = λ u i. absurd (none-some u i);
      low = λ u i. absurd (none-some u i);
      near = λ u i. absurd (none-some u i);
    }

pub loop-above-init : goal.loop-above-init
loop-above-init c = record {
  sound = c.requires;
  same = refl;
  near = λ u h. between-top c.args.values c.args.arena.now.blocks c.args.node c.args.x;
}

pub loop-above-smaller : goal.loop-above-smaller
loop-above-smaller c =
    let is = sym c.leads_to_branch.ensures ∙ c.loop-above-test.true in
    let i = kid-at c.args.values c.args.arena.now.blocks c.loop-above.at c.args.x is c.loop-above.invariant.sound (c.lead.result % 256)
    c.in-Some.below (ap (λ v. value_of word_order v.children (c.lead.result % 256)) (sym c.open-branch.ensures)
    ∙ sym c.child.ensures ∙ c.in-Some.is) in
    let d = deep-branch c.args.values c.args.arena.now.blocks c.loop-above.at c.args.x is c.loop-above.invariant.sound in
    let l = low-branch c.args.values c.args.arena.now.blocks c.loop-above.at c.args.x is c.loop-above.invariant.sound in
    let e = i.deeper in
    omega arith

pub loop-above-preserved : goal.loop-above-preserved
loop-above-preserved c =
    let b = c.args.arena.now.blocks in
    let is = sym c.leads_to_branch.ensures ∙ c.loop-above-test.true in
    let byte = ap (λ h. h % 256) (c.lead.ensures ∙ ap (λ l. head_at l c.args.x) (c.head.ensures.level ∙ ap (λ v. v.level) c.open-branch.ensures)) in
    let found = ap (λ v. value_of word_order v.children (c.lead.result % 256)) (sym c.open-branch.ensures) ∙ sym c.child.ensures ∙ c.in-Some.is in
    let down = find-by_byte c.args.values b c.loop-above.at c.args.x is c.loop-above.invariant.sound (c.lead.result % 256) byte
    ∙ ap (λ o. value_of word_order (kid (entries c.args.values b) o) c.args.x) found in
    record {
      sound = (kid-at c.args.values b c.loop-above.at c.args.x is c.loop-above.invariant.sound (c.lead.result % 256) c.in-Some.below found).sound;
      same = c.loop-above.invariant.same ∙ down;
      near = λ u h. between-below c.args.values b c.loop-above.at is c.loop-above.invariant.sound c.args.x (c.lead.result % 256)
          c.in-Some.below u found h c.args.node c.loop-above.above (c.loop-above.invariant.near u (down ∙ h));
    }

pub get-requires : goal.get-requires
get-requires c = root-leaf c.args.values c.args.arena.now.blocks c.loop-above.at (sym c.leads_to_branch.ensures ∙ c.loop-above-test.false)
    c.loop-above.invariant.sound

pub returns : goal.returns
returns c =
    let b = c.args.arena.now.blocks in
    let low = sym c.leads_to_branch.ensures ∙ c.loop-above-test.false in
    let same = leaf-content c.args.values b c.loop-above.at low in
    let value = c.get.ensures ∙ ap (λ l. value_of word_order l c.args.x) (sym same) in
    record {
      value = value ∙ sym c.loop-above.invariant.same;
      leaf = λ u i. root-leaf c.args.values b c.loop-above.at low c.loop-above.invariant.sound;
      low = λ u i. low;
      near = λ u i. c.loop-above.invariant.near u (sym value ∙ i);
    }
