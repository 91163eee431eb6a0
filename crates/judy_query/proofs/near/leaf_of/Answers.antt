use Rattle.std.proofs.Common.{ap, sym, ◌∙◌, arith}
use Rattle.judy_model.specs.Contents.{word_order, value_of}
use Rattle.judy_tree.proofs.lemmas.Heads.{at-view}
use Rattle.judy_tree.proofs.lemmas.Trees.{root-top}
use Rattle.judy_tree.proofs.lemmas.Finds.{kid-at, deep-branch, low-branch}
use Rattle.judy_query.proofs.Nears.{near-none, near-leaf}
use Rattle.judy_query.proofs.Searches as up
use Rattle.judy_query.proofs.Lasts as down
use Rattle.judy_query.proofs.near.leaf_of.Goals as goal

pub open-branch-requires : goal.open-branch-requires
open-branch-requires c = (root-top c.args.values c.args.arena.now.blocks c.loop-at.at
    (sym c.leads_to_branch.ensures ∙ c.loop-at-test.true) c.loop-at.invariant.sound).branch

pub loop-at-init : goal.loop-at-init
loop-at-init c = record { sound = c.requires; from = λ e h. h; upto = λ e h. h }

pub loop-at-smaller : goal.loop-at-smaller
loop-at-smaller c =
    let is = sym c.leads_to_branch.ensures ∙ c.loop-at-test.true in
    let found = ap (λ v. value_of word_order v.children c.in-Some.byte) (sym c.open-branch.ensures) ∙ sym c.child.ensures ∙ c.in-Some-child.is in
    let i = kid-at c.args.values c.args.arena.now.blocks c.loop-at.at c.args.x is c.loop-at.invariant.sound c.in-Some.byte c.in-Some-child.child found in
    let d = deep-branch c.args.values c.args.arena.now.blocks c.loop-at.at c.args.x is c.loop-at.invariant.sound in
    let l = low-branch c.args.values c.args.arena.now.blocks c.loop-at.at c.args.x is c.loop-at.invariant.sound in
    let e = i.deeper in
    omega arith

pub loop-at-preserved : goal.loop-at-preserved
loop-at-preserved c =
    let is = sym c.leads_to_branch.ensures ∙ c.loop-at-test.true in
    let found = ap (λ v. value_of word_order v.children c.in-Some.byte) (sym c.open-branch.ensures) ∙ sym c.child.ensures ∙ c.in-Some-child.is in
    let at = at-view _ _ _ _ c.args.x c.in-Some.byte (c.head.ensures.level ∙ ap (λ v. v.level) c.open-branch.ensures)
    (c.head.ensures.prefix ∙ ap (λ v. v.prefix) c.open-branch.ensures) c.in-Some.ensures.some in
    record {
      sound = (kid-at c.args.values c.args.arena.now.blocks c.loop-at.at c.args.x is c.loop-at.invariant.sound c.in-Some.byte
          c.in-Some-child.child found).sound;
      from = λ e h. c.loop-at.invariant.from e (up.entry-child c.args.values c.args.arena.now.blocks c.loop-at.at is
          c.loop-at.invariant.sound c.args.x c.in-Some.byte c.in-Some-child.child at found e h);
      upto = λ e h. c.loop-at.invariant.upto e (down.entry-child c.args.values c.args.arena.now.blocks c.loop-at.at is
          c.loop-at.invariant.sound c.args.x c.in-Some.byte c.in-Some-child.child at found e h);
    }

pub returns-in_default-child : goal.returns-in_default-child
returns-in_default-child c =
    let is = sym c.leads_to_branch.ensures ∙ c.loop-at-test.true in
    let none = ap (λ v. value_of word_order v.children c.in-Some.byte) (sym c.open-branch.ensures) ∙ sym c.child.ensures ∙ c.in_default-child.is in
    let at = at-view _ _ _ _ c.args.x c.in-Some.byte (c.head.ensures.level ∙ ap (λ v. v.level) c.open-branch.ensures)
    (c.head.ensures.prefix ∙ ap (λ v. v.prefix) c.open-branch.ensures) c.in-Some.ensures.some in
    near-none c.args.values c.args.arena.now.blocks c.args.node c.loop-at.at is c.loop-at.invariant.sound c.args.x c.in-Some.byte
    at c.loop-at.invariant.from c.loop-at.invariant.upto none

pub returns-then-not-leads_to_branch : goal.returns-then-not-leads_to_branch
returns-then-not-leads_to_branch c =
    let is = sym c.leads_to_branch.ensures ∙ c.loop-at-test.true in
    let found = ap (λ v. value_of word_order v.children c.in-Some.byte) (sym c.open-branch.ensures) ∙ sym c.child.ensures ∙ c.in-Some-child.is in
    let at = at-view _ _ _ _ c.args.x c.in-Some.byte (c.head.ensures.level ∙ ap (λ v. v.level) c.open-branch.ensures)
    (c.head.ensures.prefix ∙ ap (λ v. v.prefix) c.open-branch.ensures) c.in-Some.ensures.some in
    near-leaf c.args.values c.args.arena.now.blocks c.args.node c.loop-at.at is c.loop-at.invariant.sound c.args.x c.in-Some.byte
    at c.loop-at.invariant.from c.loop-at.invariant.upto c.in-Some-child.child (sym c.leads_to_branch-in-loop-at.ensures
    ∙ c.if-not-leads_to_branch.true) found
