use Rattle.std.proofs.Common.{true, ap, sym, ◌∙◌, arith, is_some}
use Rattle.std.proofs.lemmas.Bool.{false≢true as not_true}
use Rattle.judy_model.specs.Contents.{word_order, has_key, with_entry}
use Rattle.judy_tree.specs.Root.{entries}
use Rattle.judy_tree.proofs.lemmas.Joins.{kid}
use Rattle.judy_tree.proofs.lemmas.Heads.{at-view, out-view}
use Rattle.judy_tree.proofs.lemmas.Trees.{root-leaf, leaf-content, root-top}
use Rattle.judy_tree.proofs.lemmas.Finds.{find-none, kid-at, deep-branch, low-branch}
use Rattle.judy_tree.proofs.Steps.{wrote, leaf-became, became, key-in}
use Rattle.judy_tree.proofs.node.+write.Goals as goal

pub write-requires-clause-leaf : goal.write-requires-clause-leaf
write-requires-clause-leaf t c = root-leaf true c.args.arena.now.blocks c.args.node
    (sym c.leads_to_branch.ensures ∙ c.if-not-leads_to_branch.true) c.requires.root

pub write-requires-clause-there : goal.write-requires-clause-there
write-requires-clause-there t c =
    ap (λ l. has_key word_order l c.args.key)
    (sym (leaf-content true c.args.arena.now.blocks c.args.node
    (sym c.leads_to_branch.ensures ∙ c.if-not-leads_to_branch.true))) ∙ c.requires.there

pub returns-then-not-leads_to_branch-clause-array : goal.returns-then-not-leads_to_branch-clause-array
returns-then-not-leads_to_branch-clause-array t c =
    let is = sym c.leads_to_branch.ensures ∙ c.if-not-leads_to_branch.true in
    became true c.args.arena.now c.write.new.arena c.args.node c.args.node _
    (leaf-became true c.args.arena.now.blocks c.write.new.arena.blocks c.args.node c.args.node _ is c.write.ensures.leaf.leaf
    (c.write.ensures.leaf.entries ∙ ap (λ l. with_entry word_order l c.args.key c.args.value)
    (sym (leaf-content true c.args.arena.now.blocks c.args.node is))) c.write.ensures.leaf.frame)

pub returns-then-not-leads_to_branch-clause-deep : goal.returns-then-not-leads_to_branch-clause-deep
returns-then-not-leads_to_branch-clause-deep t c =
    (leaf-became true c.args.arena.now.blocks c.write.new.arena.blocks c.args.node c.args.node _
    (sym c.leads_to_branch.ensures ∙ c.if-not-leads_to_branch.true) c.write.ensures.leaf.leaf c.write.ensures.leaf.entries
    c.write.ensures.leaf.frame).deep

pub head-requires : goal.head-requires
head-requires t c = (root-top true c.args.arena.now.blocks c.args.node (sym c.leads_to_branch.ensures ∙ c.if-not-leads_to_branch.false) c.requires.root).branch

pub byte_of-requires : goal.byte_of-requires
byte_of-requires t c =
    let low = (root-top true c.args.arena.now.blocks c.args.node (sym c.leads_to_branch.ensures ∙ c.if-not-leads_to_branch.false) c.requires.root).view.level in
    let e = c.head.ensures.level in
    omega arith

pub unreachable-requires : goal.unreachable-requires
unreachable-requires t c =
    let none = find-none true c.args.arena.now.blocks c.args.node c.args.key (sym c.leads_to_branch.ensures ∙ c.if-not-leads_to_branch.false) c.requires.root
    (out-view _ _ _ _ c.args.key c.head.ensures.level c.head.ensures.prefix c.in_default.ensures.none) in
    absurd (not_true (sym (ap is_some none) ∙ c.requires.there))

pub child-requires : goal.child-requires
child-requires t c = (root-top true c.args.arena.now.blocks c.args.node (sym c.leads_to_branch.ensures ∙ c.if-not-leads_to_branch.false) c.requires.root).branch

pub unreachable-requires-in_default-child : goal.unreachable-requires-in_default-child
unreachable-requires-in_default-child t c =
    let at = at-view _ _ _ _ c.args.key c.in-Some.byte c.head.ensures.level c.head.ensures.prefix c.in-Some.ensures.some in
    let there = key-in true c.args.arena.now.blocks c.args.node c.in-Some.byte c.args.key
    (sym c.leads_to_branch.ensures ∙ c.if-not-leads_to_branch.false) c.requires.root at c.requires.there in
    absurd (not_true (sym (ap (λ o. has_key word_order (kid (entries true c.args.arena.now.blocks) o) c.args.key)
    (sym c.child.ensures ∙ c.in_default-child.is)) ∙ there))

pub write-requires-2 : goal.write-requires-2
write-requires-2 t c =
    let is = sym c.leads_to_branch.ensures ∙ c.if-not-leads_to_branch.false in
    let found = sym c.child.ensures ∙ c.in-Some-child.is in
    let at = at-view _ _ _ _ c.args.key c.in-Some.byte c.head.ensures.level c.head.ensures.prefix c.in-Some.ensures.some in
    let i = kid-at true c.args.arena.now.blocks c.args.node c.args.key is c.requires.root c.in-Some.byte c.in-Some-child.child found in
    let d = deep-branch true c.args.arena.now.blocks c.args.node c.args.key is c.requires.root in
    let l = low-branch true c.args.arena.now.blocks c.args.node c.args.key is c.requires.root in
    let e = i.deeper in
    let there = key-in true c.args.arena.now.blocks c.args.node c.in-Some.byte c.args.key is c.requires.root at c.requires.there in
    (omega arith, (i.sound, sym (ap (λ o. has_key word_order (kid (entries true c.args.arena.now.blocks) o) c.args.key) found) ∙ there))

pub returns-clause-array : goal.returns-clause-array
returns-clause-array t c =
    let at = at-view _ _ _ _ c.args.key c.in-Some.byte c.head.ensures.level c.head.ensures.prefix c.in-Some.ensures.some in
    became true c.args.arena.now c.write-2.new.arena c.args.node c.args.node _
    (wrote c.args.arena.now.blocks c.write-2.new.arena.blocks c.args.node c.in-Some.byte c.in-Some-child.child c.args.key
    c.args.value (sym c.leads_to_branch.ensures ∙ c.if-not-leads_to_branch.false) c.requires.root
    (sym c.child.ensures ∙ c.in-Some-child.is) at c.requires.there c.write-2.ensures.array.root c.write-2.ensures.array.content
    c.write-2.ensures.array.frame c.write-2.ensures.deep)

pub returns-clause-deep : goal.returns-clause-deep
returns-clause-deep t c =
    let at = at-view _ _ _ _ c.args.key c.in-Some.byte c.head.ensures.level c.head.ensures.prefix c.in-Some.ensures.some in
    (wrote c.args.arena.now.blocks c.write-2.new.arena.blocks c.args.node c.in-Some.byte c.in-Some-child.child c.args.key
    c.args.value (sym c.leads_to_branch.ensures ∙ c.if-not-leads_to_branch.false) c.requires.root
    (sym c.child.ensures ∙ c.in-Some-child.is) at c.requires.there c.write-2.ensures.array.root c.write-2.ensures.array.content
    c.write-2.ensures.array.frame c.write-2.ensures.deep).deep
