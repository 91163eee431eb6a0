use Rattle.std.proofs.Common.{◌-◌, ap, sym, ◌∙◌, subst, arith, is_some, refl}
use Rattle.judy_model.specs.Contents.{word_order, has_key, value_of}
use Rattle.judy_leaf.specs.Leaf.{leaf_numbers}
use Rattle.judy_leaf.specs.Calls.{BecomesIn}
use Rattle.judy_tree.proofs.lemmas.Heads.{at-view, out-view}
use Rattle.judy_tree.proofs.lemmas.Trees.{root-leaf, leaf-content, root-top}
use Rattle.judy_tree.proofs.lemmas.Finds.{find-none, kid-at, deep-branch, low-branch}
use Rattle.judy_tree.proofs.Steps.{lessened, left-branch, left-only, last-key, not-nothing, own-kept, child-frame}
use Rattle.judy_tree.proofs.Steps.{length-without-one, kid-sorted, shrinks, shrinks', leaf-shrinks, emptied-frame}
use Rattle.judy_tree.proofs.Steps.{emptied-none, found-below, one-less, absent-in, branch-some, alone-some}
use Rattle.judy_tree.proofs.lemmas.BranchLaws.{branch-kind}
use Rattle.judy_tree.proofs.node.+remove.Goals as goal

pub remove-requires : goal.remove-requires
remove-requires t c = root-leaf c.args.values c.args.arena.now.blocks c.args.node (sym c.leads_to_branch.ensures ∙ c.if-not-leads_to_branch.true) c.requires

pub returns-in-Absent-clause-removal : goal.returns-in-Absent-clause-removal
returns-in-Absent-clause-removal t c = (
  ap (λ l. has_key word_order l c.args.key) (leaf-content c.args.values c.args.arena.now.blocks c.args.node
      (sym c.leads_to_branch.ensures ∙ c.if-not-leads_to_branch.true)) ∙ c.in-Absent.ensures.removal.0,
  record { blocks = c.in-Absent.ensures.removal.1.0; refusals = c.in-Absent.ensures.removal.1.1 },
)

pub returns-in-Left-clause-removal : goal.returns-in-Left-clause-removal
returns-in-Left-clause-removal t c =
    let is = sym c.leads_to_branch.ensures ∙ c.if-not-leads_to_branch.true in (
      ap (λ l. value_of word_order l c.args.key) (leaf-content c.args.values c.args.arena.now.blocks c.args.node is) ∙ c.in-Left.ensures.removal.0,
      leaf-shrinks c.args.values c.args.arena.now c.remove.new.arena c.args.node c.in-Left.left c.args.key is c.in-Left.ensures.removal.1,
      c.in-Left.ensures.removal.2,
    )

pub returns-in-Emptied-clause-removal : goal.returns-in-Emptied-clause-removal
returns-in-Emptied-clause-removal t c =
    let is = sym c.leads_to_branch.ensures ∙ c.if-not-leads_to_branch.true in (
      ap (λ l. value_of word_order l c.args.key) (leaf-content c.args.values c.args.arena.now.blocks c.args.node is) ∙ c.in-Emptied.ensures.removal.0,
      leaf-shrinks c.args.values c.args.arena.now c.remove.new.arena c.args.node 0 c.args.key is
          (subst (λ l. BecomesIn c.args.values c.args.arena.now c.remove.new.arena
          (leaf_numbers c.args.arena.now.blocks c.args.node) l 0) (sym c.in-Emptied.ensures.removal.1) c.in-Emptied.ensures.removal.2),
    )

pub head-branch-requires : goal.head-branch-requires
head-branch-requires t c = (root-top c.args.values c.args.arena.now.blocks c.args.node
    (sym c.leads_to_branch.ensures ∙ c.if-not-leads_to_branch.false) c.requires).branch

pub byte_of-requires : goal.byte_of-requires
byte_of-requires t c =
    let low = (root-top c.args.values c.args.arena.now.blocks c.args.node
    (sym c.leads_to_branch.ensures ∙ c.if-not-leads_to_branch.false) c.requires).view.level in
    let e = c.head-branch.ensures.level in
    omega arith

pub returns-in_default-clause-removal : goal.returns-in_default-clause-removal
returns-in_default-clause-removal t c = (
  ap is_some (find-none c.args.values c.args.arena.now.blocks c.args.node c.args.key (sym c.leads_to_branch.ensures ∙ c.if-not-leads_to_branch.false) c.requires
      (out-view _ _ _ _ c.args.key c.head-branch.ensures.level c.head-branch.ensures.prefix c.in_default.ensures.none)),
  record { blocks = refl; refusals = refl },
)

pub child-requires : goal.child-requires
child-requires t c = (root-top c.args.values c.args.arena.now.blocks c.args.node
    (sym c.leads_to_branch.ensures ∙ c.if-not-leads_to_branch.false) c.requires).branch

pub returns-in_default-child-clause-removal : goal.returns-in_default-child-clause-removal
returns-in_default-child-clause-removal t c =
    let at = at-view _ _ _ _ c.args.key c.in-Some.byte c.head-branch.ensures.level c.head-branch.ensures.prefix c.in-Some.ensures.some in (
      absent-in c.args.values c.args.arena.now.blocks c.args.node c.in-Some.byte c.args.key
          (sym c.leads_to_branch.ensures ∙ c.if-not-leads_to_branch.false) c.requires at
          (ap is_some (sym c.child.ensures ∙ c.in_default-child.is)),
      record { blocks = refl; refusals = refl },
    )

pub remove-requires-2 : goal.remove-requires-2
remove-requires-2 t c =
    let is = sym c.leads_to_branch.ensures ∙ c.if-not-leads_to_branch.false in
    let i = kid-at c.args.values c.args.arena.now.blocks c.args.node c.args.key is c.requires c.in-Some.byte c.in-Some-child.child
    (sym c.child.ensures ∙ c.in-Some-child.is) in
    let d = deep-branch c.args.values c.args.arena.now.blocks c.args.node c.args.key is c.requires in
    let l = low-branch c.args.values c.args.arena.now.blocks c.args.node c.args.key is c.requires in
    let e = i.deeper in
    (omega arith, i.sound)

pub overflow_sub-branch : goal.overflow_sub-branch
overflow_sub-branch t c =
    (one-less c.args.values c.args.arena.now.blocks c.args.node c.head-branch.result.population
    (sym c.leads_to_branch.ensures ∙ c.if-not-leads_to_branch.false) c.requires c.head-branch.ensures.population).0

pub overflow_sub-branch-in-Emptied-remove : goal.overflow_sub-branch-in-Emptied-remove
overflow_sub-branch-in-Emptied-remove t c =
    (one-less c.args.values c.args.arena.now.blocks c.args.node c.head-branch.result.population
    (sym c.leads_to_branch.ensures ∙ c.if-not-leads_to_branch.false) c.requires c.head-branch.ensures.population).0

pub change_child-requires-clause-branch : goal.change_child-requires-clause-branch
change_child-requires-clause-branch t c =
    (own-kept c.args.values c.args.arena.now.blocks c.args.node c.in-Some.byte
    (sym c.leads_to_branch.ensures ∙ c.if-not-leads_to_branch.false) c.requires c.remove-2.new.arena.blocks _
    (child-frame c.args.arena.now.blocks c.remove-2.new.arena.blocks _ c.in-Some-child.child _
    (sym c.child.ensures ∙ c.in-Some-child.is) c.in-Left-remove.ensures.removal.1.array.frame)).branch

pub change_child-requires-clause-was : goal.change_child-requires-clause-was
change_child-requires-clause-was t c =
    ap (λ z. value_of word_order z.children c.in-Some.byte)
    (own-kept c.args.values c.args.arena.now.blocks c.args.node c.in-Some.byte
    (sym c.leads_to_branch.ensures ∙ c.if-not-leads_to_branch.false) c.requires c.remove-2.new.arena.blocks _
    (child-frame c.args.arena.now.blocks c.remove-2.new.arena.blocks _ c.in-Some-child.child _
    (sym c.child.ensures ∙ c.in-Some-child.is) c.in-Left-remove.ensures.removal.1.array.frame)).view
    ∙ sym c.child.ensures ∙ c.in-Some-child.is

pub take_child-requires-clause-branch : goal.take_child-requires-clause-branch
take_child-requires-clause-branch t c =
    (own-kept c.args.values c.args.arena.now.blocks c.args.node c.in-Some.byte
    (sym c.leads_to_branch.ensures ∙ c.if-not-leads_to_branch.false) c.requires c.remove-2.new.arena.blocks _
    (child-frame c.args.arena.now.blocks c.remove-2.new.arena.blocks _ c.in-Some-child.child _
    (sym c.child.ensures ∙ c.in-Some-child.is) c.in-Emptied-remove.ensures.removal.1.array.frame)).branch

pub take_child-requires-clause-there : goal.take_child-requires-clause-there
take_child-requires-clause-there t c =
    ap (λ z. has_key word_order z.children c.in-Some.byte)
    (own-kept c.args.values c.args.arena.now.blocks c.args.node c.in-Some.byte
    (sym c.leads_to_branch.ensures ∙ c.if-not-leads_to_branch.false) c.requires c.remove-2.new.arena.blocks _
    (child-frame c.args.arena.now.blocks c.remove-2.new.arena.blocks _ c.in-Some-child.child _
    (sym c.child.ensures ∙ c.in-Some-child.is) c.in-Emptied-remove.ensures.removal.1.array.frame)).view
    ∙ ap is_some (sym c.child.ensures ∙ c.in-Some-child.is)

pub returns-in-Absent-remove-clause-removal : goal.returns-in-Absent-remove-clause-removal
returns-in-Absent-remove-clause-removal t c =
    let at = at-view _ _ _ _ c.args.key c.in-Some.byte c.head-branch.ensures.level c.head-branch.ensures.prefix c.in-Some.ensures.some in (
      ap is_some (found-below c.args.values c.args.arena.now.blocks c.args.node c.in-Some.byte c.in-Some-child.child c.args.key
          (sym c.leads_to_branch.ensures ∙ c.if-not-leads_to_branch.false) c.requires (sym c.child.ensures ∙ c.in-Some-child.is) at)
          ∙ c.in-Absent-remove.ensures.removal.0,
      record { blocks = c.in-Absent-remove.ensures.removal.1.blocks; refusals = c.in-Absent-remove.ensures.removal.1.refusals },
    )

pub returns-in-Left-remove-clause-removal : goal.returns-in-Left-remove-clause-removal
returns-in-Left-remove-clause-removal t c =
    let is = sym c.leads_to_branch.ensures ∙ c.if-not-leads_to_branch.false in
    let found = sym c.child.ensures ∙ c.in-Some-child.is in
    let at = at-view _ _ _ _ c.args.key c.in-Some.byte c.head-branch.ensures.level c.head-branch.ensures.prefix c.in-Some.ensures.some in
    let below = found-below c.args.values c.args.arena.now.blocks c.args.node c.in-Some.byte c.in-Some-child.child c.args.key is
    c.requires found at ∙ c.in-Left-remove.ensures.removal.0 in
    let s = c.in-Left-remove.ensures.removal.1 in (
      below,
      shrinks c.args.values c.args.arena.now c.change_child.new.arena c.args.node c.args.node c.args.key
          (lessened c.args.values c.args.arena.now.blocks c.remove-2.new.arena.blocks c.change_child.new.arena.blocks c.args.node
          c.in-Some.byte c.in-Some-child.child c.in-Left-remove.left c.args.key (c.head-branch.result.population - 1)
          is c.requires found at (ap is_some below) (one-less c.args.values c.args.arena.now.blocks c.args.node
          c.head-branch.result.population is c.requires c.head-branch.ensures.population).1
          s.array.root s.array.content (not-nothing c.args.values c.remove-2.new.arena.blocks c.in-Left-remove.left s.array.root
          c.in-Left-remove.ensures.removal.2) s.array.frame s.deep
          c.change_child.ensures.set.branch c.change_child.ensures.set.view c.change_child.ensures.frame) (c.change_child.ensures.memory.refusals ∙ s.refusals),
      branch-some c.args.node is,
    )

pub returns-in-Branch-clause-removal : goal.returns-in-Branch-clause-removal
returns-in-Branch-clause-removal t c =
    let is = sym c.leads_to_branch.ensures ∙ c.if-not-leads_to_branch.false in
    let found = sym c.child.ensures ∙ c.in-Some-child.is in
    let at = at-view _ _ _ _ c.args.key c.in-Some.byte c.head-branch.ensures.level c.head-branch.ensures.prefix c.in-Some.ensures.some in
    let below = found-below c.args.values c.args.arena.now.blocks c.args.node c.in-Some.byte c.in-Some-child.child c.args.key is
    c.requires found at ∙ c.in-Emptied-remove.ensures.removal.0 in
    let s = c.in-Emptied-remove.ensures.removal.1 in
    let gone = emptied-frame c.args.values c.args.arena.now c.remove-2.new.arena c.in-Some-child.child c.args.key s in
    let none = emptied-none c.args.values c.args.arena.now c.remove-2.new.arena c.in-Some-child.child c.args.key s in
    let there = ap is_some c.in-Emptied-remove.ensures.removal.0 in
    let left = left-branch c.args.values c.args.arena.now.blocks c.remove-2.new.arena.blocks c.take_child.new.arena.blocks
    c.args.node c.in-Some.byte c.in-Some-child.child is c.requires found gone
    c.in-Branch.rest (c.head-branch.result.population - 1) c.in-Branch.ensures.taken.branch.branch
    c.in-Branch.ensures.taken.branch.view c.in-Branch.ensures.taken.frame
    (length-without-one c.args.values c.args.arena.now.blocks c.args.node c.in-Some-child.child c.args.key
    c.head-branch.result.population is c.requires c.head-branch.ensures.population
    (kid-sorted c.args.values c.args.arena.now.blocks c.args.node c.in-Some.byte c.in-Some-child.child is c.requires found) there none) in (
      below,
      shrinks' c.args.values c.args.arena.now c.take_child.new.arena c.args.node c.in-Branch.rest c.args.key
          (last-key c.args.values c.args.arena.now.blocks c.remove-2.new.arena.blocks c.take_child.new.arena.blocks c.args.node
          c.in-Some.byte c.in-Some-child.child is c.requires found gone c.args.key c.in-Branch.rest at none left)
          (c.in-Branch.ensures.memory.refusals ∙ s.refusals),
      branch-some c.in-Branch.rest (branch-kind c.take_child.new.arena.blocks c.in-Branch.rest c.in-Branch.ensures.taken.branch.branch),
    )

pub returns-in-Only-clause-removal : goal.returns-in-Only-clause-removal
returns-in-Only-clause-removal t c =
    let is = sym c.leads_to_branch.ensures ∙ c.if-not-leads_to_branch.false in
    let found = sym c.child.ensures ∙ c.in-Some-child.is in
    let at = at-view _ _ _ _ c.args.key c.in-Some.byte c.head-branch.ensures.level c.head-branch.ensures.prefix c.in-Some.ensures.some in
    let below = found-below c.args.values c.args.arena.now.blocks c.args.node c.in-Some.byte c.in-Some-child.child c.args.key is
    c.requires found at ∙ c.in-Emptied-remove.ensures.removal.0 in
    let s = c.in-Emptied-remove.ensures.removal.1 in
    let gone = emptied-frame c.args.values c.args.arena.now c.remove-2.new.arena c.in-Some-child.child c.args.key s in
    let none = emptied-none c.args.values c.args.arena.now c.remove-2.new.arena c.in-Some-child.child c.args.key s in
    let left = left-only c.args.values c.args.arena.now.blocks c.remove-2.new.arena.blocks c.take_child.new.arena.blocks
    c.args.node c.in-Some.byte c.in-Some-child.child is c.requires found gone
    c.in-Only.rest (c.in-Only.ensures.taken.last, c.in-Only.ensures.taken.only) c.in-Only.ensures.taken.frame in (
      below,
      shrinks' c.args.values c.args.arena.now c.take_child.new.arena c.args.node c.in-Only.rest c.args.key
          (last-key c.args.values c.args.arena.now.blocks c.remove-2.new.arena.blocks c.take_child.new.arena.blocks c.args.node
          c.in-Some.byte c.in-Some-child.child is c.requires found gone c.args.key c.in-Only.rest at none left)
          (c.in-Only.ensures.memory.refusals ∙ s.refusals),
      alone-some c.remove-2.new.arena.blocks c.args.node c.in-Some.byte c.in-Only.rest
          (own-kept c.args.values c.args.arena.now.blocks c.args.node c.in-Some.byte is c.requires c.remove-2.new.arena.blocks _
          (child-frame c.args.arena.now.blocks c.remove-2.new.arena.blocks _ c.in-Some-child.child _ found s.array.frame)).branch
          (c.in-Only.ensures.taken.last, c.in-Only.ensures.taken.only),
    )
