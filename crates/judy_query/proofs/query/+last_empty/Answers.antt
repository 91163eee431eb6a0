use Rattle.std.proofs.Common.{◌≡◌, ℕ, ◌+◌, ◌-◌, ◌*◌, ◌%◌, ◌^◌, ◌≤◌, true, Option, Some, ap, sym, ◌∙◌, arith, subst}
use Rattle.std.specs.Prelude.{IfSome, IfNone}
use Rattle.judy_model.specs.Gaps.{last_empty}
use Rattle.judy_model.specs.Contents.{word_order, value_of}
use Rattle.judy_branch.specs.Branch.{branch_view}
use Rattle.judy_tree.specs.Nodes.{head_at, depth, is_branch, IsKid}
use Rattle.judy_tree.specs.Root.{IsRoot, entries}
use Rattle.judy_tree.proofs.lemmas.Finds.{deep-branch, low-branch, kid-at}
use Rattle.judy_tree.proofs.lemmas.Trees.{root-leaf, leaf-content, root-top}
use Rattle.judy_query.proofs.BranchGaps.{shifted}
use Rattle.judy_query.proofs.BranchFalls.{kid-answer, kid-full, fall-outside, fall-between}
use Rattle.judy_query.proofs.FallSteps.{Step, step}
use Rattle.judy_query.proofs.query.+last_empty.Goals.{then-population-size, else-population-size}
use Rattle.judy_query.proofs.query.+last_empty.Goals.{After-level-level, After-child, In-Some-child, After-population, In-Some-gap}
use Rattle.judy_query.proofs.query.+last_empty.Goals as goal

level-most : (t : ℕ) (c : After-level-level t) → (branch_view c.args.arena.now.blocks c.args.node).level ≤ 6
level-most t c = low-branch c.args.values c.args.arena.now.blocks c.args.node c.args.x
    (sym c.leads_to_branch.ensures ∙ c.if-not-leads_to_branch.false) c.requires

-- the byte that the search is at
at : (t : ℕ) (c : After-child t) → head_at (branch_view c.args.arena.now.blocks c.args.node).level c.loop-down.from
    ≡ head_at (branch_view c.args.arena.now.blocks c.args.node).level (branch_view c.args.arena.now.blocks c.args.node).prefix
    + (c.from.result - c.loop-down.down)
at t c = let h = c.loop-down.invariant.head in let e = c.from.ensures in let q = c.from-down-end.ensures in let t = c.loop-down-test.true in omega arith

child-is : (t : ℕ) (c : In-Some-child t) → value_of word_order (branch_view c.args.arena.now.blocks c.args.node).children
    (c.from.result - c.loop-down.down) ≡ Some c.in-Some-child.child
child-is t c = ap (λ v. value_of word_order v.children (c.from.result - c.loop-down.down)) (sym c.open-branch.ensures)
    ∙ sym c.child.ensures ∙ c.in-Some-child.is

child-below : (t : ℕ) (c : In-Some-child t) → IsKid (branch_view c.args.arena.now.blocks c.args.node).level
    (head_at (branch_view c.args.arena.now.blocks c.args.node).level (branch_view c.args.arena.now.blocks c.args.node).prefix
    + (c.from.result - c.loop-down.down)) (IsRoot c.args.values c.args.arena.now.blocks) (entries c.args.values c.args.arena.now.blocks)
    (depth c.args.arena.now.blocks) c.in-Some-child.child
child-below t c =
    kid-at c.args.values c.args.arena.now.blocks c.args.node c.args.x (sym c.leads_to_branch.ensures ∙ c.if-not-leads_to_branch.false) c.requires
    (c.from.result - c.loop-down.down) c.in-Some-child.child (child-is t c)

-- a full child answers with the word before its words, and another as its search does
full-falls : (t : ℕ) (c : After-population t) → c.population.result ≡ (1 * 2 ^ (56 - 8 * c.level-level.result)) % 18446744073709551616
    → (o r : Option ℕ) → o ≡ r
    → IfSome r (λ e. e + 1 ≡ c.loop-down.from - c.loop-down.from % ((1 * 2 ^ (56 - 8 * c.level-level.result)) % 18446744073709551616))
    → IfNone r (c.loop-down.from - c.loop-down.from % ((1 * 2 ^ (56 - 8 * c.level-level.result)) % 18446744073709551616) ≡ 0)
    → Step c.args.values c.args.arena.now.blocks c.args.node c.loop-down.from o
full-falls t c all o r same some none =
    let v = c.args.values in let b = c.args.arena.now.blocks in let w = c.args.node in let x = c.loop-down.from in
    let is : is_branch w ≡ true = sym c.leads_to_branch.ensures ∙ c.if-not-leads_to_branch.false in
    let byte = c.from.result - c.loop-down.down in let kid = c.in-Some-child.child in
    let here = at t (goal.at.After-population t c).After-child in let found = child-is t (goal.at.After-population t c).In-Some-child in
    let size : (1 * 2 ^ (56 - 8 * c.level-level.result)) % 18446744073709551616 ≡ 2 ^ (56 - 8 * (branch_view b w).level) =
    ap (λ z. (1 * 2 ^ (56 - 8 * z)) % 18446744073709551616) c.level-level.ensures
    ∙ shifted (branch_view b w).level (level-most t (goal.at.After-population t c).After-level-level) in
    subst (Step v b w x) (sym same) (step v b w is c.requires x byte here kid found r (kid-full v b w is c.requires x byte here kid found r
    ((1 * 2 ^ (56 - 8 * c.level-level.result)) % 18446744073709551616) size (sym c.population.ensures ∙ all) some none))

searched-falls : (t : ℕ) (c : After-population t) (o : Option ℕ)
    → o ≡ last_empty (entries c.args.values c.args.arena.now.blocks c.in-Some-child.child) c.loop-down.from
    → Step c.args.values c.args.arena.now.blocks c.args.node c.loop-down.from o
searched-falls t c o h =
    let v = c.args.values in let b = c.args.arena.now.blocks in let w = c.args.node in let x = c.loop-down.from in
    let is : is_branch w ≡ true = sym c.leads_to_branch.ensures ∙ c.if-not-leads_to_branch.false in
    let byte = c.from.result - c.loop-down.down in let kid = c.in-Some-child.child in
    let here = at t (goal.at.After-population t c).After-child in let found = child-is t (goal.at.After-population t c).In-Some-child in
    step v b w is c.requires x byte here kid found o (kid-answer v b w is c.requires x byte here kid found o h)

answered : (t : ℕ) (c : In-Some-gap t) → Step c.args.values c.args.arena.now.blocks c.args.node c.loop-down.from c.if-population-size.gap
answered t c =
    let p = (goal.at.In-Some-gap t c).After-population in
    elim c.if-population-size.branch [
      | then-population-size k ↦ full-falls t p k.if-population-size.true _ k.below-gap.result k.gap-is k.below-gap.ensures.some k.below-gap.ensures.none
      | else-population-size k ↦ searched-falls t p _ (k.gap-is ∙ k.last_empty-gap.ensures)
    ]

pub last_empty-requires : goal.last_empty-requires
last_empty-requires t c =
    root-leaf c.args.values c.args.arena.now.blocks c.args.node (sym c.leads_to_branch.ensures ∙ c.if-not-leads_to_branch.true) c.requires

pub returns-then-not-leads_to_branch : goal.returns-then-not-leads_to_branch
returns-then-not-leads_to_branch t c = c.last_empty.ensures
    ∙ sym (ap (λ l. last_empty l c.args.x) (leaf-content c.args.values c.args.arena.now.blocks c.args.node
    (sym c.leads_to_branch.ensures ∙ c.if-not-leads_to_branch.true)))

pub byte_of-requires : goal.byte_of-requires
byte_of-requires t c = (root-top c.args.values c.args.arena.now.blocks c.args.node
    (sym c.leads_to_branch.ensures ∙ c.if-not-leads_to_branch.false) c.requires).branch

pub level-level-requires : goal.level-level-requires
level-level-requires t c = (root-top c.args.values c.args.arena.now.blocks c.args.node
    (sym c.leads_to_branch.ensures ∙ c.if-not-leads_to_branch.false) c.requires).branch

pub returns-in_default : goal.returns-in_default
returns-in_default t c = fall-outside c.args.values c.args.arena.now.blocks c.args.node
    (sym c.leads_to_branch.ensures ∙ c.if-not-leads_to_branch.false) c.requires c.args.x c.in_default.ensures.none

pub overflow_mul-size : goal.overflow_mul-size
overflow_mul-size t c = let e = c.level-level.ensures in let l = level-most t (goal.at.overflow_mul-size t c).After-level-level in omega arith

pub overflow_sub-size : goal.overflow_sub-size
overflow_sub-size t c = let e = c.level-level.ensures in let l = level-most t (goal.at.overflow_sub-size t c).After-level-level in omega arith

pub loop-down-init : goal.loop-down-init
loop-down-init t c = record {
  head = let h = c.in-Some.ensures.some in omega (arith, h);
  after = λ r h. h;
}

pub open-branch-requires : goal.open-branch-requires
open-branch-requires t c = (root-top c.args.values c.args.arena.now.blocks c.args.node
    (sym c.leads_to_branch.ensures ∙ c.if-not-leads_to_branch.false) c.requires).branch

pub returns-in_default-child : goal.returns-in_default-child
returns-in_default-child t c =
    c.loop-down.invariant.after _ (fall-between c.args.values c.args.arena.now.blocks c.args.node
    (sym c.leads_to_branch.ensures ∙ c.if-not-leads_to_branch.false) c.requires c.loop-down.from
    (c.from.result - c.loop-down.down) (at t (goal.at.returns-in_default-child t c).After-child)
    (ap (λ v. value_of word_order v.children (c.from.result - c.loop-down.down)) (sym c.open-branch.ensures)
    ∙ sym c.child.ensures ∙ c.in_default-child.is))

pub population-requires : goal.population-requires
population-requires t c = (child-below t (goal.at.population-requires t c).In-Some-child).sound

pub last_empty-gap-requires : goal.last_empty-gap-requires
last_empty-gap-requires t c =
    let i = child-below t (goal.at.last_empty-gap-requires t c).In-Some-child in
    let d = deep-branch c.args.values c.args.arena.now.blocks c.args.node c.args.x
    (sym c.leads_to_branch.ensures ∙ c.if-not-leads_to_branch.false) c.requires in
    let l = level-most t (goal.at.last_empty-gap-requires t c).After-level-level in
    let e = i.deeper in
    (omega arith, i.sound)

pub returns-in_default-gap : goal.returns-in_default-gap
returns-in_default-gap t c =
    let p = (goal.at.returns-in_default-gap t c).After-population in
    let k : Step c.args.values c.args.arena.now.blocks c.args.node c.loop-down.from c.if-population-size.gap = elim c.if-population-size.branch [
      | then-population-size k ↦ full-falls t p k.if-population-size.true _ k.below-gap.result k.gap-is k.below-gap.ensures.some k.below-gap.ensures.none
      | else-population-size k ↦ searched-falls t p _ (k.gap-is ∙ k.last_empty-gap.ensures)
    ] in
    c.loop-down.invariant.after _ (k.top c.in_default-gap.is)

pub lead-requires : goal.lead-requires
lead-requires t c = let e = c.level-level.ensures in let l = level-most t (goal.at.lead-requires t c).After-level-level in omega arith

pub lead-requires-in-loop-down : goal.lead-requires-in-loop-down
lead-requires-in-loop-down t c = let e = c.level-level.ensures in let l = level-most t (goal.at.lead-requires-in-loop-down t c).After-level-level in omega arith

pub returns-then-lead : goal.returns-then-lead
returns-then-lead t c =
    let k = answered t (goal.at.returns-then-lead t c).In-Some-gap in let g = c.in-Some-gap.gap in
    c.loop-down.invariant.after _ (k.inside g c.in-Some-gap.is (ap (λ l. head_at l g) (sym c.level-level.ensures) ∙ sym c.lead.ensures
    ∙ c.if-lead.true ∙ c.lead-in-loop-down.ensures ∙ ap (λ l. head_at l c.loop-down.from) c.level-level.ensures))

pub loop-down-preserved : goal.loop-down-preserved
loop-down-preserved t c =
    let k = answered t (goal.at.loop-down-preserved t c).In-Some-gap in let g = c.in-Some-gap.gap in
    let n = k.head g c.in-Some-gap.is (λ i. c.if-lead.false (c.lead.ensures ∙ ap (λ l. head_at l g) c.level-level.ensures ∙ i
    ∙ ap (λ l. head_at l c.loop-down.from) (sym c.level-level.ensures) ∙ sym c.lead-in-loop-down.ensures)) in
    let h = c.loop-down.invariant.head in
    record { head = omega (arith, n, h); after = λ r i. c.loop-down.invariant.after r (k.after g c.in-Some-gap.is r i) }

pub returns : goal.returns
returns t c =
    c.loop-down.invariant.after _ (fall-outside c.args.values c.args.arena.now.blocks c.args.node
    (sym c.leads_to_branch.ensures ∙ c.if-not-leads_to_branch.false) c.requires c.loop-down.from
    (λ z s e. let h = c.loop-down.invariant.head in let q = c.from-down-end.ensures in let t = c.loop-down-test.false in absurd (omega arith)))
