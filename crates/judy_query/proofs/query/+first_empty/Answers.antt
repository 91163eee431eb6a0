use Rattle.std.proofs.Common.{◌≡◌, ℕ, ◌+◌, ◌-◌, ◌*◌, ◌^◌, ◌<◌, ◌≤◌, true, Some, length, get_or}
use Rattle.std.proofs.Common.{refl, ap, sym, ◌∙◌, arith, eqb-true}
use Rattle.judy_model.specs.Gaps.{first_empty}
use Rattle.judy_tree.proofs.lemmas.Finds.{deep-branch, low-branch, kid-at}
use Rattle.judy_tree.proofs.lemmas.BranchLaws.{IsPlace}
use Rattle.judy_tree.proofs.lemmas.Joins.{each-found}
use Rattle.judy_tree.proofs.lemmas.Trees.{root-leaf, leaf-content, root-top}
use Rattle.judy_model.specs.Contents.{max_word, word_order, value_of}
use Rattle.judy_branch.specs.Branch.{branch_view}
use Rattle.judy_tree.specs.Nodes.{head_at, depth, is_branch, IsKid}
use Rattle.judy_tree.specs.Root.{IsRoot, entries}
use Rattle.judy_query.proofs.BranchGaps.{kid-answer, kid-full, gap-outside, gap-between, gap-end, past-head}
use Rattle.judy_query.proofs.GapSteps.{Step, step}
use Rattle.judy_query.proofs.Rows.{child-none, child-there}
use Rattle.judy_query.proofs.query.+first_empty.Goals.{After-level-level, After-known-child, After-past, After-first_empty-in-loop-at}
use Rattle.judy_query.proofs.query.+first_empty.Goals as goal

small : (x : ℕ) → x < 18446744073709551616 → x ≤ max_word
small x h = omega arith

low : (t : ℕ) (c : After-level-level t) → c.level-level.result ≤ 6
low t c =
    let e = c.level-level.ensures in
    let l = low-branch c.args.values c.args.arena.now.blocks c.args.node c.args.x
    (sym c.leads_to_branch.ensures ∙ c.if-not-leads_to_branch.false) c.requires in omega arith

-- the row's word is a child of the branch
there : (t : ℕ) (c : After-known-child t) → value_of word_order (branch_view c.args.arena.now.blocks c.args.node).children
    (c.in-Some.byte + c.loop-at.at) ≡ Some c.known-child.result
there t c =
    child-there (branch_view c.args.arena.now.blocks c.args.node).children c.in-Some.byte c.row-row.result.now c.row-row.ensures
    c.loop-at.at c.loop-at-test.true c.if-row-at-eq0.false c.known-child.result c.known-child.ensures

below : (t : ℕ) (c : After-known-child t) → IsKid (branch_view c.args.arena.now.blocks c.args.node).level
    (head_at (branch_view c.args.arena.now.blocks c.args.node).level (branch_view c.args.arena.now.blocks c.args.node).prefix
    + (c.in-Some.byte + c.loop-at.at)) (IsRoot c.args.values c.args.arena.now.blocks) (entries c.args.values c.args.arena.now.blocks)
    (depth c.args.arena.now.blocks) c.known-child.result
below t c =
    kid-at c.args.values c.args.arena.now.blocks c.args.node c.args.x (sym c.leads_to_branch.ensures ∙ c.if-not-leads_to_branch.false) c.requires
    (c.in-Some.byte + c.loop-at.at) c.known-child.result (there t c)

-- a full child answers with the word after its words, and another as its search does
full-steps : (t : ℕ) (c : After-past t) → Step c.args.values c.args.arena.now.blocks c.args.node c.loop-at.from c.past.result
full-steps t c =
    let v = c.args.values in let b = c.args.arena.now.blocks in let w = c.args.node in
    let is : is_branch w ≡ true = sym c.leads_to_branch.ensures ∙ c.if-not-leads_to_branch.false in
    let kid = there t (goal.at.After-past t c).After-known-child in
    step v b w is c.requires c.loop-at.from c.loop-at.invariant.fits (c.in-Some.byte + c.loop-at.at) c.loop-at.invariant.head
    c.known-child.result kid c.past.result
    (kid-full v b w is c.requires c.loop-at.from c.loop-at.invariant.fits (c.in-Some.byte + c.loop-at.at) c.loop-at.invariant.head
    c.known-child.result kid c.past.result c.level-level.result c.level-level.ensures
    (eqb-true _ _ (sym c.has_all.ensures ∙ c.if-has_all.true)) c.past.ensures.some c.past.ensures.word c.past.ensures.none)

searched : (t : ℕ) (c : After-first_empty-in-loop-at t)
    → Step c.args.values c.args.arena.now.blocks c.args.node c.loop-at.from c.first_empty-in-loop-at.result
searched t c =
    let v = c.args.values in let b = c.args.arena.now.blocks in let w = c.args.node in
    let is : is_branch w ≡ true = sym c.leads_to_branch.ensures ∙ c.if-not-leads_to_branch.false in
    let kid = there t (goal.at.After-first_empty-in-loop-at t c).After-known-child in let o = c.first_empty-in-loop-at.result in
    step v b w is c.requires c.loop-at.from c.loop-at.invariant.fits (c.in-Some.byte + c.loop-at.at) c.loop-at.invariant.head
    c.known-child.result kid o
    (kid-answer v b w is c.requires c.loop-at.from c.loop-at.invariant.fits (c.in-Some.byte + c.loop-at.at) c.loop-at.invariant.head
    c.known-child.result kid o c.first_empty-in-loop-at.ensures)

pub first_empty-requires : goal.first_empty-requires
first_empty-requires t c =
    root-leaf c.args.values c.args.arena.now.blocks c.args.node (sym c.leads_to_branch.ensures ∙ c.if-not-leads_to_branch.true) c.requires

pub returns-then-not-leads_to_branch : goal.returns-then-not-leads_to_branch
returns-then-not-leads_to_branch t c =
    c.first_empty.ensures
    ∙ sym (ap (λ l. first_empty l c.args.x) (leaf-content c.args.values c.args.arena.now.blocks c.args.node
    (sym c.leads_to_branch.ensures ∙ c.if-not-leads_to_branch.true)))

pub byte_of-requires : goal.byte_of-requires
byte_of-requires t c =
    (root-top c.args.values c.args.arena.now.blocks c.args.node (sym c.leads_to_branch.ensures ∙ c.if-not-leads_to_branch.false) c.requires).branch

pub returns-in_default : goal.returns-in_default
returns-in_default t c =
    gap-outside c.args.values c.args.arena.now.blocks c.args.node (sym c.leads_to_branch.ensures ∙ c.if-not-leads_to_branch.false)
    c.requires c.args.x (small c.args.x c.ranges.x.fits) c.in_default.ensures.none

pub level-level-requires : goal.level-level-requires
level-level-requires t c =
    (root-top c.args.values c.args.arena.now.blocks c.args.node (sym c.leads_to_branch.ensures ∙ c.if-not-leads_to_branch.false) c.requires).branch

pub row-row-requires : goal.row-row-requires
row-row-requires t c =
    (root-top c.args.values c.args.arena.now.blocks c.args.node (sym c.leads_to_branch.ensures ∙ c.if-not-leads_to_branch.false) c.requires).branch

pub loop-at-init : goal.loop-at-init
loop-at-init t c =
    record {
      head = c.in-Some.ensures.some ∙ (let e : head_at (branch_view c.args.arena.now.blocks c.args.node).level
          (branch_view c.args.arena.now.blocks c.args.node).prefix + c.in-Some.byte ≡ head_at
          (branch_view c.args.arena.now.blocks c.args.node).level (branch_view c.args.arena.now.blocks c.args.node).prefix
          + (c.in-Some.byte + 0) = omega arith in e);
      fits = small c.args.x c.ranges.x.fits;
      after = λ r h. h;
    }

pub returns-then-row-at-eq0 : goal.returns-then-row-at-eq0
returns-then-row-at-eq0 t c =
    c.loop-at.invariant.after _ (gap-between c.args.values c.args.arena.now.blocks c.args.node
    (sym c.leads_to_branch.ensures ∙ c.if-not-leads_to_branch.false) c.requires c.loop-at.from c.loop-at.invariant.fits
    (c.in-Some.byte + c.loop-at.at) c.loop-at.invariant.head
    (child-none (branch_view c.args.arena.now.blocks c.args.node).children c.in-Some.byte c.row-row.result.now c.row-row.ensures
    c.loop-at.at c.loop-at-test.true c.if-row-at-eq0.true))

pub known-child-requires : goal.known-child-requires
known-child-requires t c =
    let row = child-there (branch_view c.args.arena.now.blocks c.args.node).children c.in-Some.byte c.row-row.result.now c.row-row.ensures
    c.loop-at.at c.loop-at-test.true c.if-row-at-eq0.false (get_or c.row-row.result.now c.loop-at.at 0) refl in
    (each-found IsPlace (c.in-Some.byte + c.loop-at.at) (get_or c.row-row.result.now c.loop-at.at 0)
    (branch_view c.args.arena.now.blocks c.args.node).children (root-top c.args.values c.args.arena.now.blocks c.args.node
    (sym c.leads_to_branch.ensures ∙ c.if-not-leads_to_branch.false) c.requires).view.places row).reference

pub has_all-requires : goal.has_all-requires
has_all-requires t c = (below t (goal.at.has_all-requires t c).After-known-child).sound

pub overflow_mul-level : goal.overflow_mul-level
overflow_mul-level t c = let l = low t (goal.at.overflow_mul-level t c).After-level-level in omega arith

pub overflow_sub-level : goal.overflow_sub-level
overflow_sub-level t c = let l = low t (goal.at.overflow_sub-level t c).After-level-level in omega arith

pub past-requires : goal.past-requires
past-requires t c = let l = low t (goal.at.past-requires t c).After-level-level in omega arith

pub lead-requires : goal.lead-requires
lead-requires t c = let l = low t (goal.at.lead-requires t c).After-level-level in omega arith

pub lead-requires-in-loop-at : goal.lead-requires-in-loop-at
lead-requires-in-loop-at t c = let l = low t (goal.at.lead-requires-in-loop-at t c).After-level-level in omega arith

pub returns-in_default-past : goal.returns-in_default-past
returns-in_default-past t c = c.loop-at.invariant.after _ ((full-steps t (goal.at.returns-in_default-past t c).After-past).top c.in_default-past.is)

pub loop-at-preserved-then-has_all : goal.loop-at-preserved-then-has_all
loop-at-preserved-then-has_all t c =
    let k = full-steps t (goal.at.loop-at-preserved-then-has_all t c).After-past in let g = c.in-Some-past.beyond in let is = c.in-Some-past.is in
    let n = k.head g is (past-head (branch_view c.args.arena.now.blocks c.args.node).level c.loop-at.from g
    (c.in-Some-past.ensures.some ∙ ap (λ l. (head_at l c.loop-at.from + 1) * 2 ^ (56 - 8 * l)) c.level-level.ensures)) in
    let h = c.loop-at.invariant.head in
    record { head = omega arith; fits = k.fits g is; after = λ r i. c.loop-at.invariant.after r (k.after g is r i) }

pub first_empty-requires-in-loop-at : goal.first_empty-requires-in-loop-at
first_empty-requires-in-loop-at t c =
    let i = below t (goal.at.first_empty-requires-in-loop-at t c).After-known-child in
    let is = sym c.leads_to_branch.ensures ∙ c.if-not-leads_to_branch.false in
    let d = deep-branch c.args.values c.args.arena.now.blocks c.args.node c.args.x is c.requires in
    let l = low-branch c.args.values c.args.arena.now.blocks c.args.node c.args.x is c.requires in
    let e = i.deeper in
    (omega arith, i.sound)

pub returns-in_default-first_empty : goal.returns-in_default-first_empty
returns-in_default-first_empty t c =
    c.loop-at.invariant.after _ ((searched t (goal.at.returns-in_default-first_empty t c).After-first_empty-in-loop-at).top c.in_default-first_empty.is)

pub returns-then-lead : goal.returns-then-lead
returns-then-lead t c =
    let k = searched t (goal.at.returns-then-lead t c).After-first_empty-in-loop-at in let g = c.in-Some-first_empty.gap in
    c.loop-at.invariant.after _ (k.inside g c.in-Some-first_empty.is (ap (λ l. head_at l g) (sym c.level-level.ensures)
    ∙ sym c.lead.ensures ∙ c.if-lead.true ∙ c.lead-in-loop-at.ensures ∙ ap (λ l. head_at l c.loop-at.from) c.level-level.ensures))

pub loop-at-preserved : goal.loop-at-preserved
loop-at-preserved t c =
    let k = searched t (goal.at.loop-at-preserved t c).After-first_empty-in-loop-at in
    let g = c.in-Some-first_empty.gap in let is = c.in-Some-first_empty.is in
    let n = k.head g is (λ i. c.if-lead.false (c.lead.ensures ∙ ap (λ l. head_at l g) c.level-level.ensures ∙ i
    ∙ ap (λ l. head_at l c.loop-at.from) (sym c.level-level.ensures) ∙ sym c.lead-in-loop-at.ensures)) in
    let h = c.loop-at.invariant.head in
    record { head = omega arith; fits = k.fits g is; after = λ r i. c.loop-at.invariant.after r (k.after g is r i) }

pub returns : goal.returns
returns t c =
    let last : c.loop-at.at ≡ length c.row-row.result.now = (let t = c.loop-at-test.false in
    let a : c.loop-at.at ≤ length c.row-row.result.now = c.loop-at.auto.at-end in omega arith) in
    c.loop-at.invariant.after _ (gap-end c.args.values c.args.arena.now.blocks c.args.node
    (sym c.leads_to_branch.ensures ∙ c.if-not-leads_to_branch.false) c.requires c.loop-at.from c.loop-at.invariant.fits
    c.in-Some.byte c.row-row.result.now c.row-row.ensures
    (c.loop-at.invariant.head ∙ ap (λ n. head_at (branch_view c.args.arena.now.blocks c.args.node).level
    (branch_view c.args.arena.now.blocks c.args.node).prefix + (c.in-Some.byte + n)) last))
