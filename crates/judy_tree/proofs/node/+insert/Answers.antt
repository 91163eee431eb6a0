use Rattle.std.proofs.Common.{rules, cond, ◌≡◌, ℕ, ap, sym, ◌∙◌, length, arith, is_some}
use Rattle.judy_arena.specs.Blocks.{count_up}
use Rattle.judy_arena.proofs.lemmas.TakeLaws.{takes-rests}
use Rattle.judy_model.specs.Contents.{word_order, has_key, value_of, with_entry}
use Rattle.judy_leaf.specs.Leaf.{leaf_entries}
use Rattle.judy_tree.specs.Nodes.{is_branch}
use Rattle.judy_tree.specs.declared.answers.Added.TheVariants as added
use Rattle.judy_tree.proofs.lemmas.Finds.{kid-at}
use Rattle.judy_tree.proofs.lemmas.Heads.{at-view, out-view}
use Rattle.judy_tree.proofs.lemmas.Trees.{root-leaf, leaf-content, root-top}
use Rattle.judy_tree.proofs.Forks.{outside-fork, grows}
use Rattle.judy_tree.proofs.Insertions.{leaf-as-was, leaf-some, leaf-not-few, branch-still, child-some, below, adds-below}
use Rattle.judy_tree.proofs.Splits.{split-leaf, split-new, split-adds, split-short, adds-after}
use Rattle.judy_tree.proofs.Steps.{leaf-became, one-fits, population-is, kid-falls, kid-shorter, root-some}
use Rattle.judy_tree.proofs.Taking.{kid-few}
use Rattle.judy_tree.proofs.node.+insert.Goals as goal

-- ---- a branch

pub head-branch-requires : goal.head-branch-requires
head-branch-requires t c = (root-top c.args.values c.args.arena.now.blocks c.args.node
    (sym c.leads_to_branch.ensures ∙ c.if-leads_to_branch.true) c.requires.root).branch

pub byte_of-requires : goal.byte_of-requires
byte_of-requires t c = let h = (root-top c.args.values c.args.arena.now.blocks c.args.node
    (sym c.leads_to_branch.ensures ∙ c.if-leads_to_branch.true) c.requires.root).view.level in
    omega (arith, c.head-branch.ensures.level)

pub above-requires-clause-some : goal.above-requires-clause-some
above-requires-clause-some t c = root-some c.args.values c.args.arena.now.blocks c.args.node
    (sym c.leads_to_branch.ensures ∙ c.if-leads_to_branch.true) c.requires.root

pub above-requires-clause-fork : goal.above-requires-clause-fork
above-requires-clause-fork t c level d =
    outside-fork c.args.values c.args.arena.now.blocks c.args.node c.head-branch.result.prefix c.args.key
    (sym c.leads_to_branch.ensures ∙ c.if-leads_to_branch.true) c.requires.root c.head-branch.ensures.prefix (search rules)
    c.ranges.key.fits
    (out-view _ _ _ _ c.args.key c.head-branch.ensures.level c.head-branch.ensures.prefix c.in_default.ensures.none) level d.low d.differ d.agree

pub child-requires : goal.child-requires
child-requires t c = (root-top c.args.values c.args.arena.now.blocks c.args.node
    (sym c.leads_to_branch.ensures ∙ c.if-leads_to_branch.true) c.requires.root).branch

pub insert-requires : goal.insert-requires
insert-requires t c =
    let is = sym c.leads_to_branch.ensures ∙ c.if-leads_to_branch.true in
    let found = sym c.child.ensures ∙ c.in-Some-child.is in
    let i = kid-at c.args.values c.args.arena.now.blocks c.args.node c.args.key is c.requires.root c.in-Some.byte c.in-Some-child.child found in
    let f = kid-falls c.args.values c.args.arena.now.blocks c.args.node c.in-Some.byte is c.requires.root c.in-Some-child.child found in
    (omega arith, (i.sound, c.requires.zero))

pub overflow_add-keys : goal.overflow_add-keys
overflow_add-keys t c =
    let h = one-fits c.args.values c.args.arena.now.blocks c.args.node c.requires.root c.head-branch.result.population
    (c.head-branch.ensures.population ∙ population-is c.args.values c.args.arena.now.blocks c.args.node
    (sym c.leads_to_branch.ensures ∙ c.if-leads_to_branch.true) c.requires.root) in
    omega arith

pub change_child-requires-clause-branch : goal.change_child-requires-clause-branch
change_child-requires-clause-branch t c =
    (branch-still c.args.values c.args.arena.now c.insert.new.arena c.args.node c.in-Some.byte c.in-Some-child.child c.args.key c.args.value
    (sym c.leads_to_branch.ensures ∙ c.if-leads_to_branch.true) c.requires.root (sym c.child.ensures ∙ c.in-Some-child.is)
    c.in-Done.root c.in-Done.ensures.insertion.1).branch

pub change_child-requires-clause-was : goal.change_child-requires-clause-was
change_child-requires-clause-was t c =
    ap (λ z. value_of word_order z.children c.in-Some.byte)
    (branch-still c.args.values c.args.arena.now c.insert.new.arena c.args.node c.in-Some.byte c.in-Some-child.child c.args.key c.args.value
    (sym c.leads_to_branch.ensures ∙ c.if-leads_to_branch.true) c.requires.root (sym c.child.ensures ∙ c.in-Some-child.is)
    c.in-Done.root c.in-Done.ensures.insertion.1).view ∙ sym c.child.ensures ∙ c.in-Some-child.is

pub change_child-requires-clause-child : goal.change_child-requires-clause-child
change_child-requires-clause-child t c =
    child-some c.args.values c.args.arena.now c.insert.new.arena c.args.node c.in-Some.byte c.in-Some-child.child c.args.key c.args.value
    (sym c.leads_to_branch.ensures ∙ c.if-leads_to_branch.true) c.requires.root (sym c.child.ensures ∙ c.in-Some-child.is)
    c.in-Done.root c.in-Done.ensures.insertion.1

pub returns-in-Done-clause-insertion : goal.returns-in-Done-clause-insertion
returns-in-Done-clause-insertion t c =
    let at = at-view _ _ _ _ c.args.key c.in-Some.byte c.head-branch.ensures.level c.head-branch.ensures.prefix c.in-Some.ensures.some in
    adds-below c.args.values c.args.arena.now c.insert.new.arena c.args.node c.in-Some.byte c.in-Some-child.child c.args.key c.args.value
    (sym c.leads_to_branch.ensures ∙ c.if-leads_to_branch.true) c.requires.root (sym c.child.ensures ∙ c.in-Some-child.is)
    at c.in-Done.root c.in-Done.ensures.insertion.0 c.in-Done.ensures.insertion.1 c.change_child.new.arena
    c.head-branch.result.population c.head-branch.ensures.population
    c.change_child.ensures.set c.change_child.ensures.frame c.change_child.ensures.memory.refusals

pub returns-in-Done-clause-few : goal.returns-in-Done-clause-few
returns-in-Done-clause-few t c h =
    let few = c.in-Done.ensures.few (kid-few _ _ (is_branch c.in-Some-child.child) (is_branch c.args.node)
    (kid-shorter c.args.values c.args.arena.now.blocks c.args.node c.in-Some.byte (sym c.leads_to_branch.ensures ∙ c.if-leads_to_branch.true)
    c.requires.root c.in-Some-child.child (sym c.child.ensures ∙ c.in-Some-child.is)) h) in
    takes-rests _ c.args.arena.now c.insert.new.arena c.change_child.new.arena few c.change_child.ensures.memory

pub returns-in-Present-clause-insertion : goal.returns-in-Present-clause-insertion
returns-in-Present-clause-insertion t c =
    let at = at-view _ _ _ _ c.args.key c.in-Some.byte c.head-branch.ensures.level c.head-branch.ensures.prefix c.in-Some.ensures.some in (
      below c.args.values c.args.arena.now c.insert.new.arena c.args.node c.in-Some.byte c.in-Some-child.child c.args.key c.args.value
          (sym c.leads_to_branch.ensures ∙ c.if-leads_to_branch.true) c.requires.root (sym c.child.ensures ∙ c.in-Some-child.is) at ∙ c.in-Present.ensures.insertion.0,
      c.in-Present.ensures.insertion.1,
    )

pub returns-in-NoMemory-clause-insertion : goal.returns-in-NoMemory-clause-insertion
returns-in-NoMemory-clause-insertion t c =
    let at = at-view _ _ _ _ c.args.key c.in-Some.byte c.head-branch.ensures.level c.head-branch.ensures.prefix c.in-Some.ensures.some in (
      ap is_some (below c.args.values c.args.arena.now c.insert.new.arena c.args.node c.in-Some.byte c.in-Some-child.child c.args.key c.args.value
          (sym c.leads_to_branch.ensures ∙ c.if-leads_to_branch.true) c.requires.root (sym c.child.ensures ∙ c.in-Some-child.is) at) ∙ c.in-NoMemory.ensures.insertion.0,
      c.in-NoMemory.ensures.insertion.1,
    )

pub returns-in-NoMemory-clause-few : goal.returns-in-NoMemory-clause-few
returns-in-NoMemory-clause-few t c h = c.in-NoMemory.ensures.few (kid-few _ _ (is_branch c.in-Some-child.child) (is_branch c.args.node)
    (kid-shorter c.args.values c.args.arena.now.blocks c.args.node c.in-Some.byte (sym c.leads_to_branch.ensures ∙ c.if-leads_to_branch.true)
    c.requires.root c.in-Some-child.child (sym c.child.ensures ∙ c.in-Some-child.is)) h)

-- ---- a leaf

pub insert-requires-2-clause-leaf : goal.insert-requires-2-clause-leaf
insert-requires-2-clause-leaf t c = root-leaf c.args.values c.args.arena.now.blocks c.args.node
    (sym c.leads_to_branch.ensures ∙ c.if-leads_to_branch.false) c.requires.root

pub returns-in-Done-insert-clause-insertion : goal.returns-in-Done-insert-clause-insertion
returns-in-Done-insert-clause-insertion t c =
    let is = sym c.leads_to_branch.ensures ∙ c.if-leads_to_branch.false in
    let content = leaf-content c.args.values c.args.arena.now.blocks c.args.node is in
    let b = c.in-Done-insert.ensures.insertion.2 in (
      ap (λ l. has_key word_order l c.args.key) content ∙ c.in-Done-insert.ensures.insertion.0,
      grows c.args.values c.args.arena.now c.insert-2.new.arena c.args.node c.in-Done-insert.root c.args.key c.args.value
          (leaf-became c.args.values c.args.arena.now.blocks c.insert-2.new.arena.blocks c.args.node c.in-Done-insert.root _ is b.leaf
          (b.entries ∙ ap (λ l. with_entry word_order l c.args.key c.args.value) (sym content)) b.frame) b.refusals,
    )

pub returns-in-Present-insert-clause-insertion : goal.returns-in-Present-insert-clause-insertion
returns-in-Present-insert-clause-insertion t c = (
  ap (λ l. value_of word_order l c.args.key) (leaf-content c.args.values c.args.arena.now.blocks c.args.node
      (sym c.leads_to_branch.ensures ∙ c.if-leads_to_branch.false)) ∙ c.in-Present-insert.ensures.insertion.0,
  record { blocks = c.in-Present-insert.ensures.insertion.1.0; refusals = c.in-Present-insert.ensures.insertion.1.1 },
)

pub returns-in-NoMemory-insert-clause-insertion : goal.returns-in-NoMemory-insert-clause-insertion
returns-in-NoMemory-insert-clause-insertion t c = (
  ap (λ l. has_key word_order l c.args.key) (leaf-content c.args.values c.args.arena.now.blocks c.args.node
      (sym c.leads_to_branch.ensures ∙ c.if-leads_to_branch.false)) ∙ c.in-NoMemory-insert.ensures.insertion.0,
  record { blocks = c.in-NoMemory-insert.ensures.insertion.2.0; refusals = c.in-NoMemory-insert.ensures.insertion.2.1 },
)

pub key_at-low-requires-clause-leaf : goal.key_at-low-requires-clause-leaf
key_at-low-requires-clause-leaf t c = leaf-as-was c.args.values c.args.arena.now.blocks c.insert-2.new.arena.blocks c.args.node c.args.key 0
    (sym c.leads_to_branch.ensures ∙ c.if-leads_to_branch.false) c.in-Split.ensures.insertion.2.0 c.requires.root

pub split_level-requires-clause-leaf : goal.split_level-requires-clause-leaf
split_level-requires-clause-leaf t c = leaf-as-was c.args.values c.args.arena.now.blocks c.insert-2.new.arena.blocks c.args.node c.args.key 0
    (sym c.leads_to_branch.ensures ∙ c.if-leads_to_branch.false) c.in-Split.ensures.insertion.2.0 c.requires.root

pub above-requires-in_default-split_level-clause-some : goal.above-requires-in_default-split_level-clause-some
above-requires-in_default-split_level-clause-some t c = leaf-some c.args.values c.args.arena.now.blocks c.insert-2.new.arena.blocks c.args.node
    c.args.key 0 (sym c.leads_to_branch.ensures ∙ c.if-leads_to_branch.false) c.in-Split.ensures.insertion.2.0 c.in-Split.ensures.insertion.1

pub returns-in_default-split_level-clause-insertion : goal.returns-in_default-split_level-clause-insertion
returns-in_default-split_level-clause-insertion t c =
    adds-after c.args.values c.args.arena.now c.insert-2.new.arena c.above-in_default-split_level.new.arena c.args.node c.args.key c.args.value
    c.in-Split.ensures.insertion.2.0 c.in-Split.ensures.insertion.2.1 c.above-in_default-split_level.result
    c.above-in_default-split_level.ensures.insertion

pub returns-in_default-spread-clause-insertion : goal.returns-in_default-spread-clause-insertion
returns-in_default-spread-clause-insertion t c =
    let s = c.in_default-spread.ensures.spreads in (
      ap (λ l. has_key word_order l c.args.key) (leaf-content c.args.values c.args.arena.now.blocks c.args.node
          (sym c.leads_to_branch.ensures ∙ c.if-leads_to_branch.false)) ∙ c.in-Split.ensures.insertion.0,
      record { blocks = s.blocks ∙ c.in-Split.ensures.insertion.2.0; refusals = s.refusals ∙ ap count_up c.in-Split.ensures.insertion.2.1 },
    )

pub returns-in_default-spread-clause-few : goal.returns-in_default-spread-clause-few
returns-in_default-spread-clause-few t c few = absurd (leaf-not-few c.args.values c.args.arena.now.blocks c.insert-2.new.arena.blocks
    c.args.node c.args.key c.in-Some-split_level.level (sym c.leads_to_branch.ensures ∙ c.if-leads_to_branch.false)
    c.in-Split.ensures.insertion.2.0 c.in-Some-split_level.ensures.some few)

pub insert-requires-in-Split : goal.insert-requires-in-Split
insert-requires-in-Split t c =
    let is = sym c.leads_to_branch.ensures ∙ c.if-leads_to_branch.false in
    let s = c.in-Ok.ensures.spreads in
    let same = ap length (s.content ∙ ap (λ z. leaf_entries c.args.values z c.args.node) c.in-Split.ensures.insertion.2.0
    ∙ sym (leaf-content c.args.values c.args.arena.now.blocks c.args.node is)) in
    let one : cond {A = ℕ} (is_branch c.in-Ok.split) 0 1 ≡ 0 = ap (λ t. cond {A = ℕ} t 0 1) s.branch in
    let two : cond {A = ℕ} (is_branch c.args.node) 0 1 ≡ 1 = ap (λ t. cond {A = ℕ} t 0 1) is in
    (omega arith, (s.root, c.requires.zero))

pub release-requires : goal.release-requires
release-requires t c =
    let leaf = leaf-as-was c.args.values c.args.arena.now.blocks c.insert-2.new.arena.blocks c.args.node c.args.key 0
    (sym c.leads_to_branch.ensures ∙ c.if-leads_to_branch.false) c.in-Split.ensures.insertion.2.0 c.requires.root in
    let absent = ap (λ z. has_key word_order (leaf_entries c.args.values z c.args.node) c.args.key) c.in-Split.ensures.insertion.2.0
    ∙ c.in-Split.ensures.insertion.0 in
    split-leaf c.args.values c.insert-2.new.arena c.spread.new.arena c.insert-in-Split.new.arena c.args.node c.in-Ok.split
    c.in-Some-split_level.level c.args.key c.args.value leaf c.in-Ok.ensures.spreads absent c.in-Done-insert-2.root c.in-Done-insert-2.ensures.insertion.1

pub returns-in-Done-insert-2-clause-insertion : goal.returns-in-Done-insert-2-clause-insertion
returns-in-Done-insert-2-clause-insertion t c =
    let leaf = leaf-as-was c.args.values c.args.arena.now.blocks c.insert-2.new.arena.blocks c.args.node c.args.key 0
    (sym c.leads_to_branch.ensures ∙ c.if-leads_to_branch.false) c.in-Split.ensures.insertion.2.0 c.requires.root in
    let absent = ap (λ z. has_key word_order (leaf_entries c.args.values z c.args.node) c.args.key) c.in-Split.ensures.insertion.2.0
    ∙ c.in-Split.ensures.insertion.0 in
    adds-after c.args.values c.args.arena.now c.insert-2.new.arena c.release.new.arena c.args.node c.args.key c.args.value
    c.in-Split.ensures.insertion.2.0 c.in-Split.ensures.insertion.2.1 (added.Done c.in-Done-insert-2.root)
    (split-adds c.args.values c.insert-2.new.arena c.spread.new.arena c.insert-in-Split.new.arena c.args.node c.in-Ok.split
    c.in-Some-split_level.level c.args.key c.args.value leaf c.in-Ok.ensures.spreads absent c.in-Done-insert-2.root c.in-Done-insert-2.ensures.insertion.1
    c.release.new.arena c.release.ensures.frame c.release.ensures.memory.refusals
    c.in-Some-split_level.ensures.some.deep)

pub returns-in-Done-insert-2-clause-few : goal.returns-in-Done-insert-2-clause-few
returns-in-Done-insert-2-clause-few t c few = absurd (leaf-not-few c.args.values c.args.arena.now.blocks c.insert-2.new.arena.blocks
    c.args.node c.args.key c.in-Some-split_level.level (sym c.leads_to_branch.ensures ∙ c.if-leads_to_branch.false)
    c.in-Split.ensures.insertion.2.0 c.in-Some-split_level.ensures.some few)

pub unreachable-requires : goal.unreachable-requires
unreachable-requires t c =
    let leaf = leaf-as-was c.args.values c.args.arena.now.blocks c.insert-2.new.arena.blocks c.args.node c.args.key 0
    (sym c.leads_to_branch.ensures ∙ c.if-leads_to_branch.false) c.in-Split.ensures.insertion.2.0 c.requires.root in
    let absent = ap (λ z. has_key word_order (leaf_entries c.args.values z c.args.node) c.args.key) c.in-Split.ensures.insertion.2.0
    ∙ c.in-Split.ensures.insertion.0 in
    split-new c.args.values c.insert-2.new.arena c.spread.new.arena c.insert-in-Split.new.arena c.args.node c.in-Ok.split
    c.in-Some-split_level.level c.args.key c.args.value leaf c.in-Ok.ensures.spreads absent c.in-Present-insert-2.field-0 c.in-Present-insert-2.ensures.insertion.0

pub returns-in-NoMemory-insert-2-clause-insertion : goal.returns-in-NoMemory-insert-2-clause-insertion
returns-in-NoMemory-insert-2-clause-insertion t c =
    let short = split-short c.args.values c.insert-2.new.arena c.spread.new.arena c.insert-in-Split.new.arena c.clear.new.arena
    c.args.node c.in-Ok.split c.in-Some-split_level.level c.in-Ok.ensures.spreads
    c.in-NoMemory-insert-2.ensures.insertion.1.blocks c.in-NoMemory-insert-2.ensures.insertion.1.refusals c.clear.ensures.frame c.clear.ensures.memory.refusals in (
      ap (λ l. has_key word_order l c.args.key) (leaf-content c.args.values c.args.arena.now.blocks c.args.node
          (sym c.leads_to_branch.ensures ∙ c.if-leads_to_branch.false)) ∙ c.in-Split.ensures.insertion.0,
      record { blocks = short.0 ∙ c.in-Split.ensures.insertion.2.0; refusals = short.1 ∙ ap count_up c.in-Split.ensures.insertion.2.1 },
    )

pub returns-in-NoMemory-insert-2-clause-few : goal.returns-in-NoMemory-insert-2-clause-few
returns-in-NoMemory-insert-2-clause-few t c few = absurd (leaf-not-few c.args.values c.args.arena.now.blocks c.insert-2.new.arena.blocks
    c.args.node c.args.key c.in-Some-split_level.level (sym c.leads_to_branch.ensures ∙ c.if-leads_to_branch.false)
    c.in-Split.ensures.insertion.2.0 c.in-Some-split_level.ensures.some few)
