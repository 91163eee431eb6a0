use Rattle.std.proofs.Common.{◌≡◌, ◌≢◌, ℕ, ◌+◌, ◌<◌, ◌≤◌, Bool, Option, ap, sym, ◌∙◌, arith}
use Rattle.judy_arena.specs.Blocks.{Blocks}
use Rattle.judy_model.specs.Contents.{word_order, count, value_of}
use Rattle.judy_branch.specs.Branch.{branch_view}
use Rattle.judy_tree.specs.Root.{entries}
use Rattle.judy_tree.proofs.lemmas.Finds.{deep-branch, kid-at}
use Rattle.judy_tree.proofs.lemmas.Joins.{some_of}
use Rattle.judy_tree.proofs.lemmas.Trees.{Top, root-leaf, leaf-content, root-top}
use Rattle.judy_query.proofs.Sums.{count-inside, count-below, count-above, count-turned, count-one, count-apart, count-fits}
use Rattle.judy_query.proofs.query.+count.Goals as goal
use Rattle.judy_query.proofs.query.+count.Goals.{in-Some-child, in-None, in-Some-child-2, in-None-child}
use Rattle.judy_query.proofs.query.+count.Goals.{Else-not-leads_to_branch, After-middle}

strict : (a m : ℕ) → a ≤ m → a ≢ m → a < m
strict a m i n = grind arith

-- the keys that a child has, if there is one
abbrev of_kid : Bool → Blocks → ℕ → ℕ → Option ℕ → ℕ
of_kid v b x y = some_of (λ w. count (entries v b w) x y)

told : (v : Bool) (b : Blocks) (x y n : ℕ) (o p q : Option ℕ) → n ≡ of_kid v b x y p → o ≡ p → o ≡ q → n ≡ of_kid v b x y q
told v b x y n o p q h i j = h ∙ ap (of_kid v b x y) (sym i ∙ j)

top : (t : ℕ) (c : Else-not-leads_to_branch t) → Top c.args.values c.args.arena.now.blocks c.args.node
top t c = root-top c.args.values c.args.arena.now.blocks c.args.node (sym c.leads_to_branch.ensures ∙ c.if-not-leads_to_branch.false) c.requires

-- the keys of the branch are those of the lowest child, of those between and of the highest
sums : (t : ℕ) (c : After-middle t) → count (entries c.args.values c.args.arena.now.blocks c.args.node) c.args.a c.args.b
    ≡ c.match-child.lowest + c.middle.result + c.match-child-2.highest
sums t c =
    let v = c.args.values in let b = c.args.arena.now.blocks in let x = c.args.a in let y = c.args.b in
    let kids = (branch_view b c.args.node).children in
    let lowest : c.match-child.lowest ≡ of_kid v b x y (value_of word_order kids c.in-Some.low) = elim c.match-child.branch [
      | in-Some-child k ↦ told v b x y _ _ _ _ (k.lowest-is ∙ k.count-lowest.ensures) k.in-Some-child.is c.child.ensures
      | in-None k ↦ told v b x y _ _ _ _ k.lowest-is k.in-None.is c.child.ensures
    ] in
    let highest : c.match-child-2.highest ≡ of_kid v b x y (value_of word_order kids c.in-Some-byte_upto.high) = elim c.match-child-2.branch [
      | in-Some-child-2 k ↦ told v b x y _ _ _ _ (k.highest-is ∙ k.count-highest.ensures) k.in-Some-child-2.is c.child-2.ensures
      | in-None-child k ↦ told v b x y _ _ _ _ k.highest-is k.in-None-child.is c.child-2.ensures
    ] in
    let less = strict c.in-Some.low c.in-Some-byte_upto.high c.if-high-low.false c.if-low-high.false in
    let sum = count-apart v b c.args.node (sym c.leads_to_branch.ensures ∙ c.if-not-leads_to_branch.false) c.requires x y c.in-Some.low
    c.in-Some-byte_upto.high c.in-Some.ensures.low c.in-Some.ensures.exact c.in-Some-byte_upto.ensures.high
    c.in-Some-byte_upto.ensures.exact less in
    let inner = c.middle.ensures in
    omega arith

sums-fit : (t : ℕ) (c : After-middle t) → c.match-child.lowest + c.middle.result + c.match-child-2.highest < 1152921504606846976
sums-fit t c =
    let s = sums t c in
    let fits = count-fits c.args.values c.args.arena.now.blocks c.args.node
    (sym c.leads_to_branch.ensures ∙ c.if-not-leads_to_branch.false) c.requires c.args.a c.args.b in
    omega arith

pub count-requires : goal.count-requires
count-requires t c =
    root-leaf c.args.values c.args.arena.now.blocks c.args.node (sym c.leads_to_branch.ensures ∙ c.if-not-leads_to_branch.true) c.requires

pub returns-then-not-leads_to_branch : goal.returns-then-not-leads_to_branch
returns-then-not-leads_to_branch t c = c.count.ensures
    ∙ sym (ap (λ l. count l c.args.a c.args.b) (leaf-content c.args.values c.args.arena.now.blocks c.args.node
    (sym c.leads_to_branch.ensures ∙ c.if-not-leads_to_branch.true)))

pub lies_between-requires : goal.lies_between-requires
lies_between-requires t c = (top t (goal.at.lies_between-requires t c).Else-not-leads_to_branch).branch

pub population-requires : goal.population-requires
population-requires t c = (top t (goal.at.population-requires t c).Else-not-leads_to_branch).branch

pub returns-then-lies_between : goal.returns-then-lies_between
returns-then-lies_between t c =
    c.population.ensures ∙ count-inside c.args.values c.args.arena.now.blocks c.args.node
    (sym c.leads_to_branch.ensures ∙ c.if-not-leads_to_branch.false) c.requires c.args.a c.args.b (c.lies_between.ensures.above c.if-lies_between.true)
    (c.lies_between.ensures.below c.if-lies_between.true)

pub byte_from-requires : goal.byte_from-requires
byte_from-requires t c = (top t (goal.at.byte_from-requires t c).Else-not-leads_to_branch).branch

pub returns-in_default : goal.returns-in_default
returns-in_default t c = sym (count-below c.args.values c.args.arena.now.blocks c.args.node
    (sym c.leads_to_branch.ensures ∙ c.if-not-leads_to_branch.false) c.requires c.args.a c.args.b c.in_default.ensures.none)

pub byte_upto-requires : goal.byte_upto-requires
byte_upto-requires t c = (top t (goal.at.byte_upto-requires t c).Else-not-leads_to_branch).branch

pub returns-in_default-byte_upto : goal.returns-in_default-byte_upto
returns-in_default-byte_upto t c = sym (count-above c.args.values c.args.arena.now.blocks c.args.node
    (sym c.leads_to_branch.ensures ∙ c.if-not-leads_to_branch.false) c.requires c.args.a c.args.b
    c.in_default-byte_upto.ensures.none)

pub returns-then-high-low : goal.returns-then-high-low
returns-then-high-low t c =
    sym (count-turned c.args.values c.args.arena.now.blocks c.args.node
    (sym c.leads_to_branch.ensures ∙ c.if-not-leads_to_branch.false) c.requires c.args.a c.args.b c.in-Some.low
    c.in-Some-byte_upto.high c.in-Some.ensures.low c.in-Some.ensures.exact c.in-Some-byte_upto.ensures.high
    c.in-Some-byte_upto.ensures.exact c.if-high-low.true)

pub child-requires : goal.child-requires
child-requires t c = (top t (goal.at.child-requires t c).Else-not-leads_to_branch).branch

pub count-lowest-requires : goal.count-lowest-requires
count-lowest-requires t c =
    let is = sym c.leads_to_branch.ensures ∙ c.if-not-leads_to_branch.false in
    let i = kid-at c.args.values c.args.arena.now.blocks c.args.node c.args.a is c.requires c.in-Some.low
    c.in-Some-child.child (sym c.child.ensures ∙ c.in-Some-child.is) in
    let d = deep-branch c.args.values c.args.arena.now.blocks c.args.node c.args.a is c.requires in
    let l = (top t (goal.at.count-lowest-requires t c).Else-not-leads_to_branch).view.level in
    let e = i.deeper in
    (omega arith, i.sound)

pub returns-then-low-high : goal.returns-then-low-high
returns-then-low-high t c =
    let v = c.args.values in let b = c.args.arena.now.blocks in let x = c.args.a in let y = c.args.b in
    let lowest : c.match-child.lowest ≡ of_kid v b x y (value_of word_order (branch_view b c.args.node).children c.in-Some.low) = elim c.match-child.branch [
      | in-Some-child k ↦ told v b x y _ _ _ _ (k.lowest-is ∙ k.count-lowest.ensures) k.in-Some-child.is c.child.ensures
      | in-None k ↦ told v b x y _ _ _ _ k.lowest-is k.in-None.is c.child.ensures
    ] in
    lowest ∙ sym (count-one c.args.values c.args.arena.now.blocks c.args.node
    (sym c.leads_to_branch.ensures ∙ c.if-not-leads_to_branch.false) c.requires c.args.a c.args.b c.in-Some.low
    c.in-Some-byte_upto.high c.in-Some.ensures.low c.in-Some.ensures.exact c.in-Some-byte_upto.ensures.high
    c.in-Some-byte_upto.ensures.exact c.if-low-high.true)

pub child-requires-2 : goal.child-requires-2
child-requires-2 t c = (top t (goal.at.child-requires-2 t c).Else-not-leads_to_branch).branch

pub count-highest-requires : goal.count-highest-requires
count-highest-requires t c =
    let is = sym c.leads_to_branch.ensures ∙ c.if-not-leads_to_branch.false in
    let i = kid-at c.args.values c.args.arena.now.blocks c.args.node c.args.a is c.requires c.in-Some-byte_upto.high
    c.in-Some-child-2.child (sym c.child-2.ensures ∙ c.in-Some-child-2.is) in
    let d = deep-branch c.args.values c.args.arena.now.blocks c.args.node c.args.a is c.requires in
    let l = (top t (goal.at.count-highest-requires t c).Else-not-leads_to_branch).view.level in
    let e = i.deeper in
    (omega arith, i.sound)

pub overflow_add-result : goal.overflow_add-result
overflow_add-result t c = let s = sums-fit t (goal.at.overflow_add-result t c).After-middle in omega arith

pub overflow_add-result-2 : goal.overflow_add-result-2
overflow_add-result-2 t c = let s = sums-fit t (goal.at.overflow_add-result-2 t c).After-middle in omega arith

pub returns : goal.returns
returns t c = let s = sums t (goal.at.returns t c).After-middle in omega arith
