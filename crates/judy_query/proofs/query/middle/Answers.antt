use Rattle.std.proofs.Common.{◌≡◌, ◌-◌, length, ap, ◌∙◌, arith}
use Rattle.judy_branch.specs.Branch.{branch_view}
use Rattle.judy_tree.specs.Nodes.{joined}
use Rattle.judy_tree.specs.Root.{entries}
use Rattle.judy_tree.proofs.lemmas.Trees.{root-top}
use Rattle.judy_query.proofs.Sums.{part, parts-are-all}
use Rattle.judy_query.proofs.query.middle.Goals as goal

pub population-requires : goal.population-requires
population-requires c = (root-top c.args.values c.args.arena.now.blocks c.args.node c.requires.branch c.requires.root).branch

pub overflow_sub-result : goal.overflow_sub-result
overflow_sub-result c =
    let top = root-top c.args.values c.args.arena.now.blocks c.args.node c.requires.branch c.requires.root in
    let all = parts-are-all (entries c.args.values c.args.arena.now.blocks) c.args.from c.args.high
    (branch_view c.args.arena.now.blocks c.args.node).children c.requires.rising top.view.places in
    let p = top.over.population in
    let q = c.population.ensures in
    let f = entries c.args.values c.args.arena.now.blocks in
    let cs = (branch_view c.args.arena.now.blocks c.args.node).children in
    let b : c.between-before.result ≡ length (joined f (part 0 c.args.from cs)) = c.between-before.ensures
    ∙ ap (λ h. length (joined f (part 0 h cs))) c.from-2.ensures in
    omega arith

pub overflow_sub-result-2 : goal.overflow_sub-result-2
overflow_sub-result-2 c =
    let top = root-top c.args.values c.args.arena.now.blocks c.args.node c.requires.branch c.requires.root in
    let all = parts-are-all (entries c.args.values c.args.arena.now.blocks) c.args.from c.args.high
    (branch_view c.args.arena.now.blocks c.args.node).children c.requires.rising top.view.places in
    let p = top.over.population in
    let q = c.population.ensures in
    let f = entries c.args.values c.args.arena.now.blocks in
    let cs = (branch_view c.args.arena.now.blocks c.args.node).children in
    let b : c.between-before.result ≡ length (joined f (part 0 c.args.from cs)) = c.between-before.ensures
    ∙ ap (λ h. length (joined f (part 0 h cs))) c.from-2.ensures in
    let a : c.between-after.result ≡ length (joined f (part c.args.high 256 cs)) = c.between-after.ensures in
    omega arith

pub returns : goal.returns
returns c =
    let top = root-top c.args.values c.args.arena.now.blocks c.args.node c.requires.branch c.requires.root in
    let all = parts-are-all (entries c.args.values c.args.arena.now.blocks) c.args.from c.args.high
    (branch_view c.args.arena.now.blocks c.args.node).children c.requires.rising top.view.places in
    let p = top.over.population in
    let q = c.population.ensures in
    let f = entries c.args.values c.args.arena.now.blocks in
    let cs = (branch_view c.args.arena.now.blocks c.args.node).children in
    let b : c.between-before.result ≡ length (joined f (part 0 c.args.from cs)) = c.between-before.ensures
    ∙ ap (λ h. length (joined f (part 0 h cs))) c.from-2.ensures in
    let a : c.between-after.result ≡ length (joined f (part c.args.high 256 cs)) = c.between-after.ensures in
    let is : c.population.result - c.between-before.result - c.between-after.result ≡ length (joined f (part c.args.from c.args.high cs)) = omega arith in
    is
