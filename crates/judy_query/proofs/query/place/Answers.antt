use Rattle.std.proofs.Common.{length, ap, arith}
use Rattle.judy_tree.proofs.lemmas.Trees.{root-top}
use Rattle.judy_query.proofs.query.place.Goals as goal

pub population-all-requires : goal.population-all-requires
population-all-requires c = (root-top c.args.values c.args.arena.now.blocks c.args.node c.requires.branch c.requires.root).branch

pub place_down-requires-clause-within : goal.place_down-requires-clause-within
place_down-requires-clause-within c =
    let top = root-top c.args.values c.args.arena.now.blocks c.args.node c.requires.branch c.requires.root in
    let all = top.over.population in
    let same = ap length top.content in
    let p = c.population-all.ensures in
    let t = c.if-n-all-2.true in
    omega (arith, all, same, p, t)
