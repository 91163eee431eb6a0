use Rattle.std.proofs.Common.{◌-◌, arith}
use Rattle.judy_tree.proofs.lemmas.Heads.{head-less}
use Rattle.judy_model.proofs.lemmas.EntryLemmas.{lt_of}
use Rattle.judy_query.proofs.node.ends_after.Goals as goal

pub returns-then-own-high : goal.returns-then-own-high
returns-then-own-high c t k f h =
    let l = lt_of 255 (c.lead-high.result - c.args.own) t in
    let e = c.lead-high.ensures in
    let m = head-less c.args.level k c.args.b (omega arith) in
    omega arith
