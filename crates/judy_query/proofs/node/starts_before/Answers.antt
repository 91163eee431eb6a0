use Rattle.std.proofs.Common.{arith}
use Rattle.judy_tree.proofs.lemmas.Heads.{head-less}
use Rattle.judy_model.proofs.lemmas.EntryLemmas.{lt_of}
use Rattle.judy_query.proofs.node.starts_before.Goals as goal

pub returns : goal.returns
returns c t k h =
    let l = lt_of c.lead.result c.args.own t in
    let e = c.lead.ensures in
    let m = head-less c.args.level c.args.a k (omega arith) in
    omega arith
