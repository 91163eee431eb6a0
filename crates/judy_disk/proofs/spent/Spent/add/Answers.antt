use Rattle.std.proofs.Common.{◌∙◌, sym, arith}
use Rattle.judy_disk.proofs.Sums.{pushed_if, raised, within}
use Rattle.judy_disk.proofs.spent.Spent.add.Goals as goal

pub returns-in_default : goal.returns-in_default
returns-in_default c done chosen = pushed_if chosen c.args.self.now.shares.items c.push.new.self.items
    (record { segment = c.args.segment; tenant = c.args.tenant; bytes = c.args.bytes }) _ c.push.ensures.items (sym c.is_ok.ensures.value ∙ done)

pub index-requires : goal.index-requires
index-requires c =
    let there = within _ c.args.self.now.shares.items c.in-Some.place c.in-Some.ensures in
    let len = c.args.self.now.shares.ok.0 in
    omega (arith, there, len)

pub index_mut-requires : goal.index_mut-requires
index_mut-requires c =
    let there = within _ c.args.self.now.shares.items c.in-Some.place c.in-Some.ensures in
    let len = c.args.self.now.shares.ok.0 in
    omega (arith, there, len)

pub returns-in-Some-checked_add : goal.returns-in-Some-checked_add
returns-in-Some-checked_add c done chosen = raised chosen c.args.self.now.shares.items c.in-Some.place c.index.result.now
    c.index_mut.result.now c.args.segment c.args.tenant c.args.bytes c.in-Some-checked_add.sum c.in-Some.ensures
    c.index.ensures c.index_mut.ensures.value c.in-Some-checked_add.ensures.1
