use Rattle.std.proofs.Common.{rules, ◌≡◌, ◌+◌, ◌-◌, ◌*◌, ◌/◌, ◌%◌, ℕ, length, arith, subst}
use Rattle.judy_disk.specs.Rewriting.{ReadsTorn}
use Rattle.judy_disk.proofs.Listed.{failed}
use Rattle.judy_disk.proofs.Pieces.{HasRead, read_failed, read_more, whole_pieces}
use Rattle.judy_disk.proofs.rewriting.read_before_zeros.Goals as goal

pub loop-i-preserved : goal.loop-i-preserved
loop-i-preserved g c =
    let long : length c.read_at.new.room ≡ 65536 = search rules in
    read_more c.args.place c.args.from (c.loop-i.i * 65536) c.loop-i.end c.args.log.now.acts c.loop-i.log.acts c.read_at.new.log.acts c.read_at.new.room
    c.end_after-end.result ((c.loop-i.i + 1) * 65536) c.in_ok-read_at.field-0 c.loop-i.invariant c.in_ok-read_at.ensures c.end_after-end.ensures
    (omega (arith, long))

pub returns-in_err-read_at-2 : goal.returns-in_err-read_at-2
returns-in_err-read_at-2 g c =
    let whole : c.loop-i.i ≡ c.args.len / 65536 = search rules in
    let was = subst (λ (v : ℕ). HasRead c.args.place c.args.from v c.loop-i.end c.args.log.now.acts c.loop-i.log.acts)
    (whole_pieces c.args.len c.loop-i.i whole) c.loop-i.invariant in
    failed c.from_residual-in_err-read_at-2.result c.in_err-read_at-2.field-0.0
    (λ r. ReadsTorn c.args.place c.args.from c.args.len r c.args.log.now.acts c.read_at-2.new.log.acts) c.from_residual-in_err-read_at-2.ensures
    (read_failed c.args.place c.args.from (c.args.len - c.args.len % 65536) c.loop-i.end c.args.len c.args.log.now.acts c.loop-i.log.acts
    c.read_at-2.new.log.acts c.read_at-2.new.room c.in_err-read_at-2.field-0.0 was c.in_err-read_at-2.ensures)

pub returns : goal.returns
returns g c =
    let whole : c.loop-i.i ≡ c.args.len / 65536 = search rules in
    let long : length c.read_at-2.new.room ≡ c.args.len - (c.args.len - c.args.len % 65536) = search rules in
    let was = subst (λ (v : ℕ). HasRead c.args.place c.args.from v c.loop-i.end c.args.log.now.acts c.loop-i.log.acts)
    (whole_pieces c.args.len c.loop-i.i whole) c.loop-i.invariant in
    let all = read_more c.args.place c.args.from (c.args.len - c.args.len % 65536) c.loop-i.end c.args.log.now.acts c.loop-i.log.acts
    c.read_at-2.new.log.acts c.read_at-2.new.room c.end_after.result c.args.len c.in_ok-read_at-2.field-0 was c.in_ok-read_at-2.ensures
    c.end_after.ensures (omega (arith, long)) in
    (all.pieces, all.are, all.len, all.end)
