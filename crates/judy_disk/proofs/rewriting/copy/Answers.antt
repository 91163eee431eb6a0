use Rattle.std.proofs.Common.{rules, ◌≡◌, ◌+◌, ◌-◌, ◌*◌, ◌/◌, ◌%◌, ℕ, length, arith, subst}
use Rattle.judy_disk.proofs.Pieces.{HasCopied, copied_last, copied_more, whole_pieces}
use Rattle.judy_disk.proofs.rewriting.copy.Goals as goal

pub loop-i-preserved : goal.loop-i-preserved
loop-i-preserved g c =
    let long : length c.copy_piece.new.room ≡ 65536 = search rules in
    copied_more c.args.span (c.loop-i.i * 65536) ((c.loop-i.i + 1) * 65536) c.args.log.now.acts c.loop-i.log.acts c.copy_piece.new.log.acts
    c.copy_piece.new.room c.in_ok-copy_piece.field-0 c.loop-i.invariant c.in_ok-copy_piece.ensures (omega (arith, long))

pub returns : goal.returns
returns g c =
    let whole : c.loop-i.i ≡ c.args.len / 65536 = search rules in
    let long : length c.copy_piece-2.new.room ≡ c.args.len - (c.args.len - c.args.len % 65536) = search rules in
    copied_last c.args.span (c.args.len - c.args.len % 65536) c.args.len c.args.log.now.acts c.loop-i.log.acts c.copy_piece-2.new.log.acts
    c.copy_piece-2.new.room c.copy_piece-2.result
    (subst (λ (v : ℕ). HasCopied c.args.span v c.args.log.now.acts c.loop-i.log.acts) (whole_pieces c.args.len c.loop-i.i whole) c.loop-i.invariant)
    c.copy_piece-2.ensures (omega (arith, long))
