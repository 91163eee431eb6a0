use Rattle.judy_recovery.proofs.Playing.{next_broken}
use Rattle.judy_recovery.proofs.last.read_next.Goals as goal

pub returns-in-Err-Damaged : goal.returns-in-Err-Damaged
returns-in-Err-Damaged g c = next_broken g.P.Player.plays c.args.found c.in-Err-Damaged.damaged c.in-Err-Damaged.field-0
    c.args.recovery.now c.read_piece.new.recovery c.args.bytes.now c.args.player.now c.read_piece.new.player
    c.in_default.is c.in-Err-Damaged.field-0-is c.in-Err-Damaged.ensures.broken
