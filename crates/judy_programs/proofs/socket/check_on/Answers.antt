use Rattle.judy_programs.proofs.Begins.{checks_none}
use Rattle.judy_programs.proofs.socket.check_on.Goals as goal

pub returns-in-Err : goal.returns-in-Err
returns-in-Err g c = checks_none (g.S.Opens.is_new c.args.secret.now) c.args.reserve c.in-Err.hosted c.args.config.now _ _ c.in-Err.ensures
