use Rattle.judy_many.specs.Rules.{rules_of}
use Rattle.judy_programs.proofs.Begins.{hosts_none, hosts_served}
use Rattle.judy_programs.proofs.socket.host_on.Goals as goal

pub returns : goal.returns
returns g c = hosts_served (rules_of g.S.Served.made g.S.Served.seen g.S.Shows.noted g.S.Shows.status g.S.Shows.changed g.S.Shows.caps g.S.Shows.leavers) (g.S.Opens.is_new c.args.secret.now)
    c.args.reserve c.serve_on.result c.args.config.now c.args.socket.now _ c.args.limits _ _ _ _ _ c.in-Ok.ensures c.serve_on.ensures

pub returns-in-Err : goal.returns-in-Err
returns-in-Err g c = hosts_none (g.S.Opens.is_new c.args.secret.now) c.args.reserve (rules_of g.S.Served.made g.S.Served.seen g.S.Shows.noted g.S.Shows.status g.S.Shows.changed g.S.Shows.caps g.S.Shows.leavers) c.in-Err.hosted
    c.args.config.now c.args.socket.now _ c.args.limits _ _ c.in-Err.ensures
