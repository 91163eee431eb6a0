use Rattle.std.proofs.Common.{◌≡◌, subst}
use Rattle.std.specs.Prelude.{option_map}
use Rattle.judy_table.specs.Shown.{seen}
use Rattle.judy_table.specs.Tenants.{login_of}
use Rattle.judy_server.specs.Tally.{Tallied}
use Rattle.judy_server.proofs.Asked.{let_in}
use Rattle.judy_server.proofs.server.ServerServed.login.Goals as goal

pub returns-clause-known : goal.returns-clause-known
returns-clause-known g c =
    let_in c.args.name.now c.args.token.now c.args.self.now.held.tenants c.login.result
    (subst (λ (t : Tallied). option_map seen c.login.result ≡ login_of c.args.name.now c.args.token.now t.held.tenants) c.self.view_is c.login.ensures.who)
