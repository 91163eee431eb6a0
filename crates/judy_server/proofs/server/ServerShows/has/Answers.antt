use Rattle.std.proofs.Common.{◌≡◌, ◌∙◌, ap, subst}
use Rattle.std.specs.Prelude.{is_some}
use Rattle.judy_table.specs.Tenants.{place_of}
use Rattle.judy_server.specs.Tally.{Tallied}
use Rattle.judy_server.proofs.Having.{tells_name}
use Rattle.judy_server.proofs.server.ServerShows.has.Goals as goal

pub returns-clause-yes : goal.returns-clause-yes
returns-clause-yes g c = (tells_name c.args.name.now c.args.self.now.held.tenants c.is_some.result
    (c.is_some.ensures ∙ ap is_some (subst (λ (t : Tallied). c.find.result ≡ place_of c.args.name.now t.held.tenants) c.self.view_is c.find.ensures))).0

pub returns-clause-no : goal.returns-clause-no
returns-clause-no g c = (tells_name c.args.name.now c.args.self.now.held.tenants c.is_some.result
    (c.is_some.ensures ∙ ap is_some (subst (λ (t : Tallied). c.find.result ≡ place_of c.args.name.now t.held.tenants) c.self.view_is c.find.ensures))).1
