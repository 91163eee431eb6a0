use Rattle.std.proofs.Common.{◌∙◌, List, ap, sym}
use Rattle.judy_table.proofs.lemmas.Freezes.{freeze-none}
use Rattle.judy_table.specs.declared.tenant.Tenant.{Tenant}
use Rattle.judy_tenants.specs.Held.{Held}
use Rattle.judy_server.specs.Tally.{tallied}
use Rattle.judy_server.proofs.orders.carry_out.Goals as goal

pub returns-then-not-mark : goal.returns-then-not-mark
returns-then-not-mark g c =
    ap (λ (held : Held). tallied held c.args.tally.now)
    (c.mark.ensures.frozen
    ∙ ap (λ (ts : List Tenant). record c.args.service.now { tenants = ts })
    (freeze-none c.args.order.now.name.now c.args.order.now.frozen c.args.service.now.tenants (sym c.mark.ensures.known ∙ c.if-not-mark.true)))
