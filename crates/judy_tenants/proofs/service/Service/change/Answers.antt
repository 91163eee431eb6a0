use Rattle.std.proofs.Common.{List, subst}
use Rattle.std.proofs.lemmas.Result.{IfErr-weaker}
use Rattle.judy_table.specs.Seats.{seated}
use Rattle.judy_table.specs.declared.tenant.Tenant.{Tenant}
use Rattle.judy_tenants.specs.Changes.{HasReason}
use Rattle.judy_tenants.specs.Held.{Held}
use Rattle.judy_tenants.specs.Stocks.{held_of}
use Rattle.judy_tenants.proofs.Carried.{reason-seen}
use Rattle.judy_tenants.proofs.service.Service.change.Goals as goal

pub returns-clause-reason : goal.returns-clause-reason
returns-clause-reason g c =
    IfErr-weaker c.put_in_force-changed.result _ _ (λ t h.
    subst (λ (s : Held). HasReason s (seated s.tenants c.args.table) t) c.self.view_is
    (subst (λ (ts : List Tenant). HasReason (held_of c.self.inside.table c.self.inside.stock) ts t) c.seat.ensures
    (reason-seen c.self.inside.table c.seat.new.self c.self.inside.stock c.self.invariant.0 t h))) c.put_in_force-changed.ensures.reason
