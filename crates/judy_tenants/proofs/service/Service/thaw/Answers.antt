use Rattle.std.proofs.Common.{◌≡◌, None, List, sym, subst}
use Rattle.judy_table.specs.declared.tenant.Tenant.{Tenant}
use Rattle.judy_table.specs.Freezes.{with_freeze}
use Rattle.judy_tenants.specs.Stocks.{IsGranted, IsStocked}
use Rattle.judy_tenants.proofs.Freezing.{frozen-granted, frozen-stocked}
use Rattle.judy_tenants.proofs.service.Service.thaw.Goals as goal

pub invariant_of-self : goal.invariant_of-self
invariant_of-self g c =
    let rows = c.self.inside.table in
    let is : c.thaw-known.new.self ≡ with_freeze c.args.name.now None rows = c.thaw-known.ensures.rows in
    let P : List Tenant → Type 0 = λ ts. IsStocked g.H.KeyHash.hashed ts c.self.inside.stock × IsGranted ts c.self.inside.stock in
    subst P (sym is) (
      frozen-stocked c.args.name.now None rows c.self.inside.stock c.self.invariant.0,
      frozen-granted c.args.name.now None rows c.self.inside.stock c.self.invariant.1,
    )
