use Rattle.std.proofs.Common.{◌≡◌, List, ◌∙◌, ap, max, sym, subst}
use Rattle.judy_table.specs.declared.tenant.Tenant.{Tenant}
use Rattle.judy_table.specs.Unlimited.{unlimited}
use Rattle.judy_tenants.specs.Held.{words_for}
use Rattle.judy_tenants.specs.Stocks.{IsGranted, IsStocked}
use Rattle.judy_tenants.proofs.Lifted.{lifted-granted, lifted-stocked}
use Rattle.judy_tenants.proofs.service.Service.lift_quotas.Goals as goal

pub invariant_of-self : goal.invariant_of-self
invariant_of-self g c =
    let rows = c.self.inside.table in
    let is : c.replace-table.new.dest ≡ unlimited rows = c.replace-table.ensures.after ∙ c.in-Ok.ensures in
    let P : List Tenant → Type 0 = λ ts. IsStocked g.H.KeyHash.hashed ts c.self.inside.stock
    × IsGranted ts (record c.self.inside.stock { granted = c.max-self-inside.result }) in
    subst P (sym is) (
      lifted-stocked rows c.self.inside.stock c.rows_are_sound.ensures c.self.invariant.0,
      lifted-granted rows c.self.inside.stock c.max-self-inside.result
          (c.max-self-inside.ensures ∙ ap (λ w. max c.self.inside.stock.granted w) (c.words_for.ensures ∙ ap words_for c.in-Ok.ensures)) c.self.invariant.1,
    )
