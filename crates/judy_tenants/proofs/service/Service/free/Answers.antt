use Rattle.std.proofs.Common.{subst}
use Rattle.judy_tenants.specs.Changes.{HasFreed}
use Rattle.judy_tenants.specs.Held.{Held}
use Rattle.judy_tenants.specs.Stocks.{held_of}
use Rattle.judy_tenants.proofs.Carried.{free-seen}
use Rattle.judy_tenants.proofs.service.Service.free.Goals as goal

pub returns-clause-freed : goal.returns-clause-freed
returns-clause-freed g c =
    subst (λ (old : Held). HasFreed c.args.gone.now old (held_of c.self.inside.table c.free_all.new.stock)) c.self.view_is
    (free-seen c.self.inside.table c.self.inside.stock c.free_all.new.stock c.args.gone.now c.self.invariant.0 c.free_all.ensures.stocked
    c.free_all.ensures.freed c.free_all.ensures.gone)
