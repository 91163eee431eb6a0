use Rattle.std.proofs.Common.{◌≡◌, sym, subst}
use Rattle.judy_model.specs.Tenant.{no_arrays}
use Rattle.judy_tenants.specs.States.{state_in}
use Rattle.judy_tenants.proofs.Marked.{unmarked}
use Rattle.judy_tenants.proofs.freeing.free_all.Goals as goal

pub returns-clause-gone : goal.returns-clause-gone
returns-clause-gone g c = λ t marked.
    subst (λ m. state_in c.free_marked.new.arena.blocks m t ≡ no_arrays) (sym c.forget_gone.ensures.places)
    (unmarked c.free_marked.new.arena.blocks c.args.stock.now.directory.0 c.args.gone.now t marked)
