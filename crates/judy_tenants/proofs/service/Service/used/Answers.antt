use Rattle.std.proofs.Common.{◌≡◌, ◌≤◌, ◌<◌, List, length, ap, sym, ◌∙◌, subst}
use Rattle.judy_model.specs.Tenant.{State, used}
use Rattle.judy_tenants.specs.declared.accounts.Account.{Account}
use Rattle.judy_tenants.specs.Held.{Held, states_of, quotas_of}
use Rattle.judy_tenants.specs.Accounts.{entries_at}
use Rattle.judy_tenants.proofs.Counts.{has-account}
use Rattle.judy_tenants.proofs.Seen.{seen-state}
use Rattle.judy_tenants.proofs.service.Service.used.Goals as goal

pub account_of-requires : goal.account_of-requires
account_of-requires g c =
    let s = c.self.invariant.0 in
    has-account c.deref.result.now c.self.inside.stock.accounts.items c.self.inside.table c.args.tenant c.deref.ensures.value s.many s.few
    (subst (λ (h : Held). c.args.tenant < length h.tenants) (sym c.self.view_is) c.requires)

pub returns-clause-used : goal.returns-clause-used
returns-clause-used g c =
    c.account_of.ensures.entries ∙ ap (λ (l : List Account). entries_at l c.args.tenant) c.deref.ensures.value ∙ c.self.invariant.0.entries c.args.tenant
    ∙ ap (λ (s : State). used s) (sym (seen-state c.self.inside.table c.self.inside.stock c.self.invariant.0 c.args.tenant)
    ∙ ap (λ (h : Held). states_of h c.args.tenant) c.self.view_is)

pub returns-clause-within : goal.returns-clause-within
returns-clause-within g c =
    let counted : c.account_of.result.entries ≡ entries_at c.self.inside.stock.accounts.items c.args.tenant
    = c.account_of.ensures.entries ∙ ap (λ (l : List Account). entries_at l c.args.tenant) c.deref.ensures.value in
    subst (λ (h : Held). c.account_of.result.entries ≤ (quotas_of h.tenants c.args.tenant).entries) c.self.view_is
    (subst (λ n. n ≤ (quotas_of c.self.inside.table c.args.tenant).entries) (sym counted) (c.self.invariant.0.entries_within c.args.tenant))
