use Rattle.std.proofs.Common.{◌≡◌, ◌≤◌, ◌<◌, List, length, ap, sym, ◌∙◌, subst}
use Rattle.judy_model.specs.Tenant.{State, pieces}
use Rattle.judy_tenants.specs.declared.accounts.Account.{Account}
use Rattle.judy_tenants.specs.Held.{Held, states_of, quotas_of}
use Rattle.judy_tenants.specs.Accounts.{account_pieces}
use Rattle.judy_tenants.proofs.Counts.{has-account}
use Rattle.judy_tenants.proofs.Seen.{seen-state}
use Rattle.judy_tenants.proofs.service.Service.pieces.Goals as goal

pub account_of-requires : goal.account_of-requires
account_of-requires g c =
    let s = c.self.invariant.0 in
    has-account c.deref.result.now c.self.inside.stock.accounts.items c.self.inside.table c.args.tenant c.deref.ensures.value s.many s.few
    (subst (λ (h : Held). c.args.tenant < length h.tenants) (sym c.self.view_is) c.requires)

pub returns-clause-pieces : goal.returns-clause-pieces
returns-clause-pieces g c =
    c.account_of.ensures.pieces ∙ ap (λ (l : List Account). account_pieces l c.args.tenant) c.deref.ensures.value ∙ c.self.invariant.0.pieces c.args.tenant
    ∙ ap (λ (s : State). pieces s) (sym (seen-state c.self.inside.table c.self.inside.stock c.self.invariant.0 c.args.tenant)
    ∙ ap (λ (h : Held). states_of h c.args.tenant) c.self.view_is)

pub returns-clause-within : goal.returns-clause-within
returns-clause-within g c =
    let counted : c.account_of.result.pieces ≡ account_pieces c.self.inside.stock.accounts.items c.args.tenant
    = c.account_of.ensures.pieces ∙ ap (λ (l : List Account). account_pieces l c.args.tenant) c.deref.ensures.value in
    subst (λ (h : Held). c.account_of.result.pieces ≤ (quotas_of h.tenants c.args.tenant).pieces) c.self.view_is
    (subst (λ n. n ≤ (quotas_of c.self.inside.table c.args.tenant).pieces) (sym counted) (c.self.invariant.0.pieces_within c.args.tenant))
