use Rattle.std.proofs.Common.{[], ap, subst, sym, ◌∙◌}
use Rattle.std.proofs.lemmas.Bool.{or_parts}
use Rattle.judy_many.specs.Nets.{DidLog}
use Rattle.judy_many.specs.Warnings.{is_due, requests_text, warning_acts}
use Rattle.judy_many.proofs.Living.{then_log}
use Rattle.judy_many.proofs.Warned.{untold, warned_by}
use Rattle.judy_many.proofs.warnings.Warnings.tell.Goals as goal

pub returns-then-not-are_owed : goal.returns-then-not-are_owed
returns-then-not-are_owed g c =
    let none = or_parts _ _ (sym c.are_owed.ensures ∙ c.if-not-are_owed.true) in
    untold c.args.self.now (g.S.Shows.last c.args.service.now) (g.S.Shows.refused c.args.service.now) (g.S.Shows.short c.args.service.now) (g.N.Network.log c.args.network.now) none.0 none.1

pub returns : goal.returns
returns g c =
    warned_by c.args.self.now c.tell.new.told c.tell-2.new.told c.seconds-now.result c.logins_line-line.result.items
    (g.N.Network.log c.args.network.now) (g.N.Network.log c.tell.new.network) (g.N.Network.log c.tell-2.new.network) c.last_refused.ensures c.refused_logins-logins.ensures c.refused_requests-requests.ensures
    (rw c.saturating_sub-more.ensures at c.logins_line-line.ensures)
    (rw c.as_slice.ensures.value at (then_log _ _ _ [] _ c.seconds-now.ensures c.tell.ensures.log))
    (subst (λ l. DidLog (g.N.Network.log c.tell.new.network) (warning_acts (is_due c.args.self.now.requests c.refused_requests-requests.result c.seconds-now.result) l) (g.N.Network.log c.tell-2.new.network))
    (c.as_slice-2.ensures.value ∙ c.requests_line-line.ensures ∙ ap requests_text c.saturating_sub.ensures) c.tell-2.ensures.log)
    c.tell.ensures.told c.tell-2.ensures.told
