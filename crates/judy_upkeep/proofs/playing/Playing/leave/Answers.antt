use Rattle.std.proofs.Common.{◌∙◌, Some, None, ap, refl, sym}
use Rattle.judy_upkeep.specs.Tenants.{with_name}
use Rattle.judy_upkeep.proofs.playing.Playing.leave.Goals as goal

pub returns-in_default-clause-left : goal.returns-in_default-clause-left
returns-in_default-clause-left g c = record {
  named = sym c.if-not-name_ok.ensures;
  number = None;
  stands = c.in_default.ensures;
  left = (refl, refl);
}

pub returns-clause-left : goal.returns-clause-left
returns-clause-left g c = record {
  named = sym c.if-not-name_ok.ensures;
  number = Some c.in-Some.tenant;
  stands = c.in-Some.ensures;
  left = (c.in_ok-free_all.ensures.freed, c.leave.ensures ∙ ap (λ v. with_name v c.in-Some.tenant None) c.free_all.ensures.names);
}
