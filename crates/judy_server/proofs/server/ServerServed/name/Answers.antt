use Rattle.std.proofs.Common.{◌≡◌, ◌<◌, ℕ, List, [], Option, Some, ap, length, subst, sym}
use Rattle.std.specs.Prelude.{map, slice_get, unwrap_or}
use Rattle.judy_table.specs.Seats.{AreRows}
use Rattle.judy_table.specs.Shown.{seen}
use Rattle.judy_table.specs.declared.tenant.Tenant.{Tenant}
use Rattle.judy_table.proofs.lemmas.Seats.{known-name}
use Rattle.judy_server.specs.Tally.{Tallied}
use Rattle.judy_server.proofs.Asked.{known_tenant}
use Rattle.judy_server.proofs.server.ServerServed.name.Goals as goal

pub name-requires : goal.name-requires
name-requires g c =
    subst (λ (t : Tallied). c.args.speaker.tenant < length t.held.tenants) (sym c.self.view_is)
    (known_tenant c.args.self.now.held.tenants (seen c.args.speaker) c.requires.known)

pub returns-clause-name : goal.returns-clause-name
returns-clause-name g c =
    sym (ap (λ (o : Option (List ℕ)). unwrap_or o [])
    (subst (λ (t : Tallied). slice_get (map (λ (r : Tenant). r.name) t.held.tenants) c.args.speaker.tenant ≡ Some c.name.result.now) c.self.view_is c.name.ensures))

pub returns-clause-spelled : goal.returns-clause-spelled
returns-clause-spelled g c =
    known-name c.args.self.now.held.tenants (seen c.args.speaker) c.name.result.now
    (subst (λ (t : Tallied). AreRows t.held.tenants) c.self.view_is c.rows_are_sound.ensures) c.requires.known
    (subst (λ (t : Tallied). slice_get (map (λ (r : Tenant). r.name) t.held.tenants) c.args.speaker.tenant ≡ Some c.name.result.now) c.self.view_is c.name.ensures)
