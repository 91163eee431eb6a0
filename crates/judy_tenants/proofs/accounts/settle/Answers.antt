use Rattle.std.proofs.Common.{ap, refl}
use Rattle.judy_directory.specs.Places.{Stand}
use Rattle.judy_tenants.specs.declared.accounts.Account.{Account}
use Rattle.judy_tenants.proofs.Counts.{settled, settled-others}
use Rattle.judy_tenants.proofs.accounts.settle.Goals as goal

pub returns-clause-entries : goal.returns-clause-entries
returns-clause-entries c =
    settled (λ (a : Account). a.entries) c.args.accounts.now c.args.tenant c.place-place.result _
    (record { entries = 0; pieces = 0 }) c.args.before.entries c.args.after.entries
    c.before-2.inside.entries c.after.inside.entries c.place-place.ensures c.requires.known c.requires.entries refl
    (ap (λ (p : Stand). p.entries) c.before-2.view_is) (ap (λ (p : Stand). p.entries) c.after.view_is)

pub returns-clause-pieces : goal.returns-clause-pieces
returns-clause-pieces c =
    settled (λ (a : Account). a.pieces) c.args.accounts.now c.args.tenant c.place-place.result _
    (record { entries = 0; pieces = 0 }) c.args.before.pieces c.args.after.pieces
    c.before-2.inside.pieces c.after.inside.pieces c.place-place.ensures c.requires.known c.requires.pieces refl
    (ap (λ (p : Stand). p.pieces) c.before-2.view_is) (ap (λ (p : Stand). p.pieces) c.after.view_is)

pub returns-clause-other_entries : goal.returns-clause-other_entries
returns-clause-other_entries c = settled-others (λ (a : Account). a.entries) c.args.accounts.now c.args.tenant c.place-place.result _ c.place-place.ensures

pub returns-clause-other_pieces : goal.returns-clause-other_pieces
returns-clause-other_pieces c = settled-others (λ (a : Account). a.pieces) c.args.accounts.now c.args.tenant c.place-place.result _ c.place-place.ensures
