use Rattle.std.proofs.Common.{rules, ◌≡◌}
use Rattle.std.specs.Prelude.{Some}
use Rattle.judy_upkeep.specs.Scanning.{lack_upto}
use Rattle.judy_upkeep.proofs.Scanned.{unfit, unfound}
use Rattle.judy_upkeep.proofs.repairing.scan.Goals as goal

pub returns-in_err-found : goal.returns-in_err-found
returns-in_err-found g c =
    unfound c.in-Some.manifest c.in_ok-manifest.field-0 _ _ _ c.in_err-found.field-0.0 c.from_residual-in_err-found.result c.in_ok-manifest.ensures
    c.in-Some.is c.in_err-found.ensures c.from_residual-in_err-found.ensures

pub returns-in-Some-lack : goal.returns-in-Some-lack
returns-in-Some-lack g c =
    let lacks : lack_upto c.in-Some.manifest c.in_ok-found.found ≡ Some c.in-Some-lack.lack = search rules in
    unfit c.in-Some.manifest c.in_ok-manifest.field-0 c.in_ok-found.found c.in-Some-lack.lack _ _ _ c.lacking.result c.in_ok-manifest.ensures c.in-Some.is
    c.in_ok-found.ensures lacks c.lacking.ensures
