use Rattle.std.proofs.Common.{rules, ◌<◌}
use Rattle.judy_disk.specs.Rewriting.{KeepsTorn}
use Rattle.judy_disk.proofs.Anew.{kept_failed, kept_named, kept_none}
use Rattle.judy_disk.proofs.Listed.{failed}
use Rattle.judy_disk.proofs.folder.Folder.keep_torn.Goals as goal

pub returns-then-torn-eq0 : goal.returns-then-torn-eq0
returns-then-torn-eq0 g c = kept_none c.args.number c.args.len c.in_ok-torn.torn _ _ c.in_ok-torn.ensures.torn (search rules)

pub returns-in_err-_file : goal.returns-in_err-_file
returns-in_err-_file g c =
    let some : 0 < c.in_ok-torn.torn = search rules in
    failed c.from_residual-in_err-_file.result c.in_err-_file.field-0.0
    (λ r. KeepsTorn c.args.number c.args.len r c.args.self.now.log.acts c.try_copy.new.self.log.acts) c.from_residual-in_err-_file.ensures
    (kept_failed c.args.number c.args.len c.in_ok-torn.torn _ _ _ c.in_err-_file.field-0.0 c.in_ok-torn.ensures.torn some c.in_err-_file.ensures)

pub returns : goal.returns
returns g c =
    let some : 0 < c.in_ok-torn.torn = search rules in
    kept_named c.args.number c.args.len c.in_ok-torn.torn _ _ _ _ c.secure_name.result c.in_ok-torn.ensures.torn some c.in_ok-_file.ensures c.secure_name.ensures
