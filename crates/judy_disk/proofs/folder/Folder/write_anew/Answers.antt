use Rattle.judy_disk.specs.Rewriting.{WritesAnew}
use Rattle.judy_disk.proofs.Anew.{anew_failed, anew_named, anew_unnamed}
use Rattle.judy_disk.proofs.Listed.{failed}
use Rattle.judy_disk.proofs.folder.Folder.write_anew.Goals as goal

pub returns-in-Err : goal.returns-in-Err
returns-in-Err g c = anew_failed c.args.number c.args.len _ _ _ _ c.in-Err.fault c.remove-removed.result c.in_ok-written.ensures c.in-Err.ensures c.remove-removed.ensures

pub returns-in_err-secure_name : goal.returns-in_err-secure_name
returns-in_err-secure_name g c =
    failed c.from_residual-in_err-secure_name.result c.in_err-secure_name.field-0.0
    (λ r. WritesAnew c.args.number c.args.len r c.args.self.now.log.acts c.secure_name.new.self.log.acts) c.from_residual-in_err-secure_name.ensures
    (anew_unnamed c.args.number c.args.len _ _ _ _ c.in_err-secure_name.field-0.0 c.in_ok-written.ensures c.in_default.ensures c.in_err-secure_name.ensures)

pub returns : goal.returns
returns g c = anew_named c.args.number c.args.len _ _ _ _ c.in_ok-written.ensures c.in_default.ensures c.in_ok-secure_name.ensures
