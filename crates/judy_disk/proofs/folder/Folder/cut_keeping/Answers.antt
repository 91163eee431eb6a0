use Rattle.judy_disk.specs.Rewriting.{WritesAnew}
use Rattle.judy_disk.proofs.Listed.{failed}
use Rattle.judy_disk.proofs.folder.Folder.cut_keeping.Goals as goal

pub returns-in_err-write_anew : goal.returns-in_err-write_anew
returns-in_err-write_anew g c =
    failed c.from_residual.result c.in_err-write_anew.field-0.0
    (λ r. WritesAnew c.args.number c.args.len r c.args.self.now.log.acts c.write_anew.new.self.log.acts) c.from_residual.ensures
    c.in_err-write_anew.ensures
