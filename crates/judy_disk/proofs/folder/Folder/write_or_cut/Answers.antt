use Rattle.std.proofs.Common.{rules}
use Rattle.judy_disk.proofs.Anew.{cut_instead}
use Rattle.judy_disk.proofs.folder.Folder.write_or_cut.Goals as goal

pub returns-then-is_full : goal.returns-then-is_full
returns-then-is_full g c = cut_instead c.args.number c.args.len _ _ _ c.in-Err.fault c.cut.result (search rules) c.in-Err.ensures c.cut.ensures
