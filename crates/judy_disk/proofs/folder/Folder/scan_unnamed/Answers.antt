use Rattle.judy_disk.proofs.Listed.{found_by}
use Rattle.judy_disk.proofs.folder.Folder.scan_unnamed.Goals as goal

pub returns : goal.returns
returns g c =
    let (names, all, numbers) = c.in_ok-names.ensures in
    found_by c.args.self.now.log.acts c.names.new.self.log.acts names c.in_ok-names.field-0 c.arrange.new.self.segments.items c.arrange.result all numbers
    c.arrange.ensures.same c.arrange.ensures.arranged c.arrange.ensures.refused
