use Rattle.std.proofs.Common.{rules}
use Rattle.judy_disk.specs.declared.names.Place.TheVariants as place
use Rattle.judy_disk.proofs.Pieces.{torn_fits}
use Rattle.judy_disk.proofs.folder.Folder.torn_len.Goals as goal

pub returns-clause-fits : goal.returns-clause-fits
returns-clause-fits g c =
    torn_fits (place.Segment c.args.number) c.args.len c.saturating_sub-rest.result c.read_before_zeros.result _ _ c.read_before_zeros.ensures (search rules)
