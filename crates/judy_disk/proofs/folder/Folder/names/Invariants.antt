use Rattle.std.proofs.Common.{◌≡◌, ℕ, List}
use Rattle.std.specs.Io.Iter.{read_dir_left}
use Rattle.judy_disk.specs.Listings.{HasNumbers, listed}
use Rattle.judy_disk.proofs.folder.Folder.names.Given as goal

-- the names so far, and the numbers in them
abbrev pub invariant-loop-names : goal.invariant-loop-names
invariant-loop-names g l = (names : List (List ℕ)) × (l.self.log.acts ≡ listed l.fn.self.log.acts names) × HasNumbers names l.names

abbrev pub decreases-loop-names : goal.decreases-loop-names
decreases-loop-names g l = read_dir_left l.listing
