-- The counts of a place: the numbers of entries and pieces of its array.
use Rattle.std.specs.Prelude.{◌≡◌, ℕ, length}
use Rattle.judy_model.specs.Contents.{Entries}
use Rattle.judy_model.specs.Pieces.{pieces_of}
use Rattle.judy_directory.specs.Places.{Stand}

-- the counts of the place are those of an array with these entries
pub record HasCounts {K : Type 0} (size : K → ℕ) (l : Entries K) (p : Stand) : Type 0 where
  pub entries : p.entries ≡ length l
  pub pieces : p.pieces ≡ pieces_of size l
