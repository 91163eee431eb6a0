-- the pieces of the arrays so far
use Rattle.std.proofs.Common.{◌≡◌, take}
use Rattle.judy_model.specs.Pieces.{string_pieces}
use Rattle.judy_model.specs.Tenant.{pieces_in}
use Rattle.judy_reference.proofs.store.directory.Directory+OwnedKey.pieces.Given as goal

abbrev pub invariant-loop-array : goal.invariant-loop-array
invariant-loop-array l = l.pieces ≡ pieces_in string_pieces (take l.array-index l.array-items)
