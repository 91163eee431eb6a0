use Rattle.std.proofs.Common.{ap, sym, ◌∙◌, subst}
use Rattle.judy_bytes.specs.BytesArrays.{IsBytesArray, bytes_in}
use Rattle.judy_bytes.proofs.Changes.{none-map, none-content}
use Rattle.judy_bytes.proofs.array.JudyHS.new.Goals as goal

pub returns-clause-sound : goal.returns-clause-sound
returns-clause-sound g c = λ b. subst (IsBytesArray g.H.KeyHash.hashed b) (sym c.new.ensures.nothing) (none-map g.H.KeyHash.hashed b)

pub returns-clause-empty : goal.returns-clause-empty
returns-clause-empty g c = λ b. ap (bytes_in b) c.new.ensures.nothing ∙ none-content b
