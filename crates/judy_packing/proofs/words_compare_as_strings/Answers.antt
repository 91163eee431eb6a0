use Rattle.judy_packing.proofs.lemmas.Packs.{pack-order}
use Rattle.judy_packing.proofs.words_compare_as_strings.Goals as goal

pub returns : goal.returns
returns c = pack-order 8
