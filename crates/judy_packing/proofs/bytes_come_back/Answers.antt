use Rattle.judy_packing.proofs.lemmas.Packs.{bytes-back}
use Rattle.judy_packing.proofs.bytes_come_back.Goals as goal

pub returns : goal.returns
returns c = bytes-back
