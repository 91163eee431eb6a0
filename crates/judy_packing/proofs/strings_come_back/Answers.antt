use Rattle.judy_packing.proofs.lemmas.Packs.{bytes-pack}
use Rattle.judy_packing.proofs.strings_come_back.Goals as goal

pub returns : goal.returns
returns c = bytes-pack 8
