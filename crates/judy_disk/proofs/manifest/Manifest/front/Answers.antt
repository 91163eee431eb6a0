use Rattle.std.proofs.Common.{arith, append_assoc}
use Rattle.std.proofs.lemmas.Grind.{common_steps}
use Rattle.judy_disk.specs.Manifests.{front_of}
use Rattle.judy_disk.proofs.manifest.Manifest.front.Goals as goal

pub returns-clause-text : goal.returns-clause-text
unfolding front_of
returns-clause-text c =
    grind (arith, common_steps, append_assoc, c.put.ensures, c.put_number.ensures.text, c.put_number-2.ensures.text, c.new-text.ensures)
