use Rattle.std.proofs.Common.{arith, append_assoc, ap}
use Rattle.std.proofs.lemmas.Grind.{common_steps}
use Rattle.judy_disk.specs.Manifests.{check_of, text_of}
use Rattle.judy_disk.proofs.manifest.Manifest.text.Goals as goal

pub returns : goal.returns
unfolding text_of
returns c =
    grind (arith, common_steps, append_assoc, c.put-2.ensures, c.put.ensures, c.check_of-check.ensures, c.as_slice.ensures.value, ap check_of c.front-text.ensures.text, ap check_of c.as_slice.ensures.value, c.front-text.ensures.text)
