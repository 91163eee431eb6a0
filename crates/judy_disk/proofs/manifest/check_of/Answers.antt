use Rattle.std.proofs.Common.{◌∙◌, ap}
use Rattle.std.specs.Int.{w64, to_be_bytes}
use Rattle.hex.specs.Hex.{encode_lower}
use Rattle.judy_disk.specs.Manifests.{check_of}
use Rattle.judy_disk.proofs.manifest.check_of.Goals as goal

pub returns : goal.returns
unfolding check_of
returns c = c.digits_of.ensures ∙ ap encode_lower (c.to_be_bytes.ensures ∙ ap (to_be_bytes w64) c.number_after-number.ensures)
