use Rattle.std.proofs.Common.{◌∙◌, ap, take}
use Rattle.judy_packing.specs.Packing.{pack}
use Rattle.judy_bytes.proofs.hash.Sha256HashKeyHash.word.Goals as goal

pub returns : goal.returns
returns c = c.pack.ensures ∙ ap (λ d. pack (take 8 d)) c.digest-digest.ensures
