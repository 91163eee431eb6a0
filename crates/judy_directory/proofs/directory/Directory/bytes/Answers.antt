use Rattle.std.proofs.Common.{ap, sym, ◌∙◌}
use Rattle.judy_directory.specs.Lengths.{name_bytes}
use Rattle.judy_directory.proofs.Lengths.{bytes-recent}
use Rattle.judy_directory.proofs.directory.Directory.bytes.Goals as goal

pub returns : goal.returns
returns c =
    c.bytes.ensures ∙ sym (bytes-recent c.self.inside.recent c.self.inside.names.0 c.self.invariant)
    ∙ ap name_bytes (ap (λ v. v.0) c.self.view_is)
