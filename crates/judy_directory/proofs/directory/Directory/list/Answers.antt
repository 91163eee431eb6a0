use Rattle.std.proofs.Common.{ap, ◌∙◌}
use Rattle.std.specs.FinMap as finite
use Rattle.judy_directory.proofs.RecentPlaces.{same-keys}
use Rattle.judy_directory.proofs.directory.Directory.list.Goals as goal

pub returns-clause-all : goal.returns-clause-all
returns-clause-all c = λ key.
    c.list.ensures.all key
    ∙ same-keys c.self.inside.recent c.self.inside.names.0 key c.self.invariant
    ∙ ap (λ m. finite.contains_key m key) (ap (λ v. v.0) c.self.view_is)
