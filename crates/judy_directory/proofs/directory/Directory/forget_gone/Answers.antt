use Rattle.std.proofs.Common.{ap, ◌∙◌}
use Rattle.std.specs.FinMap.{retain_keys}
use Rattle.judy_directory.specs.Kinds.{is_staying}
use Rattle.judy_directory.specs.Recent.{with_recent, without_gone, has_recent}
use Rattle.judy_directory.proofs.RecentPlaces.{recent-gone, has-gone}
use Rattle.judy_directory.proofs.directory.Directory.forget_gone.Goals as goal

pub invariant_of-self : goal.invariant_of-self
invariant_of-self c =
    let gone = c.args.gone.now in
    ap (λ r. has_recent r c.forget_gone.new.self.0) c.drop_gone_recent.ensures
    ∙ ap (has_recent (without_gone gone c.self.inside.recent)) c.forget_gone.ensures.places
    ∙ has-gone gone c.self.inside.names.0 c.self.inside.recent c.self.invariant

pub returns-clause-places : goal.returns-clause-places
returns-clause-places c =
    let gone = c.args.gone.now in
    ap (λ r. with_recent r c.forget_gone.new.self.0) c.drop_gone_recent.ensures
    ∙ ap (with_recent (without_gone gone c.self.inside.recent)) c.forget_gone.ensures.places
    ∙ recent-gone gone c.self.inside.names.0 c.self.inside.recent
    ∙ ap (λ m. retain_keys m (is_staying gone)) (ap (λ v. v.0) c.self.view_is)
