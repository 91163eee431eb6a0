use Rattle.std.proofs.Common.{rules, not, ap, ◌∙◌}
use Rattle.arrayvec.proofs.ArrayVecLemmas.{filter-from_retain}
use Rattle.judy_server.specs.Tally.{is_among, without_names}
use Rattle.judy_server.proofs.absent.Absent.forget.Goals as goal

pub returns : goal.returns
returns c =
    filter-from_retain _ (λ name. not (is_among c.args.left.now name)) _ (λ x b f y said. search rules) _ _ c.retain.ensures.filtered
    ∙ ap (λ names. without_names names c.args.left.now) c.self.view_is
