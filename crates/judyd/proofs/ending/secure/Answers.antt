use Rattle.std.proofs.Common.{inl, option_map, sym, subst}
use Rattle.judy_programs.specs.declared.socket.Hosted.TheVariants as hosted
use Rattle.judyd.specs.Obeying.{IsFinished}
use Rattle.judyd.proofs.ending.secure.Goals as goal

pub returns-clause-finished : goal.returns-clause-finished
returns-clause-finished c =
    let result = c.finish_hosted.result in
    subst (λ j. IsFinished j result.0 (option_map (λ s. s.now) result.1)) (sym c.in-Serve.is)
    (inl (hosted.Journal, c.finish_hosted.ensures.status, c.finish_hosted.ensures.text))
