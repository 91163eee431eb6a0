use Rattle.std.proofs.Common.{◌∙◌, sym, arith}
use Rattle.judy_many.proofs.Recording.{is_short}
use Rattle.judy_upkeep.proofs.output.is_short.Goals as goal

pub returns-in-None : goal.returns-in-None
returns-in-None c = λ e. is_short c.args.tenant.now c.args.request.now (sym c.name_ok.ensures ∙ c.if-not-name_ok.false) c.in-None.ensures
    (omega (arith, c.if-request-gt-LINE_LIMIT.false))
