use Rattle.std.proofs.Common.{◌∙◌, ap, sym}
use Rattle.std.specs.Prelude.{option_map}
use Rattle.std.specs.Str.{bytes_eq}
use Rattle.judy_many.specs.Kicks.{speaks_as}
use Rattle.judy_many.proofs.kicks.speaks_as.Goals as goal

pub returns-in-Some : goal.returns-in-Some
returns-in-Some g c =
    c.eq.ensures ∙ ap (λ n. bytes_eq n c.args.name.now) c.name.ensures.name
    ∙ ap (λ s. speaks_as (g.S.Served.seen c.args.service.now).names c.args.name.now (option_map g.S.Served.who s)) (sym c.in-Some.is)
