use Rattle.std.proofs.Common.{[], ◌++◌, arith, ap, ◌∙◌, codes, length}
use Rattle.judy_many.specs.Warnings.{named_login, others_text}
use Rattle.judy_many.proofs.warnings.logins_line.Goals as goal

pub returns : goal.returns
returns c = record {
  head = c.add_others.ensures.head (codes "log-in refused: ") (c.add_name.ensures.head (codes "log-in refused: ") ([], c.begin-line.ensures));
  text = λ short.
      let head = ap length c.begin-line.ensures in
      let most = c.add_name.ensures.most short in
      c.add_others.ensures.fits (omega (arith, head, most))
      ∙ ap (λ l. l ++ others_text c.saturating_sub.result) (c.add_name.ensures.fits short (omega (arith, head)) ∙ ap (λ l. l ++ named_login c.args.name.now) c.begin-line.ensures)
      ∙ ap (λ n. (codes "log-in refused: " ++ named_login c.args.name.now) ++ others_text n) c.saturating_sub.ensures;
}
