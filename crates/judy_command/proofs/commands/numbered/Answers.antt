use Rattle.std.proofs.Common.{◌≡◌, ◌∙◌, ap, Some, Option, ap₂}
use Rattle.std.specs.Prelude.{pos}
use Rattle.clap.specs.Words.{Rule, rule_of}
use Rattle.clap.specs.declared.builder.value_parser.ValueParser.{ValueParser}
use Rattle.clap.specs.declared.builder.value_parser.ValueParser.TheVariants as vp
use Rattle.judy_command.proofs.commands.numbered.Goals as goal

pub returns-clause-rule : goal.returns-clause-rule
returns-clause-rule c =
    let given = c.value_parser-2.ensures.given in
    let made : c.range.result ≡ vp.Signed (pos 1) (pos 4294967295) = rw c.value_parser.ensures at c.range.ensures in
    let is_q : given.0 ≡ vp.Signed (pos 1) (pos 4294967295) = given.2 ∙ made in
    let parser_is : c.value_parser-2.result.value_parser ≡ Some (vp.Signed (pos 1) (pos 4294967295)) = given.1 ∙ ap Some is_q in
    ap rule_of c.value_parser-2.ensures.others ∙ ap₂ (λ (a : Rule) (p : Option ValueParser). record a { parser = p }) c.valued.ensures.rule parser_is
