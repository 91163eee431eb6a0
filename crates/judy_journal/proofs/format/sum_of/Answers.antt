use Rattle.std.proofs.Common.{◌∙◌, ap}
use Rattle.std.specs.Int.{w64, to_be_bytes}
use Rattle.hex.specs.Hex.{encode_lower}
use Rattle.judy_journal.specs.Journals.{number_after, sum_of}
use Rattle.judy_journal.proofs.format.sum_of.Goals as goal

pub returns : goal.returns
unfolding sum_of
returns c =
    c.digits_of.ensures ∙ ap encode_lower (c.to_be_bytes.ensures ∙ ap (to_be_bytes w64) (c.number_after-number.ensures
    ∙ ap (λ n. number_after n c.args.text.now) (c.number_after.ensures ∙ ap (number_after 0) c.as_slice.ensures)))
