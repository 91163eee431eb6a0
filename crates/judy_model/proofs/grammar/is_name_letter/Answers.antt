use Rattle.std.proofs.Common.{◌≡◌, ℕ, ◌<◌, false, map, get_or, refl, ap, ◌∙◌, arith}
use Rattle.std.proofs.lemmas.List.FromFn.{get_or-map-range_with_len}
use Rattle.std.specs.List.{range_with_len}
use Rattle.judy_model.specs.Grammar.{is_name_byte}
use Rattle.judy_model.specs.declared.grammar.TheConstants.{NAME_LETTERS}
use Rattle.judy_model.proofs.grammar.is_name_letter.Goals as goal

-- the table has the answer for each byte
table_is : NAME_LETTERS ≡ map is_name_byte (range_with_len 0 256)
table_is = refl

read : (b : ℕ) → b < 256 → get_or NAME_LETTERS b false ≡ is_name_byte b
read b h = ap (λ t. get_or t b false) table_is ∙ get_or-map-range_with_len is_name_byte 0 256 b b false h (omega arith)

pub returns : goal.returns
returns c = rw c.from.ensures (read c.args.b (omega arith))
