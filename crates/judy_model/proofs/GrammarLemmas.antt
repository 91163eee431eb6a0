-- A line spells its computed request, and no other.
use Rattle.std.proofs.Common.{ap, ◌∙◌}
use Rattle.judy_model.specs.Reading.{request_of_fields, SpellsAtMostOne}
use Rattle.judy_model.specs.Grammar.{fields_of}
use Rattle.judy_model.proofs.lemmas.FieldLemmas.{HasFields-fields_of, fields_of-HasFields}
use Rattle.judy_model.proofs.CommandLemmas.{Spell-request_of_fields, request_of_fields-Spell}

-- the fields and the request of a line are those computed
pub spells_at_most_one : SpellsAtMostOne
spells_at_most_one line request = (
  λ (fields, has, spell). ap request_of_fields (HasFields-fields_of line fields has) ∙ Spell-request_of_fields fields request spell,
  λ h. (fields_of line, fields_of-HasFields line, request_of_fields-Spell (fields_of line) request h),
)
