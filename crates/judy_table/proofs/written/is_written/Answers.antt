use Rattle.std.proofs.Common.{rules, ◌≡◌, ◌∙◌, ap, is_some, Option, Some, None, option_map, refl}
use Rattle.judy_table.proofs.written.is_written.Goals as goal

same_is_some : {A B : Type 0} (f : A → B) (o : Option A) → is_some o ≡ is_some (option_map f o)
same_is_some f None = refl
same_is_some f (Some x) = refl

pub returns : goal.returns
returns c = search rules ∙ same_is_some _ c.read_written.result ∙ ap is_some c.read_written.ensures
