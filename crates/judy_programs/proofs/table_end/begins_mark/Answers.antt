use Rattle.std.proofs.Common.{sym, ◌∙◌, drop, length}
use Rattle.std.proofs.lemmas.Bool.Decides.{Decides-eqb}
use Rattle.std.proofs.lemmas.Slice.Eq.{starts_is}
use Rattle.judy_programs.proofs.table_end.begins_mark.Goals as goal

pub returns : goal.returns
returns c =
    let both = starts_is Decides-eqb c.as_slice.result.now c.args.rest.now c.starts_with.result c.starts_with.ensures.value in (
      λ yes. (drop (length c.args.rest.now) c.as_slice.result.now, sym (both.0 yes) ∙ c.as_slice.ensures),
      λ begun. both.1 begun.0 (c.as_slice.ensures ∙ sym begun.1),
    )
