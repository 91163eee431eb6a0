use Rattle.std.proofs.Common.{sym}
use Rattle.std.specs.Prelude.{codes}
use Rattle.judy_upkeep.proofs.Words.{other_text, none_of_4}
use Rattle.judy_upkeep.proofs.kinds.kind_named.Goals as goal

pub returns : goal.returns
returns c = sym (none_of_4 _ _ _ _ _ _ _ _
    (other_text c.args.word.now (codes "J1") _ c.as_slice.ensures c.if-eq.ensures)
    (other_text c.args.word.now (codes "JL") _ c.as_slice-2.ensures c.if-eq-2.ensures)
    (other_text c.args.word.now (codes "JSL") _ c.as_slice-3.ensures c.if-eq-3.ensures)
    (other_text c.args.word.now (codes "JHS") _ c.as_slice-4.ensures c.if-eq-4.ensures))
