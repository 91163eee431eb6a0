use Rattle.judy_leaf.proofs.WordBits.{no-values-opened}
use Rattle.judy_leaf.proofs.bitmap.open_value.Goals as goal

pub returns-else-values-clause-values : goal.returns-else-values-clause-values
returns-else-values-clause-values c =
    no-values-opened c.args.values c.args.count _ c.args.value c.args.words.now c.if-values.false (c.requires.plain c.if-values.false) c.requires.rank
