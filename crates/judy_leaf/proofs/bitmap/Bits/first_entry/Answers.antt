use Rattle.std.proofs.Common.{sym, ◌∙◌}
use Rattle.judy_leaf.specs.Bytes.{bitmap_entries}
use Rattle.judy_leaf.proofs.BitmapLaws.{entries-sorted}
use Rattle.judy_leaf.proofs.Founds.{no-first, first-value, first-entry}
use Rattle.judy_leaf.proofs.bitmap.Bits.first_entry.Goals as goal

pub returns-in_default : goal.returns-in_default
returns-in_default c = no-first (bitmap_entries c.args.self.values c.args.self.words.now) c.args.x
    (entries-sorted c.args.self.values c.args.self.words.now) (sym c.in_default.is ∙ c.first.ensures)

pub unreachable-requires : goal.unreachable-requires
unreachable-requires c =
    first-value (bitmap_entries c.args.self.values c.args.self.words.now) c.args.x (entries-sorted c.args.self.values c.args.self.words.now)
    c.in-Some.key (sym c.in-Some.is ∙ c.first.ensures) (sym c.get.ensures ∙ c.in-None.is)

pub returns : goal.returns
returns c =
    first-entry (bitmap_entries c.args.self.values c.args.self.words.now) c.args.x (entries-sorted c.args.self.values c.args.self.words.now)
    c.in-Some.key c.in-Some-get.value (sym c.in-Some.is ∙ c.first.ensures) (sym c.get.ensures ∙ c.in-Some-get.is)
