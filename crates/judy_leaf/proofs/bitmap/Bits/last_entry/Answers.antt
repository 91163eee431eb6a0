use Rattle.std.proofs.Common.{sym, ◌∙◌}
use Rattle.judy_leaf.specs.Bytes.{bitmap_entries}
use Rattle.judy_leaf.proofs.BitmapLaws.{entries-sorted}
use Rattle.judy_leaf.proofs.Founds.{no-last, last-value, last-entry}
use Rattle.judy_leaf.proofs.bitmap.Bits.last_entry.Goals as goal

pub returns-in_default : goal.returns-in_default
returns-in_default c = no-last (bitmap_entries c.args.self.values c.args.self.words.now) c.args.x
    (entries-sorted c.args.self.values c.args.self.words.now) (sym c.in_default.is ∙ c.last.ensures)

pub unreachable-requires : goal.unreachable-requires
unreachable-requires c =
    last-value (bitmap_entries c.args.self.values c.args.self.words.now) c.args.x (entries-sorted c.args.self.values c.args.self.words.now)
    c.in-Some.key (sym c.in-Some.is ∙ c.last.ensures) (sym c.get.ensures ∙ c.in-None.is)

pub returns : goal.returns
returns c =
    last-entry (bitmap_entries c.args.self.values c.args.self.words.now) c.args.x (entries-sorted c.args.self.values c.args.self.words.now)
    c.in-Some.key c.in-Some-get.value (sym c.in-Some.is ∙ c.last.ensures) (sym c.get.ensures ∙ c.in-Some-get.is)
