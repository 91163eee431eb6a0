-- The entries of leaves whose words are at hand.
use Rattle.std.specs.Prelude.{ℕ, []}
use Rattle.judy_model.specs.Contents.{Entries}
use Rattle.judy_leaf.specs.Linear.{linear_entries}
use Rattle.judy_leaf.specs.Bytes.{bitmap_entries}
use Rattle.judy_leaf.specs.declared.linear.Linear.{Linear}
use Rattle.judy_leaf.specs.declared.bitmap.Bits.{Bits}
use Rattle.judy_leaf.specs.declared.opened.Opened.{Opened}
use Rattle.judy_leaf.specs.declared.opened.Opened.TheVariants as opened

-- the entries of a linear leaf
abbrev pub of_linear : Linear → Entries ℕ
of_linear leaf = linear_entries leaf.values leaf.words.now

-- the entries of a bitmap leaf or a full leaf
abbrev pub of_bits : Bits → Entries ℕ
of_bits leaf = bitmap_entries leaf.values leaf.words.now

-- the entries of an opened leaf
abbrev pub of_leaf : Opened → Entries ℕ
of_leaf opened.Nothing = []
of_leaf (opened.Linear leaf) = of_linear leaf
of_leaf (opened.Bits leaf) = of_bits leaf
