use Rattle.std.proofs.Common.{◌≡◌, ◌≢◌, ◌-◌, ◌%◌, List, ℕ, Some, is_some, ap, sym, ◌∙◌, refl, subst}
use Rattle.judy_arena.specs.Blocks.{words_of}
use Rattle.judy_model.specs.Contents.{word_order, value_of}
use Rattle.judy_leaf.specs.Bytes.{leaf_shared, bitmap_entries}
use Rattle.judy_leaf.proofs.BitmapLaws.{find-other, bits-other}
use Rattle.judy_leaf.proofs.bitmap_leaf.BitsBlock.insert.Goals as goal

pub returns-then-key-leaf-clause-insertion : goal.returns-then-key-leaf-clause-insertion
returns-then-key-leaf-clause-insertion c =
    let f : List ℕ = words_of c.args.arena.now.blocks c.args.self.block in
    let other : c.args.key - c.args.key % 256 ≢ leaf_shared f = subst (λ l. c.args.key - c.args.key % 256 ≢ leaf_shared l)
    c.words.ensures c.if-key-leaf.true in (
      ap is_some (find-other c.args.self.values f c.requires.leaf.0 c.args.key other),
      (bits-other c.args.self.values f c.requires.leaf.0 c.requires.leaf.1 c.args.key other, λ e. absurd (let h = e in cc)),
      (refl, refl),
    )

pub returns-in-Some-clause-insertion : goal.returns-in-Some-clause-insertion
returns-in-Some-clause-insertion c = (
  subst (λ l. value_of word_order (bitmap_entries c.args.self.values l) c.args.key ≡ Some c.in-Some.was)
      c.words.ensures (sym c.get.ensures ∙ c.in-Some.is),
  (refl, refl),
)

pub add-requires-clause-absent : goal.add-requires-clause-absent
add-requires-clause-absent c = ap (λ l. is_some (value_of word_order (bitmap_entries c.args.self.values l) c.args.key))
    (sym c.words.ensures) ∙ ap is_some (sym c.get.ensures ∙ c.in-None.is)
