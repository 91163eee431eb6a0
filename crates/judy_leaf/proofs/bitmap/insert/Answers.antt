use Rattle.std.proofs.Common.{◌≡◌, ◌%◌, ◌+◌, false, refl, sym, ◌∙◌, ap, arith}
use Rattle.judy_bitmap.specs.ByteSets.{is_member, with_byte}
use Rattle.judy_leaf.specs.Linear.{leaf_count}
use Rattle.judy_leaf.specs.Bytes.{bitmap_bytes}
use Rattle.judy_leaf.proofs.BitmapLaws.{has_key-shared, rank_absent, insertion, bits-few}
use Rattle.judy_leaf.proofs.WordBits.{same-bytes}
use Rattle.judy_leaf.proofs.bitmap.insert.Goals as goal

pub open_value-requires-clause-rank : goal.open_value-requires-clause-rank
open_value-requires-clause-rank c =
    let words = c.args.words.now in
    let none : is_member (bitmap_bytes words) (c.args.key % 256) ≡ false = sym (has_key-shared c.args.values words c.requires.leaf
    c.args.key c.requires.shared) ∙ c.requires.absent in
    omega (arith, c.requires.leaf.count, rank_absent c.args.values words c.requires.leaf (c.args.key % 256) (omega arith) none)

pub overflow_add-count : goal.overflow_add-count
overflow_add-count c = omega (arith, bits-few c.args.values c.args.words.now c.requires.leaf)

pub returns : goal.returns
returns c =
    let words = c.args.words.now in
    let mid = c.open_value.new.words in
    let byte = c.args.key % 256 in
    let done = insertion c.args.values words mid c.write_member.new.words c.requires.leaf c.args.key
    (bitmap_bytes words) (with_byte (bitmap_bytes words) byte) _ (leaf_count words) (leaf_count words + 1)
    (record {
      was = refl;
      counted = c.requires.leaf.count;
      head = record { word = c.open_value.ensures.head };
      number = c.write_member.ensures.count;
      shared = c.write_member.ensures.shared;
      bits = c.write_member.ensures.bits ∙ ap (λ s. with_byte s byte) (same-bytes words mid c.open_value.ensures.head);
      rest = c.write_member.ensures.rest;
      moved = c.open_value.ensures.values;
    })
    c.requires.shared c.args.value c.ranges.value.fits c.requires.absent (rw (c.write_member.auto.words, c.open_value.auto.words)
    c.requires.room) (c.write_member.auto.words ∙ c.open_value.auto.words) refl refl refl in
    record { leaf = done.0; entries = done.1; count = c.write_member.ensures.count }
