use Rattle.std.proofs.Common.{◌≡◌, ◌%◌, true, Some, is_some, sym, ap, ◌∙◌, arith}
use Rattle.judy_leaf.specs.Bytes.{bitmap_entries}
use Rattle.judy_leaf.proofs.OfWords.{has_key}
use Rattle.judy_leaf.proofs.BitmapLaws.{rank_of-other, rank_of-shared_present, rank_of-shared_absent, find-other, has_key-shared, rank-within}
use Rattle.judy_leaf.proofs.WordBits.{byte-at-rank}
use Rattle.judy_leaf.proofs.bitmap.Bits.find.Goals as goal

pub returns-then-key-self-clause-rank : goal.returns-then-key-self-clause-rank
returns-then-key-self-clause-rank c = sym (rank_of-other _ c.args.self.words.now c.args.self.sound c.args.key c.if-key-self.true)

pub returns-then-key-self-clause-absent : goal.returns-then-key-self-clause-absent
returns-then-key-self-clause-absent c = ap is_some (find-other _ c.args.self.words.now c.args.self.sound c.args.key c.if-key-self.true)

pub returns-then-has_in-clause-rank : goal.returns-then-has_in-clause-rank
returns-then-has_in-clause-rank c =
    sym
    (rank_of-shared_present _ c.args.self.words.now c.args.self.sound c.args.key c.if-key-self.false (sym (rw (← c.bit_words.ensures.same) c.if-has_in.ensures))
    ∙ ap Some (sym c.rank.ensures.rank))

pub returns-then-has_in-clause-present : goal.returns-then-has_in-clause-present
returns-then-has_in-clause-present c = has_key-shared c.args.self.values c.args.self.words.now c.args.self.sound c.args.key c.if-key-self.false
    ∙ sym (rw (← c.bit_words.ensures.same) c.if-has_in.ensures)

pub returns-then-has_in-clause-within : goal.returns-then-has_in-clause-within
returns-then-has_in-clause-within c =
    let there : has_key (bitmap_entries c.args.self.values c.args.self.words.now) c.args.key ≡ true = has_key-shared c.args.self.values
    c.args.self.words.now c.args.self.sound c.args.key c.if-key-self.false ∙ sym (rw (← c.bit_words.ensures.same) c.if-has_in.ensures) in
    omega (arith, c.rank.ensures.rank, rank-within c.args.self.values c.args.self.words.now c.args.self.sound c.args.key there, c.args.self.sound.count)

pub returns-else-has_in-clause-rank : goal.returns-else-has_in-clause-rank
returns-else-has_in-clause-rank c =
    sym (rank_of-shared_absent _ c.args.self.words.now c.args.self.sound c.args.key c.if-key-self.false (sym (rw (← c.bit_words.ensures.same) c.if-has_in.ensures)))

pub returns-else-has_in-clause-absent : goal.returns-else-has_in-clause-absent
returns-else-has_in-clause-absent c = has_key-shared c.args.self.values c.args.self.words.now c.args.self.sound c.args.key c.if-key-self.false
    ∙ sym (rw (← c.bit_words.ensures.same) c.if-has_in.ensures)

pub returns-then-has_in-clause-at : goal.returns-then-has_in-clause-at
returns-then-has_in-clause-at c =
    rw c.rank.ensures.rank (byte-at-rank c.args.self.words.now (c.args.key % 256) (omega arith) (sym (rw (← c.bit_words.ensures.same) c.if-has_in.ensures)))
