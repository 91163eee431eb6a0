use Rattle.std.proofs.Common.{◌+◌, ◌/◌, ◌%◌, w64, get_or, arith}
use Rattle.std.proofs.lemmas.Nat.Bits.{bit_at_set_same, bit_at_set_other}
use Rattle.judy_leaf.proofs.WordBits.{written-shared, written-rest, written-with}
use Rattle.judy_leaf.proofs.bitmap.write_member.Goals as goal

pub returns-clause-shared : goal.returns-clause-shared
returns-clause-shared c = rw c.from-row.ensures (written-shared c.args.words.now c.args.byte _ c.args.count c.ranges.byte.fits c.requires)

pub returns-clause-bits : goal.returns-clause-bits
returns-clause-bits c =
    let old = get_or c.args.words.now (2 + c.args.byte / 64) 0 in
    rw c.from-row.ensures
    (written-with c.args.words.now c.args.byte _ c.args.count c.ranges.byte.fits c.requires
    (λ i low other. bit_at_set_other w64 old (c.args.byte % 64) (omega arith) i other) (bit_at_set_same w64 old (c.args.byte % 64) (omega arith)))

pub returns-clause-rest : goal.returns-clause-rest
returns-clause-rest c = rw c.from-row.ensures (written-rest c.args.words.now c.args.byte _ c.args.count c.ranges.byte.fits c.requires)
