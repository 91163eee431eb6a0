use Rattle.std.proofs.Common.{◌+◌, ◌/◌, ◌%◌, w64, get_or, arith}
use Rattle.std.proofs.lemmas.Nat.Bits.{bit_at_set_same, bit_at_set_other}
use Rattle.judy_branch.proofs.Members.{written-others, written-with}
use Rattle.judy_branch.proofs.bitmap.write_member.Goals as goal

pub returns-clause-bits : goal.returns-clause-bits
returns-clause-bits c =
    let old = get_or c.args.words.now (3 + c.args.byte / 64) 0 in
    rw c.from-row.ensures
    (written-with c.args.words.now c.args.byte _ c.ranges.byte.fits c.requires
    (λ i low other. bit_at_set_other w64 old (c.args.byte % 64) (omega arith) i other) (bit_at_set_same w64 old (c.args.byte % 64) (omega arith)))

pub returns-clause-others : goal.returns-clause-others
returns-clause-others c = rw c.from-row.ensures (written-others c.args.words.now c.args.byte _ c.ranges.byte.fits c.requires)
