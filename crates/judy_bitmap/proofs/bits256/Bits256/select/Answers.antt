use Rattle.std.proofs.Common.{◌≡◌, ◌+◌, ◌*◌, ◌^◌, ◌<◌, length, get_or, ap, sym, arith, rules, count_ones}
use Rattle.judy_bitmap.specs.ByteSets.{has_bit}
use Rattle.judy_bitmap.proofs.lemmas.Places.{places}
use Rattle.judy_bitmap.proofs.lemmas.SetLemmas.{row_whole, rank_in_row, select-in_row, select-member, select-rank, select-none, select-past}
use Rattle.judy_bitmap.proofs.bits256.Bits256.select.Goals as goal

pub returns-then-left-ones-clause-item : goal.returns-then-left-ones-clause-item
returns-then-left-ones-clause-item c =
    rw (← c.self.view_is)
    (sym
    (select-in_row c.self.inside.words c.loop-row.row c.select_in.result c.loop-row.left c.args.n c.loop-row-test.true c.select_in.ensures.within
    (rw c.from.ensures at c.select_in.ensures.set) (rw c.from.ensures at c.select_in.ensures.rank) c.loop-row.invariant))

pub returns-then-left-ones-clause-member : goal.returns-then-left-ones-clause-member
returns-then-left-ones-clause-member c =
    rw (← c.self.view_is)
    (select-member c.self.inside.words c.loop-row.row c.select_in.result c.loop-row-test.true c.select_in.ensures.within
    (rw c.from.ensures at c.select_in.ensures.set))

pub returns-then-left-ones-clause-rank : goal.returns-then-left-ones-clause-rank
returns-then-left-ones-clause-rank c =
    rw (← c.self.view_is)
    (select-rank c.self.inside.words c.loop-row.row c.select_in.result c.loop-row.left c.args.n c.loop-row-test.true c.select_in.ensures.within
    (rw c.from.ensures at c.select_in.ensures.rank) c.loop-row.invariant)

pub loop-row-preserved : goal.loop-row-preserved
loop-row-preserved c =
    let words = c.self.inside.words in
    let row = c.loop-row.row in
    let fits : get_or words c.from.result 0 < 2 ^ 64 = search rules in
    let next : 64 * row + 64 ≡ 64 * (row + 1) = omega arith in
    let same : count_ones (get_or words c.from.result 0) ≡ count_ones (get_or words row 0) = ap (λ r. count_ones (get_or words r 0)) c.from.ensures in
    omega (
      arith,
      c.loop-row.invariant,
      row_whole words row (rw c.from.ensures at fits),
      rank_in_row words row 64,
      ap (λ k. length (places (has_bit words) 0 k)) next,
    )

pub returns-clause-item : goal.returns-clause-item
returns-clause-item c =
    let last : c.loop-row.row ≡ 4 = omega arith in
    rw (← c.self.view_is) (sym (select-none c.self.inside.words c.loop-row.left c.args.n (rw last at c.loop-row.invariant)))

pub returns-clause-none : goal.returns-clause-none
returns-clause-none c =
    let last : c.loop-row.row ≡ 4 = omega arith in
    rw (← c.self.view_is) (select-past c.self.inside.words c.loop-row.left c.args.n (rw last at c.loop-row.invariant))
