use Rattle.std.proofs.Common.{◌≡◌, ℕ, ◌-◌, ◌*◌, ◌/◌, ◌%◌, ◌^◌, length, get_or, refl, ap, ◌∙◌, arith, rules, count_ones}
use Rattle.judy_bitmap.specs.ByteSets.{has_bit}
use Rattle.judy_bitmap.proofs.lemmas.Places.{places, places-length_le}
use Rattle.judy_bitmap.proofs.lemmas.SetLemmas.{rank-is, rank-place, below-places, rows-counted}
use Rattle.judy_bitmap.proofs.four.rank_in.Goals as goal

pub returns-then-row-eq0-clause-rank : goal.returns-then-row-eq0-clause-rank
returns-then-row-eq0-clause-rank c =
    let words = c.args.words.now in
    let byte : ℕ = c.args.byte in
    let none : length (places (has_bit words) 0 (64 * (byte / 64))) ≡ 0 = rw c.if-row-eq0.true in
    omega (
      arith,
      none,
      c.ones_below-part.ensures ∙ ap (λ row. count_ones (get_or words row 0 % 2 ^ (byte % 64))) c.from.ensures,
      rank-is words byte (search rules),
    )

pub returns-then-row-eq0-clause-place : goal.returns-then-row-eq0-clause-place
returns-then-row-eq0-clause-place c =
    λ member. rw (returns-then-row-eq0-clause-rank c) (rank-place c.args.words.now c.args.byte (search rules) member)

pub returns-then-row-eq0-clause-bound : goal.returns-then-row-eq0-clause-bound
returns-then-row-eq0-clause-bound c =
    omega (
      arith,
      returns-then-row-eq0-clause-rank c,
      ap length (below-places c.args.words.now c.args.byte (search rules)),
      places-length_le (has_bit c.args.words.now) 0 c.args.byte,
    )

pub returns-clause-rank : goal.returns-clause-rank
returns-clause-rank c =
    let words = c.args.words.now in
    let byte : ℕ = c.args.byte in
    let rows : c.pick.result ≡ length (places (has_bit words) 0 (64 * (byte / 64))) =
    c.pick.ensures ∙ rows-counted words (byte / 64 - 1) _ _ _ (omega arith) (search rules) (search rules) (search rules) refl refl refl
    ∙ ap (λ row. length (places (has_bit words) 0 (64 * row))) (omega arith) in
    omega (
      arith,
      c.ones_below-part.ensures ∙ ap (λ row. count_ones (get_or words row 0 % 2 ^ (byte % 64))) c.from.ensures,
      rows,
      rank-is words byte (search rules),
    )

pub returns-clause-place : goal.returns-clause-place
returns-clause-place c =
    λ member. rw (returns-clause-rank c) (rank-place c.args.words.now c.args.byte (search rules) member)

pub returns-clause-bound : goal.returns-clause-bound
returns-clause-bound c =
    omega (
      arith,
      returns-clause-rank c,
      ap length (below-places c.args.words.now c.args.byte (search rules)),
      places-length_le (has_bit c.args.words.now) 0 c.args.byte,
    )
