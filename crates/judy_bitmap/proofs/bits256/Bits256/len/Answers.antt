use Rattle.std.proofs.Common.{ℕ, ◌≡◌, ◌^◌, ◌+◌, ◌<◌, ◌≤◌, List, length, get_or, ap, arith, rules, count_ones}
use Rattle.judy_bitmap.specs.ByteSets.{has_bit, members}
use Rattle.judy_bitmap.proofs.lemmas.Places.{places-length_le}
use Rattle.judy_bitmap.proofs.lemmas.SetLemmas.{members-places, row_whole, rank_in_row}
use Rattle.judy_bitmap.proofs.bits256.Bits256.len.Goals as goal

-- the members are as many as the bits of the four words
four_words : (words : List ℕ) → get_or words 0 0 < 2 ^ 64 → get_or words 1 0 < 2 ^ 64 → get_or words 2 0 < 2 ^ 64 → get_or words 3 0 < 2 ^ 64
    → count_ones (get_or words 0 0) + count_ones (get_or words 1 0) + count_ones (get_or words 2 0) + count_ones (get_or words 3 0) ≡ length (members words)
four_words words first second third fourth =
    omega (
      arith,
      ap length (members-places words),
      row_whole words 0 first,
      row_whole words 1 second,
      row_whole words 2 third,
      row_whole words 3 fourth,
      rank_in_row words 1 64,
      rank_in_row words 2 64,
      rank_in_row words 3 64,
    )

-- no more than 256 bytes are members
members_few : (words : List ℕ) → length (members words) ≤ 256
members_few words = omega (arith, ap length (members-places words), places-length_le (has_bit words) 0 256)

pub returns-clause-len : goal.returns-clause-len
returns-clause-len c = rw (← c.self.view_is) (four_words c.self.inside.words (search rules) (search rules) (search rules) (search rules))

pub returns-clause-bound : goal.returns-clause-bound
returns-clause-bound c = omega (
  arith,
  four_words c.self.inside.words (search rules) (search rules) (search rules) (search rules),
  members_few c.self.inside.words,
)
