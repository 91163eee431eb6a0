use Rattle.std.proofs.Common.{◌≡◌, ◌-◌, ◌≤◌, length, ap, ◌∙◌, sym, subst, arith}
use Rattle.std.specs.List.{remove}
use Rattle.judy_bitmap.specs.ByteSets.{below}
use Rattle.judy_leaf.specs.Bytes.{bitmap_bytes, bitmap_size, bitmap_values}
use Rattle.judy_leaf.proofs.bitmap.take_value.Goals as goal

pub close_value-requires-clause-rank : goal.close_value-requires-clause-rank
close_value-requires-clause-rank c = omega (arith, c.rank-rank.ensures.rank, c.requires.rank)

pub close_value-requires-clause-room : goal.close_value-requires-clause-room
close_value-requires-clause-room c =
    subst (λ v. bitmap_size v c.args.count ≤ length c.args.words.now) c.if-not-values.false (rw c.requires.count c.requires.leaf.room)

pub returns-clause-values : goal.returns-clause-values
returns-clause-values c =
    subst (λ v. bitmap_values v (c.args.count - 1) c.close_value.new.words
    ≡ remove (bitmap_values v c.args.count c.args.words.now) (length (below (bitmap_bytes c.args.words.now) c.args.byte)))
    (sym c.if-not-values.false) (c.close_value.ensures.values ∙ ap (remove _) c.rank-rank.ensures.rank)

pub returns-clause-head : goal.returns-clause-head
returns-clause-head c = c.close_value.ensures.head
