use Rattle.std.proofs.Common.{◌≡◌, ◌-◌}
use Rattle.judy_arena.specs.Takes.{TakesNothing}
use Rattle.judy_model.specs.Contents.{word_order}
use Rattle.judy_model.specs.Tenant.{cut, cut_from, first_up_to}
use Rattle.judy_words.specs.LongArrays.{long_in, LongBecomes, HasLongSpace}
use Rattle.judy_words.proofs.long.JudyL.cut.Given as goal

-- what is removed and what is still to be removed are what the whole call removes
abbrev pub invariant-loop-count : goal.invariant-loop-count
invariant-loop-count l =
    let now = long_in l.arena.blocks l.self in
    LongBecomes l.fn.arena l.fn.self l.arena l.self × HasLongSpace l.arena l.self × TakesNothing l.fn.arena l.arena
    × (cut_from word_order (λ m. first_up_to m l.x l.last) l.count (l.most - l.count) now (first_up_to now l.x l.last)
    ≡ cut word_order (long_in l.fn.arena.blocks l.fn.self) (λ m. first_up_to m l.fn.x l.fn.last) l.fn.most)
