use Rattle.std.proofs.Common.{◌≡◌, ◌-◌}
use Rattle.judy_arena.specs.Takes.{TakesNothing}
use Rattle.judy_model.specs.Contents.{word_order}
use Rattle.judy_model.specs.Tenant.{cut, cut_from, first_up_to}
use Rattle.judy_words.specs.OneArrays.{one_in, OneBecomes, HasOneSpace}
use Rattle.judy_words.proofs.one.Judy1.cut.Given as goal

-- what is removed and what is still to be removed are what the whole call removes
abbrev pub invariant-loop-count : goal.invariant-loop-count
invariant-loop-count l =
    let now = one_in l.arena.blocks l.self in
    OneBecomes l.fn.arena l.fn.self l.arena l.self × HasOneSpace l.arena l.self × TakesNothing l.fn.arena l.arena
    × (cut_from word_order (λ m. first_up_to m l.x l.last) l.count (l.most - l.count) now (first_up_to now l.x l.last)
    ≡ cut word_order (one_in l.fn.arena.blocks l.fn.self) (λ m. first_up_to m l.fn.x l.fn.last) l.fn.most)
