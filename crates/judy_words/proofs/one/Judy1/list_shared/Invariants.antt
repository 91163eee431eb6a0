use Rattle.std.proofs.Common.{◌≡◌, ◌-◌, ◌≤◌, length}
use Rattle.judy_model.specs.Intersections.{intersect}
use Rattle.judy_model.specs.declared.lists.TheConstants.{INTERSECTION_LIMIT, INTERSECTION_STEPS}
use Rattle.judy_words.specs.OneArrays.{one_in}
use Rattle.judy_model.proofs.lemmas.IntersectionLemmas.{rest}
use Rattle.judy_words.proofs.one.Judy1.list_shared.Given as goal

-- what is in the list and what is still to come are what the whole call shows
abbrev pub invariant-loop-step : goal.invariant-loop-step
invariant-loop-step l =
    (l.count ≤ l.most) × (length l.listing ≤ INTERSECTION_LIMIT)
    × (rest (one_in l.arena.blocks l.self) (one_in l.arena.blocks l.other) (INTERSECTION_STEPS - l._step) (l.most - l.count) l.count l.listing l.at
    ≡ intersect (one_in l.arena.blocks l.self) (one_in l.arena.blocks l.other) l.fn.x l.fn.most)
