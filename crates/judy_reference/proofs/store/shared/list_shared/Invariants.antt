use Rattle.std.proofs.Common.{◌≡◌, ◌-◌, ◌≤◌, length}
use Rattle.judy_model.specs.Intersections.{intersect}
use Rattle.judy_model.specs.declared.lists.TheConstants.{INTERSECTION_LIMIT, INTERSECTION_STEPS}
use Rattle.judy_model.proofs.lemmas.IntersectionLemmas.{rest}
use Rattle.judy_reference.proofs.store.shared.list_shared.Given as goal

-- what is in the list and what is still to come are what the whole call shows
abbrev pub invariant-loop-step : goal.invariant-loop-step
invariant-loop-step l =
    (l.count ≤ l.most) × (length l.listing ≤ INTERSECTION_LIMIT)
    × (rest l.entries l.others (INTERSECTION_STEPS - l._step) (l.most - l.count) l.count l.listing l.at
    ≡ intersect l.entries l.others l.fn.x l.fn.most)
