use Rattle.std.proofs.Common.{◌≡◌, map, take}
use Rattle.std.specs.Prelude.{option_map}
use Rattle.judy_many.specs.Lives.{view_of}
use Rattle.judy_many.specs.Present.{speakers_at}
use Rattle.judy_many.proofs.asking.speakers.Given as goal

abbrev pub invariant-loop-at : goal.invariant-loop-at
invariant-loop-at g l = record {
  speakers : map (option_map g.S.Served.who) l.speakers.items ≡ speakers_at (λ b. view_of g.S.Served.who g.N.Network.number b.value) (take l.at l.clients.slots.items);
}
