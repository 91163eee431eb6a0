use Rattle.std.proofs.Common.{◌≡◌, ℕ, List, ◌∷◌, length}
use Rattle.judy_protocol.specs.Plain.{spaced_more}
use Rattle.judy_upkeep.specs.Leaving.{AreNames}
use Rattle.judy_upkeep.specs.Playing.{AreLeft}
use Rattle.judy_upkeep.specs.Tenants.{Names}
use Rattle.judy_upkeep.proofs.playing.Playing.leave_all.Given as goal

abbrev pub invariant-loop-name : goal.invariant-loop-name
invariant-loop-name g l = record {
  speakers : l.self.entries.speakers.items ≡ l.fn.self.entries.speakers.items;
  are_names : AreNames l.rest;
  left : (more : List (List ℕ)) (new : g.row.S.Denot) (names : Names) → l.rest ≡ spaced_more more
      → AreLeft g.S.Served.who g.S.Served.made l.fn.self.entries.speakers.items more l.self.entries.service l.self.tenants.names.items new names
      → (all : List (List ℕ)) × (l.fn.others ≡ spaced_more all)
      × AreLeft g.S.Served.who g.S.Served.made l.fn.self.entries.speakers.items (l.fn.first ∷ all) l.fn.self.entries.service
      l.fn.self.tenants.names.items new names;
}

abbrev pub decreases-loop-name : goal.decreases-loop-name
decreases-loop-name g l = length l.rest
