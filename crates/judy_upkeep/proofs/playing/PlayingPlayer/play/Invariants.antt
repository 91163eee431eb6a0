use Rattle.std.proofs.Common.{◌≡◌, length}
use Rattle.judy_model.specs.Stream.{lines_of}
use Rattle.judy_upkeep.specs.Playing.{ArePlayed}
use Rattle.judy_upkeep.specs.Tenants.{Names}
use Rattle.judy_upkeep.proofs.playing.PlayingPlayer.play.Given as goal

abbrev pub invariant-loop-record : goal.invariant-loop-record
invariant-loop-record g l = record {
  speakers : l.self.entries.speakers.items ≡ l.fn.self.entries.speakers.items;
  played : (new : g.row.S.Denot) (names : Names)
      → ArePlayed g.S.Served.who g.S.Served.made l.fn.self.entries.speakers.items (lines_of l.rest) l.self.entries.service
      l.self.tenants.names.items new names
      → ArePlayed g.S.Served.who g.S.Served.made l.fn.self.entries.speakers.items (lines_of l.fn.records) l.fn.self.entries.service
      l.fn.self.tenants.names.items new names;
}

abbrev pub decreases-loop-record : goal.decreases-loop-record
decreases-loop-record g l = length l.rest
