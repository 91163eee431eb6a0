use Rattle.std.proofs.Common.{◌≡◌}
use Rattle.judy_upkeep.proofs.Played.{HasFreed}
use Rattle.judy_upkeep.proofs.playing.Playing.free_all.Given as goal

abbrev pub invariant-loop : goal.invariant-loop
invariant-loop g l = record {
  speakers : l.self.entries.speakers.items ≡ l.fn.self.entries.speakers.items;
  names : l.self.tenants.names.items ≡ l.fn.self.tenants.names.items;
  freed : HasFreed g.S.Served.who g.S.Served.made l.fn.self.entries.speakers.items l.fn.tenant l.fn.self.entries.service l.self.entries.service;
}
