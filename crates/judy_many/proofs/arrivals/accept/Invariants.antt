use Rattle.std.specs.Prelude.{Bool, option_map}
use Rattle.judy_many.specs.Watches.{nobody}
use Rattle.judy_model.specs.Speakers.{Speaker}
use Rattle.judy_many.specs.Crowds.{Crowd, Past}
use Rattle.judy_many.specs.Slots.{AreKnown}
use Rattle.judy_many.specs.Lives.{view_of}
use Rattle.judy_many.specs.Nets.{Acts}
use Rattle.judy_many.specs.Stories.Phase.{Reads}
use Rattle.judy_many.specs.Rules.{rules_of}
use Rattle.judy_many.proofs.arrivals.accept.Given as goal

abbrev pub invariant-loop-try : goal.invariant-loop-try
invariant-loop-try g l = record {
  crowd : (first now : g.row.S.Denot) (start : Acts) (past : Past) → Crowd (λ b. view_of g.S.Served.who g.N.Network.number b.value) (rules_of g.S.Served.made g.S.Served.seen g.S.Shows.noted g.S.Shows.status g.S.Shows.changed g.S.Shows.caps g.S.Shows.leavers) l.fn.limits first start Reads (nobody l.fn.clients.queue) past (g.N.Network.log l.fn.network) l.fn.clients.slots.items l.fn.clients.accepted now
      → Crowd (λ b. view_of g.S.Served.who g.N.Network.number b.value) (rules_of g.S.Served.made g.S.Served.seen g.S.Shows.noted g.S.Shows.status g.S.Shows.changed g.S.Shows.caps g.S.Shows.leavers) l.fn.limits first start Reads (nobody l.clients.queue) past (g.N.Network.log l.network) l.clients.slots.items l.clients.accepted now;
  known : (speakers : Speaker → Bool) → AreKnown (λ b. option_map g.S.Served.who b.value.session.speaker) speakers l.fn.clients.slots.items
      → AreKnown (λ b. option_map g.S.Served.who b.value.session.speaker) speakers l.clients.slots.items;
}
