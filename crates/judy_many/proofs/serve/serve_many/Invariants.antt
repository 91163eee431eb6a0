use Rattle.std.specs.Prelude.{option_map}
use Rattle.judy_many.specs.Books.{opened}
use Rattle.judy_many.specs.Crowds.{Crowd, past_of}
use Rattle.judy_many.specs.Slots.{AreKnown}
use Rattle.judy_many.specs.Lives.{view_of}
use Rattle.judy_many.specs.Watches.{nobody}
use Rattle.judy_many.specs.Stories.Phase.{Sweeps}
use Rattle.judy_many.specs.Rules.{rules_of}
use Rattle.judy_many.proofs.serve.serve_many.Given as goal

abbrev pub invariant-loop-round : goal.invariant-loop-round
invariant-loop-round g l = record {
  crowd : Crowd (λ b. view_of g.S.Served.who g.N.Network.number b.value) (rules_of g.S.Served.made g.S.Served.seen g.S.Shows.noted g.S.Shows.status g.S.Shows.changed g.S.Shows.caps g.S.Shows.leavers) l.fn.limits l.fn.service (g.N.Network.log l.fn.network) Sweeps (nobody l.clients.queue) (past_of l._round (opened l.fn.limits.journal (option_map (λ w. w.value) l.fn.writer)) l.keeper) (g.N.Network.log l.network) l.clients.slots.items l.clients.accepted l.service;
  known : AreKnown (λ b. option_map g.S.Served.who b.value.session.speaker) (g.S.Served.seen l.service).speakers l.clients.slots.items;
}
