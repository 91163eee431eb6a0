use Rattle.std.proofs.Common.{◌≡◌, ℕ}
use Rattle.judy_many.specs.Watches.{nobody, those_before}
use Rattle.std.specs.Prelude.{Option, option_map}
use Rattle.judy_many.specs.Books.{Journal}
use Rattle.judy_many.specs.Crowds.{Crowd, past_of}
use Rattle.judy_many.specs.Slots.{AreKnown}
use Rattle.judy_many.specs.Lives.{view_of}
use Rattle.judy_many.specs.Nets.{Acts}
use Rattle.judy_many.specs.Stories.Phase.{Reads}
use Rattle.judy_many.specs.Rules.{rules_of}
use Rattle.judy_many.proofs.rounds.listen_all.Given as goal

abbrev pub invariant-loop-place : goal.invariant-loop-place
invariant-loop-place g l = record {
  crowd : (first : g.row.S.Denot) (start : Acts) (waits : ℕ) (began : Option Journal) → Crowd (λ b. view_of g.S.Served.who g.N.Network.number b.value) (rules_of g.S.Served.made g.S.Served.seen g.S.Shows.noted g.S.Shows.status g.S.Shows.changed g.S.Shows.caps g.S.Shows.leavers) l.fn.limits first start Reads (nobody l.fn.clients.queue) (past_of waits began l.fn.keeper) (g.N.Network.log l.fn.network) l.fn.clients.slots.items l.fn.clients.accepted l.fn.service
      → Crowd (λ b. view_of g.S.Served.who g.N.Network.number b.value) (rules_of g.S.Served.made g.S.Served.seen g.S.Shows.noted g.S.Shows.status g.S.Shows.changed g.S.Shows.caps g.S.Shows.leavers) l.fn.limits first start Reads (those_before l.fn.clients.queue l.place l.shares) (past_of waits began l.keeper) (g.N.Network.log l.network) l.clients.slots.items l.clients.accepted l.service;
  queue : l.clients.queue ≡ l.fn.clients.queue;
  logins : (g.S.Served.seen l.service).logins ≡ (g.S.Served.seen l.fn.service).logins;
  speakers : (g.S.Served.seen l.service).speakers ≡ (g.S.Served.seen l.fn.service).speakers;
  known : AreKnown (λ b. option_map g.S.Served.who b.value.session.speaker) (g.S.Served.seen l.service).speakers l.clients.slots.items;
}
