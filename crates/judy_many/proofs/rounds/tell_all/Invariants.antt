use Rattle.std.proofs.Common.{Bool, [], ◌≡◌, ℕ}
use Rattle.std.specs.Prelude.{option_map}
use Rattle.judy_many.specs.Queues.{stands_in}
use Rattle.judy_many.specs.Watches.{nobody, those_before}
use Rattle.judy_model.specs.Speakers.{Speaker}
use Rattle.judy_many.specs.Crowds.{Crowd, Past}
use Rattle.judy_many.specs.Slots.{AreKnown}
use Rattle.judy_many.specs.Lives.{view_of}
use Rattle.judy_many.specs.Nets.{Acts}
use Rattle.judy_many.specs.Stories.Phase.{Writes}
use Rattle.judy_many.specs.declared.serve.Limits.{Limits}
use Rattle.judy_many.specs.Rules.{rules_of}
use Rattle.judy_many.proofs.rounds.tell_all.Given as goal

abbrev pub invariant-loop-place : goal.invariant-loop-place
invariant-loop-place g l = record {
  crowd : (limits : Limits) (first now : g.row.S.Denot) (start : Acts) (past : Past) → Crowd (λ b. view_of g.S.Served.who g.N.Network.number b.value) (rules_of g.S.Served.made g.S.Served.seen g.S.Shows.noted g.S.Shows.status g.S.Shows.changed g.S.Shows.caps g.S.Shows.leavers) limits first start Writes (nobody l.fn.clients.queue) past (g.N.Network.log l.fn.network) l.fn.clients.slots.items l.fn.clients.accepted now
      → Crowd (λ b. view_of g.S.Served.who g.N.Network.number b.value) (rules_of g.S.Served.made g.S.Served.seen g.S.Shows.noted g.S.Shows.status g.S.Shows.changed g.S.Shows.caps g.S.Shows.leavers) limits first start Writes (those_before l.clients.queue l.place []) past (g.N.Network.log l.network) l.clients.slots.items l.clients.accepted now;
  order : l.clients.queue.order ≡ l.fn.clients.queue.order;
  stands : (i : ℕ) → stands_in l.clients.queue i ≡ stands_in l.fn.clients.queue i;
  known : (speakers : Speaker → Bool) → AreKnown (λ b. option_map g.S.Served.who b.value.session.speaker) speakers l.fn.clients.slots.items
      → AreKnown (λ b. option_map g.S.Served.who b.value.session.speaker) speakers l.clients.slots.items;
}
