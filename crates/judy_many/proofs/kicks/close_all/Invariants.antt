use Rattle.std.proofs.Common.{◌≡◌, ◌≤◌, ◌++◌, drop, length, map, take, true, vec_len}
use Rattle.std.specs.Prelude.{option_map}
use Rattle.judy_many.specs.Crowds.{Crowd, Past}
use Rattle.judy_many.specs.Kicks.{after_kick, kick_acts, speaks_as}
use Rattle.judy_many.specs.Lives.{view_of}
use Rattle.judy_many.specs.Nets.{Acts, DidLog}
use Rattle.judy_many.specs.Rules.{rules_of}
use Rattle.judy_many.specs.Slots.{AreKnown}
use Rattle.judy_many.specs.Stories.Phase.{Sweeps}
use Rattle.judy_many.specs.Watches.{nobody}
use Rattle.judy_many.specs.declared.serve.Limits.{Limits}
use Rattle.judy_many.proofs.kicks.close_all.Given as goal

abbrev pub invariant-loop-at : goal.invariant-loop-at
invariant-loop-at g l = record {
  slots : vec_len l.clients.slots ≡ vec_len l.initial.clients.slots;
  crowd : (limits : Limits) (first now : g.row.S.Denot) (start : Acts) (past : Past) → limits.status ≡ true
      → Crowd (λ b. view_of g.S.Served.who g.N.Network.number b.value) (rules_of g.S.Served.made g.S.Served.seen g.S.Shows.noted g.S.Shows.status g.S.Shows.changed g.S.Shows.caps g.S.Shows.leavers) limits first start Sweeps (nobody l.fn.clients.queue) past (g.N.Network.log l.fn.network) l.fn.clients.slots.items l.fn.clients.accepted now
      → Crowd (λ b. view_of g.S.Served.who g.N.Network.number b.value) (rules_of g.S.Served.made g.S.Served.seen g.S.Shows.noted g.S.Shows.status g.S.Shows.changed g.S.Shows.caps g.S.Shows.leavers) limits first start Sweeps (nobody l.clients.queue) past (g.N.Network.log l.network) l.clients.slots.items l.clients.accepted now;
  changed : map (option_map (λ b. view_of g.S.Served.who g.N.Network.number b.value)) l.clients.slots.items
      ≡ map (after_kick (speaks_as (g.S.Served.seen l.fn.service).names l.fn.name)) (take l.at (map (option_map (λ b. view_of g.S.Served.who g.N.Network.number b.value)) l.fn.clients.slots.items)) ++ drop l.at (map (option_map (λ b. view_of g.S.Served.who g.N.Network.number b.value)) l.fn.clients.slots.items);
  acts : DidLog (g.N.Network.log l.fn.network) (kick_acts (speaks_as (g.S.Served.seen l.fn.service).names l.fn.name) (take l.at (map (option_map (λ b. view_of g.S.Served.who g.N.Network.number b.value)) l.fn.clients.slots.items))) (g.N.Network.log l.network);
  counted : l.count ≡ length (kick_acts (speaks_as (g.S.Served.seen l.fn.service).names l.fn.name) (take l.at (map (option_map (λ b. view_of g.S.Served.who g.N.Network.number b.value)) l.fn.clients.slots.items)));
  few : l.count ≤ l.at;
  known : AreKnown (λ b. option_map g.S.Served.who b.value.session.speaker) (g.S.Served.seen l.fn.service).speakers l.clients.slots.items;
}
