use Rattle.std.proofs.Common.{◌≡◌, true, vec_len, List}
use Rattle.std.specs.Prelude.{option_map}
use Rattle.judy_many.specs.Changes.{AreGone}
use Rattle.judy_many.specs.Crowds.{Crowd, Past}
use Rattle.judy_many.specs.Lives.{view_of}
use Rattle.judy_many.specs.Nets.{Act, Acts, DidLog}
use Rattle.judy_many.specs.Watches.{nobody}
use Rattle.judy_many.specs.Questions.{Stage}
use Rattle.judy_many.specs.Rules.{rules_of}
use Rattle.judy_many.specs.Stories.Phase.{Sweeps}
use Rattle.judy_many.specs.declared.serve.Limits.{Limits}
use Rattle.judy_many.proofs.Admitted.{AreAdmittedTo}
use Rattle.judy_many.proofs.Known.{AreKnownTo}
use Rattle.judy_many.proofs.reloads.close_gone.Given as goal

abbrev pub invariant-loop-at : goal.invariant-loop-at
invariant-loop-at g l = record {
  slots : vec_len l.clients.slots ≡ vec_len l.initial.clients.slots;
  crowd : (limits : Limits) (first : g.row.S.Denot) (start : Acts) (past : Past) → limits.status ≡ true → past.stage ≡ Stage.Renewed
      → Crowd (λ b. view_of g.S.Served.who g.N.Network.number b.value) (rules_of g.S.Served.made g.S.Served.seen g.S.Shows.noted g.S.Shows.status g.S.Shows.changed g.S.Shows.caps g.S.Shows.leavers) limits first start Sweeps (nobody l.fn.clients.queue) past (g.N.Network.log l.fn.network) l.fn.clients.slots.items l.fn.clients.accepted l.fn.service
      → Crowd (λ b. view_of g.S.Served.who g.N.Network.number b.value) (rules_of g.S.Served.made g.S.Served.seen g.S.Shows.noted g.S.Shows.status g.S.Shows.changed g.S.Shows.caps g.S.Shows.leavers) limits first start Sweeps (nobody l.clients.queue) past (g.N.Network.log l.network) l.clients.slots.items l.clients.accepted l.fn.service;
  gone : (gone : List Act) × DidLog (g.N.Network.log l.fn.network) gone (g.N.Network.log l.network) × AreGone gone;
  known : AreKnownTo (λ b. option_map g.S.Served.who b.value.session.speaker) (g.S.Served.seen l.fn.service).speakers l.at l.clients.slots.items;
  admitted : AreAdmittedTo (λ b. b.value.session.speaker) (g.S.Shows.admits l.fn.service) l.at l.clients.slots.items;
}
