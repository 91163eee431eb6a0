use Rattle.std.proofs.Common.{◌≡◌, ◌<◌, ◌≤◌, ◌⊎◌, ◌++◌, true, false, ℕ, List, length}
use Rattle.std.specs.Prelude.{if◌then◌else◌, is_some, option_map}
use Rattle.judy_protocol.specs.Services.{HasLoggedIn}
use Rattle.judy_many.specs.Sessions.{Steps, Turn}
use Rattle.judy_many.specs.Barred.{AreBarred, AreFree}
use Rattle.judy_many.specs.Lives.{view_of}
use Rattle.judy_many.specs.Others.{AreLimited}
use Rattle.judy_many.specs.Present.{speakers_at}
use Rattle.judy_many.specs.Rules.{rules_of}
use Rattle.judy_many.proofs.session.run_lines.Given as goal

abbrev pub invariant-loop-chunk : goal.invariant-loop-chunk
invariant-loop-chunk g l = record {
  steps : (used : List ℕ) × (turns : List Turn) × (used ++ l.rest ≡ l.bytes)
      × AreLimited l.limits.tenant_clients (speakers_at (λ b. view_of g.S.Served.who g.N.Network.number b.value) l.others) turns
      × (is_some l.limits.journal ≡ true → AreBarred l.fn.session.barred (option_map g.S.Served.who l.fn.session.speaker) turns)
      × (l.fn.session.barred ≡ false → AreFree turns)
      × (l.limits.clients ≡ 1 → length turns ≤ (if l.enough then 1 else 0))
      × Steps (rules_of g.S.Served.made g.S.Served.seen g.S.Shows.noted g.S.Shows.status g.S.Shows.changed g.S.Shows.caps g.S.Shows.leavers) used turns false l.fn.session.held l.session.held
      (option_map g.S.Served.who l.fn.session.speaker) (option_map g.S.Served.who l.session.speaker)
      l.fn.service l.service l.fn.answers.items l.answers.items l.fn.keeper l.keeper
      × ((0 < length turns) ⊎ ((l.enough ≡ false) × (l.rest ≡ l.bytes) × (l.answers.items ≡ l.fn.answers.items) × (l.keeper ≡ l.fn.keeper)));
  left : length l.rest ≤ length l.bytes;
  more : length l.fn.answers.items ≤ length l.answers.items;
  logins : (g.S.Served.seen l.service).logins ≡ (g.S.Served.seen l.fn.service).logins;
  speakers : (g.S.Served.seen l.service).speakers ≡ (g.S.Served.seen l.fn.service).speakers;
  known : HasLoggedIn (g.S.Served.seen l.service).speakers (option_map g.S.Served.who l.session.speaker);
  barred : l.session.barred ≡ l.fn.session.barred;
  same : l.enough ≡ false → is_some l.limits.journal ≡ true → option_map g.S.Served.who l.session.speaker ≡ option_map g.S.Served.who l.fn.session.speaker;
}

abbrev pub decreases-loop-chunk : goal.decreases-loop-chunk
decreases-loop-chunk g l = length l.rest
