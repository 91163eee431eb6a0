use Rattle.std.proofs.Common.{◌≡◌, ◌≤◌, ◌++◌, ◌∷◌, ℕ, List, length}
use Rattle.std.specs.Prelude.{option_map}
use Rattle.judy_protocol.specs.Services.{HasLoggedIn}
use Rattle.judy_protocol.specs.Talks.{Gathers}
use Rattle.judy_protocol.specs.declared.limits.TheConstants.{ANSWERS_LIMIT}
use Rattle.judy_protocol.proofs.gathering.gather.Given as goal

abbrev pub invariant-loop-quit : goal.invariant-loop-quit
invariant-loop-quit g l = record {
  gathers : (used : List ℕ) × (used ++ l.rest ≡ l.chunk ++ 10 ∷ l.after)
      × Gathers g.S.Served.made (g.S.Served.seen l.fn.service).logins l.fn.batch used l.quit l.fn.held l.held
      (option_map g.S.Served.who l.fn.speaker) (option_map g.S.Served.who l.speaker) l.fn.service l.service l.rooms.answers.items;
  fewer : length l.rest ≤ length l.after;
  short : length l.rooms.answers.items ≤ ANSWERS_LIMIT;
  logins : (g.S.Served.seen l.service).logins ≡ (g.S.Served.seen l.fn.service).logins;
  speakers : (g.S.Served.seen l.service).speakers ≡ (g.S.Served.seen l.fn.service).speakers;
  known : HasLoggedIn (g.S.Served.seen l.service).speakers (option_map g.S.Served.who l.speaker);
}

abbrev pub decreases-loop-quit : goal.decreases-loop-quit
decreases-loop-quit g l = length l.rest
