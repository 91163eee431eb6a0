-- Two worlds: the replies that a tenant of one server and a tenant of another get over all their
-- connections.
--     worlds-between-tables   equal quotas, arrays, calls and refusals of a tenant give it equal replies,
--                             as long as the tables stay
--     hosted-worlds           so it is over all lines, if each new table keeps the quotas and arrays of the
--                             two
use Rattle.std.specs.Prelude.{◌≡◌, ℕ, List, [], Option}
use Rattle.std.proofs.Common.{subst}
use Rattle.judy_many.specs.Changes.{IsAlone, exchanges}
use Rattle.judy_journal.specs.Writes.{Writing}
use Rattle.judy_many.specs.Crowds.{HasServedMany}
use Rattle.judy_many.specs.Rules.{Rules}
use Rattle.judy_many.specs.Sessions.{Turn}
use Rattle.judy_many.specs.Statuses.{Keeps}
use Rattle.judy_many.specs.Stories.{turns_in}
use Rattle.judy_many.specs.declared.serve.Ending.{Ending}
use Rattle.judy_many.specs.declared.serve.Limits.{Limits}
use Rattle.judy_model.specs.Solo.{IsSolo, attempts_of, refusals}
use Rattle.judy_protocol.specs.Services.{Seen}
use Rattle.judy_programs.specs.Asking.{Log}

-- Take lines of one server between two tables, and lines of another.
pub worlds-between-tables : (before after before' after' : Seen) (turns turns' : List Turn) → IsAlone before turns after → IsAlone before' turns' after'
    → (t u : ℕ) → before'.quotas u ≡ before.quotas t → before'.states u ≡ before.states t
    → attempts_of (exchanges u turns') ≡ attempts_of (exchanges t turns) → refusals (exchanges u turns') ≡ refusals (exchanges t turns)
    → (exchanges u turns' ≡ exchanges t turns) × (after'.states u ≡ after.states t)
worlds-between-tables before after before' after' turns turns' h k t u quota state calls marks =
    let theirs = exchanges u turns' in
    let there = after'.states u in
    h.worlds t theirs there
    (subst (λ q. IsSolo q (before.states t) theirs there) quota (subst (λ s. IsSolo (before'.quotas u) s theirs there) state (k.solo.solo u)))
    calls marks

-- The services and their connections may differ. If a tenant of one and a tenant of the other have
-- equal quotas, arrays and calls, and the same calls are refused for memory, then their replies and
-- their final arrays are equal.
pub hosted-worlds : {S T : Type 0} (rules : Rules S) (rules' : Rules T)
    (limits limits' : Limits) (writer writer' : Option Writing) (how how' : Ending) (log last log' last' : Log) (before after : S) (before' after' : T)
    (h : HasServedMany rules limits writer how log last before after) (k : HasServedMany rules' limits' writer' how' log' last' before' after')
    (t u : ℕ) → Keeps rules t [] before h.story after h.told → Keeps rules' u [] before' k.story after' k.told
    → (rules'.seen before').quotas u ≡ (rules.seen before).quotas t → (rules'.seen before').states u ≡ (rules.seen before).states t
    → let mine = exchanges t (turns_in h.story) in
    let theirs = exchanges u (turns_in k.story) in
    attempts_of theirs ≡ attempts_of mine → refusals theirs ≡ refusals mine
    → (theirs ≡ mine) × ((rules'.seen after').states u ≡ (rules.seen after).states t)
hosted-worlds rules rules' limits limits' writer writer' how how' log last log' last' before after before' after' h k t u kept kept' quota state calls marks =
    let theirs = exchanges u (turns_in k.story) in
    let there = (rules'.seen after').states u in
    (h.kept t kept).worlds theirs there
    (subst (λ q. IsSolo q ((rules.seen before).states t) theirs there) quota
    (subst (λ s. IsSolo ((rules'.seen before').quotas u) s theirs there) state (k.kept u kept').solo))
    calls marks
