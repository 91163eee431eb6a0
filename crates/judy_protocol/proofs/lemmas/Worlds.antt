-- Two worlds: the replies that a tenant of one service and a tenant of another get to their lines.
--     run-worlds    equal quotas, arrays, calls and refusals of a tenant give it equal replies
use Rattle.std.specs.Prelude.{◌≡◌, ℕ, List, None, zip}
use Rattle.std.proofs.Common.{subst}
use Rattle.judy_model.specs.declared.replies.Reply.{Reply}
use Rattle.judy_model.specs.Service.{own}
use Rattle.judy_model.specs.Solo.{IsSolo, attempts_of, refusals}
use Rattle.judy_model.specs.Speakers.{Event}
use Rattle.judy_model.specs.Stream.{Heard, events_from}
use Rattle.judy_protocol.specs.Services.{Made, Seen}
use Rattle.judy_protocol.specs.Serving.{AreRun}

-- the calls of the lines, with their replies
abbrev pub answered_by : Seen → List Heard → List Reply → List (Event × Reply)
answered_by seen lines replies = zip (events_from seen.logins None lines) replies

-- The services and their lines may differ. If a tenant of one and a tenant of the other have equal
-- quotas, arrays and calls, and the same calls are refused for memory, then their replies and their
-- final arrays are equal.
pub run-worlds : {S T : Type 0} (made : Made S) (seen : S → Seen) (made' : Made T) (seen' : T → Seen)
    (lines lines' : List Heard) (replies replies' : List Reply) (before after : S) (before' after' : T)
    → AreRun made seen lines replies before after → AreRun made' seen' lines' replies' before' after'
    → (t u : ℕ) → (seen' before').quotas u ≡ (seen before).quotas t → (seen' before').states u ≡ (seen before).states t
    → let mine = own t (answered_by (seen before) lines replies) in let theirs = own u (answered_by (seen' before') lines' replies') in
    attempts_of theirs ≡ attempts_of mine → refusals theirs ≡ refusals mine
    → (theirs ≡ mine) × ((seen' after').states u ≡ (seen after).states t)
run-worlds made seen made' seen' lines lines' replies replies' before after before' after' h k t u quota state calls marks =
    let theirs = own u (answered_by (seen' before') lines' replies') in
    let last = (seen' after').states u in
    h.worlds t theirs last
    (subst (λ q. IsSolo q ((seen before).states t) theirs last) quota (subst (λ s. IsSolo ((seen' before').quotas u) s theirs last) state (k.served.solo u)))
    calls marks
