-- The replies of another server to a tenant.
--     AreTheOnly quotas before answered after   any other server would give the same replies
--     served-worlds                             this holds of every run that is served
use Rattle.std.specs.Prelude.{◌≡◌, ℕ, List, zip}
use Rattle.judy_model.specs.declared.replies.Reply.{Reply}
use Rattle.judy_model.specs.Tenant.{State}
use Rattle.judy_model.specs.Solo.{Exchanges, IsSolo, SoloIsDetermined, attempts_of, refusals}
use Rattle.judy_model.specs.Service.{Quotas, States, AreServed, own}
use Rattle.judy_model.specs.Speakers.{Event}

-- Take any other server, whatever it holds and does. If a tenant there has this tenant's quota,
-- arrays, calls and refusals for memory, it gets these replies, and has these arrays afterwards.
abbrev pub AreTheOnly : Quotas → States → List (Event × Reply) → States → Type 0
AreTheOnly quotas before answered after = (t : ℕ) (pairs : Exchanges) (last : State) → IsSolo (quotas t) (before t) pairs last
    → attempts_of pairs ≡ attempts_of (own t answered) → refusals pairs ≡ refusals (own t answered)
    → (pairs ≡ own t answered) × (last ≡ after t)

-- this holds of every run that is served
pub served-worlds : SoloIsDetermined → (quotas : Quotas) (before : States) (events : List Event) (replies : List Reply) (after : States)
    → AreServed quotas before events replies after → AreTheOnly quotas before (zip events replies) after
served-worlds equal quotas before events replies after served t pairs last there calls marks =
    equal (quotas t) (before t) pairs (own t (zip events replies)) last (after t) there (served.solo t) calls marks
