-- What is told on the status socket.
--     Passes rules past s story s'    a story after this past takes the service from s to s', each status that
--                                     is told is that of the service and of its connections at this moment, and
--                                     somebody speaks on a connection that is closed since its speaker is gone,
--                                     and the journal is asked for the name and the limit of who speaks
--     Keeps rules t past s story s' h each new table on the way kept this tenant's quota and arrays
--     Lasts rules keep s story s'     if that is wanted, each new table on the way is told with the tenants that left
--     HasAnswered ..                  what was asked once, and what it was answered
use Rattle.std.specs.Prelude.{◌≡◌, ◌⊎◌, ℕ, Bool, true, false, List, [], ◌∷◌, ◌++◌, Option, Some, None}
use Rattle.judy_model.specs.Speakers.{Speaker}
use Rattle.judy_many.specs.Changes.{AreLeft}
use Rattle.judy_many.specs.declared.asking.Next.{Next}
use Rattle.judy_many.specs.declared.asking.Next.TheVariants as next
use Rattle.judy_many.specs.declared.network.How.{How}
use Rattle.judy_many.specs.declared.network.How.TheVariants as how
use Rattle.judy_many.specs.declared.network.Question.TheVariants as question
use Rattle.judy_many.specs.Nets.{Act, Acts, DidLog}
use Rattle.judy_many.specs.Nets.Act.{Closed, Questioned, Reported, Took}
use Rattle.judy_many.specs.Present.{AreOpen, speaker_since}
use Rattle.judy_many.specs.Rules.{Rules}
use Rattle.judy_many.specs.Sessions.{AreTurns}
use Rattle.judy_many.specs.Stories.{Story, own, turns_in}
use Rattle.judy_many.specs.Stories.Moment.{Changed, Did, Ran}

-- a text is this status, or empty where there is no memory for it
abbrev pub IsStatus : List ℕ → List ℕ → Type 0
IsStatus status text = (text ≡ status) ⊎ (text ≡ [])

-- somebody speaks on this connection
abbrev pub IsSpokenOn : Story → ℕ → Type 0
IsSpokenOn past n = (who : Speaker) × (speaker_since None (turns_in (own n past)) ≡ Some who)

-- a connection is closed since its speaker is gone only where somebody speaks on it
abbrev pub IsClosedFor : How → Story → ℕ → Type 0
IsClosedFor how.Gone past n = IsSpokenOn past n
IsClosedFor other past n = Unit {0}

-- this name and this limit are those of the tenant that speaks on this connection
pub record IsAskedFor (names : ℕ → List ℕ) (caps : ℕ → Option ℕ) (past : Story) (n : ℕ) (name : List ℕ) (limit : Option ℕ) : Type 0 where
  pub who : Speaker
  pub speaks : speaker_since None (turns_in (own n past)) ≡ Some who
  pub name_is : name ≡ names who.tenant
  pub limit_is : limit ≡ caps who.tenant

-- after this past, the text that is told is the status with the speakers of the connections that are open;
-- a connection that is closed since its speaker is gone has one; and whether the journal takes records is asked
-- for the tenant that speaks on the connection, by its name and its limit
abbrev pub Tells : {S : Type 0} → Rules S → S → Story → Act → Type 0
Tells rules now past (Reported text) = (who : List (Option Speaker)) × AreOpen past who × IsStatus (rules.status now who) text
Tells rules now past (Closed n how) = IsClosedFor how past n
Tells rules now past (Took n name limit takes) = IsAskedFor (rules.seen now).names (rules.caps now) past n name limit
Tells rules now past act = Unit {0}

-- A stop was asked for, or that the table is read again, or that connections of a tenant are closed; or nothing was; or the status, which was told.
-- Without a status socket nothing is asked.
abbrev pub HasAnswered : Bool → Next → List ℕ → Acts → Acts → Type 0
HasAnswered true next.Stop status log log' = DidLog log (Questioned question.Stop ∷ []) log'
HasAnswered true next.Reload status log log' = DidLog log (Questioned question.Reload ∷ []) log'
HasAnswered true next.Kick status log log' = DidLog log (Questioned question.Kick ∷ []) log'
HasAnswered true next.Round status log log' = DidLog log [] log'
    ⊎ ((text : List ℕ) × IsStatus status text × DidLog log (Questioned question.Status ∷ Reported text ∷ []) log')
HasAnswered false next.Stop status log log' = ⊥
HasAnswered false next.Reload status log log' = ⊥
HasAnswered false next.Kick status log log' = ⊥
HasAnswered false next.Round status log log' = DidLog log [] log'

-- Lines change the service as they were run, and a new table as it does. Nothing else changes it: no
-- question does.
abbrev pub Passes : {S : Type 0} → Rules S → Story → S → Story → S → Type 0
Passes rules past before [] after = after ≡ before
Passes rules past before (Did a ∷ story) after = Tells rules before past a × Passes rules (past ++ Did a ∷ []) before story after
Passes {S} rules past before (Ran n turns ∷ story) after = (mid : S) × AreTurns rules before turns mid × Passes rules (past ++ Ran n turns ∷ []) mid story after
Passes {S} rules past before (Changed text left ∷ story) after = (mid : S) × rules.changed before text mid × Passes rules (past ++ Changed text left ∷ []) mid story after

-- each table that was put in force on the way kept this tenant's quota and arrays
abbrev pub Keeps : {S : Type 0} (rules : Rules S) (t : ℕ) (past : Story) (before : S) (story : Story) (after : S) → Passes rules past before story after → Type 0
Keeps rules t past before [] after h = Unit {0}
Keeps rules t past before (Did a ∷ story) after h = Keeps rules t (past ++ Did a ∷ []) before story after h.1
Keeps rules t past before (Ran n turns ∷ story) after (mid, first, rest) = Keeps rules t (past ++ Ran n turns ∷ []) mid story after rest
Keeps rules t past before (Changed text left ∷ story) after (mid, step, rest) =
    ((rules.seen mid).quotas t ≡ (rules.seen before).quotas t) × ((rules.seen mid).states t ≡ (rules.seen before).states t)
    × Keeps rules t (past ++ Changed text left ∷ []) mid story after rest

-- The same way of the service, where each new table is told with the names of the tenants that left, if that is
-- wanted, and otherwise with none.
abbrev pub Lasts : {S : Type 0} → Rules S → Bool → S → Story → S → Type 0
Lasts rules keep before [] after = after ≡ before
Lasts rules keep before (Did a ∷ story) after = Lasts rules keep before story after
Lasts {S} rules keep before (Ran n turns ∷ story) after = (mid : S) × AreTurns rules before turns mid × Lasts rules keep mid story after
Lasts {S} rules keep before (Changed text left ∷ story) after = (mid : S) × rules.changed before text mid
    × AreLeft keep (rules.leavers before text) left × Lasts rules keep mid story after
