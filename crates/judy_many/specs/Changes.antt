-- A table that is read again, or a tenant that is frozen or thawed, while connections stay open.
--     IsChange before after       a change keeps or empties each tenant's arrays
--     AreLeft keep leavers left   which tenants are told as those that left
--     AreLeavers left first ..    who leaves, as it was found
--     is_gone admits speaker      the speaker of a connection does not go on
--     HasReloaded ..              what the server did when it was asked to read the table again, or to freeze or thaw a tenant
--     IsAlone before turns after  over these lines each tenant's replies are those that it would get alone
--     IsAloneFor t ..             so are those of this tenant
--     Chain P before runs after   P holds of each run of lines, and changes join them
use Rattle.std.specs.Prelude.{◌≡◌, ◌⊎◌, ℕ, Bool, true, false, not, List, [], ◌∷◌, Option, Some, None, codes, zip}
use Rattle.judy_journal.specs.Leaving.{gone_records, gone_request}
use Rattle.judy_journal.specs.Writes.{IsShortRecord}
use Rattle.judy_model.specs.Service.{AreServed, own}
use Rattle.judy_model.specs.Solo.{Exchanges, IsSolo, attempts_of, refusals}
use Rattle.judy_model.specs.Speakers.{Speaker}
use Rattle.judy_model.specs.Tenant.{State, no_arrays}
use Rattle.judy_model.specs.Worlds.{AreTheOnly}
use Rattle.judy_protocol.specs.Services.{Seen}
use Rattle.judy_many.specs.Books.{Journal, noted_by}
use Rattle.judy_many.specs.Journaling.{AreWritten}
use Rattle.judy_many.specs.Lives.{View}
use Rattle.judy_many.specs.Nets.{Act, Acts, DidLog}
use Rattle.judy_many.specs.Nets.Act.{Closed, Replied, Tabled, Untabled, Warned}
use Rattle.judy_many.specs.Rules.{Rules}
use Rattle.judy_many.specs.Sessions.{Turn, events_in, replies_in}
use Rattle.judy_many.specs.Stories.{BeginsWith, Story, told_head}
use Rattle.judy_many.specs.Stories.Moment.{Did}
use Rattle.judy_many.specs.declared.network.How.TheVariants as how

-- quotas, names and tokens may be others after it
abbrev pub IsChange : Seen → Seen → Type 0
IsChange before after = (t : ℕ) → (after.states t ≡ before.states t) ⊎ (after.states t ≡ no_arrays)

-- with a journal these are the tenants that a table leaves out; without one none is told
abbrev pub AreLeft : Bool → List (List ℕ) → List (List ℕ) → Type 0
AreLeft keep leavers left = (keep ≡ true → left ≡ leavers) × (keep ≡ false → left ≡ [])

-- Who leaves, as it was found: nobody; or these, the first by its name and all others in the request of their
-- record, which is short.
abbrev pub AreLeavers : List (List ℕ) → Option (List ℕ) → List ℕ → Type 0
AreLeavers leavers None request = leavers ≡ []
AreLeavers leavers (Some first) request =
    (others : List (List ℕ)) × (leavers ≡ first ∷ others) × (request ≡ gone_request others) × IsShortRecord first request

-- The file of the table was read, and its table was put in force, with which these tenants left; or an order was
-- carried out. Or it was not read, or not put in force or carried out; then nothing has changed.
abbrev pub HasChanged : {S : Type 0} → Rules S → Bool → Bool → List (List ℕ) → Acts → Acts → S → S → Type 0
HasChanged rules keep true left log log' before after =
    (text : List ℕ) × DidLog log (Tabled text ∷ []) log' × rules.changed before text after × AreLeft keep (rules.leavers before text) left
HasChanged rules keep false left log log' before after =
    (after ≡ before) × (left ≡ []) × (DidLog log (Untabled ∷ []) log' ⊎ ((text : List ℕ) × DidLog log (Tabled text ∷ []) log'))

-- somebody has logged in on a connection, and does not go on
abbrev pub is_gone : {P : Type 0} → (P → Bool) → Option P → Bool
is_gone admits None = false
is_gone admits (Some speaker) = not (admits speaker)

-- connections were closed, since their speakers are gone
abbrev pub AreGone : List Act → Type 0
AreGone [] = Unit {0}
AreGone (a ∷ acts) = ((n : ℕ) × (a ≡ Closed n how.Gone)) × AreGone acts

-- what happened to a slot: its client was closed, since its speaker is gone; or nothing
abbrev pub SlotGone : Option View → Story → Type 0
SlotGone None more = more ≡ []
SlotGone (Some v) more = (more ≡ []) ⊎ ((more ≡ Did (Closed v.number how.Gone) ∷ []) × (who : Speaker) × (v.who ≡ Some who))

-- what is answered: `OK` only where the table was put in force
abbrev pub reply_head : Bool → List ℕ
reply_head true = codes "OK"
reply_head false = codes "ERR "

-- connections are closed only where the table was put in force
abbrev pub AreClosed : Bool → List Act → Type 0
AreClosed true acts = AreGone acts
AreClosed false acts = acts ≡ []

-- the asker was answered, and then the operator was told; or nothing was said, since the journal failed
pub record HasSaid (changed : Bool) (log log' : Acts) : Type 0 where
  pub order : Bool
  pub reply : List ℕ
  pub line : List ℕ
  pub replied : BeginsWith (reply_head changed) reply
  pub told : BeginsWith (told_head order changed) line
  pub last : DidLog log (Replied reply ∷ Warned line ∷ []) log'

abbrev pub SaysIf : Bool → Bool → Acts → Acts → Type 0
SaysIf true changed log log' = HasSaid changed log log'
SaysIf false changed log log' = (changed ≡ true) × (log' ≡ log)

-- What the server did, in this order: it read the table or the order, closed the connections whose speakers are
-- gone, kept the record of the tenants that left, answered, and told the operator. If the journal failed it did
-- not answer.
pub record HasReloaded {S : Type 0} (rules : Rules S) (keep well : Bool) (log log' : Acts) (before after : S) (journal journal' : Option Journal) : Type 0 where
  pub changed : Bool
  pub left : List (List ℕ)
  pub tabled : Acts
  pub closed : Acts
  pub kept : Acts
  pub gone : List Act
  pub change : HasChanged rules keep changed left log tabled before after
  pub closes : DidLog tabled gone closed
  pub are_gone : AreClosed changed gone
  pub written : AreWritten well (noted_by (gone_records left) journal) journal' closed kept
  pub says : SaysIf well changed kept log'

-- Over these lines each tenant's replies are those that it would get alone, without the calls that were
-- refused for memory. Another server that agrees on a tenant's quota, arrays, calls and refusals would
-- give it the same replies, whatever else that server holds and does.
pub record IsAlone (before : Seen) (turns : List Turn) (after : Seen) : Type 0 where
  pub solo : AreServed before.quotas before.states (events_in turns) (replies_in turns) after.states
  pub worlds : AreTheOnly before.quotas before.states (zip (events_in turns) (replies_in turns)) after.states
  pub quotas : after.quotas ≡ before.quotas

-- the calls of a tenant among these lines, with their replies
abbrev pub exchanges : ℕ → List Turn → Exchanges
exchanges t turns = own t (zip (events_in turns) (replies_in turns))

-- the same for one tenant
pub record IsAloneFor (t : ℕ) (before : Seen) (turns : List Turn) (after : Seen) : Type 0 where
  pub solo : IsSolo (before.quotas t) (before.states t) (exchanges t turns) (after.states t)
  pub worlds : (pairs : Exchanges) (last : State) → IsSolo (before.quotas t) (before.states t) pairs last
      → attempts_of pairs ≡ attempts_of (exchanges t turns) → refusals pairs ≡ refusals (exchanges t turns)
      → (pairs ≡ exchanges t turns) × (last ≡ after.states t)

-- runs of lines, one after another; between two of them the table was changed
abbrev pub Chain : (Seen → List Turn → Seen → Type 0) → Seen → List (List Turn) → Seen → Type 0
Chain P before [] after = ⊥
Chain P before (turns ∷ []) after = P before turns after
Chain P before (turns ∷ more ∷ runs) after = (mid : Seen) × (next : Seen) × P before turns mid × IsChange mid next × Chain P next (more ∷ runs) after
