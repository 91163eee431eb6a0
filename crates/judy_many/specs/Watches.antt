-- Which connections are owed a look, and which had their turn.
--     watch n i story     what is known of connection n in slot i
--     Rests n i story     nothing is owed to it
--     IsAwake story       before each wait that may sleep nothing is owed to an open connection
--     HasEach share story between two waits each open connection that was owed something had its turn, or its tenant
--                         had its share
--     Alert ..            what the loop keeps of a client for this
use Rattle.std.specs.List.{list_any}
use Rattle.std.specs.Prelude.{◌≡◌, ◌⊎◌, ◌==◌, ◌<◌, ◌≤◌, ℕ, Bool, true, false, List, [], ◌∷◌, ◌++◌, Option, Some, None, if◌then◌else◌, length}
use Rattle.judy_model.specs.Stream.{served}
use Rattle.judy_protocol.specs.Talks.{HasNoLf}
use Rattle.judy_many.specs.declared.client.Fate.{Fate}
use Rattle.judy_many.specs.declared.client.Fate.TheVariants as fate
use Rattle.judy_many.specs.declared.queue.Left.{Left}
use Rattle.judy_many.specs.declared.queue.Left.TheVariants as left
use Rattle.judy_many.specs.Lives.{View, read_in, wrote_in}
use Rattle.judy_many.specs.Nets.{Act}
use Rattle.judy_many.specs.Nets.Act.{Came, Read, Dry, Ended, Broke, Wrote, Failed, Closed, Waited}
use Rattle.judy_many.specs.Queues.{IsBefore, Line, awake_in, is_among, stands_in}
use Rattle.judy_many.specs.Sessions.{Turn, lines_in, texts}
use Rattle.judy_many.specs.Shares.{HadShare, count_in, group_of}
use Rattle.judy_many.specs.Stories.{Moment, Phase, Story, acts_in, belongs, closed_in, own, turns_in, upto_wait, waits_by}
use Rattle.judy_many.specs.Stories.Moment.{Changed, Did, Ran}

-- what is known of a connection
pub record Watch : Type 0 where
  -- Whether bytes may wait that no read found: since it came, and since the system last told of it, each
  -- read filled its buffer.
  pub unread : Bool
  -- whether nothing was written to it since it came, since the system last told of it, and since its last
  -- line was run
  pub unasked : Bool
  -- whether it had a turn since the server last waited: it was read or written, or lines of it were run, or
  -- it was closed
  pub turned : Bool

-- nothing, of one that has not come
abbrev pub unknown : Watch
unknown = record { unread = false; unasked = false; turned = false }

-- a read filled its buffer of 4,096 bytes
abbrev pub fills : List ℕ → Bool
fills bytes = length bytes == 4096

-- the same after a moment of this connection
abbrev pub own_after : Moment → Watch → Watch
own_after (Did (Came m i)) w = record w { unread = true; unasked = true }
own_after (Did (Read m bytes)) w = record w { unread = fills bytes; turned = true }
own_after (Did (Dry m)) w = record w { unread = false; turned = true }
own_after (Did (Ended m)) w = record w { unread = false; turned = true }
own_after (Did (Broke m)) w = record w { unread = false; turned = true }
own_after (Did (Wrote m bytes)) w = record w { unasked = false; turned = true }
own_after (Did (Failed m)) w = record w { unasked = false; turned = true }
own_after (Did (Closed m how)) w = record w { turned = true }
own_after (Did act) w = w
own_after (Ran m []) w = w
own_after (Ran m (t ∷ turns)) w = record w { unasked = true; turned = true }
own_after (Changed text left) w = w

-- and after a wait, which may tell of its slot
abbrev pub woken : ℕ → Moment → Watch → Watch
woken i (Did (Waited sleeps told)) w = if is_among i told then record { unread = true; unasked = true; turned = false } else record w { turned = false }
woken i m w = w

abbrev pub watch_after : ℕ → ℕ → Watch → Moment → Watch
watch_after n i w m = if waits_by m then woken i m w else (if belongs n m then own_after m w else w)

abbrev pub watch_since : ℕ → ℕ → Watch → Story → Watch
watch_since n i w [] = w
watch_since n i w (m ∷ story) = watch_since n i (watch_after n i w m) story

abbrev pub watch : ℕ → ℕ → Story → Watch
watch n i story = watch_since n i unknown story

-- Nothing is owed to a connection with these moments of its own: it was read until nothing more had come,
-- all its lines were run, up to one that asks to quit, and their answers are written.
abbrev pub IsDone : Watch → Story → Type 0
IsDone w mine = (w.unread ≡ false) × (lines_in (turns_in mine) ≡ served (read_in (acts_in mine))) × (wrote_in (acts_in mine) ≡ texts (turns_in mine))

-- Or its answers wait for the client to read: they were written, and the connection did not take them
-- all. Then the system tells when it takes more.
abbrev pub IsBlocked : Watch → Story → Type 0
IsBlocked w mine = (w.unasked ≡ false) × (wrote_in (acts_in mine) ≡ texts (turns_in mine) → ⊥)

abbrev pub Rests : ℕ → ℕ → Story → Type 0
Rests n i story = IsDone (watch n i story) (own n story) ⊎ IsBlocked (watch n i story) (own n story)

-- whether a connection came into this slot
abbrev pub is_seat : ℕ → Act → Bool
is_seat i (Came m j) = j == i
is_seat i act = false

-- it came into this slot and was not closed
abbrev pub IsOpen : ℕ → ℕ → Story → Type 0
IsOpen n i story = (list_any (is_seat i) (acts_in (own n story)) ≡ true) × (closed_in (acts_in (own n story)) ≡ 0)

-- before each wait that may sleep nothing is owed to an open connection
abbrev pub IsAwake : Story → Type 0
IsAwake story = (p q : Story) (told : List ℕ) → story ≡ p ++ Did (Waited true told) ∷ q → (n i : ℕ) → IsOpen n i p → Rests n i p

-- a connection needs no turn in this round: nothing was owed to it at the last wait, or its group has had its share
abbrev pub Excused : ℕ → ℕ → ℕ → Story → Type 0
Excused share n i story = Rests n i (upto_wait story) ⊎ HadShare share n story

-- before each wait: since the one before it each open connection to which something was owed then had its
-- turn, or as many connections of its tenant as a share were heard
abbrev pub HasEach : ℕ → Story → Type 0
HasEach share story = (p q : Story) (sleeps : Bool) (told : List ℕ) → story ≡ p ++ Did (Waited sleeps told) ∷ q → (n i : ℕ) → IsOpen n i p
    → ((watch n i p).turned ≡ true) ⊎ Excused share n i p

-- both, at a wait of more moments
abbrev pub Looks : ℕ → Story → Story → Type 0
Looks share story more = (p q : Story) (sleeps : Bool) (told : List ℕ) → more ≡ p ++ Did (Waited sleeps told) ∷ q → (n i : ℕ) → IsOpen n i (story ++ p)
    → (sleeps ≡ true → Rests n i (story ++ p)) × (((watch n i (story ++ p)).turned ≡ true) ⊎ Excused share n i (story ++ p))

-- ---- what the loop keeps

-- the queue, where it is known, the slots that had a turn in this phase of a round, and in the first one how many
-- connections of each group were heard, where that is known
pub record Queued : Type 1 where
  pub line : Option Line
  pub had : ℕ → Type 0
  pub counts : Option (List ℕ)

-- no slot has had a turn
abbrev pub nobody : Line → Queued
nobody line = record { line = Some line; had = λ i. ⊥; counts = Some [] }

-- each slot has had one
abbrev pub everybody : Line → Queued
everybody line = record { line = Some line; had = λ i. Unit {0}; counts = None }

-- a slot that stands in the queue before this place has had one
abbrev pub those_before : Line → ℕ → List ℕ → Queued
those_before line place counts = record { line = Some line; had = IsBefore line.order place; counts = Some counts }

-- nothing is known of the queue: the server ends
abbrev pub unqueued : Queued
unqueued = record { line = None; had = λ i. Unit {0}; counts = None }

-- a line is whole in these bytes
abbrev pub HasLine : List ℕ → Type 0
HasLine bytes = (chunk : List ℕ) × (after : List ℕ) × (bytes ≡ chunk ++ 10 ∷ after) × HasNoLf chunk

-- bytes are left only from a whole line on, or after a line that asked to quit
abbrev pub LeavesLine : Bool → List ℕ → Type 0
LeavesLine quit rest = (rest ≡ [] → ⊥) → quit ≡ false → HasLine rest

-- what a read says of whether more may wait to be read: only where it filled its buffer
abbrev pub TellsMore : List Act → Bool → Type 0
TellsMore (Read m bytes ∷ []) more = more ≡ fills bytes
TellsMore (Dry m ∷ []) more = more ≡ false
TellsMore (Ended m ∷ []) more = more ≡ false
TellsMore (Broke m ∷ []) more = more ≡ false
TellsMore acts more = ⊥

-- lines of a client wait only where one is whole, and then it is known that more bytes may wait
pub record IsKept (v : View) : Type 0 where
  pub more : (v.waiting ≡ [] → ⊥) → v.more ≡ true
  pub whole : (v.waiting ≡ [] → ⊥) → v.quits ≡ false → HasLine v.waiting

-- before a client's turn: where answers wait to be written, it is known that more bytes may wait
abbrev pub IsUnread : View → Type 0
IsUnread v = (v.pending ≡ [] → ⊥) → v.more ≡ true

-- after the first half of a turn: where more bytes may wait, it is known
abbrev pub IsHeard : View → Watch → Type 0
IsHeard v w = v.quits ≡ false → v.more ≡ false → w.unread ≡ false

-- nothing is owed to a client
abbrev pub IsStill : View → Watch → Type 0
IsStill v w = ((v.pending ≡ []) × (v.waiting ≡ []) × (v.more ≡ false) × (w.unread ≡ false)) ⊎ ((v.pending ≡ [] → ⊥) × (v.more ≡ true) × (w.unasked ≡ false))

-- a client had its turn, or nothing was owed to it at the last wait
abbrev pub Had : Watch → Type 0 → Type 0
Had w rested = (w.turned ≡ true) ⊎ rested

-- it had its turn, or has it in the second half of the round
abbrev pub HasHalf : View → Watch → Type 0
HasHalf v w = (w.turned ≡ true) ⊎ (v.pending ≡ [] → ⊥) ⊎ (v.quits ≡ true)

-- a slot has a turn next
abbrev pub IsDue : Line → ℕ → View → Type 0
IsDue line i v = (awake_in line i ≡ true) × IsUnread v

-- how a client stands in a phase of a round
abbrev pub Stance : Phase → Line → (ℕ → Type 0) → ℕ → View → Watch → Type 0 → Type 0
Stance Phase.Reads line had i v w rested =
    (IsHeard v w × ((had i × (stands_in line i ≡ true) × (HasHalf v w ⊎ rested)) ⊎ (IsStill v w × Had w rested))) ⊎ (IsDue line i v × (had i → ⊥))
Stance Phase.Writes line had i v w rested =
    IsHeard v w × (((IsDue line i v ⊎ IsStill v w) × Had w rested) ⊎ ((stands_in line i ≡ true) × (HasHalf v w ⊎ rested) × (had i → ⊥)))
Stance Phase.Sweeps line had i v w rested = (IsDue line i v ⊎ IsStill v w) × Had w rested

pub record IsAlert (share : ℕ) (phase : Phase) (line : Line) (had : ℕ → Type 0) (i : ℕ) (v : View) (story : Story) : Type 0 where
  pub seat : (j : ℕ) → list_any (is_seat j) (acts_in (own v.number story)) ≡ true → j ≡ i
  pub kept : IsKept v
  pub stance : Stance phase line had i v (watch v.number i story) (Excused share v.number i story)

abbrev pub AlertIn : ℕ → Phase → Option Line → (ℕ → Type 0) → ℕ → View → Story → Type 0
AlertIn share phase None had i v story = Unit {0}
AlertIn share phase (Some line) had i v story = IsAlert share phase line had i v story

abbrev pub Alert : ℕ → Phase → Queued → ℕ → View → Story → Type 0
Alert share phase queued i v story = AlertIn share phase queued.line queued.had i v story

-- ---- the halves of a turn

-- Lines of a client were heard: where a whole one waited and its record had room, at least one was run.
-- What is left begins with a whole line, and then it is known that more bytes may wait.
pub record HearsAll (room : Type 0) (v v' : View) (turns : List Turn) : Type 0 where
  pub some : room → HasLine v.waiting → 0 < length turns
  pub left : (v'.waiting ≡ [] → ⊥) → v'.more ≡ true
  pub whole : (v'.waiting ≡ [] → ⊥) → v'.quits ≡ false → HasLine v'.waiting
  pub more : v.more ≡ true → v'.more ≡ true
  pub less : v'.more ≡ false → v.more ≡ false

-- what the first half does to what is known of a client
abbrev pub Listens : View → View → Story → Type 0
Listens v v' more = (i : ℕ) (w : Watch) → IsKept v → IsUnread v ⊎ IsHeard v w
    → IsKept v' × IsHeard v' (watch_since v.number i w more) × HasHalf v' (watch_since v.number i w more)

-- what the second half does
abbrev pub Relays : View → View → Story → (View → Watch → Type 0) → Type 0
Relays v v' more so = (i : ℕ) (w : Watch) → IsKept v → IsHeard v w
    → IsKept v' × IsHeard v' (watch_since v.number i w more) × so v' (watch_since v.number i w more)
    × (HasHalf v w → (watch_since v.number i w more).turned ≡ true)

-- where a client goes on at once, where nothing is owed to it
abbrev pub IsUnpended : View → Watch → Type 0
IsUnpended v w = v.pending ≡ []

abbrev pub FateTells : Fate → View → View → Story → Type 0
FateTells fate.Ready v v' more = Relays v v' more IsUnpended
FateTells fate.Drained v v' more = Relays v v' more IsStill
FateTells fate.Blocked v v' more = Relays v v' more IsStill
FateTells (fate.Ends how) v v' more = Unit {0}

-- or it is passed over, since its group has had its share
abbrev pub Skips : ℕ → List ℕ → View → View → Story → Type 0
Skips share counts v v' more = (share ≤ count_in counts (group_of v.who)) × (v'.number ≡ v.number) × (IsKept v → IsKept v') × (v'.more ≡ true) × (more ≡ [])

-- the same for a slot
abbrev pub SlotListens : ℕ → List ℕ → Option View → Option View → Story → Type 0
SlotListens share counts (Some v) (Some v') more = Listens v v' more ⊎ Skips share counts v v' more
SlotListens share counts None new more = Unit {0}
SlotListens share counts (Some v) None more = Unit {0}

-- a client was closed, or it is as it was and nothing happened
abbrev pub IsClosedOr : Bool → Option View → Option View → Story → Type 0
IsClosedOr true old new more = new ≡ None
IsClosedOr false old new more = (new ≡ old) × (more ≡ [])

abbrev pub LeftTells : Left → View → View → Story → Type 0
LeftTells left.More v v' more = Relays v v' more IsUnpended
LeftTells left.Passed v v' more = Relays v v' more IsUnpended
LeftTells left.Nothing v v' more = Relays v v' more IsStill
LeftTells left.Blocked v v' more = Relays v v' more IsStill
LeftTells left.Closed v v' more = ⊥

abbrev pub SlotTells : Left → Option View → Option View → Story → Type 0
SlotTells left (Some v) (Some v') more = LeftTells left v v' more
SlotTells left None new more = Unit {0}
SlotTells left (Some v) None more = Unit {0}
