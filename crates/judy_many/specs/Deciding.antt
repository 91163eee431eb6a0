-- What the loop decides by itself: when it listens, how long it waits, when the journal is synced.
--     woken comes l, freed closed l    whether connections are accepted after a wait, after a close
--     may_accept l now                 whether to accept now
--     syncs_now rule since now         whether what was kept is synced now
--     is_owed j                        whether a sync of the journal is left for later
--     asks_for_time limits l           whether the clock is asked
--     wait_of busy asked               for how long the loop waits
--     over limits since came now       why the time of a client is over, if it is
use Rattle.std.specs.Prelude.{◌&&◌, ◌||◌, ℕ, Bool, true, false, not, Option, Some, None, is_some, if◌then◌else◌}
use Rattle.judy_many.specs.Books.{Journal}
use Rattle.judy_many.specs.Times.{is_past}
use Rattle.judy_many.specs.declared.arrivals.Arrival.{Arrival}
use Rattle.judy_many.specs.declared.arrivals.Arrival.TheVariants as arrival
use Rattle.judy_many.specs.declared.buffers.Sent.{Sent}
use Rattle.judy_many.specs.declared.buffers.Sent.TheVariants as sent
use Rattle.judy_many.specs.declared.clients.Listening.{Listening}
use Rattle.judy_many.specs.declared.clients.Listening.TheVariants as listening
use Rattle.judy_many.specs.declared.network.How.{How}
use Rattle.judy_many.specs.declared.network.How.TheVariants as how
use Rattle.judy_many.specs.declared.network.Sync.{Sync}
use Rattle.judy_many.specs.declared.network.Sync.TheVariants as sync
use Rattle.judy_many.specs.declared.serve.Limits.{Limits}

-- a wait says whether a connection can be accepted; where none is expected that is news
abbrev pub woken : Bool → Listening → Listening
woken true listening.Quiet = listening.Ready
woken _ l = l

-- a close makes room for one that waits
abbrev pub freed : Bool → Listening → Listening
freed false l = l
freed true listening.Quiet = listening.Quiet
freed true _ = listening.Ready

abbrev pub is_paused : Listening → Bool
is_paused (listening.Paused since) = true
is_paused _ = false

-- an accept that failed is tried again a second later
abbrev pub may_accept : Listening → Option ℕ → Bool
may_accept listening.Quiet now = false
may_accept listening.Ready now = true
may_accept listening.Full now = false
may_accept (listening.Paused since) now = is_past (Some 1) since now

-- after an accept, at this second
abbrev pub listening_after : Arrival → ℕ → Listening
listening_after arrival.Came now = listening.Ready
listening_after arrival.Nothing now = listening.Quiet
listening_after arrival.Later now = listening.Paused now
listening_after arrival.Fault now = listening.Quiet

abbrev pub syncs_now : Sync → ℕ → Option ℕ → Bool
syncs_now sync.Round since now = true
syncs_now sync.Never since now = false
syncs_now (sync.Seconds limit) since now = is_past (Some limit) since now

abbrev pub is_timed : Sync → Bool
is_timed sync.Round = false
is_timed sync.Never = false
is_timed (sync.Seconds limit) = true

abbrev pub is_owed : Option Journal → Bool
is_owed None = false
is_owed (Some j) = is_timed j.rule && not j.clean

abbrev pub asks_for_time : Limits → Listening → Bool
asks_for_time limits l = is_some limits.login || is_some limits.idle || is_some limits.turn || is_paused l

-- in milliseconds: not at all, a second, or until something happens
abbrev pub wait_of : Bool → Bool → Option ℕ
wait_of true asked = Some 0
wait_of false true = Some 1000
wait_of false false = None

-- when a client last took a byte or sent one, after a write
abbrev pub moved : Sent → ℕ → ℕ → ℕ
moved sent.Some since now = now
moved sent.Nothing since now = since
moved sent.Fault since now = since

abbrev pub over : Limits → ℕ → ℕ → Option ℕ → Option How
over limits since came now = if is_past limits.idle since now then Some how.Idle
    else if is_past limits.turn came now then Some how.Over else None
