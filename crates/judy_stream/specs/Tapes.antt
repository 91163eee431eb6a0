-- The source and the sink in memory: their states, and what their calls do.
use Rattle.std.specs.Prelude.{ℕ, ◌+◌, ◌-◌, ◌==◌, ◌++◌, Bool, false, not, min, nat_lt, nat_le, if◌then◌else◌, filter, fold, List}
use Rattle.std.specs.Prelude.{[], ◌∷◌, length, take, Option, None, Some}
use Rattle.judy_stream.specs.declared.Pull.{Pull}
use Rattle.judy_stream.specs.declared.Pull.TheVariants.{Bytes, End, Fault}
use Rattle.judy_stream.specs.declared.Push.{Push}
use Rattle.judy_stream.specs.declared.Push.TheVariants.{Took, Fault as PushFault}
use Rattle.judy_stream.specs.declared.memory.Refusal.{Refusal}
use Rattle.judy_stream.specs.declared.memory.Refusal.TheVariants.{TakesNothing, Fails}
use Rattle.judy_stream.specs.Streams.{given, taken_by, gave_after, ends_after, faults_after, push_faults_after}
use Rattle.judy_stream.specs.Streams.{flush_faults_after, pending_after, pending_flushed}

-- a tape: its bytes, where pulls stop, the most bytes of one pull, where a pull fails, how far it
-- was read, and its counts
pub record TapeState : Type 0 where
  pub whole : List ℕ
  pub cuts : List ℕ
  pub step : ℕ
  pub fails_at : Option ℕ
  pub at : ℕ
  pub gave : ℕ
  pub ends : ℕ
  pub faults : ℕ

-- the least of `bound` and the places above `at`
abbrev pub next_stop : ℕ → List ℕ → ℕ → ℕ
next_stop at places bound = fold min bound (filter (nat_lt at) places)

-- all places at which pulls stop: where the tape fails, and the cuts
abbrev pub stops : Option ℕ → List ℕ → List ℕ
stops None cuts = cuts
stops (Some place) cuts = place ∷ cuts

-- whether the place is the one at which something fails
abbrev pub fails_here : ℕ → Option ℕ → Bool
fails_here at None = false
fails_here at (Some place) = at == place

-- where something will still fail, after a try at a place: it fails only once
abbrev pub fails_later : ℕ → Option ℕ → Option ℕ
fails_later at place = if fails_here at place then None else place

-- how many bytes a tape gives into this much room: at most the room and the step, and none past the
-- next stop or the end
abbrev pub piece_len : TapeState → ℕ → ℕ
piece_len tape room =
    min room (min tape.step (next_stop tape.at (stops tape.fails_at tape.cuts) (length tape.whole) - tape.at))

-- a tape's answer to a pull into this much room: a fault where it fails, the end after its last
-- byte, otherwise a part of the bytes
abbrev pub tape_answer : TapeState → ℕ → Pull
tape_answer tape room =
    if fails_here tape.at tape.fails_at
    then Fault
    else (if nat_le (length tape.whole) tape.at
    then End
    else Bytes (piece_len tape room))

-- a tape after an answer: past the bytes that it gave, past its fault if it failed, with the answer
-- counted
abbrev pub tape_after : Pull → TapeState → TapeState
tape_after answer tape = record tape {
  fails_at = fails_later tape.at tape.fails_at;
  at = tape.at + given answer;
  gave = gave_after answer tape.gave;
  ends = ends_after answer tape.ends;
  faults = faults_after answer tape.faults;
}

-- a page: its bytes, its limit, how it refuses bytes, after how many bytes a push and a flush fail,
-- whether bytes wait for a flush, and its count
pub record PageState : Type 0 where
  pub bytes : List ℕ
  pub limit : ℕ
  pub refusal : Refusal
  pub push_fails_at : Option ℕ
  pub flush_fails_at : Option ℕ
  pub pending : Bool
  pub faults : ℕ

-- the answer to a push of bytes that are refused
abbrev pub refused : Refusal → Push
refused TakesNothing = Took 0
refused Fails = PushFault

-- how many of these bytes a page takes: none past its limit or past the place where a push fails
abbrev pub page_room : PageState → ℕ → ℕ
page_room page len = min len (next_stop (length page.bytes) (stops page.push_fails_at []) page.limit - length page.bytes)

-- a page's answer to a push of this many bytes: a refusal where a push fails or the page is full,
-- otherwise what it takes
abbrev pub page_answer : PageState → ℕ → Push
page_answer page len =
    if fails_here (length page.bytes) page.push_fails_at
    then refused page.refusal
    else (if nat_lt (length page.bytes) page.limit
    then Took (page_room page len)
    else refused page.refusal)

-- a page after an answer to a push: it appends the bytes that it took, and counts a failure
abbrev pub page_after : Push → List ℕ → PageState → PageState
page_after answer pushed page = record page {
  bytes = page.bytes ++ take (taken_by answer) pushed;
  push_fails_at = fails_later (length page.bytes) page.push_fails_at;
  pending = pending_after answer page.pending;
  faults = push_faults_after answer page.faults;
}

-- a page's answer to a flush: false where a flush fails
abbrev pub page_flush : PageState → Bool
page_flush page = not (fails_here (length page.bytes) page.flush_fails_at)

-- a page after a flush: it counts a failure, and is otherwise unchanged
abbrev pub page_flushed : Bool → PageState → PageState
page_flushed answer page = record page {
  flush_fails_at = fails_later (length page.bytes) page.flush_fails_at;
  pending = pending_flushed answer page.pending;
  faults = flush_faults_after answer page.faults;
}
