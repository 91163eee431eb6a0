-- One accept.
use Rattle.std.proofs.Common.{◌≡◌, ◌<◌, ◌+◌, ◌++◌, ℕ, Bool, true, List, length, Option, None, sym, ◌∙◌, ap, subst, slice_set, slice_index_or}
use Rattle.std.specs.Prelude.{if◌then◌else◌, option_map}
use Rattle.judy_many.specs.Arrivals.{Arrives}
use Rattle.judy_many.specs.Came.{has_come}
use Rattle.judy_many.specs.Crowds.{Crowd, Past}
use Rattle.judy_many.specs.Endings.{lost_at}
use Rattle.judy_many.specs.Lives.{View}
use Rattle.judy_many.specs.Nets.{Acts, DidLog}
use Rattle.judy_many.specs.Queues.{Line, StayAwake, awake_in}
use Rattle.judy_many.specs.Rules.{Rules}
use Rattle.judy_many.specs.Stories.{Story, acts_in}
use Rattle.judy_many.specs.Stories.Phase.{Reads}
use Rattle.judy_many.specs.declared.arrivals.Arrival.{Arrival}
use Rattle.judy_many.specs.declared.serve.Limits.{Limits}
use Rattle.judy_many.specs.Watches.{nobody}
use Rattle.judy_many.proofs.Crowding.{crowd_seat}
use Rattle.judy_many.proofs.Living.{cut_log}
use Rattle.judy_many.proofs.Seats.{free_slot}

-- the client is in its slot, if one came; that the listener is lost, if it is, is the last answer
pub accepted : {B S : Type 0} (view : B → View) (rules : Rules S) (limits : Limits) (first : S) (start : Acts) (past : Past) (now : S) (line line' : Line)
    (log log' : Acts) (slots : List (Option B)) (count i one : ℕ) (came : Bool) (arrival : Arrival) (s : Option B)
    → StayAwake line line' → (came ≡ true → i < 1024 → awake_in line' i ≡ true) → i < length slots → slice_index_or slots i None ≡ None → count < limits.connections
    → came ≡ has_come arrival → one ≡ (if came then 1 else 0)
    → ((more : Story) × DidLog log (acts_in more ++ lost_at arrival) log' × Arrives count i (has_come arrival) (option_map view s) more)
    → Crowd view rules limits first start Reads (nobody line) past log slots count now
    → (mid : Acts) × DidLog mid (lost_at arrival) log'
    × Crowd view rules limits first start Reads (nobody line') past mid (slice_set slots i s) (count + one) now
accepted view rules limits first start past now line line' log log' slots count i one came arrival s stay wakes within free few is once (more, did, arrives) h =
    let cut = cut_log log log' (acts_in more) (lost_at arrival) did in
    let sum : count + (if has_come arrival then 1 else 0) ≡ count + one
    = ap (λ n. count + n) (sym (once ∙ ap (λ (b : Bool). (if b then 1 else 0)) is)) in (
      cut.0,
      cut.2,
      subst (λ k. Crowd view rules limits first start Reads (nobody line') past cut.0 (slice_set slots i s) k now) sum
          (crowd_seat view rules limits first start line line' past log cut.0 slots count now i (has_come arrival) s more stay (λ e. wakes (is ∙ e)) within
          (λ b. free_slot slots i b free) few h cut.1 arrives),
    )
