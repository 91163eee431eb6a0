-- What a service does with lines and with a new table, and what is seen of it.
--     Rules S         the steps of a service of kind S, and what they are judged by
use Rattle.std.specs.Prelude.{ℕ, List, Option}
use Rattle.judy_model.specs.Speakers.{Speaker}
use Rattle.judy_model.specs.Stream.{Heard}
use Rattle.judy_protocol.specs.Services.{Made, Seen}

-- the step of counting a line that was run: who speaks after it, what it asked for, and its answer
abbrev pub Noted : Type 0 → Type 1
Noted S = S → Option Speaker → Heard → List ℕ → S → Type 0

pub record Rules (S : Type 0) : Type 1 where
  -- the step of a call, with its reply
  pub made : Made S
  -- what a connection relies on
  pub seen : S → Seen
  -- the step of counting a line
  pub noted : Noted S
  -- the text of the status, with who speaks on each open connection
  pub status : S → List (Option Speaker) → List ℕ
  -- the step in which the table of a text is put in force
  pub changed : S → List ℕ → S → Type 0
  -- after how many bytes of records since the last snapshot the journal takes no more of the tenant at a place, if
  -- it has such a limit
  pub caps : S → ℕ → Option ℕ
  -- the names of the tenants that are gone once the table of a text is in force
  pub leavers : S → List ℕ → List (List ℕ)

abbrev pub rules_of : {S : Type 0} → Made S → (S → Seen) → Noted S → (S → List (Option Speaker) → List ℕ) → (S → List ℕ → S → Type 0) → (S → ℕ → Option ℕ)
    → (S → List ℕ → List (List ℕ)) → Rules S
rules_of made seen noted status changed caps leavers =
    record { made = made; seen = seen; noted = noted; status = status; changed = changed; caps = caps; leavers = leavers }
