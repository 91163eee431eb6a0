-- Which lines a counter counts, over many lines.
--     asks place t            the line asks for what is counted at this place
--     answers place t         its answer is of the kind that is counted at this place
--     speaks_at place t       the tenant at this place speaks after it; `fills`, and its answer is `FULL`
--     refuses tenants who t   it is a log-in that was refused, with the name of the tenant at this place, or of none
--     risen count n           a counter after n more
--     counted_over test keep count rows story   a counter after the lines and tables of a story
--     AreCounted tenants story tally   the counts since a start, after this story
use Rattle.std.specs.Prelude.{◌≡◌, ◌<◌, ◌+◌, ◌-◌, ◌^◌, ◌==◌, ◌&&◌, ℕ, Bool, true, false, List, [], ◌∷◌, Option, Some, None, count_by, if◌then◌else◌, map, min, slice_get, slice_index, unwrap_or}
use Rattle.judy_many.specs.Sessions.{Turn, text_of}
use Rattle.judy_many.specs.Stories.{Story, turns_in}
use Rattle.judy_many.specs.Stories.Moment.{Changed, Did, Ran}
use Rattle.judy_table.specs.Tenants.{is_vacant, place_of}
use Rattle.judy_table.specs.declared.tenant.Tenant.{Tenant}
use Rattle.judy_server.specs.Present.{speaks_for}
use Rattle.judy_server.specs.Reloads.{rows_with}
use Rattle.judy_server.specs.Tally.{call_place, refused_name, reply_place}
use Rattle.judy_server.specs.declared.tally.Tally.{Tally}
use Rattle.judy_server.specs.declared.tally.TheConstants.{CALLS}

abbrev pub asks : ℕ → Turn → Bool
asks place t = call_place t.line == place

abbrev pub answers : ℕ → Turn → Bool
answers place t = reply_place (text_of t) == place

-- the tenant at this place speaks after it
abbrev pub speaks_at : ℕ → Turn → Bool
speaks_at place t = speaks_for place t.after

-- and the answer is `FULL`
abbrev pub fills : ℕ → Turn → Bool
fills place t = answers 1 t && speaks_at place t

-- both are no place, or both are this one
abbrev pub is_place : Option ℕ → Option ℕ → Bool
is_place None None = true
is_place None (Some q) = false
is_place (Some p) None = false
is_place (Some p) (Some q) = p == q

abbrev pub is_refused_to : List Tenant → Option ℕ → Option (List ℕ) → Bool
is_refused_to tenants who None = false
is_refused_to tenants who (Some name) = is_place (place_of name tenants) who

abbrev pub refuses : List Tenant → Option ℕ → Turn → Bool
refuses tenants who t = is_refused_to tenants who (refused_name t.line (text_of t))

-- counters saturate
abbrev pub risen : ℕ → ℕ → ℕ
risen count n = min (count + n) (2 ^ 64 - 1)

-- ---- over new tables

-- the lines that pass a test of the table in force are counted; a new table keeps some of the count
abbrev pub counted_over : (List Tenant → Turn → Bool) → (List Tenant → ℕ → ℕ) → ℕ → List Tenant → Story → ℕ
counted_over test keep count rows [] = count
counted_over test keep count rows (Did a ∷ story) = counted_over test keep count rows story
counted_over test keep count rows (Ran n turns ∷ story) = counted_over test keep (risen count (count_by (test rows) turns)) rows story
counted_over test keep count rows (Changed text left ∷ story) = counted_over test keep (keep (rows_with rows text) count) (rows_with rows text) story

-- no tenant has this place
abbrev pub is_vacant_at : List Tenant → ℕ → Bool
is_vacant_at rows place = unwrap_or (slice_get (map is_vacant rows) place) false

-- what is counted of a place that has no tenant is forgotten
abbrev pub kept_at : ℕ → List Tenant → ℕ → ℕ
kept_at place rows count = if is_vacant_at rows place then 0 else count

-- the refused log-ins of a place: of the tenants who had it, those since it had none
abbrev pub refused_over : ℕ → List Tenant → Story → ℕ
refused_over place rows story = counted_over (λ rows. refuses rows (Some place)) (kept_at place) 0 rows story

-- the lines of a place's tenants, and those that were answered `FULL`, since it had none
abbrev pub spoken_over : ℕ → List Tenant → Story → ℕ
spoken_over place rows story = counted_over (λ rows. speaks_at place) (kept_at place) 0 rows story

abbrev pub full_over : ℕ → List Tenant → Story → ℕ
full_over place rows story = counted_over (λ rows. fills place) (kept_at place) 0 rows story

-- log-ins with a name that no tenant had
abbrev pub unknown_over : List Tenant → Story → ℕ
unknown_over rows story = counted_over (λ rows. refuses rows None) (λ rows count. count) 0 rows story

-- Each counter is the number of the lines that it counts, or its most. Lines and replies are counted
-- whatever the table, refused log-ins by the table in force. A line counts for the tenant that speaks after it:
-- a log-in that succeeds counts for its tenant, and one that is refused for none.
pub record AreCounted (tenants : List Tenant) (story : Story) (tally : Tally) : Type 0 where
  pub lines : (place : ℕ) → place < CALLS → slice_index tally.lines place ≡ risen 0 (count_by (asks place) (turns_in story))
  pub replies : (place : ℕ) → place < 10 → slice_index tally.replies place ≡ risen 0 (count_by (answers place) (turns_in story))
  pub logins : (place : ℕ) → place < 128 → slice_index tally.refused place ≡ refused_over place tenants story
  pub unknown : tally.unknown ≡ unknown_over tenants story
  pub spoken : (place : ℕ) → place < 128 → slice_index tally.spoken place ≡ spoken_over place tenants story
  pub full : (place : ℕ) → place < 128 → slice_index tally.full place ≡ full_over place tenants story
