-- The command line in terms of `clap`'s definitions of a simple command, and the job that its words
-- ask for.
use Rattle.std.specs.Prelude.{ℕ, ◌⊎◌, ◌≢◌, ◌≤◌, Bool, true, false, List, [], ◌∷◌, Option, Some, codes, not, unwrap_or}
use Rattle.std.specs.Prelude.{◌≡◌, ◌&&◌, ◌||◌, IfSome, None, is_some, option_map, pos, if◌then◌else◌}
use Rattle.std.specs.Option.{option_map_or}
use Rattle.std.specs.Str.{bytes_eq}
use Rattle.std.specs.Str.Parse.{digits_value, without_leading_plus}
use Rattle.clap.specs.Words.{App, Kinds, IsAmong, Row, Rule, Text, first_of, new_app, new_rule}
use Rattle.clap.specs.Words.{fault_of, subcommand_of, with_rule, with_subcommand}
use Rattle.clap.specs.Kinds.{or_else}
use Rattle.clap.specs.ValueTests.{is_unsigned_in}
use Rattle.clap.specs.declared.builder.ArgAction.TheVariants.{Set, SetTrue}
use Rattle.clap.specs.declared.builder.value_parser.ValueParser.TheVariants as parser
use Rattle.clap.specs.declared.error.ErrorKind.{ErrorKind}
use Rattle.clap.specs.declared.error.ErrorKind.TheVariants as kind
use Rattle.judy_command.specs.declared.words.Limits.{Limits}
use Rattle.judy_command.specs.declared.words.Paths.{Paths}
use Rattle.judy_command.specs.declared.words.Refusal.{Refusal}
use Rattle.judy_command.specs.declared.words.Refusal.TheVariants.{Help, Usage, Memory}
use Rattle.judy_command.specs.declared.words.Job.{Job}
use Rattle.judy_command.specs.declared.words.Job.TheVariants.{Run, Serve, Compact, Repair, Journal}
use Rattle.judy_command.specs.declared.words.Sync.{Sync}
use Rattle.judy_command.specs.declared.words.Sync.TheVariants.{Round, Seconds, Never}

-- ---- the arguments and the five commands

abbrev pub flag_rule : Text → Rule
flag_rule name = record (new_rule name) { long = Some name; action = Some SetTrue }

abbrev pub valued_rule : Text → Rule
valued_rule name = record (new_rule name) { long = Some name; action = Some Set; value_names = 1 }

abbrev pub needed_rule : Text → Rule
needed_rule name = record (valued_rule name) { required = true }

-- a value that must be given, without a name
abbrev pub placed_rule : Text → Rule
placed_rule name = record (new_rule name) { required = true; action = Some Set; value_names = 1 }

-- a number from 1 to 4294967295
abbrev pub number_rule : Text → Rule
number_rule name = record (valued_rule name) { parser = Some (parser.Signed (pos 1) (pos 4294967295)) }

-- a number from 1 to 1024
abbrev pub limited_rule : Text → Rule
limited_rule name = record (valued_rule name) { parser = Some (parser.Signed (pos 1) (pos 1024)) }

-- a number from 1 to 131072
abbrev pub reserve_rule : Rule
reserve_rule = record (valued_rule (codes "reserve")) { parser = Some (parser.Signed (pos 1) (pos 131072)) }

-- 64 unless it is given
abbrev pub clients_rule : Rule
clients_rule = record (limited_rule (codes "clients")) { defaults = codes "64" ∷ [] }

abbrev pub tenant_clients_rule : Rule
tenant_clients_rule = limited_rule (codes "tenant-clients")

-- 8 unless it is given
abbrev pub share_rule : Rule
share_rule = record (limited_rule (codes "share")) { defaults = codes "8" ∷ [] }

abbrev pub segment_rule : Rule
segment_rule = limited_rule (codes "segment")

-- 4294967295 unless it is given
abbrev pub connections_rule : Rule
connections_rule = record (number_rule (codes "connections")) { defaults = codes "4294967295" ∷ [] }

-- 10 unless it is given
abbrev pub login_rule : Rule
login_rule = record (number_rule (codes "login")) { defaults = codes "10" ∷ [] }

-- `run [--words] [--batch]`
abbrev pub run_app : App
run_app = with_rule (with_rule (new_app (codes "run")) (flag_rule (codes "words"))) (flag_rule (codes "batch"))

-- `--config FILE --socket PATH [--status PATH] [--control PATH]`
abbrev pub with_places : App → App
with_places a = with_rule (with_rule (with_rule (with_rule a (needed_rule (codes "config"))) (needed_rule (codes "socket"))) (valued_rule (codes "status"))) (valued_rule (codes "control"))

-- `[--login SECONDS] [--idle SECONDS] [--turn SECONDS]`
abbrev pub with_times : App → App
with_times a = with_rule (with_rule (with_rule a login_rule) (number_rule (codes "idle"))) (number_rule (codes "turn"))

-- `[--clients N] [--tenant-clients N] [--share N]`
abbrev pub with_clients : App → App
with_clients a = with_rule (with_rule (with_rule a clients_rule) tenant_clients_rule) share_rule

-- `[--clients N] [--tenant-clients N] [--share N] [--connections N]`, and the limits of time
abbrev pub with_limits : App → App
with_limits a = with_times (with_rule (with_clients a) connections_rule)

-- `[--journal DIR] [--sync WHEN] [--segment MB] [--new-journal]`
abbrev pub with_journal : App → App
with_journal a = with_rule (with_rule (with_rule (with_rule a (valued_rule (codes "journal"))) (valued_rule (codes "sync"))) segment_rule) (flag_rule (codes "new-journal"))

-- `serve --config FILE --socket PATH [--status PATH] [--control PATH] [--clients N] [--tenant-clients N]
-- [--share N] [--connections N] [--login SECONDS] [--idle SECONDS] [--turn SECONDS] [--reserve MB] [--journal DIR]
-- [--sync WHEN] [--segment MB] [--new-journal] [--check]`
abbrev pub serve_app : App
serve_app = with_rule (with_journal (with_rule (with_limits (with_places (new_app (codes "serve")))) reserve_rule)) (flag_rule (codes "check"))

-- `compact DIR`
abbrev pub compact_app : App
compact_app = with_rule (new_app (codes "compact")) (placed_rule (codes "directory"))

-- `repair DIR [--yes] [--drop-later]`
abbrev pub repair_app : App
repair_app = with_rule (with_rule (with_rule (new_app (codes "repair")) (placed_rule (codes "directory"))) (flag_rule (codes "yes"))) (flag_rule (codes "drop-later"))

-- `journal DIR [--tenant NAME] [--new] [--check]`
abbrev pub journal_app : App
journal_app = with_rule (with_rule (with_rule (with_rule (new_app (codes "journal")) (placed_rule (codes "directory"))) (valued_rule (codes "tenant"))) (flag_rule (codes "new"))) (flag_rule (codes "check"))

-- one of the five commands is required; the words do not include the program's name
abbrev pub bare_app : App
bare_app = record (new_app (codes "judyd")) {
  top = record (new_app (codes "judyd")).top { has_version = true; no_binary_name = true; subcommand_required = true };
}

abbrev pub judyd_app : App
judyd_app = with_subcommand (with_subcommand (with_subcommand (with_subcommand (with_subcommand bare_app run_app.top) serve_app.top) compact_app.top) repair_app.top) journal_app.top

-- ---- what the words ask for

-- the flag was given
abbrev pub is_set : Text → List Row → Bool
is_set id rows = option_map_or (λ t. bytes_eq t (codes "true")) (first_of id rows) false

-- the most clients at once, the most megabytes, and the most of anything else that is counted
abbrev pub most_clients : ℕ
most_clients = 1024

abbrev pub most_megabytes : ℕ
most_megabytes = 131072

-- the most megabytes of a segment
abbrev pub most_segment : ℕ
most_segment = 1024

abbrev pub most_count : ℕ
most_count = 4294967295

-- the number of a text, if it is 1 to this number
abbrev pub number_in : ℕ → Text → ℕ
number_in most t = if is_unsigned_in 1 most t then digits_value 10 (without_leading_plus t) else most

-- the number given as an argument's value, or its default
abbrev pub number_given : ℕ → Text → List Row → Option ℕ
number_given most id rows = option_map (number_in most) (first_of id rows)

-- when the journal is synced: every so many seconds
abbrev pub seconds_in : Text → Option Sync
seconds_in t = if is_unsigned_in 1 most_count t then Some (Seconds (digits_value 10 (without_leading_plus t))) else None

-- when the journal is synced, as a word says it: `round`, `never`, or every so many seconds
abbrev pub sync_in : Text → Option Sync
sync_in t = if bytes_eq t (codes "round") then Some Round else if bytes_eq t (codes "never") then Some Never else seconds_in t

-- in each round, unless something else is given
abbrev pub sync_given : List Row → Sync
sync_given rows = option_map_or (λ t. unwrap_or (sync_in t) Round) (first_of (codes "sync") rows) Round

abbrev pub served : List Row → Job
served rows = Serve (unwrap_or (first_of (codes "config") rows) []) (unwrap_or (first_of (codes "socket") rows) []) (first_of (codes "status") rows) (first_of (codes "control") rows)
    (unwrap_or (number_given most_clients (codes "clients") rows) 64) (number_given most_clients (codes "tenant-clients") rows)
    (unwrap_or (number_given most_clients (codes "share") rows) 8)
    (unwrap_or (number_given most_count (codes "connections") rows) most_count)
    (unwrap_or (number_given most_count (codes "login") rows) 10)
    (number_given most_count (codes "idle") rows) (number_given most_count (codes "turn") rows)
    (number_given most_megabytes (codes "reserve") rows)
    (first_of (codes "journal") rows) (sync_given rows) (unwrap_or (number_given most_segment (codes "segment") rows) 64)
    (is_set (codes "new-journal") rows) (is_set (codes "check") rows)

-- the parts of a job: the paths and the limits of a server, and the directory of a journal
abbrev pub paths_in : List Row → Paths
paths_in rows = record {
  config = unwrap_or (first_of (codes "config") rows) [];
  socket = unwrap_or (first_of (codes "socket") rows) [];
  status = first_of (codes "status") rows;
  control = first_of (codes "control") rows;
  journal = first_of (codes "journal") rows;
}

abbrev pub limits_in : List Row → Limits
limits_in rows = record {
  clients = unwrap_or (number_given most_clients (codes "clients") rows) 64;
  tenant_clients = number_given most_clients (codes "tenant-clients") rows;
  share = unwrap_or (number_given most_clients (codes "share") rows) 8;
  connections = unwrap_or (number_given most_count (codes "connections") rows) most_count;
  login = unwrap_or (number_given most_count (codes "login") rows) 10;
  idle = number_given most_count (codes "idle") rows;
  turn = number_given most_count (codes "turn") rows;
  reserve = number_given most_megabytes (codes "reserve") rows;
}

abbrev pub directory_in : List Row → Text
directory_in rows = unwrap_or (first_of (codes "directory") rows) []

-- the job of the subcommand of this name with these matches
abbrev pub job_at : Text → List Row → Job
job_at name rows =
    if bytes_eq name (codes "run") then Run (is_set (codes "words") rows) (is_set (codes "batch") rows)
    else if bytes_eq name (codes "compact") then Compact (unwrap_or (first_of (codes "directory") rows) [])
    else if bytes_eq name (codes "repair") then Repair (unwrap_or (first_of (codes "directory") rows) []) (is_set (codes "yes") rows) (is_set (codes "drop-later") rows)
    else if bytes_eq name (codes "journal") then Journal (unwrap_or (first_of (codes "directory") rows) []) (first_of (codes "tenant") rows) (is_set (codes "new") rows) (is_set (codes "check") rows)
    else served rows

-- what clap does not see: a word after `--sync` that is none, and `--sync` without `--journal`
abbrev pub word_fault : Text → Option Text → Kinds
word_fault t journal =
    if not (is_some (sync_in t)) then kind.ValueValidation ∷ []
    else if is_some journal then [] else kind.MissingRequiredArgument ∷ []

abbrev pub sync_fault : List Row → Kinds
sync_fault rows = option_map_or (λ t. word_fault t (first_of (codes "journal") rows)) (first_of (codes "sync") rows) []

-- nor that `--new-journal` comes without `--journal`
abbrev pub new_fault : List Row → Kinds
new_fault rows =
    if is_set (codes "new-journal") rows && not (is_some (first_of (codes "journal") rows)) then kind.MissingRequiredArgument ∷ [] else []

-- nor that `--segment` does
abbrev pub segment_fault : List Row → Kinds
segment_fault rows =
    if is_some (first_of (codes "segment") rows) && not (is_some (first_of (codes "journal") rows)) then kind.MissingRequiredArgument ∷ [] else []

-- nor two of `--tenant`, `--new` and `--check`
abbrev pub are_two : Bool → Bool → Bool → Bool
are_two a b c = (a && b) || (a && c) || (b && c)

abbrev pub two_fault : List Row → Kinds
two_fault rows =
    if are_two (is_some (first_of (codes "tenant") rows)) (is_set (codes "new") rows) (is_set (codes "check") rows) then kind.ArgumentConflict ∷ [] else []

abbrev pub option_fault : List Row → Kinds
option_fault rows = or_else (sync_fault rows) (or_else (segment_fault rows) (or_else (new_fault rows) (two_fault rows)))

abbrev pub option_fault_of : Option (Text × List Row) → Kinds
option_fault_of found = option_map_or (λ p. option_fault p.1) found []

-- the kinds of these faults
abbrev pub IsOptionFault : Kinds → Type 0
IsOptionFault kinds = (kinds ≡ kind.ValueValidation ∷ []) ⊎ (kinds ≡ kind.MissingRequiredArgument ∷ []) ⊎ (kinds ≡ kind.ArgumentConflict ∷ [])

-- the fault of the words: of clap, or otherwise of an option
abbrev pub words_fault : List Text → Kinds
words_fault words = or_else (fault_of judyd_app words) (option_fault_of (subcommand_of judyd_app words))

abbrev pub job_of : Option (Text × List Row) → Option Job
job_of = option_map (λ p. job_at p.0 p.1)

-- clients, those of one tenant, a share, and the megabytes of a segment are 1 to 1024, those of the arrays 1 to 131072,
-- connections and seconds 1 to 4294967295
abbrev pub IsCount : ℕ → ℕ → Type 0
IsCount most n = (1 ≤ n) × (n ≤ most)

abbrev pub IsSync : Sync → Type 0
IsSync Round = Unit {0}
IsSync (Seconds n) = IsCount most_count n
IsSync Never = Unit {0}

abbrev pub IsInRange : Job → Type 0
IsInRange (Run words batch) = Unit {0}
IsInRange (Serve config socket status control clients tenant_clients share connections login idle turn reserve journal sync segment new_journal check) =
    IsCount most_clients clients × IfSome tenant_clients (IsCount most_clients) × IsCount most_clients share × IsCount most_count connections × IsCount most_count login
    × IfSome idle (IsCount most_count) × IfSome turn (IsCount most_count)
    × IfSome reserve (IsCount most_megabytes) × IsSync sync × IsCount most_segment segment
IsInRange (Compact directory) = Unit {0}
IsInRange (Repair directory sure drop_later) = Unit {0}
IsInRange (Journal directory tenant new check) = Unit {0}

-- a `Help` refusal comes from a request for help or the version, a `Usage` refusal from any other
-- fault
abbrev pub StopsBy : Kinds → Refusal → Type 0
StopsBy kinds (Help text) = IsAmong kind.DisplayHelp kinds ⊎ IsAmong kind.DisplayVersion kinds
StopsBy kinds (Usage text) = (k : ErrorKind) × IsAmong k kinds × (k ≢ kind.DisplayHelp) × (k ≢ kind.DisplayVersion)
StopsBy kinds Memory = Unit {0}

-- a usage text, or there was no memory for one
abbrev pub IsUsage : Refusal → Type 0
IsUsage (Help text) = ⊥
IsUsage (Usage text) = Unit {0}
IsUsage Memory = Unit {0}
