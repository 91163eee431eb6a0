-- What a service counts: lines by what they ask for, replies by their kind, and refused log-ins, lines and
-- `FULL` by tenant; and the names that records named and that the table lacks.
--     call_names, call_place line      what a line can ask for, and the place of its name there
--     reply_kinds, reply_place answer  the kinds of replies, and the place of an answer's kind there
--     refused_name line answer         the name of a log-in, if the line is one that was refused
--     last_name t                      the name that the last refused log-in had, if a tenant has it
--     no_counts                        nothing was counted yet
--     counted tenants who line answer t   the counts after one more line; this tenant speaks after it
--     is_among names name              whether this name is among these
--     with_absent, without_absent      a name was noted as absent; names are noted no more
--     Tallied                          a service with its counts
use Rattle.std.specs.Prelude.{◌||◌, ◌+◌, ℕ, Bool, not, List, [], ◌∷◌, ◌++◌, filter, length, nat_lt, Option, Some, None, codes, if◌then◌else◌}
use Rattle.std.specs.Prelude.{option_map, replicate, slice_index, slice_set, unwrap_or, ◌==◌}
use Rattle.std.specs.List.{list_any}
use Rattle.std.specs.Str.{bytes_eq}
use Rattle.judy_arena.specs.Blocks.{count_up}
use Rattle.judy_model.specs.Commands.{command_of, command_place, command_words}
use Rattle.judy_model.specs.Grammar.{at_command}
use Rattle.judy_model.specs.Replies.{line}
use Rattle.judy_model.specs.Speakers.{Speaker}
use Rattle.judy_model.specs.Stream.{Heard}
use Rattle.judy_model.specs.Stream.Heard.{Asked, TooLong, Unclear}
use Rattle.judy_model.specs.declared.calls.Call.{Call}
use Rattle.judy_model.specs.declared.calls.Call.TheVariants as call
use Rattle.judy_model.specs.declared.commands.Command.{Command}
use Rattle.judy_model.specs.declared.requests.Line.TheVariants as request
use Rattle.judy_table.specs.declared.tenant.Tenant.{Tenant}
use Rattle.judy_table.specs.Seats.{name_at}
use Rattle.judy_table.specs.Tenants.{place_of}
use Rattle.judy_tenants.specs.Held.{Held}
use Rattle.judy_server.specs.declared.absent.TheConstants.{ABSENT_LIMIT}
use Rattle.judy_server.specs.declared.calls.TheConstants.{HELLO, NAMES, NO_REQUEST, PING}
use Rattle.judy_server.specs.declared.tally.Tally.{Tally}
use Rattle.judy_server.specs.declared.tally.TheConstants.{CALLS}

-- ---- what a line asks for

-- the command that each request begins with, and `none` for a line that is no request
unfoldable pub call_names : List (List ℕ)
call_names =
    codes "AUTH" ∷ codes "QUIT" ∷ codes "USED" ∷ (command_words ++ codes "PING" ∷ codes "HELLO" ∷ codes "NAMES" ∷ codes "none" ∷ [])

-- the place there of a call that names no array
abbrev pub whole_place : Call → ℕ
whole_place (call.Names from n) = NAMES
whole_place _ = 2

-- the place there of a command; this one, if there is none
abbrev pub place_by : ℕ → Option Command → ℕ
place_by whole (Some command) = 3 + command_place command
place_by whole None = whole

-- The place of the command that makes a call. An insertion is counted by its command, whatever value it gives;
-- an addition by its own.
abbrev pub place_of_call : Call → ℕ
place_of_call call = place_by (whole_place call) (command_of call)

-- The place of what a line asks for. `proofs/lemmas/Commands.antt` proves that a request's name there is
-- its own command.
abbrev pub call_place : Heard → ℕ
call_place (Asked (request.Auth name token)) = 0
call_place (Asked request.Quit) = 1
call_place (Asked request.Ping) = PING
call_place (Asked request.Hello) = HELLO
call_place (Asked (request.Call call)) = place_of_call call
call_place Unclear = NO_REQUEST
call_place TooLong = NO_REQUEST

-- ---- replies

-- each refusal is a kind, and any other reply is `ok`
unfoldable pub reply_kinds : List (List ℕ)
reply_kinds = codes "ok" ∷ codes "full" ∷ codes "memory" ∷ codes "auth" ∷ codes "readonly" ∷ codes "syntax" ∷ codes "long" ∷ codes "clients" ∷ codes "frozen" ∷ codes "journal" ∷ []

-- the answers of the refusals, and the places of their kinds there
abbrev pub refusal_places : List (List ℕ × ℕ)
refusal_places =
    (line (codes "FULL"), 1) ∷ (line (codes "ERR MEMORY"), 2) ∷ (line (codes "ERR AUTH"), 3)
    ∷ (line (codes "ERR READONLY"), 4) ∷ (line (codes "ERR SYNTAX"), 5) ∷ (line (codes "ERR LONG"), 6) ∷ (line (codes "ERR CLIENTS"), 7)
    ∷ (line (codes "ERR FROZEN"), 8) ∷ (line (codes "ERR JOURNAL"), 9) ∷ []

unfoldable pub reply_place : List ℕ → ℕ
reply_place answer = unwrap_or (at_command answer refusal_places) 0

-- ---- log-ins

-- whether answers of this kind refuse a log-in: its name or its token is wrong, or its tenant has enough connections
abbrev pub refuses_login : ℕ → Bool
refuses_login place = (place == 3) || (place == 7)

-- the name of the log-in that the line asked for, if it was refused
abbrev pub refused_name : Heard → List ℕ → Option (List ℕ)
refused_name (Asked (request.Auth name token)) answer = if refuses_login (reply_place answer) then Some name else None
refused_name (Asked request.Quit) answer = None
refused_name (Asked request.Ping) answer = None
refused_name (Asked request.Hello) answer = None
refused_name (Asked (request.Call call)) answer = None
refused_name Unclear answer = None
refused_name TooLong answer = None

-- ---- counts

-- nothing was counted yet; there is a counter for each call, for each kind of reply, and for each place of a tenant
unfoldable pub no_counts : Tally
no_counts = record {
  lines = replicate CALLS 0;
  replies = replicate 10 0;
  refused = replicate 128 0;
  unknown = 0;
  logins = 0;
  last = None;
  spoken = replicate 128 0;
  full = replicate 128 0;
  absent = [];
}

-- the counter at a place goes up, unless it is at its most
abbrev pub bumped : List ℕ → ℕ → List ℕ
bumped counts place = slice_set counts place (count_up (slice_index counts place))

-- the counter of a place is forgotten, if no tenant has it
abbrev pub cleared : Bool → ℕ → List ℕ → List ℕ
cleared vacant place counts = if vacant then slice_set counts place 0 else counts

-- after a refused log-in with the name of the tenant at this place, or with a name that no tenant has
abbrev pub refused_at : Option ℕ → Tally → Tally
refused_at (Some place) tally = record tally { refused = bumped tally.refused place; logins = count_up tally.logins; last = Some place }
refused_at None tally = record tally { unknown = count_up tally.unknown; logins = count_up tally.logins; last = None }

-- after a log-in with this name was refused, if one was
abbrev pub refused_to : List Tenant → Option (List ℕ) → Tally → Tally
refused_to tenants (Some name) tally = refused_at (place_of name tenants) tally
refused_to tenants None tally = tally

-- a line and its answer were counted
abbrev pub with_line : Heard → List ℕ → Tally → Tally
with_line line answer tally = record tally { lines = bumped tally.lines (call_place line); replies = bumped tally.replies (reply_place answer) }

-- they were counted for the tenant that speaks after the line, if one does: the line, and the answer `FULL`
abbrev pub with_share : Option ℕ → List ℕ → Tally → Tally
with_share None answer tally = tally
with_share (Some place) answer tally = record tally {
  spoken = bumped tally.spoken place;
  full = (if reply_place answer == 1 then bumped tally.full place else tally.full);
}

-- the tenant of a speaker
abbrev pub tenant_of : Option Speaker → Option ℕ
tenant_of who = option_map (λ speaker. speaker.tenant) who

-- The counts after a line: its call, the kind of its answer, both of them for the tenant that speaks after it,
-- and, if it is a log-in that was refused, the tenant of its name.
abbrev pub counted : List Tenant → Option Speaker → Heard → List ℕ → Tally → Tally
counted tenants who line answer tally =
    refused_to tenants (refused_name line answer) (with_share (tenant_of who) answer (with_line line answer tally))

-- ---- names that the table lacks

-- whether this name is among these
abbrev pub is_among : List (List ℕ) → List ℕ → Bool
is_among names name = list_any (λ other. bytes_eq other name) names

-- whether this name can be noted beside those that are absent so far: it is one of them, or they are fewer than 64
abbrev pub can_note : List (List ℕ) → List ℕ → Bool
can_note absent name = is_among absent name || nat_lt (length absent) ABSENT_LIMIT

-- these names and this one, which stands there once
abbrev pub with_name : List (List ℕ) → List ℕ → List (List ℕ)
with_name absent name = if is_among absent name then absent else absent ++ name ∷ []

-- these names but those that left
abbrev pub without_names : List (List ℕ) → List (List ℕ) → List (List ℕ)
without_names absent left = filter (λ name. not (is_among left name)) absent

-- the name is noted as absent
abbrev pub with_absent : List ℕ → Tally → Tally
with_absent name tally = record tally { absent = with_name tally.absent name }

-- these names are noted as absent no more
abbrev pub without_absent : List (List ℕ) → Tally → Tally
without_absent left tally = record tally { absent = without_names tally.absent left }

-- ---- a service with its counts

pub record Tallied : Type 0 where
  pub held : Held
  pub tally : Tally

abbrev pub tallied : Held → Tally → Tallied
tallied held tally = record { held = held; tally = tally }

-- the name that the last refused log-in had, if a tenant has it
abbrev pub last_in : List Tenant → Option ℕ → List ℕ
last_in tenants None = []
last_in tenants (Some place) = name_at tenants place

abbrev pub last_name : Tallied → List ℕ
last_name t = last_in t.held.tenants t.tally.last
