-- The text of the service's status, in the form that Prometheus reads.
--     sample name n       a line: a name and its number
--     heading metric      the two lines that come before those of a metric
--     total_of t total    a number of the whole service, with its counts
--     number_of t share   a number of the tenant at each place
--     status_of t who     the text, with these speakers of the open connections
use Rattle.std.specs.Prelude.{ℕ, suc, List, [], ◌∷◌, ◌++◌, Option, codes, count_by, decimal, flat_map, map, slice_index}
use Rattle.judy_command.specs.declared.commands.TheConstants.{VERSION}
use Rattle.judy_model.specs.Speakers.{Speaker}
use Rattle.judy_model.specs.Tenant.{pieces, used}
use Rattle.judy_tenants.specs.Held.{quotas_of, states_of}
use Rattle.judy_server.specs.Metrics.{help_of, kind_of, name_of}
use Rattle.judy_server.specs.Present.{is_nobody, speaks_for}
use Rattle.judy_server.specs.Tally.{Tallied, call_names, reply_kinds}
use Rattle.judy_server.specs.declared.metrics.Metric.{Metric}
use Rattle.judy_server.specs.declared.metrics.Metric.TheVariants as metrics
use Rattle.judy_server.specs.declared.metrics.Share.{Share}
use Rattle.judy_server.specs.declared.metrics.Share.TheVariants as share
use Rattle.judy_server.specs.declared.metrics.Total.{Total}
use Rattle.judy_server.specs.declared.metrics.Total.TheVariants as total
use Rattle.judy_server.specs.declared.tally.Tally.{Tally}

-- ---- lines

abbrev pub sample : List ℕ → ℕ → List ℕ
sample name n = name ++ 32 ∷ decimal n ++ 10 ∷ []

-- NAME{LABEL="VALUE"} and its number
abbrev pub labelled : List ℕ → List ℕ → List ℕ → ℕ → List ℕ
labelled name label value n = name ++ 123 ∷ label ++ 61 ∷ 34 ∷ value ++ 34 ∷ 125 ∷ 32 ∷ decimal n ++ 10 ∷ []

-- the same, but no line for an empty value: a place without a tenant has no name
abbrev pub labelled_if : Metric → List ℕ → List ℕ → ℕ → List ℕ
labelled_if m label [] n = []
labelled_if m label (b ∷ value) n = labelled (name_of m) label (b ∷ value) n

-- what the metric tells, and what kind of number it is
unfoldable pub heading : Metric → List ℕ
heading m = codes "# HELP " ++ name_of m ++ 32 ∷ help_of m ++ 10 ∷ codes "# TYPE " ++ name_of m ++ 32 ∷ kind_of m ++ 10 ∷ []

-- a metric with one number
unfoldable pub single : Metric → ℕ → List ℕ
single m n = heading m ++ sample (name_of m) n

-- a line for each of these values of a label; the first of them has this place
unfoldable pub samples : Metric → List ℕ → (ℕ → ℕ) → ℕ → List (List ℕ) → List ℕ
samples m label number place [] = []
samples m label number place (value ∷ values) = labelled_if m label value (number place) ++ samples m label number (suc place) values

-- a metric with a number for each value of a label
abbrev pub group : Metric → List ℕ → (ℕ → ℕ) → List (List ℕ) → List ℕ
group m label number values = heading m ++ samples m label number 0 values

-- ---- numbers

-- the arena, the directory, and what they refused; and log-ins of nobody
abbrev pub total_of : Tallied → Total → ℕ
total_of t total.LiveWords = t.held.words
total_of t total.MachineWords = t.held.region
total_of t total.PeakWords = t.held.peak
total_of t total.Arrays = t.held.names
total_of t total.NameBytes = t.held.name_bytes
total_of t total.RefusedRequests = t.held.refusals
total_of t total.RefusedNames = t.held.unplaced
total_of t total.UnknownLogins = t.tally.unknown

-- a number of the tenant at a place
abbrev pub number_of : Tallied → Share → ℕ → ℕ
number_of t share.Entries place = used (states_of t.held place)
number_of t share.EntriesQuota place = (quotas_of t.held.tenants place).entries
number_of t share.Pieces place = pieces (states_of t.held place)
number_of t share.PiecesQuota place = (quotas_of t.held.tenants place).pieces
number_of t share.RefusedLogins place = slice_index t.tally.refused place
number_of t share.SpokenLines place = slice_index t.tally.spoken place
number_of t share.FullReplies place = slice_index t.tally.full place

-- one number
unfoldable pub one_total : Tallied → Total → List ℕ
one_total t which = single (metrics.Total which) (total_of t which)

-- a number of each tenant
unfoldable pub by_tenant : Tallied → Share → List ℕ
by_tenant t which = group (metrics.Share which) (codes "tenant") (number_of t which) (map (λ row. row.name) t.held.tenants)

-- the connections by the tenant that is logged in, and those on which nobody is
unfoldable pub by_speaker : Tallied → List (Option Speaker) → List ℕ
by_speaker t who = group metrics.Connections (codes "tenant") (λ place. count_by (speaks_for place) who) (map (λ row. row.name) t.held.tenants)

unfoldable pub by_nobody : List (Option Speaker) → List ℕ
by_nobody who = single metrics.Strangers (count_by is_nobody who)

-- lines by what they ask for, and replies by their kind
unfoldable pub by_call : Tally → List ℕ
by_call tally = group metrics.Lines (codes "call") (slice_index tally.lines) call_names

unfoldable pub by_kind : Tally → List ℕ
by_kind tally = group metrics.Replies (codes "kind") (slice_index tally.replies) reply_kinds

-- the version of the program, with the number 1
unfoldable pub by_build : List ℕ
by_build = heading metrics.Build ++ labelled (name_of metrics.Build) (codes "version") VERSION.now 1

-- ---- the text

abbrev pub first_totals : List Total
first_totals = total.LiveWords ∷ total.MachineWords ∷ total.PeakWords ∷ total.Arrays ∷ total.NameBytes ∷ total.RefusedRequests ∷ total.RefusedNames ∷ []

abbrev pub first_shares : List Share
first_shares = share.Entries ∷ share.EntriesQuota ∷ share.Pieces ∷ share.PiecesQuota ∷ []

abbrev pub last_shares : List Share
last_shares = share.RefusedLogins ∷ share.SpokenLines ∷ share.FullReplies ∷ []

-- No entry, no name of an array and no token is in it.
abbrev pub status_of : Tallied → List (Option Speaker) → List ℕ
status_of t who =
    flat_map (one_total t) first_totals
    ++ (flat_map (by_tenant t) first_shares
    ++ (by_speaker t who
    ++ (by_nobody who
    ++ (by_call t.tally ++ (by_kind t.tally ++ (flat_map (by_tenant t) last_shares ++ (one_total t total.UnknownLogins ++ by_build)))))))
