-- The metrics of the status: their names, what they tell, and what kind of number they are.
use Rattle.std.specs.Prelude.{ℕ, List, codes}
use Rattle.judy_server.specs.declared.metrics.Metric.{Metric}
use Rattle.judy_server.specs.declared.metrics.Metric.TheVariants.{Total as Totals, Share as Shares, Connections, Strangers, Lines, Replies, Build}
use Rattle.judy_server.specs.declared.metrics.Share.{Share}
use Rattle.judy_server.specs.declared.metrics.Share.TheVariants as share
use Rattle.judy_server.specs.declared.metrics.Total.{Total}
use Rattle.judy_server.specs.declared.metrics.Total.TheVariants as total

abbrev pub total_name : Total → List ℕ
total_name total.LiveWords = codes "judyd_live_words"
total_name total.MachineWords = codes "judyd_machine_words"
total_name total.PeakWords = codes "judyd_peak_words"
total_name total.Arrays = codes "judyd_arrays"
total_name total.NameBytes = codes "judyd_name_bytes"
total_name total.RefusedRequests = codes "judyd_refused_requests_total"
total_name total.RefusedNames = codes "judyd_refused_names_total"
total_name total.UnknownLogins = codes "judyd_logins_unknown_total"

abbrev pub share_name : Share → List ℕ
share_name share.Entries = codes "judyd_tenant_entries"
share_name share.EntriesQuota = codes "judyd_tenant_quota_entries"
share_name share.Pieces = codes "judyd_tenant_pieces"
share_name share.PiecesQuota = codes "judyd_tenant_quota_pieces"
share_name share.RefusedLogins = codes "judyd_logins_refused_total"
share_name share.SpokenLines = codes "judyd_tenant_lines_total"
share_name share.FullReplies = codes "judyd_tenant_full_total"

abbrev pub name_of : Metric → List ℕ
name_of (Totals t) = total_name t
name_of (Shares s) = share_name s
name_of Connections = codes "judyd_tenant_connections"
name_of Strangers = codes "judyd_connections_without_tenant"
name_of Lines = codes "judyd_lines_total"
name_of Replies = codes "judyd_replies_total"
name_of Build = codes "judyd_build_info"

abbrev pub total_help : Total → List ℕ
total_help total.LiveWords = codes "Words in the blocks of all arrays."
total_help total.MachineWords = codes "Words taken from the machine."
total_help total.PeakWords = codes "The most live words at once so far."
total_help total.Arrays = codes "Arrays of all tenants."
total_help total.NameBytes = codes "Bytes of the names of all arrays."
total_help total.RefusedRequests = codes "Requests for a block that were refused."
total_help total.RefusedNames = codes "New names that there was no memory for."
total_help total.UnknownLogins = codes "Log-ins with a name that no tenant has."

abbrev pub share_help : Share → List ℕ
share_help share.Entries = codes "Entries of a tenant."
share_help share.EntriesQuota = codes "The most entries of a tenant."
share_help share.Pieces = codes "Pieces of a tenant."
share_help share.PiecesQuota = codes "The most pieces of a tenant."
share_help share.RefusedLogins = codes "Refused log-ins by tenant."
share_help share.SpokenLines = codes "Lines by tenant."
share_help share.FullReplies = codes "FULL replies by tenant."

abbrev pub help_of : Metric → List ℕ
help_of (Totals t) = total_help t
help_of (Shares s) = share_help s
help_of Connections = codes "Connections on which a tenant is logged in."
help_of Strangers = codes "Connections on which nobody is logged in."
help_of Lines = codes "Lines by what they ask for."
help_of Replies = codes "Replies by kind."
help_of Build = codes "The version of the program."

-- a counter never falls; a gauge may
abbrev pub kind_of : Metric → List ℕ
kind_of (Totals total.LiveWords) = codes "gauge"
kind_of (Totals total.MachineWords) = codes "gauge"
kind_of (Totals total.PeakWords) = codes "gauge"
kind_of (Totals total.Arrays) = codes "gauge"
kind_of (Totals total.NameBytes) = codes "gauge"
kind_of (Totals total.RefusedRequests) = codes "counter"
kind_of (Totals total.RefusedNames) = codes "counter"
kind_of (Totals total.UnknownLogins) = codes "counter"
kind_of (Shares share.Entries) = codes "gauge"
kind_of (Shares share.EntriesQuota) = codes "gauge"
kind_of (Shares share.Pieces) = codes "gauge"
kind_of (Shares share.PiecesQuota) = codes "gauge"
kind_of (Shares share.RefusedLogins) = codes "counter"
kind_of (Shares share.SpokenLines) = codes "counter"
kind_of (Shares share.FullReplies) = codes "counter"
kind_of Connections = codes "gauge"
kind_of Strangers = codes "gauge"
kind_of Lines = codes "counter"
kind_of Replies = codes "counter"
kind_of Build = codes "gauge"
