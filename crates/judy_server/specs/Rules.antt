-- What the service does with lines, and what is seen of it.
use Rattle.judy_many.specs.Rules.{Rules, rules_of}
use Rattle.judy_table.specs.Seats.{journal_at}
use Rattle.judy_server.specs.Reloads.{IsReload, leavers}
use Rattle.judy_server.specs.Served.{IsNoted, IsServedStep, seen_of}
use Rattle.judy_server.specs.Status.{status_of}
use Rattle.judy_server.specs.Tally.{Tallied}

abbrev pub server_rules : Rules Tallied
server_rules = rules_of IsServedStep seen_of IsNoted status_of IsReload (λ t. journal_at t.held.tenants) (λ t. leavers t.held.tenants)
