-- What a command line asks for, in the words of docs/PROMISES.md.
--     counts-are-in-range    `--clients`, `--tenant-clients`, `--share` and `--segment` are 1 to 1024, `--reserve` 1 to 131072;
--                            `--connections`, `--login`, `--idle` and `--turn` are 1 to 4294967295
--     seconds-are-in-range   the seconds of `--sync` are 1 to 4294967295
--     help-is-asked-for      a text of help comes only where help or the version was asked for
--     usage-is-a-fault       a usage text comes only for a fault, which is neither of them
use Rattle.std.specs.Prelude.{ℕ, ◌⊎◌, ◌≢◌, ◌≤◌, Bool, Option, IfSome, String}
use Rattle.std.specs.declared.alloc.Global.{Global}
use Rattle.clap.specs.Words.{IsAmong, Kinds, Text}
use Rattle.clap.specs.declared.error.ErrorKind.{ErrorKind}
use Rattle.clap.specs.declared.error.ErrorKind.TheVariants as kind
use Rattle.judy_command.specs.CommandLine.{IsInRange, IsSync, StopsBy}
use Rattle.judy_command.specs.declared.words.Refusal.TheVariants.{Help, Usage}
use Rattle.judy_command.specs.declared.words.Job.TheVariants.{Serve}
use Rattle.judy_command.specs.declared.words.Sync.{Sync}
use Rattle.judy_command.specs.declared.words.Sync.TheVariants.{Seconds}

-- the numbers of a server
pub counts-are-in-range : (config socket : Text) (status control : Option Text) (clients : ℕ) (tenant_clients : Option ℕ) (share connections login : ℕ) (idle turn reserve : Option ℕ) (journal : Option Text) (sync : Sync) (segment : ℕ) (new_journal check : Bool)
    → IsInRange (Serve config socket status control clients tenant_clients share connections login idle turn reserve journal sync segment new_journal check)
    → (1 ≤ clients) × (clients ≤ 1024) × IfSome tenant_clients (λ n. (1 ≤ n) × (n ≤ 1024)) × (1 ≤ share) × (share ≤ 1024) × (1 ≤ connections) × (connections ≤ 4294967295) × (1 ≤ login) × (login ≤ 4294967295)
    × IfSome idle (λ n. (1 ≤ n) × (n ≤ 4294967295)) × IfSome turn (λ n. (1 ≤ n) × (n ≤ 4294967295))
    × IfSome reserve (λ n. (1 ≤ n) × (n ≤ 131072)) × IsSync sync × (1 ≤ segment) × (segment ≤ 1024)
counts-are-in-range config socket status control clients tenant_clients share connections login idle turn reserve journal sync segment new_journal check h =
    (h.0.0, h.0.1, h.1, h.2.0, h.2.1, h.3.0, h.3.1, h.4.0, h.4.1, h.5, h.6, h.7, h.8, h.9.0, h.9.1)

-- the seconds between two times that the journal is secured
pub seconds-are-in-range : (n : ℕ) → IsSync (Seconds n) → (1 ≤ n) × (n ≤ 4294967295)
seconds-are-in-range n h = h

-- the reasons why a command line gives no job
pub help-is-asked-for : (kinds : Kinds) (text : String Global) → StopsBy kinds (Help text) → IsAmong kind.DisplayHelp kinds ⊎ IsAmong kind.DisplayVersion kinds
help-is-asked-for kinds text h = h

pub usage-is-a-fault : (kinds : Kinds) (text : String Global) → StopsBy kinds (Usage text)
    → (k : ErrorKind) × IsAmong k kinds × (k ≢ kind.DisplayHelp) × (k ≢ kind.DisplayVersion)
usage-is-a-fault kinds text h = h
