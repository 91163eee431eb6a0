-- Why the text of a table gives no service.
use Rattle.std.specs.Prelude.{◌≡◌, ◌⊎◌, ◌<◌, ◌≤◌, ℕ, List, length, Option, Result, Ok, Err}
use Rattle.std.specs.Io.KnownBytes.{Consumes, IsAtEnd}
use Rattle.judy_stream.specs.Streams.{counted}
use Rattle.judy_table.specs.Tenants.{read_table}
use Rattle.judy_table.specs.declared.fault.TableFault.TheVariants as fault
use Rattle.judy_table.specs.declared.tenant.Tenant.{Tenant}
use Rattle.judy_programs.specs.Tables.{table_limit}
use Rattle.judy_programs.specs.declared.socket.Hosted.{Hosted}
use Rattle.judy_programs.specs.declared.socket.Hosted.TheVariants as hosted
use Rattle.judy_programs.specs.declared.opens.Unopened.{Unopened}
use Rattle.judy_programs.specs.declared.opens.Unopened.TheVariants as why

-- the table has the fault, or there was no memory to read it; or it has no fault, and there was no
-- memory for the service
abbrev pub IsUnopened : Unopened → List ℕ → Type 0
IsUnopened (why.Table f) text = (f ≡ fault.Memory) ⊎ (read_table text ≡ Err f)
IsUnopened why.Memory text = (tenants : List Tenant) × (read_table text ≡ Ok tenants)

-- the source was read whole, it has a table of these tenants, and the service is new
pub record HasOpened {S : Type 0} (is_new : List Tenant → S → Type 0) (left left' : Option (List ℕ)) (service : S)
    : Type 0 where
  pub text : List ℕ
  pub tenants : List Tenant
  pub read : Consumes left left' text
  pub end : IsAtEnd left'
  pub short : length text ≤ table_limit
  pub reads : read_table text ≡ Ok tenants
  pub fresh : is_new tenants service

-- the source has exactly this text, which is not too long for a table
abbrev pub IsWholeText : Option (List ℕ) → Option (List ℕ) → List ℕ → Type 0
IsWholeText left left' text = Consumes left left' text × IsAtEnd left' × (length text ≤ table_limit)

-- a read failed; or the file is too long for a table; or its table has the fault; or it has none,
-- and there was no memory
abbrev pub IsShut : Hosted → Option (List ℕ) → Option (List ℕ) → Type 0
IsShut hosted.Done left left' = ⊥
IsShut hosted.Stopped left left' = ⊥
IsShut hosted.Socket left left' = ⊥
IsShut hosted.Recovery left left' = ⊥
IsShut hosted.Journal left left' = ⊥
IsShut hosted.Reserve left left' = ⊥
IsShut hosted.Config left left' = (text : List ℕ) × Consumes left left' text × (length text ≤ table_limit)
IsShut hosted.Long left left' = (text : List ℕ) × Consumes left left' text × (table_limit < length text)
IsShut (hosted.Table f) left left' = (text : List ℕ) × IsWholeText left left' text × IsUnopened (why.Table f) text
IsShut hosted.Memory left left' = (text : List ℕ) × IsWholeText left left' text × IsUnopened why.Memory text

-- the counts of ends and of failed reads, by the result for the file with the table: each cause
-- counts once, and nothing else does
abbrev pub shut_ends : Hosted → ℕ → ℕ
shut_ends hosted.Done count = count
shut_ends hosted.Stopped count = count
shut_ends hosted.Recovery count = count
shut_ends hosted.Journal count = count
shut_ends hosted.Config count = count
shut_ends hosted.Long count = count
shut_ends (hosted.Table f) count = counted count
shut_ends hosted.Memory count = counted count
shut_ends hosted.Reserve count = count
shut_ends hosted.Socket count = count

abbrev pub shut_faults : Hosted → ℕ → ℕ
shut_faults hosted.Done count = count
shut_faults hosted.Stopped count = count
shut_faults hosted.Recovery count = count
shut_faults hosted.Journal count = count
shut_faults hosted.Config count = counted count
shut_faults hosted.Long count = count
shut_faults (hosted.Table f) count = count
shut_faults hosted.Memory count = count
shut_faults hosted.Reserve count = count
shut_faults hosted.Socket count = count

abbrev pub open_ends : {S : Type 0} → Result S Hosted → ℕ → ℕ
open_ends (Ok service) count = counted count
open_ends (Err how) count = shut_ends how count

abbrev pub open_faults : {S : Type 0} → Result S Hosted → ℕ → ℕ
open_faults (Ok service) count = count
open_faults (Err how) count = shut_faults how count
