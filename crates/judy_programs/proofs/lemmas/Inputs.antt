-- What the result of a program means for its input.
--     refused-table    a fault other than `Memory` is the fault of the table that was read
--     served-table     the tenants that were served are those of the table that was read
--     cut-input        at `Cut` the input ended, and a table could still end in what came next
--     failed-input     at `Read` a table could still end in what came next
use Rattle.std.specs.Prelude.{◌≡◌, ◌≢◌, ◌⊎◌, ℕ, Bool, List, Ok, Err}
use Rattle.std.specs.Io.KnownBytes.{Consumes, IsAtEnd}
use Rattle.std.proofs.Common.{inl, inr}
use Rattle.judy_protocol.specs.Services.{Made, Seen}
use Rattle.judy_protocol.specs.Serving.{MaybeBytes}
use Rattle.judy_protocol.specs.declared.gathering.Batch.{Batch}
use Rattle.judy_table.specs.Tenants.{read_table}
use Rattle.judy_table.specs.declared.fault.TableFault.{TableFault}
use Rattle.judy_table.specs.declared.fault.TableFault.TheVariants as fault
use Rattle.judy_table.specs.declared.tenant.Tenant.{Tenant}
use Rattle.judy_programs.specs.Program.{HasFault, HasServed, Runs}
use Rattle.judy_programs.specs.Tables.{IsOpen}
use Rattle.judy_programs.specs.declared.program.Ran.{Ran}
use Rattle.judy_programs.specs.declared.program.Ran.TheVariants as ran

-- a fault is that of the table, if there was memory to read it
pub refused-table : (f : TableFault) (left left' : MaybeBytes) → f ≢ fault.Memory → (h : HasFault f left left') → read_table h.text ≡ Err f
refused-table f left left' other h = by h.why
  where
    by : (f ≡ fault.Memory) ⊎ (read_table h.text ≡ Err f) → read_table h.text ≡ Err f
    by (inl same) = absurd (other same)
    by (inr told) = told

module _ {S : Type 0} (made : Made S) (seen : S → Seen) (words_in : S → ℕ) (is_new : List Tenant → S → Type 0) where
  -- the tenants are those of the table
  pub served-table : (words : Bool) (batch : Batch) (how : Ran) (left left' taken taken' : MaybeBytes) (told told' : ℕ)
      → (h : HasServed made seen words_in is_new words batch how left left' taken taken' told told') → read_table h.text ≡ Ok h.tenants
  served-table words batch how left left' taken taken' told told' h = h.reads

  -- the input ended before the table did
  pub cut-input : (words : Bool) (batch : Batch) (left left' taken taken' : MaybeBytes) (told told' : ℕ)
      → Runs made seen words_in is_new words batch ran.Cut left left' taken taken' told told'
      → (given : List ℕ) × Consumes left left' given × IsOpen given × IsAtEnd left'
  cut-input words batch left left' taken taken' told told' (given, read, may, end, count) = (given, read, may, end)

  -- a read failed before the table ended
  pub failed-input : (words : Bool) (batch : Batch) (left left' taken taken' : MaybeBytes) (told told' : ℕ)
      → Runs made seen words_in is_new words batch ran.Read left left' taken taken' told told'
      → (given : List ℕ) × Consumes left left' given × IsOpen given
  failed-input words batch left left' taken taken' told told' (given, read, may, count) = (given, read, may)
