-- Freeing the arrays of tenants.
--     free_of kind name        the call that frees an array
--     AreFreed stay old new    arrays were freed, but none of a tenant that stays
--     AreFreedIn stay a d b e  the same, from the places d in the arena a to the places e in b
use Rattle.std.specs.Prelude.{◌≡◌, ℕ, List}
use Rattle.judy_arena.specs.Blocks.{ArenaState}
use Rattle.judy_model.specs.declared.calls.Call.{Call}
use Rattle.judy_model.specs.declared.calls.Call.TheVariants as call
use Rattle.judy_model.specs.declared.calls.OneCall.TheVariants as one
use Rattle.judy_model.specs.declared.calls.LongCall.TheVariants as long
use Rattle.judy_model.specs.declared.calls.StrCall.TheVariants as str
use Rattle.judy_model.specs.declared.calls.BytesCall.TheVariants as bytes
use Rattle.judy_model.specs.declared.commands.Kind.{Kind}
use Rattle.judy_model.specs.declared.commands.Kind.TheVariants.{One, Long, Str, Bytes}
use Rattle.judy_directory.specs.Shelf.{Places}
use Rattle.judy_tenants.specs.declared.stock.Stock.{Stock}
use Rattle.judy_tenants.specs.States.{state_in, sizes_in}

-- the call that frees an array of this kind and name
abbrev pub free_of : Kind → List ℕ → Call
free_of One name = call.One name one.Free
free_of Long name = call.Long name long.Free
free_of Str name = call.Str name str.Free
free_of Bytes name = call.Bytes name bytes.Free

-- Arrays were freed, but none of a tenant that stays. What was counted stays, and so does the memory
-- that was taken.
pub record AreFreed (stay : ℕ → Type 0) (old new : Stock) : Type 0 where
  pub states : (t : ℕ) → stay t → state_in new.arena.blocks new.directory.0 t ≡ state_in old.arena.blocks old.directory.0 t
  pub sizes : (t : ℕ) → stay t → sizes_in new.arena.blocks new.directory.0 t ≡ sizes_in old.arena.blocks old.directory.0 t
  pub refusals : new.arena.refusals ≡ old.arena.refusals
  pub region : new.arena.region ≡ old.arena.region
  pub reserved : new.arena.reserved ≡ old.arena.reserved
  pub peak : new.arena.peak ≡ old.arena.peak
  pub footing : new.directory.1 ≡ old.directory.1
  pub unplaced : new.unplaced ≡ old.unplaced
  pub granted : new.granted ≡ old.granted

-- The same of the arena and the places alone.
pub record AreFreedIn (stay : ℕ → Type 0) (a : ArenaState) (d : Places) (b : ArenaState) (e : Places) : Type 0 where
  pub states : (t : ℕ) → stay t → state_in b.blocks e t ≡ state_in a.blocks d t
  pub sizes : (t : ℕ) → stay t → sizes_in b.blocks e t ≡ sizes_in a.blocks d t
  pub refusals : b.refusals ≡ a.refusals
  pub region : b.region ≡ a.region
  pub reserved : b.reserved ≡ a.reserved
  pub peak : b.peak ≡ a.peak
