-- The arrays of each tenant, in one arena.
--     state_in b places t   all arrays of the tenant t
--     IsHeld H b places     each place leads to an array with its own blocks, and every live
--                           block belongs to an array
--     sizes_in b places t   the words in the blocks of each of them
--     key_of_call t call    the directory's key of the array that a call of the tenant t names
--     start_of_list t from  the directory's key where a list of the tenant's arrays begins
--     has_start from        whether that key itself may be the first of the list
use Rattle.std.specs.Prelude.{ℕ, Bool, true, false, List, [], map}
use Rattle.judy_arena.specs.Blocks.{Blocks}
use Rattle.judy_model.specs.declared.calls.ArraysFrom.{ArraysFrom}
use Rattle.judy_model.specs.declared.calls.ArraysFrom.TheVariants as from
use Rattle.judy_model.specs.declared.calls.Call.{Call}
use Rattle.judy_arena.specs.Totals.{words_over}
use Rattle.judy_model.specs.Tenant.{Arrays, State}
use Rattle.judy_directory.specs.Kinds.{owner_byte, spot_of}
use Rattle.judy_directory.specs.Places.{at}
use Rattle.judy_model.specs.declared.commands.Kind.{Kind}
use Rattle.judy_model.specs.declared.commands.Kind.TheVariants.{One, Long, Str, Bytes}
use Rattle.judy_directory.specs.Shelf.{Places, IsShelf, arrays_of}
use Rattle.judy_words.specs.OneArrays.{one_in}
use Rattle.judy_words.specs.LongArrays.{long_in}
use Rattle.judy_string.specs.StringArrays.{string_in}
use Rattle.judy_bytes.specs.BytesArrays.{bytes_in}
use Rattle.judy_kinds.specs.Kinds.{IsPlaceAt, numbers_of_array, place_numbers, IsSameAt}
use Rattle.judy_kinds.specs.Calls.{kind_of_call, name_of_call}
use Rattle.judy_tenants.specs.Held.{Sizes}

-- all arrays of a tenant
abbrev pub state_in : Blocks → Places → ℕ → State
state_in b places t = record {
  one = arrays_of one_in (owner_byte t One) b places;
  long = arrays_of long_in (owner_byte t Long) b places;
  string = arrays_of string_in (owner_byte t Str) b places;
  bytes = arrays_of bytes_in (owner_byte t Bytes) b places;
}

-- the words in the blocks of an array
abbrev pub words_at : Kind → Blocks → Places → ℕ → List ℕ → ℕ
words_at kind b places t name = words_over b (numbers_of_array kind b (at places (spot_of t kind name)).root)

-- the names of these arrays, each with its number of words
abbrev pub sized : {K : Type 0} → (List ℕ → ℕ) → Arrays K → List (List ℕ × ℕ)
sized words arrays = map (λ a. (a.0, words a.0)) arrays

-- the words in the blocks of each array of this state
abbrev pub sizes_by : (Kind → List ℕ → ℕ) → State → Sizes
sizes_by words s = record {
  one = sized (words One) s.one;
  long = sized (words Long) s.long;
  string = sized (words Str) s.string;
  bytes = sized (words Bytes) s.bytes;
}

-- the words in the blocks of each array of a tenant
abbrev pub sizes_in : Blocks → Places → ℕ → Sizes
sizes_in b places t = sizes_by (λ kind name. words_at kind b places t name) (state_in b places t)

-- each place leads to an array with its own blocks, and no block is left over
abbrev pub IsHeld : (List ℕ → ℕ) → Blocks → Places → Type 0
IsHeld H b places = IsShelf (IsPlaceAt H) place_numbers IsSameAt b places

-- the key of the array that a call names
abbrev pub key_of_call : ℕ → Call → List ℕ
key_of_call t call = spot_of t (kind_of_call call) (name_of_call call)

-- the directory's key where a list of the tenant's arrays begins
abbrev pub start_of_list : ℕ → ArraysFrom → List ℕ
start_of_list t from.First = spot_of t One []
start_of_list t (from.Behind kind name) = spot_of t kind name

-- whether that key itself may be the first of the list
abbrev pub has_start : ArraysFrom → Bool
has_start from.First = true
has_start (from.Behind kind name) = false
