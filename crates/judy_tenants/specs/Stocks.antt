-- The arrays of all tenants with their counts, and how a call changes them.
--     held_of tenants stock                  the value of a service
--     IsStocked H tenants stock              the invariant of a service
--     IsGranted tenants stock                the words live at once are bounded by the quotas
--     IsExchange H key call old new answer   a call of the array at the key was answered, and the
--                                            directory has the array's new place
--     IsRefusedIn key call old new           a call of the array at the key was refused for memory
--     HasNoReserveIn words old new           the machine did not have so much memory to take beforehand
use Rattle.std.specs.Prelude.{◌≡◌, ◌⊎◌, ◌≤◌, ℕ, List, IsTrue, None, length, ◌%◌, ◌<◌}
use Rattle.std.specs.FinMap as map
use Rattle.judy_arena.specs.Blocks.{count_up}
use Rattle.judy_model.specs.declared.calls.Call.{Call}
use Rattle.judy_directory.specs.Lengths.{name_bytes}
use Rattle.judy_directory.specs.Places.{at, with_place}
use Rattle.judy_table.specs.declared.tenant.Tenant.{Tenant}
use Rattle.judy_kinds.specs.Calls.{kind_of_call, asks_at, AnswersAt, ArrayBecomes}
use Rattle.judy_tenants.specs.declared.stock.Stock.{Stock}
use Rattle.judy_tenants.specs.declared.stock.Answered.{Answered}
use Rattle.judy_tenants.specs.Held.{Held, firsts, words_for}
use Rattle.judy_tenants.specs.States.{state_in, sizes_in}
use Rattle.judy_tenants.specs.Accounts.{IsServer}

-- the value of a service
abbrev pub held_of : List Tenant → Stock → Held
held_of tenants stock = record {
  tenants = tenants;
  arrays = firsts (length tenants) (state_in stock.arena.blocks stock.directory.0);
  sizes = firsts (length tenants) (sizes_in stock.arena.blocks stock.directory.0);
  refusals = stock.arena.refusals;
  unplaced = stock.unplaced;
  names = map.len stock.directory.0;
  name_bytes = name_bytes stock.directory.0;
  words = stock.arena.live;
  region = stock.arena.region;
  peak = stock.arena.peak;
  reserved = stock.arena.reserved;
  start = stock.directory.1.start;
  room = stock.directory.1.room;
  granted = stock.granted;
}

-- the invariant of a service; H is the hash of the JudyHS arrays
abbrev pub IsStocked : (List ℕ → ℕ) → List Tenant → Stock → Type 0
IsStocked H tenants stock = IsServer H stock.arena.blocks stock.directory.0 stock.accounts.items tenants

-- the words that were ever live at once are bounded by the quotas of the tables so far, of which the
-- table in force is one
pub record IsGranted (tenants : List Tenant) (stock : Stock) : Type 0 where
  pub peak : stock.arena.peak ≤ stock.granted
  pub table : words_for tenants ≤ stock.granted

-- a call of the array at the key was answered, and the directory has the array's new place
pub record IsExchange (H : List ℕ → ℕ) (key : List ℕ) (call : Call) (old new : Stock) (answer : Answered) : Type 0 where
  pub before : answer.before ≡ at old.directory.0 key
  pub places : new.directory.0 ≡ with_place old.directory.0 key answer.after
  pub footing : new.directory.1 ≡ old.directory.1
  pub array : ArrayBecomes H (kind_of_call call) old.arena answer.before new.arena answer.after
  pub step : AnswersAt old.arena.blocks answer.before.root call answer.reply new.arena.blocks answer.after.root
  pub refusals : new.arena.refusals ≡ old.arena.refusals
  pub unplaced : new.unplaced ≡ old.unplaced
  pub granted : new.granted ≡ old.granted
  pub accounts : new.accounts.items ≡ old.accounts.items

-- the arena refused a block
pub record IsShortIn (old new : Stock) : Type 0 where
  pub refusals : new.arena.refusals ≡ count_up old.arena.refusals
  pub unplaced : new.unplaced ≡ old.unplaced

-- the directory had no memory for the name of the array, which has no place, and as many arrays as
-- it has room for have one
pub record IsUnplacedIn (key : List ℕ) (old new : Stock) : Type 0 where
  pub refusals : new.arena.refusals ≡ old.arena.refusals
  pub unplaced : new.unplaced ≡ count_up old.unplaced
  pub many : old.directory.1.room ≤ map.len old.directory.0
  pub absent : map.get old.directory.0 key ≡ None

-- a call of the array at the key asked for a new entry and was refused for memory
pub record IsRefusedIn (key : List ℕ) (call : Call) (old new : Stock) : Type 0 where
  pub blocks : new.arena.blocks ≡ old.arena.blocks
  pub places : new.directory.0 ≡ old.directory.0
  pub footing : new.directory.1 ≡ old.directory.1
  pub granted : new.granted ≡ old.granted
  pub accounts : new.accounts.items ≡ old.accounts.items
  pub asked : IsTrue (asks_at old.arena.blocks (at old.directory.0 key).root call)
  pub cause : IsShortIn old new ⊎ IsUnplacedIn key old new

-- the machine had no memory for a chunk, before this many words were taken
pub record HasNoChunkIn (words : ℕ) (old new : Stock) : Type 0 where
  pub refusals : new.arena.refusals ≡ count_up old.arena.refusals
  pub whole : new.arena.region % 65536 ≡ 0
  pub short : new.arena.region < words

-- it had no memory for a chunk; or the words were taken, and it had no memory for the room
abbrev pub HasNoReserveIn : ℕ → Stock → Stock → Type 0
HasNoReserveIn words old new =
    (HasNoChunkIn words old new ⊎ ((new.arena.refusals ≡ old.arena.refusals) × (words ≤ new.arena.region)))
    × (new.directory.1.room ≡ old.directory.1.room)
