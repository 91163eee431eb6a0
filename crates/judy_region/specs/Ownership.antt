-- What the memory of a chunk owns and lends.
use Rattle.std.specs.Prelude.{ℕ, List, ◌+◌, ◌-◌, ◌*◌}
use Rattle.std.specs.Borrow.{u64, full_share}
use base.Fml.{Fml, Lft, fsep, ffalse, froom}
use denote.Array.{Array}
use denote.RawPtr.{Ptr, block_ptr, null_ptr, lies_at}
use denote.Struct.Lending.{lent_at}
use mir.Syntax.{Ty, w64, ty_int, ty_array}

-- what is asked of the allocator: room for all the words that a chunk may have
abbrev pub whole : Ty
whole = ty_array (ty_int w64) 65536

-- room for the words past the first n
abbrev pub room_after : Ptr → ℕ → Fml
room_after (block_ptr b o) n = froom (ty_array (ty_int w64) (65536 - n)) b (n * 8 + o)
room_after null_ptr n = ffalse

-- the words at p, n of them, and room for the rest
abbrev pub words_own : Ptr → ℕ → List ℕ → Fml
words_own p n ws = fsep (lies_at (Array u64 n) full_share p ws) (room_after p n)

-- what a `&` to them holds
abbrev pub words_lent : Ptr → ℕ → List ℕ → Lft → Fml
words_lent p n ws = lent_at (Array u64 n) p ws
