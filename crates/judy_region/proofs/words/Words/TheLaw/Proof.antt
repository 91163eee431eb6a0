-- A `&` to the memory of a chunk is made where one to its words is.
use base.Fraction.{full_share}
use denote.Array.{Array, Array-row_laws}
use denote.Builtin.{u64}
use denote.RawPtr.{lies_at}
use denote.Shares.{Shares-Array}
use denote.Param.Shared.{copy_shared}
use denote.Struct.Field.{RawPtr-field, usize-field, u64-field}
use denote.Struct.Laws.{RawPtr-copy, usize-copy, u64-copy}
use denote.Struct.Lending.{lent_at, lent_at_shr_laws, Lends-lies, Lends-first, of_Lends}
use Rattle.judy_region.specs.Ownership.{room_after}
use Rattle.judy_region.specs.contracts.words.Words as C
use Rattle.judy_region.proofs.words.Words.TheLaw.Statement.{statement}

pub shares : statement
shares = of_Lends C.struct C.the_codes C.the_heap C.the_lent
    (λ d p. lent_at_shr_laws (Array u64 d.len) (Array-row_laws u64 (copy_shared u64-field u64-copy).shr_laws d.len) d.at d.words)
    (copy_shared RawPtr-field RawPtr-copy, (copy_shared usize-field usize-copy, tt))
    (λ M 𝓤 𝓛 d p.
    let l = C.the_row.lives in
    Lends-first 𝓛 (lies_at (Array u64 d.len) full_share d.at d.words) (room_after d.at d.len) (lent_at (Array u64 d.len) d.at d.words) l
    (Lends-lies 𝓛 (Array u64 d.len) l d.at d.words (Shares-Array 𝓛 u64 tt d.len l ((copy_shared u64-field u64-copy).shares M 𝓤 𝓛) d.words)))
