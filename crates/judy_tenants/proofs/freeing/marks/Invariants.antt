-- the places so far are marked
use Rattle.std.proofs.Common.{◌≡◌, ◌&&◌, ℕ, false, not, get_or, length, nat_lt}
use Rattle.judy_tenants.specs.Changes.{stays_at}
use Rattle.judy_tenants.proofs.freeing.marks.Given as goal

abbrev pub invariant-loop-place : goal.invariant-loop-place
invariant-loop-place l = record {
  many : length l.gone ≡ 128;
  done : (t : ℕ) → get_or l.gone t false ≡ (nat_lt t l.place && not (stays_at l.table l.later t));
}
