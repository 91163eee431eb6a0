use Rattle.std.proofs.Common.{◌≡◌, ◌&&◌, ℕ, false, get_or, length, nat_lt}
use Rattle.judy_server.specs.Replays.{marks_of}
use Rattle.judy_server.proofs.records.marks_of.Given as goal

abbrev pub invariant-loop-place : goal.invariant-loop-place
invariant-loop-place g l = record {
  many : length l.marks ≡ 128;
  done : (t : ℕ) → get_or l.marks t false ≡ (nat_lt t l.place && get_or (marks_of l.fn.left l.fn.service.tenants) t false);
}
