use Rattle.std.proofs.Common.{inl}
use Rattle.judy_programs.proofs.Begins.{watches_both}
use Rattle.judy_programs.proofs.socket.watch_on.Goals as goal

pub returns-then-not-watch_at : goal.returns-then-not-watch_at
returns-then-not-watch_at g c = inl c.if-not-watch_at.ensures

pub returns : goal.returns
returns g c = watches_both _ _ _ _ _ _ (rw c.if-not-watch_at.false at c.watch_at.ensures) c.control_at.ensures
