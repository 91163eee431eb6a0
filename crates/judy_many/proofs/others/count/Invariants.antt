use Rattle.std.proofs.Common.{◌≡◌, ◌≤◌, take}
use Rattle.std.specs.Prelude.{count_by}
use Rattle.judy_many.specs.Lives.{view_of}
use Rattle.judy_many.specs.Others.{speaks_for}
use Rattle.judy_many.specs.Present.{speakers_at}
use Rattle.judy_many.proofs.others.count.Given as goal

abbrev pub invariant-loop-at : goal.invariant-loop-at
invariant-loop-at g l = record {
  counted : l.count ≡ count_by (speaks_for l.fn.tenant) (speakers_at (λ b. view_of g.S.Served.who g.N.Network.number b.value) (take l.at l.fn.slots));
  few : l.count ≤ l.at;
}
