use Rattle.std.proofs.Common.{◌≡◌, ◌≤◌, ◌+◌, ◌-◌, ◌^◌, drop}
use Rattle.std.specs.Prelude.{min}
use Rattle.std.specs.Str.{bytes_eq}
use Rattle.judy_disk.specs.Spending.{spent_by}
use Rattle.judy_disk.proofs.spent.Spent.of.Given as goal

abbrev pub invariant-loop-share : goal.invariant-loop-share
invariant-loop-share l = (l.sum ≤ 2 ^ 64 - 1)
    × (min (l.sum + spent_by (λ _ name. bytes_eq name l.tenant) (drop l.share-index l.self.shares.items)) (2 ^ 64 - 1)
    ≡ min (spent_by (λ _ name. bytes_eq name l.tenant) l.self.shares.items) (2 ^ 64 - 1))
