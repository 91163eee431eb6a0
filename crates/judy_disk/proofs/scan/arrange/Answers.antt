use Rattle.std.proofs.lemmas.List.Sorted.{IsNonDecreasingBy-from_sort}
use Rattle.judy_disk.proofs.scan.arrange.Goals as goal

pub last_from-requires : goal.last_from-requires
last_from-requires c = record { sorted = IsNonDecreasingBy-from_sort (λ n. n) _ c.sort_unstable.ensures.sorted }
