-- the rest of the arrays decides
use Rattle.std.proofs.Common.{◌≡◌, drop}
use Rattle.std.specs.Prelude.{find}
use Rattle.std.specs.Ordering.{is_gt}
use Rattle.judy_model.specs.ArrayLists.{array_key, key_of_start}
use Rattle.judy_model.specs.Contents.{string_order}
use Rattle.judy_reference.proofs.store.directory.Directory.next.Given as goal

abbrev pub invariant-loop-array : goal.invariant-loop-array
invariant-loop-array g l = find (λ a. is_gt (string_order (array_key l.fn.kind a.0) (key_of_start l.fn.from))) (drop l.array-index l.array-items)
    ≡ find (λ a. is_gt (string_order (array_key l.fn.kind a.0) (key_of_start l.fn.from))) l.array-items
