use Rattle.std.proofs.Common.{◌≡◌, [], rules, vec_capacity}
use Rattle.judy_directory.specs.Rooms.{HasListRoom}
use Rattle.judy_directory.proofs.Lengths.{bytes-none}
use Rattle.judy_directory.proofs.Orders.{order-none}
use Rattle.judy_directory.proofs.names.Names.new.Goals as goal

pub invariant_of-result : goal.invariant_of-result
invariant_of-result c =
    let es = c.in_ok-table.table.entries in
    let fs = c.in_ok-kept.kept.items in
    let none : es ≡ [] = c.in_ok-table.ensures.empty in
    let empty : fs ≡ [] = search rules in
    let room : HasListRoom es fs (vec_capacity c.in_ok-kept.kept) = search rules in
    (room, bytes-none es fs none empty, order-none es c.new.result none c.new.ensures.empty)
