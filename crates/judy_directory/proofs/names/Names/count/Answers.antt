use Rattle.std.proofs.Common.{◌≡◌, ◌≤◌, ◌++◌, ap, arith, length}
use Rattle.std.proofs.lemmas.List.{length-append}
use Rattle.std.specs.FinMap as map
use Rattle.judy_directory.proofs.Rooms.{joined, len-listed}
use Rattle.judy_directory.proofs.names.Names.count.Goals as goal

pub returns : goal.returns
returns c =
    let es = c.self.inside.table.entries in
    let fs = c.self.inside.kept.items in
    let m : map.len (joined es fs) ≤ length (es ++ fs) = len-listed (es ++ fs) in
    let v : map.len (joined es fs) ≡ map.len c.args.self.now.0 = ap map.len (ap (λ v. v.0) c.self.view_is) in
    let a : c.len.result ≡ length es = c.len.ensures.len in
    let b : c.len-2.result ≡ length fs = omega (arith, c.len-2.ensures) in
    omega (arith, m, length-append es fs, v, a, b, c.self.invariant.0.many)
