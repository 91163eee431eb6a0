use Rattle.std.proofs.Common.{arith}
use Rattle.std.proofs.lemmas.Bool.Decides.{nat_tests}
use Rattle.judy_arena.proofs.Joins.{upper-buddy, lower-buddy}
use Rattle.judy_arena.proofs.pool.buddy_of.Goals as goal

pub returns-then-n-class-eq0 : goal.returns-then-n-class-eq0
returns-then-n-class-eq0 c =
    let t = c.if-n-class-eq0.true in let s = c.size_of_class-fours.ensures in
    upper-buddy c.args.class c.args.n _ c.requires.class c.requires.aligned (grind (arith, nat_tests, t)) (omega (arith, s))

pub returns : goal.returns
returns c =
    let t = c.if-n-class-eq0.false in let s = c.size_of_class-fours.ensures in
    lower-buddy c.args.class c.args.n _ c.requires.class c.requires.aligned (grind (arith, nat_tests, t)) (omega (arith, s))
