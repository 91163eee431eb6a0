use Rattle.std.proofs.Common.{arith, length-set, refl}
use Rattle.std.proofs.lemmas.Bool.Decides.{nat_tests}
use Rattle.judy_arena.proofs.Pulls.{after-take, pull-first, pull-middle, back-some, back-there, next-there}
use Rattle.judy_arena.proofs.ReadyLaws.{ready-less}
use Rattle.judy_arena.proofs.lemmas.BlockLaws.{only-put}
use Rattle.judy_arena.proofs.pool.pull.Goals as goal

pub returns-then-heads-class-clause-sound : goal.returns-then-heads-class-clause-sound
returns-then-heads-class-clause-sound c =
    after-take _ _ _ _ _ c.args.n c.args.class c.requires.sound (pull-first c.args.marks.now.items c.args.region.now c.args.heads.now c.requires.sound c.args.n c.args.class c.get-next.result c.requires.class (grind (arith, nat_tests, c.if-heads-class.true)) c.get-next.ensures) (length-set c.args.heads.now c.args.class c.get-next.result)

pub returns-then-heads-class-clause-fresh : goal.returns-then-heads-class-clause-fresh
returns-then-heads-class-clause-fresh c = (pull-first c.args.marks.now.items c.args.region.now c.args.heads.now c.requires.sound c.args.n c.args.class c.get-next.result c.requires.class (grind (arith, nat_tests, c.if-heads-class.true)) c.get-next.ensures).fresh

pub returns-then-heads-class-clause-blocks : goal.returns-then-heads-class-clause-blocks
returns-then-heads-class-clause-blocks c = only-put _ _ _ _ (pull-first c.args.marks.now.items c.args.region.now c.args.heads.now c.requires.sound c.args.n c.args.class c.get-next.result c.requires.class (grind (arith, nat_tests, c.if-heads-class.true)) c.get-next.ensures).view

pub returns-then-heads-class-clause-ready : goal.returns-then-heads-class-clause-ready
returns-then-heads-class-clause-ready c = ready-less c.args.heads.now c.args.class c.get-next.result c.requires.class

pub overflow_sub-back : goal.overflow_sub-back
overflow_sub-back c = back-some c.args.marks.now.items c.args.region.now c.args.heads.now c.requires.sound c.args.n c.args.class c.get-next.result c.get-back.result c.requires.class c.requires.free (grind (arith, nat_tests, c.if-heads-class.false)) c.get-next.ensures c.get-back.ensures

pub link-requires-clause-number : goal.link-requires-clause-number
link-requires-clause-number c = let b = back-there c.args.marks.now.items c.args.region.now c.args.heads.now c.requires.sound c.args.n c.args.class c.get-next.result c.get-back.result c.requires.class c.requires.free (grind (arith, nat_tests, c.if-heads-class.false)) c.get-next.ensures c.get-back.ensures in let m = c.requires.sound.2 in omega (arith, b, m)

pub link-requires-clause-there : goal.link-requires-clause-there
link-requires-clause-there c = let b = back-there c.args.marks.now.items c.args.region.now c.args.heads.now c.requires.sound c.args.n c.args.class c.get-next.result c.get-back.result c.requires.class c.requires.free (grind (arith, nat_tests, c.if-heads-class.false)) c.get-next.ensures c.get-back.ensures in let s = c.requires.sound.0.sized in omega (arith, b, s)

pub link-requires-clause-few : goal.link-requires-clause-few
link-requires-clause-few c = let b = next-there c.args.marks.now.items c.args.region.now c.args.heads.now c.requires.sound c.args.n c.args.class c.get-next.result c.get-back.result c.requires.class c.requires.free (grind (arith, nat_tests, c.if-heads-class.false)) c.get-next.ensures c.get-back.ensures in let m = c.requires.sound.2 in omega (arith, b, m)

pub link-requires-clause-next : goal.link-requires-clause-next
link-requires-clause-next c = let b = next-there c.args.marks.now.items c.args.region.now c.args.heads.now c.requires.sound c.args.n c.args.class c.get-next.result c.get-back.result c.requires.class c.requires.free (grind (arith, nat_tests, c.if-heads-class.false)) c.get-next.ensures c.get-back.ensures in let s = c.requires.sound.0.sized in omega (arith, b, s)

pub returns-clause-sound : goal.returns-clause-sound
returns-clause-sound c = after-take _ _ _ _ _ c.args.n c.args.class c.requires.sound (pull-middle c.args.marks.now.items c.args.region.now c.args.heads.now c.requires.sound c.args.n c.args.class c.get-next.result c.get-back.result c.requires.class c.requires.free (grind (arith, nat_tests, c.if-heads-class.false)) c.get-next.ensures c.get-back.ensures c.link.new.region c.link.ensures) refl

pub returns-clause-fresh : goal.returns-clause-fresh
returns-clause-fresh c = (pull-middle c.args.marks.now.items c.args.region.now c.args.heads.now c.requires.sound c.args.n c.args.class c.get-next.result c.get-back.result c.requires.class c.requires.free (grind (arith, nat_tests, c.if-heads-class.false)) c.get-next.ensures c.get-back.ensures c.link.new.region c.link.ensures).fresh

pub returns-clause-blocks : goal.returns-clause-blocks
returns-clause-blocks c = only-put _ _ _ _ (pull-middle c.args.marks.now.items c.args.region.now c.args.heads.now c.requires.sound c.args.n c.args.class c.get-next.result c.get-back.result c.requires.class c.requires.free (grind (arith, nat_tests, c.if-heads-class.false)) c.get-next.ensures c.get-back.ensures c.link.new.region c.link.ensures).view
