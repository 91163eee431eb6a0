use Rattle.std.proofs.Common.{◌+◌, arith, ap, ◌∙◌}
use Rattle.judy_arena.specs.Ready.{greatest}
use Rattle.judy_arena.proofs.Pools.{head-fits, after-release}
use Rattle.judy_arena.proofs.Joins.{merges}
use Rattle.judy_arena.proofs.Classes.{size-half}
use Rattle.judy_arena.proofs.ReadyLaws.{ready-more, ready-put}
use Rattle.judy_arena.proofs.Seen.{release-seen}
use Rattle.judy_arena.proofs.pool.+give_back.Goals as goal

pub give_back-requires : goal.give_back-requires
give_back-requires t c =
    let m = merges _ _ _ _ _ _ _ c.args.n c.in-Some.buddy c.args.class _ c.requires.sound c.requires.live c.in-Some.ensures.some c.pull.ensures.sound
    c.pull.ensures.marks c.pull.ensures.blocks c.pull.ensures.fresh c.join-lower.ensures.lower c.join-lower.ensures.marks in
    let f = c.in-Some.ensures.some.0 in
    (omega (arith, c.decreases, f), (omega (arith, f), (m.sound, m.used)))

pub free-requires-clause-few : goal.free-requires-clause-few
free-requires-clause-few t c = (head-fits _ _ _ c.requires.sound c.args.class c.requires.class).0

pub free-requires-clause-next : goal.free-requires-clause-next
free-requires-clause-next t c = (head-fits _ _ _ c.requires.sound c.args.class c.requires.class).1

pub returns-in-Some-clause-blocks : goal.returns-in-Some-clause-blocks
returns-in-Some-clause-blocks t c =
    let m = merges _ _ _ _ _ _ _ c.args.n c.in-Some.buddy c.args.class _ c.requires.sound c.requires.live c.in-Some.ensures.some c.pull.ensures.sound
    c.pull.ensures.marks c.pull.ensures.blocks c.pull.ensures.fresh c.join-lower.ensures.lower c.join-lower.ensures.marks in
    c.give_back.ensures.blocks ∙ m.blocks

pub returns-in-Some-clause-len : goal.returns-in-Some-clause-len
returns-in-Some-clause-len t c =
    let m = merges _ _ _ _ _ _ _ c.args.n c.in-Some.buddy c.args.class _ c.requires.sound c.requires.live c.in-Some.ensures.some c.pull.ensures.sound
    c.pull.ensures.marks c.pull.ensures.blocks c.pull.ensures.fresh c.join-lower.ensures.lower c.join-lower.ensures.marks in
    c.give_back.ensures.len ∙ m.long

pub returns-in-Some-clause-ready : goal.returns-in-Some-clause-ready
returns-in-Some-clause-ready t c =
    let p = c.pull.ensures.ready in let r = c.give_back.ensures.ready in let f = c.give_back.ensures.freed in
    let h = size-half c.args.class c.in-Some.ensures.some.0 in omega (arith, p, r, f, h)

pub returns-in-Some-clause-freed : goal.returns-in-Some-clause-freed
returns-in-Some-clause-freed t c =
    let f = c.give_back.ensures.freed in let h = size-half c.args.class c.in-Some.ensures.some.0 in omega (arith, f, h)

pub returns-in-None-clause-sound : goal.returns-in-None-clause-sound
returns-in-None-clause-sound t c =
    rw (c.free.ensures.region, c.free.ensures.marks, c.free.ensures.heads)
    (after-release _ _ _ c.requires.sound c.args.n c.args.class c.requires.live c.requires.class c.in-None.ensures.none)

pub returns-in-None-clause-blocks : goal.returns-in-None-clause-blocks
returns-in-None-clause-blocks t c =
    rw (c.free.ensures.region, c.free.ensures.marks)
    (release-seen _ _ _ c.requires.sound.0 c.requires.sound.1 c.args.n c.args.class c.requires.live c.requires.class)

pub returns-in-None-clause-ready : goal.returns-in-None-clause-ready
returns-in-None-clause-ready t c =
    let r = ready-more c.args.heads.now c.args.class (c.args.n + 1) (omega arith) in let u = ap greatest c.free.ensures.heads in omega (arith, r, u)

pub returns-in-None-clause-freed : goal.returns-in-None-clause-freed
returns-in-None-clause-freed t c =
    let r = ready-put c.args.heads.now c.args.class (c.args.n + 1) c.requires.class c.requires.sound.1 (omega arith) in
    let u = ap greatest c.free.ensures.heads in omega (arith, r, u)
