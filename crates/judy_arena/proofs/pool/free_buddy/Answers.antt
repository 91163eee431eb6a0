use Rattle.std.proofs.Common.{◌≡◌, ◌≢◌, ◌+◌, arith, length, ◌∙◌, sym}
use Rattle.std.proofs.lemmas.Bool.Decides.{nat_tests}
use Rattle.std.proofs.lemmas.Grind.{get_or_default_zero}
use Rattle.judy_arena.proofs.Joins.{buddy-there, alone-by}
use Rattle.judy_arena.proofs.pool.free_buddy.Goals as goal

pub index-requires : goal.index-requires
index-requires c =
    let t = buddy-there c.args.class c.args.n c.buddy_of-buddy.result (length c.args.marks.now.items) c.if-class-ge-LAST.false c.buddy_of-buddy.ensures
    c.requires.runs c.requires.there in
    let o = c.args.marks.now.ok.0 in omega (arith, t, o)

pub returns-then-index-class-clause-some : goal.returns-then-index-class-clause-some
returns-then-index-class-clause-some c =
    let there = buddy-there c.args.class c.args.n c.buddy_of-buddy.result (length c.args.marks.now.items) c.if-class-ge-LAST.false c.buddy_of-buddy.ensures
    c.requires.runs c.requires.there in
    let read = c.index.ensures ∙ get_or_default_zero c.args.marks.now.items c.buddy_of-buddy.result c.index.result.now there in
    let t = c.if-index-class.true in let e : c.index.result.now ≡ c.args.class + 9 = grind (arith, nat_tests, t) in
    (c.if-class-ge-LAST.false, sym read ∙ e, c.buddy_of-buddy.ensures)

pub returns-clause-none : goal.returns-clause-none
returns-clause-none c =
    let there = buddy-there c.args.class c.args.n c.buddy_of-buddy.result (length c.args.marks.now.items) c.if-class-ge-LAST.false c.buddy_of-buddy.ensures
    c.requires.runs c.requires.there in
    let read = c.index.ensures ∙ get_or_default_zero c.args.marks.now.items c.buddy_of-buddy.result c.index.result.now there in
    let t = c.if-index-class.false in
    let d : c.index.result.now ≢ c.args.class + 9 = grind (arith, nat_tests, t) in
    alone-by c.args.marks.now.items c.args.class c.args.n c.buddy_of-buddy.result c.if-class-ge-LAST.false c.buddy_of-buddy.ensures
    (λ e. d (read ∙ e))
