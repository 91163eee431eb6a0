use Rattle.std.proofs.Common.{◌-◌, not, sym, ap, ◌∙◌, subst, arith}
use Rattle.std.proofs.lemmas.Bool.{not-true, not-false}
use Rattle.judy_bitmap.specs.ByteSets.{absent, at_least, head_of, members, is_member}
use Rattle.judy_bitmap.proofs.lemmas.Searches.{IsFirstOf, next-absent}
use Rattle.judy_branch.specs.Children.{bitmap_in}
use Rattle.judy_branch.proofs.bitmap.row_end.Goals as goal

pub returns-in-Some-clause-from : goal.returns-in-Some-clause-from
returns-in-Some-clause-from c =
    let answer = c.in-Some.ensures ∙ ap (λ s. head_of (at_least (absent s) c.args.byte)) c.bits.ensures in
    let first = subst (IsFirstOf (λ i. not (is_member (members (bitmap_in c.args.words.now)) i)) c.args.byte (256 - c.args.byte))
    (sym answer) (next-absent (members (bitmap_in c.args.words.now)) c.args.byte c.ranges.byte.fits) in
    let low = first.0 in
    let e = c.from.ensures in
    omega arith

pub returns-in-Some-clause-all : goal.returns-in-Some-clause-all
returns-in-Some-clause-all c = λ b low high.
    let answer = c.in-Some.ensures ∙ ap (λ s. head_of (at_least (absent s) c.args.byte)) c.bits.ensures in
    let first = subst (IsFirstOf (λ i. not (is_member (members (bitmap_in c.args.words.now)) i)) c.args.byte (256 - c.args.byte))
    (sym answer) (next-absent (members (bitmap_in c.args.words.now)) c.args.byte c.ranges.byte.fits) in
    let e = c.from.ensures in
    not-false _ (first.3 b low (omega arith))

pub returns-in-Some-clause-stop : goal.returns-in-Some-clause-stop
returns-in-Some-clause-stop c = λ h.
    let answer = c.in-Some.ensures ∙ ap (λ s. head_of (at_least (absent s) c.args.byte)) c.bits.ensures in
    let first = subst (IsFirstOf (λ i. not (is_member (members (bitmap_in c.args.words.now)) i)) c.args.byte (256 - c.args.byte))
    (sym answer) (next-absent (members (bitmap_in c.args.words.now)) c.args.byte c.ranges.byte.fits) in
    ap (is_member (members (bitmap_in c.args.words.now))) c.from.ensures ∙ not-true _ first.2

pub returns-in-None-clause-all : goal.returns-in-None-clause-all
returns-in-None-clause-all c = λ b low high.
    let answer = c.in-None.ensures ∙ ap (λ s. head_of (at_least (absent s) c.args.byte)) c.bits.ensures in
    let none = subst (IsFirstOf (λ i. not (is_member (members (bitmap_in c.args.words.now)) i)) c.args.byte (256 - c.args.byte))
    (sym answer) (next-absent (members (bitmap_in c.args.words.now)) c.args.byte c.ranges.byte.fits) in
    let small = c.ranges.byte.fits in
    not-false _ (none b low (omega arith))
