use Rattle.std.proofs.Common.{◌≡◌, ◌≢◌, ◌+◌, ◌-◌, ◌%◌, ◌≤◌, get_or, take, drop, ap, sym, ◌∙◌, subst, arith}
use Rattle.judy_branch.specs.declared.shape.Shape.TheVariants.{Linear}
use Rattle.judy_branch.specs.Children.{child_bytes, children_in, count_in}
use Rattle.judy_branch.specs.Rows.{IsChildRow}
use Rattle.judy_branch.proofs.Nearest.{unpacked-at}
use Rattle.judy_branch.proofs.Shapes.{linear-paired}
use Rattle.judy_branch.proofs.Rows.{follows-one, follows-more, row-none, row-some}
use Rattle.judy_branch.proofs.linear.row.Goals as goal

pub returns-in_default : goal.returns-in_default
unfolding child_bytes
returns-in_default c = row-none Linear c.args.words.now c.requires (linear-paired c.args.words.now c.requires) c.args.byte _
    c.ranges.byte.fits c.in_default.ensures

pub overflow_step-end : goal.overflow_step-end
unfolding child_bytes
overflow_step-end c =
    let m = (linear-paired c.args.words.now c.requires).many in
    let l = c.requires.most in
    let r = c.requires.room in
    let i = c.in-Ok.ensures.inside in
    omega arith

pub loop-end-init : goal.loop-end-init
unfolding child_bytes
loop-end-init c = let n : c.in-Ok.place + 1 - c.in-Ok.place ≡ 1 = omega arith in follows-one (child_bytes Linear c.args.words.now)
    c.args.byte c.in-Ok.place (c.in-Ok.place + 1 - c.in-Ok.place) n c.in-Ok.ensures

pub returns-then-from-end : goal.returns-then-from-end
unfolding child_bytes
returns-then-from-end c =
    let m = (linear-paired c.args.words.now c.requires).many in
    let l = c.requires.most in
    let r = c.requires.room in
    let i = c.in-Ok.ensures.inside in
    let t = c.loop-end-test.true in
    let low = c.loop-end.auto.end in
    let same : c.in-Ok.place + (c.loop-end.end - c.in-Ok.place) ≡ c.loop-end.end = omega arith in
    let at : get_or (child_bytes Linear c.args.words.now) c.loop-end.end 0 ≡ c.from.result = unpacked-at (count_in c.args.words.now)
    (get_or c.args.words.now 3 0) c.loop-end.end t ∙ sym c.byte_at.ensures ∙ sym c.from.ensures in
    let ne : c.from.result ≢ c.from-in-loop-end.result + (c.loop-end.end - c.in-Ok.place) = c.if-from-end.true in
    let e = c.from-in-loop-end.ensures in
    let s : c.loop-end.end - c.in-Ok.place ≡ 4 + c.loop-end.end - (4 + c.in-Ok.place) = omega arith in
    subst (λ z. IsChildRow (children_in Linear c.args.words.now) c.args.byte (take z (drop (4 + c.in-Ok.place) c.args.words.now))) s
    (row-some Linear c.args.words.now c.requires (linear-paired c.args.words.now c.requires) c.args.byte c.in-Ok.place
    (c.loop-end.end - c.in-Ok.place) (omega arith) c.loop-end.invariant
    (λ _ h. ne (let a = ap (λ x. get_or (child_bytes Linear c.args.words.now) x 0) same in omega arith)) (omega arith))

pub loop-end-preserved : goal.loop-end-preserved
unfolding child_bytes
loop-end-preserved c =
    let m = (linear-paired c.args.words.now c.requires).many in
    let l = c.requires.most in
    let r = c.requires.room in
    let i = c.in-Ok.ensures.inside in
    let t = c.loop-end-test.true in
    let low = c.loop-end.auto.end in
    let same : c.in-Ok.place + (c.loop-end.end - c.in-Ok.place) ≡ c.loop-end.end = omega arith in
    let at : get_or (child_bytes Linear c.args.words.now) c.loop-end.end 0 ≡ c.from.result = unpacked-at (count_in c.args.words.now)
    (get_or c.args.words.now 3 0) c.loop-end.end t ∙ sym c.byte_at.ensures ∙ sym c.from.ensures in
    let eq : c.from.result ≡ c.from-in-loop-end.result + (c.loop-end.end - c.in-Ok.place) = c.if-from-end.false in
    let e = c.from-in-loop-end.ensures in
    follows-more (child_bytes Linear c.args.words.now) c.args.byte c.in-Ok.place (c.loop-end.end - c.in-Ok.place)
    (c.loop-end.end + 1 - c.in-Ok.place) (omega arith) c.loop-end.invariant (omega arith)
    (ap (λ x. get_or (child_bytes Linear c.args.words.now) x 0) same ∙ at ∙ eq ∙ ap (λ z. z + (c.loop-end.end - c.in-Ok.place)) e)

pub overflow_add-result-2 : goal.overflow_add-result-2
unfolding child_bytes
overflow_add-result-2 c =
    let m = (linear-paired c.args.words.now c.requires).many in
    let l = c.requires.most in
    let r = c.requires.room in
    let i = c.in-Ok.ensures.inside in
    omega arith

pub offset_bounds-words-place-2 : goal.offset_bounds-words-place-2
unfolding child_bytes
offset_bounds-words-place-2 c =
    let m = (linear-paired c.args.words.now c.requires).many in
    let l = c.requires.most in
    let r = c.requires.room in
    let i = c.in-Ok.ensures.inside in
    omega arith

pub slice_bounds-result-count-2 : goal.slice_bounds-result-count-2
unfolding child_bytes
slice_bounds-result-count-2 c =
    let m = (linear-paired c.args.words.now c.requires).many in
    let l = c.requires.most in
    let r = c.requires.room in
    let i = c.in-Ok.ensures.inside in
    omega arith

pub slice_bounds-result-start-2 : goal.slice_bounds-result-start-2
unfolding child_bytes
slice_bounds-result-start-2 c =
    let m = (linear-paired c.args.words.now c.requires).many in
    let l = c.requires.most in
    let r = c.requires.room in
    let i = c.in-Ok.ensures.inside in
    let h : 4 + c.in-Ok.place ≤ 4 + get_or c.args.words.now 0 0 % 512 = omega arith in
    h

pub returns : goal.returns
unfolding child_bytes
returns c =
    let m = (linear-paired c.args.words.now c.requires).many in
    let l = c.requires.most in
    let r = c.requires.room in
    let i = c.in-Ok.ensures.inside in
    let t = c.loop-end-test.false in
    let w = c.loop-end.invariant.within in
    let low = c.loop-end.auto.end in
    let n : get_or c.args.words.now 0 0 % 512 - c.in-Ok.place ≡ c.loop-end.end - c.in-Ok.place = omega arith in
    let s : c.loop-end.end - c.in-Ok.place ≡ 4 + get_or c.args.words.now 0 0 % 512 - (4 + c.in-Ok.place) = omega arith in
    subst (λ z. IsChildRow (children_in Linear c.args.words.now) c.args.byte (take z (drop (4 + c.in-Ok.place) c.args.words.now))) s
    (row-some Linear c.args.words.now c.requires (linear-paired c.args.words.now c.requires) c.args.byte c.in-Ok.place
    (c.loop-end.end - c.in-Ok.place) (omega arith) c.loop-end.invariant
    (λ h. absurd (omega arith)) (omega arith))
