use Rattle.std.proofs.Common.{◌≡◌, ◌+◌, ◌-◌, ◌≤◌, length, take, drop, subst, arith}
use Rattle.judy_branch.specs.declared.shape.Shape.TheVariants.{Bitmap}
use Rattle.judy_branch.specs.Children.{child_bytes, children_in}
use Rattle.judy_branch.specs.Rows.{IsChildRow}
use Rattle.judy_branch.proofs.Shapes.{bitmap-paired}
use Rattle.judy_branch.proofs.Rows.{row-none, bitmap-row, bitmap-room}
use Rattle.judy_branch.proofs.bitmap.row.Goals as goal

pub returns-in_default : goal.returns-in_default
unfolding child_bytes
returns-in_default c = row-none Bitmap c.args.words.now c.requires (bitmap-paired c.args.words.now c.requires) c.args.byte _
    c.ranges.byte.fits c.in_default.ensures

pub overflow_add-result : goal.overflow_add-result
unfolding child_bytes
overflow_add-result c =
    let room = bitmap-room c.args.words.now c.requires c.args.byte c.in-Ok.place c.row_end.result c.in-Ok.ensures
    c.row_end.ensures.from c.row_end.ensures.within c.row_end.ensures.all c.row_end.ensures.stop in
    let m = c.requires.most in
    let i = c.in-Ok.ensures.inside in
    let n = (bitmap-paired c.args.words.now c.requires).many in
    let e = c.from.ensures in
    let b = c.row_end.ensures.within in
    let l = c.row_end.ensures.from in
    omega arith

pub overflow_add-result-2 : goal.overflow_add-result-2
unfolding child_bytes
overflow_add-result-2 c =
    let room = bitmap-room c.args.words.now c.requires c.args.byte c.in-Ok.place c.row_end.result c.in-Ok.ensures
    c.row_end.ensures.from c.row_end.ensures.within c.row_end.ensures.all c.row_end.ensures.stop in
    let m = c.requires.most in
    let i = c.in-Ok.ensures.inside in
    let n = (bitmap-paired c.args.words.now c.requires).many in
    let e = c.from.ensures in
    let b = c.row_end.ensures.within in
    let l = c.row_end.ensures.from in
    omega arith

pub overflow_add-result-3 : goal.overflow_add-result-3
unfolding child_bytes
overflow_add-result-3 c =
    let room = bitmap-room c.args.words.now c.requires c.args.byte c.in-Ok.place c.row_end.result c.in-Ok.ensures
    c.row_end.ensures.from c.row_end.ensures.within c.row_end.ensures.all c.row_end.ensures.stop in
    let m = c.requires.most in
    let i = c.in-Ok.ensures.inside in
    let n = (bitmap-paired c.args.words.now c.requires).many in
    let e = c.from.ensures in
    let b = c.row_end.ensures.within in
    let l = c.row_end.ensures.from in
    omega arith

pub offset_bounds-words-place : goal.offset_bounds-words-place
unfolding child_bytes
offset_bounds-words-place c =
    let room = bitmap-room c.args.words.now c.requires c.args.byte c.in-Ok.place c.row_end.result c.in-Ok.ensures
    c.row_end.ensures.from c.row_end.ensures.within c.row_end.ensures.all c.row_end.ensures.stop in
    let m = c.requires.most in
    let i = c.in-Ok.ensures.inside in
    let n = (bitmap-paired c.args.words.now c.requires).many in
    let e = c.from.ensures in
    let b = c.row_end.ensures.within in
    let l = c.row_end.ensures.from in
    omega arith

pub slice_bounds-result-end-2 : goal.slice_bounds-result-end-2
unfolding child_bytes
slice_bounds-result-end-2 c =
    let room = bitmap-room c.args.words.now c.requires c.args.byte c.in-Ok.place c.row_end.result c.in-Ok.ensures
    c.row_end.ensures.from c.row_end.ensures.within c.row_end.ensures.all c.row_end.ensures.stop in
    let m = c.requires.most in
    let i = c.in-Ok.ensures.inside in
    let n = (bitmap-paired c.args.words.now c.requires).many in
    let e = c.from.ensures in
    let b = c.row_end.ensures.within in
    let l = c.row_end.ensures.from in
    let w : 7 + c.in-Ok.place + (c.row_end.result - c.from.result) ≤ length c.args.words.now = omega arith in
    w

pub returns : goal.returns
unfolding child_bytes
returns c =
    let room = bitmap-room c.args.words.now c.requires c.args.byte c.in-Ok.place c.row_end.result c.in-Ok.ensures
    c.row_end.ensures.from c.row_end.ensures.within c.row_end.ensures.all c.row_end.ensures.stop in
    let m = c.requires.most in
    let i = c.in-Ok.ensures.inside in
    let n = (bitmap-paired c.args.words.now c.requires).many in
    let e = c.from.ensures in
    let b = c.row_end.ensures.within in
    let l = c.row_end.ensures.from in
    let s : c.row_end.result - c.args.byte ≡ 7 + c.in-Ok.place + (c.row_end.result - c.from.result) - (7 + c.in-Ok.place) = omega arith in
    subst (λ z. IsChildRow (children_in Bitmap c.args.words.now) c.args.byte (take z (drop (7 + c.in-Ok.place) c.args.words.now))) s
    (bitmap-row c.args.words.now c.requires c.args.byte c.in-Ok.place c.row_end.result c.in-Ok.ensures c.row_end.ensures.from
    c.row_end.ensures.within c.row_end.ensures.all c.row_end.ensures.stop)
