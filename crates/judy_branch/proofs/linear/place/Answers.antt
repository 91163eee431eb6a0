use Rattle.judy_branch.specs.declared.shape.Shape.TheVariants.{Linear}
use Rattle.judy_branch.specs.Children.{child_bytes}
use Rattle.judy_branch.proofs.Shapes.{linear-paired}
use Rattle.judy_branch.proofs.Spans.{there-place, missing-place, end-place}
use Rattle.judy_branch.proofs.linear.place.Goals as goal

pub returns-then-byte-gt255 : goal.returns-then-byte-gt255
returns-then-byte-gt255 c = end-place Linear c.args.words.now c.requires.laid (linear-paired c.args.words.now c.requires.laid) c.args.byte c.if-byte-gt255.true

pub returns-in-Ok : goal.returns-in-Ok
unfolding child_bytes
returns-in-Ok c = there-place (child_bytes Linear c.args.words.now) c.args.byte c.in-Ok.place c.in-Ok.ensures

pub returns-in-Err : goal.returns-in-Err
unfolding child_bytes
returns-in-Err c = missing-place (child_bytes Linear c.args.words.now) c.args.byte c.in-Err.place c.in-Err.ensures
