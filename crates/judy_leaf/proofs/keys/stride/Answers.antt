use Rattle.std.proofs.Common.{arith}
use Rattle.judy_leaf.proofs.Strides.{stepped}
use Rattle.judy_leaf.proofs.keys.stride.Goals as goal

pub loop-step-preserved : goal.loop-step-preserved
loop-step-preserved c = λ i h.
    stepped c.args.keys.now c.args.x c.loop-step.step i c.requires (omega (arith, c.loop-step-test.true)) (omega (arith, c.if-keys-step.false)) h
