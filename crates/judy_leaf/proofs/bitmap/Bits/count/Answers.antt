use Rattle.std.proofs.Common.{arith}
use Rattle.judy_leaf.proofs.BitsQueries.{count-many, count-top, count-zero}
use Rattle.judy_leaf.proofs.bitmap.Bits.count.Goals as goal

pub returns-then-b-a : goal.returns-then-b-a
returns-then-b-a c = count-zero c.args.self.values c.args.self.words.now c.args.self.sound c.args.a c.args.b c.if-b-a.true

pub overflow_sub-result : goal.overflow_sub-result
overflow_sub-result c = omega (
  arith,
  c.below-below.ensures,
  count-top c.args.self.values c.args.self.words.now c.args.self.sound c.args.a c.args.b
      c.if-b-a.false c.if-b-eq18446744073709551615.true,
)

pub returns-then-b-eq18446744073709551615 : goal.returns-then-b-eq18446744073709551615
returns-then-b-eq18446744073709551615 c = omega (
  arith,
  c.below-below.ensures,
  count-top c.args.self.values c.args.self.words.now c.args.self.sound
      c.args.a c.args.b c.if-b-a.false c.if-b-eq18446744073709551615.true,
)

pub overflow_sub-result-2 : goal.overflow_sub-result-2
overflow_sub-result-2 c = omega (
  arith,
  c.below-below.ensures,
  c.below.ensures,
  count-many c.args.self.values c.args.self.words.now c.args.self.sound
      c.args.a c.args.b c.if-b-a.false,
)

pub returns : goal.returns
returns c = omega (
  arith,
  c.below-below.ensures,
  c.below.ensures,
  count-many c.args.self.values c.args.self.words.now c.args.self.sound c.args.a c.args.b c.if-b-a.false,
)
