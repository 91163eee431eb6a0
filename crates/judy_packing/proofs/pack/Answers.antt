use Rattle.std.proofs.Common.{arith, refl}
use Rattle.judy_packing.specs.Packing.{pack_at}
use Rattle.judy_packing.proofs.lemmas.Packs.{pack-more, room, room-more}
use Rattle.judy_packing.proofs.pack.Goals as goal

pub loop-i-init : goal.loop-i-init
unfolding pack_at
loop-i-init c = record { word = refl; small = omega arith }

pub overflow_mul-word : goal.overflow_mul-word
overflow_mul-word c = let h = room c.loop-i.i c.loop-i.word c.loop-i.invariant.small c.loop-i-test.true in omega arith

pub overflow_add-word : goal.overflow_add-word
overflow_add-word c = let h = room c.loop-i.i c.loop-i.word c.loop-i.invariant.small c.loop-i-test.true in let k = c.byte_or_zero.type_inv in omega arith

pub loop-i-preserved : goal.loop-i-preserved
loop-i-preserved c = record {
  word = pack-more c.args.bytes.now c.loop-i.i c.loop-i.word c.byte_or_zero.result
      c.loop-i.invariant.word c.byte_or_zero.ensures;
  small = room-more c.loop-i.i c.loop-i.word c.byte_or_zero.result
      c.loop-i.invariant.small c.byte_or_zero.type_inv;
}
