use Rattle.std.proofs.Common.{◌≡◌, ◌+◌, ◌<◌, false, ◌||◌, [], ◌∷◌, length, ◌∙◌, ap, sym, subst, refl, arith}
use Rattle.std.specs.Prelude.{slice_set}
use Rattle.judy_arena.specs.Blocks.{ArenaState, Blocks, words_of}
use Rattle.judy_arena.specs.Takes.{TakesNothing}
use Rattle.judy_arena.proofs.lemmas.TakeLaws.{takes-rests, rests-two, same-rests}
use Rattle.judy_arena.specs.Frame.{Frame}
use Rattle.judy_arena.specs.Room.{room}
use Rattle.judy_arena.proofs.lemmas.FrameLaws.{frame-alloc, frame-write}
use Rattle.judy_arena.proofs.lemmas.BlockLaws.{words-at, itself}
use Rattle.judy_arena.proofs.lemmas.RoomLaws.{length-zeros, room-covers}
use Rattle.judy_bytes.specs.Buckets.{packed_bucket}
use Rattle.judy_bytes.proofs.Buckets.{IsFilled, fill-more, three-set, made-bucket, bytes-of}
use Rattle.judy_bytes.proofs.bucket.make.Goals as goal

-- a call that changes blocks alone
only-blocks : (a b : ArenaState) (bs : Blocks) → b ≡ record a { blocks = bs } → TakesNothing a b
only-blocks a b bs is = subst (TakesNothing a) (sym is) (same-rests a)

pub loop-j-init : goal.loop-j-init
loop-j-init c =
    let n = c.in_ok-block.block in
    let w0 = words_of c.alloc.new.self.blocks n in
    let size : length w0 ≡ room (3 + c.packed_words-words.result) = ap length c.in_ok-block.ensures.words ∙ length-zeros
    (room (3 + c.packed_words-words.result)) in
    let first = words-at c.alloc.new.self.blocks c.set.new.self.blocks n (slice_set w0 0 c.word.result) (ap (λ a. a.blocks) c.set.ensures.only) in
    let second = words-at c.set.new.self.blocks c.set-2.new.self.blocks n
    (slice_set (words_of c.set.new.self.blocks n) 1 c.args.value) (ap (λ a. a.blocks) c.set-2.ensures.only)
    ∙ ap (λ ws. slice_set ws 1 c.args.value) first in
    let third = words-at c.set-2.new.self.blocks c.set-3.new.self.blocks n (slice_set (words_of c.set-2.new.self.blocks n) 2
    (length c.args.key.now)) (ap (λ a. a.blocks) c.set-3.ensures.only) ∙ ap (λ ws. slice_set ws 2 (length c.args.key.now)) second in
    let taken : Frame c.args.arena.now.blocks c.alloc.new.self.blocks [] (n ∷ []) =
    subst (λ b. Frame c.args.arena.now.blocks b [] (n ∷ [])) (sym c.in_ok-block.ensures.blocks)
    (frame-alloc c.args.arena.now.blocks n _ c.in_ok-block.ensures.fresh) in
    let own = ap (λ t. t || false) (itself n) in
    let f1 = frame-write c.args.arena.now.blocks c.alloc.new.self.blocks c.set.new.self.blocks [] (n ∷ []) n _ taken own
    (ap (λ a. a.blocks) c.set.ensures.only) in
    let f2 = frame-write c.args.arena.now.blocks c.set.new.self.blocks c.set-2.new.self.blocks [] (n ∷ []) n _ f1 own
    (ap (λ a. a.blocks) c.set-2.ensures.only) in
    record {
      frame = frame-write c.args.arena.now.blocks c.set-2.new.self.blocks c.set-3.new.self.blocks [] (n ∷ []) n _ f2 own
          (ap (λ a. a.blocks) c.set-3.ensures.only);
      size = c.set-3.ensures.sizes n ∙ c.set-2.ensures.sizes n ∙ c.set.ensures.sizes n ∙ size;
      filled = subst (λ ws. IsFilled 0 ws c.args.next c.args.value c.args.key.now) (sym third)
          (subst (λ x. IsFilled 0 (slice_set (slice_set (slice_set w0 0 c.word.result) 1 c.args.value) 2 (length c.args.key.now))
          x c.args.value c.args.key.now) c.word.ensures
          (three-set w0 c.args.key.now c.word.result c.args.value (length c.args.key.now)
          (omega (arith, size, room-covers (3 + c.packed_words-words.result))) refl));
      refusals = (ap (λ a. a.refusals) c.set-3.ensures.only) ∙ (ap (λ a. a.refusals) c.set-2.ensures.only)
          ∙ (ap (λ a. a.refusals) c.set.ensures.only) ∙ c.in_ok-block.ensures.refusals;
      memory = takes-rests 1 c.args.arena.now c.alloc.new.self c.set-3.new.self c.in_ok-block.ensures.memory
          (rests-two c.alloc.new.self c.set-2.new.self c.set-3.new.self
          (rests-two c.alloc.new.self c.set.new.self c.set-2.new.self (only-blocks c.alloc.new.self c.set.new.self _ c.set.ensures.only)
          (only-blocks c.set.new.self c.set-2.new.self _ c.set-2.ensures.only))
          (only-blocks c.set-2.new.self c.set-3.new.self _ c.set-3.ensures.only));
    }

pub set-requires-in-loop-j : goal.set-requires-in-loop-j
set-requires-in-loop-j c = omega (arith, c.loop-j.invariant.size, c.loop-j-test.true, room-covers (3 + c.packed_words-words.result))

pub loop-j-preserved : goal.loop-j-preserved
loop-j-preserved c =
    let n = c.in_ok-block.block in
    let words = words-at c.loop-j.arena.blocks c.set-in-loop-j.new.self.blocks n
    (slice_set (words_of c.loop-j.arena.blocks n) (3 + c.loop-j.j) c.word_at.result) (ap (λ a. a.blocks) c.set-in-loop-j.ensures.only) in
    record {
      frame = frame-write c.args.arena.now.blocks c.loop-j.arena.blocks c.set-in-loop-j.new.self.blocks [] (n ∷ []) n _
          c.loop-j.invariant.frame (ap (λ t. t || false) (itself n)) (ap (λ a. a.blocks) c.set-in-loop-j.ensures.only);
      size = c.set-in-loop-j.ensures.sizes n ∙ c.loop-j.invariant.size;
      filled = subst (λ ws. IsFilled (c.loop-j.j + 1) ws c.args.next c.args.value c.args.key.now) (sym words)
          (fill-more c.loop-j.j (words_of c.loop-j.arena.blocks n) c.args.next c.args.value c.args.key.now c.word_at.result
          (omega (arith, c.loop-j.invariant.size, c.loop-j-test.true, room-covers (3 + c.packed_words-words.result)))
          c.word_at.ensures c.loop-j.invariant.filled);
      refusals = (ap (λ a. a.refusals) c.set-in-loop-j.ensures.only) ∙ c.loop-j.invariant.refusals;
      memory = takes-rests 1 c.args.arena.now c.loop-j.arena c.set-in-loop-j.new.self c.loop-j.invariant.memory
          (only-blocks c.loop-j.arena c.set-in-loop-j.new.self _ c.set-in-loop-j.ensures.only);
    }

pub returns-clause-made : goal.returns-clause-made
returns-clause-made c =
    let n = c.in_ok-block.block in
    let count : c.packed_words-words.result ≡ packed_bucket (length c.args.key.now) = c.packed_words-words.ensures in
    let end : c.loop-j.j ≡ packed_bucket (length c.args.key.now) = omega (arith, c.loop-j-test.false, c.loop-j.auto.j-end, count) in
    let size : length (words_of c.loop-j.arena.blocks n) ≡ room (3 + packed_bucket (length c.args.key.now)) =
    c.loop-j.invariant.size ∙ ap (λ m. room (3 + m)) count in
    made-bucket c.args.arena.now.blocks c.loop-j.arena.blocks n c.args.next c.args.value c.args.key.now c.ranges.value.fits
    (bytes-of c.args.key.now (λ i. let f = c.type_inv.key i in omega (arith, f))) c.requires.short
    (subst (λ m. m < 4294967296) c.number-number.ensures c.number-number.type_inv) c.loop-j.invariant.frame size
    (omega (arith, size, room-covers (3 + packed_bucket (length c.args.key.now))))
    (subst (λ j. IsFilled j (words_of c.loop-j.arena.blocks n) c.args.next c.args.value c.args.key.now) end c.loop-j.invariant.filled)

pub returns-clause-refusals : goal.returns-clause-refusals
returns-clause-refusals c = c.loop-j.invariant.refusals

pub returns-clause-memory : goal.returns-clause-memory
returns-clause-memory c = c.loop-j.invariant.memory
