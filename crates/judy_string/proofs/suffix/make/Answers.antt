use Rattle.std.proofs.Common.{◌≡◌, ◌+◌, ◌<◌, false, ◌||◌, [], ◌∷◌, length, get_or, ◌∙◌, ap, sym, subst, arith}
use Rattle.std.specs.Prelude.{slice_set}
use Rattle.judy_arena.specs.Blocks.{ArenaState, Blocks, words_of}
use Rattle.judy_arena.specs.Takes.{TakesNothing}
use Rattle.judy_arena.proofs.lemmas.TakeLaws.{takes-rests, rests-two, same-rests}
use Rattle.judy_arena.specs.Frame.{Frame}
use Rattle.judy_refs.specs.References.{number_of}
use Rattle.judy_arena.proofs.lemmas.FrameLaws.{frame-alloc, frame-write}
use Rattle.judy_arena.proofs.lemmas.BlockLaws.{words-at, live-words, itself}
use Rattle.judy_arena.specs.Room.{room}
use Rattle.judy_arena.proofs.lemmas.RoomLaws.{length-zeros}
use Rattle.judy_string.specs.Suffixes.{packed_suffix, is_suffix}
use Rattle.judy_string.proofs.Suffixes.{IsFilled, fill-none, fill-more, two-set, filled-suffix, number-named, suffix-named}
use Rattle.judy_string.proofs.suffix.make.Goals as goal

-- a call that changes blocks alone
only-blocks : (a b : ArenaState) (bs : Blocks) → b ≡ record a { blocks = bs } → TakesNothing a b
only-blocks a b bs is = subst (TakesNothing a) (sym is) (same-rests a)

pub loop-j-init : goal.loop-j-init
loop-j-init c =
    let n = c.in_ok-block.block in
    let first = words-at c.alloc.new.self.blocks c.set.new.self.blocks n (slice_set (words_of c.alloc.new.self.blocks n) 0 c.args.value)
    (ap (λ a. a.blocks) c.set.ensures.only) in
    let second = words-at c.set.new.self.blocks c.set-2.new.self.blocks n
    (slice_set (words_of c.set.new.self.blocks n) 1 (length c.args.string.now)) (ap (λ a. a.blocks) c.set-2.ensures.only)
    ∙ ap (λ ws. slice_set ws 1 (length c.args.string.now)) first in
    let two = two-set (words_of c.alloc.new.self.blocks n) c.args.value (length c.args.string.now) (omega (arith, c.in_ok-block.ensures.size)) in
    let taken : Frame c.args.arena.now.blocks c.alloc.new.self.blocks [] (n ∷ []) =
    subst (λ b. Frame c.args.arena.now.blocks b [] (n ∷ [])) (sym c.in_ok-block.ensures.blocks)
    (frame-alloc c.args.arena.now.blocks n _ c.in_ok-block.ensures.fresh) in
    record {
      frame = frame-write c.args.arena.now.blocks c.set.new.self.blocks c.set-2.new.self.blocks [] (n ∷ []) n _
          (frame-write c.args.arena.now.blocks c.alloc.new.self.blocks c.set.new.self.blocks [] (n ∷ []) n _ taken
          (ap (λ t. t || false) (itself n)) (ap (λ a. a.blocks) c.set.ensures.only)) (ap (λ t. t || false) (itself n))
          (ap (λ a. a.blocks) c.set-2.ensures.only);
      wide = omega (arith, c.in_ok-block.ensures.size, c.set.ensures.sizes n, c.set-2.ensures.sizes n);
      exact = c.set-2.ensures.sizes n ∙ c.set.ensures.sizes n ∙ ap length c.in_ok-block.ensures.words ∙ length-zeros (room (2 + c.packed_words-words.result));
      filled = fill-none (words_of c.set-2.new.self.blocks n) c.args.string.now c.args.value
          (ap (λ ws. get_or ws 0 0) second ∙ two.0) (ap (λ ws. get_or ws 1 0) second ∙ two.1);
      refusals = (ap (λ a. a.refusals) c.set-2.ensures.only) ∙ (ap (λ a. a.refusals) c.set.ensures.only) ∙ c.in_ok-block.ensures.refusals;
      memory = takes-rests 1 c.args.arena.now c.alloc.new.self c.set-2.new.self c.in_ok-block.ensures.memory
          (rests-two c.alloc.new.self c.set.new.self c.set-2.new.self (only-blocks c.alloc.new.self c.set.new.self _ c.set.ensures.only)
          (only-blocks c.set.new.self c.set-2.new.self _ c.set-2.ensures.only));
    }

pub set-requires-in-loop-j : goal.set-requires-in-loop-j
set-requires-in-loop-j c = omega (arith, c.loop-j.invariant.wide, c.loop-j-test.true)

pub loop-j-preserved : goal.loop-j-preserved
loop-j-preserved c =
    let n = c.in_ok-block.block in
    let words = words-at c.loop-j.arena.blocks c.set-in-loop-j.new.self.blocks n
    (slice_set (words_of c.loop-j.arena.blocks n) (2 + c.loop-j.j) c.word_at.result) (ap (λ a. a.blocks) c.set-in-loop-j.ensures.only) in
    record {
      frame = frame-write c.args.arena.now.blocks c.loop-j.arena.blocks c.set-in-loop-j.new.self.blocks [] (n ∷ []) n _
          c.loop-j.invariant.frame (ap (λ t. t || false) (itself n)) (ap (λ a. a.blocks) c.set-in-loop-j.ensures.only);
      wide = omega (arith, c.loop-j.invariant.wide, c.set-in-loop-j.ensures.sizes n);
      exact = c.set-in-loop-j.ensures.sizes n ∙ c.loop-j.invariant.exact;
      filled = subst (λ ws. IsFilled (c.loop-j.j + 1) ws c.args.string.now c.args.value) (sym words)
          (fill-more c.loop-j.j (words_of c.loop-j.arena.blocks n) c.args.string.now c.args.value c.word_at.result
          (omega (arith, c.loop-j.invariant.wide, c.loop-j-test.true)) c.word_at.ensures c.loop-j.invariant.filled);
      refusals = (ap (λ a. a.refusals) c.set-in-loop-j.ensures.only) ∙ c.loop-j.invariant.refusals;
      memory = takes-rests 1 c.args.arena.now c.loop-j.arena c.set-in-loop-j.new.self c.loop-j.invariant.memory
          (only-blocks c.loop-j.arena c.set-in-loop-j.new.self _ c.set-in-loop-j.ensures.only);
    }

pub returns-clause-made : goal.returns-clause-made
returns-clause-made c =
    let n = c.in_ok-block.block in
    let end : c.loop-j.j ≡ packed_suffix (length c.args.string.now) = omega (arith, c.loop-j-test.false, c.loop-j.auto.j-end, c.packed_words-words.ensures) in
    filled-suffix c.args.arena.now.blocks c.loop-j.arena.blocks n c.of.result c.args.string.now c.args.value c.ranges.value.fits c.requires.string
    (ap number_of c.of.ensures ∙ number-named n (subst (λ m. m < 4294967296) c.number-number.ensures c.number-number.type_inv))
    (ap is_suffix c.of.ensures ∙ suffix-named n (subst (λ m. m < 4294967296) c.number-number.ensures c.number-number.type_inv)) c.loop-j.invariant.frame
    (live-words c.loop-j.arena.blocks n (omega (arith, c.loop-j.invariant.wide)))
    (subst (λ m. length (words_of c.loop-j.arena.blocks n) ≡ room (2 + m)) c.packed_words-words.ensures c.loop-j.invariant.exact)
    (subst (λ j. IsFilled j (words_of c.loop-j.arena.blocks n) c.args.string.now c.args.value) end c.loop-j.invariant.filled)

pub returns-clause-refusals : goal.returns-clause-refusals
returns-clause-refusals c = c.loop-j.invariant.refusals

pub returns-clause-memory : goal.returns-clause-memory
returns-clause-memory c = c.loop-j.invariant.memory
