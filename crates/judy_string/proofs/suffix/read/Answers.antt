use Rattle.std.proofs.Common.{◌+◌, ◌*◌, ◌++◌, take, get_or, length, length-append, ◌∙◌, ap, sym, refl, subst, arith, append_assoc}
use Rattle.std.specs.Prelude.{slice_index_or}
use Rattle.judy_refs.specs.References.{number_of}
use Rattle.judy_packing.specs.Packing.{word_bytes}
use Rattle.judy_string.specs.Strings.{IsSpelt}
use Rattle.judy_string.specs.Suffixes.{suffix_string, suffix_words, suffix_size}
use Rattle.judy_string.proofs.Nests.{string-spelt}
use Rattle.judy_string.proofs.Spells.{take-most}
use Rattle.judy_string.proofs.Suffixes.{suffix-some, suffix-place, read-more}
use Rattle.judy_string.proofs.suffix.read.Goals as goal

pub contents-words-requires-clause-live : goal.contents-words-requires-clause-live
contents-words-requires-clause-live c = let h = suffix-some c.requires.sound.0 c.args.arena.now.blocks c.args.reference c.requires.sound.1 in omega (arith, h)

pub bounds-words-0 : goal.bounds-words-0
bounds-words-0 c = let h = suffix-some c.requires.sound.0 c.args.arena.now.blocks c.args.reference c.requires.sound.1 in
    omega (arith, h, ap length c.contents-words.ensures)

pub bounds-words-1 : goal.bounds-words-1
bounds-words-1 c = let h = suffix-some c.requires.sound.0 c.args.arena.now.blocks c.args.reference c.requires.sound.1 in
    omega (arith, h, ap length c.contents-words.ensures)

pub bounds-words-j : goal.bounds-words-j
bounds-words-j c =
    let e = ap suffix_size c.contents-words.ensures in
    let h = suffix-place c.requires.sound.0 c.args.arena.now.blocks c.args.reference c.loop-j.j c.requires.sound.1
    (omega (arith, e, c.loop-j-test.true, c.loop-j.auto.j-end, c.packed_words-j-end.ensures)) in
    omega (arith, h, ap length c.contents-words.ensures)

pub push_word-requires-clause-spelt : goal.push_word-requires-clause-spelt
push_word-requires-clause-spelt c =
    let e = ap suffix_size c.contents-words.ensures in
    let more = read-more c.requires.sound.0 c.args.arena.now.blocks c.args.reference (number_of c.args.reference) refl c.requires.sound.1
    c.loop-j.j (slice_index_or c.contents-words.result.now (2 + c.loop-j.j) 0)
    (omega (arith, e, c.loop-j-test.true, c.loop-j.auto.j-end, c.packed_words-j-end.ensures))
    (ap (λ ws. get_or ws (2 + c.loop-j.j) 0) c.contents-words.ensures) in
    subst IsSpelt (sym more.0) (string-spelt _ more.1)

pub push_word-requires-clause-fits : goal.push_word-requires-clause-fits
push_word-requires-clause-fits c =
    let e = ap suffix_size c.contents-words.ensures in
    let more = read-more c.requires.sound.0 c.args.arena.now.blocks c.args.reference (number_of c.args.reference) refl c.requires.sound.1
    c.loop-j.j (slice_index_or c.contents-words.result.now (2 + c.loop-j.j) 0)
    (omega (arith, e, c.loop-j-test.true, c.loop-j.auto.j-end, c.packed_words-j-end.ensures))
    (ap (λ ws. get_or ws (2 + c.loop-j.j) 0) c.contents-words.ensures) in
    let string = suffix_string (suffix_words c.args.arena.now.blocks c.args.reference) in
    let both = ap length more.2 ∙ length-append (take (8 * c.loop-j.j) string) (word_bytes (slice_index_or c.contents-words.result.now (2 + c.loop-j.j) 0)) in
    let size = ap length c.loop-j.invariant ∙ length-append c.args.buffer.now.items (take (8 * c.loop-j.j) string) in
    let few = take-most (8 * (c.loop-j.j + 1)) string in
    omega (arith, both, size, few, c.requires.fits)

pub loop-j-preserved : goal.loop-j-preserved
loop-j-preserved c =
    let e = ap suffix_size c.contents-words.ensures in
    let more = read-more c.requires.sound.0 c.args.arena.now.blocks c.args.reference (number_of c.args.reference) refl c.requires.sound.1
    c.loop-j.j (slice_index_or c.contents-words.result.now (2 + c.loop-j.j) 0)
    (omega (arith, e, c.loop-j-test.true, c.loop-j.auto.j-end, c.packed_words-j-end.ensures))
    (ap (λ ws. get_or ws (2 + c.loop-j.j) 0) c.contents-words.ensures) in
    let string = suffix_string (suffix_words c.args.arena.now.blocks c.args.reference) in
    let word = word_bytes (slice_index_or c.contents-words.result.now (2 + c.loop-j.j) 0) in
    c.push_word.ensures ∙ ap (λ l. l ++ word) c.loop-j.invariant
    ∙ append_assoc c.args.buffer.now.items (take (8 * c.loop-j.j) string) word
    ∙ ap (λ l. c.args.buffer.now.items ++ l) (sym more.2)
