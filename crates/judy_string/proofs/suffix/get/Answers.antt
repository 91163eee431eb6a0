use Rattle.std.proofs.Common.{◌≡◌, ◌+◌, ◌*◌, ◌<◌, Some, length, take, get_or, ◌∙◌, ap, sym, refl, subst, arith}
use Rattle.judy_arena.specs.Blocks.{words_of}
use Rattle.judy_refs.specs.References.{number_of}
use Rattle.judy_string.specs.Suffixes.{suffix_string, suffix_words, suffix_size, packed_suffix}
use Rattle.judy_string.proofs.Suffixes.{suffix-some, suffix-place, other-size, other-word, same-word, all-words}
use Rattle.judy_string.proofs.suffix.get.Goals as goal

pub contents-words-requires-clause-live : goal.contents-words-requires-clause-live
contents-words-requires-clause-live c = let h = suffix-some c.requires.sound.0 c.args.arena.now.blocks c.args.reference c.requires.sound.1 in omega (arith, h)

pub bounds-words-0 : goal.bounds-words-0
bounds-words-0 c = let h = suffix-some c.requires.sound.0 c.args.arena.now.blocks c.args.reference c.requires.sound.1 in
    omega (arith, h, ap length c.contents-words.ensures)

pub bounds-words-1 : goal.bounds-words-1
bounds-words-1 c = let h = suffix-some c.requires.sound.0 c.args.arena.now.blocks c.args.reference c.requires.sound.1 in
    omega (arith, h, ap length c.contents-words.ensures)

pub bounds-words-j : goal.bounds-words-j
bounds-words-j c =
    let size : suffix_size (suffix_words c.args.arena.now.blocks c.args.reference) ≡ length c.args.string.now =
    ap (λ ws. get_or ws 1 0) (sym c.contents-words.ensures) ∙ c.if-words-string.false in
    let less : c.loop-j.j < packed_suffix (suffix_size (suffix_words c.args.arena.now.blocks c.args.reference)) =
    omega (arith, size, c.loop-j-test.true, c.loop-j.auto.j-end, c.packed_words-j-end.ensures) in
    let h = suffix-place c.requires.sound.0 c.args.arena.now.blocks c.args.reference c.loop-j.j c.requires.sound.1 less in
    omega (arith, h, ap length c.contents-words.ensures)

pub returns-then-words-string : goal.returns-then-words-string
returns-then-words-string c =
    sym (other-size c.requires.sound.0 c.args.arena.now.blocks c.args.reference (number_of c.args.reference) refl
    c.requires.sound.1 c.args.string.now c.requires.string
    (λ e. c.if-words-string.true (ap (λ ws. get_or ws 1 0) c.contents-words.ensures ∙ e)))

pub loop-j-init : goal.loop-j-init
loop-j-init c = refl

pub returns-then-words-j : goal.returns-then-words-j
returns-then-words-j c =
    let size : get_or (words_of c.args.arena.now.blocks (number_of c.args.reference)) 1 0 ≡ length c.args.string.now =
    ap (λ ws. get_or ws 1 0) (sym c.contents-words.ensures) ∙ c.if-words-string.false in
    sym (other-word c.requires.sound.0 c.args.arena.now.blocks c.args.reference (number_of c.args.reference) refl
    c.requires.sound.1 c.args.string.now c.requires.string size
    c.loop-j.j (subst (λ m. c.loop-j.j < m) c.packed_words-j-end.ensures c.loop-j-test.true)
    (λ e. c.if-words-j.true (ap (λ ws. get_or ws (2 + c.loop-j.j) 0) c.contents-words.ensures ∙ e ∙ sym c.word_at.ensures)))

pub loop-j-preserved : goal.loop-j-preserved
loop-j-preserved c =
    let size : get_or (words_of c.args.arena.now.blocks (number_of c.args.reference)) 1 0 ≡ length c.args.string.now =
    ap (λ ws. get_or ws 1 0) (sym c.contents-words.ensures) ∙ c.if-words-string.false in
    same-word c.requires.sound.0 c.args.arena.now.blocks c.args.reference (number_of c.args.reference) refl c.requires.sound.1
    c.args.string.now c.requires.string size
    c.loop-j.j (subst (λ m. c.loop-j.j < m) c.packed_words-j-end.ensures c.loop-j-test.true)
    (ap (λ ws. get_or ws (2 + c.loop-j.j) 0) (sym c.contents-words.ensures) ∙ c.if-words-j.false ∙ c.word_at.ensures)
    c.loop-j.invariant

pub returns : goal.returns
returns c =
    let size : get_or (words_of c.args.arena.now.blocks (number_of c.args.reference)) 1 0 ≡ length c.args.string.now =
    ap (λ ws. get_or ws 1 0) (sym c.contents-words.ensures) ∙ c.if-words-string.false in
    let end : c.loop-j.j ≡ packed_suffix (length c.args.string.now) = omega (arith, c.loop-j-test.false, c.loop-j.auto.j-end, c.packed_words-j-end.ensures) in
    ap (λ ws. Some (get_or ws 0 0)) c.contents-words.ensures
    ∙ sym (all-words c.requires.sound.0 c.args.arena.now.blocks c.args.reference (number_of c.args.reference) refl
    c.requires.sound.1 c.args.string.now c.requires.string size
    (subst (λ j. take (8 * j) (suffix_string (suffix_words c.args.arena.now.blocks c.args.reference)) ≡ take (8 * j) c.args.string.now) end c.loop-j.invariant))
