use Rattle.std.proofs.Common.{◌≡◌, ◌+◌, ◌<◌, ◌≤◌, get_or, length, ap, sym, ◌∙◌, subst, arith}
use Rattle.judy_arena.specs.Blocks.{words_of}
use Rattle.judy_arena.proofs.lemmas.RoomLaws.{room-covers}
use Rattle.judy_bytes.specs.Buckets.{bucket_key, packed_bucket}
use Rattle.judy_bytes.proofs.Buckets.{Agree, bucket-long, agree-none, agree-more, other-size, other-word, all-words, bytes-of}
use Rattle.judy_bytes.proofs.bucket.has_key.Goals as goal

pub words-words-requires : goal.words-words-requires
words-words-requires c = omega (arith, bucket-long room-covers c.args.arena.now.blocks c.args.bucket c.requires.sound)

pub bounds-words-2 : goal.bounds-words-2
bounds-words-2 c = let e = ap length c.words-words.ensures in omega (arith, e, bucket-long room-covers c.args.arena.now.blocks c.args.bucket c.requires.sound)

pub bounds-words-j : goal.bounds-words-j
bounds-words-j c =
    let e = ap length c.words-words.ensures in
    let s = c.requires.sound.key in
    let size : length (bucket_key (words_of c.args.arena.now.blocks c.args.bucket)) ≡ length c.args.key.now = sym s.size
    ∙ ap (λ ws. get_or ws 2 0) (sym c.words-words.ensures) ∙ c.if-words-key.false in
    let long = subst (λ m. 3 + packed_bucket m ≤ length (words_of c.args.arena.now.blocks c.args.bucket)) size
    (bucket-long room-covers c.args.arena.now.blocks c.args.bucket c.requires.sound) in
    omega (arith, e, long, c.loop-j-test.true, c.packed_words-j-end.ensures)

pub returns-then-words-key-clause-no : goal.returns-then-words-key-clause-no
returns-then-words-key-clause-no c = λ _. other-size (words_of c.args.arena.now.blocks c.args.bucket)
    (bucket_key (words_of c.args.arena.now.blocks c.args.bucket)) c.requires.sound.key c.args.key.now
    (λ e. c.if-words-key.true (ap (λ ws. get_or ws 2 0) c.words-words.ensures ∙ e))

pub returns-then-words-j-clause-no : goal.returns-then-words-j-clause-no
returns-then-words-j-clause-no c = λ _. other-word (words_of c.args.arena.now.blocks c.args.bucket)
    (bucket_key (words_of c.args.arena.now.blocks c.args.bucket)) c.requires.sound.key c.args.key.now
    c.loop-j.j (subst (λ m. c.loop-j.j < m) c.packed_words-j-end.ensures c.loop-j-test.true)
    (λ e. c.if-words-j.true (ap (λ ws. get_or ws (3 + c.loop-j.j) 0) c.words-words.ensures ∙ e ∙ sym c.word_at.ensures))

pub loop-j-init : goal.loop-j-init
loop-j-init c = agree-none c.words-words.result.now c.args.key.now

pub loop-j-preserved : goal.loop-j-preserved
loop-j-preserved c = agree-more c.loop-j.j c.words-words.result.now c.args.key.now (c.if-words-j.false ∙ c.word_at.ensures) c.loop-j.invariant

pub returns-clause-yes : goal.returns-clause-yes
returns-clause-yes c = λ _.
    let end : c.loop-j.j ≡ packed_bucket (length c.args.key.now) = omega (arith, c.loop-j-test.false, c.loop-j.auto.j-end, c.packed_words-j-end.ensures) in
    all-words (words_of c.args.arena.now.blocks c.args.bucket) (bucket_key (words_of c.args.arena.now.blocks c.args.bucket))
    c.requires.sound.key c.args.key.now (bytes-of c.args.key.now (λ i. let f = c.type_inv.key i in omega (arith, f)))
    (bucket-long room-covers c.args.arena.now.blocks c.args.bucket c.requires.sound)
    (ap (λ ws. get_or ws 2 0) (sym c.words-words.ensures) ∙ c.if-words-key.false)
    (subst (λ ws. Agree (packed_bucket (length c.args.key.now)) ws c.args.key.now) c.words-words.ensures
    (subst (λ j. Agree j c.words-words.result.now c.args.key.now) end c.loop-j.invariant))
